-- Registers: what they hold, and that they keep their references.
use Rattle.std.proofs.Common.{◌≡◌, ◌⊎◌, ℕ, zero, suc, List, [], ◌∷◌, inl, inr, length, map, slice_set, slice_index_or, refl, ap, sym, subst, ⊎_elim}
use Rattle.std.specs.Prelude.{Contains, All}
use Rattle.std.proofs.lemmas.Bool.{cases_lt}
use Rattle.std.proofs.lemmas.List.{map-set, get_or_past}
use Rattle.std.proofs.lemmas.List.Elements.{All-set, All-weaker, All-get_or, All-contains, All-contains_itself}
use Rattle.pst_base.specs.declared.names.Name.{Name}
use Rattle.pst_program.specs.declared.meaning.Value.TheVariants.{Null as ANull}
use Rattle.pst_base.specs.declared.names.TrapKind.TheVariants.{Null as NullTrap}
use Rattle.pst_program.specs.Meaning.{World, Ending, Trapped, with_object}
use Rattle.pst_versions.specs.State.{State}
use Rattle.pst_machine_steps.specs.declared.register.Register.{Register}
use Rattle.pst_machine_steps.specs.declared.register.Register.TheVariants.{Number, Null, Reference}
use Rattle.pst_machine_steps.specs.View.{value_of}
use Rattle.pst_machine_steps.specs.Live.{IsLive, IsPlainRegister, KeptFrom}

-- what a register holds, by its value
pub value_held : {R : Type 0} (name : R → Name) (xs : List (Register R)) (i : ℕ) → value_of name (slice_index_or xs i Null) ≡ slice_index_or (map (value_of name) xs) i ANull
value_held name [] i = refl
value_held name (x ∷ xs) zero = refl
value_held name (x ∷ xs) (suc i) = value_held name xs i

pub values_set : {R : Type 0} (name : R → Name) (xs : List (Register R)) (i : ℕ) (v : Register R) → map (value_of name) (slice_set xs i v) ≡ slice_set (map (value_of name) xs) i (value_of name v)
values_set name xs i v = map-set (value_of name) xs i v

-- what is not a reference is no record
pub object_null : {R : Type 0} (name : R → Name) (v : Register R) (line : ℕ) (w : World) (go : Name → Ending) → ((r : R) → v ≡ Reference r → ⊥)
    → with_object (value_of name v) line w go ≡ Trapped NullTrap line w
object_null name (Number n) line w go none = refl
object_null name Null line w go none = refl
object_null name (Reference r) line w go none = absurd (none r refl)

-- a reference is a record
pub object_there : {R : Type 0} (name : R → Name) (v : Register R) (r : R) (line : ℕ) (w : World) (go : Name → Ending) → v ≡ Reference r → with_object (value_of name v) line w go ≡ go (name r)
object_there name v r line w go is = ap (λ v. with_object (value_of name v) line w go) is

-- what holds of each register and of null holds of each index
pub all_held : {R : Type 0} (P : Register R → Type 0) (xs : List (Register R)) (i : ℕ) → P Null → All P xs → P (slice_index_or xs i Null)
all_held P xs i none all = ⊎_elim (λ lt. All-get_or P xs i Null lt all) (λ le. subst P (sym (get_or_past xs i Null le)) none) (cases_lt i (length xs))

pub kept_same : {R : Type 0} (before : List (Register R)) → KeptFrom before before
kept_same before = All-weaker (Contains before) (λ v. IsPlainRegister v ⊎ Contains before v) (λ v h. inr h) before (All-contains_itself before)

pub kept_set : {R : Type 0} (before : List (Register R)) (i : ℕ) (v : Register R) → IsPlainRegister v → KeptFrom before (slice_set before i v)
kept_set before i v plain = All-set (λ v. IsPlainRegister v ⊎ Contains before v) before i v (inl plain) (kept_same before)

pub kept_copy : {R : Type 0} (before : List (Register R)) (i s : ℕ) → KeptFrom before (slice_set before i (slice_index_or before s Null))
kept_copy before i s =
    All-set (λ v. IsPlainRegister v ⊎ Contains before v) before i (slice_index_or before s Null)
    (all_held (λ v. IsPlainRegister v ⊎ Contains before v) before s (inl tt) (kept_same before)) (kept_same before)

module _ {P R : Type 0} where
  plain_live : (s : State P R) (at : P) (v : Register R) → IsPlainRegister v → IsLive s at v
  plain_live s at (Number n) plain = tt
  plain_live s at Null plain = tt
  plain_live s at (Reference r) plain = absurd plain

  -- references that were live are so where each stood in a register before
  pub live_kept : (s : State P R) (at : P) (before after : List (Register R)) → KeptFrom before after → All (IsLive s at) before → All (IsLive s at) after
  live_kept s at before after kept live =
      All-weaker (λ v. IsPlainRegister v ⊎ Contains before v) (IsLive s at) (λ v h. ⊎_elim (plain_live s at v) (All-contains (IsLive s at) before v live) h) after kept

  pub live_held : (s : State P R) (at : P) (xs : List (Register R)) (i : ℕ) → All (IsLive s at) xs → IsLive s at (slice_index_or xs i Null)
  live_held s at xs i live = all_held (IsLive s at) xs i tt live

  pub live_set : (s : State P R) (at : P) (xs : List (Register R)) (i : ℕ) (v : Register R) → IsLive s at v → All (IsLive s at) xs → All (IsLive s at) (slice_set xs i v)
  live_set s at xs i v here live = All-set (IsLive s at) xs i v here live

-- Look-ups in maps from names.
use Rattle.std.proofs.Common.{◌≡◌, ℕ, Bool, true, false, cond, List, [], ◌∷◌, ◌++◌, Option, Some, None, is_some, refl, sym, ap, subst, ◌∙◌, Bor, bytes_eq, length, suc}
use Rattle.std.specs.Option.{option_map}
use Rattle.std.specs.Map.{lookup}
use Rattle.indexmap.specs.IndexMap.{insert_entry}
use Rattle.pst_typing.specs.Names.{named, is_named}
use Rattle.pst_types_scope.specs.View.{entries_of}

-- one entry, and what the rest has
one : {V A : Type 0} (view : V → A) (b : Bool) (v : V) (rest : Option V) (seen : Option A) → seen ≡ option_map view rest → cond b (Some (view v)) seen ≡ option_map view (cond b (Some v) rest)
one view true v rest seen e = refl
one view false v rest seen e = e

-- a look-up by bytes in the entries of a map
pub named_entries : {V A : Type 0} (x : List ℕ) (view : V → A) (es : List (Bor (List ℕ) × V)) → named x (entries_of view es) ≡ option_map view (lookup (λ k. bytes_eq x k.now) es)
named_entries x view [] = refl
named_entries x view (e ∷ es) = one view (bytes_eq x e.0.now) e.1 (lookup (λ k. bytes_eq x k.now) es) (named x (entries_of view es)) (named_entries x view es)

some_mapped : {V A : Type 0} (view : V → A) (o : Option V) → is_some (option_map view o) ≡ is_some o
some_mapped view None = refl
some_mapped view (Some v) = refl

pub is_named_entries : {V A : Type 0} (x : List ℕ) (view : V → A) (es : List (Bor (List ℕ) × V)) → is_named x (entries_of view es) ≡ is_some (lookup (λ k. bytes_eq x k.now) es)
is_named_entries x view es = ap is_some (named_entries x view es) ∙ some_mapped view _

pub entries_more : {V A : Type 0} (view : V → A) (es fs : List (Bor (List ℕ) × V)) → entries_of view (es ++ fs) ≡ entries_of view es ++ entries_of view fs
entries_more view [] fs = refl
entries_more view (e ∷ es) fs = ap (λ l. (e.0.now, view e.1) ∷ l) (entries_more view es fs)

-- where the first of two keys differs, the rest decides
no_first : {A : Type 0} (b : Bool) (a : A) (rest : Option A) → is_some (cond b (Some a) rest) ≡ false → (b ≡ false) × (is_some rest ≡ false)
no_first true a rest h = cc
no_first false a rest h = (refl, h)

-- a key that is new goes last
pub inserted : {V A : Type 0} (view : V → A) (es : List (Bor (List ℕ) × V)) (k : Bor (List ℕ)) (v : V) → is_named k.now (entries_of view es) ≡ false →
    entries_of view (insert_entry (λ a b. bytes_eq a.now b.now) es k v) ≡ entries_of view es ++ (k.now, view v) ∷ []
inserted view [] k v h = refl
inserted view (e ∷ es) k v h =
    let p = no_first (bytes_eq k.now e.0.now) (view e.1) (named k.now (entries_of view es)) h in
    subst (λ b. entries_of view (cond b ((e.0, v) ∷ es) (e ∷ insert_entry (λ a b. bytes_eq a.now b.now) es k v)) ≡ (e.0.now, view e.1) ∷ (entries_of view es ++ (k.now, view v) ∷ [])) (sym p.0)
    (ap (λ l. (e.0.now, view e.1) ∷ l) (inserted view es k v p.1))

pub length_entries : {V A : Type 0} (view : V → A) (es : List (Bor (List ℕ) × V)) → length (entries_of view es) ≡ length es
length_entries view [] = refl
length_entries view (e ∷ es) = ap suc (length_entries view es)

pub ruleset look_ups = (named_entries, is_named_entries, entries_more, inserted, length_entries)

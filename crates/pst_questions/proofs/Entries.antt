-- Numberings as lists of names.
use Rattle.std.proofs.Common.{◌≡◌, ℕ, ◌+◌, ◌≤◌, Bool, true, false, cond, not, ◌||◌, List, [], ◌∷◌, ◌++◌, map, length, Option, Some, None, refl, sym, ap, ◌∙◌, subst, arith, zero, suc}
use Rattle.std.specs.Prelude.{◌==◌, ◌&&◌, nat_lt, slice_get}
use Rattle.std.specs.List.{position, position_or_len, list_any, All, AllByRecursion}
use Rattle.std.specs.Option.{option_map}
use Rattle.std.proofs.lemmas.Option.{slice_get-map, slice_get_within, get_or_from_slice_get}
use Rattle.std.proofs.lemmas.List.Elements.{All-from_recursion, recursion_from_All}
use borrow.Author.Tests.{ltb-false}
use Rattle.indexmap.specs.IndexMap.{insert_entry}
use Rattle.indexmap.specs.IndexSet.{insert_key}
use Rattle.pst_base.specs.declared.names.Name.{Name}
use Rattle.pst_base.specs.Name.{same_name}
use Rattle.pst_base.proofs.NameLemmas.{same_name-true}
use Rattle.pst_versions.specs.State.{State}
use Rattle.pst_questions.specs.Dump.{number_in}
use Rattle.pst_questions.specs.Walk.{named, IsEntry}

-- two keys that a map does not tell apart
abbrev pub same_key : ℕ × ℕ → ℕ × ℕ → Bool
same_key a b = (a.0 == b.0) && (a.1 == b.1)

-- what an entry that a map gains does to the names
with_key : (b c : Bool) (n : Name) (names rest : List Name) → rest ≡ cond c names (names ++ n ∷ []) → (m : Name) → cond b (m ∷ names) (m ∷ rest) ≡ cond (b || c) (m ∷ names) (m ∷ (names ++ n ∷ []))
with_key true c n names rest e m = refl
with_key false true n names rest e m = ap (λ l. m ∷ l) e
with_key false false n names rest e m = ap (λ l. m ∷ l) e

module _ {R : Type 0} where
  abbrev pub shown : List ((ℕ × ℕ) × R) → List (Name × R)
  shown es = map (λ e. (named e.0, e.1)) es

  shown_cond : (b : Bool) (es fs : List ((ℕ × ℕ) × R)) → shown (cond b es fs) ≡ cond b (shown es) (shown fs)
  shown_cond true es fs = refl
  shown_cond false es fs = refl

  -- an entry that a map gains
  pub shown-insert_entry : (es : List ((ℕ × ℕ) × R)) (k : ℕ × ℕ) (r : R) → shown (insert_entry same_key es k r) ≡ insert_entry same_name (shown es) (named k) r
  shown-insert_entry [] k r = refl
  shown-insert_entry (e ∷ es) k r = shown_cond (same_key k e.0) ((e.0, r) ∷ es) (e ∷ insert_entry same_key es k r)
      ∙ ap (λ l. cond (same_key k e.0) ((named e.0, r) ∷ shown es) ((named e.0, e.1) ∷ l)) (shown-insert_entry es k r)

  names_cond : (b : Bool) (es fs : List (Name × R)) → map (λ e. e.0) (cond b es fs) ≡ cond b (map (λ e. e.0) es) (map (λ e. e.0) fs)
  names_cond true es fs = refl
  names_cond false es fs = refl

  pub names-insert_entry : (es : List (Name × R)) (n : Name) (r : R) → map (λ e. e.0) (insert_entry same_name es n r) ≡ insert_key same_name (map (λ e. e.0) es) n
  names-insert_entry [] n r = refl
  names-insert_entry (e ∷ es) n r = names_cond (same_name n e.0) ((e.0, r) ∷ es) (e ∷ insert_entry same_name es n r)
      ∙ with_key (same_name n e.0) (list_any (same_name n) (map (λ e. e.0) es)) n (map (λ e. e.0) es) (map (λ e. e.0) (insert_entry same_name es n r)) (names-insert_entry es n r) e.0

  module _ {P : Type 0} (s : State P R) (at : P) where
    entered_at : (es : List (Name × R)) (n : Name) (r : R) → IsEntry s at (n, r) → AllByRecursion (IsEntry s at) es → AllByRecursion (IsEntry s at) (insert_entry same_name es n r)
    entered_at [] n r new all = (new, tt)
    entered_at (e ∷ es) n r new all =
        elim (same_name n e.0) as (λ b. same_name n e.0 ≡ b → AllByRecursion (IsEntry s at) (cond b ((e.0, r) ∷ es) (e ∷ insert_entry same_name es n r))) [
          | true ↦ λ same. (subst (λ (m : Name). IsEntry s at (m, r)) (same_name-true n e.0 same) new, all.1)
          | false ↦ λ apart. (all.0, entered_at es n r new all.1)
        ] refl

    -- what is noted is one more entry
    pub AreEntries-noted : (es : List (Name × R)) (n : Name) (r : R) → IsEntry s at (n, r) → All (IsEntry s at) es → All (IsEntry s at) (insert_entry same_name es n r)
    AreEntries-noted es n r new all = All-from_recursion (IsEntry s at) (insert_entry same_name es n r) (entered_at es n r new (recursion_from_All (IsEntry s at) es all))

  -- a name's place among the keys
  pub place_of : (es : List ((ℕ × ℕ) × R)) (k : ℕ × ℕ) → number_in (map (λ e. e.0) (shown es)) (named k) ≡ position_or_len (same_key k) (map (λ e. e.0) es)
  place_of [] k = refl
  place_of (e ∷ es) k = ap (λ n. cond (not (same_key k e.0)) (1 + n) 0) (place_of es k)

pub position_le : {X : Type 0} (p : X → Bool) (xs : List X) → position_or_len p xs ≤ length xs
position_le p [] = omega arith
position_le p (x ∷ xs) = elim (p x) as (λ b. cond (not b) (1 + position_or_len p xs) 0 ≤ suc (length xs)) [ true ↦ omega arith | false ↦ (let h = position_le p xs in omega arith) ]

-- the place that a look-up gives, or the length
pub position_some : {X : Type 0} (p : X → Bool) (xs : List X) (i : ℕ) → Some i ≡ position p xs → i ≡ position_or_len p xs
position_some p xs i e = elim (nat_lt (position_or_len p xs) (length xs)) as
    (λ b. Some i ≡ cond b (Some (position_or_len p xs)) None → i ≡ position_or_len p xs) [ true ↦ λ h. cc | false ↦ λ h. absurd (cc) ] e

pub position_none : {X : Type 0} (p : X → Bool) (xs : List X) → None ≡ position p xs → length xs ≡ position_or_len p xs
position_none p xs e = elim (nat_lt (position_or_len p xs) (length xs)) as
    (λ b. nat_lt (position_or_len p xs) (length xs) ≡ b → None ≡ cond b (Some (position_or_len p xs)) None → length xs ≡ position_or_len p xs) [
      | true ↦ λ below h. absurd (cc)
      | false ↦ λ past h. (let most = position_le p xs in let least = ltb-false (position_or_len p xs) (length xs) past in omega arith)
    ] refl e

-- ---- the entry with a number

module _ {P R : Type 0} where
  -- a reference that is live and whose record has this number
  pub record IsNoted (s : State P R) (at : P) (es : List (Name × R)) (i : ℕ) (r : R) : Type 0 where
    pub live : s.live at r
    pub listed : slice_get (map (λ e. e.0) es) i ≡ Some (s.name r)

  noted_by : (s : State P R) (at : P) (es : List (Name × R)) (i : ℕ) (r : R) (o : Option (Name × R)) → All (IsEntry s at) es → slice_get es i ≡ o
      → option_map (λ e. e.1) o ≡ Some r → IsNoted s at es i r
  noted_by s at es i r None all is e = absurd (cc)
  noted_by s at es i r (Some entry) all is e =
      let same : entry.1 ≡ r = cc in
      let here : IsEntry s at entry = subst (IsEntry s at) (get_or_from_slice_get es i entry entry is) (all i entry (slice_get_within es i entry is)) in
      record {
        live = subst (s.live at) same here.live;
        listed = slice_get-map (λ (e : Name × R). e.0) es i ∙ ap (option_map (λ (e : Name × R). e.0)) is ∙ ap Some (sym here.name ∙ ap s.name same);
      }

  pub noted_at : (s : State P R) (at : P) (es : List (Name × R)) (i : ℕ) (r : R) → All (IsEntry s at) es → option_map (λ e. e.1) (slice_get es i) ≡ Some r → IsNoted s at es i r
  noted_at s at es i r all e = noted_by s at es i r (slice_get es i) all refl e

module _ {R : Type 0} where
  -- the reference at a place, among the entries
  pub reference_at : (es : List ((ℕ × ℕ) × R)) (i : ℕ) (r : R) → slice_get (map (λ e. e.1) es) i ≡ Some r → option_map (λ e. e.1) (slice_get (shown es) i) ≡ Some r
  reference_at [] i r e = absurd (cc)
  reference_at (x ∷ es) zero r e = e
  reference_at (x ∷ es) (suc i) r e = reference_at es i r e

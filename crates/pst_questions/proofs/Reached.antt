-- What is known of the records that a numbering lists.
use Rattle.std.proofs.Common.{◌≡◌, ℕ, ◌+◌, ◌-◌, ◌<◌, zero, suc, true, false, cond, not, List, [], ◌∷◌, ◌++◌, length, get_or, Option, Some, None, refl, sym, ap, ◌∙◌, subst, arith, inl, inr}
use Rattle.std.specs.Prelude.{slice_get}
use Rattle.std.specs.FinMap.{get}
use Rattle.std.proofs.lemmas.Option.{slice_get_within, get_or_from_slice_get}
use Rattle.std.proofs.lemmas.Bool.{cases_lt}
use Rattle.pst_base.specs.declared.names.Name.{Name}
use Rattle.pst_base.specs.declared.shape.TypeShape.{TypeShape}
use Rattle.pst_base.specs.Name.{root_name, same_name}
use Rattle.pst_base.specs.Shape.{target_at}
use Rattle.pst_base.specs.Heap.{Rec, Heap, IsWellFormed}
use Rattle.pst_base.proofs.NameLemmas.{same_name-true, same_name-same}
use Rattle.pst_base.proofs.Fields.{found}
use Rattle.pst_questions.specs.Paths.{Path, target_from, target_in, led_from, Leads, IsBefore, IsLeast, AreNumbered}
use Rattle.pst_questions.specs.Dump.{number_in}
use Rattle.pst_questions.specs.Renaming.{IsReached}
use Rattle.pst_questions.proofs.Order.{IsBefore-itself}
use Rattle.pst_questions.proofs.Lists.{AllZip-length, AllZip-at, place}
use Rattle.pst_questions.proofs.Walked.{target_past, no_target, led_from-none, Leads-extended}
use Rattle.pst_questions.proofs.Numbered.{IsLeast-same}

-- ---- places in a numbering

-- a listed record is reached
pub reached_listed : (h : Heap) (names : List Name) (i : ℕ) (n : Name) → AreNumbered h names → slice_get names i ≡ Some n → IsReached h n
reached_listed h names i n a at =
    let within = slice_get_within names i n at in
    let least = AllZip-at (IsLeast h) names a.paths i n [] a.least within in
    let same = get_or_from_slice_get names i n n at in
    (get_or a.paths i [], subst (λ (m : Name). Leads h (get_or a.paths i []) m) same least.leads)

listed_later : (m : Name) (names : List Name) (n : Name) (i : ℕ)
    → ((j : ℕ) → slice_get names j ≡ Some n → slice_get names (number_in names n) ≡ Some n) → slice_get (m ∷ names) i ≡ Some n → same_name n m ≡ false
    → slice_get names (number_in names n) ≡ Some n
listed_later m names n zero rest at apart = absurd (let same : m ≡ n = cc in let yes : same_name n m ≡ true = subst (λ (x : Name). same_name n x ≡ true) (sym same) (same_name-same n) in cc)
listed_later m names n (suc i) rest at apart = rest i at

-- the first place of a listed record is its number
pub number_listed : (names : List Name) (n : Name) (i : ℕ) → slice_get names i ≡ Some n → slice_get names (number_in names n) ≡ Some n
number_listed [] n i at = absurd (cc)
number_listed (m ∷ names) n i at = elim (same_name n m) as (λ b. same_name n m ≡ b → slice_get (m ∷ names) (cond (not b) (1 + number_in names n) 0) ≡ Some n) [
  | true ↦ λ same. ap Some (sym (same_name-true n m same))
  | false ↦ λ apart. subst (λ k. slice_get (m ∷ names) k ≡ Some n) (let e : suc (number_in names n) ≡ 1 + number_in names n = omega arith in e)
      (listed_later m names n i (number_listed names n) at apart)
] refl

pub number_reached : (h : Heap) (names : List Name) (n : Name) → AreNumbered h names → IsReached h n → slice_get names (number_in names n) ≡ Some n
number_reached h names n a r = let p = place names n (a.reached n r.0 r.1) in number_listed names n p.index p.at

two_places : (h : Heap) (names : List Name) (i j : ℕ) (n : Name) → AreNumbered h names → i < j → slice_get names i ≡ Some n → slice_get names j ≡ Some n → ⊥
two_places h names i j n a less at_i at_j =
    let short = AllZip-length (IsLeast h) names a.paths a.least in
    let in_i = slice_get_within names i n at_i in
    let in_j = slice_get_within names j n at_j in
    let least_i : IsLeast h n (get_or a.paths i []) = subst (λ (m : Name). IsLeast h m (get_or a.paths i [])) (get_or_from_slice_get names i n n at_i)
    (AllZip-at (IsLeast h) names a.paths i n [] a.least in_i) in
    let least_j : IsLeast h n (get_or a.paths j []) = subst (λ (m : Name). IsLeast h m (get_or a.paths j [])) (get_or_from_slice_get names j n n at_j)
    (AllZip-at (IsLeast h) names a.paths j n [] a.least in_j) in
    let same = IsLeast-same h n (get_or a.paths i []) (get_or a.paths j []) least_i least_j in
    IsBefore-itself (get_or a.paths j []) (subst (λ (p : Path). IsBefore p (get_or a.paths j [])) same (a.rising i j [] less (omega arith)))

-- a record is listed once
pub one_place : (h : Heap) (names : List Name) (i j : ℕ) (n : Name) → AreNumbered h names → slice_get names i ≡ Some n → slice_get names j ≡ Some n → i ≡ j
one_place h names i j n a at_i at_j = elim (cases_lt i j) [
  | inl less ↦ absurd (two_places h names i j n a less at_i at_j)
  | inr le ↦ elim (cases_lt j i) [ inl more ↦ absurd (two_places h names j i n a more at_j at_i) | inr ge ↦ omega arith ]
]

-- no path comes before that of the root record
none_before : (p : Path) → ¬ (IsBefore p [])
none_before [] b = IsBefore-itself [] b
none_before (s ∷ p) b = elim b [ inl less ↦ omega arith | inr e ↦ (let same = e.0 in omega arith) ]

-- the root record is the first one
pub root_first : (h : Heap) (names : List Name) → AreNumbered h names → slice_get names 0 ≡ Some root_name
root_first h names a =
    let p = place names root_name (a.reached root_name [] refl) in
    let within = slice_get_within names p.index root_name p.at in
    let short = AllZip-length (IsLeast h) names a.paths a.least in
    elim (cases_lt 0 p.index) [
      | inl later ↦ absurd (
          let least : IsLeast h root_name (get_or a.paths p.index []) =
          subst (λ (m : Name). IsLeast h m (get_or a.paths p.index [])) (get_or_from_slice_get names p.index root_name root_name p.at)
          (AllZip-at (IsLeast h) names a.paths p.index root_name [] a.least within) in
          let root : get_or a.paths p.index [] ≡ [] = only_root (get_or a.paths p.index []) least in
          none_before (get_or a.paths 0 []) (subst (IsBefore (get_or a.paths 0 [])) root (a.rising 0 p.index [] later (omega arith))))
      | inr first ↦ subst (λ (k : ℕ). slice_get names k ≡ Some root_name) (let e : p.index ≡ 0 = omega arith in e) p.at
    ]
  where
    only_root : (path : Path) → IsLeast h root_name path → path ≡ []
    only_root [] least = refl
    only_root (s ∷ path) least = absurd (least.least [] refl (inl (omega arith)))

-- ---- targets

-- what a record that is reached holds is reached
pub reached_next : (h : Heap) (n m : Name) (slot : ℕ) → IsReached h n → target_in h n slot ≡ Some m → IsReached h m
reached_next h n m slot r t = (r.0 ++ slot ∷ [], Leads-extended h r.0 slot n m r.1 t)

pub reached_pointer : (h : Heap) (n m : Name) (r : Rec) (k : ℕ) → IsReached h n → get h n ≡ Some r → get_or r.pointers k None ≡ Some m → IsReached h m
reached_pointer h n m r k reached at holds =
    reached_next h n m (length r.values + k) reached
    (ap (target_from (length r.values + k)) at ∙ target_past (length r.values + k) (Some r) (omega arith)
    ∙ ap (λ j. get_or r.pointers j None) (let e : length r.values + k - length r.values ≡ k = omega arith in e) ∙ holds)

-- ---- in a well-formed heap

pub record HasRecord (h : Heap) (n : Name) : Type 0 where
  pub rec : Rec
  pub at : get h n ≡ Some rec

typed_target : (shape : List TypeShape) (h : Heap) (n m : Name) (slot : ℕ) (r : Rec) → IsWellFormed shape h → get h n ≡ Some r → target_from slot (Some r) ≡ Some m → HasRecord h m
typed_target shape h n m slot r w at t = elim (cases_lt slot (length r.values)) [
  | inl less ↦ absurd (none_there less)
  | inr past ↦
      let f = found h m (target_at shape r.ty (slot - length r.values)) (w.targets n r at (slot - length r.values) m (sym (target_past slot (Some r) past) ∙ t)) in
      record { rec = f.rec; at = f.at }
]
  where
    none_there : slot < length r.values → ⊥
    none_there less = let none = no_target slot (Some r) less in cc

found_from : (shape : List TypeShape) (h : Heap) → IsWellFormed shape h → (path : Path) (n m : Name) → HasRecord h n → led_from h (Some n) path ≡ Some m → HasRecord h m
found_from shape h w [] n m f led = subst (HasRecord h) (let e : n ≡ m = cc in e) f
found_from shape h w (slot ∷ path) n m f led = elim (target_in h n slot) as (λ (o : Option Name). target_in h n slot ≡ o → led_from h o path ≡ Some m → HasRecord h m) [
  | None ↦ λ is rest. absurd (let none = led_from-none h path in cc)
  | Some k ↦ λ is rest. found_from shape h w path k m (typed_target shape h n k slot f.rec w f.at (sym (ap (target_from slot) f.at) ∙ is)) rest
] refl led

-- a record that is reached is there
pub reached_found : (shape : List TypeShape) (h : Heap) (n : Name) → IsWellFormed shape h → IsReached h n → HasRecord h n
reached_found shape h n w r = let f = found h root_name _ w.root in found_from shape h w r.0 root_name n (record { rec = f.rec; at = f.at }) r.1

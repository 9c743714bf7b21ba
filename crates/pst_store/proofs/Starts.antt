-- A store as started.
use Rattle.std.proofs.Common.{◌≡◌, ◌≢◌, ℕ, suc, ◌<◌, List, [], ◌∷◌, length, Some, refl, sym, ap, ◌∙◌, subst, arith}
use Rattle.std.specs.Prelude.{◌==◌, slice_get, insert, true, false, zero}
use Rattle.std.proofs.lemmas.Bool.{eq-eqb, eqb-true}
use Rattle.pst_base.specs.declared.shape.TypeShape.{TypeShape}
use Rattle.pst_base.specs.Name.{root_name}
use Rattle.pst_base.specs.Shape.{IsValid, root_type}
use Rattle.pst_base.specs.Heap.{initial_heap}
use Rattle.pst_versions.specs.declared.rows.VersionRow.{VersionRow}
use Rattle.pst_versions.specs.Rows.{first_row}
use Rattle.pst_order.specs.Places.{IsIn, IsInsertedAfter, rank}
use Rattle.pst_store_meaning.specs.declared.place.Place.{Place}
use Rattle.pst_store_meaning.specs.declared.place.Fork.{Fork}
use Rattle.pst_store_meaning.specs.Store.{Node, Noted, Stored, arena, IsStore, IsRested, state_of}
use Rattle.pst_store_meaning.specs.Steps.{IsNewNode, started}
use Rattle.pst_store_meaning.proofs.Starting.{none_there, start_law}
use Rattle.pst_store.specs.Calls.{IsKept, IsStarted}

-- a list of one place
one_is : (qs : List ℕ) (p : ℕ) → length qs ≡ 1 → IsIn qs p → qs ≡ p ∷ []
one_is [] p l i = absurd (omega arith)
one_is (x ∷ []) p l i = elim (x == p) as (λ b. (x == p) ≡ b → x ∷ [] ≡ p ∷ []) [
  | true ↦ λ e. ap (λ x. x ∷ []) (eqb-true x p e)
  | false ↦ λ e. absurd (let there : suc 0 < 1 = rw e at i.there in omega arith)
] refl
one_is (x ∷ y ∷ ys) p l i = absurd (omega arith)

module _ (shape : List TypeShape) (one places : List ℕ) (start : Place) (nodes : List Node) (noted : Noted) (valid : IsValid shape) (single : length one ≡ 1) (first : IsIn one start.begin.0)
    (new : IsInsertedAfter one places start.begin.0 start.end.0) (root : (n : Node) × (nodes ≡ n ∷ []) × IsNewNode shape n root_name root_type start)
    (fresh_noted : noted ≡ record { queue = []; roots = 0 ∷ []; seen = 1 }) where
  is_one : one ≡ start.begin.0 ∷ []
  is_one = one_is one start.begin.0 single first

  places_is : places ≡ start.begin.0 ∷ start.end.0 ∷ []
  places_is = new.list ∙ ap (λ qs. insert qs (suc (rank qs start.begin.0)) start.end.0) is_one ∙ (rw (eq-eqb start.begin.0 start.begin.0 refl) refl)

  apart : start.begin.0 ≢ start.end.0
  apart e =
      let f : rank (start.begin.0 ∷ []) start.end.0 ≡ 1 = subst (λ (qs : List ℕ). rank qs start.end.0 ≡ length qs) is_one new.fresh in
      let z : rank (start.begin.0 ∷ []) start.end.0 ≡ 0 = rw (eq-eqb start.begin.0 start.end.0 e) refl in
      absurd (omega arith)

  whole : IsStore (started shape start root.0) × IsRested (started shape start root.0) × ((state_of (started shape start root.0)).heap start ≡ initial_heap shape)
  whole = start_law shape start root.0 valid apart root.2

  abbrev made : List ℕ → List Node → Noted → Stored
  made ps ns qs = record {
    shape = shape;
    places = ps;
    nodes = ns;
    noted = qs;
    start = start;
    versions = first_row start ∷ [];
    forks = [];
    calls = 0;
    relics = [];
    spent = 0;
    counts = record { records = 1; pointer_writes = 0; value_writes = 0 };
  }

  same : made places nodes noted ≡ started shape start root.0
  same = λ i. made (places_is i) (root.1 i) (fresh_noted i)

  kept : IsKept (started shape start root.0)
  kept = record {
    store = whole.0;
    waiting = record { waits = λ i o. absurd (let small = whole.1.small i o.node o.there in omega (arith, o.over)); over = λ i c. absurd (omega (arith, c.1)) };
    held = record {
      first = refl;
      there = λ k i e. one_held k i e;
      all = λ i l n. (0, omega arith, (let z : i ≡ 0 = omega arith in sym z));
      rising = λ j k l m. absurd (omega arith);
      seen = omega arith;
    };
    counted = record { records = omega arith; pointer_writes = omega arith; value_writes = omega arith };
  }
    where
      one_held : (k i : ℕ) → slice_get (0 ∷ []) k ≡ Some i → (i < 1) × ((arena (started shape start root.0)).name i ≡ root_name)
      one_held zero i e = let z : 0 ≡ i = cc in (omega arith, subst (λ (i : ℕ). (arena (started shape start root.0)).name i ≡ root_name) z root.2.name)
      one_held (suc k) i e = absurd (none_there k i e)

  pub start_kept : (shape' : List TypeShape) (versions : List (VersionRow Place)) (forks : List Fork) (relics : List Place) → shape' ≡ shape
      → versions ≡ first_row start ∷ [] → forks ≡ [] → relics ≡ []
      → IsKept (record (made places nodes noted) { shape = shape'; versions = versions; forks = forks; relics = relics })
  start_kept shape' versions forks relics sh v f x = subst (λ (sp : List TypeShape). IsKept
      (record (made places nodes noted) { shape = sp; versions = versions; forks = forks; relics = relics })) (sym sh)
      (subst (λ (vs : List (VersionRow Place)). IsKept (record (made places nodes noted) { versions = vs; forks = forks; relics = relics })) (sym v)
      (subst (λ (fs : List Fork). IsKept (record (made places nodes noted) { forks = fs; relics = relics })) (sym f)
      (subst (λ (ps : List Place). IsKept (record (made places nodes noted) { relics = ps })) (sym x) (subst IsKept (sym same) kept))))

  pub start_done : (shape' : List TypeShape) (versions : List (VersionRow Place)) (forks : List Fork) (relics : List Place) → shape' ≡ shape
      → versions ≡ first_row start ∷ [] → forks ≡ [] → relics ≡ []
      → IsStarted shape (record (made places nodes noted) { shape = shape'; versions = versions; forks = forks; relics = relics })
  start_done shape' versions forks relics sh v f x = record {
    shape_is = sh;
    rested = subst (λ (sp : List TypeShape). IsRested (record (made places nodes noted) { shape = sp; versions = versions; forks = forks; relics = relics })) (sym sh)
        (subst (λ (vs : List (VersionRow Place)). IsRested (record (made places nodes noted) { versions = vs; forks = forks; relics = relics })) (sym v)
        (subst (λ (fs : List Fork). IsRested (record (made places nodes noted) { forks = fs; relics = relics })) (sym f)
        (subst (λ (ps : List Place). IsRested (record (made places nodes noted) { relics = ps })) (sym x) (subst IsRested (sym same) whole.1))));
    versions = v;
    forks = f;
    calls = refl;
    relics = x;
    spent = refl;
    counts = refl;
    heap = subst (λ (sp : List TypeShape). (state_of (record (made places nodes noted)
        { shape = sp; versions = versions; forks = forks; relics = relics })).heap start ≡ initial_heap shape) (sym sh)
        (ap (λ (s : Stored). (state_of s).heap start) same ∙ whole.2);
  }

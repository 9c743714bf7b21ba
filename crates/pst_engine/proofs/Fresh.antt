-- An engine without open runs, and a heap, stand for the opening that the heap has.
use Rattle.std.specs.FinMap.{empty, get, get-empty}
use Rattle.std.proofs.Common.{◌≡◌, ◌≢◌, true, false, cond, ℕ, ◌+◌, ◌<◌, ◌≤◌, List, [], ◌∷◌, map, drop, length, refl, ap, sym, ◌∙◌, subst, arith, slice_get, Option, Some, None}
use Rattle.std.specs.Option.{option_map}
use Rattle.std.proofs.lemmas.Option.{same_Some, slice_get_within, slice_get-map}
use Rattle.std.proofs.lemmas.List.{length-map}
use Rattle.pst_base.specs.declared.shape.TypeShape.{TypeShape}
use Rattle.pst_base.specs.declared.names.Name.{Name}
use Rattle.pst_base.specs.Name.{name_cmp, name_eq, root_name}
use Rattle.pst_base.specs.Shape.{root_type}
use Rattle.pst_base.proofs.NameLemmas.{name_eq-true}
use Rattle.pst_base.proofs.Degrees.{get-with_record}
use Rattle.pst_base.specs.Heap.{Rec, Heap, new_record, IsWellFormed, initial_heap}
use Rattle.pst_program.specs.Laws.{IsOlder}
use Rattle.pst_versions.specs.declared.rows.VersionRow.{VersionRow}
use Rattle.pst_versions.specs.State.{State, IsSound, IsVersioned}
use Rattle.pst_history.specs.declared.history.Descent.{Descent}
use Rattle.pst_history.specs.Meaning.{Meaning, IsLawful}
use Rattle.pst_history.specs.History.{begun, opening, counts_of}
use Rattle.pst_history.specs.Sound.{IsOpening, IsBefore}
use Rattle.pst_history.proofs.Heaps.{heap_of-given}
use Rattle.pst_history.proofs.Numbered.{at-number}
use Rattle.pst_history.proofs.Sound.{get_or-is, initial-before}
use Rattle.pst_history.proofs.Sums.{counts_plus-none}
use Rattle.pst_history.proofs.After.{begun-sound}
use Rattle.pst_machine.specs.declared.activation.Activation.{Activation}
use Rattle.pst_engine_runs.specs.Runs.{Runs}
use Rattle.pst_engine_runs.specs.Stands.{AreGivenForks, StandsFor}
use Rattle.pst_engine.specs.Stands.{IsOpeningHeap, opening_of, row_of, IsStartedHeap}
use Rattle.pst_engine.proofs.Commands.{get-drop}
use Rattle.pst_script.specs.declared.numerals.TheConstants.{MOST_CHARGES}
use Rattle.pst_history.specs.declared.history.TheConstants.{BUDGET, RUNS}

-- the root record is the only one in the heap that a script begins with
get-initial : (shape : List TypeShape) (q : Name) → q ≢ root_name → get (initial_heap shape) q ≡ None
get-initial shape q other =
    let r : Rec = new_record shape root_type in
    let at : get (initial_heap shape) q ≡ cond (name_eq q root_name) (Some r) None = get-with_record empty root_name r q ∙ ap (cond (name_eq q root_name) (Some r)) (get-empty name_cmp q) in
    at ∙ elim (name_eq q root_name) as (λ b. name_eq q root_name ≡ b → cond b (Some r) None ≡ None) [
      | true ↦ λ x. absurd (other (name_eq-true q root_name x))
      | false ↦ λ x. refl
    ] refl

-- an element of a mapped list
mapped : {X Y : Type 0} (f : X → Y) (xs : List X) (i : ℕ) (y : Y) → slice_get (map f xs) i ≡ Some y → (x : X) × (slice_get xs i ≡ Some x) × (f x ≡ y)
mapped f xs i y e = on (slice_get xs i) refl (sym (slice_get-map f xs i) ∙ e)
  where
    on : (o : Option _) → slice_get xs i ≡ o → option_map f o ≡ Some y → (x : _) × (slice_get xs i ≡ Some x) × (f x ≡ y)
    on None q p = absurd (cc)
    on (Some x) q p = (x, q, cc)

drop_one : {X : Type 0} (xs : List X) → 0 < length xs → length (drop 1 xs) + 1 ≡ length xs
drop_one [] less = absurd (omega arith)
drop_one (x ∷ xs) less = omega arith

module _ {P R : Type 0} (m : Meaning) (law : IsLawful m) (s : State P R) (sound : IsSound s) (known : IsVersioned s) (next budget : ℕ)
    (is : IsOpeningHeap m s next) (low : 0 < next) (high : next ≤ RUNS + 1) (some : 0 < budget) (most : budget ≤ MOST_CHARGES) where
  pub opening-is : IsOpening m (opening_of s next budget)
  opening-is =
      let all : length (map (λ (row : VersionRow P). s.heap row.place) s.versions) ≡ length s.versions = length-map s.versions (λ (row : VersionRow P). s.heap row.place) in
      let later : length (map row_of (drop 1 s.versions)) ≡ length (drop 1 s.versions) = length-map (drop 1 s.versions) row_of in
      let one = drop_one s.versions is.some in
      let few = known.few in
      let calls = is.calls in
      record {
        next = low;
        few = high;
        budget = (some, most);
        counts = is.counts;
        same = omega arith;
        few_versions = omega arith;
        parents = λ i v q.
            let w = mapped row_of (drop 1 s.versions) i v q in
            let there : slice_get s.versions (i + 1) ≡ Some w.0 = sym (get-drop s.versions i) ∙ w.1 in
            let Q : Descent → Type 0 = λ x. x.parent.0 ≤ i in
            subst Q w.2 (sound.parents i w.0 there);
        runs = λ i v q.
            let w = mapped row_of (drop 1 s.versions) i v q in
            let Q : Descent → Type 0 = λ x. (0 < x.run.0) × (x.run.0 < next) in
            subst Q w.2 (is.runs i w.0 (sym (get-drop s.versions i) ∙ w.1));
        apart = λ i j v w p q same.
            let a = mapped row_of (drop 1 s.versions) i v p in
            let b = mapped row_of (drop 1 s.versions) j w q in
            is.apart i j a.0 b.0 (sym (get-drop s.versions i) ∙ a.1) (sym (get-drop s.versions j) ∙ b.1) (ap (λ x. x.run) a.2 ∙ same ∙ ap (λ x. x.run) (sym b.2));
        heaps = λ k heap q.
            let w = mapped (λ (row : VersionRow P). s.heap row.place) s.versions k heap q in
            let has = (known.places k w.0 w.1).has in
            let Q : Heap → Type 0 = λ y. IsBefore m y next in
            subst Q w.2 (record {
              well_formed = (let S : List TypeShape → Type 0 = λ z. IsWellFormed z (s.heap w.0.place) in
                  subst S is.shape (sound.well_formed w.0.place has));
              older = is.older w.0.place has;
            });
      }

  counts-same : s.counts ≡ counts_of m (begun (opening_of s next budget))
  unfolding counts_of
  counts-same = sym (counts_plus-none s.counts)

  pub begins : {H : Type 0} (x : Runs P R (Activation H R P)) → StandsFor m x [] budget next s (begun (opening_of s next budget))
  begins {H = H} x =
      let all : length (map (λ (row : VersionRow P). s.heap row.place) s.versions) ≡ length s.versions = length-map s.versions (λ (row : VersionRow P). s.heap row.place) in
      record {
        sound = begun-sound m (opening_of s next budget) opening-is;
        same_budget = refl;
        same_next = omega arith;
        shape = is.shape;
        counts = counts-same;
        calls = is.calls;
        older = is.older;
        rooted = is.rooted;
        versions = record {
          many = omega arith;
          versions = λ k row q.
              let at : slice_get (map (λ (row : VersionRow P). s.heap row.place) s.versions) k ≡ Some (s.heap row.place) =
              slice_get-map (λ (row : VersionRow P). s.heap row.place) s.versions k ∙ ap (option_map (λ (row : VersionRow P). s.heap row.place)) q in
              record {
                has = (known.places k row q).has;
                heap = sym (heap_of-given m (begun (opening_of s next budget)) k
                    (slice_get_within (map (λ (row : VersionRow P). s.heap row.place) s.versions) k (s.heap row.place) at)
                    ∙ get_or-is (map (λ (row : VersionRow P). s.heap row.place) s.versions) k (initial_heap m.shape) (s.heap row.place) at);
              };
          given = λ i v row p q.
              let w = mapped row_of (drop 1 s.versions) i v p in
              let same : w.0 ≡ row = same_Some w.0 row (sym w.1 ∙ get-drop s.versions i ∙ q) in
              record { parent = ap (λ y. y.parent) (sym same) ∙ ap (λ y. y.parent) w.2; run = ap (λ y. y.run) (sym same) ∙ ap (λ y. y.run) w.2 };
          rows = λ i v row p q. absurd (cc);
        };
        before = length s.forks;
        forks = record { given = subst (λ n. AreGivenForks s (length s.forks) n) (sym all) is.forks; many = omega arith; forks = λ i r q. absurd (cc); placed = λ i v row q r. absurd (cc) };
        many = refl;
        entries = λ i e q. absurd (cc);
        all = λ n r q t. absurd (let w = at-number next [] n r q in let f = w.found in cc (f));
        apart = λ i j e f p q same. absurd (cc);
      }

-- ---- a heap as it is started

-- it has no version after 0
none_behind : {P R : Type 0} (m : Meaning) (s : State P R) → IsStartedHeap m s → (v : ℕ) (row : VersionRow P) → slice_get s.versions (v + 1) ≡ Some row → ⊥
none_behind m s is v row e =
    let one : length s.versions ≡ 1 = ap (λ rows. length rows) is.versions in
    let within = slice_get_within s.versions (v + 1) row e in
    omega arith

pub started-opens : {P R : Type 0} (m : Meaning) → IsLawful m → (s : State P R) → IsStartedHeap m s → IsOpeningHeap m s 1
started-opens {P = P} m law s is = record {
  shape = is.shape;
  older = λ p has. let Q : Heap → Type 0 = λ y. IsOlder y 1 in subst Q (sym is.heap ∙ ap s.heap (sym (is.only p has))) (initial-before m law).older;
  rooted = λ q zero other. record { fresh = λ p has. ap (λ (z : P). get (s.heap z) q) (is.only p has) ∙ ap (λ y. get y q) is.heap ∙ get-initial m.shape q other };
  some = let one : length s.versions ≡ 1 = ap (λ rows. length rows) is.versions in omega arith;
  runs = λ v row e. absurd (none_behind m s is v row e);
  apart = λ v w a b e f same. absurd (none_behind m s is v a e);
  forks = record { given = λ v row i p. absurd (none_behind m s is v row p); rising = λ v w a b i j p q l. absurd (none_behind m s is v a p) };
  calls = let none = is.calls in let unspent = is.spent in omega arith;
  counts =
      let r : s.counts.records ≡ 1 = ap (λ c. c.records) is.counts in
      let p : s.counts.pointer_writes ≡ 0 = ap (λ c. c.pointer_writes) is.counts in
      let v : s.counts.value_writes ≡ 0 = ap (λ c. c.value_writes) is.counts in
      record { records = omega arith; pointer_writes = omega arith; value_writes = omega arith };
}

pub started-opening : {P R : Type 0} (m : Meaning) (s : State P R) → IsStartedHeap m s → opening_of s 1 BUDGET ≡ opening m.shape
started-opening {P = P} m s is =
    let one : opening_of s 1 BUDGET ≡ record { versions = []; heaps = s.heap is.place ∷ []; next_run = 1; budget = BUDGET; counts = s.counts } =
    ap (λ (rows : List (VersionRow P)). record {
      versions = map row_of (drop 1 rows);
      heaps =
          map (λ (row : VersionRow P). s.heap row.place) rows;
      next_run = 1;
      budget = BUDGET;
      counts = s.counts;
    }) is.versions in
    one ∙ ap (λ y. record { versions = []; heaps = y ∷ []; next_run = 1; budget = BUDGET; counts = s.counts }) is.heap ∙ ap (λ c. record (opening m.shape) { counts = c }) is.counts

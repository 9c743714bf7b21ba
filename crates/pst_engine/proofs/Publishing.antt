-- The place of a closed run becomes a version.
use Rattle.std.proofs.Common.{◌≡◌, ◌≢◌, ◌⊎◌, inl, inr, ℕ, ◌+◌, ◌<◌, List, [], ◌∷◌, ◌++◌, length, refl, ap, sym, ◌∙◌, subst, arith, zero, suc, slice_get, Some, true, false, length-append}
use Rattle.std.proofs.lemmas.Option.{same_Some, slice_get_within}
use Rattle.std.specs.FinMap.{get}
use Rattle.pst_base.specs.declared.names.VersionNo.{VersionNo}
use Rattle.pst_program.specs.Laws.{IsOlder}
use Rattle.pst_versions.specs.declared.rows.VersionRow.{VersionRow}
use Rattle.pst_versions.specs.State.{State, ForkRow, IsVersioned, Published, published_in}
use Rattle.pst_history.specs.declared.history.Run.{Run}
use Rattle.pst_history.specs.declared.history.Descent.{Descent}
use Rattle.pst_history.specs.Meaning.{Meaning}
use Rattle.pst_history.specs.History.{History, is_open, is_open_state, work_of, heap_of, made_by}
use Rattle.pst_history.proofs.Lists.{slice_get-before, slice_get-last, slice_get-of_append}
use Rattle.pst_history.proofs.Heaps.{heap_of-more, heap_of-new}
use Rattle.pst_history.proofs.Steps.{IsPublishable, published, published-sound, counts_of-published, run-sound}
use Rattle.pst_machine.specs.declared.activation.Activation.{Activation}
use Rattle.pst_engine_runs.specs.declared.entry.OpenEntry.{OpenEntry}
use Rattle.pst_engine_runs.specs.Runs.{Runs, SurvivesOthers}
use Rattle.pst_engine_runs.specs.Stands.{IsVersion, SameRow, HasVersion, IsForkOf, IsPlaced, IsEntry, StandsFor}
use Rattle.pst_engine_runs.proofs.Parts.{given-kept, entry-run, entry-writable, entry-kept, published-alone}

-- ---- lists of forks

published_in-other : {P : Type 0} (rows : List (ForkRow P)) (i j : ℕ) → j ≢ i → slice_get (published_in rows i) j ≡ slice_get rows j
published_in-other [] i j ne = refl
published_in-other (row ∷ rows) zero zero ne = absurd (ne refl)
published_in-other (row ∷ rows) zero (suc j) ne = refl
published_in-other (row ∷ rows) (suc i) zero ne = refl
published_in-other (row ∷ rows) (suc i) (suc j) ne = published_in-other rows i j (λ e. ne (ap suc e))

published_in-same : {P : Type 0} (rows : List (ForkRow P)) (i : ℕ) (row : ForkRow P) → slice_get rows i ≡ Some row → slice_get (published_in rows i) i ≡ Some (record row { published = true })
published_in-same [] i row e = absurd (cc)
published_in-same {P} (x ∷ rows) zero row e = ap (λ (y : ForkRow P). Some (record y { published = true })) (same_Some x row e)
published_in-same (x ∷ rows) (suc i) row e = published_in-same rows i row e

published_in-length : {P : Type 0} (rows : List (ForkRow P)) (i : ℕ) → length (published_in rows i) ≡ length rows
published_in-length [] i = refl
published_in-length (row ∷ rows) zero = refl
published_in-length (row ∷ rows) (suc i) = let e = published_in-length rows i in omega arith

same_or : (a b : ℕ) → (a ≡ b) ⊎ (a ≢ b)
same_or zero zero = inl refl
same_or zero (suc b) = inr (λ e. cc)
same_or (suc a) zero = inr (λ e. cc)
same_or (suc a) (suc b) = elim (same_or a b) [ inl e ↦ inl (ap suc e) | inr ne ↦ inr (λ e. ne (omega (arith, e))) ]

-- each fork stays with its place, published or not
still_there : {P : Type 0} (rows new : List (ForkRow P)) (i k : ℕ) (f : ForkRow P) → new ≡ published_in rows i → slice_get rows k ≡ Some f
    → (g : ForkRow P) × (slice_get new k ≡ Some g) × (g.place ≡ f.place)
still_there {P = P} rows new i k f e at = elim (same_or k i) as (λ _. (g : ForkRow P) × (slice_get new k ≡ Some g) × (g.place ≡ f.place)) [
  | inl same ↦ (record f { published = true }, ap (λ r. slice_get r k) e ∙ ap (slice_get (published_in rows i)) same ∙ published_in-same rows i f (ap (slice_get rows) (sym same) ∙ at), refl)
  | inr ne ↦ (f, ap (λ r. slice_get r k) e ∙ published_in-other rows i k ne ∙ at, refl)
]

-- ---- a version more

-- what is published: the fork of a run that was carried to its end, with the heap of its outcome
pub record IsEnded {P R : Type 0} (m : Meaning) (s : State P R) (h : History) (before n : ℕ) (r : Run) (at : P) : Type 0 where
  pub closed : IsPublishable h n r
  pub index : ℕ
  pub number : n ≡ h.start.next_run + index
  pub found : slice_get h.runs index ≡ Some r
  pub from : P
  pub row : slice_get s.forks (before + index) ≡ Some (record { place = at; from = from; published = false })
  pub has : s.has at
  pub heap : s.heap at ≡ (m.outcome (work_of n r) r.budget (heap_of m h r.parent.0)).heap

module _ {H P R : Type 0} (m : Meaning) (x : Runs P R (Activation H R P)) (s t : State P R) (still : SurvivesOthers x s t) (known : IsVersioned s) (placed : (p : P) → s.writable p → s.has p) where
  pub publish-keeps : (active : List (OpenEntry H R P)) (budget next : ℕ) (h : History) (stand : StandsFor m x active budget next s h) (n : ℕ)
      (r : Run) (at : P) (version : VersionNo) → IsEnded m s h stand.before n r at → Published s r.parent (record { 0 = n }) at version t
      → StandsFor m x active budget next t (published h n r.parent)
  publish-keeps active budget next h stand n r at version o d =
      let v : Descent = record { run = record { 0 = n }; parent = r.parent } in
      let row : VersionRow P = record { parent = r.parent; run = record { 0 = n }; place = at } in
      let sound = stand.sound in
      let holds = stand.versions in
      let many = holds.many in
      let calls = stand.calls in
      let same_calls = d.fork_calls in
      let same_spent = d.grows.spent in
      let base = sound.start.same in
      let len_t : length (s.versions ++ row ∷ []) ≡ length s.versions + 1 = length-append s.versions (row ∷ []) in
      let len_h : length (h.versions ++ v ∷ []) ≡ length h.versions + 1 = length-append h.versions (v ∷ []) in
      let len : length t.versions ≡ length (s.versions ++ row ∷ []) = ap (λ rows. length rows) d.versions in
      let old_row : (k : ℕ) (y : VersionRow P) → slice_get t.versions k ≡ Some y → (slice_get s.versions k ≡ Some y)
      ⊎ ((k ≡ length s.versions) × (y ≡ row)) = λ k y q. slice_get-of_append s.versions row y k (ap (λ rows. slice_get rows k) (sym d.versions) ∙ q) in
      let index : d.fork.index ≡ stand.before + o.index = known.apart d.fork.index (stand.before + o.index)
      (record { place = at; from = d.from; published = false }) (record { place = at; from = o.from; published = false }) d.fork.row o.row refl in
      let forks_t : t.forks ≡ published_in s.forks (stand.before + o.index) = d.forks ∙ ap (published_in s.forks) index in
      record {
        sound = published-sound m h n r sound o.closed;
        same_budget = stand.same_budget;
        same_next = stand.same_next;
        shape = d.grows.shape ∙ stand.shape;
        counts = d.counts ∙ stand.counts ∙ sym (counts_of-published m h n r.parent sound);
        calls = omega arith;
        older = λ p has. subst (λ y. IsOlder y next) (sym (d.heaps p (d.back p has))) (stand.older p (d.back p has));
        rooted = λ q zero other. let free = stand.rooted q zero other in record { fresh = λ p has. ap (λ y. get y q) (d.heaps p (d.back p has)) ∙ free.fresh p (d.back p has) };
        versions = record {
          many = omega arith;
          versions = λ k y q. elim (old_row k y q) as (λ _. IsVersion m t (published h n r.parent) k y) [
            | inl u ↦
                let was = holds.versions k y u in
                let below : k < length s.versions = slice_get_within s.versions k y u in
                record { has = d.grows.has y.place was.has; heap = d.heaps y.place was.has ∙ was.heap ∙ sym (heap_of-more m h v k (omega arith)) }
            | inr u ↦ subst (λ z. IsVersion m t (published h n r.parent) k z) (sym u.1) (record {
              has = d.grows.has at o.has;
              heap = d.heaps at o.has ∙ o.heap ∙ ap (λ z. made_by m n z (heap_of m h r.parent.0)) (sym o.closed.found) ∙ sym (heap_of-new m h v)
                  ∙ ap (heap_of m (published h n r.parent)) (sym (u.0 ∙ many));
            })
          ];
          given = λ i w y p q. elim (old_row (i + 1) y q) as (λ _. SameRow w y) [
            | inl u ↦ holds.given i w y p u
            | inr u ↦ absurd (let below : i < length h.start.versions = slice_get_within h.start.versions i w p in omega (arith, u.0))
          ];
          rows = λ i w y p q. elim (slice_get-of_append h.versions v w i p) as (λ _. SameRow w y) [
            | inl u ↦
                let below : i < length h.versions = slice_get_within h.versions i w u in
                elim (old_row (length h.start.heaps + i) y q) as (λ _. SameRow w y) [
                  | inl z ↦ holds.rows i w y u z
                  | inr z ↦ absurd (omega (arith, z.0))
                ]
            | inr u ↦ elim (old_row (length h.start.heaps + i) y q) as (λ _. SameRow w y) [
              | inl z ↦ let below : length h.start.heaps + i < length s.versions = slice_get_within s.versions (length h.start.heaps + i) y z in absurd (omega (arith, u.0))
              | inr z ↦ record { parent = ap (λ g. g.parent) z.1 ∙ ap (λ g. g.parent) (sym u.1); run = ap (λ g. g.run) z.1 ∙ ap (λ g. g.run) (sym u.1) }
            ]
          ];
        };
        before = stand.before;
        forks = record {
          given = given-kept s t stand.before (length h.start.heaps)
              (λ k y i q. elim (old_row (k + 1) y q) as (λ _. slice_get s.versions (k + 1) ≡ Some y) [ inl u ↦ u | inr u ↦ absurd (omega (arith, i, u.0)) ])
              (λ k f e. still_there s.forks t.forks (stand.before + o.index) k f forks_t e) stand.forks.given;
          many = ap (λ rows. length rows) forks_t ∙ published_in-length s.forks (stand.before + o.index) ∙ stand.forks.many;
          forks = λ j z q. each stand o d forks_t j z q;
          placed = λ i w y p q. elim (slice_get-of_append h.versions v w i p) as (λ _. IsPlaced t (published h n r.parent) stand.before w y) [
            | inl u ↦
                let below : i < length h.versions = slice_get_within h.versions i w u in
                elim (old_row (length h.start.heaps + i) y q) as (λ _. IsPlaced t (published h n r.parent) stand.before w y) [
                  | inl z ↦ placed_before stand (stand.before + o.index) forks_t w y (stand.forks.placed i w y u z)
                  | inr z ↦ absurd (omega (arith, z.0))
                ]
            | inr u ↦ elim (old_row (length h.start.heaps + i) y q) as (λ _. IsPlaced t (published h n r.parent) stand.before w y) [
              | inl z ↦ let below : length h.start.heaps + i < length s.versions = slice_get_within s.versions (length h.start.heaps + i) y z in absurd (omega (arith, u.0))
              | inr z ↦ record {
                index = o.index;
                number = (let e : w.run.0 ≡ n = ap (λ (g : Descent). g.run.0) u.1 in e ∙ o.number);
                fork = record { place = at; from = o.from; published = true };
                found = ap (λ rows. slice_get rows (stand.before + o.index)) forks_t
                    ∙ published_in-same s.forks (stand.before + o.index) (record { place = at; from = o.from; published = false }) o.row;
                place = ap (λ (g : VersionRow P). g.place) (sym z.1);
              }
            ]
          ];
        };
        many = stand.many;
        entries = λ j e q.
            let old = stand.entries j e q in
            let has = placed (x.place e.activation) (entry-writable m x s h stand.before e known sound stand.forks old) in
            let apart : stand.before + old.index ≢ stand.before + o.index = λ same. not_mine stand o e old (omega (arith, same)) in
            let elsewhere : x.place e.activation ≡ at → ⊥ = λ same. apart
            (known.apart (stand.before + old.index) (stand.before + o.index) old.fork (record { place = at; from = o.from; published = false })
            old.fork_found o.row (old.place ∙ same)) in
            let version_below = (run-sound m h sound e.run.0 old.run (entry-run m x s h stand.before e old)).version in
            entry-kept m x s t h stand.before h.runs (h.versions ++ v ∷ []) e old old.found (heap_of-more m h v old.run.parent.0 version_below) still
            (published-alone s t r.parent (record { 0 = n }) at version (x.place e.activation) e.run d has elsewhere)
            (ap (λ rows. slice_get rows (stand.before + old.index)) forks_t ∙ published_in-other s.forks (stand.before + o.index) (stand.before + old.index) apart ∙ old.fork_found);
        all = stand.all;
        apart = stand.apart;
      }
    where
      -- a version that there was has the place of its fork, published or not
      placed_before : (stand : StandsFor m x active budget next s h) (k : ℕ) → t.forks ≡ published_in s.forks k → (w : Descent) (y : VersionRow P)
          → IsPlaced s h stand.before w y → IsPlaced t (published h n r.parent) stand.before w y
      placed_before stand k forks_t w y z = elim (same_or (stand.before + z.index) k) as (λ _. IsPlaced t (published h n r.parent) stand.before w y) [
        | inl same ↦ record {
          index = z.index;
          number = z.number;
          fork = record z.fork { published = true };
          found = ap (λ rows. slice_get rows (stand.before + z.index)) forks_t ∙ ap (slice_get (published_in s.forks k)) same
              ∙ published_in-same s.forks k z.fork (ap (slice_get s.forks) (sym same) ∙ z.found);
          place = z.place;
        }
        | inr ne ↦ record {
          index = z.index;
          number = z.number;
          fork = z.fork;
          found = ap (λ rows. slice_get rows (stand.before + z.index)) forks_t
              ∙ published_in-other s.forks k (stand.before + z.index) ne ∙ z.found;
          place = z.place;
        }
      ]

      -- the run is not open
      not_mine : (stand : StandsFor m x active budget next s h) (o : IsEnded m s h stand.before n r at) (e : OpenEntry H R P) (old : IsEntry m x s h stand.before e) → old.index ≡ o.index → ⊥
      not_mine stand o e old same =
          let one : old.run ≡ r = same_Some old.run r (sym old.found ∙ ap (slice_get h.runs) same ∙ o.found) in
          let shut : is_open old.run ≡ false = ap is_open one ∙ ap is_open_state o.closed.closed in
          let was_open = old.is_so in
          cc (shut, was_open)

      each : (stand : StandsFor m x active budget next s h) (o : IsEnded m s h stand.before n r at)
          → Published s r.parent (record { 0 = n }) at version t → t.forks ≡ published_in s.forks (stand.before + o.index) → (j : ℕ) (z : Run)
          → slice_get h.runs j ≡ Some z → IsForkOf t (published h n r.parent) (stand.before + j) (h.start.next_run + j) z
      each stand o d forks_t j z q =
          let v : Descent = record { run = record { 0 = n }; parent = r.parent } in
          let row : VersionRow P = record { parent = r.parent; run = record { 0 = n }; place = at } in
          let f = stand.forks.forks j z q in
          let parent : slice_get t.versions z.parent.0 ≡ Some f.parent = ap (λ rows. slice_get rows z.parent.0) d.versions
          ∙ slice_get-before s.versions (row ∷ []) z.parent.0 (slice_get_within s.versions z.parent.0 f.parent f.parent_found) ∙ f.parent_found in
          let later : (k : ℕ) → HasVersion h k → HasVersion (published h n r.parent) k =
          λ k has. (has.0, has.1, slice_get-before h.versions (v ∷ []) has.0 (slice_get_within h.versions has.0 has.1 has.2) ∙ has.2, has.3) in
          let mine : HasVersion (published h n r.parent) n = (length h.versions, v, slice_get-last h.versions v, refl) in
          elim (same_or j o.index) as (λ _. IsForkOf t (published h n r.parent) (stand.before + j) (h.start.next_run + j) z) [
            | inl same ↦
                let at_row : slice_get s.forks (stand.before + j) ≡ Some f.row = f.found in
                record {
                  row = record f.row { published = true };
                  found = ap (λ rows. slice_get rows (stand.before + j)) forks_t
                      ∙ ap (λ k. slice_get (published_in s.forks (stand.before + k)) (stand.before + j)) (sym same)
                      ∙ published_in-same s.forks (stand.before + j) f.row at_row;
                  parent = f.parent;
                  parent_found = parent;
                  from = f.from;
                  published = λ e. subst (λ k. HasVersion (published h n r.parent) k) (o.number ∙ ap (λ k. h.start.next_run + k) (sym same)) mine;
                  has_version = λ has. refl;
                }
            | inr ne ↦ record {
              row = f.row;
              found = ap (λ rows. slice_get rows (stand.before + j)) forks_t ∙ published_in-other s.forks (stand.before + o.index) (stand.before + j) (λ same. ne (omega (arith, same))) ∙ f.found;
              parent = f.parent;
              parent_found = parent;
              from = f.from;
              published = λ e. later (h.start.next_run + j) (f.published e);
              has_version = λ has. elim (slice_get-of_append h.versions v has.1 has.0 has.2) [
                | inl u ↦ f.has_version (has.0, has.1, u, has.3)
                | inr u ↦ let number : n ≡ h.start.next_run + j = ap (λ g. g.run.0) (sym u.1) ∙ has.3 in absurd (ne (let is = o.number in omega (arith, number)))
              ];
            }
          ]

-- A new session and a store as it is started.
use Rattle.std.proofs.Common.{◌≡◌, ℕ, List, [], ◌∷◌, length, refl, ap, sym, ◌∙◌, zero, suc, slice_get, Some}
use Rattle.std.proofs.lemmas.Option.{same_Some}
use Rattle.pst_base.specs.declared.names.NodeId.{NodeId}
use Rattle.pst_base.specs.declared.shape.TypeShape.{TypeShape}
use Rattle.pst_base.specs.Heap.{initial_heap}
use Rattle.pst_line_nodes.specs.Line.{heap_at}
use Rattle.pst_versions.specs.declared.rows.VersionRow.{VersionRow}
use Rattle.pst_versions.specs.State.{State}
use Rattle.pst_history.specs.Meaning.{Meaning, IsLawful}
use Rattle.pst_history.specs.History.{begun, counts_of, heap_of, heaps_of, opening}
use Rattle.pst_history.proofs.After.{begun-sound}
use Rattle.pst_history.proofs.Sound.{opening-sound}
use Rattle.pst_line.specs.declared.place.LinePlace.{LinePlace}
use Rattle.pst_line.specs.Store.{Stored, IsChain, IsStarted, Means}
use Rattle.pst_linerun.specs.Standing.{LineStands}
use Rattle.pst_history.specs.declared.history.TheConstants.{BUDGET}

first-heap : (m : Meaning) → heap_of m (begun (opening m.shape)) 0 ≡ initial_heap m.shape
unfolding heaps_of
first-heap m = refl

first-counts : (m : Meaning) → counts_of m (begun (opening m.shape)) ≡ record { records = 1; pointer_writes = 0; value_writes = 0 }
unfolding counts_of
first-counts m = refl

-- the only element
the-one : {X : Type 0} (x y : X) (k : ℕ) → slice_get (x ∷ []) k ≡ Some y → (k ≡ 0) × (x ≡ y)
the-one x y zero e = (refl, same_Some x y e)
the-one x y (suc k) e = absurd (cc)

pub started-stands : (m : Meaning) → IsLawful m → (s : State LinePlace NodeId) (stored : Stored) → Means s stored → IsChain s
    → IsStarted m.shape stored → LineStands m BUDGET 1 s stored (begun (opening m.shape))
started-stands m law s stored means chain is =
    let row0 : VersionRow LinePlace = record { parent = record { 0 = 0 }; run = record { 0 = 0 }; place = record { stamp = record { 0 = 0 } } } in
    let rows : s.versions ≡ row0 ∷ [] = means.versions ∙ is.rows in
    let first : s.heap (record { stamp = record { 0 = 0 } }) ≡ initial_heap m.shape = means.heap (record { stamp = record { 0 = 0 } })
    ∙ ap (λ (shape : List TypeShape). heap_at shape stored.line 0) is.shape_is ∙ is.heap in
    record {
      sound = begun-sound m (opening m.shape) (opening-sound m law);
      same_budget = refl;
      same_next = refl;
      shape = means.shape ∙ is.shape_is;
      counts = means.counts ∙ is.counts ∙ sym (first-counts m);
      versions = record {
        many = ap (λ xs. length xs) rows;
        versions = λ k row q.
            let w = the-one row0 row k (sym (ap (λ xs. slice_get xs k) rows) ∙ q) in
            record { has = chain.has k row q; heap = ap (λ (y : VersionRow LinePlace). s.heap y.place) (sym w.1) ∙ first ∙ sym (ap (heap_of m (begun (opening m.shape))) w.0 ∙ first-heap m) };
        given = λ i v row p q. absurd (cc);
        rows = λ i v row p q. absurd (cc);
      };
      none = is.opened;
      whole = is.failed;
    }

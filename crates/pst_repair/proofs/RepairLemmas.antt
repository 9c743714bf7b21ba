use Rattle.pst_rows.specs.Values.{width_in}
use Rattle.std.proofs.Common.{◌≡◌, ◌≢◌, ℕ, ◌+◌, ◌≤◌, ◌<◌, true, false, eqb, List, [], ◌∷◌, ◌++◌, length, get_or, Some, refl, sym, ap, ◌∙◌, subst, ⊎_elim, ◌⊎◌, inl, inr, arith}
use Rattle.std.proofs.lemmas.Bool.{cases_eq, eq-eqb, eqb-true, or_left, or_right, or_cases, false≢true}
use Rattle.std.proofs.lemmas.Option.{none-some, same_Some}
use Rattle.pst_rows.specs.declared.row.Row.{Row}
use Rattle.pst_mirror.specs.Mirror.{Chart, IsMirrored}
use Rattle.pst_mirror.specs.Lives.{Lives, AreChained, IsIn}
use Rattle.pst_base.specs.Shape.{type_at}
use Rattle.pst_rows.specs.Changes.{slot_count}
use Rattle.pst_mirror.specs.Kinds.{HasKind}
use Rattle.pst_rows.specs.Rows.{width_of}
use Rattle.pst_base.specs.declared.names.NodeId.{NodeId}
use Rattle.pst_nodes.specs.Queue.{numbered, waits, last_from, ends_at, ends_of, head_of, tail_of}
use Rattle.pst_nodes.specs.declared.queue.Ends.{Ends}
use Rattle.pst_nodes.specs.declared.queue.Queue.{Queue}
use Rattle.pst_nodes.proofs.QueueLemmas.{waits-push}
use Rattle.pst_nodes.specs.declared.node.Node.{Node}
use Rattle.pst_base.specs.declared.shape.TypeShape.{TypeShape}
use Rattle.pst_nodes.specs.Arena.{no_frame, rows_of, row_at, Frame, frames_of, frame_at, AreRows, chart, lives, IsTyped, type_no, type_of}
use Rattle.pst_nodes.specs.Changes.{AreSameNodes}
use Rattle.pst_repair.specs.Load.{IsSound, IsOver, half_at, stamped_at, potential_of}
use Rattle.pst_repair.specs.Steps.{Queues, KeepsQueue}
use Rattle.pst_repair.proofs.LoadLemmas.{rows_kept, chart_same, over_same, lo_same, hi_same, half_same, waits-append, grown_same}
use Rattle.pst_repair.proofs.CutLemmas.{queues_links, same_count}
use Rattle.pst_repair.proofs.RoomLemmas.{same_chart, same_rows, same_lo, same_hi, same_stamped, same_lives}
use Rattle.pst_repair.specs.Repair.{IsQueued}

sound_by : (types : List TypeShape) (qs : List ℕ) (old new : List Node) → length new ≡ length old → AreRows qs new → chart qs new ≡ chart qs old
    → lives qs new ≡ lives qs old → frames_of new ≡ frames_of old → ((i : ℕ) (d : Row) → width_of (row_at new i d) ≡ width_of (row_at old i d)) →
    IsSound types qs old → IsSound types qs new
sound_by types qs old new count rows same lived frames wide s =
    let ty : (i : ℕ) → (frame_at new i).ty ≡ (frame_at old i).ty = λ i. ap (λ (fs : List Frame). (get_or fs i no_frame).ty) frames in
    record {
      rows = rows;
      mirrored = subst (λ (w : Chart). IsMirrored w) (sym same) s.mirrored;
      chained = subst (λ (w : Lives). AreChained w) (sym lived) s.chained;
      typed = λ i l.
          let t : IsTyped types old i = s.typed i (omega arith) in
          record {
            there = subst (λ (y : ℕ). y < length types) (sym (ty i)) t.there;
            width = λ d. wide i d ∙ t.width d ∙ ap (λ (y : ℕ). slot_count (type_at types (record { 0 = y }))) (sym (ty i));
          };
      one_type = subst (λ (fs : List Frame). (i j : ℕ) → i < length new → j < length new → (get_or fs i no_frame).name ≡ (get_or fs j no_frame).name
          → (get_or fs i no_frame).ty ≡ (get_or fs j no_frame).ty) (sym frames) (λ i j l m e. s.one_type i j (omega arith) (omega arith) e);
      kinds = λ i k m h. subst (λ (fs : List Frame). HasKind (type_at types (record { 0 = (get_or fs i no_frame).ty }))
          (λ y. record { 0 = (get_or fs y no_frame).ty }) k ((chart qs new).holds i k m)) (sym frames)
          (subst (λ (w : Chart). HasKind (type_of types old i) (type_no old) k (w.holds i k m)) (sym same) (s.kinds i k m (subst (λ (w : Lives). IsIn w i m) lived h)));
    }

pub sound_rows : (types : List TypeShape) (qs : List ℕ) (old new : List Node) → rows_of new ≡ rows_of old → frames_of new ≡ frames_of old → IsSound types qs old → IsSound types qs new
sound_rows types qs old new rows frames s =
    sound_by types qs old new (same_count old new rows) (rows_kept qs old new rows s.rows) (chart_same qs old new rows)
    (same_lives qs old new (same_count old new rows) (lo_same old new rows) (hi_same old new rows) frames) frames (λ i d. ap (λ ws. width_of (get_or ws i d)) rows) s

pub sound_same : (types : List TypeShape) (qs : List ℕ) (old new : List Node) → AreSameNodes old new → IsSound types qs old → IsSound types qs new
sound_same types qs old new e s =
    sound_by types qs old new e.count (same_rows old new e qs s.rows) (same_chart old new e qs)
    (same_lives qs old new e.count (same_lo old new e) (same_hi old new e) e.frames) e.frames (λ i d. (ap (λ w. width_in w) (e.rows i d))) s

pub over_nodes : (types : List TypeShape) (old new : List Node) (i : ℕ) → AreSameNodes old new → IsOver types new i → IsOver types old i
over_nodes types old new i e o =
    let a : stamped_at new i ≡ stamped_at old i = same_stamped old new e i in
    let b : half_at types new i ≡ half_at types old i = half_same types old new e.frames i in
    omega arith

pub over_nodes' : (types : List TypeShape) (old new : List Node) (i : ℕ) → AreSameNodes old new → IsOver types old i → IsOver types new i
over_nodes' types old new i e o =
    let a : stamped_at new i ≡ stamped_at old i = same_stamped old new e i in
    let b : half_at types new i ≡ half_at types old i = half_same types old new e.frames i in
    omega arith

-- the first node was taken
pub record IsPopped (types : List TypeShape) (ns : List Node) (queue : Queue) (tl : List ℕ) (id : ℕ) : Type 0 where
  pub held : Queues ns queue tl
  pub there : id < length ns
  pub away : waits tl id ≡ false
  pub it : IsOver types ns id
  pub over : (i : ℕ) → waits tl i ≡ true → IsOver types ns i
  pub all : (i : ℕ) → i ≢ id → IsOver types ns i → waits tl i ≡ true

pub popped_some : (types : List TypeShape) (old new : List Node) (queue queue' : Queue) (xs : List ℕ) (id : NodeId) → IsQueued types old queue xs
    → Some id ≡ head_of xs → rows_of new ≡ rows_of old → frames_of new ≡ frames_of old → Queues new queue' (tail_of xs)
    → IsPopped types new queue' (tail_of xs) id.0
popped_some types old new queue queue' [] id q e rows frames h = absurd (none-some id (sym e))
popped_some types old new queue queue' (x ∷ xs) id q e rows frames h =
    let same : x ≡ id.0 = sym (ap (λ (i : NodeId). i.0) (same_Some id (numbered x) e)) in
    record {
      held = h;
      there = subst (λ (k : ℕ). k < length new) same (omega (arith, q.held.there.0, same_count old new rows));
      away = ap (waits xs) (sym same) ∙ q.held.apart.0;
      it = subst (λ (k : ℕ). IsOver types new k) same (over_same types new old (sym rows) (sym frames) x (q.over x (or_left (eqb x x) (waits xs x) (eq-eqb x x refl))));
      over = λ i w. over_same types new old (sym rows) (sym frames) i (q.over i (or_right (eqb x i) (waits xs i) w));
      all = λ i ne o. ⊎_elim
          (λ (u : eqb x i ≡ true). absurd (ne (sym (eqb-true x i u) ∙ same)))
          (λ (u : waits xs i ≡ true). u)
          (or_cases (eqb x i) (waits xs i) (q.all i (over_same types old new rows frames i o)));
    }

-- it was split
pub split_queued : (types : List TypeShape) (old new : List Node) (queue queue' : Queue) (tl : List ℕ) (id z : ℕ) → IsPopped types old queue tl id
    → KeepsQueue (λ i. (i ≡ id) ⊎ (i ≡ z)) types old new queue queue' → ((i : ℕ) → i ≢ id → IsOver types old i → IsOver types new i) → (xs : List ℕ)
    × IsQueued types new queue' xs
split_queued types old new queue queue' tl id z p k grown =
    let q = k tl p.held in (
      tl ++ q.0,
      record {
        held = q.1.held;
        over = λ i w. ⊎_elim
            (λ (u : waits tl i ≡ true). grown i (λ e. false≢true (sym p.away ∙ ap (waits tl) (sym e) ∙ u)) (p.over i u))
            (λ (u : waits q.0 i ≡ true). q.1.over i u)
            (or_cases (waits tl i) (waits q.0 i) (sym (waits-append tl q.0 i) ∙ w));
        all = λ i o. q.2 i (⊎_elim (λ (e : i ≡ id). inl (inl e)) (λ (ne : i ≡ id → ⊥). inr (p.all i ne)) (cases_eq i id)) o;
      },
    )

-- it could not be split, and waits again
pub refused_held : (types : List TypeShape) (old new : List Node) (queue queue' : Queue) (tl : List ℕ) (id : ℕ) → IsPopped types old queue tl id
    → AreSameNodes old new → queue' ≡ queue → Queues new queue' tl
refused_held types old new queue queue' tl id p e same = subst (λ (u : Queue). Queues new u tl) (sym same) (queues_links old new queue tl e.count e.links p.held)

pub refused_queued : (types : List TypeShape) (old mid new : List Node) (queue queue' : Queue) (tl : List ℕ) (id : ℕ) → IsPopped types old queue tl id
    → AreSameNodes old mid → rows_of new ≡ rows_of mid → frames_of new ≡ frames_of mid → Queues new queue' (tl ++ id ∷ [])
    → IsQueued types new queue' (tl ++ id ∷ [])
refused_queued types old mid new queue queue' tl id p e rows frames h =
    let up : (i : ℕ) → IsOver types old i → IsOver types new i = λ i o. over_same types new mid (sym rows) (sym frames) i (over_nodes' types old mid i e o) in
    let down : (i : ℕ) → IsOver types new i → IsOver types old i = λ i o. over_nodes types old mid i e (over_same types mid new rows frames i o) in
    record {
      held = h;
      over = λ i w. ⊎_elim
          (λ (u : waits tl i ≡ true). up i (p.over i u))
          (λ (u : eqb id i ≡ true). subst (λ (k : ℕ). IsOver types new k) (eqb-true id i u) (up id p.it))
          (or_cases (waits tl i) (eqb id i) (sym (waits-push tl id i) ∙ w));
      all = λ i o. waits-push tl id i ∙ ⊎_elim
          (λ (q : i ≡ id). or_right (waits tl i) (eqb id i) (eq-eqb id i (sym q)))
          (λ (ne : i ≡ id → ⊥). or_left (waits tl i) (eqb id i) (p.all i ne (down i o)))
          (cases_eq i id);
    }

pub last_waits : (tl : List ℕ) (id : ℕ) → waits (tl ++ id ∷ []) id ≡ true
last_waits tl id = waits-push tl id id ∙ or_right (waits tl id) (eqb id id) (eq-eqb id id refl)

pub potential_rows : (types : List TypeShape) (old new : List Node) → rows_of new ≡ rows_of old → frames_of new ≡ frames_of old → potential_of types new ≤ potential_of types old
potential_rows types old new rows frames = let g : potential_of types new ≤ potential_of types old + 0 = (grown_same types old new (same_count old new rows) rows frames).potential in omega arith

-- the first of the ends is the first node that waits
pub first_waits : (xs : List ℕ) (ends : Ends) → Some ends ≡ ends_of xs → Some ends.first ≡ head_of xs
first_waits [] ends e = absurd (none-some ends (sym e))
first_waits (x ∷ xs) ends e = ap (λ (u : Ends). Some u.first) (same_Some ends (ends_at x (last_from x xs)) e)

use Rattle.pst_order.specs.Places.{rank}
use Rattle.pst_rows.specs.Rows.{shown, stamped_count, width_of}
use Rattle.pst_mirror.specs.Charts.{chart_of, AllRows}
use Rattle.pst_nodes.specs.Arena.{values_of, chart, AreRows, no_frame, HasRoom, rows_of, row_at, Frame, frames_of, lo_at, hi_at}
use Rattle.std.proofs.Common.{◌≡◌, ◌≢◌, ℕ, zero, suc, ◌+◌, ◌-◌, ◌≤◌, ◌<◌, true, false, ◌||◌, eqb, List, [], ◌∷◌, ◌++◌, length, get_or, map, nat_lt, sum_by}
use Rattle.std.proofs.Common.{refl, sym, ap, ap₂, ◌∙◌, subst, ⊎_elim, ◌⊎◌, inl, inr, arith, ◌↔◌, IsTrue}
use Rattle.std.proofs.lemmas.Bool.{cases_eq, cases_lt, eq-eqb, eqb-true, or_left, or_right, or_cases, false≢true, lt-ltb, ltb-true}
use Rattle.std.proofs.lemmas.List.{append_assoc, append-nil, length-map, get_or-map, get_or_past}
use Rattle.std.proofs.lemmas.List.Sums.{sum_by-cons}
use Rattle.pst_rows.specs.declared.row.Row.{Row}
use Rattle.pst_nodes.specs.Queue.{waits}
use Rattle.pst_nodes.specs.declared.queue.Queue.{Queue}
use Rattle.pst_nodes.proofs.QueueLemmas.{waits-push}
use Rattle.pst_nodes.specs.declared.node.Node.{Node}
use Rattle.pst_base.specs.declared.shape.TypeShape.{TypeShape}
use Rattle.pst_nodes.specs.Changes.{IsTouched}
use Rattle.pst_nodes.proofs.NodeLemmas.{length-rows}
use Rattle.pst_repair.specs.Load.{half_in, half_at, stamped_at, IsOver, stamped_in_all, excess, potential_of}
use Rattle.pst_repair.specs.Steps.{Queues, WaitsIfOver, KeepsQueue, HasQueuedOnly, AreGrown}

pub stamped_is : (ns : List Node) (i : ℕ) (d : Row) → i < length ns → stamped_at ns i ≡ stamped_count (row_at ns i d)
stamped_is ns i d l = get_or-map stamped_count (rows_of ns) i d 0 (omega (arith, length-rows ns))

pub stamped_past : (ns : List Node) (i : ℕ) → length ns ≤ i → stamped_at ns i ≡ 0
stamped_past ns i l = get_or_past (map stamped_count (rows_of ns)) i 0 (omega (arith, length-map (rows_of ns) stamped_count, length-rows ns))

pub map-row : {A : Type 0} (f : Row → A) (ns : List Node) → map (λ (n : Node). f n.row) ns ≡ map f (rows_of ns)
map-row f [] = refl
map-row f (n ∷ ns) = ap (λ ys. f n.row ∷ ys) (map-row f ns)

pub values_same : (old new : List Node) → rows_of new ≡ rows_of old → values_of new ≡ values_of old
values_same old new e = map-row shown new ∙ ap (map shown) e ∙ sym (map-row shown old)

pub chart_same : (qs : List ℕ) (old new : List Node) → rows_of new ≡ rows_of old → chart qs new ≡ chart qs old
chart_same qs old new e = ap (chart_of (rank qs)) (values_same old new e)

pub rows_kept : (qs : List ℕ) (old new : List Node) → rows_of new ≡ rows_of old → AreRows qs old → AreRows qs new
rows_kept qs old new e all = subst (AllRows (rank qs) (length qs)) (sym (values_same old new e)) all

pub lo_same : (old new : List Node) → rows_of new ≡ rows_of old → (i : ℕ) → lo_at new i ≡ lo_at old i
lo_same old new e i = ap (λ ys. get_or ys i 0) (map-row (λ (w : Row). w.lo.0) new ∙ ap (map (λ (w : Row). w.lo.0)) e ∙ sym (map-row (λ (w : Row). w.lo.0) old))

pub hi_same : (old new : List Node) → rows_of new ≡ rows_of old → (i : ℕ) → hi_at new i ≡ hi_at old i
hi_same old new e i = ap (λ ys. get_or ys i 0) (map-row (λ (w : Row). w.hi.0) new ∙ ap (map (λ (w : Row). w.hi.0)) e ∙ sym (map-row (λ (w : Row). w.hi.0) old))

pub half_same : (types : List TypeShape) (old new : List Node) → frames_of new ≡ frames_of old → (i : ℕ) → half_at types new i ≡ half_at types old i
half_same types old new frames i = ap (λ (fs : List Frame). half_in types ((get_or fs i no_frame).ty)) frames

pub over_same : (types : List TypeShape) (old new : List Node) → rows_of new ≡ rows_of old → frames_of new ≡ frames_of old → (i : ℕ) → IsOver types new i → IsOver types old i
over_same types old new rows frames i h =
    let a : stamped_at new i ≡ stamped_at old i = ap (λ ws. get_or (map stamped_count ws) i 0) rows in
    let b : half_at types new i ≡ half_at types old i = half_same types old new frames i in
    omega arith

-- the sum, pointwise
pub sum_le : (f : Node → ℕ) (old new : List Node) (x k : ℕ) → length new ≡ length old
    → ((i : ℕ) → i ≢ x → get_or (map f new) i 0 ≡ get_or (map f old) i 0) → get_or (map f new) x 0 ≤ get_or (map f old) x 0 + k
    → sum_by f new ≤ sum_by f old + k
sum_le f [] [] x k e same more = omega arith
sum_le f [] (n ∷ new) x k e same more = absurd (omega arith)
sum_le f (o ∷ old) [] x k e same more = absurd (omega arith)
sum_le f (o ∷ old) (n ∷ new) zero k e same more =
    let ih : sum_by f new ≤ sum_by f old + 0 = sum_le f old new (length old) 0 (omega arith) (λ i ne. same (suc i) (λ q. omega arith))
    (let t : get_or (map f new) (length old) 0 ≡ get_or (map f old) (length old) 0 = same (suc (length old)) (λ q. omega arith) in omega arith) in
    rw (sum_by-cons f n new, sum_by-cons f o old) (omega arith)
sum_le f (o ∷ old) (n ∷ new) (suc x) k e same more =
    let ih : sum_by f new ≤ sum_by f old + k = sum_le f old new x k (omega arith) (λ i ne. same (suc i) (λ q. ne (omega arith))) more in
    let here : f n ≡ f o = same 0 (λ q. omega arith) in
    rw (sum_by-cons f n new, sum_by-cons f o old) (omega arith)

pub excess_at : (types : List TypeShape) (ns : List Node) (i : ℕ) → get_or (map (excess types) ns) i 0 ≡ stamped_at ns i - half_at types ns i
excess_at types [] i = omega arith
excess_at types (n ∷ ns) zero = refl
excess_at types (n ∷ ns) (suc i) = excess_at types ns i

pub potential_le : (types : List TypeShape) (old new : List Node) (x k : ℕ) → length new ≡ length old → frames_of new ≡ frames_of old
    → ((i : ℕ) → i ≢ x → stamped_at new i ≡ stamped_at old i) → stamped_at new x ≤ stamped_at old x + k → potential_of types new ≤ potential_of types old + k
potential_le types old new x k e frames same more =
    let half : (i : ℕ) → half_at types new i ≡ half_at types old i = λ i. half_same types old new frames i in
    sum_le (excess types) old new x k e
    (λ i ne. excess_at types new i ∙ ap₂ (λ a b. a - b) (same i ne) (half i) ∙ sym (excess_at types old i))
    (let a : get_or (map (excess types) new) x 0 ≡ stamped_at new x - half_at types new x = excess_at types new x in
    let b : get_or (map (excess types) old) x 0 ≡ stamped_at old x - half_at types old x = excess_at types old x in
    let c : half_at types new x ≡ half_at types old x = half x in
    omega arith)

-- growth
-- the sum of what is stamped
pub stamped_read : (ns : List Node) (i : ℕ) → get_or (map (λ (n : Node). stamped_count n.row) ns) i 0 ≡ stamped_at ns i
stamped_read ns i = ap (λ ys. get_or ys i 0) (map-row stamped_count ns)

pub stamped_le : (old new : List Node) (x k : ℕ) → length new ≡ length old → ((i : ℕ) → i ≢ x → stamped_at new i ≡ stamped_at old i)
    → stamped_at new x ≤ stamped_at old x + k → stamped_in_all new ≤ stamped_in_all old + k
stamped_le old new x k e same more = sum_le (λ (n : Node). stamped_count n.row) old new x k e
    (λ i ne. stamped_read new i ∙ same i ne ∙ sym (stamped_read old i))
    (omega (arith, stamped_read new x, stamped_read old x, more))

pub grown_same : (types : List TypeShape) (old new : List Node) → length new ≡ length old → rows_of new ≡ rows_of old → frames_of new ≡ frames_of old → AreGrown 0 types old new
grown_same types old new count rows frames = record {
  count = count;
  frames = frames;
  lo = lo_same old new rows;
  hi = hi_same old new rows;
  width = λ i d. ap (λ ws. width_of (get_or ws i d)) rows;
  stamped = λ i. let a : stamped_at new i ≡ stamped_at old i = ap (λ ws. get_or (map stamped_count ws) i 0) rows in omega arith;
  room = λ i d j h. subst (λ ws. HasRoom (get_or ws i d) j) (sym rows) (omega (arith, h));
  potential = potential_le types old new 0 0 count frames (λ i ne. ap (λ ws. get_or (map stamped_count ws) i 0) rows)
      (let a : stamped_at new 0 ≡ stamped_at old 0 = ap (λ ws. get_or (map stamped_count ws) 0 0) rows in omega arith);
  few = stamped_le old new 0 0 count (λ i ne. ap (λ ws. get_or (map stamped_count ws) i 0) rows)
      (let a : stamped_at new 0 ≡ stamped_at old 0 = ap (λ ws. get_or (map stamped_count ws) 0 0) rows in omega arith);
}

pub grown_on : (k l : ℕ) (types : List TypeShape) (old mid new : List Node) → AreGrown k types old mid → AreGrown l types mid new → AreGrown (k + l) types old new
grown_on k l types old mid new a b = record {
  count = b.count ∙ a.count;
  frames = b.frames ∙ a.frames;
  lo = λ i. b.lo i ∙ a.lo i;
  hi = λ i. b.hi i ∙ a.hi i;
  width = λ i d. b.width i d ∙ a.width i d;
  stamped = λ i. omega (arith, a.stamped i, b.stamped i);
  room = λ i d j h. b.room i d j (a.room i d (j + l) (omega (arith, h)));
  potential = omega (arith, a.potential, b.potential);
  few = omega (arith, a.few, b.few);
}

pub grown_more : (k l : ℕ) (types : List TypeShape) (old new : List Node) → k ≤ l → AreGrown k types old new → AreGrown l types old new
grown_more k l types old new m a = record {
  count = a.count;
  frames = a.frames;
  lo = a.lo;
  hi = a.hi;
  width = a.width;
  stamped = a.stamped;
  room = λ i d j h. a.room i d j (omega (arith, h));
  potential = omega (arith, a.potential);
  few = omega (arith, a.few);
}

-- one row touched
pub grown_touched : (k : ℕ) (types : List TypeShape) (old new : List Node) (x : ℕ) → x < length old → IsTouched k old new x
    → ((d : Row) → stamped_count (row_at old x d) ≤ stamped_count (row_at new x d)) → Row → AreGrown k types old new
grown_touched k types old new x l t least d =
    let other : (i : ℕ) → i ≢ x → stamped_at new i ≡ stamped_at old i = λ i ne. ⊎_elim
    (λ (p : i < length old). stamped_is new i d (omega (arith, t.count)) ∙ ap stamped_count (t.others i d ne) ∙ sym (stamped_is old i d p))
    (λ (p : length old ≤ i). stamped_past new i (omega (arith, t.count)) ∙ sym (stamped_past old i p))
    (cases_lt i (length old)) in
    let a : stamped_at new x ≡ stamped_count (row_at new x d) = stamped_is new x d (omega (arith, t.count)) in
    let b : stamped_at old x ≡ stamped_count (row_at old x d) = stamped_is old x d l in
    record {
      count = t.count;
      frames = t.frames;
      lo = t.lo;
      hi = t.hi;
      width = t.width;
      stamped = λ i. ⊎_elim (λ (e : i ≡ x). rw e (omega (arith, least d))) (λ (ne : i ≡ x → ⊥). omega (arith, other i ne)) (cases_eq i x);
      room = λ i d' j h. ⊎_elim
          (λ (e : i ≡ x). subst (λ (y : ℕ). HasRoom (row_at new y d') j) (sym e) (t.room d' j (subst (λ (y : ℕ). HasRoom (row_at old y d') (j + k)) e h)))
          (λ (ne : i ≡ x → ⊥). subst (λ (w : Row). HasRoom w j) (sym (t.others i d' ne)) (omega (arith, h)))
          (cases_eq i x);
      potential = potential_le types old new x k t.count t.frames other (omega (arith, t.stamped d));
      few = stamped_le old new x k t.count other (omega (arith, t.stamped d));
    }

-- the queue
pub waits-append : (xs ys : List ℕ) (i : ℕ) → waits (xs ++ ys) i ≡ (waits xs i || waits ys i)
waits-append [] ys i = refl
waits-append (x ∷ xs) ys i = ap (λ b. eqb x i || b) (waits-append xs ys i)
    ∙ (elim (eqb x i) as (λ b. (b || (waits xs i || waits ys i)) ≡ ((b || waits xs i) || waits ys i)) [ true ↦ refl | false ↦ refl ])

pub over_grown : (k : ℕ) (types : List TypeShape) (old new : List Node) (i : ℕ) → AreGrown k types old new → IsOver types old i → IsOver types new i
over_grown k types old new i a h =
    let b : half_at types new i ≡ half_at types old i = half_same types old new a.frames i in
    omega (arith, a.stamped i)

pub queue_on : (asked asked' : ℕ → Type 0) (types : List TypeShape) (old mid new : List Node) (queue queue' queue'' : Queue) → ((i : ℕ) → IsOver types mid i → IsOver types new i) →
    KeepsQueue asked types old mid queue queue' → KeepsQueue asked' types mid new queue' queue'' → KeepsQueue (λ i. (asked i) ⊎ (asked' i)) types old new queue queue''
queue_on asked asked' types old mid new queue queue' queue'' grown a b xs held =
    let p = a xs held in
    let q = b (xs ++ p.0) p.1.held in
    let e : (xs ++ p.0) ++ q.0 ≡ xs ++ (p.0 ++ q.0) = append_assoc xs p.0 q.0 in (
      p.0 ++ q.0,
      record {
        held = subst (λ (zs : List ℕ). Queues new queue'' zs) e q.1.held;
        over = λ i w. ⊎_elim (λ (u : waits p.0 i ≡ true). grown i (p.1.over i u)) (λ (u : waits q.0 i ≡ true). q.1.over i u) (or_cases (waits p.0 i) (waits q.0 i) (sym (waits-append p.0 q.0 i) ∙ w));
      },
      λ i o. subst (λ (zs : List ℕ). WaitsIfOver types new zs i) e
          (q.2 i (⊎_elim
          (λ (u : (asked i) ⊎ (asked' i)). ⊎_elim (λ (v : asked i). inr (p.2 i (inl v))) (λ (v : asked' i). inl v) u)
          (λ (u : WaitsIfOver types old xs i). inr (p.2 i (inr u)))
          o)),
    )

-- where nothing is over that was not, and the links are those of before
pub queue_same : (asked : ℕ → Type 0) (types : List TypeShape) (old new : List Node) (queue : Queue) → ((i : ℕ) → asked i → ⊥)
    → ((xs : List ℕ) → Queues old queue xs → Queues new queue xs) → ((i : ℕ) → IsOver types new i → IsOver types old i)
    → KeepsQueue asked types old new queue queue
queue_same asked types old new queue none links over xs held = (
  [],
  record { held = subst (λ (zs : List ℕ). Queues new queue zs) (sym (append-nil xs)) (links xs held); over = λ i w. absurd (false≢true w) },
  λ i o. ⊎_elim (λ (u : asked i). absurd (none i u)) (λ (u : WaitsIfOver types old xs i). λ w. subst (λ (zs : List ℕ). waits zs i ≡ true) (sym (append-nil xs)) (u (over i w))) o,
)

-- the test
pub over_test : (stamped half : ℕ) → half < stamped → IsTrue (nat_lt half (stamped - half)) ↔ (half + half < stamped)
over_test stamped half l = (λ h. let k : half < stamped - half = ltb-true half (stamped - half) h in omega arith, λ h. lt-ltb half (stamped - half) (omega arith))

pub over_none : (stamped half : ℕ) → stamped ≤ half → IsTrue (nat_lt half stamped) ↔ (half + half < stamped)
over_none stamped half l = (λ h. let k : half < stamped = ltb-true half stamped h in absurd (omega arith), λ h. absurd (omega arith))

-- one node pushed
pub queue_pushed : (types : List TypeShape) (old new : List Node) (queue queue' : Queue) (id : ℕ) → rows_of new ≡ rows_of old
    → frames_of new ≡ frames_of old → IsOver types old id → ((xs : List ℕ) → Queues old queue xs → Queues new queue' (xs ++ id ∷ [])) →
    KeepsQueue (λ i. i ≡ id) types old new queue queue'
queue_pushed types old new queue queue' id rows frames over held xs h = (
  id ∷ [],
  record {
    held = held xs h;
    over = λ i w. let e : id ≡ i = ⊎_elim (λ (q : eqb id i ≡ true). eqb-true id i q) (λ (q : false ≡ true). absurd (false≢true q))
        (or_cases (eqb id i) false w) in subst (λ (k : ℕ). IsOver types new k) e (over_same types new old (sym rows) (sym frames) id over);
  },
  λ i o w. waits-push xs id i ∙ ⊎_elim
      (λ (e : i ≡ id). or_right (waits xs i) (eqb id i) (eq-eqb id i (sym e)))
      (λ (u : WaitsIfOver types old xs i). or_left (waits xs i) (eqb id i) (u (over_same types old new rows frames i w)))
      o,
)

-- no node pushed, since the one asked for waits or is not over
pub queue_kept : (types : List TypeShape) (old : List Node) (queue : Queue) (id : ℕ)
    → ((xs : List ℕ) → Queues old queue xs → WaitsIfOver types old xs id) → KeepsQueue (λ i. i ≡ id) types old old queue queue
queue_kept types old queue id closed xs h = (
  [],
  record { held = subst (λ (zs : List ℕ). Queues old queue zs) (sym (append-nil xs)) h; over = λ i w. absurd (false≢true w) },
  λ i o w. subst (λ (zs : List ℕ). waits zs i ≡ true) (sym (append-nil xs))
      (⊎_elim (λ (e : i ≡ id). subst (λ (k : ℕ). waits xs k ≡ true) (sym e) (closed xs h (subst (λ (k : ℕ). IsOver types old k) e w))) (λ (u : WaitsIfOver types old xs i). u w) o),
)

-- what is queued
pub only_none : (named : ℕ → Type 0) (old new : List Node) (queue : Queue) → ((xs : List ℕ) → Queues old queue xs → Queues new queue xs) → HasQueuedOnly named old new queue queue
only_none named old new queue links xs h = ([], subst (λ (zs : List ℕ). Queues new queue zs) (sym (append-nil xs)) (links xs h), λ i w. absurd (false≢true w))

pub only_one : (old new : List Node) (queue queue' : Queue) (id : ℕ) → ((xs : List ℕ) → Queues old queue xs → Queues new queue' (xs ++ id ∷ [])) → HasQueuedOnly (λ i. i ≡ id) old new queue queue'
only_one old new queue queue' id held xs h = (
  id ∷ [],
  held xs h,
  λ i w. sym (⊎_elim (λ (q : eqb id i ≡ true). eqb-true id i q) (λ (q : false ≡ true). absurd (false≢true q)) (or_cases (eqb id i) false w)),
)

pub only_weaker : (named named' : ℕ → Type 0) (old new : List Node) (queue queue' : Queue) → ((i : ℕ) → named i → named' i)
    → HasQueuedOnly named old new queue queue' → HasQueuedOnly named' old new queue queue'
only_weaker named named' old new queue queue' to k xs h = let q = k xs h in (q.0, q.1, λ i w. to i (q.2 i w))

pub only_on : (named : ℕ → Type 0) (old mid new : List Node) (queue queue' queue'' : Queue) → HasQueuedOnly named old mid queue queue'
    → HasQueuedOnly named mid new queue' queue'' → HasQueuedOnly named old new queue queue''
only_on named old mid new queue queue' queue'' a b xs h =
    let p = a xs h in
    let q = b (xs ++ p.0) p.1 in (
      p.0 ++ q.0,
      subst (λ (zs : List ℕ). Queues new queue'' zs) (append_assoc xs p.0 q.0) q.1,
      λ i w. ⊎_elim (λ (u : waits p.0 i ≡ true). p.2 i u) (λ (u : waits q.0 i ≡ true). q.2 i u) (or_cases (waits p.0 i) (waits q.0 i) (sym (waits-append p.0 q.0 i) ∙ w)),
    )

-- What the outcome of a run keeps.
use Rattle.std.proofs.Common.{suc, ◌≡◌, ◌≢◌, inl, inr, ℕ, ◌+◌, ◌-◌, ◌<◌, ◌≤◌, min, Bool, true, false, List, [], ◌∷◌, ◌++◌, map, Option, Some, None, refl, sym, ap, ◌∙◌, subst, arith, slice_get}
use Rattle.std.specs.Prelude.{nat_le}
use Rattle.std.specs.Option.{option_map}
use Rattle.std.specs.FinMap.{get}
use Rattle.std.proofs.lemmas.Bool.{le-leb, leb-true}
use Rattle.pst_base.specs.declared.names.Counts.{Counts}
use Rattle.pst_base.specs.declared.names.Name.{Name}
use Rattle.pst_base.specs.declared.names.RunNo.{RunNo}
use Rattle.pst_base.specs.declared.names.TypeNo.{TypeNo}
use Rattle.pst_base.specs.Heap.{Heap, Rec, IsWellFormed, type_in}
use Rattle.pst_program.specs.declared.meaning.Ended.TheVariants.{Stopped}
use Rattle.pst_program.specs.declared.meaning.Value.TheVariants.{Number as ANumber}
use Rattle.pst_program.specs.Syntax.{Procedure, Routines}
use Rattle.pst_program.specs.Meaning.{World, Ending, Normal, Returned, Trapped, Spent, run_body, call, exec}
use Rattle.pst_program.specs.Outcome.{TaskCall, Task, first_world, next_call, in_order, one_call, outcome_of, outcome}
use Rattle.pst_program.specs.Typed.{IsTyped}
use Rattle.pst_program.specs.Sound.{NamesAreFree, CountsBelow, CountsWithin, world_in}
use Rattle.pst_program.specs.Laws.{IsOlder, Ends, CountsFew, CountsGrow, StaysOver, StaysTrapped, IsQueryCall, NamesByRun, RecordsStay, HeapsStay, QueriesRead}
use Rattle.pst_program.specs.Laws.{ExpressionsAreSound, StatementsAreSound, CallsAreSound, FirstLocals, ChargesFall, TurnsSuffice}
use Rattle.pst_program.proofs.Follows.{IsClosed, block_keeps, body_keeps, call_keeps}
use Rattle.pst_program.proofs.Fewer.{Paid, paid_closed, Counted, counted_quiet, counted_closed, Lower, lower_closed, Numbered, numbered_closed, turns_enough}
use Rattle.pst_program.proofs.Growth.{Growing, growing_closed, Sound, sound_closed}
use Rattle.pst_program.proofs.More.{More, ahead, body_more, call_more}
use Rattle.pst_program.proofs.InOrder.{in_order_keeps, in_order_more, in_order-append, next_counts, next_trapped}
use Rattle.pst_program.proofs.Soundness.{value_typed}
use Rattle.pst_program.proofs.Locals.{block_typed, call_sound, first_typed}
use Rattle.pst_program.proofs.Queries.{body_reads, call_reads}

-- how the calls of a task end with so many charges
abbrev runs : Routines → Task → (charges : ℕ) → Heap → Ending
runs r task charges heap = in_order (one_call r) task.calls (first_world task.run charges heap)

one_keeps : (r : Routines) (R : World → World → Type 0) → IsClosed r.shape R → (c : TaskCall) (w : World) → R w (world_in (one_call r c w))
one_keeps r R closed c w = body_keeps r.shape R closed (call r 255) (call_keeps r R closed 255) (slice_get r.procedures c.procedure) (map ANumber c.arguments) w

-- what is closed holds between the first world of a run and its last
run_keeps : (r : Routines) (R : World → World → Type 0) → IsClosed r.shape R → (task : Task) (charges : ℕ) (heap : Heap) → R (first_world task.run charges heap) (world_in (runs r task charges heap))
run_keeps r R c task charges heap = in_order_keeps R c.quiet (one_call r) (one_keeps r R c) task.calls (first_world task.run charges heap)

outcome_heap : (whole : Bool) (o : Ending) → (outcome_of whole o).heap ≡ (world_in o).heap
outcome_heap whole (Normal env w) = refl
outcome_heap whole (Returned v w) = refl
outcome_heap whole (Trapped t line w) = refl
outcome_heap whole (Spent line w) = refl

outcome_counts : (whole : Bool) (o : Ending) → (outcome_of whole o).counts ≡ (world_in o).counts
outcome_counts whole (Normal env w) = refl
outcome_counts whole (Returned v w) = refl
outcome_counts whole (Trapped t line w) = refl
outcome_counts whole (Spent line w) = refl

-- ---- ends

whole_ends : (o : Ending) → (outcome_of true o).end ≢ Stopped
whole_ends (Normal env w) e = absurd (cc)
whole_ends (Returned v w) e = absurd (cc)
whole_ends (Trapped t line w) e = absurd (cc)
whole_ends (Spent line w) e = absurd (cc)

pub ends : (r : Routines) → Ends r
ends r task granted heap le = subst (λ (b : Bool). (outcome_of b (runs r task (min granted task.budget) heap)).end ≢ Stopped)
    (sym (le-leb task.budget granted le)) (whole_ends (runs r task (min granted task.budget) heap))

-- ---- counts

pub few : (r : Routines) → CountsFew r
few r task granted heap =
    let paid : Paid (first_world task.run (min granted task.budget) heap) (world_in (runs r task (min granted task.budget) heap)) =
    run_keeps r Paid (paid_closed r.shape) task (min granted task.budget) heap in
    subst (λ (c : Counts). CountsWithin c (min granted task.budget)) (sym (outcome_counts (nat_le task.budget granted) (runs r task (min granted task.budget) heap)))
    (record { records = omega (arith, paid.records); pointer_writes = omega (arith, paid.pointer_writes); value_writes = omega (arith, paid.value_writes) })

more_counted : (d : ℕ) (o p : Ending) → More d o p → CountsBelow (world_in o).counts (world_in p).counts
more_counted d (Normal env w) p m = subst (λ (p : Ending). CountsBelow w.counts (world_in p).counts) (sym m) (counted_quiet.same w)
more_counted d (Returned v w) p m = subst (λ (p : Ending). CountsBelow w.counts (world_in p).counts) (sym m) (counted_quiet.same w)
more_counted d (Trapped t line w) p m = subst (λ (p : Ending). CountsBelow w.counts (world_in p).counts) (sym m) (counted_quiet.same w)
more_counted d (Spent line w) p m = m

one_more : (r : Routines) (d : ℕ) (c : TaskCall) (w : World) → More d (one_call r c w) (one_call r c (ahead d w))
one_more r d c w =
    body_more d r.shape (call r 255) (call_keeps r Lower (lower_closed r.shape) 255) (call_keeps r Counted (counted_closed r.shape) 255)
    (call_more d r 255) (slice_get r.procedures c.procedure) (map ANumber c.arguments) w

-- the same run with more charges
runs_more : (r : Routines) (task : Task) (c n : ℕ) (heap : Heap) → c ≤ n → More (n - c) (runs r task c heap) (runs r task n heap)
runs_more r task c n heap le =
    let whole : c + (n - c) ≡ n = omega arith in
    subst (λ (x : ℕ). More (n - c) (runs r task c heap) (runs r task x heap)) whole
    (in_order_more (n - c) (one_call r) (one_more r (n - c)) (one_keeps r Counted (counted_closed r.shape)) task.calls (first_world task.run c heap))

pub grow : (r : Routines) → CountsGrow r
grow r task more k n heap le =
    let a : ℕ = min k task.budget in
    let b : ℕ = min n task.budget in
    let less : min k task.budget ≤ min n task.budget = omega arith in
    let all : Ending = in_order (one_call r) (task.calls ++ more) (first_world task.run b heap) in
    let below : CountsBelow (world_in (runs r task a heap)).counts (world_in (runs r task b heap)).counts =
    more_counted (b - a) (runs r task a heap) (runs r task b heap) (runs_more r task a b heap less) in
    let on : CountsBelow (world_in (runs r task b heap)).counts (world_in (next_call (runs r task b heap) (in_order (one_call r) more))).counts =
    next_counts (runs r task b heap) (in_order (one_call r) more) (in_order_keeps Counted counted_quiet (one_call r) (one_keeps r Counted (counted_closed r.shape)) more) in
    let joined : CountsBelow (world_in (runs r task a heap)).counts (world_in (next_call (runs r task b heap) (in_order (one_call r) more))).counts =
    counted_quiet.joined (world_in (runs r task a heap)) (world_in (runs r task b heap))
    (world_in (next_call (runs r task b heap) (in_order (one_call r) more))) below on in
    let whole : CountsBelow (world_in (runs r task a heap)).counts (world_in all).counts =
    subst (λ (o : Ending). CountsBelow (world_in (runs r task a heap)).counts (world_in o).counts)
    (sym (in_order-append (one_call r) task.calls more (first_world task.run b heap))) joined in
    subst (λ (c : Counts). CountsBelow c (outcome_of (nat_le task.budget n) all).counts) (sym (outcome_counts (nat_le task.budget k) (runs r task a heap)))
    (subst (λ (c : Counts). CountsBelow (world_in (runs r task a heap)).counts c) (sym (outcome_counts (nat_le task.budget n) all)) whole)

-- ---- over

over_from : (d : ℕ) (b : Bool) (o p : Ending) → More d o p → (outcome_of false o).end ≢ Stopped → outcome_of b p ≡ outcome_of false o
over_from d b (Normal env w) p m ended = ap (outcome_of b) m
over_from d b (Returned v w) p m ended = ap (outcome_of b) m
over_from d b (Trapped t line w) p m ended = ap (outcome_of b) m
over_from d b (Spent line w) p m ended = absurd (ended refl)

pub over : (r : Routines) → StaysOver r
over r task k n heap le ended =
    elim (nat_le task.budget k) as (λ b. nat_le task.budget k ≡ b → (outcome_of b (runs r task (min k task.budget) heap)).end ≢ Stopped
    → outcome r task n heap ≡ outcome_of b (runs r task (min k task.budget) heap)) [
      | true ↦ λ is e.
          let used : task.budget ≤ k = leb-true task.budget k is in
          let same : min n task.budget ≡ min k task.budget = omega arith in
          let all : nat_le task.budget n ≡ true = le-leb task.budget n (omega arith) in
          ap (λ b. outcome_of b (runs r task (min n task.budget) heap)) all ∙ ap (λ c. outcome_of true (runs r task c heap)) same
      | false ↦ λ is e.
          let less : min k task.budget ≤ min n task.budget = omega arith in
          over_from (min n task.budget - min k task.budget) (nat_le task.budget n) (runs r task (min k task.budget) heap)
          (runs r task (min n task.budget) heap) (runs_more r task (min k task.budget) (min n task.budget) heap less) e
    ] refl ended

pub trapped : (r : Routines) → StaysTrapped r
trapped r task more k heap t e =
    let w = first_world task.run (min k task.budget) heap in
    ap (outcome_of (nat_le task.budget k)) (in_order-append (one_call r) task.calls more w ∙ next_trapped (nat_le task.budget k) (in_order (one_call r) task.calls w) (in_order (one_call r) more) t e)

-- ---- records

typed_from_get : (h : Heap) (n : Name) (v : Rec) → get h n ≡ Some v → type_in h n ≡ Some v.ty
typed_from_get h n v e = ap (option_map (λ (r : Rec). r.ty)) e

-- a record behind a type
record Behind (h : Heap) (n : Name) : Type 0 where
  rec : Rec
  at : get h n ≡ Some rec

behind : (h : Heap) (n : Name) (ty : TypeNo) (o : Option Rec) → get h n ≡ o → option_map (λ (r : Rec). r.ty) o ≡ Some ty → Behind h n
behind h n ty None e t = absurd (cc)
behind h n ty (Some v) e t = record { rec = v; at = e }

older_fresh_from : (h : Heap) (run : RunNo) (k : ℕ) (o : Option Rec) → IsOlder h run.0 → get h (record { run = run; ordinal = k }) ≡ o → option_map (λ (r : Rec). r.ty) o ≡ None
older_fresh_from h run k None older e = refl
older_fresh_from h run k (Some v) older e = absurd (let below : run.0 < run.0 = older (record { run = run; ordinal = k }) v e in omega arith)

-- where all records are of earlier runs, the names of this run are free
pub older_fresh : (h : Heap) (run : RunNo) → IsOlder h run.0 → NamesAreFree h run 0
older_fresh h run older k le =
    let named : Name = record { run = run; ordinal = k } in
    older_fresh_from h run k (get h named) older refl

pub names : (r : Routines) → NamesByRun r
names r task granted heap older n v e =
    let c : ℕ = min granted task.budget in
    let at : get (world_in (runs r task c heap)).heap n ≡ Some v = ap (λ h. get h n) (sym (outcome_heap (nat_le task.budget granted) (runs r task c heap))) ∙ e in
    let grown = run_keeps r Growing (growing_closed r.shape) task c heap (older_fresh heap task.run older) in
    elim (grown.1.added n v.ty (typed_from_get (world_in (runs r task c heap)).heap n v at)) [
      | inl before ↦ let b = behind heap n v.ty (get heap n) refl before in let low : n.run.0 < task.run.0 = older n b.rec b.at in omega arith
      | inr new ↦ let same : n.run.0 ≡ task.run.0 = ap (λ (x : RunNo). x.0) new.run in omega arith
    ]

pub stay : (r : Routines) → RecordsStay r
stay r task granted heap fresh =
    let c : ℕ = min granted task.budget in
    let o : Ending = runs r task c heap in
    let grown = run_keeps r Growing (growing_closed r.shape) task c heap fresh in
    let numbered : (world_in o).made + 0 ≡ 0 + (world_in o).counts.records = run_keeps r Numbered (numbered_closed r.shape) task c heap in
    let heaps : (outcome r task granted heap).heap ≡ (world_in o).heap = outcome_heap (nat_le task.budget granted) o in
    let counts : (outcome r task granted heap).counts ≡ (world_in o).counts = outcome_counts (nat_le task.budget granted) o in
    let records : (outcome r task granted heap).counts.records ≡ (world_in o).counts.records = ap (λ (c : Counts). c.records) counts in
    record {
      kept = λ n ty e. ap (λ h. type_in h n) heaps ∙ grown.1.kept n ty e;
      added = λ n ty e. elim (grown.1.added n ty (ap (λ h. type_in h n) (sym heaps) ∙ e)) [
        | inl before ↦ inl before
        | inr new ↦ let below : n.ordinal < (world_in o).made = new.below in inr (new.run, omega arith)
      ];
    }

pub well : (r : Routines) → HeapsStay r
well r task granted heap w fresh =
    let c : ℕ = min granted task.budget in
    subst (IsWellFormed r.shape) (sym (outcome_heap (nat_le task.budget granted) (runs r task c heap)))
    (run_keeps r (Sound r.shape) (sound_closed r.shape) task c heap (record { well_formed = w; fresh = fresh })).0.well_formed

-- ---- of a well-typed program

one_reads : (r : Routines) → IsTyped r → (c : TaskCall) → IsQueryCall r c → (w : World) → (world_in (one_call r c w)).heap ≡ w.heap
one_reads r t c q w =
    subst (λ (o : Option Procedure). (world_in (run_body r.shape (call r 255) o (map ANumber c.arguments) w)).heap ≡ w.heap) (sym q.found)
    (body_reads r (call r 255) (call_reads r t 255) q.procedure q.query (t.procedures c.procedure q.procedure q.found).body (map ANumber c.arguments) w)

next_reads : (go : World → Ending) (w : World) → ((v : World) → (world_in (go v)).heap ≡ v.heap) → (o : Ending) → (world_in o).heap ≡ w.heap → (world_in (next_call o go)).heap ≡ w.heap
next_reads go w rest (Normal env v) e = rest v ∙ e
next_reads go w rest (Returned x v) e = rest v ∙ e
next_reads go w rest (Trapped kind line v) e = e
next_reads go w rest (Spent line v) e = e

all_read : (r : Routines) → IsTyped r → (calls : List TaskCall) → ((i : ℕ) (c : TaskCall) → slice_get calls i ≡ Some c → IsQueryCall r c)
    → (w : World) → (world_in (in_order (one_call r) calls w)).heap ≡ w.heap
all_read r t [] are w = refl
all_read r t (c ∷ calls) are w = next_reads (in_order (one_call r) calls) w (all_read r t calls (λ i d e. are (suc i) d e)) (one_call r c w) (one_reads r t c (are 0 c refl) w)

pub reads : (r : Routines) → IsTyped r → QueriesRead r
reads r t task are granted heap =
    let c : ℕ = min granted task.budget in
    outcome_heap (nat_le task.budget granted) (runs r task c heap) ∙ all_read r t task.calls are (first_world task.run c heap)

pub expressions : (r : Routines) → ExpressionsAreSound r
expressions r kinds e sort env heap w are is = value_typed heap r.shape kinds e sort env w are is

pub statements : (r : Routines) → IsTyped r → StatementsAreSound r
statements r t p d actions env w typed sound are =
    let keeps = call_keeps r (Sound r.shape) (sound_closed r.shape) d in
    let after = block_keeps r.shape (Sound r.shape) (sound_closed r.shape) (call r d) keeps actions env w sound in
    record { world = after.0; grown = after.1; locals = block_typed r (call r d) keeps (call_sound r t d) p actions typed env w sound are }

pub calls : (r : Routines) → IsTyped r → CallsAreSound r
calls r t d q callee vs line w at sound are = call_sound r t d q callee at vs line w sound are

pub first : FirstLocals
first heap p vs are = first_typed heap p.kinds p.arguments vs are

-- ---- charges

pub fall : (r : Routines) → ChargesFall r
fall r d actions env w = block_keeps r.shape Lower (lower_closed r.shape) (call r d) (call_keeps r Lower (lower_closed r.shape) d) actions env w

pub suffice : (r : Routines) → TurnsSuffice r
suffice r d m n e body line env w le le' =
    turns_enough m n r.shape e (exec r.shape (call r d) body) line (block_keeps r.shape Lower (lower_closed r.shape) (call r d) (call_keeps r Lower (lower_closed r.shape) d) body) env w le le'

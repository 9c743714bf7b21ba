-- What the outcome of a run keeps, whatever the program.
use Rattle.std.specs.Prelude.{◌≡◌, ◌≢◌, ◌⊎◌, ℕ, ◌+◌, ◌<◌, ◌≤◌, ◌++◌, min, List, Some, None, slice_get, true}
use Rattle.std.specs.FinMap.{get}
use Rattle.pst_base.specs.declared.names.Kind.{Kind}
use Rattle.pst_base.specs.declared.names.Name.{Name}
use Rattle.pst_base.specs.declared.names.TypeNo.{TypeNo}
use Rattle.pst_base.specs.declared.names.TrapKind.TheVariants.{Null as NullTrap, InDegree}
use Rattle.pst_base.specs.declared.shape.TypeShape.{TypeShape}
use Rattle.pst_base.specs.Shape.{IsTarget, type_at, field_kind}
use Rattle.pst_base.specs.Heap.{Heap, Rec, IsWellFormed, type_in, kind_in}
use Rattle.pst_base.specs.declared.names.Trap.{Trap}
use Rattle.pst_program.specs.declared.meaning.Ended.TheVariants.{Stopped, Trapped as EndedEarly}
use Rattle.pst_program.specs.declared.meaning.Value.{Value}
use Rattle.pst_program.specs.declared.meaning.Value.TheVariants.{Number as ANumber, Truth as ATruth, Null as ANull, Record as ARecord}
use Rattle.pst_program.specs.Syntax.{Expr, Actions, Procedure, Routines}
use Rattle.pst_program.specs.Value.{Env, Gives, content, load, value}
use Rattle.pst_program.specs.Meaning.{World, Normal, Trapped, Does, choose, value_written, pointer_written, is_full, is_target, write, turns, first_env, exec, call}
use Rattle.pst_program.specs.Outcome.{TaskCall, Task, Outcome, outcome}
use Rattle.pst_program.specs.Typed.{Sort, sort_of, IsTypedBlock, parameters_of}
use Rattle.pst_program.specs.Sound.{NamesAreFree, IsSoundWorld, Grown, IsOf, AreOf, AnswerIsOf, EndingIsOf, CallIsOf, CountsBelow, CountsWithin, world_in}

-- no record of the heap was made by this run or a later one
abbrev pub IsOlder : Heap → (run : ℕ) → Type 0
IsOlder heap run = (n : Name) (r : Rec) → get heap n ≡ Some r → n.run.0 < run

-- the whole budget brings a run to an end
abbrev pub Ends : Routines → Type 0
Ends r = (task : Task) (granted : ℕ) (heap : Heap) → task.budget ≤ granted → (outcome r task granted heap).end ≢ Stopped

-- each charge counts for one at most
abbrev pub CountsFew : Routines → Type 0
CountsFew r = (task : Task) (granted : ℕ) (heap : Heap) → CountsWithin (outcome r task granted heap).counts (min granted task.budget)

-- more charges and more calls count no less
abbrev pub CountsGrow : Routines → Type 0
CountsGrow r = (task : Task) (more : List TaskCall) (k n : ℕ) (heap : Heap) → k ≤ n → CountsBelow (outcome r task k heap).counts (outcome r (record task { calls = task.calls ++ more }) n heap).counts

-- more charges change nothing of a run that ended
abbrev pub StaysOver : Routines → Type 0
StaysOver r = (task : Task) (k n : ℕ) (heap : Heap) → k ≤ n → (outcome r task k heap).end ≢ Stopped → outcome r task n heap ≡ outcome r task k heap

-- more calls change nothing of a run that has trapped
abbrev pub StaysTrapped : Routines → Type 0
StaysTrapped r = (task : Task) (more : List TaskCall) (k : ℕ) (heap : Heap) (t : Trap) → (outcome r task k heap).end ≡ EndedEarly t → outcome r (record task { calls = task.calls ++ more }) k heap ≡ outcome r task k heap

-- new records bear the run's number
abbrev pub NamesByRun : Routines → Type 0
NamesByRun r = (task : Task) (granted : ℕ) (heap : Heap) → IsOlder heap task.run.0 → IsOlder (outcome r task granted heap).heap (task.run.0 + 1)

-- on a heap where no record bears the run's number: each record stays, with its type, and what is added are the records counted, numbered from 0
pub record Adds (task : Task) (heap : Heap) (o : Outcome) : Type 0 where
  pub kept : (n : Name) (ty : TypeNo) → type_in heap n ≡ Some ty → type_in o.heap n ≡ Some ty
  pub added : (n : Name) (ty : TypeNo) → type_in o.heap n ≡ Some ty → (type_in heap n ≡ Some ty) ⊎ ((n.run ≡ task.run) × (n.ordinal < o.counts.records))

abbrev pub RecordsStay : Routines → Type 0
RecordsStay r = (task : Task) (granted : ℕ) (heap : Heap) → NamesAreFree heap task.run 0 → Adds task heap (outcome r task granted heap)

-- a well-formed heap stays well formed
abbrev pub HeapsStay : Routines → Type 0
HeapsStay r = (task : Task) (granted : ℕ) (heap : Heap) → IsWellFormed r.shape heap → NamesAreFree heap task.run 0 → IsWellFormed r.shape (outcome r task granted heap).heap

-- no statement raises the charges left
abbrev pub ChargesFall : Routines → Type 0
ChargesFall r = (d : ℕ) (actions : Actions) (env : Env) (w : World) → (world_in (exec r.shape (call r d) actions env w)).charges ≤ w.charges

-- a loop that is allowed more turns than there are charges does the same
abbrev pub TurnsSuffice : Routines → Type 0
TurnsSuffice r = (d m n : ℕ) (e : Expr) (body : Actions) (line : ℕ) (env : Env) (w : World) → w.charges ≤ m → w.charges ≤ n → turns m r.shape e (exec r.shape (call r d) body) line env w ≡ turns n r.shape e (exec r.shape (call r d) body) line env w

-- ---- of a well-typed program

-- the call is one of a query
pub record IsQueryCall (r : Routines) (c : TaskCall) : Type 0 where
  pub procedure : Procedure
  pub found : slice_get r.procedures c.procedure ≡ Some procedure
  pub query : procedure.query ≡ true

-- queries write nothing
abbrev pub QueriesRead : Routines → Type 0
QueriesRead r = (task : Task) → ((i : ℕ) (c : TaskCall) → slice_get task.calls i ≡ Some c → IsQueryCall r c) → (granted : ℕ) (heap : Heap) → (outcome r task granted heap).heap ≡ heap

-- each expression gives a value of its sort or traps
abbrev pub ExpressionsAreSound : Routines → Type 0
ExpressionsAreSound r = (kinds : List Kind) (e : Expr) (sort : Sort) (env : Env) (heap : Heap) → IsWellFormed r.shape heap → AreOf heap kinds env → sort_of r.shape kinds e ≡ Some sort → AnswerIsOf heap sort (value r.shape e env heap)

-- what statements leave of a world in which the run can go on, with d more calls that may become active
pub record LeavesSound (r : Routines) (p : Procedure) (d : ℕ) (actions : Actions) (env : Env) (w : World) : Type 0 where
  pub world : IsSoundWorld r.shape (world_in (exec r.shape (call r d) actions env w))
  pub grown : Grown w (world_in (exec r.shape (call r d) actions env w))
  pub locals : EndingIsOf p.kinds p.result (exec r.shape (call r d) actions env w)

abbrev pub StatementsAreSound : Routines → Type 0
StatementsAreSound r = (p : Procedure) (d : ℕ) (actions : Actions) (env : Env) (w : World) → IsTypedBlock r p actions → IsSoundWorld r.shape w → AreOf w.heap p.kinds env → LeavesSound r p d actions env w

-- what a call leaves of it, where the arguments are of the kinds of the parameters
abbrev pub CallsAreSound : Routines → Type 0
CallsAreSound r = (d q : ℕ) (callee : Procedure) (vs : List Value) (line : ℕ) (w : World) → slice_get r.procedures q ≡ Some callee → IsSoundWorld r.shape w → AreOf w.heap (parameters_of callee) vs → CallIsOf callee.result (call r d q vs line w)

-- the locals as a procedure begins
abbrev pub FirstLocals : Type 0
FirstLocals = (heap : Heap) (p : Procedure) (vs : List Value) → AreOf heap (parameters_of p) vs → AreOf heap p.kinds (first_env p.kinds vs)

-- ---- the guards of loads, writes and new records, which a well-typed program never meets

-- a write of what the field can hold: a record's name only where its in-degree has room
abbrev pub plain_write : List TypeShape → Name → (slot : ℕ) → Value → (line : ℕ) → Does
plain_write shape n slot (ANumber x) line env w = Normal env (value_written w n slot x)
plain_write shape n slot ANull line env w = Normal env (pointer_written w n slot None)
plain_write shape n slot (ARecord y) line env w = choose (is_full shape w.heap n slot y) (Trapped InDegree line w) (Normal env (pointer_written w n slot (Some y)))
plain_write shape n slot (ATruth b) line env w = Trapped NullTrap line w

-- a write of a value of the field's kind is refused only for the in-degree
abbrev pub FittingWrites : Type 0
FittingWrites = (shape : List TypeShape) (kind : Kind) (n : Name) (slot : ℕ) (v : Value) (line : ℕ) (env : Env) (w : World) → kind_in shape w.heap n slot ≡ Some kind → IsOf w.heap kind v → write shape n slot v line env w ≡ plain_write shape n slot v line env w

-- a load of a field that the record's type has gives what the field holds
abbrev pub FittingLoads : Type 0
FittingLoads = (shape : List TypeShape) (heap : Heap) (n : Name) (ty : TypeNo) (slot : ℕ) (kind : Kind) → type_in heap n ≡ Some ty → field_kind (type_at shape ty) slot ≡ Some kind → load shape heap slot (ARecord n) ≡ Gives (content (Some kind) heap n slot)

-- a new record of a type that is not the root's is made
abbrev pub FittingMakes : Type 0
FittingMakes = (shape : List TypeShape) (ty : TypeNo) → IsTarget shape ty → is_target shape ty ≡ true

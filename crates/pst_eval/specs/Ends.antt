-- What the evaluator's ends mean, and how parts of a program end.
use Rattle.std.specs.Prelude.{◌≡◌, ℕ, ◌+◌, List, [], ◌∷◌, map, max, slice_get, Bool, true, false, Option, Some, None, Result, Ok, Err}
use Rattle.std.specs.Option.{option_map}
use Rattle.pst_base.specs.declared.names.Name.{Name}
use Rattle.pst_base.specs.declared.names.TypeNo.{TypeNo}
use Rattle.pst_base.specs.Heap.{OrdinaryHeap}
use Rattle.pst_program.specs.declared.block.TypedBlock.{TypedBlock, size-TypedBlock}
use Rattle.pst_program.specs.declared.block.TypedForm.{TypedForm}
use Rattle.pst_program.specs.declared.block.TypedStatement.{TypedStatement}
use Rattle.pst_program.specs.declared.calls.ProcCall.{ProcCall}
use Rattle.pst_program.specs.declared.typed.Typed.{Typed}
use Rattle.pst_program.specs.declared.program.Program.{Program}
use Rattle.pst_program.specs.declared.program.TypedProc.{TypedProc}
use Rattle.pst_program.specs.declared.meaning.Value.{Value}
use Rattle.pst_program.specs.Syntax as syntax
use Rattle.pst_program.specs.Syntax.{Action}
use Rattle.pst_program.specs.Value.{Env, number_of, index_of}
use Rattle.pst_program.specs.Meaning.{World, Ending, Calls, call, call_with, exec, exec_action, turns, run_body, if_else, with_index, with_answer, set_local, set_root, store_field, store_element, make, print_value, return_value}
use Rattle.pst_program.specs.Outcome.{calls_of, in_order, one_call, task_call}
use Rattle.pst_program.specs.View.{expr_of, action_of, actions_of, routines_of}
use Rattle.pst_eval.specs.declared.tally.Tally.{Tally}
use Rattle.pst_eval.specs.declared.tally.End.{End}
use Rattle.pst_eval.specs.Answers.{evaluated}
use Rattle.pst_eval.specs.Work.{world_of, ending_of, write_end}
use Rattle.pst_eval.specs.declared.work.Work.{Work}
use Rattle.pst_eval.specs.Flows.{choice_of}

-- the end of all, or what goes on where there is none
abbrev pub last_or : Option End → (World → Ending) → World → Ending
last_or None go w = go w
last_or (Some end) go w = ending_of end [] w

-- no body of a procedure is deeper
abbrev pub deepest : List TypedProc → ℕ
deepest [] = 0
deepest (p ∷ ps) = max (size-TypedBlock p.body) (deepest ps)

-- what follows a condition: one of two, or the end that it came to
abbrev pub goes_on : Result Bool End → (first other : Env → World → Ending) → Env → World → Ending
goes_on (Ok true) first other env w = first env w
goes_on (Ok false) first other env w = other env w
goes_on (Err end) first other env w = ending_of end env w

-- a condition decides what follows, whatever follows either way
abbrev pub Chooses : Typed → (line : ℕ) → Env → OrdinaryHeap → (old : Work) → Option Bool → (new : Work) → Type 0
Chooses e line env h old result new =
    (first other : Env → World → Ending) → if_else h.shape (expr_of e) first other line env (world_of h old.tally) ≡ goes_on (choice_of result new.end) first other env (world_of h new.tally)

-- a statement that holds no other and calls nothing
abbrev pub IsSimple : Action → Type 0
IsSimple (syntax.Set x e) = Unit {0}
IsSimple (syntax.SetRoot slot e) = Unit {0}
IsSimple (syntax.Store o slot e) = Unit {0}
IsSimple (syntax.StoreIndexed o slot elements i e) = Unit {0}
IsSimple (syntax.New x ty) = Unit {0}
IsSimple (syntax.Print e) = Unit {0}
IsSimple (syntax.Return e) = Unit {0}
IsSimple (syntax.Call x p es) = ⊥
IsSimple (syntax.If e first) = ⊥
IsSimple (syntax.Either e first other) = ⊥
IsSimple (syntax.While e body) = ⊥

-- the procedure with a number
abbrev pub procedure_in : Program → (procedure : ℕ) → Option TypedProc
procedure_in program procedure = slice_get program.procedures.items.items procedure

-- ---- how single statements end, on the heap and with the tally of a run

-- an assignment to a local
abbrev pub local_end : (local : ℕ) → Typed → (line : ℕ) → Env → OrdinaryHeap → Tally → Ending
local_end local e line env h t = set_local h.shape local (expr_of e) line env (world_of h t)

-- an assignment to a field of the root
abbrev pub root_end : (slot : ℕ) → Typed → (line : ℕ) → Env → OrdinaryHeap → Tally → Ending
root_end slot e line env h t = set_root h.shape slot (expr_of e) line env (world_of h t)

-- an assignment to a field of a record
abbrev pub store_end : (object : Typed) → (slot : ℕ) → Typed → (line : ℕ) → Env → OrdinaryHeap → Tally → Ending
store_end object slot e line env h t = store_field h.shape (expr_of object) slot (expr_of e) line env (world_of h t)

-- an assignment to an element of an array: the slot of the first one, and how many there are
abbrev pub element_store_end : (object : Typed) → (slot elements : ℕ) → (index e : Typed) → (line : ℕ) → Env → OrdinaryHeap → Tally → Ending
element_store_end object slot elements index e line env h t =
    store_element h.shape (expr_of object) slot elements (expr_of index) (expr_of e) line env (world_of h t)

-- a write of the element with an index, if it is one, of a record: the value of an expression is evaluated and written
abbrev pub element_write_end : Name → (slot : ℕ) → (index : Option ℕ) → Typed → (line : ℕ) → Env → OrdinaryHeap → Tally → Ending
element_write_end name slot index e line env h t =
    with_index index line (world_of h t) (λ k. with_answer (evaluated e env h) line (world_of h t) (λ v. write_end name (slot + k) v line env h t))

-- the same, where the index is evaluated first
abbrev pub indexed_write_end : Name → (slot elements : ℕ) → (index e : Typed) → (line : ℕ) → Env → OrdinaryHeap → Tally → Ending
indexed_write_end name slot elements index e line env h t =
    with_answer (evaluated index env h) line (world_of h t) (λ i. element_write_end name slot (index_of elements (number_of i)) e line env h t)

-- a new record, which goes into a local
abbrev pub make_end : (local : ℕ) → TypeNo → (line : ℕ) → Env → OrdinaryHeap → Tally → Ending
make_end local ty line env h t = make h.shape local ty line env (world_of h t)

-- a number is printed
abbrev pub print_end : Typed → (line : ℕ) → Env → OrdinaryHeap → Tally → Ending
print_end e line env h t = print_value h.shape (expr_of e) line env (world_of h t)

-- a return, with a value or without one
abbrev pub return_end : Option Typed → (line : ℕ) → Env → OrdinaryHeap → Tally → Ending
return_end e line env h t = return_value h.shape (option_map expr_of e) line env (world_of h t)

-- a statement that holds no other ends so, whatever calls come to
abbrev pub IsStepEnd : TypedForm → (line : ℕ) → Env → OrdinaryHeap → Tally → Ending → Type 0
IsStepEnd form line env h t ending = (calls : Calls) → ending ≡ exec_action h.shape calls (action_of form) line env (world_of h t)

-- ---- how parts of a program end, where so many more calls may become active, with the heap and the work of a run

-- a call
abbrev pub calls_in : Program → (deep : ℕ) → Calls
calls_in program deep = call (routines_of program) deep

-- a block
abbrev pub block_end : Program → (deep : ℕ) → TypedBlock → Env → OrdinaryHeap → Work → Ending
block_end program deep block env h work = exec program.shape (calls_in program deep) (actions_of block) env (world_of h work.tally)

-- a statement
abbrev pub statement_end : Program → (deep : ℕ) → TypedStatement → Env → OrdinaryHeap → Work → Ending
statement_end program deep s env h work = exec_action program.shape (calls_in program deep) (action_of s.form) s.line env (world_of h work.tally)

-- the call of a procedure by a statement at this line, with the local that its result goes into
abbrev pub called_end : Program → (deep : ℕ) → (procedure : ℕ) → List Typed → (line : ℕ) → (local : Option ℕ) → Env → OrdinaryHeap → Work → Ending
called_end program deep procedure es line local env h work =
    call_with program.shape local (map expr_of es) (λ vs w. calls_in program deep procedure vs line w) line env (world_of h work.tally)

-- a loop
abbrev pub loop_end : Program → (deep : ℕ) → Typed → TypedBlock → (line : ℕ) → Env → OrdinaryHeap → Work → Ending
loop_end program deep e body line env h work =
    turns work.tally.charges program.shape (expr_of e) (exec program.shape (calls_in program deep) (actions_of body)) line env (world_of h work.tally)

-- a procedure with these arguments, from a statement at this line
abbrev pub call_end : Program → (deep : ℕ) → (procedure : ℕ) → List Value → (line : ℕ) → OrdinaryHeap → Work → Ending
call_end program deep procedure vs line h work = calls_in program deep procedure vs line (world_of h work.tally)

-- its body
abbrev pub body_end : Program → (deep : ℕ) → (procedure : ℕ) → List Value → OrdinaryHeap → Work → Ending
body_end program deep procedure vs h work = run_body program.shape (calls_in program deep) (slice_get (routines_of program).procedures procedure) vs (world_of h work.tally)

-- a call of a run
abbrev pub one_call_end : Program → ProcCall → OrdinaryHeap → Work → Ending
one_call_end program c h work = one_call (routines_of program) (task_call c) (world_of h work.tally)

-- all calls of a run, one after another
abbrev pub all_calls_end : Program → List ProcCall → OrdinaryHeap → Work → Ending
all_calls_end program calls h work = in_order (one_call (routines_of program)) (calls_of calls) (world_of h work.tally)

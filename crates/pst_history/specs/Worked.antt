-- What the definitions say of small scripts, worked by hand: which reply each command gets.
use Rattle.std.specs.Prelude.{◌≡◌, ℕ, zero, suc, ℤ, pos, negsuc, List, [], ◌∷◌, ◌++◌, replicate, Option, Some, None, bytes_eq, codes, if◌then◌else◌}
use Rattle.pst_base.specs.declared.names.Kind.{Kind}
use Rattle.pst_base.specs.declared.names.Kind.TheVariants.{Int}
use Rattle.pst_base.specs.declared.names.RunNo.{RunNo}
use Rattle.pst_base.specs.declared.names.TrapKind.TheVariants.{Null as NullTrap, Budget as BudgetTrap}
use Rattle.pst_base.specs.declared.names.VersionNo.{VersionNo}
use Rattle.pst_base.specs.declared.shape.TypeShape.{TypeShape}
use Rattle.pst_base.specs.Counts.{counts_plus}
use Rattle.pst_base.specs.Worked.{item}
use Rattle.pst_base.specs.Heap.{initial_heap, new_record, with_record}
use Rattle.pst_program.specs.Meaning.{World, Ending, Returned, Trapped, charged, then_do, print_number, record_made}
use Rattle.pst_program.specs.Outcome.{next_call, outcome_by}
use Rattle.pst_script.specs.declared.command.Command.{Command}
use Rattle.pst_script.specs.declared.command.Command.TheVariants.{OpenRun, OpenEmpty, CallRun, StepRun, CloseRun, DropRun, Budget, Versions, Stats}
use Rattle.pst_script.specs.declared.reply.Reply.{Reply}
use Rattle.pst_script.specs.declared.reply.Reply.TheVariants as answer
use Rattle.pst_script.specs.declared.reply.Refusal.TheVariants as because
use Rattle.pst_history.specs.declared.history.NamedCall.{NamedCall}
use Rattle.pst_history.specs.Meaning.{Meaning}
use Rattle.pst_history.specs.History.{History, opening, begun, after, after_all, reply, heap_of}

-- ---- a program whose records form a list: statements take a charge each, at their lines

-- a root, and items with a number and a pointer
abbrev pub list_shape : List TypeShape
list_shape = record { values = 0; targets = item ∷ []; limit = 1 } ∷ record { values = 1; targets = item ∷ []; limit = 2 } ∷ []

-- a statement that counts so much
abbrev pub counting : (pointer_writes value_writes : ℕ) → (line : ℕ) → World → (World → Ending) → Ending
counting pointers values line w go =
    charged w.charges line w (λ w. go record w { counts = counts_plus w.counts record { records = 0; pointer_writes = pointers; value_writes = values } })

-- makes an item, writes its number and its pointer, and then the root
abbrev pub adds : World → Ending
adds w =
    charged w.charges 5 w (λ w.
    counting 0 1 6 (record_made list_shape item w) (λ w.
    counting 1 0 7 w (λ w.
    counting 1 0 8 w (Returned None))))

-- prints 1 and 2, and follows null
abbrev pub fails : World → Ending
fails w =
    charged w.charges 22 w (λ w.
    then_do (print_number (pos 1) 22 [] w) (λ env w.
    charged w.charges 23 w (λ w.
    then_do (print_number (pos 2) 23 [] w) (λ env w.
    charged w.charges 24 w (Trapped NullTrap 24)))))

-- adds an item in each of so many turns: a condition, a call, the item, a step, and a last condition
abbrev pub fills : (turns : ℕ) → World → Ending
fills zero w = counting 0 0 27 w (Returned None)
fills (suc n) w = counting 0 0 27 w (λ w. counting 0 0 28 w (λ w. next_call (adds w) (λ w. counting 0 0 29 w (fills n))))

abbrev pub turns_of : List ℤ → ℕ
turns_of [] = 0
turns_of (pos n ∷ ns) = n
turns_of (negsuc n ∷ ns) = 0

-- what one call does
abbrev pub does : NamedCall → World → Ending
does c w = if bytes_eq c.procedure (codes "add") then adds w else (if bytes_eq c.procedure (codes "fill") then fills (turns_of c.arguments) w else fails w)

-- the parameters of `add`, `fill` and `bad`, which may write, and of the query `sum`
abbrev pub list_proc : List ℕ → Option (List Kind)
list_proc name = if bytes_eq name (codes "add") then Some (Int ∷ []) else (if bytes_eq name (codes "fill") then Some (Int ∷ []) else (if bytes_eq name (codes "bad") then Some [] else None))

abbrev pub list_query : List ℕ → Option (List Kind)
list_query name = if bytes_eq name (codes "sum") then Some [] else None

abbrev pub list_meaning : Meaning
list_meaning = record { shape = list_shape; proc = list_proc; query = list_query; outcome = λ w granted heap. outcome_by does w.run w.calls w.budget granted heap }

-- ---- scripts and replies

abbrev pub first_history : History
first_history = begun (opening list_shape)

-- the replies to commands one after another
abbrev pub replies : Meaning → History → List Command → List Reply
replies m h [] = []
replies m h (c ∷ commands) = reply m h c ∷ replies m (after m h c) commands

abbrev pub Answered : List Command → List Reply → Type 0
Answered commands answers = replies list_meaning first_history commands ≡ answers

abbrev pub run : ℕ → RunNo
run n = record { 0 = n }

abbrev pub version : ℕ → VersionNo
version n = record { 0 = n }

-- `open 0 NAME N`, `call R NAME N`
abbrev pub opening_with : List ℕ → (argument : ℕ) → Command
opening_with name n = OpenRun record { version = version 0; procedure = name; arguments = pos n ∷ [] }

abbrev pub calling_in : ℕ → List ℕ → (argument : ℕ) → Command
calling_in r name n = CallRun (run r) name (pos n ∷ [])

-- the reply to `stats`
abbrev pub stats_are : (records pointer_writes value_writes : ℕ) → Reply
stats_are r p v = answer.StatsAre record { records = r; pointer_writes = p; value_writes = v }

-- ---- open runs

-- more charges than the budget bring a run to its end, and what is closed is no longer open
abbrev pub StepsAndCloses : Type 0
StepsAndCloses = Answered
    (opening_with (codes "add") 5 ∷ StepRun (run 1) 1000000 ∷ StepRun (run 1) 1000000 ∷ CloseRun (run 1) ∷ CloseRun (run 1) ∷ StepRun (run 1) 1 ∷ DropRun (run 1) ∷ [])
    (answer.Opened (run 1) ∷ answer.Finished (run 1) ∷ answer.Finished (run 1) ∷ answer.Version [] (version 1) ∷ answer.Refused because.Run ∷ answer.Refused because.Run ∷ answer.Refused because.Run ∷ [])

-- what a run did under its grant is counted, also where it is dropped
abbrev pub DroppedIsCounted : Type 0
DroppedIsCounted = Answered
    (opening_with (codes "add") 5 ∷ StepRun (run 1) 2 ∷ Stats ∷ DropRun (run 1) ∷ Stats ∷ Versions ∷ [])
    (answer.Opened (run 1) ∷ answer.Running (run 1) ∷ stats_are 2 0 1 ∷ answer.Dropped (run 1) ∷ stats_are 2 0 1 ∷ answer.VersionList [] ∷ [])

-- the replies to runs that are opened, from this number on
abbrev pub opened_from : (first many : ℕ) → List Reply
opened_from first zero = []
opened_from first (suc many) = answer.Opened (run first) ∷ opened_from (suc first) many

-- 64 runs are open and no more; one that is dropped makes room, and its number is not given again
abbrev pub SixtyFourAreOpen : Type 0
SixtyFourAreOpen = Answered
    (replicate 65 (opening_with (codes "add") 1) ++ DropRun (run 64) ∷ opening_with (codes "add") 1 ∷ [])
    (opened_from 1 64 ++ answer.Refused because.RunsOpen ∷ answer.Dropped (run 64) ∷ answer.Opened (run 65) ∷ [])

-- the lines `step 1 1` and `step 2 1` so many times
abbrev pub step_both : ℕ → List Command
step_both zero = []
step_both (suc n) = StepRun (run 1) 1 ∷ StepRun (run 2) 1 ∷ step_both n

-- so many times the replies to both
abbrev pub both_reply : ℕ → (one two : Reply) → List Reply
both_reply zero one two = []
both_reply (suc n) one two = one ∷ two ∷ both_reply n one two

-- two runs go on by turns: run 1 takes 22 charges, and run 2 takes 29
abbrev pub ByTurns : Type 0
ByTurns = Answered
    (opening_with (codes "fill") 3 ∷ opening_with (codes "fill") 4 ∷ step_both 30 ++ CloseRun (run 2) ∷ CloseRun (run 1) ∷ Stats ∷ [])
    (answer.Opened (run 1) ∷ answer.Opened (run 2) ∷ both_reply 21 (answer.Running (run 1)) (answer.Running (run 2)) ++ both_reply 7 (answer.Finished (run 1)) (answer.Running (run 2))
    ++ both_reply 2 (answer.Finished (run 1)) (answer.Finished (run 2)) ++ answer.Version [] (version 1) ∷ answer.Version [] (version 2) ∷ stats_are 8 14 7 ∷ [])

pub record OpenRuns : Type 0 where
  pub steps_and_closes : StepsAndCloses
  pub dropped_is_counted : DroppedIsCounted
  pub sixty_four_are_open : SixtyFourAreOpen
  pub by_turns : ByTurns

-- ---- several calls

-- a run without a call, and then two calls, each carried out as far as the charges reach
abbrev pub two_calls : List Command
two_calls = OpenEmpty (version 0) ∷ calling_in 1 (codes "add") 5 ∷ StepRun (run 1) 4 ∷ calling_in 1 (codes "add") 7 ∷ StepRun (run 1) 4 ∷ CloseRun (run 1) ∷ []

abbrev pub CallsInOrder : Type 0
CallsInOrder = Answered (two_calls ++ Stats ∷ [])
    (answer.Opened (run 1) ∷ answer.Running (run 1) ∷ answer.Finished (run 1) ∷ answer.Running (run 1) ∷ answer.Finished (run 1) ∷ answer.Version [] (version 1) ∷ stats_are 3 4 2 ∷ [])

-- their records have one numbering
abbrev pub ItemsAreNumbered : Type 0
ItemsAreNumbered = heap_of list_meaning (after_all list_meaning first_history two_calls) 1
    ≡ with_record (with_record (initial_heap list_shape) record { run = run 1; ordinal = 0 } (new_record list_shape item)) record { run = run 1; ordinal = 1 } (new_record list_shape item)

-- they share the budget, which ends the run in its second call; then there is no version, and what was done is counted
abbrev pub OneBudget : Type 0
OneBudget = Answered
    (Budget 6 ∷ OpenEmpty (version 0) ∷ calling_in 1 (codes "add") 5 ∷ calling_in 1 (codes "add") 7 ∷ CloseRun (run 1) ∷ Versions ∷ Stats ∷ [])
    (answer.BudgetSet 6 ∷ answer.Opened (run 1) ∷ answer.Running (run 1) ∷ answer.Running (run 1) ∷ answer.Trapped [] record { kind = BudgetTrap; line = 7 } ∷ answer.VersionList [] ∷ stats_are 3 2 2 ∷ [])

-- a run without a call makes a version; a call needs an open run, and before that a procedure that may write
abbrev pub WithoutCalls : Type 0
WithoutCalls = Answered
    (OpenEmpty (version 0) ∷ StepRun (run 1) 1 ∷ CloseRun (run 1) ∷ calling_in 1 (codes "add") 5 ∷ CallRun (run 9) (codes "sum") [] ∷ [])
    (answer.Opened (run 1) ∷ answer.Finished (run 1) ∷ answer.Version [] (version 1) ∷ answer.Refused because.Run ∷ answer.Refused because.Name ∷ [])

-- a call that is added to a run that has trapped does nothing
abbrev pub TrapEndsAll : Type 0
TrapEndsAll = Answered
    (OpenEmpty (version 0) ∷ CallRun (run 1) (codes "bad") [] ∷ StepRun (run 1) 9 ∷ calling_in 1 (codes "add") 4 ∷ CloseRun (run 1) ∷ [])
    (answer.Opened (run 1) ∷ answer.Running (run 1) ∷ answer.Finished (run 1) ∷ answer.Finished (run 1) ∷ answer.Trapped (pos 1 ∷ pos 2 ∷ []) record { kind = NullTrap; line = 24 } ∷ [])

pub record SeveralCalls : Type 0 where
  pub calls_in_order : CallsInOrder
  pub items_are_numbered : ItemsAreNumbered
  pub one_budget : OneBudget
  pub without_calls : WithoutCalls
  pub trap_ends_all : TrapEndsAll

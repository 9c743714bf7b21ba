-- The commands that lines of a script are.
use Rattle.std.specs.Prelude.{◌≡◌, ℕ, ◌==◌, ◌&&◌, Bool, true, List, [], ◌∷◌, ℤ, Option, Some, None, Result, Ok, Err, if◌then◌else◌, slice_index, codes, IsOkAnd}
use Rattle.std.specs.Option.{option_map, option_or}
use Rattle.std.specs.Str.{bytes_eq}
use Rattle.std.specs.List.{list_all}
use Rattle.pst_script.specs.Words.{words}
use Rattle.pst_script.specs.Numerals.{is_numeral, number_of, argument_of, fits_32_bits, fits_64_bits, fits_charges}
use Rattle.pst_base.specs.Words.{is_name}
use Rattle.pst_script.specs.declared.call.Called.{Called}
use Rattle.pst_script.specs.declared.call.CallWords.{CallWords}
use Rattle.pst_script.specs.declared.command.Call.{Call}
use Rattle.pst_script.specs.declared.command.Command.{Command}
use Rattle.pst_script.specs.declared.command.Command.TheVariants.{Run, Query, OpenRun, OpenEmpty, CallRun, StepRun, CloseRun, DropRun, Budget, Versions, Stats}
use Rattle.pst_script.specs.declared.command.LineFault.{LineFault}
use Rattle.pst_script.specs.declared.command.LineFault.TheVariants.{Line, Number, Memory}
use Rattle.pst_script.specs.declared.verb.Verb.{Verb}
use Rattle.pst_script.specs.declared.verb.Verb.TheVariants as verb

-- a value of two, where both are there
abbrev pub with_both : {A B C : Type 0} → (A → B → C) → Option A → Option B → Option C
with_both f None b = None
with_both f (Some a) None = None
with_both f (Some a) (Some b) = Some (f a b)

-- ---- forms: what the words are, with numbers of any size; none where they have not the form

-- the numbers that all the words write
abbrev pub arguments_of : List (List ℕ) → Option (List ℤ)
arguments_of [] = Some []
arguments_of (word ∷ words) = with_both (λ n ns. n ∷ ns) (argument_of word) (arguments_of words)

abbrev pub make_called : List ℕ → ℕ → List ℤ → Called
make_called procedure number arguments = record { number = number; procedure = procedure; arguments = arguments }

-- the number of a version or of a run, the name of a procedure, and arguments
abbrev pub called_of : List (List ℕ) → Option Called
called_of [] = None
called_of (number ∷ []) = None
called_of (number ∷ procedure ∷ arguments) = if is_name procedure then with_both (make_called procedure) (number_of number) (arguments_of arguments) else None

-- a call on the version with the number
abbrev pub on_version : Called → Call
on_version called = record { version = record { 0 = called.number }; procedure = called.procedure; arguments = called.arguments }

-- a call that is added to the run with the number
abbrev pub to_run : Called → Command
to_run called = CallRun (record { 0 = called.number }) called.procedure called.arguments

-- one number
abbrev pub one_number : List (List ℕ) → Option ℕ
one_number [] = None
one_number (word ∷ []) = number_of word
one_number (word ∷ more ∷ words) = None

-- two numbers
abbrev pub two_numbers : {A : Type 0} → (ℕ → ℕ → A) → List (List ℕ) → Option A
two_numbers f [] = None
two_numbers f (word ∷ words) = with_both f (number_of word) (one_number words)

-- no word
abbrev pub nothing : {A : Type 0} → A → List (List ℕ) → Option A
nothing a [] = Some a
nothing a (word ∷ words) = None

-- the first word of a command
abbrev pub verb_of : List ℕ → Option Verb
verb_of word =
    if bytes_eq word (codes "run") then Some verb.Run
    else (if bytes_eq word (codes "query") then Some verb.Query
    else (if bytes_eq word (codes "open") then Some verb.Open
    else (if bytes_eq word (codes "call") then Some verb.Call
    else (if bytes_eq word (codes "step") then Some verb.Step
    else (if bytes_eq word (codes "close") then Some verb.Close
    else (if bytes_eq word (codes "drop") then Some verb.Drop
    else (if bytes_eq word (codes "budget") then Some verb.Budget
    else (if bytes_eq word (codes "versions") then Some verb.Versions
    else (if bytes_eq word (codes "stats") then Some verb.Stats
    else None)))))))))

-- a version alone, or a call on one
abbrev pub open_of : List (List ℕ) → Option Command
open_of words = option_or (option_map (λ version. OpenEmpty (record { 0 = version })) (one_number words)) (option_map (λ called. OpenRun (on_version called)) (called_of words))

-- the command that the words behind a verb make
abbrev pub command_after : Option Verb → List (List ℕ) → Option Command
command_after None words = None
command_after (Some verb.Run) words = option_map (λ called. Run (on_version called)) (called_of words)
command_after (Some verb.Query) words = option_map (λ called. Query (on_version called)) (called_of words)
command_after (Some verb.Open) words = open_of words
command_after (Some verb.Call) words = option_map to_run (called_of words)
command_after (Some verb.Step) words = two_numbers (λ run charges. StepRun (record { 0 = run }) charges) words
command_after (Some verb.Close) words = option_map (λ run. CloseRun (record { 0 = run })) (one_number words)
command_after (Some verb.Drop) words = option_map (λ run. DropRun (record { 0 = run })) (one_number words)
command_after (Some verb.Budget) words = option_map Budget (one_number words)
command_after (Some verb.Versions) words = nothing Versions words
command_after (Some verb.Stats) words = nothing Stats words

-- ---- ranges

abbrev pub numbers_in_range : ℕ → List ℤ → Bool
numbers_in_range number arguments = fits_32_bits number && list_all fits_64_bits arguments

abbrev pub called_in_range : Called → Bool
called_in_range called = numbers_in_range called.number called.arguments

abbrev pub call_in_range : Call → Bool
call_in_range call = numbers_in_range call.version.0 call.arguments

abbrev pub in_range : Command → Bool
in_range (Run call) = call_in_range call
in_range (Query call) = call_in_range call
in_range (OpenRun call) = call_in_range call
in_range (OpenEmpty version) = fits_32_bits version.0
in_range (CallRun run procedure arguments) = numbers_in_range run.0 arguments
in_range (StepRun run charges) = fits_32_bits run.0 && fits_charges charges
in_range (CloseRun run) = fits_32_bits run.0
in_range (DropRun run) = fits_32_bits run.0
in_range (Budget charges) = fits_charges charges
in_range Versions = true
in_range Stats = true

-- ---- lines

-- a form is judged before its numbers: `Line` where there is none, and else `Number` where one is out of range
abbrev pub judged : {A : Type 0} → (A → Bool) → Option A → Result A LineFault
judged fits None = Err Line
judged fits (Some a) = if fits a then Ok a else Err Number

abbrev pub read_as : Result Command LineFault → Result (Option Command) LineFault
read_as (Ok command) = Ok (Some command)
read_as (Err fault) = Err fault

-- what a line with these words is: no command where there is no word or the first begins with `#`
abbrev pub reading_of : List (List ℕ) → Result (Option Command) LineFault
reading_of [] = Ok None
reading_of (first ∷ rest) = if slice_index first 0 == 35 then Ok None else read_as (judged in_range (command_after (verb_of first) rest))

-- what a line is (this project's own rule); `read_line` finds it
-- (carried out by `pst_script::read_line`)
unfoldable pub reading : List ℕ → Result (Option Command) LineFault
reading line = reading_of (words line)

-- ---- want of memory

-- the command has a procedure's name to keep
abbrev pub HasCall : Command → Type 0
HasCall (Run call) = Unit {0}
HasCall (Query call) = Unit {0}
HasCall (OpenRun call) = Unit {0}
HasCall (OpenEmpty version) = ⊥
HasCall (CallRun run procedure arguments) = Unit {0}
HasCall (StepRun run charges) = ⊥
HasCall (CloseRun run) = ⊥
HasCall (DropRun run) = ⊥
HasCall (Budget charges) = ⊥
HasCall Versions = ⊥
HasCall Stats = ⊥

-- an answer is what it should be, or it is want of memory where that is a value for which memory is taken
abbrev pub IsReadAs : {A : Type 0} → (A → Type 0) → Result A LineFault → Result A LineFault → Type 0
IsReadAs taken what (Ok a) = what ≡ Ok a
IsReadAs taken what (Err Line) = what ≡ Err Line
IsReadAs taken what (Err Number) = what ≡ Err Number
IsReadAs taken what (Err Memory) = IsOkAnd what taken

-- ---- the parts of a call

-- the words are those of a call, but for its arguments, which may be none
pub record IsCallOf (call : CallWords) (all : List (List ℕ)) : Type 0 where
  pub numeral : is_numeral call.number.now ≡ true
  pub called : called_of all ≡ with_both (make_called call.procedure.now) (number_of call.number.now) (arguments_of (words call.arguments.now))

-- all numbers have 64 bits, if there are any
abbrev pub all_fit : Option (List ℤ) → Bool
all_fit None = true
all_fit (Some ns) = list_all fits_64_bits ns

-- what is wrong where words were not read as arguments: their form, or else a range, or else there was no memory
abbrev pub fault_of : Option (List ℤ) → LineFault
fault_of None = Line
fault_of (Some ns) = if list_all fits_64_bits ns then Memory else Number

-- What the definitions say of a small script of a linear history, worked by hand: which reply each command gets.
use Rattle.std.specs.Prelude.{◌≡◌, ℕ, pos, List, [], ◌∷◌, None, bytes_eq, codes, if◌then◌else◌}
use Rattle.pst_base.specs.declared.names.TrapKind.TheVariants.{Null as NullTrap}
use Rattle.pst_program.specs.Meaning.{World, Ending, Returned, charged, then_do, print_number}
use Rattle.pst_program.specs.Outcome.{outcome_by}
use Rattle.pst_script.specs.declared.command.Command.{Command}
use Rattle.pst_script.specs.declared.command.Command.TheVariants.{Run, Query, OpenRun, Versions, Stats}
use Rattle.pst_script.specs.declared.reply.Reply.{Reply}
use Rattle.pst_script.specs.declared.reply.Reply.TheVariants as answer
use Rattle.pst_script.specs.declared.reply.Refusal.TheVariants as because
use Rattle.pst_history.specs.declared.history.NamedCall.{NamedCall}
use Rattle.pst_history.specs.Meaning.{Meaning}
use Rattle.pst_history.specs.History.{History}
use Rattle.pst_history.specs.Worked.{list_meaning, does, first_history, version}
use Rattle.pst_linerun.specs.Linear.{line_reply, line_after}

-- ---- a program whose records form a list

-- prints the number of its run
abbrev pub tells : World → Ending
tells w = charged w.charges 16 w (λ w. then_do (print_number (pos w.run.0) 16 [] w) (λ env w. Returned None w))

abbrev pub tells_or : NamedCall → World → Ending
tells_or c w = if bytes_eq c.procedure (codes "sum") then tells w else does c w

abbrev pub line_meaning : Meaning
line_meaning = record list_meaning { outcome = λ w granted heap. outcome_by tells_or w.run w.calls w.budget granted heap }

-- ---- a script and its replies

-- the replies of a linear history to commands one after another
abbrev pub line_replies : Meaning → History → List Command → List Reply
line_replies m h [] = []
line_replies m h (c ∷ commands) = line_reply m h c ∷ line_replies m (line_after m h c) commands

abbrev pub Answered : List Command → List Reply → Type 0
Answered commands answers = line_replies line_meaning first_history commands ≡ answers

-- `run V add N`
abbrev pub adding : ℕ → (argument : ℕ) → Command
adding v n = Run record { version = version v; procedure = codes "add"; arguments = pos n ∷ [] }

-- `query V sum`
abbrev pub summing : ℕ → Command
summing v = Query record { version = version v; procedure = codes "sum"; arguments = [] }

-- Version 0 is no longer the newest one after the first run. The run that traps makes no version, and what it did stays counted.
-- A run that is to be gone on with has no place in a linear history.
abbrev pub RunsOnTheNewest : Type 0
RunsOnTheNewest = Answered
    (adding 0 1 ∷ adding 1 2 ∷ adding 0 9 ∷ adding 9 9 ∷ Run record { version = version 2; procedure = codes "bad"; arguments = [] } ∷ OpenRun record { version = version 2; procedure = codes "add"; arguments = pos 3 ∷ [] } ∷ Versions ∷ Stats ∷ [])
    (answer.Version [] (version 1) ∷ answer.Version [] (version 2) ∷ answer.Refused because.Old ∷ answer.Refused because.Version ∷ answer.Trapped (pos 1 ∷ pos 2 ∷ []) record { kind = NullTrap; line = 24 } ∷ answer.Refused because.Line
    ∷ answer.VersionList (version 0 ∷ version 1 ∷ []) ∷ answer.LineStatsAre record { records = 3; pointer_writes = 4; value_writes = 2 } ∷ [])

-- Every version may be asked. A query works under the next run number, and does not take it.
abbrev pub QueriesTakeNoNumber : Type 0
QueriesTakeNoNumber = Answered
    (adding 0 1 ∷ summing 0 ∷ summing 1 ∷ adding 1 2 ∷ summing 0 ∷ summing 3 ∷ [])
    (answer.Version [] (version 1) ∷ answer.Answer (pos 2 ∷ []) ∷ answer.Answer (pos 2 ∷ []) ∷ answer.Version [] (version 2) ∷ answer.Answer (pos 3 ∷ []) ∷ answer.Refused because.Version ∷ [])

pub record LinearHistory : Type 0 where
  pub runs_on_the_newest : RunsOnTheNewest
  pub queries_take_no_number : QueriesTakeNoNumber

-- What does not depend on lines.
use Rattle.std.specs.Prelude.{◌≡◌, ℕ, List, map}
use Rattle.pst_base.specs.Heap.{Heap}
use Rattle.pst_grammar.specs.Syntax.{Item, ProgramText}
use Rattle.pst_program.specs.Syntax.{Routines}
use Rattle.pst_program.specs.Outcome.{Task, outcome}
use Rattle.pst_typing.specs.Declarations.{NamedProgram, checked}
use Rattle.pst_notation.specs.Canonical.{canonical}
use Rattle.pst_notation.specs.Lines.{item_lineless}
use Rattle.pst_front.specs.Verdict.{Judged, Accepted}
use Rattle.pst_front.specs.Pages.{routines_in}
use Rattle.pst_history.specs.Meaning.{Meaning}
use Rattle.pst_history.specs.History.{History}
use Rattle.pst_history.specs.Direct.{direct}
use Rattle.pst_history_laws.specs.Lines.{routines_lineless}
use Rattle.pst_history_laws.specs.Alike.{OutcomeAlike, MeaningAlike, SameHistory, ProgramAlike, Agree}

-- declarations are typed with lines as they are without
abbrev pub TypingLaw : Type 0
TypingLaw = (items : List Item) → Agree ProgramAlike (checked items) (checked (map item_lineless items))

-- a run comes to the same with lines and without, but for the line of a trap
abbrev pub OutcomeLaw : Type 0
OutcomeLaw = (r : Routines) (task : Task) (granted : ℕ) (heap : Heap) → OutcomeAlike (outcome r task granted heap) (outcome (routines_lineless r) task granted heap)

-- what programs mean that are the same but for lines is the same but for the lines of traps
abbrev pub MeaningLaw : Type 0
MeaningLaw = (p q : NamedProgram) → ProgramAlike p q → MeaningAlike (direct (routines_in p)) (direct (routines_in q))

-- meanings that are the same but for the lines of traps make the same histories
abbrev pub HistoryLaw : Type 0
HistoryLaw = (m n : Meaning) (h : History) → MeaningAlike m n → SameHistory m n h

-- the canonical text of a program is accepted, as the same program but for lines, and is its own canonical text
pub record IsReadAgain (syntax : ProgramText) (named : NamedProgram) : Type 0 where
  pub text : ProgramText
  pub program : NamedProgram
  pub judged : Judged (canonical syntax) (Accepted text program)
  pub alike : ProgramAlike named program
  pub same_text : canonical text ≡ canonical syntax

-- each accepted program is read again from its canonical text
abbrev pub CanonicalLaw : Type 0
CanonicalLaw = (text : List ℕ) (syntax : ProgramText) (named : NamedProgram) → Judged text (Accepted syntax named) → IsReadAgain syntax named

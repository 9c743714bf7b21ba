-- What a script makes of a history, and of the opening that is taken up from it.
use Rattle.std.specs.Prelude.{◌≡◌, ℕ, List}
use Rattle.pst_base.specs.Shape.{IsValid}
use Rattle.pst_grammar.specs.Syntax.{ProgramText}
use Rattle.pst_typing.specs.Declarations.{NamedProgram}
use Rattle.pst_front.specs.Verdict.{Judged, Accepted}
use Rattle.pst_front.specs.Pages.{routines_in}
use Rattle.pst_script.specs.declared.command.Command.{Command}
use Rattle.pst_history.specs.Meaning.{Meaning, IsLawful}
use Rattle.pst_history.specs.History.{Opening, History, begun, reply, after}
use Rattle.pst_history.specs.Sound.{IsSoundHistory}
use Rattle.pst_history.specs.Direct.{direct}
use Rattle.pst_cli_scripts.specs.Pieces.{pieces_from, state_after}
use Rattle.pst_cli_scripts.specs.Script.{by_tree_from, by_tree, script_of}
use Rattle.pst_cli_scripts.specs.Kept.{history_after}
use Rattle.pst_history_laws.specs.Alike.{MeaningAlike}
use Rattle.pst_history_laws.specs.LawsLines.{IsReadAgain}
use Rattle.pst_history_laws.specs.TakenUp.{taken_up, AreAlike, NoneOpen, all_dropped}

-- ---- commands

-- a history and the opening that is taken up from it are alike
abbrev pub BeginsLaw : Type 0
BeginsLaw = (m : Meaning) (h : History) → AreAlike m h h (begun (taken_up m h))

-- a command has the same reply on both of two histories that go on alike
abbrev pub RepliesLaw : Type 0
RepliesLaw = (m : Meaning) (from old new : History) (c : Command) → IsSoundHistory m from → NoneOpen from → AreAlike m from old new → reply m old c ≡ reply m new c

-- and they go on alike after it
abbrev pub StaysLaw : Type 0
StaysLaw = (m : Meaning) (from old new : History) (c : Command) → IsSoundHistory m from → NoneOpen from → AreAlike m from old new → AreAlike m from (after m old c) (after m new c)

-- ---- scripts

-- a script makes a sound history of a sound one
abbrev pub SoundBehindLaw : Type 0
SoundBehindLaw = (m : Meaning) → IsLawful m → (h : History) (script : List (List ℕ)) → IsSoundHistory m h → IsSoundHistory m (state_after (script_of by_tree m) h script)

-- histories go on alike after a script
abbrev pub StaysBehindLaw : Type 0
StaysBehindLaw = (m : Meaning) (from old new : History) (script : List (List ℕ)) → IsSoundHistory m from → NoneOpen from → AreAlike m from old new
    → AreAlike m from (state_after (script_of by_tree m) old script) (state_after (script_of by_tree m) new script)

-- the replies to a script on a history
abbrev pub replies_on : Meaning → History → (script : List (List ℕ)) → List (List ℕ)
replies_on m h script = pieces_from (script_of by_tree m) h script

-- a script has the same replies on histories that go on alike
abbrev pub RepliesBehindLaw : Type 0
RepliesBehindLaw = (m : Meaning) (from old new : History) (script : List (List ℕ)) → IsSoundHistory m from → NoneOpen from → AreAlike m from old new
    → replies_on m old script ≡ replies_on m new script

-- and the same opening is taken up from both
abbrev pub TakenUpAlikeLaw : Type 0
TakenUpAlikeLaw = (m : Meaning) (from old new : History) → IsSoundHistory m from → NoneOpen from → AreAlike m from old new → taken_up m old ≡ taken_up m new

-- the history that a script from version 0 alone leaves
abbrev pub left_by : Meaning → (script : List (List ℕ)) → History
left_by m script = history_after by_tree m script

-- the replies to a script from an opening
abbrev pub replies_from : (Meaning → Opening) → Meaning → (script : List (List ℕ)) → List (List ℕ)
replies_from first m script = pieces_from (script_of (by_tree_from first) m) (begun (first m)) script

-- What a first script leaves under one meaning is taken up under another one, which is the same but for the lines of traps: a second
-- script has the replies there that it has on what the first one leaves under that other meaning, its open runs given up.
abbrev pub GoesOnLaw : Type 0
GoesOnLaw = (m n : Meaning) → MeaningAlike m n → IsLawful n → (first : Meaning → Opening) (before behind : List (List ℕ)) → first n ≡ taken_up m (left_by m before)
    → replies_from first n behind ≡ replies_on n (all_dropped (left_by n before)) behind

-- The program that is read again from the canonical text of another one, and that a second script goes on so, under that program, behind
-- what a first script left under the other one.
pub record GoesOnFrom (syntax : ProgramText) (named : NamedProgram) (before behind : List (List ℕ)) : Type 0 where
  pub read : IsReadAgain syntax named
  pub same : (first : Meaning → Opening)
      → first (direct (routines_in read.program)) ≡ taken_up (direct (routines_in named)) (left_by (direct (routines_in named)) before)
      → replies_from first (direct (routines_in read.program)) behind
      ≡ replies_on (direct (routines_in read.program)) (all_dropped (left_by (direct (routines_in read.program)) before)) behind

-- so it is for each accepted program
abbrev pub ProgramGoesOnLaw : Type 0
ProgramGoesOnLaw = (text : List ℕ) (syntax : ProgramText) (named : NamedProgram) (before behind : List (List ℕ)) → Judged text (Accepted syntax named) → IsValid named.shape → GoesOnFrom syntax named before behind

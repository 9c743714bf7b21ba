-- What is held in the end beside the input and the output.
use Rattle.std.specs.Prelude.{◌≡◌, ℕ, List}
use Rattle.pst_history.specs.Meaning.{Meaning}
use Rattle.pst_history.specs.History.{History, begun}
use Rattle.pst_cli_scripts.specs.Pieces.{state_after, BreaksIn}
use Rattle.pst_cli_scripts.specs.Script.{Rules, script_of}

-- What is held, by how far a call came.
pub record Kept : Type 1 where
  -- these lines of a script were carried out, for a program with this meaning
  pub leaves : Meaning → List (List ℕ) → Type 0
  -- there was no room in the last of them
  pub breaks : Meaning → List (List ℕ) → Type 0
  -- no script was begun
  pub untouched : Type 0

-- the same however far it came
abbrev pub still : Type 0 → Kept
still P = record { leaves = λ m lines. P; breaks = λ m lines. P; untouched = P }

-- what two hold, each for itself
abbrev pub together : Kept → Kept → Kept
together k n = record {
  leaves = λ m lines. k.leaves m lines × n.leaves m lines;
  breaks = λ m lines. k.breaks m lines × n.breaks m lines;
  untouched = k.untouched × n.untouched;
}

-- the history before a script, with the opening with which it begins
abbrev pub first_history : Rules → Meaning → History
first_history rules m = begun (rules.first m)

-- the history that lines make of it
abbrev pub history_after : Rules → Meaning → (lines : List (List ℕ)) → History
history_after rules m lines = state_after (script_of rules m) (first_history rules m) lines

-- What a session leaves, by what it leaves in a history and after want of memory in a history. Where none was begun, what is
-- held is as it was handed in.
abbrev pub kept_by : {T : Type 0} → Rules → (leaves breaks : Meaning → T → History → Type 0) → (old new : T) → Kept
kept_by rules leaves breaks old new = record {
  leaves = λ m lines. leaves m new (history_after rules m lines);
  breaks = λ m lines. BreaksIn (script_of rules m) (first_history rules m) (breaks m new) lines;
  untouched = new ≡ old;
}

use Rattle.std.proofs.Common.{◌≡◌, ◌≤◌, List, ℕ, ◌++◌, length}
use Rattle.std.specs.Io.KnownBytes.{Appends}
use Rattle.pst_io.specs.Text.{lines_of}
use Rattle.pst_history.specs.Meaning.{Meaning}
use Rattle.pst_history.specs.History.{History}
use Rattle.pst_cli_scripts.specs.Pieces.{IsAll, pieces_from, state_after}
use Rattle.pst_cli_scripts.specs.Script.{script_of}
use Rattle.pst_cli_scripts.proofs.text.answer_text.Given as goal

-- on each history that they stood for, these first lines were answered, and they stand for the one after them
abbrev pub invariant-answering : goal.invariant-answering
invariant-answering g l = record {
  given : (m : Meaning) (h : History) → g.X.Session.stands l.fn.session l.fn.held m h
      → (given : List (List ℕ)) × (out : List ℕ) × (lines_of l.fn.text ≡ given ++ lines_of l.rest)
      × Appends (g.K.Sink.taken l.fn.sink) (g.K.Sink.taken l.sink) out × IsAll (pieces_from (script_of g.X.Session.rules m) h given) out
      × g.X.Session.stands l.session l.held m (state_after (script_of g.X.Session.rules m) h given);
  sink_later : g.K.Sink.faults l.fn.sink ≤ g.K.Sink.faults l.sink;
}

abbrev pub decreases-answering : goal.decreases-answering
decreases-answering g l = length l.rest

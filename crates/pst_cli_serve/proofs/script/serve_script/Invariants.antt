use Rattle.std.proofs.Common.{◌≡◌, ◌≤◌, ◌-◌, List, ℕ}
use Rattle.std.specs.Io.KnownBytes.{Appends}
use Rattle.pst_io.specs.Input.{Gives}
use Rattle.pst_io.specs.Lines.{IsOpen}
use Rattle.pst_history.specs.Meaning.{Meaning}
use Rattle.pst_history.specs.History.{History}
use Rattle.pst_cli_scripts.specs.Pieces.{state_after}
use Rattle.pst_cli_scripts.specs.Script.{by_tree, script_of}
use Rattle.pst_cli_scripts.specs.Reading.{IsNear}
use Rattle.pst_cli_serving.specs.Storing.{IsRunning}
use Rattle.pst_cli_serve.specs.Served.{IsAnswered, Says}
use Rattle.pst_cli_serve.proofs.script.serve_script.Given as goal

-- on each history that they stood for, these lines were handed out and answered, and they stand for the one after the lines
abbrev pub invariant-answering : goal.invariant-answering
invariant-answering g l = record {
  given : (m : Meaning) (h : History) → IsRunning l.fn.session.code l.fn.session.engine l.fn.store m h
      → (given : List (List ℕ)) × (out : List ℕ) × Gives l.fn.lines.input (g.S.Source.left l.fn.source) l.lines.input (g.S.Source.left l.source) given
      × Appends (g.K.Sink.taken l.fn.sink) (g.K.Sink.taken l.sink) out × IsAnswered (Says l.fn.session.code m) (script_of by_tree m) h given out
      × IsRunning l.session.code l.session.engine l.store m (state_after (script_of by_tree m) h given);
  about : l.session.code ≡ l.fn.session.code;
  near : IsNear l.lines.input;
  limit : l.lines.input.most ≡ l.fn.lines.input.most;
  opened : IsOpen l.lines (g.S.Source.left l.source);
  later : g.S.Source.faults l.fn.source ≤ g.S.Source.faults l.source;
  sink_later : g.K.Sink.faults l.fn.sink ≤ g.K.Sink.faults l.sink;
}

abbrev pub decreases-answering : goal.decreases-answering
decreases-answering g l = l.fn.lines.input.most - l.lines.input.handed

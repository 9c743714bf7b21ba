use Rattle.pst_kept_files_cases.specs.contracts.disk.RecordedDiskDisk.TheImpl.{ghosts}
use Rattle.pst_kept_files_cases.specs.Ready.{IsReady}
use Rattle.pst_kept_files_cases.proofs.main.Given as goal

abbrev pub invariant-loop-line : goal.invariant-loop-line
invariant-loop-line l =
    (goal.iterator-loop-line).can_next l.line-iterator ×
    (goal.iterator-loop-line).is_finite l.line-iterator
    × IsReady ghosts l.session.one l.session.two l.session.kept

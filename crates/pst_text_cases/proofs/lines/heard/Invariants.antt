use Rattle.std.proofs.Common.{Some}
use Rattle.pst_io.specs.Lines.{IsOpen}
use Rattle.pst_text_cases.proofs.lines.heard.Given as goal

abbrev pub invariant-loop : goal.invariant-loop
invariant-loop l = IsOpen l.lines (Some l.source.left)

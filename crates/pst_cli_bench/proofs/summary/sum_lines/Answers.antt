use Rattle.std.proofs.Common.{[], ◌∷◌, ◌++◌, ◌∙◌, rules, w64, FitsSigned}
use Rattle.std.proofs.lemmas.Int.{to_z-of_z}
use Rattle.pst_io.specs.Text.{lines_of}
use Rattle.pst_cli_scripts.specs.Pieces.{state_after}
use Rattle.pst_cli_scripts.specs.Script.{script_of}
use Rattle.pst_cli_bench.proofs.Summing.{broken_at, of_error, sum_more}
use Rattle.pst_cli_scripts.proofs.Writing.{line_more, state_more}
use Rattle.pst_cli_bench.proofs.summary.sum_lines.Goals as goal

pub sum_line-requires : goal.sum_line-requires
sum_line-requires g c =
    let (m, h, stands) = c.requires in
    let (given, first, sum, now) = c.lines.invariant m h stands in
    (m, state_after (script_of g.X.Session.rules m) h given, now)

pub returns-in_err-sum-in-Some-clause-breaks : goal.returns-in_err-sum-in-Some-clause-breaks
returns-in_err-sum-in-Some-clause-breaks g c = of_error c.from_residual.result _ (λ m h stands.
    let (given, first, sum, now) = c.lines.invariant m h stands in
    broken_at (script_of g.X.Session.rules m) h (g.X.Session.breaks m c.sum_line.new.held) (lines_of c.args.text.now) given
    (lines_of c.in-Some.behind.now) (lines_of c.lines.rest.now) c.in-Some.line.now first c.in-Some.ensures.lines
    (c.in_err-sum-in-Some.ensures.breaks m (state_after (script_of g.X.Session.rules m) h given) now))

pub lines-preserved : goal.lines-preserved
lines-preserved g c = λ m h stands.
    let (given, first, sum, now) = c.lines.invariant m h stands in
    let line = c.in-Some.line.now in
    let all = c.in_ok-sum-in-Some.sum in
    let fits : FitsSigned w64 all = search rules in
    let more = c.in_ok-sum-in-Some.ensures in (
      given ++ line ∷ [],
      line_more (lines_of c.args.text.now) given (lines_of c.in-Some.behind.now) (lines_of c.lines.rest.now) line first c.in-Some.ensures.lines,
      to_z-of_z w64 all fits ∙ sum_more g.X.Session.rules m h given line _ all sum (more.sum m (state_after (script_of g.X.Session.rules m) h given) now),
      state_more (script_of g.X.Session.rules m) h (g.X.Session.stands c.sum_line.new.session c.sum_line.new.held m) given line
          (more.stands m (state_after (script_of g.X.Session.rules m) h given) now),
    )

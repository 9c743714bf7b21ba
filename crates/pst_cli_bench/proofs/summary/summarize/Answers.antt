use Rattle.std.proofs.Common.{◌≡◌, ◌∙◌, ap, subst, inr, rules, w64, FitsSigned}
use Rattle.std.proofs.lemmas.Int.{to_z-of_z}
use Rattle.std.proofs.lemmas.Result.{IfOk-weaker}
use Rattle.pst_io.specs.Text.{lines_of}
use Rattle.pst_history.specs.Direct.{meaning_of}
use Rattle.pst_cli_scripts.specs.Pieces.{AfterSome}
use Rattle.pst_cli_scripts.specs.Script.{by_tree, script_of}
use Rattle.pst_cli_scripts.specs.Kept.{first_history}
use Rattle.pst_cli_serving.specs.Storing.{IsBroken}
use Rattle.pst_cli_bench.specs.Bench.{bench_lines, summary_of}
use Rattle.pst_cli_bench.proofs.Benching.{broken_behind, summary_is}
use Rattle.pst_cli_bench.proofs.Summing.{of_error}
use Rattle.pst_cli_bench.proofs.summary.summarize.Goals as goal

pub returns-clause-summary : goal.returns-clause-summary
returns-clause-summary g c =
    let m = meaning_of c.args.program in
    let h = first_history by_tree m in
    let store = c.sum_lines.new.held in
    let stands = c.in_ok-session.ensures.stands in
    let lines = lines_of c.as_slice.result.now in
    let same : lines ≡ bench_lines c.args.number = ap lines_of (c.as_slice.ensures ∙ c.in_ok-script.ensures) in
    let left = c.known.ensures.leaves m _ (c.in_ok-sum.ensures.stands m h stands) in
    let sum = c.in_ok-sum.sum in
    let fits : FitsSigned w64 sum = search rules in
    let summed = to_z-of_z w64 sum fits ∙ c.in_ok-sum.ensures.sum m h stands in
    IfOk-weaker c.summary_text.result _ _ (λ text is. subst (λ l. text ≡ summary_of m l store) same (summary_is m lines store _ text left summed is)) c.summary_text.ensures

pub returns-clause-err : goal.returns-clause-err
returns-clause-err g c =
    let m = meaning_of c.args.program in
    let h = first_history by_tree m in
    let store = c.sum_lines.new.held in
    let lines = lines_of c.as_slice.result.now in
    let same : lines ≡ bench_lines c.args.number = ap lines_of (c.as_slice.ensures ∙ c.in_ok-script.ensures) in
    let left = c.known.ensures.leaves m _ (c.in_ok-sum.ensures.stands m h c.in_ok-session.ensures.stands) in
    of_error c.summary_text.result _ (inr (subst (AfterSome (script_of by_tree m) h (IsBroken m store)) same (broken_behind m lines store left)))

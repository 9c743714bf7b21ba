-- An input has at most one output for a job.
use Rattle.std.proofs.Common.{◌≡◌, ℕ, List, sym, ap, ◌∙◌}
use Rattle.std.specs.List.{concat}
use Rattle.pst_cli_words.specs.declared.job.Job.{Job}
use Rattle.pst_cli_scripts.specs.Input.{cut_of}
use Rattle.pst_cli_scripts.specs.Pieces.{IsAll}
use Rattle.pst_cli_serving.specs.Output.{pieces}
use Rattle.pst_cli_serving.specs.Rows.{Writes}
use Rattle.pst_front.specs.Verdict.{IsEither}
use Rattle.pst_front.proofs.Verdicts.{one_verdict}

pub one_output : (input : List ℕ) (job : Job) (out out' : List ℕ) → Writes IsEither IsAll job (cut_of input) out → Writes IsEither IsAll job (cut_of input) out' → out ≡ out'
one_output input job out out' (v, judged, is, all) (w, judged', is', all') =
    all ∙ ap (λ u. concat (pieces job (cut_of input).script u)) (one_verdict (cut_of input).text v w judged judged') ∙ sym all'

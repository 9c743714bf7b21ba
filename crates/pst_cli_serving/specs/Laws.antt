-- The law of outputs.
use Rattle.std.specs.Prelude.{◌≡◌, ℕ, List}
use Rattle.pst_cli_words.specs.declared.job.Job.{Job}
use Rattle.pst_cli_scripts.specs.Input.{cut_of}
use Rattle.pst_cli_scripts.specs.Pieces.{IsAll}
use Rattle.pst_front.specs.Verdict.{IsEither}
use Rattle.pst_cli_serving.specs.Rows.{Writes}

-- an input has at most one output for a job
abbrev pub HasOneOutput : List ℕ → Type 0
HasOneOutput input =
    (job : Job) (out out' : List ℕ) → Writes IsEither IsAll job (cut_of input) out → Writes IsEither IsAll job (cut_of input) out' → out ≡ out'

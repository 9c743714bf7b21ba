-- The question that a line of a script asks.
use Rattle.std.specs.Prelude.{ℕ, List, Option, Some, None}
use Rattle.std.specs.Option.{option_map}
use Rattle.pst_script.specs.Words.{words}
use Rattle.pst_cli_words.specs.declared.asked.Asked.{Asked as AskedThere}
use Rattle.pst_cli_words.specs.declared.job.Question.{Question}
use Rattle.pst_cli_words.specs.declared.job.Task.{Task}
use Rattle.pst_cli_words.specs.declared.job.Task.TheVariants.{Input, Bench, Ask, Pack, Resume, Serve, Repack}
use Rattle.pst_cli_words.specs.Jobs.{task_of, path_in}

-- a question and its path
pub record Asked : Type 0 where
  pub question : Question
  pub path : List ℕ

-- the question that words ask, with their path
abbrev pub asked_by : (path : List ℕ) → Option Task → Option Asked
asked_by path (Some (Ask question)) = Some (record { question = question; path = path })
asked_by path (Some (Input job)) = None
asked_by path (Some (Bench number)) = None
asked_by path (Some Pack) = None
asked_by path (Some Resume) = None
asked_by path (Some Serve) = None
asked_by path (Some Repack) = None
asked_by path None = None

-- a line asks what its words ask in a call of the program, where that is a question
unfoldable pub question_in : (line : List ℕ) → Option Asked
question_in line = asked_by (path_in (words line)) (task_of (words line))

-- the same with the path as it stands in the line
abbrev pub is_asked : Option AskedThere → Option Asked
is_asked found = option_map (λ asked. record { question = asked.question; path = asked.path.now }) found

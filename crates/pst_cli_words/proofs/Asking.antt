-- The question that words ask, by how many there are.
use Rattle.std.proofs.Common.{◌≡◌, ℕ, Bool, true, false, cond, List, [], ◌∷◌, Option, Some, None, refl, ap}
use Rattle.std.specs.Prelude.{codes}
use Rattle.std.specs.Option.{option_map}
use Rattle.std.specs.Str.{bytes_eq}
use Rattle.pst_script.specs.Words.{words}
use Rattle.pst_cli_words.specs.declared.job.Job.{Job}
use Rattle.pst_cli_words.specs.declared.job.Task.TheVariants.{Input, Pack, Resume, Serve, Repack}
use Rattle.pst_cli_words.specs.Jobs.{job_named, task_of, path_in}
use Rattle.pst_cli_words.specs.Asked.{Asked, asked_by, question_in}

-- what words ask
abbrev pub asked_in : List (List ℕ) → Option Asked
asked_in ws = asked_by (path_in ws) (task_of ws)

pub by_words : (line : List ℕ) (ws : List (List ℕ)) → words line ≡ ws → question_in line ≡ asked_in ws
unfolding question_in
by_words line ws e = ap asked_in e

-- one word asks no question
one_of : (p : List ℕ) (a b c d : Bool) (j : Option Job) → asked_by p (cond a (Some Pack) (cond b (Some Resume) (cond c (Some Serve) (cond d (Some Repack) (option_map Input j))))) ≡ None
one_of p true b c d j = refl
one_of p false true c d j = refl
one_of p false false true d j = refl
one_of p false false false true j = refl
one_of p false false false false None = refl
one_of p false false false false (Some job) = refl

pub one_word : (w : List ℕ) → asked_in (w ∷ []) ≡ None
one_word w = one_of (path_in (w ∷ [])) (bytes_eq w (codes "pack")) (bytes_eq w (codes "resume")) (bytes_eq w (codes "serve")) (bytes_eq w (codes "repack")) (job_named w)

-- What the words ask for.
use Rattle.std.specs.Prelude.{◌≡◌, ℕ, ◌^◌, Bool, List, [], ◌∷◌, map, Option, Some, None, String, string_bytes, if◌then◌else◌, codes, nat_lt, ◌&&◌, slice_index_or}
use Rattle.std.specs.declared.alloc.Global.{Global}
use Rattle.std.specs.Option.{option_map}
use Rattle.std.specs.Str.{bytes_eq}
use Rattle.pst_base.specs.declared.names.VersionNo.{VersionNo}
use Rattle.pst_questions.specs.Path.{is_path}
use Rattle.pst_script.specs.Numerals.{number_of as written_number, passing, fits_32_bits}
use Rattle.pst_cli_words.specs.declared.job.Job.{Job}
use Rattle.pst_cli_words.specs.declared.job.Job.TheVariants.{Run, Replay, Line, Check, Code}
use Rattle.pst_cli_words.specs.declared.job.Question.{Question}
use Rattle.pst_cli_words.specs.declared.job.Question.TheVariants.{Dump, Changed}
use Rattle.pst_cli_words.specs.declared.job.Task.{Task}
use Rattle.pst_cli_words.specs.declared.job.Task.TheVariants.{Input, Bench, Ask, Pack, Resume, Serve, Repack}
use Rattle.pst_cli_words.specs.declared.status.Status.{Status}
use Rattle.pst_cli_words.specs.declared.status.Status.TheVariants as status

abbrev pub job_named : List ℕ → Option Job
job_named word =
    if bytes_eq word (codes "run") then Some Run
    else (if bytes_eq word (codes "replay") then Some Replay
    else (if bytes_eq word (codes "line") then Some Line
    else (if bytes_eq word (codes "check") then Some Check
    else (if bytes_eq word (codes "code") then Some Code
    else None))))

abbrev pub fits_64_bits : ℕ → Bool
fits_64_bits n = nat_lt n (2 ^ 64)

-- a numeral, as a script writes it, of at most 64 bits
abbrev pub long_number : List ℕ → Option ℕ
long_number word = passing fits_64_bits (written_number word)

-- the same of at most 32 bits, which is that of a version
abbrev pub version_number : List ℕ → Option VersionNo
version_number word = option_map (λ n. record { 0 = n }) (passing fits_32_bits (written_number word))

-- one word, which names a job or is `pack`, `resume`, `serve` or `repack`; or `bench` and its number; or `dump` and a version; or `changed`, a version and a path
abbrev pub task_of : List (List ℕ) → Option Task
task_of [] = None
task_of (word ∷ []) =
    if bytes_eq word (codes "pack") then Some Pack
    else (if bytes_eq word (codes "resume") then Some Resume
    else (if bytes_eq word (codes "serve") then Some Serve
    else (if bytes_eq word (codes "repack") then Some Repack
    else option_map Input (job_named word))))
task_of (word ∷ number ∷ []) =
    if bytes_eq word (codes "bench") then option_map Bench (long_number number)
    else (if bytes_eq word (codes "dump") then option_map (λ v. Ask (Dump v)) (version_number number)
    else None)
task_of (word ∷ number ∷ path ∷ []) =
    if bytes_eq word (codes "changed") && is_path path then option_map (λ v. Ask (Changed v)) (version_number number) else None
task_of (word ∷ number ∷ path ∷ more ∷ words) = None

-- the path among words: the third one
abbrev pub path_in : List (List ℕ) → List ℕ
path_in words = slice_index_or words 2 []

-- what the words of a call ask for
abbrev pub task_in : List (String Global) → Option Task
task_in words = task_of (map string_bytes words)

-- where they ask for a job, this holds of it
abbrev pub OnJob : List (String Global) → (Job → Type 0) → Type 0
OnJob words Holds = (job : Job) → task_in words ≡ Some (Input job) → Holds job

-- where they ask for the bench, this holds of its number
abbrev pub OnBench : List (String Global) → (ℕ → Type 0) → Type 0
OnBench words Holds = (number : ℕ) → task_in words ≡ Some (Bench number) → Holds number

-- where they ask a question, this holds of it and of the path among them
abbrev pub OnQuestion : List (String Global) → (Question → List ℕ → Type 0) → Type 0
OnQuestion words Holds = (question : Question) → task_in words ≡ Some (Ask question) → Holds question (path_in (map string_bytes words))

-- where they ask for an image, this holds
abbrev pub OnPack : List (String Global) → Type 0 → Type 0
OnPack words Holds = task_in words ≡ Some Pack → Holds

-- where they ask to go on from an image, this holds
abbrev pub OnResume : List (String Global) → Type 0 → Type 0
OnResume words Holds = task_in words ≡ Some Resume → Holds

-- where they ask to be answered behind an image line by line, this holds
abbrev pub OnServe : List (String Global) → Type 0 → Type 0
OnServe words Holds = task_in words ≡ Some Serve → Holds

-- where they ask for the image of the store that is left behind an image, this holds
abbrev pub OnRepack : List (String Global) → Type 0 → Type 0
OnRepack words Holds = task_in words ≡ Some Repack → Holds

-- the number of a status, with which the program ends
abbrev pub number_of : Status → ℕ
number_of status.Done = 0
number_of status.ReadFault = 1
number_of status.WriteFault = 2
number_of status.Usage = 3
number_of status.Refused = 4
number_of status.TooLong = 5
number_of status.Memory = 6

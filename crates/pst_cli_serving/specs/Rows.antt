-- The table of statuses: what was read of the input, what was written, and what is held in the end.
use Rattle.std.specs.Prelude.{◌≡◌, ℕ, ◌+◌, ◌<◌, ◌≤◌, ◌⊎◌, min, List, [], ◌++◌, length, take, drop, Option, Some, None, IfSome, IsSome, String}
use Rattle.std.specs.declared.alloc.Global.{Global}
use Rattle.pst_io.specs.declared.room.TheConstants.{MOST_INPUT, MOST_SERVED, MOST_READ}
use Rattle.pst_io.specs.Causes.{Rose}
use Rattle.pst_io.specs.Text.{whole_lines}
use Rattle.pst_cli_words.specs.declared.job.Job.{Job}
use Rattle.pst_cli_words.specs.declared.job.Job.TheVariants.{Run, Replay, Line, Check, Code}
use Rattle.pst_cli_words.specs.declared.job.Task.{Task}
use Rattle.pst_cli_words.specs.declared.job.Task.TheVariants.{Input, Bench, Ask, Pack, Resume, Serve, Repack}
use Rattle.pst_cli_words.specs.Jobs.{OnJob}
use Rattle.pst_front.specs.declared.page.Page.{Page}
use Rattle.pst_front.specs.declared.page.Page.TheVariants.{Canonical, Listing}
use Rattle.pst_cli_words.specs.declared.status.Status.{Status}
use Rattle.pst_cli_words.specs.declared.status.Status.TheVariants.{Done, ReadFault, WriteFault, Usage, Refused, TooLong, Memory}
use Rattle.pst_cli_serving.specs.Output.{rules_of, pieces, Outputs, OfVerdict, Accepting, Refusing, StopsInPiece, StopsBeforePiece, StopsInPage}
use Rattle.pst_cli_scripts.specs.Input.{CutInput, cut, cut_of, up_to}
use Rattle.pst_cli_scripts.specs.Pieces.{IsAll}
use Rattle.pst_front.specs.Verdict.{Verdict}
use Rattle.pst_cli_scripts.specs.Script.{Rules}
use Rattle.pst_cli_scripts.specs.Kept.{Kept}
use Rattle.pst_cli_scripts.specs.Sessions.{HasTaken}

-- ---- what was read

-- the program stands within the bytes that may be read: up to the end of the input, or up to a whole separator line
abbrev pub IsReadable : List ℕ → Type 0
IsReadable input = (length input ≤ MOST_INPUT) ⊎ IsSome (cut (whole_lines (take MOST_INPUT input)))

-- what the job needs of the input may be read
abbrev pub IsWithin : Job → List ℕ → Type 0
IsWithin Run input = length input ≤ MOST_INPUT
IsWithin Replay input = length input ≤ MOST_INPUT
IsWithin Line input = length input ≤ MOST_INPUT
IsWithin Check input = IsReadable input
IsWithin Code input = IsReadable input

-- The first bytes of the input were read, so many and no more, which are within this limit, and this is left.
pub record HasReadOf (limit count : ℕ) (input : List ℕ) (left : Option (List ℕ)) : Type 0 where
  pub most : count ≤ limit
  pub within : count ≤ length input
  pub rest : left ≡ Some (drop count input)

-- so they were, within the limit of 67,108,864 bytes
abbrev pub HasRead : (count : ℕ) (input : List ℕ) (left : Option (List ℕ)) → Type 0
HasRead count input left = HasReadOf MOST_INPUT count input left

-- These first lines of the script were read, up to the end of the last one or of the input, and less than one read of
-- `MOST_READ` bytes beyond. Where they are none, that is the end of the separator line.
pub record ReadsUpTo (given : List (List ℕ)) (input : List ℕ) (left : Option (List ℕ)) : Type 0 where
  pub behind : List (List ℕ)
  pub first : (cut_of input).script ≡ given ++ behind
  pub count : ℕ
  pub read : HasRead count input left
  pub reached : min (up_to (cut_of input) given) (length input) ≤ count
  pub near : count < up_to (cut_of input) given + MOST_READ

-- A job that answers the script has read all of the input; one that needs the program alone, no further than that.
abbrev pub ReadsAll : Job → List ℕ → Option (List ℕ) → Type 0
ReadsAll Run input left = HasRead (length input) input left
ReadsAll Replay input left = HasRead (length input) input left
ReadsAll Line input left = HasRead (length input) input left
ReadsAll Check input left = ReadsUpTo [] input left
ReadsAll Code input left = ReadsUpTo [] input left

-- ---- what was written

-- of the output of an input that is cut so, so much is written
abbrev pub Writes : (Verdict → Type 0) → (List (List ℕ) → List ℕ → Type 0) → Job → CutInput → List ℕ → Type 0
Writes Is IsWritten job c out = Outputs Is IsWritten c.text (pieces job c.script) out

-- Reading was cut off: before the program was read, and nothing was written; or in the script, of which all whole lines that were read are answered.
abbrev pub CutOff : Kept → Option CutInput → Job → List ℕ → Type 0
CutOff k None job out = (out ≡ []) × k.untouched
CutOff k (Some c) Run out = Writes (Accepting k c.script) IsAll Run c out
CutOff k (Some c) Replay out = Writes (Accepting k c.script) IsAll Replay c out
CutOff k (Some c) Line out = Writes (Accepting k c.script) IsAll Line c out
CutOff k (Some c) Check out = ⊥
CutOff k (Some c) Code out = ⊥

-- a read that was due did not come
abbrev pub StopsReading : Kept → Job → List ℕ → Option (List ℕ) → List ℕ → Type 0
StopsReading k job input left out = (n : ℕ) × HasRead n input left × CutOff k (cut (whole_lines (take n input))) job out

-- a reply or the line of the fault was not written whole, and nothing was read behind the line whose reply it was
abbrev pub StopsScript : Rules → Kept → List ℕ → Option (List ℕ) → List ℕ → Type 0
StopsScript rules k input left out =
    (given : List (List ℕ)) × ReadsUpTo given input left × OfVerdict (cut_of input).text (λ verdict. StopsInPiece rules k given verdict out)

-- a page or the line of the fault was not written whole
abbrev pub StopsPage : Kept → Page → List ℕ → Option (List ℕ) → List ℕ → Type 0
StopsPage k page input left out = ReadsUpTo [] input left × OfVerdict (cut_of input).text (λ verdict. StopsInPage page verdict out) × k.untouched

abbrev pub StopsWriting : Kept → Job → List ℕ → Option (List ℕ) → List ℕ → Type 0
StopsWriting k Run input left out = StopsScript (rules_of Run) k input left out
StopsWriting k Replay input left out = StopsScript (rules_of Replay) k input left out
StopsWriting k Line input left out = StopsScript (rules_of Line) k input left out
StopsWriting k Check input left out = StopsPage k Canonical input left out
StopsWriting k Code input left out = StopsPage k Listing input left out

-- there was no room for the program, or for what is written of it
abbrev pub LacksProgram : Kept → List ℕ → Option (List ℕ) → List ℕ → Type 0
LacksProgram k input left out = (out ≡ []) × k.untouched × ((n : ℕ) × HasRead n input left × (n < up_to (cut_of input) [] + MOST_READ))

-- there was no room in a line of the script, and nothing was read behind it
abbrev pub LacksReply : Rules → Kept → List ℕ → Option (List ℕ) → List ℕ → Type 0
LacksReply rules k input left out =
    (given : List (List ℕ)) × ReadsUpTo given input left × OfVerdict (cut_of input).text (λ verdict. StopsBeforePiece rules k given verdict out)

abbrev pub LacksRoom : Kept → Job → List ℕ → Option (List ℕ) → List ℕ → Type 0
LacksRoom k Run input left out = LacksProgram k input left out ⊎ (IsReadable input × LacksReply (rules_of Run) k input left out)
LacksRoom k Replay input left out = LacksProgram k input left out ⊎ (IsReadable input × LacksReply (rules_of Replay) k input left out)
LacksRoom k Line input left out = LacksProgram k input left out ⊎ (IsReadable input × LacksReply (rules_of Line) k input left out)
LacksRoom k Check input left out = LacksProgram k input left out
LacksRoom k Code input left out = LacksProgram k input left out

-- ---- the table

-- the row of a status, for what is held, a job, an input, what the source has left of it, and what was written
abbrev pub Row : Status → Kept → Job → List ℕ → Option (List ℕ) → List ℕ → Type 0
Row Done k job input left out = IsWithin job input × ReadsAll job input left × Writes (Accepting k (cut_of input).script) IsAll job (cut_of input) out
Row Refused k job input left out = IsReadable input × ReadsUpTo [] input left × Writes (Refusing k) IsAll job (cut_of input) out
Row WriteFault k job input left out = IsReadable input × StopsWriting k job input left out
Row ReadFault k job input left out = StopsReading k job input left out
Row TooLong k job input left out = (MOST_INPUT < length input) × (left ≡ Some (drop (MOST_INPUT + 1) input)) × CutOff k (cut (whole_lines (take MOST_INPUT input))) job out
Row Memory k job input left out = StopsReading k job input left out ⊎ LacksRoom k job input left out
Row Usage k job input left out = ⊥

-- Where the source tells its bytes, a row holds of them, of what it has left, and of what was written.
abbrev pub HasRow : {S K : Type 0} → (left : S → Option (List ℕ)) → (source source' : S) → (taken : K → Option (List ℕ)) → (sink sink' : K)
    → (row : List ℕ → Option (List ℕ) → List ℕ → Type 0) → Type 0
HasRow left source source' taken sink sink' row = IfSome (left source) (λ input. HasTaken taken sink sink' (row input (left source')))

-- where the words ask for a job, its row holds, by what each job leaves
abbrev pub ServesJob : {S K : Type 0} → List (String Global) → (left : S → Option (List ℕ)) → (source source' : S) → (taken : K → Option (List ℕ)) → (sink sink' : K) → Status → (Job → Kept) → Type 0
ServesJob words left source source' taken sink sink' status kept =
    OnJob words (λ job. HasRow left source source' taken sink sink' (Row status (kept job) job))

-- the count of faults of a source or sink did not rise
abbrev pub NoFault : {T : Type 0} → (faults : T → ℕ) → (old new : T) → Type 0
NoFault faults old new = Rose (faults old) (faults new) → ⊥

-- this holds where neither the source nor the sink failed
abbrev pub UnlessFailed : {S K : Type 0} → (of_source : S → ℕ) → (source source' : S) → (of_sink : K → ℕ) → (sink sink' : K) → Type 0 → Type 0
UnlessFailed of_source source source' of_sink sink sink' Holds = NoFault of_source source source' → NoFault of_sink sink sink' → Holds

-- how a call ends in which neither the source nor the sink failed, and the input was not too long
abbrev pub IsComplete : Status → Type 0
IsComplete Done = Unit {0}
IsComplete Refused = Unit {0}
IsComplete Memory = Unit {0}
IsComplete ReadFault = ⊥
IsComplete WriteFault = ⊥
IsComplete Usage = ⊥
IsComplete TooLong = ⊥

-- What the words ask for needs no more of the input than may be read: the bench needs nothing, a question and an image need what `run`
-- does, and so does a script behind an image for `resume`; `serve` and `repack` have the limit of 2^62 bytes. They ask for something.
abbrev pub IsServable : Option Task → List ℕ → Type 0
IsServable None input = ⊥
IsServable (Some (Input job)) input = IsWithin job input
IsServable (Some (Bench number)) input = Unit {0}
IsServable (Some (Ask question)) input = IsWithin Run input
IsServable (Some Pack) input = IsWithin Run input
IsServable (Some Resume) input = length input ≤ MOST_INPUT
IsServable (Some Serve) input = length input ≤ MOST_SERVED
IsServable (Some Repack) input = length input ≤ MOST_SERVED

-- where the source tells its bytes, a call that needs no more of them than may be read is complete, unless the source or the sink failed
abbrev pub Completes : {S K : Type 0} → (left : S → Option (List ℕ)) → (of_source : S → ℕ) → (source source' : S) → (of_sink : K → ℕ) → (sink sink' : K) → Option Task → Status → Type 0
Completes left of_source source source' of_sink sink sink' task status =
    IfSome (left source) (λ input. IsServable task input → UnlessFailed of_source source source' of_sink sink sink' (IsComplete status))

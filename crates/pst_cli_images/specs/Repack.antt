-- The image of a script, and another script behind it.
use Rattle.std.specs.Prelude.{◌≡◌, ℕ, ◌<◌, ◌≤◌, List, [], ◌++◌, length, Option}
use Rattle.std.specs.List.{concat}
use Rattle.pst_grammar.specs.Syntax.{ProgramText}
use Rattle.pst_typing.specs.Declarations.{NamedProgram}
use Rattle.pst_notation.specs.Canonical.{canonical}
use Rattle.pst_front.specs.Verdict.{Judged, Accepted}
use Rattle.pst_front.specs.Pages.{routines_in}
use Rattle.pst_io.specs.Text.{lines_of}
use Rattle.pst_cli_words.specs.declared.job.Job.TheVariants.{Run}
use Rattle.pst_cli_words.specs.declared.status.Status.{Status}
use Rattle.pst_cli_words.specs.declared.status.Status.TheVariants.{Done, ReadFault, WriteFault, Usage, Refused, TooLong, Memory}
use Rattle.pst_history.specs.Direct.{direct}
use Rattle.pst_cli_scripts.specs.Input.{cut_of}
use Rattle.pst_cli_serving.specs.Held.{kept_in}
use Rattle.pst_store_meaning.specs.Store.{Stored}
use Rattle.pst_image_form.specs.declared.parts.ImageParts.{ImageParts}
use Rattle.pst_history_laws.specs.LawsLines.{IsReadAgain}
use Rattle.pst_history_laws.specs.TakenUp.{taken_up, all_dropped}
use Rattle.pst_history_laws.specs.Openings.{left_by, replies_on}
use Rattle.pst_image_unpack.specs.Unpacked.{IsAccepted}
use Rattle.pst_cli_images.specs.Packing.{PackRow}
use Rattle.pst_cli_images.specs.Opening.{opening_in}
use Rattle.pst_cli_images.specs.Resuming.{ResumeRow, resumed_in}

-- ---- what the two calls did

-- the script of the input was carried out, and the whole image of the store was written
abbrev pub IsPacked : (input image : List ℕ) → Type 0
IsPacked input image = (old : Option Stored) × (new : Option Stored) × (left : Option (List ℕ)) × PackRow Done (kept_in old new Run) new input left image

-- what comes of an input that is an image with a script behind it, by the status
abbrev pub ComesOf : Status → (input out : List ℕ) → Type 0
ComesOf status input out = (old : Option Stored) × (new : Option Stored) × (left : Option (List ℕ)) × ResumeRow status (resumed_in old new) input left out

-- the image was accepted, and each line of the script was answered
abbrev pub IsResumed : (input out : List ℕ) → Type 0
IsResumed input out = ComesOf Done input out

-- ---- what they come to together

-- the canonical text of the program of an input is one that an image may have
abbrev pub HasShortText : List ℕ → Type 0
HasShortText input = (syntax : ProgramText) (named : NamedProgram) → Judged (cut_of input).text (Accepted syntax named) → length (canonical syntax) < 4294967295

-- The program of an input, and the one that its canonical text is read as.
pub record Programs (input : List ℕ) : Type 0 where
  pub syntax : ProgramText
  pub named : NamedProgram
  pub judged : Judged (cut_of input).text (Accepted syntax named)
  pub read : IsReadAgain syntax named

-- With any bytes behind it, the image of an input is accepted, as one of the program read again; and it is the opening that is taken up
-- from the history that the script left.
pub record IsAcceptedBefore (input image behind : List ℕ) : Type 0 where
  pub programs : Programs input
  pub parts : ImageParts
  pub accepted : IsAccepted (image ++ behind) parts programs.read.program (length image)
  pub opening :
      let m = direct (routines_in programs.named) in
      opening_in programs.read.program.shape parts ≡ taken_up m (left_by m (cut_of input).script)

-- the replies to the script behind, under the program read again, after the script of the input, of which the open runs are dropped
abbrev pub replies_after : (input : List ℕ) → Programs input → (behind : List ℕ) → List ℕ
replies_after input programs behind =
    let n = direct (routines_in programs.read.program) in
    concat (replies_on n (all_dropped (left_by n (cut_of input).script)) (lines_of behind))

-- What is written are these replies.
pub record IsContinued (input behind out : List ℕ) : Type 0 where
  pub programs : Programs input
  pub replies : out ≡ replies_after input programs behind

-- bytes are a first part of others
abbrev pub IsFirstPart : (whole out : List ℕ) → Type 0
IsFirstPart whole out = (rest : List ℕ) × (whole ≡ out ++ rest)

-- What is written is a first part of them.
pub record IsContinuedInPart (input behind out : List ℕ) : Type 0 where
  pub programs : Programs input
  pub replies : IsFirstPart (replies_after input programs behind) out

-- What is written behind an image, by the status: all of these replies; a first part of them, where a write failed or memory was wanting;
-- nothing where a read failed; and no other status comes.
abbrev pub Continues : Status → (input behind out : List ℕ) → Type 0
Continues Done input behind out = IsContinued input behind out
Continues WriteFault input behind out = IsContinuedInPart input behind out
Continues Memory input behind out = IsContinuedInPart input behind out
Continues ReadFault input behind out = out ≡ []
Continues Refused input behind out = ⊥
Continues TooLong input behind out = ⊥
Continues Usage input behind out = ⊥

-- ---- the laws

-- For each input of which the image was written, and each script such that both have at most 67,108,864 bytes together: what is written
-- behind the image are the replies that the script has behind the one that was packed, and the image is never refused.
abbrev pub GoesOnLaw : Type 0
GoesOnLaw = (status : Status) (input image behind out : List ℕ) → IsPacked input image → length (image ++ behind) ≤ 67108864 → ComesOf status (image ++ behind) out
    → Continues status input behind out

-- an image that was written is accepted, with any bytes behind it
abbrev pub PackedIsAcceptedLaw : Type 0
PackedIsAcceptedLaw = (input image behind : List ℕ) → IsPacked input image → HasShortText input → IsAcceptedBefore input image behind

-- a script behind an image that was written has the replies that it has behind the script of which it is the image
abbrev pub ResumedLaw : Type 0
ResumedLaw = (input image behind out : List ℕ) → IsPacked input image → IsResumed (image ++ behind) out → IsContinued input behind out

-- such an image is never refused
abbrev pub NeverRefusedLaw : Type 0
NeverRefusedLaw = (input image behind out : List ℕ) → IsPacked input image → ComesOf Refused (image ++ behind) out → ⊥

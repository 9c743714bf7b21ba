-- Images day after day: each is that of the image before it, with another script behind it.
use Rattle.std.specs.Prelude.{◌≡◌, ℕ, List, ◌++◌, length, Option}
use Rattle.std.specs.List.{concat}
use Rattle.pst_typing.specs.Declarations.{NamedProgram}
use Rattle.pst_front.specs.Pages.{routines_in}
use Rattle.pst_io.specs.Text.{lines_of}
use Rattle.pst_cli_words.specs.declared.status.Status.{Status}
use Rattle.pst_cli_words.specs.declared.status.Status.TheVariants.{Done, Refused}
use Rattle.pst_history.specs.History.{History, opening}
use Rattle.pst_history.specs.Sound.{IsSoundHistory}
use Rattle.pst_history.specs.Direct.{direct}
use Rattle.pst_cli_scripts.specs.Input.{cut_of}
use Rattle.pst_cli_scripts.specs.Pieces.{state_after}
use Rattle.pst_cli_scripts.specs.Script.{by_tree, script_of}
use Rattle.pst_store_meaning.specs.Store.{Stored}
use Rattle.pst_image_form.specs.declared.parts.ImageParts.{ImageParts}
use Rattle.pst_history_laws.specs.TakenUp.{taken_up, all_dropped, NoneOpen}
use Rattle.pst_history_laws.specs.Openings.{left_by, replies_on}
use Rattle.pst_image_unpack.specs.Unpacked.{IsAccepted}
use Rattle.pst_cli_images.specs.Opening.{opening_in}
use Rattle.pst_cli_images.specs.Resuming.{resumed_in}
use Rattle.pst_cli_images.specs.Repacking.{RepackRow}
use Rattle.pst_cli_images.specs.Repack.{IsPacked, IsResumed, ComesOf, HasShortText, Programs}

-- what comes of an input that is an image with a script behind it, to be carried out and packed again, by the status
abbrev pub ComesOfRepacking : Status → (input out : List ℕ) → Type 0
ComesOfRepacking status input out = (old : Option Stored) × (new : Option Stored) × (left : Option (List ℕ)) × RepackRow status (resumed_in old new) new input left out

-- the image was accepted, the script behind it was carried out, and the whole image of what is left was written
abbrev pub IsRepacked : (input image : List ℕ) → Type 0
IsRepacked input image = ComesOfRepacking Done input image

-- An image keeps a history of a program, in which no run is open and which began with version 0 alone: whatever stands behind it, it is
-- accepted, and it is the opening that is taken up from the history: its versions with their heaps, parents and runs, the counts, the number
-- of the next run and the budget.
pub record KeepsHistory (image : List ℕ) (named : NamedProgram) (h : History) : Type 0 where
  pub sound : IsSoundHistory (direct (routines_in named)) h
  pub start : h.start ≡ opening (direct (routines_in named)).shape
  pub shut : NoneOpen h
  pub parts : ImageParts
  pub accepted : (behind : List ℕ) → IsAccepted (image ++ behind) parts named (length image)
  pub opening : opening_in named.shape parts ≡ taken_up (direct (routines_in named)) h

-- the history that a script makes of one, its open runs dropped
abbrev pub left_after : NamedProgram → History → (script : List (List ℕ)) → History
left_after named h script = all_dropped (state_after (script_of by_tree (direct (routines_in named))) h script)

-- The image of an input keeps the history that its script leaves, under the program read again from the canonical text.
pub record PackedKeeps (input image : List ℕ) : Type 0 where
  pub programs : Programs input
  pub keeps : KeepsHistory image programs.read.program (all_dropped (left_by (direct (routines_in programs.read.program)) (cut_of input).script))

-- ---- the laws

abbrev pub PackedKeepsLaw : Type 0
PackedKeepsLaw = (input image : List ℕ) → IsPacked input image → HasShortText input → PackedKeeps input image

-- an image that is packed again behind a script keeps the history that the script makes of the one before, its open runs dropped
abbrev pub RepackedKeepsLaw : Type 0
RepackedKeepsLaw = (first : List ℕ) (named : NamedProgram) (h : History) (behind image : List ℕ) → KeepsHistory first named h → IsRepacked (first ++ behind) image
    → KeepsHistory image named (left_after named h (lines_of behind))

-- an image that keeps a history is never refused where it is to be packed again: what it keeps has counted few enough
abbrev pub NeverRefusedAgainLaw : Type 0
NeverRefusedAgainLaw = (first : List ℕ) (named : NamedProgram) (h : History) (behind out : List ℕ) → KeepsHistory first named h → ComesOfRepacking Refused (first ++ behind) out → ⊥

-- what is written behind an image that keeps a history are the replies on that history
abbrev pub ResumedBehindLaw : Type 0
ResumedBehindLaw = (first : List ℕ) (named : NamedProgram) (h : History) (behind out : List ℕ) → KeepsHistory first named h → IsResumed (first ++ behind) out
    → out ≡ concat (replies_on (direct (routines_in named)) h (lines_of behind))

-- such an image is never refused where a script is to be answered behind it
abbrev pub NeverRefusedBehindLaw : Type 0
NeverRefusedBehindLaw = (first : List ℕ) (named : NamedProgram) (h : History) (behind out : List ℕ) → KeepsHistory first named h → ComesOf Refused (first ++ behind) out → ⊥

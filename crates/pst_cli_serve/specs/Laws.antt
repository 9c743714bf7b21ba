-- What `serve` writes beside what `resume` writes, and behind images that were written.
use Rattle.std.specs.Prelude.{◌≡◌, ℕ, List, ◌++◌, drop, Option, None}
use Rattle.std.specs.List.{concat, AllByRecursion}
use Rattle.pst_io.specs.Text.{lines_of}
use Rattle.pst_front.specs.Pages.{routines_in}
use Rattle.pst_typing.specs.Declarations.{NamedProgram}
use Rattle.pst_history.specs.History.{History}
use Rattle.pst_history.specs.Direct.{direct}
use Rattle.pst_store_meaning.specs.Store.{Stored}
use Rattle.pst_cli_words.specs.declared.status.Status.{Status}
use Rattle.pst_cli_words.specs.declared.status.Status.TheVariants.{Done, Refused}
use Rattle.pst_cli_words.specs.Asked.{question_in}
use Rattle.pst_image_form.specs.declared.parts.ImageParts.{ImageParts}
use Rattle.pst_history_laws.specs.Openings.{replies_on}
use Rattle.pst_image_unpack.specs.Unpacked.{IsAccepted}
use Rattle.pst_cli_images.specs.Repack.{IsPacked, IsContinued, ComesOf}
use Rattle.pst_cli_images.specs.Resuming.{resumed_in}
use Rattle.pst_cli_images.specs.Days.{KeepsHistory}
use Rattle.pst_cli_serve.specs.Serving.{ServeRow}

-- what comes of an input that is an image with a script behind it, to be answered line by line, by the status
abbrev pub ComesOfServing : Status → (input out : List ℕ) → Type 0
ComesOfServing status input out = (old : Option Stored) × (new : Option Stored) × (left : Option (List ℕ)) × ServeRow status (resumed_in old new) input left out

-- all lines behind the image were answered
abbrev pub IsServed : (input out : List ℕ) → Type 0
IsServed input out = ComesOfServing Done input out

-- none of the lines of a script asks a question
abbrev pub AsksNothing : (script : List ℕ) → Type 0
AsksNothing script = AllByRecursion (λ line. question_in line ≡ None) (lines_of script)

-- no line behind an accepted image at the front asks a question
abbrev pub AsksNothingBehind : (input : List ℕ) → Type 0
AsksNothingBehind input = (image : ImageParts) (named : NamedProgram) (len : ℕ) → IsAccepted input image named len → AsksNothing (drop len input)

-- ---- the laws

-- where `resume` answers all lines, and none asks a question, `serve` writes the same
abbrev pub SameAsResumedLaw : Type 0
SameAsResumedLaw = (input out served : List ℕ) → ComesOf Done input out → IsServed input served → AsksNothingBehind input → served ≡ out

-- an input that `resume` answers is not refused by `serve`, and one that it refuses is not answered
abbrev pub SameVerdictLaw : Type 0
SameVerdictLaw = (input out served : List ℕ) → (ComesOf Done input out → ComesOfServing Refused input served → ⊥) × (ComesOf Refused input out → IsServed input served → ⊥)

-- behind an image that was packed, the replies are those that the script has behind the one that was packed
abbrev pub ServedLaw : Type 0
ServedLaw = (input image behind out : List ℕ) → IsPacked input image → IsServed (image ++ behind) out → AsksNothing behind → IsContinued input behind out

-- behind an image that keeps a history, they are the replies on that history
abbrev pub ServedBehindLaw : Type 0
ServedBehindLaw = (first : List ℕ) (named : NamedProgram) (h : History) (behind out : List ℕ) → KeepsHistory first named h → IsServed (first ++ behind) out → AsksNothing behind
    → out ≡ concat (replies_on (direct (routines_in named)) h (lines_of behind))

-- such an image is never refused, whatever its size
abbrev pub NeverRefusedServingLaw : Type 0
NeverRefusedServingLaw = (first : List ℕ) (named : NamedProgram) (h : History) (behind out : List ℕ) → KeepsHistory first named h → ComesOfServing Refused (first ++ behind) out → ⊥

-- The script behind an image: what was read and written, and what is held in the end.
use Rattle.std.specs.Prelude.{◌≡◌, ℕ, ◌+◌, ◌<◌, ◌⊎◌, List, [], ◌++◌, length, drop, Option, Some, Result, Ok, Err, codes}
use Rattle.std.specs.Fmt.{decimal}
use Rattle.pst_io.specs.declared.room.TheConstants.{MOST_INPUT}
use Rattle.pst_io.specs.Text.{lines_of}
use Rattle.pst_typing.specs.Declarations.{NamedProgram}
use Rattle.pst_history.specs.Meaning.{Meaning}
use Rattle.pst_history.specs.History.{History, begun}
use Rattle.pst_history.specs.Direct.{direct}
use Rattle.pst_store_meaning.specs.Store.{Stored}
use Rattle.pst_cli_words.specs.declared.status.Status.{Status}
use Rattle.pst_cli_words.specs.declared.status.Status.TheVariants.{Done, ReadFault, WriteFault, Usage, Refused, TooLong, Memory}
use Rattle.pst_cli_scripts.specs.declared.stop.Stop.{Stop}
use Rattle.pst_cli_scripts.specs.declared.stop.Stop.TheVariants as stop
use Rattle.pst_cli_scripts.specs.Pieces.{IsPartOf}
use Rattle.pst_cli_scripts.specs.Script.{by_tree, script_of}
use Rattle.pst_cli_scripts.specs.Sessions.{AnswersText}
use Rattle.pst_front.specs.Pages.{routines_in}
use Rattle.pst_cli_serving.specs.Storing.{IsLeft, IsBroken}
use Rattle.pst_cli_serving.specs.Rows.{HasReadOf}
use Rattle.pst_image_form.specs.declared.parts.ImageParts.{ImageParts}
use Rattle.pst_image_rules.specs.declared.rule.Rule.{Rule}
use Rattle.pst_image_rules.specs.Rules.{number_of}
use Rattle.pst_image_unpack.specs.Unpacked.{IsAccepted, FailsFirst}
use Rattle.pst_cli_images.specs.Opening.{opening_in}

-- What is held, by the history that a script over an image made.
pub record Resumed : Type 1 where
  -- as the script left it in that history
  pub leaves : Meaning → History → Type 0
  -- the same after want of memory in the command before or behind it
  pub breaks : Meaning → History → Type 0
  -- no image was accepted
  pub untouched : Type 0

-- the store, as it was and is
abbrev pub resumed_in : (old new : Option Stored) → Resumed
resumed_in old new = record { leaves = λ m h. IsLeft m new h; breaks = λ m h. IsBroken m new h; untouched = new ≡ old }

-- ---- what was read

-- all of the input, which is within the limit
abbrev pub ReadsWhole : (limit : ℕ) → List ℕ → Option (List ℕ) → Type 0
ReadsWhole limit input left = HasReadOf limit (length input) input left

-- some of it
abbrev pub ReadsSome : (limit : ℕ) → List ℕ → Option (List ℕ) → Type 0
ReadsSome limit input left = (n : ℕ) × HasReadOf limit n input left

-- ---- what was written

-- the line of a rule that fails
abbrev pub refusal_text : Rule → List ℕ
refusal_text rule = codes "refused image " ++ decimal (number_of rule) ++ codes "\n"

-- what is written of the line of a rule, by the status
abbrev pub Refuses : Status → Rule → List ℕ → Type 0
Refuses Refused rule out = out ≡ refusal_text rule
Refuses WriteFault rule out = IsPartOf (refusal_text rule) out
Refuses Memory rule out = out ≡ []
Refuses Done rule out = ⊥
Refuses ReadFault rule out = ⊥
Refuses TooLong rule out = ⊥
Refuses Usage rule out = ⊥

-- nothing was written, and no image was accepted
abbrev pub IsUntouched : Resumed → List ℕ → Type 0
IsUntouched k out = (out ≡ []) × k.untouched

-- the image is refused: this is the first rule that fails, and so much is written of its line
abbrev pub RefusesImage : Resumed → (List ℕ → List ℕ → Type 0) → List ℕ → List ℕ → Type 0
RefusesImage k Much input out = (rule : Rule) × FailsFirst input rule × Much (refusal_text rule) out × k.untouched

-- The input begins with an accepted image, and the lines behind it were answered so, with the image as the opening.
pub record AnswersBehind (k : Resumed) (result : Result (Unit {0}) Stop) (input out : List ℕ) : Type 0 where
  pub image : ImageParts
  pub named : NamedProgram
  pub len : ℕ
  pub accepted : IsAccepted input image named len
  pub answered :
      let m = direct (routines_in named) in
      AnswersText (script_of by_tree m) (begun (opening_in named.shape image)) (k.leaves m) (k.breaks m) result (lines_of (drop len input)) out

-- what comes of an input that was read to its end, by the status
abbrev pub Resumes : Status → Resumed → (input out : List ℕ) → Type 0
Resumes Done k input out = AnswersBehind k (Ok tt) input out
Resumes Refused k input out = RefusesImage k (λ line written. written ≡ line) input out
Resumes WriteFault k input out = RefusesImage k IsPartOf input out ⊎ AnswersBehind k (Err stop.Write) input out
Resumes Memory k input out = IsUntouched k out ⊎ AnswersBehind k (Err stop.Memory) input out
Resumes ReadFault k input out = ⊥
Resumes TooLong k input out = ⊥
Resumes Usage k input out = ⊥

-- ---- the table

-- The row of a status where an input of at most `limit` bytes is read to its end before anything else is done: what comes of it then, by
-- the status; or reading stopped, and nothing was done.
abbrev pub WholeRow : (limit : ℕ) → (Comes : Status → Resumed → (input out : List ℕ) → Type 0) → Status → Resumed → List ℕ → Option (List ℕ) → List ℕ → Type 0
WholeRow limit Comes Done k input left out = ReadsWhole limit input left × Comes Done k input out
WholeRow limit Comes Refused k input left out = ReadsWhole limit input left × Comes Refused k input out
WholeRow limit Comes WriteFault k input left out = ReadsWhole limit input left × Comes WriteFault k input out
WholeRow limit Comes ReadFault k input left out = IsUntouched k out × ReadsSome limit input left
WholeRow limit Comes TooLong k input left out = IsUntouched k out × (limit < length input) × (left ≡ Some (drop (limit + 1) input))
WholeRow limit Comes Memory k input left out = (IsUntouched k out × ReadsSome limit input left) ⊎ (ReadsWhole limit input left × Comes Memory k input out)
WholeRow limit Comes Usage k input left out = ⊥

-- The row of a status, for what is held, an input, what the source has left of it, and what was written.
abbrev pub ResumeRow : Status → Resumed → List ℕ → Option (List ℕ) → List ℕ → Type 0
ResumeRow status k input left out = WholeRow MOST_INPUT Resumes status k input left out

-- An image at the front of an input, and the script behind it, line by line: what was read and written, and what is held in the end.
use Rattle.std.specs.Prelude.{◌≡◌, ℕ, ◌+◌, ◌<◌, ◌≤◌, ◌⊎◌, min, List, [], ◌++◌, length, take, drop, Option, Some, Result, Ok, Err}
use Rattle.pst_io.specs.declared.room.TheConstants.{MOST_SERVED, MOST_READ}
use Rattle.pst_io.specs.Text.{lines_of, whole_lines}
use Rattle.pst_io.specs.Input.{InputState}
use Rattle.pst_program.specs.declared.program.Program.{Program}
use Rattle.pst_typing.specs.View.{program_of}
use Rattle.pst_history.specs.Meaning.{Meaning}
use Rattle.pst_history.specs.History.{History, begun}
use Rattle.pst_history.specs.Direct.{meaning_of}
use Rattle.pst_cli_words.specs.declared.status.Status.{Status}
use Rattle.pst_cli_words.specs.declared.status.Status.TheVariants.{Done, ReadFault, WriteFault, Usage, Refused, TooLong, Memory}
use Rattle.pst_cli_scripts.specs.declared.stop.Stop.{Stop}
use Rattle.pst_cli_scripts.specs.Input.{bytes_of}
use Rattle.pst_cli_scripts.specs.Pieces.{state_after, IsPartOf, BreaksIn}
use Rattle.pst_cli_scripts.specs.Script.{by_tree, script_of}
use Rattle.pst_cli_serving.specs.Rows.{HasReadOf}
use Rattle.pst_cli_serving.specs.Serving.{ReadsNothing, status_of}
use Rattle.pst_image_rules.specs.declared.rule.Rule.{Rule}
use Rattle.pst_image_form.specs.declared.parts.ImageParts.{ImageParts}
use Rattle.pst_image_front.specs.Front.{promised, IsShort}
use Rattle.pst_image_unpack.specs.Unpacked.{IsAccepted, FailsFirst}
use Rattle.pst_cli_images.specs.Opening.{opening_in}
use Rattle.pst_cli_images.specs.Resuming.{Resumed, IsUntouched, Refuses, RefusesImage}
use Rattle.pst_cli_serve.specs.Served.{Says, ServesLines, IsAnswered, StopsInTold, StopsBeforeTold}

-- ---- what was read

-- So many first bytes were read, and less than one read of 65,536 bytes beyond those that the sizes at the front promise.
pub record ReadsFront (input : List ℕ) (left : Option (List ℕ)) : Type 0 where
  pub count : ℕ
  pub read : HasReadOf MOST_SERVED count input left
  pub near : count < promised input + MOST_READ

-- These first lines behind the image of this length were read, up to the end of the last one or of the input, and less than one read
-- beyond. Where they are none, that is the end of the image.
pub record ReadsBehind (len : ℕ) (given : List (List ℕ)) (input : List ℕ) (left : Option (List ℕ)) : Type 0 where
  pub behind : List (List ℕ)
  pub first : lines_of (drop len input) ≡ given ++ behind
  pub count : ℕ
  pub read : HasReadOf MOST_SERVED count input left
  pub reached : min (len + bytes_of given) (length input) ≤ count
  pub near : count < len + bytes_of given + MOST_READ

-- ---- what was written

-- The bytes begin with an accepted image, of this length and program, and this holds in the history that begins with it.
pub record Behind (Holds : Program → Meaning → History → (len : ℕ) → Type 0) (bytes : List ℕ) : Type 0 where
  pub image : ImageParts
  pub program : Program
  pub len : ℕ
  pub accepted : IsAccepted bytes image (program_of program) len
  pub holds : Holds program (meaning_of program) (begun (opening_in program.shape image)) len

-- all of these lines are answered, and the store is left after them
abbrev pub AnswersAll : Resumed → Program → Meaning → History → List (List ℕ) → List ℕ → Type 0
AnswersAll k program m h lines out = IsAnswered (Says program m) (script_of by_tree m) h lines out × k.leaves m (state_after (script_of by_tree m) h lines)

-- the last of these lines was carried out, and its reply is not written whole
abbrev pub StopsInLine : Resumed → Program → Meaning → History → List (List ℕ) → List ℕ → Type 0
StopsInLine k program m h given out =
    StopsInTold (Says program m) (script_of by_tree m) h given out × k.leaves m (state_after (script_of by_tree m) h given)

-- there was no room in the last of these lines
abbrev pub LacksInLine : Resumed → Program → Meaning → History → List (List ℕ) → List ℕ → Type 0
LacksInLine k program m h given out =
    StopsBeforeTold (Says program m) (script_of by_tree m) h given out × BreaksIn (script_of by_tree m) h (k.breaks m) given

-- Reading was cut off behind these bytes: the sizes at their front promise more than there is, and nothing was done; or behind an image, and
-- all whole lines that were read are answered.
abbrev pub CutOffIn : Resumed → (seen out : List ℕ) → Type 0
CutOffIn k seen out =
    (IsUntouched k out × IsShort seen) ⊎ Behind (λ program m h len. AnswersAll k program m h (whole_lines (drop len seen)) out) seen

-- ---- the table

-- a read that was due did not come
abbrev pub CutsReading : Resumed → List ℕ → Option (List ℕ) → List ℕ → Type 0
CutsReading k input left out = (n : ℕ) × HasReadOf MOST_SERVED n input left × CutOffIn k (take n input) out

-- The row of a status, for what is held, an input, what the source has left of it, and what was written.
abbrev pub ServeRow : Status → Resumed → List ℕ → Option (List ℕ) → List ℕ → Type 0
ServeRow Done k input left out =
    HasReadOf MOST_SERVED (length input) input left × Behind (λ program m h len. AnswersAll k program m h (lines_of (drop len input)) out) input
ServeRow Refused k input left out = ReadsFront input left × RefusesImage k (λ line written. written ≡ line) input out
ServeRow WriteFault k input left out =
    (ReadsFront input left × RefusesImage k IsPartOf input out)
    ⊎ Behind (λ program m h len. (given : List (List ℕ)) × ReadsBehind len given input left × StopsInLine k program m h given out) input
ServeRow ReadFault k input left out = CutsReading k input left out
ServeRow TooLong k input left out =
    (MOST_SERVED < length input) × (left ≡ Some (drop (MOST_SERVED + 1) input)) × CutOffIn k (take MOST_SERVED input) out
ServeRow Memory k input left out =
    (IsUntouched k out × ReadsFront input left)
    ⊎ (CutsReading k input left out
    ⊎ Behind (λ program m h len. (given : List (List ℕ)) × ReadsBehind len given input left × LacksInLine k program m h given out) input)
ServeRow Usage k input left out = ⊥

-- ---- what the functions below come to

-- how answering ends, by what stopped it
abbrev pub status_at : {T : Type 0} → Result T Stop → Status
status_at (Ok done) = Done
status_at (Err s) = status_of s

-- what comes of a script behind the image of these bytes: there was no room for a session, and nothing was read; or its lines were answered
-- so, in the history that begins with the image
abbrev pub ServesBehind : Status → Resumed → (bytes : List ℕ) → InputState → Option (List ℕ) → InputState → Option (List ℕ) → List ℕ → Type 0
ServesBehind status k bytes a left b left' out =
    ((status ≡ Memory) × IsUntouched k out × ReadsNothing a left b left')
    ⊎ ((result : Result (Unit {0}) Stop) × (status ≡ status_at result)
    × Behind (λ program m h len. ServesLines (Says program m) (script_of by_tree m) h (k.leaves m) (k.breaks m) result a left b left' out) bytes)

-- what comes of the bytes that were read: a rule fails, and nothing more was read; or as before
abbrev pub ServesFrom : Status → Resumed → (bytes : List ℕ) → InputState → Option (List ℕ) → InputState → Option (List ℕ) → List ℕ → Type 0
ServesFrom status k bytes a left b left' out =
    ((rule : Rule) × FailsFirst bytes rule × Refuses status rule out × k.untouched × ReadsNothing a left b left') ⊎ ServesBehind status k bytes a left b left' out

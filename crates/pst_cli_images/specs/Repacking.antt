-- The image of the store that a script behind an image leaves: what was read and written, and what is held in the end.
use Rattle.std.specs.Prelude.{◌≡◌, ℕ, ◌^◌, ◌⊎◌, List, [], ◌++◌, drop, Option, Result, Ok, Err}
use Rattle.pst_io.specs.declared.room.TheConstants.{MOST_SERVED}
use Rattle.pst_io.specs.Text.{lines_of}
use Rattle.pst_program.specs.Sound.{CountsWithin}
use Rattle.pst_typing.specs.Declarations.{NamedProgram}
use Rattle.pst_history.specs.Meaning.{Meaning}
use Rattle.pst_history.specs.History.{History, begun, counts_of}
use Rattle.pst_history.specs.Direct.{direct}
use Rattle.pst_store_meaning.specs.Store.{Stored}
use Rattle.pst_cli_words.specs.declared.status.Status.{Status}
use Rattle.pst_cli_words.specs.declared.status.Status.TheVariants.{Done, ReadFault, WriteFault, Usage, Refused, TooLong, Memory}
use Rattle.pst_cli_scripts.specs.Pieces.{Answering, IsPartOf, state_after, BreaksIn}
use Rattle.pst_cli_scripts.specs.Script.{Rules, by_tree, script_of}
use Rattle.pst_front.specs.Pages.{routines_in}
use Rattle.pst_image_form.specs.declared.parts.ImageParts.{ImageParts}
use Rattle.pst_image_rules.specs.declared.rule.Rule.TheVariants.{Ranges}
use Rattle.pst_image_unpack.specs.Unpacked.{IsAccepted}
use Rattle.pst_cli_images.specs.Packing.{IsImage}
use Rattle.pst_cli_images.specs.Opening.{opening_in}
use Rattle.pst_cli_images.specs.Resuming.{Resumed, RefusesImage, WholeRow, refusal_text}

-- ---- what was carried out

-- the history that a script behind an image leaves, with the image as the opening
abbrev pub left_behind : NamedProgram → ImageParts → (script : List ℕ) → History
left_behind named image script = state_after (script_of by_tree (direct (routines_in named))) (begun (opening_in named.shape image)) (lines_of script)

-- The input begins with an accepted image, and all lines behind it were carried out.
pub record CarriesBehind (k : Resumed) (input : List ℕ) : Type 0 where
  pub image : ImageParts
  pub named : NamedProgram
  pub len : ℕ
  pub accepted : IsAccepted input image named len
  pub left : k.leaves (direct (routines_in named)) (left_behind named image (drop len input))

-- The input begins with an accepted image, and there was no room in the last of some first lines behind it.
pub record BreaksBehind (k : Resumed) (input : List ℕ) : Type 0 where
  pub image : ImageParts
  pub named : NamedProgram
  pub len : ℕ
  pub accepted : IsAccepted input image named len
  pub given : List (List ℕ)
  pub behind : List (List ℕ)
  pub first : lines_of (drop len input) ≡ given ++ behind
  pub broken : let m = direct (routines_in named) in BreaksIn (script_of by_tree m) (begun (opening_in named.shape image)) (k.breaks m) given

-- ---- what was written

-- so much is written of the image of the store that is left, with the text of the image before it
abbrev pub Repacks : Resumed → Option Stored → (List ℕ → List ℕ → Type 0) → (input out : List ℕ) → Type 0
Repacks k store Much input out =
    (c : CarriesBehind k input) × ((next : List ℕ) × IsImage store c.image.text c.named.shape (left_behind c.named c.image (drop c.len input)) next × Much next out)

-- more was counted than an image can hold, and so much is written of the line of the rule on ranges, which that image would break
abbrev pub CountsTooMuch : Resumed → (List ℕ → List ℕ → Type 0) → (input out : List ℕ) → Type 0
CountsTooMuch k Much input out =
    (c : CarriesBehind k input) × (CountsWithin (counts_of (direct (routines_in c.named)) (left_behind c.named c.image (drop c.len input))) (2 ^ 50) → ⊥) × Much (refusal_text Ranges) out

-- all of it, or a proper part
abbrev pub IsWhole : List ℕ → List ℕ → Type 0
IsWhole piece out = out ≡ piece

-- what comes of an input that was read to its end, by the status
abbrev pub RepackComes : Option Stored → Status → Resumed → (input out : List ℕ) → Type 0
RepackComes store Done k input out = Repacks k store IsWhole input out
RepackComes store Refused k input out = RefusesImage k IsWhole input out ⊎ CountsTooMuch k IsWhole input out
RepackComes store WriteFault k input out = RefusesImage k IsPartOf input out ⊎ (CountsTooMuch k IsPartOf input out ⊎ Repacks k store IsPartOf input out)
RepackComes store Memory k input out = (out ≡ []) × (k.untouched ⊎ (BreaksBehind k input ⊎ CarriesBehind k input))
RepackComes store ReadFault k input out = ⊥
RepackComes store TooLong k input out = ⊥
RepackComes store Usage k input out = ⊥

-- ---- the table

-- The row of a status, for what is held and the store that is left, an input of at most 2^62 bytes, what the source has left of it, and what
-- was written.
abbrev pub RepackRow : Status → Resumed → Option Stored → List ℕ → Option (List ℕ) → List ℕ → Type 0
RepackRow status k store input left out = WholeRow MOST_SERVED (RepackComes store) status k input left out

-- ---- what the functions below come to

-- what comes of carrying the lines of a text out: all of them; or there was no room in the last of some first ones
abbrev pub CarriesText : {A T E : Type 0} → Answering A → A → (stands breaks : A → Type 0) → Result T E → List (List ℕ) → Type 0
CarriesText m h stands breaks (Ok done) lines = stands (state_after m h lines)
CarriesText m h stands breaks (Err s) lines = (given : List (List ℕ)) × (behind : List (List ℕ)) × (lines ≡ given ++ behind) × BreaksIn m h breaks given

-- so it is on a history of a program for a session with these rules and for what it holds then
abbrev pub CarriesLines : {A T U E : Type 0} → Rules → (stands : A → T → Meaning → History → Type 0) → (breaks : Meaning → T → History → Type 0) → (session : A) → (held : T)
    → Result U E → List (List ℕ) → Meaning → History → Type 0
CarriesLines rules stands breaks session held result lines m h = CarriesText (script_of rules m) h (stands session held m) (breaks m held) result lines

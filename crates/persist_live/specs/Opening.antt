-- How a session begins.
use Rattle.std.specs.Prelude.{◌≡◌, ℕ, List}
use Rattle.pst_typing.specs.View.{program_of}
use Rattle.pst_history.specs.History.{begun}
use Rattle.pst_history.specs.Direct.{meaning_of}
use Rattle.pst_front.specs.Pages.{IsCanonical}
use Rattle.pst_cli_scripts.specs.Script.{by_tree}
use Rattle.pst_cli_scripts.specs.Kept.{first_history}
use Rattle.pst_image_form.specs.declared.parts.ImageParts.{ImageParts}
use Rattle.pst_image_unpack.specs.Unpacked.{IsAccepted}
use Rattle.pst_cli_images.specs.Opening.{opening_in}
use Rattle.persist_live.specs.declared.live.Live.{Live}
use Rattle.persist_live.specs.Standing.{StandsFor}

-- The text is accepted, and the session stands for the first history of its program, whose canonical text it has.
pub record Opens (text : List ℕ) (l : Live) : Type 0 where
  pub text_is : IsCanonical text (program_of l.session.code) l.text
  pub stands : let m = meaning_of l.session.code in StandsFor l m (first_history by_tree m)

-- The bytes begin with an accepted image, of this length, and the session stands for the history that begins with it, whose text it has.
pub record Resumes (bytes : List ℕ) (l : Live) (len : ℕ) : Type 0 where
  pub image : ImageParts
  pub accepted : IsAccepted bytes image (program_of l.session.code) len
  pub text_is : l.text ≡ image.text
  pub stands : StandsFor l (meaning_of l.session.code) (begun (opening_in l.session.code.shape image))

-- What comes of an image behind the script of a program.
use Rattle.std.proofs.Common.{◌≡◌, ℕ, inr, List, sym, ap, ◌∙◌, subst, Option, Result, Err}
use Rattle.pst_base.specs.declared.shape.TypeShape.{TypeShape}
use Rattle.pst_io.specs.Input.{InputState}
use Rattle.pst_grammar.specs.Syntax.{ProgramText}
use Rattle.pst_notation.specs.Canonical.{canonical}
use Rattle.pst_program.specs.declared.program.Program.{Program}
use Rattle.pst_program.specs.View.{routines_of}
use Rattle.pst_typing.specs.View.{program_of}
use Rattle.pst_history.specs.Meaning.{Meaning}
use Rattle.pst_history.specs.Direct.{meaning_of}
use Rattle.pst_store_meaning.specs.Store.{Stored}
use Rattle.pst_cli_scripts.specs.declared.stop.Stop.{Stop}
use Rattle.pst_cli_scripts.specs.declared.stop.Stop.TheVariants as stop
use Rattle.pst_cli_scripts.specs.Script.{by_tree}
use Rattle.pst_cli_scripts.specs.Kept.{Kept, history_after}
use Rattle.pst_front.specs.Verdict.{Accepted}
use Rattle.pst_cli_serving.proofs.Keeping.{meaning_shape}
use Rattle.pst_cli_questions.specs.Asking.{GivesAll, StopsAsking}
use Rattle.pst_cli_images.specs.Packing.{IsImage, Packs, Images}

module _ (k : Kept) (store : Option Stored) (m : Meaning) (text : List ℕ) (a b : InputState) (left left' : Option (List ℕ)) where
  -- the fault of a call is handed on
  pub image_stopped : (r : Result (List ℕ) Stop) (s t : Stop) → r ≡ Err t → t ≡ s → StopsAsking k.untouched (k.leaves m) (k.breaks m) s a left b left' → Images k store m text r a left b left'
  image_stopped r s t is same w = subst (λ o. Images k store m text o a left b left') (sym (is ∙ ap (λ u. Err u) same)) w

  -- there was no room for the image
  pub image_lacks : (lines : List (List ℕ)) → GivesAll a left b left' lines → k.leaves m lines → Images k store m text (Err stop.Memory) a left b left'
  image_lacks lines g kept = inr (inr (inr (lines, g, kept)))

-- so much is written of an image with the program's canonical text
pub packed : (k : Kept) (store : Option Stored) (Much : List ℕ → List ℕ → Type 0) (syntax : ProgramText) (program : Program) (lines : List (List ℕ))
    (text image out : List ℕ) → text ≡ canonical syntax → k.leaves (meaning_of program) lines
    → IsImage store text (meaning_of program).shape (history_after by_tree (meaning_of program) lines) image → Much image out → Packs k store Much lines (Accepted syntax (program_of program)) out
packed k store Much syntax program lines text image out same kept is much =
    let one = subst (λ (shape : List TypeShape). IsImage store text shape (history_after by_tree (meaning_of program) lines) image) (meaning_shape (routines_of program)) is in
    (kept, (image, subst (λ (t : List ℕ). IsImage store t (program_of program).shape (history_after by_tree (meaning_of program) lines) image) same one, much))

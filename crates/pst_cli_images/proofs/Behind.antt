-- What is left behind an image, and which line of the table it is.
use Rattle.std.proofs.Common.{◌≡◌, ℕ, inl, inr, List, ◌++◌, drop, sym, ap, ◌∙◌, subst, Option, Some}
use Rattle.pst_base.specs.declared.shape.TypeShape.{TypeShape}
use Rattle.pst_io.specs.Text.{lines_of}
use Rattle.pst_program.specs.declared.program.Program.{Program}
use Rattle.pst_typing.specs.View.{program_of}
use Rattle.pst_history.specs.History.{Opening, History, begun}
use Rattle.pst_history.specs.Direct.{meaning_of}
use Rattle.pst_store_meaning.specs.Store.{Stored}
use Rattle.pst_front.specs.Pages.{routines_in}
use Rattle.pst_cli_words.specs.declared.status.Status.{Status}
use Rattle.pst_cli_words.specs.declared.status.Status.TheVariants.{Done, ReadFault, WriteFault, Usage, Refused, TooLong, Memory}
use Rattle.pst_cli_scripts.specs.declared.stop.Stop.{Stop}
use Rattle.pst_cli_scripts.specs.declared.stop.Stop.TheVariants as stop
use Rattle.pst_cli_scripts.specs.Pieces.{IsPartOf, state_after, BreaksIn}
use Rattle.pst_cli_scripts.specs.Script.{by_tree, script_of}
use Rattle.pst_cli_scripts.specs.Sessions.{StopsAtReply}
use Rattle.pst_cli_serving.specs.Serving.{status_of}
use Rattle.pst_cli_serving.proofs.Keeping.{meaning_shape}
use Rattle.pst_image_form.specs.declared.parts.ImageParts.{ImageParts}
use Rattle.pst_image_rules.specs.declared.rule.Rule.{Rule}
use Rattle.pst_image_rules.specs.declared.rule.Rule.TheVariants.{Ranges}
use Rattle.pst_image_unpack.specs.Unpacked.{IsAccepted, FailsFirst}
use Rattle.pst_cli_images.specs.Packing.{IsImage}
use Rattle.pst_cli_images.specs.Opening.{opening_in}
use Rattle.pst_cli_images.specs.Resuming.{Resumed, Refuses}
use Rattle.pst_cli_images.proofs.Rows.{IsOfWhole}
use Rattle.pst_cli_images.specs.declared.repacking.Left.{Left}
use Rattle.pst_cli_images.specs.declared.repacking.Left.TheVariants.{Image, TooMuch}
use Rattle.pst_cli_images.specs.Repacking.{left_behind, CarriesBehind, BreaksBehind, Repacks, RepackComes}
use Rattle.pst_cli_images.specs.Left.{LeavesImage, Leaves}

-- ---- behind an accepted image

module _ (k : Resumed) (input : List ℕ) (p : ImageParts) (program : Program) (len : ℕ) (accepted : IsAccepted input p (program_of program) len)
    (o : Opening) (opens : o ≡ opening_in program.shape p) {script : List ℕ} (rest : script ≡ drop len input) where
  abbrev after : History
  after = state_after (script_of by_tree (meaning_of program)) (begun o) (lines_of script)

  is_left : after ≡ left_behind (program_of program) p (drop len input)
  is_left =
      ap (λ (b : Opening). state_after (script_of by_tree (meaning_of program)) (begun b) (lines_of script)) opens
      ∙ ap (λ (l : List ℕ). state_after (script_of by_tree (meaning_of program)) (begun (opening_in program.shape p)) (lines_of l)) rest

  -- all lines were carried out
  pub carries : k.leaves (meaning_of program) after → CarriesBehind k input
  carries left = record { image = p; named = program_of program; len = len; accepted = accepted; left = subst (λ (h : History). k.leaves (meaning_of program) h) is_left left }

  -- and this is what is left
  pub leaves : (store : Option Stored) (text : List ℕ) → text ≡ p.text → (left : Left) → k.leaves (meaning_of program) after
      → LeavesImage store text left (meaning_of program) after → Leaves k store left input
  leaves store text same left kept is = (
    record { image = p; named = program_of program; len = len; accepted = accepted; left = subst (λ (h : History). k.leaves (meaning_of program) h) is_left kept },
    subst (λ (t : List ℕ). LeavesImage store t left (meaning_of program) (left_behind (program_of program) p (drop len input))) same
        (subst (λ (h : History). LeavesImage store text left (meaning_of program) h) is_left is),
  )

  -- there was no room in a line
  pub breaks : (given behind : List (List ℕ)) → lines_of script ≡ given ++ behind
      → BreaksIn (script_of by_tree (meaning_of program)) (begun o) (k.breaks (meaning_of program)) given → BreaksBehind k input
  breaks given behind first broken = record {
    image = p;
    named = program_of program;
    len = len;
    accepted = accepted;
    given = given;
    behind = behind;
    first = ap lines_of (sym rest) ∙ first;
    broken = subst (λ (b : Opening). BreaksIn (script_of by_tree (meaning_of program)) (begun b) (k.breaks (meaning_of program)) given) opens broken;
  }

-- ---- lines of the table

pub comes_whole : (store : Option Stored) → IsOfWhole (RepackComes store)
comes_whole store = record { read = λ k input out w. w; long = λ k input out w. w; usage = λ k input out w. w }

-- a rule of the image fails
pub line_repacks : (store : Option Stored) (status : Status) (k : Resumed) (rule : Rule) (input out : List ℕ) → k.untouched → FailsFirst input rule
    → Refuses status rule out → RepackComes store status k input out
line_repacks store Refused k rule input out same fails w = inl (rule, fails, w, same)
line_repacks store WriteFault k rule input out same fails w = inl (rule, fails, w, same)
line_repacks store Memory k rule input out same fails w = (w, inl same)
line_repacks store Done k rule input out same fails w = absurd w
line_repacks store ReadFault k rule input out same fails w = absurd w
line_repacks store TooLong k rule input out same fails w = absurd w
line_repacks store Usage k rule input out same fails w = absurd w

-- more was counted than an image can hold
pub line_counts : (store : Option Stored) (status : Status) (k : Resumed) (input out : List ℕ) → Leaves k store TooMuch input → Refuses status Ranges out → RepackComes store status k input out
line_counts store Refused k input out (c, many) w = inr (c, many, w)
line_counts store WriteFault k input out (c, many) w = inr (inl (c, many, w))
line_counts store Memory k input out (c, many) w = (w, inr (inr c))
line_counts store Done k input out (c, many) w = absurd w
line_counts store ReadFault k input out (c, many) w = absurd w
line_counts store TooLong k input out (c, many) w = absurd w
line_counts store Usage k input out (c, many) w = absurd w

-- so much is written of the image
pub image_repacks : (k : Resumed) (store : Option Stored) (Much : List ℕ → List ℕ → Type 0) (input image out : List ℕ)
    → Leaves k store (Image image) input → Much image out → Repacks k store Much input out
image_repacks k store Much input image out (c, is) w =
    let shape = meaning_shape (routines_in c.named) in
    (c, (image, subst (λ (s : List TypeShape). IsImage store c.image.text s (left_behind c.named c.image (drop c.len input)) image) shape is, w))

pub image_stops : (store : Option Stored) (s : Stop) (k : Resumed) (input image piece out : List ℕ) → piece ≡ image
    → Leaves k store (Image image) input → StopsAtReply s (Some piece) out → RepackComes store (status_of s) k input out
image_stops store stop.Write k input image piece out same left (whole, is, part) =
    let e : whole ≡ image = (let q : whole ≡ piece = cc in q ∙ same) in
    inr (inr (image_repacks k store IsPartOf input image out left (subst (λ l. IsPartOf l out) e part)))
image_stops store stop.Memory k input image piece out same (c, is) none = (none, inr (inr c))
image_stops store stop.Read k input image piece out same left never = absurd never
image_stops store stop.TooLong k input image piece out same left never = absurd never

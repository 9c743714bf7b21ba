-- What `serve` writes beside what `resume` writes, and behind images that were written.
use Rattle.std.proofs.Common.{◌≡◌, ℕ, inl, inr, List, ◌++◌, drop, length, refl, sym, ap, ◌∙◌, subst, Option, None, Ok}
use Rattle.std.specs.List.{concat, AllByRecursion}
use Rattle.pst_io.specs.Text.{lines_of}
use Rattle.pst_typing.specs.Declarations.{NamedProgram}
use Rattle.pst_typing.specs.View.{program_of}
use Rattle.pst_history.specs.History.{begun}
use Rattle.pst_history.specs.Direct.{meaning_of}
use Rattle.pst_cli_scripts.specs.Pieces.{pieces_from}
use Rattle.pst_cli_scripts.specs.Script.{by_tree, script_of}
use Rattle.pst_cli_words.specs.declared.status.Status.TheVariants.{Done}
use Rattle.pst_cli_words.specs.Asked.{question_in}
use Rattle.pst_image_form.specs.declared.parts.ImageParts.{ImageParts}
use Rattle.pst_image_form.proofs.Forms.{one_form}
use Rattle.pst_image_unpack.specs.Unpacked.{IsOwnText, IsAccepted}
use Rattle.pst_image_unpack.proofs.Deciding.{one_text, never_both}
use Rattle.pst_cli_images.specs.Opening.{opening_in}
use Rattle.pst_cli_images.specs.Resuming.{Resumed, AnswersBehind, resumed_in}
use Rattle.pst_cli_images.proofs.Resumes.{meaning, packed_rest, answered_packed}
use Rattle.pst_cli_images.proofs.Days.{kept_rest, answered_behind}
use Rattle.pst_cli_serve.specs.Serving.{Behind, AnswersAll}
use Rattle.pst_cli_serve.specs.Laws.{AsksNothing, AsksNothingBehind, SameAsResumedLaw, SameVerdictLaw, ServedLaw, ServedBehindLaw, NeverRefusedServingLaw}
use Rattle.pst_cli_serve.proofs.Replies.{all_commands}

-- where no line asks a question, the lines were answered as by `resume`
served_so : (k : Resumed) (input out : List ℕ) (b : Behind (λ program m h len. AnswersAll k program m h (lines_of (drop len input)) out) input)
    → AsksNothing (drop b.len input) → AnswersBehind k (Ok tt) input out
served_so k input out b none =
    let m = meaning_of b.program in
    record {
      image = b.image;
      named = program_of b.program;
      len = b.len;
      accepted = b.accepted;
      answered = (all_commands b.program m (begun (opening_in b.program.shape b.image)) (lines_of (drop b.len input)) out none b.holds.0, b.holds.1);
    }

-- what is answered behind an image is determined
one_answer : (k n : Resumed) (input out served : List ℕ) → AnswersBehind k (Ok tt) input out → AnswersBehind n (Ok tt) input served → served ≡ out
one_answer k n input out served a b =
    let (same, far) = one_form input a.image b.image a.len b.len a.accepted.form b.accepted.form in
    let own : IsOwnText a.image.text b.named = subst (λ (p : ImageParts). IsOwnText p.text b.named) (sym same) b.accepted.text in
    let one : a.named ≡ b.named = one_text a.image.text a.named b.named a.accepted.text own in
    let said : NamedProgram → ImageParts → ℕ → List ℕ = λ g q len. concat (pieces_from (script_of by_tree (meaning g)) (begun (opening_in g.shape q)) (lines_of (drop len input))) in
    b.answered.0
    ∙ sym (ap (λ (g : NamedProgram). said g a.image a.len) one ∙ ap (λ (q : ImageParts). said b.named q a.len) same ∙ ap (λ (l : ℕ). said b.named b.image l) far)
    ∙ sym a.answered.0

pub same_as_resumed : SameAsResumedLaw
same_as_resumed input out served (was, now, left, (reads, a)) (was2, now2, left2, (reads2, b)) none =
    one_answer (resumed_in was now) (resumed_in was2 now2) input out served a (served_so (resumed_in was2 now2) input served b (none b.image (program_of b.program) b.len b.accepted))

pub same_verdict : SameVerdictLaw
same_verdict input out served = (
  λ done refused.
      let (was, now, left, (reads, a)) = done in
      let (was2, now2, left2, (front, (rule, fails, written, kept))) = refused in never_both input a.image a.named a.len rule a.accepted fails,
  λ refused done.
      let (was, now, left, (reads, (rule, fails, written, kept))) = refused in
      let (was2, now2, left2, (reads2, b)) = done in never_both input b.image (program_of b.program) b.len rule b.accepted fails,
)

pub served_law : ServedLaw
served_law input image behind out w (was, now, left, (reads, b)) none =
    let k = resumed_in was now in
    let here : AsksNothing (drop b.len (image ++ behind)) = subst (λ (l : List ℕ). AsksNothing l) (sym (packed_rest input image behind w b.accepted)) none in
    answered_packed input image behind out k w (served_so k (image ++ behind) out b here)

pub served_behind_law : ServedBehindLaw
served_behind_law first named h behind out keeps (was, now, left, (reads, b)) none =
    let k = resumed_in was now in
    let here : AsksNothing (drop b.len (first ++ behind)) = subst (λ (l : List ℕ). AsksNothing l) (sym (kept_rest first named h behind keeps b.accepted)) none in
    answered_behind first named h behind out k keeps (served_so k (first ++ behind) out b here)

pub never_refused_serving_law : NeverRefusedServingLaw
never_refused_serving_law first named h behind out keeps (was, now, left, (front, (rule, fails, written, kept))) =
    never_both (first ++ behind) keeps.parts named (length first) rule (keeps.accepted behind) fails

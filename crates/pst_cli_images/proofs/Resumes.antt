-- A script behind an image goes on as behind the script that was packed.
use Rattle.std.proofs.Common.{◌≡◌, inl, inr, ℕ, suc, ◌<◌, ◌≤◌, arith, length-append, List, [], ◌∷◌, ◌++◌, drop, length, Option, Some, None, Result, Ok, Err, refl, sym, ap, ◌∙◌, subst}
use Rattle.std.specs.Option.{option_to_list}
use Rattle.std.specs.List.{concat}
use Rattle.std.proofs.Math.Seq.{drop-append_seam}
use Rattle.pst_base.specs.declared.shape.TypeShape.{TypeShape}
use Rattle.pst_base.specs.Shape.{IsValid}
use Rattle.pst_grammar.specs.Syntax.{ProgramText}
use Rattle.pst_typing.specs.Declarations.{NamedProgram}
use Rattle.pst_typing.proofs.Accepted.{accepted}
use Rattle.pst_notation.specs.Canonical.{canonical}
use Rattle.pst_front.specs.Verdict.{Verdict, Judged, Accepted, Refused}
use Rattle.pst_front.specs.Pages.{routines_in}
use Rattle.pst_io.specs.Text.{lines_of}
use Rattle.pst_cli_words.specs.declared.job.Job.TheVariants.{Run}
use Rattle.pst_cli_words.specs.declared.status.Status.TheVariants.{Done, ReadFault, WriteFault, Usage, Refused, TooLong, Memory}
use Rattle.pst_cli_scripts.specs.declared.stop.Stop.{Stop}
use Rattle.pst_cli_scripts.specs.declared.stop.Stop.TheVariants as stop
use Rattle.pst_script.specs.declared.command.Command.{Command}
use Rattle.pst_script.specs.declared.command.LineFault.{LineFault}
use Rattle.pst_script.specs.declared.command.LineFault.TheVariants as fault
use Rattle.pst_script.specs.Commands.{reading}
use Rattle.pst_history.specs.Meaning.{Meaning}
use Rattle.pst_history.specs.History.{History, Opening, begun, next_run}
use Rattle.pst_history.specs.Direct.{direct}
use Rattle.pst_cli_scripts.specs.Input.{cut_of}
use Rattle.pst_cli_scripts.specs.Pieces.{pieces_from}
use Rattle.pst_cli_scripts.specs.Script.{by_tree_from, by_tree, script_of, reply_of, next_of}
use Rattle.pst_cli_serving.specs.Held.{kept_in}
use Rattle.pst_store_meaning.specs.Store.{Stored}
use Rattle.pst_cli_serving.specs.Storing.{IsLeft}
use Rattle.pst_image_form.specs.declared.parts.ImageParts.{ImageParts}
use Rattle.pst_image_form.specs.Bytes.{HasForm, image_bytes, body_bytes, text_bytes, magic, number, counted, counts_bytes, version_bytes, node_bytes}
use Rattle.pst_image_form.proofs.Forms.{one_form}
use Rattle.pst_image_rules.specs.Rules.{IsJudged}
use Rattle.pst_image_meaning.specs.Parts.{parts_of}
use Rattle.pst_history_laws.specs.LawsLines.{IsReadAgain}
use Rattle.pst_history_laws.proofs.Canonical.{canonical_law}
use Rattle.pst_history_laws.specs.TakenUp.{taken_up, all_dropped}
use Rattle.pst_history_laws.specs.Openings.{left_by, replies_on, GoesOnFrom}
use Rattle.pst_history_laws.proofs.Scripts.{program_goes_on_law}
use Rattle.pst_image_unpack.specs.Unpacked.{IsAccepted}
use Rattle.pst_image_unpack.proofs.Deciding.{one_program, never_both}
use Rattle.pst_cli_images.specs.Packing.{IsImage, PacksWhole}
use Rattle.pst_cli_images.proofs.Starts.{script-start}
use Rattle.pst_cli_images.specs.Opening.{opening_in}
use Rattle.pst_cli_images.specs.Resuming.{Resumed, AnswersBehind, resumed_in}
use Rattle.pst_cli_images.specs.Repack.{IsPacked, IsContinued, HasShortText, Programs, IsFirstPart, IsContinuedInPart, replies_after}
use Rattle.pst_cli_images.specs.Repack.{PackedIsAcceptedLaw, ResumedLaw, NeverRefusedLaw, GoesOnLaw}
use Rattle.pst_cli_images.proofs.InPart.{first_part}
use Rattle.pst_cli_images.proofs.Openings.{is_taken_up}

-- ---- what was packed

-- the meaning of a typed program
abbrev pub meaning : NamedProgram → Meaning
meaning named = direct (routines_in named)

-- The program of an input, the store that its script left, and the image of that store.
record Packed (input image : List ℕ) : Type 0 where
  syntax : ProgramText
  named : NamedProgram
  judged : Judged (cut_of input).text (Accepted syntax named)
  store : Option Stored
  left : IsLeft (meaning named) store (left_by (meaning named) (cut_of input).script)
  is : IsImage store (canonical syntax) named.shape (left_by (meaning named) (cut_of input).script) image

packed_by : (input image : List ℕ) (old new : Option Stored) (verdict : Verdict) → Judged (cut_of input).text verdict
    → PacksWhole (kept_in old new Run) new (cut_of input).script verdict image → Packed input image
packed_by input image old new (Refused fault) j w = absurd w
packed_by input image old new (Accepted syntax named) j (left, (written, is, same)) = record {
  syntax = syntax;
  named = named;
  judged = j;
  store = new;
  left = left;
  is = subst (λ (x : List ℕ). IsImage new (canonical syntax) named.shape (left_by (meaning named) (cut_of input).script) x) (sym same) is;
}

packed : (input image : List ℕ) → IsPacked input image → Packed input image
packed input image (old, new, left, (within, reads, (verdict, judged, w))) = packed_by input image old new verdict judged w

module _ (input image : List ℕ) (k : Packed input image) where
  abbrev history : History
  history = left_by (meaning k.named) (cut_of input).script

  abbrev parts : ImageParts
  parts = parts_of k.is.there (canonical k.syntax) (next_run history) history.budget

  abbrev again : IsReadAgain k.syntax k.named
  again = canonical_law (cut_of input).text k.syntax k.named k.judged

  abbrev programs : Programs input
  programs = record { syntax = k.syntax; named = k.named; judged = k.judged; read = again }

  -- its parts stand at the front of the image, whatever stands behind
  formed : (behind : List ℕ) → HasForm (image ++ behind) parts (length image)
  formed behind = record {
    fits = k.is.fits;
    length_is = ap length k.is.bytes;
    bytes_are = ap (λ (x : List ℕ). x ++ behind) k.is.bytes ∙ ap (λ (x : List ℕ). image_bytes parts ++ x) (sym (drop-append_seam image behind));
  }

  is_accepted : (behind : List ℕ) → length (canonical k.syntax) < 4294967295 → IsAccepted (image ++ behind) parts again.program (length image)
  is_accepted behind short = record {
    form = formed behind;
    text = record { short = short; syntax = again.text; judged = again.judged; own = again.same_text };
    rules = subst (λ (shape : List TypeShape). IsJudged shape parts None) again.alike.shape k.is.rules;
  }

  opened : opening_in k.named.shape parts ≡ taken_up (meaning k.named) history
  unfolding direct
  opened =
      let start = script-start (meaning k.named) (cut_of input).script in
      is_taken_up (meaning k.named) k.store (canonical k.syntax) image history (ap (λ (o : Opening). length o.heaps) start ∙ sym (ap (λ (o : Opening). suc (length o.versions)) start)) k.left k.is

-- the image is accepted as one of these parts, whatever stands behind it
pub record IsAcceptedAlways (input image : List ℕ) : Type 0 where
  pub programs : Programs input
  pub parts : ImageParts
  pub accepted : (behind : List ℕ) → IsAccepted (image ++ behind) parts programs.read.program (length image)
  pub opening : opening_in programs.read.program.shape parts ≡ taken_up (meaning programs.named) (left_by (meaning programs.named) (cut_of input).script)

pub accepted_always : (input image : List ℕ) → IsPacked input image → HasShortText input → IsAcceptedAlways input image
accepted_always input image w short =
    let k = packed input image w in
    record {
      programs = programs input image k;
      parts = parts input image k;
      accepted = λ behind. is_accepted input image k behind (short k.syntax k.named k.judged);
      opening = ap (λ (shape : List TypeShape). opening_in shape (parts input image k)) (sym (again input image k).alike.shape) ∙ opened input image k;
    }

pub accepted_law : PackedIsAcceptedLaw
accepted_law input image behind w short =
    let a = accepted_always input image w short in
    record { programs = a.programs; parts = a.parts; accepted = a.accepted behind; opening = a.opening }

-- what stands behind the text of an image
abbrev behind_text : ImageParts → List ℕ
behind_text p =
    number p.budget ++ (number p.next_run.0 ++ (counts_bytes p.counts ++ (number p.places ++ (counted version_bytes p.versions ++ counted node_bytes p.nodes))))

-- the text of an image stands in it
text_within : (p : ImageParts) → length p.text ≤ length (image_bytes p)
text_within p = omega (
  arith,
  length-append magic (body_bytes p),
  length-append (text_bytes p.text) (behind_text p),
  length-append (number (length p.text)) p.text,
)

-- an image that has at most 67,108,864 bytes is accepted, since its text is shorter
accepted_now : (input image behind : List ℕ) (k : Packed input image) → length (image ++ behind) ≤ 67108864
    → IsAccepted (image ++ behind) (parts input image k) (again input image k).program (length image)
accepted_now input image behind k most =
    let size : length image ≡ length (image_bytes (parts input image k)) = ap length k.is.bytes in
    let short : length (canonical k.syntax) < 4294967295 = omega (arith, most, text_within (parts input image k), size, length-append image behind) in
    is_accepted input image k behind short

pub never_refused_law : NeverRefusedLaw
never_refused_law input image behind out w (old, new, left, (reads, (rule, fails, written, kept))) =
    let k = packed input image w in
    let a = accepted_now input image behind k reads.most in
    never_both (image ++ behind) (parts input image k) (again input image k).program (length image) rule a fails

-- ---- what is resumed

-- an accepted program has valid record types
pub valid : (text : List ℕ) (syntax : ProgramText) (named : NamedProgram) → Judged text (Accepted syntax named) → IsValid named.shape
valid text syntax named ((tokens, lexes, (p, e, shallow, spells)), typed) = (accepted syntax.items named record { height = shallow.height; nesting = shallow.nesting } typed).valid

-- replies do not depend on the opening of the rules
module _ (first : Meaning → Opening) (m : Meaning) where
  reply_same : (h : History) (x : Result (Option Command) LineFault) → reply_of by_tree m h x ≡ reply_of (by_tree_from first) m h x
  reply_same h (Ok None) = refl
  reply_same h (Ok (Some c)) = refl
  reply_same h (Err fault.Line) = refl
  reply_same h (Err fault.Number) = refl
  reply_same h (Err fault.Memory) = refl

  next_same : (h : History) (x : Result (Option Command) LineFault) → next_of by_tree m h x ≡ next_of (by_tree_from first) m h x
  next_same h (Ok None) = refl
  next_same h (Ok (Some c)) = refl
  next_same h (Err f) = refl

  pieces_same : (lines : List (List ℕ)) (h : History) → pieces_from (script_of by_tree m) h lines ≡ pieces_from (script_of (by_tree_from first) m) h lines
  pieces_same [] h = refl
  pieces_same (line ∷ lines) h =
      ap (λ o. option_to_list o ++ pieces_from (script_of by_tree m) (next_of by_tree m h (reading line)) lines) (reply_same h (reading line))
      ∙ ap (λ g. option_to_list (reply_of (by_tree_from first) m h (reading line)) ++ pieces_from (script_of by_tree m) g lines) (next_same h (reading line))
      ∙ ap (λ ps. option_to_list (reply_of (by_tree_from first) m h (reading line)) ++ ps) (pieces_same lines (next_of (by_tree_from first) m h (reading line)))

-- the lines behind an image that was written
module _ (input image behind : List ℕ) (k : Packed input image) where
  abbrev p : ImageParts
  p = parts input image k

  abbrev m : Meaning
  m = meaning k.named

  abbrev before : List (List ℕ)
  before = (cut_of input).script

  abbrev go : GoesOnFrom k.syntax k.named before (lines_of behind)
  go = program_goes_on_law (cut_of input).text k.syntax k.named before (lines_of behind) k.judged (valid (cut_of input).text k.syntax k.named k.judged)

  abbrev n : Meaning
  n = meaning go.read.program

  abbrev behind_programs : Programs input
  behind_programs = record { syntax = k.syntax; named = k.named; judged = k.judged; read = go.read }

  -- the image at the front is that one, and the program too; and the lines begin behind it
  on_packed : (P : NamedProgram → ImageParts → List ℕ → Type 0) {g : NamedProgram} {q : ImageParts} {len : ℕ} → IsAccepted (image ++ behind) q g len → P g q (drop len (image ++ behind))
      → P go.read.program p behind
  on_packed P {g} {q} {len} a there =
      let (same, far) = one_form (image ++ behind) p q (length image) len (formed input image k behind) a.form in
      let own : Judged (canonical k.syntax) (Accepted a.text.syntax g) = subst (λ (x : ImageParts). Judged x.text (Accepted a.text.syntax g)) (sym same) a.text.judged in
      let one : go.read.program ≡ g = (one_program (canonical k.syntax) go.read.text a.text.syntax go.read.program g go.read.judged own).0 in
      let rest : drop len (image ++ behind) ≡ behind = ap (λ (l : ℕ). drop l (image ++ behind)) (sym far) ∙ drop-append_seam image behind in
      subst (λ (b : List ℕ). P go.read.program p b) rest
      (subst (λ (x : ImageParts). P go.read.program x (drop len (image ++ behind))) (sym same) (subst (λ (x : NamedProgram). P x q (drop len (image ++ behind))) (sym one) there))

  -- the script goes on behind it
  goes_on : concat (pieces_from (script_of by_tree n) (begun (opening_in go.read.program.shape p)) (lines_of behind)) ≡ concat (replies_on n (all_dropped (left_by n before)) (lines_of behind))
  goes_on =
      let taken : opening_in go.read.program.shape p ≡ taken_up m (left_by m before) = ap (λ (shape : List TypeShape). opening_in shape p) (sym go.read.alike.shape) ∙ opened input image k in
      let first : Meaning → Opening = λ x. taken_up m (left_by m before) in
      ap (λ (o : Opening). concat (pieces_from (script_of by_tree n) (begun o) (lines_of behind))) taken
      ∙ ap concat (pieces_same first n (lines_of behind) (begun (taken_up m (left_by m before))))
      ∙ ap concat (go.same first refl)

  -- what was written is a first part of the replies, where answering stopped
  in_part : (s : Stop) (kept : Resumed) (out : List ℕ) → AnswersBehind kept (Err s) (image ++ behind) out → IsContinuedInPart input behind out
  in_part s kept out a =
      let Stopped : NamedProgram → ImageParts → List ℕ → Type 0 = λ g q b. IsFirstPart (concat (pieces_from (script_of by_tree (meaning g)) (begun (opening_in g.shape q)) (lines_of b))) out in
      let there : Stopped a.named a.image (drop a.len (image ++ behind)) =
      first_part (script_of by_tree (meaning a.named)) (begun (opening_in a.named.shape a.image)) (kept.leaves (meaning a.named)) (kept.breaks (meaning a.named)) s
      (lines_of (drop a.len (image ++ behind))) out a.answered in
      record { programs = behind_programs; replies = subst (λ (whole : List ℕ). IsFirstPart whole out) goes_on (on_packed Stopped a.accepted there) }

  -- nothing is a first part of them
  nothing_yet : (out : List ℕ) → out ≡ [] → IsContinuedInPart input behind out
  nothing_yet out none =
      let whole = replies_after input behind_programs behind in
      record { programs = behind_programs; replies = (whole, ap (λ (o : List ℕ). o ++ whole) (sym none)) }

-- the lines begin behind the image
pub packed_rest : (input image behind : List ℕ) → IsPacked input image → {g : NamedProgram} {q : ImageParts} {len : ℕ} → IsAccepted (image ++ behind) q g len → drop len (image ++ behind) ≡ behind
packed_rest input image behind w {g} {q} {len} a =
    let k = packed input image w in
    let far = (one_form (image ++ behind) (parts input image k) q (length image) len (formed input image k behind) a.form).1 in
    ap (λ (l : ℕ). drop l (image ++ behind)) (sym far) ∙ drop-append_seam image behind

-- whatever was read
pub answered_packed : (input image behind out : List ℕ) (kept : Resumed) → IsPacked input image → AnswersBehind kept (Ok tt) (image ++ behind) out → IsContinued input behind out
answered_packed input image behind out kept w a =
    let k = packed input image w in
    let Answers : NamedProgram → ImageParts → List ℕ → Type 0 = λ g q b. out ≡ concat (pieces_from (script_of by_tree (meaning g)) (begun (opening_in g.shape q)) (lines_of b)) in
    record { programs = behind_programs input image behind k; replies = on_packed input image behind k Answers a.accepted a.answered.0 ∙ goes_on input image behind k }

pub resumed_law : ResumedLaw
resumed_law input image behind out w (old, new, left, (reads, a)) = answered_packed input image behind out (resumed_in old new) w a

pub goes_on_law : GoesOnLaw
goes_on_law Done input image behind out w most c = resumed_law input image behind out w c
goes_on_law WriteFault input image behind out w most (old, new, left, (reads, c)) =
    let k = packed input image w in
    elim c [
      | inl f ↦ absurd (never_both (image ++ behind) (parts input image k) (again input image k).program (length image) f.0 (accepted_now input image behind k most) f.1)
      | inr a ↦ in_part input image behind k stop.Write (resumed_in old new) out a
    ]
goes_on_law Memory input image behind out w most (old, new, left, c) =
    let k = packed input image w in
    elim c [
      | inl u ↦ nothing_yet input image behind k out u.0.0
      | inr r ↦ elim r.1 [
        | inl u ↦ nothing_yet input image behind k out u.0
        | inr a ↦ in_part input image behind k stop.Memory (resumed_in old new) out a
      ]
    ]
goes_on_law ReadFault input image behind out w most (old, new, left, (untouched, reads)) = untouched.0
goes_on_law Refused input image behind out w most c = never_refused_law input image behind out w c
goes_on_law TooLong input image behind out w most (old, new, left, (untouched, much, rest)) = omega (arith, most, much)
goes_on_law Usage input image behind out w most (old, new, left, c) = c

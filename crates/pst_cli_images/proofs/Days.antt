-- Images day after day.
use Rattle.std.proofs.Common.{◌≡◌, ℕ, suc, ◌+◌, List, [], ◌++◌, drop, length, length-append, sym, ap, ◌∙◌, subst, ⊎_elim, arith, Option, Ok}
use Rattle.std.specs.Prelude.{◌^◌}
use Rattle.std.specs.List.{concat}
use Rattle.std.proofs.Math.Seq.{drop-append_seam}
use Rattle.pst_base.specs.declared.names.Counts.{Counts}
use Rattle.pst_base.specs.Shape.{IsValid}
use Rattle.pst_program.specs.Sound.{CountsWithin}
use Rattle.pst_io.specs.Text.{lines_of}
use Rattle.pst_typing.specs.Declarations.{NamedProgram}
use Rattle.pst_front.specs.Pages.{routines_in}
use Rattle.pst_history.specs.Meaning.{Meaning, IsLawful}
use Rattle.pst_history.specs.History.{History, Opening, opening, begun, next_run, counts_of, heaps_of}
use Rattle.pst_history.specs.Sound.{IsSoundHistory}
use Rattle.pst_history.specs.Direct.{direct}
use Rattle.pst_history.proofs.DirectLemmas.{direct_is_lawful}
use Rattle.pst_cli_scripts.specs.Input.{cut_of}
use Rattle.pst_cli_scripts.specs.Pieces.{state_after, pieces_from}
use Rattle.pst_cli_scripts.specs.Script.{by_tree, script_of}
use Rattle.pst_store_meaning.specs.Store.{Stored}
use Rattle.pst_image_form.specs.declared.parts.ImageParts.{ImageParts}
use Rattle.pst_image_form.specs.Bytes.{image_bytes}
use Rattle.pst_image_form.proofs.Forms.{one_form}
use Rattle.pst_image_meaning.specs.Parts.{parts_of}
use Rattle.pst_history_laws.proofs.Meanings.{meaning_law}
use Rattle.pst_image_engine.proofs.Counted.{counts_law, few_counts_law, opening_counts_law}
use Rattle.pst_image_engine.specs.Counted.{OpensFew}
use Rattle.pst_history_laws.specs.TakenUp.{taken_up, all_dropped}
use Rattle.pst_history_laws.specs.Openings.{left_by, replies_on}
use Rattle.pst_history_laws.proofs.Commands.{begins_law}
use Rattle.pst_history_laws.proofs.Dropped.{taken-same, none-open, sound-kept}
use Rattle.pst_history_laws.proofs.Sound.{left-sound}
use Rattle.pst_history_laws.proofs.Scripts.{left-alike, taken-alike, sound_behind_law, stays_behind_law, replies_behind_law, taken_up_law}
use Rattle.pst_image_unpack.specs.Unpacked.{IsOwnText, IsAccepted}
use Rattle.pst_image_unpack.proofs.Deciding.{one_text, never_both}
use Rattle.pst_cli_serving.specs.Storing.{IsLeft}
use Rattle.pst_cli_images.specs.Packing.{IsImage}
use Rattle.pst_cli_images.proofs.Starts.{script-start, lines-start}
use Rattle.pst_cli_images.specs.Opening.{opening_in}
use Rattle.pst_cli_images.specs.Repacking.{left_behind}
use Rattle.pst_cli_images.specs.Resuming.{Resumed, AnswersBehind, resumed_in}
use Rattle.pst_cli_images.specs.Days.{KeepsHistory, PackedKeepsLaw, RepackedKeepsLaw, NeverRefusedAgainLaw, ResumedBehindLaw, NeverRefusedBehindLaw}
use Rattle.pst_cli_images.proofs.Openings.{is_taken_up, length-heaps}
use Rattle.pst_cli_images.proofs.Resumes.{meaning, valid, accepted_always}

-- ---- an image that is packed

pub packed_keeps_law : PackedKeepsLaw
packed_keeps_law input image w short =
    let a = accepted_always input image w short in
    let programs = a.programs in
    let read = programs.read in
    let m = meaning programs.named in
    let n = meaning read.program in
    let script = (cut_of input).script in
    let alike = meaning_law programs.named read.program read.alike in
    let lawful = direct_is_lawful (routines_in read.program) (subst IsValid read.alike.shape (valid (cut_of input).text programs.syntax programs.named programs.judged)) in
    let h = left_by n script in
    record {
      programs = programs;
      keeps = record {
        sound = sound-kept n h (left-sound n lawful script);
        start = script-start n script;
        shut = none-open h;
        parts = a.parts;
        accepted = a.accepted;
        opening = a.opening ∙ ap (taken_up m) (left-alike m n alike script) ∙ taken-alike m n alike h ∙ sym (taken-same n h);
      };
    }

-- ---- an image that is packed again

-- the lines behind an image that keeps a history
module _ (first : List ℕ) (named : NamedProgram) (h : History) (behind : List ℕ) (keeps : KeepsHistory first named h) where
  abbrev m : Meaning
  m = meaning named

  -- what they make of the history
  abbrev old : History
  old = state_after (script_of by_tree m) h (lines_of behind)

  -- and of the opening that is taken up from it
  abbrev new : History
  new = state_after (script_of by_tree m) (begun (taken_up m h)) (lines_of behind)

  lawful : IsLawful m
  lawful = let own = (keeps.accepted []).text in direct_is_lawful (routines_in named) (valid keeps.parts.text own.syntax named own.judged)

  sound_old : IsSoundHistory m old
  sound_old = sound_behind_law m lawful h (lines_of behind) keeps.sound

  old_start : old.start ≡ opening m.shape
  old_start = lines-start m h (lines_of behind) ∙ keeps.start

  taken : taken_up m old ≡ taken_up m new
  taken = taken_up_law m h old new keeps.sound keeps.shut (stays_behind_law m h h (begun (taken_up m h)) (lines_of behind) keeps.sound keeps.shut (begins_law m h))

  few : CountsWithin (counts_of m new) (2 ^ 50)
  few =
      let most = sound_old.few in
      let counted = counts_law m lawful old sound_old (subst OpensFew (sym old_start) (opening_counts_law m)) in
      subst (λ (c : Counts). CountsWithin c (2 ^ 50)) (ap (λ (o : Opening). o.counts) taken) (few_counts_law (counts_of m old) (next_run old) counted (omega (arith, most)))

  -- version 0 has no row of its own among the versions
  new_start : length new.start.heaps ≡ suc (length new.start.versions)
  new_start =
      let start : new.start ≡ taken_up m h = lines-start m (begun (taken_up m h)) (lines_of behind) in
      let heaps : length (heaps_of m h) ≡ length h.start.heaps + length h.versions = length-heaps m h in
      let one : length h.start.heaps ≡ 1 = ap (λ (o : Opening). length o.heaps) keeps.start in
      let none : length h.start.versions ≡ 0 = ap (λ (o : Opening). length o.versions) keeps.start in
      let both : length (h.start.versions ++ h.versions) ≡ length h.start.versions + length h.versions = length-append h.start.versions h.versions in
      ap (λ (o : Opening). length o.heaps) start
      ∙ (let e : length (heaps_of m h) ≡ suc (length (h.start.versions ++ h.versions)) = omega (arith, heaps, one, none, both) in e)
      ∙ sym (ap (λ (o : Opening). suc (length o.versions)) start)

  -- the image at the front is that one, of that program, and the lines begin behind it
  on_this : (P : NamedProgram → ImageParts → List ℕ → Type 0) {g : NamedProgram} {q : ImageParts} {len : ℕ} → IsAccepted (first ++ behind) q g len
      → P g q (drop len (first ++ behind)) → P named keeps.parts behind
  on_this P {g} {q} {len} a w =
      let mine = keeps.accepted behind in
      let (same, far) = one_form (first ++ behind) keeps.parts q (length first) len mine.form a.form in
      let own : IsOwnText keeps.parts.text g = subst (λ (x : ImageParts). IsOwnText x.text g) (sym same) a.text in
      let one : named ≡ g = one_text keeps.parts.text named g mine.text own in
      let rest : drop len (first ++ behind) ≡ behind = ap (λ (l : ℕ). drop l (first ++ behind)) (sym far) ∙ drop-append_seam first behind in
      subst (λ (b : List ℕ). P named keeps.parts b) rest (subst (λ (x : ImageParts). P named x (drop len (first ++ behind))) (sym same)
      (subst (λ (x : NamedProgram). P x q (drop len (first ++ behind))) (sym one) w))

  -- the history behind it is that of the opening that is taken up
  is_new : left_behind named keeps.parts behind ≡ new
  is_new = ap (λ (o : Opening). state_after (script_of by_tree m) (begun o) (lines_of behind)) keeps.opening

  -- the image that is written
  module _ (store : Option Stored) (image : List ℕ) (left : IsLeft m store new) (i : IsImage store keeps.parts.text named.shape new image) where
    abbrev next_parts : ImageParts
    next_parts = parts_of i.there keeps.parts.text (next_run new) new.budget

    next_opening : opening_in named.shape next_parts ≡ taken_up m new
    unfolding direct
    next_opening = is_taken_up m store keeps.parts.text image new new_start left i

    next_accepted : (more : List ℕ) → IsAccepted (image ++ more) next_parts named (length image)
    next_accepted more = record {
      form = record {
        fits = i.fits;
        length_is = ap length i.bytes;
        bytes_are = ap (λ (x : List ℕ). x ++ more) i.bytes ∙ ap (λ (x : List ℕ). image_bytes next_parts ++ x) (sym (drop-append_seam image more));
      };
      text = (keeps.accepted []).text;
      rules = i.rules;
    }

    next_keeps : KeepsHistory image named (all_dropped old)
    next_keeps = record {
      sound = sound-kept m old sound_old;
      start = old_start;
      shut = none-open old;
      parts = next_parts;
      accepted = next_accepted;
      opening = next_opening ∙ sym taken ∙ sym (taken-same m old);
    }

pub repacked_keeps_law : RepackedKeepsLaw
repacked_keeps_law first named h behind image keeps (was, store, rest, (reads, (c, (next, is, written)))) =
    let Left : NamedProgram → ImageParts → List ℕ → Type 0 = λ g q b. IsLeft (meaning g) store (left_behind g q b) × IsImage store q.text g.shape (left_behind g q b) image in
    let there : Left c.named c.image (drop c.len (first ++ behind)) = (
      c.left,
      subst (λ (x : List ℕ). IsImage store c.image.text c.named.shape (left_behind c.named c.image (drop c.len (first ++ behind))) x)
          (sym written) is,
    ) in
    let here : Left named keeps.parts behind = on_this first named h behind keeps Left c.accepted there in
    let New : History → Type 0 = λ x. IsLeft (meaning named) store x × IsImage store keeps.parts.text named.shape x image in
    let (left, i) = subst New (is_new first named h behind keeps) here in
    next_keeps first named h behind keeps store image left i

pub never_refused_again_law : NeverRefusedAgainLaw
never_refused_again_law first named h behind out keeps (was, store, rest, (reads, w)) = ⊎_elim
    (λ fails. never_both (first ++ behind) keeps.parts named (length first) fails.0 (keeps.accepted behind) fails.1)
    (λ much.
    let c = much.0 in
    let Much : NamedProgram → ImageParts → List ℕ → Type 0 = λ g q b. CountsWithin (counts_of (meaning g) (left_behind g q b)) (2 ^ 50) → ⊥ in
    on_this first named h behind keeps Much c.accepted much.1
    (subst (λ (x : History). CountsWithin (counts_of (meaning named) x) (2 ^ 50)) (sym (is_new first named h behind keeps))
    (few first named h behind keeps)))
    w

-- ---- a script behind an image that keeps a history

-- the lines begin behind the image
pub kept_rest : (first : List ℕ) (named : NamedProgram) (h : History) (behind : List ℕ) → KeepsHistory first named h
    → {g : NamedProgram} {q : ImageParts} {len : ℕ} → IsAccepted (first ++ behind) q g len → drop len (first ++ behind) ≡ behind
kept_rest first named h behind keeps {g} {q} {len} a =
    let far = (one_form (first ++ behind) keeps.parts q (length first) len (keeps.accepted behind).form a.form).1 in
    ap (λ (l : ℕ). drop l (first ++ behind)) (sym far) ∙ drop-append_seam first behind

-- whatever was read
pub answered_behind : (first : List ℕ) (named : NamedProgram) (h : History) (behind out : List ℕ) (kept : Resumed) → KeepsHistory first named h → AnswersBehind kept (Ok tt) (first ++ behind) out
    → out ≡ concat (replies_on (meaning named) h (lines_of behind))
answered_behind first named h behind out kept keeps a =
    let m = meaning named in
    let P : NamedProgram → ImageParts → List ℕ → Type 0 = λ g q b. out ≡ concat (pieces_from (script_of by_tree (meaning g)) (begun (opening_in g.shape q)) (lines_of b)) in
    on_this first named h behind keeps P a.accepted a.answered.0
    ∙ ap (λ (o : Opening). concat (replies_on m (begun o) (lines_of behind))) keeps.opening
    ∙ sym (ap concat (replies_behind_law m h h (begun (taken_up m h)) (lines_of behind) keeps.sound keeps.shut (begins_law m h)))

pub resumed_behind_law : ResumedBehindLaw
resumed_behind_law first named h behind out keeps (was, now, rest, (reads, a)) = answered_behind first named h behind out (resumed_in was now) keeps a

pub never_refused_behind_law : NeverRefusedBehindLaw
never_refused_behind_law first named h behind out keeps (was, now, rest, (reads, (rule, fails, written, kept))) =
    never_both (first ++ behind) keeps.parts named (length first) rule (keeps.accepted behind) fails

-- A script behind an image.
use Rattle.std.proofs.Common.{◌≡◌, ℕ, Option, Some, None, List, [], ◌∷◌, ◌++◌, refl, sym, ap, ◌∙◌, subst, append_assoc, Result, Ok, Err}
use Rattle.std.specs.Option.{option_to_list}
use Rattle.pst_base.specs.Shape.{IsValid}
use Rattle.pst_front.specs.Pages.{routines_in}
use Rattle.pst_script.specs.declared.command.Command.{Command}
use Rattle.pst_script.specs.declared.command.LineFault.{LineFault}
use Rattle.pst_script.specs.declared.command.LineFault.TheVariants.{Line, Number, Memory}
use Rattle.pst_script.specs.Commands.{reading}
use Rattle.pst_script.specs.Texts.{text_of}
use Rattle.pst_cli_scripts.specs.Pieces.{pieces_from, state_after}
use Rattle.pst_cli_scripts.specs.Script.{Rules, by_tree_from, by_tree, script_of, reply_of, next_of}
use Rattle.pst_history.specs.Meaning.{Meaning}
use Rattle.pst_history.specs.History.{Opening, History, begun, opening, counts_of}
use Rattle.pst_history.specs.Sound.{IsSoundHistory}
use Rattle.pst_history.specs.Direct.{direct}
use Rattle.pst_history.proofs.DirectLemmas.{direct_is_lawful}
use Rattle.pst_history_laws.specs.Alike.{MeaningAlike}
use Rattle.pst_history_laws.proofs.Histories.{history_law}
use Rattle.pst_history_laws.proofs.Meanings.{meaning_law}
use Rattle.pst_history_laws.proofs.Canonical.{canonical_law}
use Rattle.pst_history_laws.specs.TakenUp.{taken_up, further, anew, AreAlike, NoneOpen, all_dropped}
use Rattle.pst_history_laws.specs.Openings.{left_by, GoesOnLaw, ProgramGoesOnLaw, SoundBehindLaw, StaysBehindLaw, RepliesBehindLaw, TakenUpAlikeLaw}
use Rattle.pst_history_laws.proofs.SameParts.{same-heaps, same-next, same-counts}
use Rattle.pst_history_laws.proofs.Sound.{lines-sound, left-sound}
use Rattle.pst_history_laws.proofs.Commands.{begins_law, replies_law, stays_law}
use Rattle.pst_history_laws.proofs.Dropped.{taken-same, none-open, sound-kept}

-- ---- lines of traps

next-alike : (m n : Meaning) → MeaningAlike m n → (h : History) (x : Result (Option Command) LineFault) → next_of by_tree m h x ≡ next_of by_tree n h x
next-alike m n a h (Ok None) = refl
next-alike m n a h (Ok (Some c)) = (history_law m n h a).after_is c
next-alike m n a h (Err f) = refl

lines-alike : (m n : Meaning) → MeaningAlike m n → (lines : List (List ℕ)) (h : History) → state_after (script_of by_tree m) h lines ≡ state_after (script_of by_tree n) h lines
lines-alike m n a [] h = refl
lines-alike m n a (line ∷ lines) h = ap (λ g. state_after (script_of by_tree m) g lines) (next-alike m n a h (reading line)) ∙ lines-alike m n a lines (next_of by_tree n h (reading line))

pub left-alike : (m n : Meaning) → MeaningAlike m n → (lines : List (List ℕ)) → left_by m lines ≡ left_by n lines
left-alike m n a lines = lines-alike m n a lines (begun (opening m.shape)) ∙ ap (λ s. state_after (script_of by_tree n) (begun (opening s)) lines) a.shape

pub taken-alike : (m n : Meaning) → MeaningAlike m n → (h : History) → taken_up m h ≡ taken_up n h
taken-alike m n a h =
    let s = history_law m n h a in
    ap (λ x. record (taken_up m h) { heaps = x }) s.heaps ∙ ap (λ x. record (taken_up n h) { counts = x }) s.counts

-- ---- a script goes on

module _ (first : Meaning → Opening) (m : Meaning) (h0 : History) (sound : IsSoundHistory m h0) (none : NoneOpen h0) where
  abbrev rules : Rules
  rules = by_tree_from first

  reply-same : (h g : History) → AreAlike m h0 h g → (x : Result (Option Command) LineFault) → reply_of by_tree m h x ≡ reply_of rules m g x
  reply-same h g a (Ok None) = refl
  reply-same h g a (Ok (Some c)) = ap (λ r. Some (text_of r)) (replies_law m h0 h g c sound none a)
  reply-same h g a (Err Line) = refl
  reply-same h g a (Err Number) = refl
  reply-same h g a (Err Memory) = refl

  next-same : (h g : History) → AreAlike m h0 h g → (x : Result (Option Command) LineFault) → AreAlike m h0 (next_of by_tree m h x) (next_of rules m g x)
  next-same h g a (Ok None) = a
  next-same h g a (Ok (Some c)) = stays_law m h0 h g c sound none a
  next-same h g a (Err f) = a

  pieces-same : (lines : List (List ℕ)) (h g : History) → AreAlike m h0 h g → pieces_from (script_of by_tree m) h lines ≡ pieces_from (script_of rules m) g lines
  pieces-same [] h g a = refl
  pieces-same (line ∷ lines) h g a =
      ap (λ o. option_to_list o ++ pieces_from (script_of by_tree m) (next_of by_tree m h (reading line)) lines) (reply-same h g a (reading line))
      ∙ ap (λ ps. option_to_list (reply_of rules m g (reading line)) ++ ps) (pieces-same lines (next_of by_tree m h (reading line)) (next_of rules m g (reading line)) (next-same h g a (reading line)))

pub sound_behind_law : SoundBehindLaw
sound_behind_law m lawful h script s = lines-sound m lawful script h s

pub stays_behind_law : StaysBehindLaw
stays_behind_law m from old new [] sound none a = a
stays_behind_law m from old new (line ∷ script) sound none a =
    stays_behind_law m from (next_of by_tree m old (reading line)) (next_of by_tree m new (reading line)) script sound none
    (next-same (λ x. opening x.shape) m from sound none old new a (reading line))

pub replies_behind_law : RepliesBehindLaw
replies_behind_law m from old new script sound none a = pieces-same (λ x. opening x.shape) m from sound none script old new a

pub taken_up_law : TakenUpAlikeLaw
taken_up_law m from old new sound none a =
    let heaps = same-heaps m from sound none a.budget a.runs a.versions a.later in
    let next = same-next m from sound none a.budget a.runs a.versions a.later in
    let counts = same-counts m from sound none a.budget a.runs a.versions a.later in
    let one = further from a.budget a.runs a.versions in
    let two = anew m from a.budget a.runs a.versions in
    ap (taken_up m) a.old_is
    ∙ ap (λ x. record (taken_up m one) { versions = x }) (sym (append_assoc from.start.versions from.versions a.versions))
    ∙ ap (λ x. record (taken_up m one) { versions = two.start.versions ++ two.versions; heaps = x }) heaps
    ∙ ap (λ x. record (taken_up m two) { next_run = x; counts = counts_of m one }) next
    ∙ ap (λ x. record (taken_up m two) { counts = x }) counts
    ∙ sym (ap (taken_up m) a.new_is)

pub goes_on_law : GoesOnLaw
goes_on_law m n alike lawful first before behind is =
    let h = left_by n before in
    let d = all_dropped h in
    let one : first n ≡ taken_up n d = is ∙ ap (taken_up m) (left-alike m n alike before) ∙ taken-alike m n alike h ∙ sym (taken-same n h) in
    ap (λ o. pieces_from (script_of (by_tree_from first) n) (begun o) behind) one
    ∙ sym (pieces-same first n d (sound-kept n h (left-sound n lawful before)) (none-open h) behind d (begun (taken_up n d)) (begins_law n d))

pub program_goes_on_law : ProgramGoesOnLaw
program_goes_on_law text syntax named before behind judged valid =
    let read = canonical_law text syntax named judged in
    let again : IsValid read.program.shape = subst IsValid read.alike.shape valid in
    record {
      read = read;
      same = λ first. goes_on_law (direct (routines_in named)) (direct (routines_in read.program)) (meaning_law named read.program read.alike)
          (direct_is_lawful (routines_in read.program) again) first before behind;
    }

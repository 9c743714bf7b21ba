-- Which row of the table holds.
use Rattle.std.proofs.Common.{◌≡◌, ℕ, ◌≤◌, inl, inr, List, [], ◌∷◌, ◌++◌, length, drop, refl, sym, ap, ◌∙◌, subst, arith, Option, None, Some, Result, Err, append-nil}
use Rattle.std.specs.Prelude.{IfSome}
use Rattle.std.specs.Io.KnownBytes.{Appends, Consumes}
use Rattle.std.proofs.KnownBytes.{Appends-nil}
use Rattle.std.proofs.lemmas.List.{drop_all}
use Rattle.pst_io.specs.declared.room.TheConstants.{MOST_INPUT}
use Rattle.pst_io.specs.Input.{InputState, Hands, bytes_read}
use Rattle.pst_io.specs.Text.{lines_of}
use Rattle.pst_program.specs.declared.program.Program.{Program}
use Rattle.pst_typing.specs.View.{program_of}
use Rattle.pst_history.specs.History.{Opening, begun}
use Rattle.pst_history.specs.Direct.{meaning_of}
use Rattle.pst_cli_scripts.specs.declared.stop.Stop.{Stop}
use Rattle.pst_cli_scripts.specs.declared.stop.Stop.TheVariants as stop
use Rattle.pst_cli_scripts.specs.Pieces.{IsPartOf}
use Rattle.pst_cli_scripts.specs.Reading.{GivesUntil, HandsAll}
use Rattle.pst_cli_scripts.specs.Script.{by_tree, script_of}
use Rattle.pst_cli_scripts.specs.Sessions.{StopsAtReply, AnswersText}
use Rattle.pst_cli_words.specs.declared.status.Status.{Status}
use Rattle.pst_cli_words.specs.declared.status.Status.TheVariants.{Done, ReadFault, WriteFault, Usage, Refused, TooLong, Memory}
use Rattle.pst_cli_serving.specs.Serving.{status_of}
use Rattle.pst_cli_serving.proofs.Handed.{fresh, some_read, past_limit}
use Rattle.pst_image_form.specs.declared.parts.ImageParts.{ImageParts}
use Rattle.pst_image_rules.specs.declared.rule.Rule.{Rule}
use Rattle.pst_image_unpack.specs.Unpacked.{IsAccepted, FailsFirst}
use Rattle.pst_cli_images.specs.Opening.{opening_in}
use Rattle.pst_cli_images.specs.Resuming.{Resumed, ReadsWhole, Refuses, AnswersBehind, Resumes, WholeRow, refusal_text}

-- ---- the line of a rule

pub line_stopped : (s : Stop) (rule : Rule) (piece out : List ℕ) → piece ≡ refusal_text rule → StopsAtReply s (Some piece) out → Refuses (status_of s) rule out
line_stopped stop.Write rule piece out is (whole, same, part) = let e : whole ≡ piece = cc in subst (λ l. IsPartOf l out) (e ∙ is) part
line_stopped stop.Memory rule piece out is none = none
line_stopped stop.Read rule piece out is never = absurd never
line_stopped stop.TooLong rule piece out is never = absurd never

pub line_resumes : (status : Status) (k : Resumed) (rule : Rule) (input out : List ℕ) → k.untouched → FailsFirst input rule → Refuses status rule out → Resumes status k input out
line_resumes Refused k rule input out same fails w = (rule, fails, w, same)
line_resumes WriteFault k rule input out same fails w = inl (rule, fails, w, same)
line_resumes Memory k rule input out same fails w = inl (w, same)
line_resumes Done k rule input out same fails w = absurd w
line_resumes ReadFault k rule input out same fails w = absurd w
line_resumes TooLong k rule input out same fails w = absurd w
line_resumes Usage k rule input out same fails w = absurd w

-- ---- the script

-- the lines behind an image were answered so, from its opening on
pub behind : (k : Resumed) (r : Result (Unit {0}) Stop) (input out : List ℕ) (p : ImageParts) (program : Program) (len : ℕ) (o : Opening)
    {script : List ℕ} → script ≡ drop len input → IsAccepted input p (program_of program) len
    → o ≡ opening_in program.shape p → AnswersText (script_of by_tree (meaning_of program)) (begun o) (k.leaves (meaning_of program))
    (k.breaks (meaning_of program)) r (lines_of script) out → AnswersBehind k r input out
behind k r input out p program len o {script} rest accepted same w =
    let m = meaning_of program in
    let here = subst (λ (o : Opening). AnswersText (script_of by_tree m) (begun o) (k.leaves m) (k.breaks m) r (lines_of script) out) same w in
    record {
      image = p;
      named = program_of program;
      len = len;
      accepted = accepted;
      answered = subst (λ l. AnswersText (script_of by_tree m) (begun (opening_in program.shape p)) (k.leaves m) (k.breaks m) r (lines_of l) out) rest here;
    }

-- answering stopped
pub script_stops : (s : Stop) (k : Resumed) (input out : List ℕ) → AnswersBehind k (Err s) input out → Resumes (status_of s) k input out
script_stops stop.Write k input out w = inr w
script_stops stop.Memory k input out w = inr w
script_stops stop.Read k input out w = absurd w.answered
script_stops stop.TooLong k input out w = absurd w.answered

-- ---- rows

-- what comes of a whole input does not end as if it were not read
pub record IsOfWhole (Comes : Status → Resumed → (input out : List ℕ) → Type 0) : Type 1 where
  pub read : (k : Resumed) (input out : List ℕ) → Comes ReadFault k input out → ⊥
  pub long : (k : Resumed) (input out : List ℕ) → Comes TooLong k input out → ⊥
  pub usage : (k : Resumed) (input out : List ℕ) → Comes Usage k input out → ⊥

pub resumes_whole : IsOfWhole Resumes
resumes_whole = record { read = λ k input out w. w; long = λ k input out w. w; usage = λ k input out w. w }

-- reading stopped, and nothing was done
module _ (limit : ℕ) (Comes : Status → Resumed → (input out : List ℕ) → Type 0) (k : Resumed) (same : k.untouched) (input text : List ℕ) (c : InputState) where
  pub failed_row : (left : Option (List ℕ)) → Hands (fresh limit) (Some input) c left text → bytes_read c ≤ limit → WholeRow limit Comes ReadFault k input left []
  failed_row left h most = ((refl, same), some_read limit input text c left h most)

  pub lacks_row : (left : Option (List ℕ)) → Hands (fresh limit) (Some input) c left text → bytes_read c ≤ limit → WholeRow limit Comes Memory k input left []
  lacks_row left h most = inl ((refl, same), some_read limit input text c left h most)

  pub long_row : (before left : Option (List ℕ)) (more : ℕ) → Hands (fresh limit) (Some input) c before text → Consumes before left (more ∷ []) → bytes_read c ≡ c.most
      → WholeRow limit Comes TooLong k input left []
  long_row before left more h past full = let long = past_limit limit input text c before left more h past full in ((refl, same), long.0, long.1)

module _ (Comes : Status → Resumed → (input out : List ℕ) → Type 0) where
  stopped : (k : Resumed) (s : Stop) (c : InputState) (input : List ℕ) (left : Option (List ℕ)) (lines : List (List ℕ)) → k.untouched
      → (s ≡ stop.Write → ⊥) → GivesUntil s (fresh MOST_INPUT) (Some input) c left lines → bytes_read c ≤ MOST_INPUT
      → WholeRow MOST_INPUT Comes (status_of s) k input left []
  stopped k stop.Read c input left lines same unwritten g most = failed_row MOST_INPUT Comes k same input g.0.text c left g.0.hands most
  stopped k stop.TooLong c input left lines same unwritten g most =
      let p = g.0 in
      long_row MOST_INPUT Comes k same input p.gives.text c p.before left p.more p.gives.hands p.past p.full
  stopped k stop.Write c input left lines same unwritten g most = absurd (unwritten refl)
  stopped k stop.Memory c input left lines same unwritten g most = lacks_row MOST_INPUT Comes k same input g.0.text c left g.0.hands most

  pub unread : (k : Resumed) (s : Stop) (status : Status) (a c : InputState) (left left' sink : Option (List ℕ)) (lines : List (List ℕ)) → k.untouched
      → status ≡ status_of s → a ≡ fresh MOST_INPUT → (s ≡ stop.Write → ⊥) → GivesUntil s a left c left' lines
      → bytes_read c ≤ MOST_INPUT → IfSome left (λ input. (out : List ℕ) × Appends sink sink out × WholeRow MOST_INPUT Comes status k input left' out)
  unread k s status a c None left' sink lines same is new unwritten g most = tt
  unread k s status a c (Some input) left' sink lines same is new unwritten g most = (
    [],
    Appends-nil sink,
    subst (λ v. WholeRow MOST_INPUT Comes v k input left' []) (sym is) (stopped k s c input left' lines same unwritten (subst (λ v. GivesUntil s v (Some input) c left' lines) new g) most),
  )

-- all of the input was read, and these are its bytes
record IsReadToEnd (limit : ℕ) (input : List ℕ) (left : Option (List ℕ)) (bytes : List ℕ) : Type 0 where
  same : bytes ≡ input
  read : ReadsWhole limit input left

read_to_end : (limit : ℕ) (b : InputState) (input : List ℕ) (left : Option (List ℕ)) (bytes : List ℕ) → HandsAll (fresh limit) (Some input) b left bytes → length bytes ≤ limit
    → IsReadToEnd limit input left bytes
read_to_end limit b input None bytes (hands, over, end) few = absurd hands.consumed
read_to_end limit b input (Some rest) bytes (hands, over, end) few =
    let all : input ≡ bytes = hands.consumed ∙ ap (λ l. hands.bytes ++ l) end ∙ append-nil hands.bytes ∙ hands.kept ∙ ap (λ l. bytes ++ l) over.0 ∙ append-nil bytes in
    record {
      same = sym all;
      read = record {
        most = omega (arith, ap length all, few);
        within = omega arith;
        rest = ap (λ l. Some l) (end ∙ sym (drop_all (length input) input (omega arith)));
      };
    }

module _ (Comes : Status → Resumed → (input out : List ℕ) → Type 0) (o : IsOfWhole Comes) (limit : ℕ) where
  row : (status : Status) (k : Resumed) (input : List ℕ) (left : Option (List ℕ)) (out : List ℕ) → ReadsWhole limit input left → Comes status k input out
      → WholeRow limit Comes status k input left out
  row Done k input left out read w = (read, w)
  row Refused k input left out read w = (read, w)
  row WriteFault k input left out read w = (read, w)
  row Memory k input left out read w = inr (read, w)
  row ReadFault k input left out read w = absurd (o.read k input out w)
  row TooLong k input left out read w = absurd (o.long k input out w)
  row Usage k input left out read w = absurd (o.usage k input out w)

  pub read_whole : (k : Resumed) (status : Status) (a b : InputState) (left left' sink sink' : Option (List ℕ)) (bytes : List ℕ) → a ≡ fresh limit
      → HandsAll a left b left' bytes → length bytes ≤ limit → (out : List ℕ) × Appends sink sink' out × Comes status k bytes out
      → IfSome left (λ input. (out : List ℕ) × Appends sink sink' out × WholeRow limit Comes status k input left' out)
  read_whole k status a b None left' sink sink' bytes new h few w = tt
  read_whole k status a b (Some input) left' sink sink' bytes new h few (out, written, w) =
      let all = read_to_end limit b input left' bytes (subst (λ v. HandsAll v (Some input) b left' bytes) new h) few in
      (out, written, row status k input left' out all.read (subst (λ l. Comes status k l out) all.same w))

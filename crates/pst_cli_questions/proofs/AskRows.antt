-- Which row of the table of answers holds.
use Rattle.std.proofs.Common.{◌≡◌, ℕ, ◌≤◌, inl, inr, List, [], ◌++◌, refl, sym, subst, Option, None, Some}
use Rattle.std.specs.Prelude.{IfSome}
use Rattle.std.specs.Io.KnownBytes.{Appends}
use Rattle.std.proofs.KnownBytes.{Appends-nil}
use Rattle.pst_grammar.specs.Syntax.{ProgramText}
use Rattle.pst_typing.specs.View.{program_of}
use Rattle.pst_program.specs.declared.program.Program.{Program}
use Rattle.pst_history.specs.Direct.{meaning_of}
use Rattle.pst_io.specs.declared.room.TheConstants.{MOST_INPUT}
use Rattle.pst_io.specs.Input.{InputState, Gives, IsCutOff, EndsWhereSeen, bytes_read, pending}
use Rattle.pst_io.proofs.Handing.{gives_then}
use Rattle.pst_front.specs.declared.fault.Fault.{Fault}
use Rattle.pst_cli_words.specs.declared.job.Job.TheVariants.{Run}
use Rattle.pst_cli_scripts.specs.declared.stop.Stop.{Stop}
use Rattle.pst_cli_scripts.specs.declared.stop.Stop.TheVariants as stop
use Rattle.pst_cli_words.specs.declared.status.Status.{Status}
use Rattle.pst_cli_words.specs.declared.status.Status.TheVariants.{Done, ReadFault, WriteFault, Usage, Refused, TooLong, Memory}
use Rattle.pst_cli_scripts.specs.Input.{CutInput, cut, cut_of}
use Rattle.pst_cli_scripts.specs.Pieces.{IsPartOf}
use Rattle.pst_front.specs.Verdict.{Verdict, Accepted, Refused as IsRefusedBy, Judged, HasFault}
use Rattle.pst_cli_scripts.specs.Kept.{Kept}
use Rattle.pst_cli_serving.specs.Output.{OfVerdict, Accepting}
use Rattle.pst_cli_scripts.specs.Reading.{GivesPast, GivesUntil, ReadsText}
use Rattle.pst_cli_serving.specs.Rows.{IsWithin, ReadsAll}
use Rattle.pst_cli_serving.specs.Serving.{Refuses, status_of}
use Rattle.pst_cli_scripts.specs.Sessions.{StopsAtReply}
use Rattle.pst_cli_questions.specs.Asking.{StopsInFault, BreaksAt, CarriedTo, StopsInScript, LacksAnswer, OverRow, GivesAll, StopsAsking, StopsText, Over}
use Rattle.pst_cli_serving.proofs.Handed.{fresh}
use Rattle.pst_cli_serving.proofs.RowLemmas.{stops_front, LongFront, long_by, long_row, lacks_text, lacks_program, cuts, readable, reads_up_to}
use Rattle.pst_cli_serving.proofs.RowLemmas.{told_text, refused_alike, of_text, whole_input, was_going, after_program}
use Rattle.pst_cli_serving.proofs.Serving.{one_whole}

-- ---- what comes of the text of a program

pub fault_asked : (status : Status) (k : Kept) (whole part : List (List ℕ) → Verdict → List ℕ → Type 0) (a : InputState) (left : Option (List ℕ)) (text out : List ℕ) (fault : Fault) → k.untouched
    → HasFault text fault.kind fault.line → Refuses status fault out → Over status k whole part a left a left text out
fault_asked Refused k whole part a left text out fault same has w = ((refl, refl), (IsRefusedBy fault, has, same, one_whole _ out w))
fault_asked WriteFault k whole part a left text out fault same has w = inl ((refl, refl), (IsRefusedBy fault, has, (same, w)))
fault_asked Memory k whole part a left text out fault same has w = (w, inl (same, (refl, refl)))
fault_asked Done k whole part a left text out fault same has w = absurd w
fault_asked ReadFault k whole part a left text out fault same has w = absurd w
fault_asked TooLong k whole part a left text out fault same has w = absurd w
fault_asked Usage k whole part a left text out fault same has w = absurd w

module _ (k : Kept) (whole part : List (List ℕ) → Verdict → List ℕ → Type 0) (a b : InputState) (left left' : Option (List ℕ)) (text : List ℕ) (syntax : ProgramText) (program : Program)
    (judged : Judged text (Accepted syntax (program_of program))) where
  -- the answer is written
  pub answer_asked : (lines : List (List ℕ)) (out : List ℕ) → GivesAll a left b left' lines → whole lines (Accepted syntax (program_of program)) out → Over Done k whole part a left b left' text out
  answer_asked lines out g told = (lines, g, (Accepted syntax (program_of program), judged, told))

  -- the answer was not written whole
  pub answer_stopped : (s : Stop) (lines : List (List ℕ)) (piece out : List ℕ) → GivesAll a left b left' lines → k.leaves (meaning_of program) lines
      → (IsPartOf piece out → part lines (Accepted syntax (program_of program)) out) → StopsAtReply s (Some piece) out → Over (status_of s) k whole part a left b left' text out
  answer_stopped stop.Write lines piece out g kept told (all, same, some) =
      let e : all ≡ piece = cc in
      inr (lines, g, (Accepted syntax (program_of program), judged, told (subst (λ l. IsPartOf l out) e some)))
  answer_stopped stop.Memory lines piece out g kept told none = (none, inr (inr (inr (lines, g, (Accepted syntax (program_of program), judged, kept)))))
  answer_stopped stop.Read lines piece out g kept told never = absurd never
  answer_stopped stop.TooLong lines piece out g kept told never = absurd never

  -- there was no answer
  pub script_asked : (s : Stop) → StopsAsking k.untouched (k.leaves (meaning_of program)) (k.breaks (meaning_of program)) s a left b left' → Over (status_of s) k whole part a left b left' text []
  script_asked stop.Read (lines, g, off, kept) = (refl, (lines, g, off, (Accepted syntax (program_of program), judged, kept)))
  script_asked stop.TooLong (lines, g, off, kept) = (refl, (lines, g, off, (Accepted syntax (program_of program), judged, kept)))
  script_asked stop.Write never = absurd never
  script_asked stop.Memory (inl none) = (refl, inl none)
  script_asked stop.Memory (inr (inl (lines, g, off, kept))) = (refl, inr (inl (lines, g, off, (Accepted syntax (program_of program), judged, kept))))
  script_asked stop.Memory (inr (inr (inl (lines, g, near, kept)))) = (refl, inr (inr (inl (lines, g, near, (Accepted syntax (program_of program), judged, kept)))))
  script_asked stop.Memory (inr (inr (inr (lines, g, kept)))) = (refl, inr (inr (inr (lines, g, (Accepted syntax (program_of program), judged, kept)))))

-- ---- rows

-- reading the text of the program stopped
stopped : (k : Kept) (whole part : List (List ℕ) → Verdict → List ℕ → Type 0) (s : Stop) (c : InputState) (input : List ℕ) (left : Option (List ℕ))
    (lines : List (List ℕ)) → k.untouched → (s ≡ stop.Write → ⊥)
    → GivesUntil s (fresh MOST_INPUT) (Some input) c left lines → cut lines ≡ None → bytes_read c ≤ MOST_INPUT → OverRow (status_of s) k whole part input left []
stopped k whole part stop.Read c input left lines same unwritten g none most = (refl, stops_front (CarriedTo k) c input left lines g.0 g.1 most (subst (CarriedTo k) (sym none) same))
stopped k whole part stop.TooLong c input left lines same unwritten g none most =
    let long = long_row (CarriedTo k) c input left lines g.0 g.1 (subst (CarriedTo k) (sym none) same) in
    (refl, long.0, long.1, long.2)
stopped k whole part stop.Write c input left lines same unwritten g none most = absurd (unwritten refl)
stopped k whole part stop.Memory c input left lines same unwritten (g, inl off) none most = (refl, inl (stops_front (CarriedTo k) c input left lines g off most (subst (CarriedTo k) (sym none) same)))
stopped k whole part stop.Memory c input left lines same unwritten (g, inr near) none most = (refl, inr (inl (lacks_text k c input left lines same g near none most)))

-- nothing was written
pub text_unread : (k : Kept) (whole part : List (List ℕ) → Verdict → List ℕ → Type 0) (s : Stop) (status : Status) (a c : InputState)
    (left left' sink sink' : Option (List ℕ)) (lines : List (List ℕ)) → k.untouched → status ≡ status_of s → a ≡ fresh MOST_INPUT
    → sink' ≡ sink → (s ≡ stop.Write → ⊥) → GivesUntil s a left c left' lines → cut lines ≡ None → bytes_read c ≤ MOST_INPUT
    → IfSome left (λ input. (out : List ℕ) × Appends sink sink' out × OverRow status k whole part input left' out)
text_unread k whole part s status a c None left' sink sink' lines same is new still unwritten g none most = tt
text_unread k whole part s status a c (Some input) left' sink sink' lines same is new still unwritten g none most = (
  [],
  subst (λ o. Appends sink o []) (sym still) (Appends-nil sink),
  subst (λ v. OverRow v k whole part input left' []) (sym is)
      (stopped k whole part s c input left' lines same unwritten (subst (λ v. GivesUntil s v (Some input) c left' lines) new g) none most),
)

module _ (k : Kept) (whole part : List (List ℕ) → Verdict → List ℕ → Type 0) (t u : InputState) (input rest text : List ℕ) (left : Option (List ℕ))
    (r : ReadsText (fresh MOST_INPUT) (Some input) t (Some rest) text)
    (seen : EndsWhereSeen t (Some rest)) (most : bytes_read t ≤ MOST_INPUT) (most' : bytes_read u ≤ MOST_INPUT) where
  same_text : (P : Verdict → Type 0) → OfVerdict text P → OfVerdict (cut_of input).text P
  same_text P w = of_text text (cut_of input).text P (told_text input text r.separator (pending t (Some rest)) r.told) w

  -- all lines of the script were carried out
  carried : (P : List (List ℕ) → Verdict → Type 0) (lines : List (List ℕ)) → GivesAll t (Some rest) u left lines → OfVerdict text (P lines)
      → IsWithin Run input × ReadsAll Run input left × OfVerdict (cut_of input).text (P (cut_of input).script)
  carried P lines (g, over, end) w =
      let all = whole_input t u input rest text left lines r g over end most' in
      (all.within, all.read, subst (λ (c : CutInput). OfVerdict c.text (P c.script)) (sym all.parts) w)

  -- reading was cut off in the script
  cut_short : (given : List (List ℕ)) → Gives t (Some rest) u left given → IsCutOff u → OfVerdict text (Accepting k given) → StopsInScript k input left
  cut_short given g off w =
      let all = gives_then (fresh MOST_INPUT) (Some input) t (Some rest) u left r.lines given r.gives g in
      stops_front (CarriedTo k) u input left (r.lines ++ given) all off most' (subst (CarriedTo k) (sym (cuts t input rest text r (was_going t.ended u.ended g.still off.1) given)) w)

  too_long : (given : List (List ℕ)) → GivesPast t (Some rest) u left given → IsCutOff u → OfVerdict text (Accepting k given) → LongFront (CarriedTo k) input left
  too_long given g off w =
      let all = gives_then (fresh MOST_INPUT) (Some input) t (Some rest) u g.before r.lines given r.gives g.gives in
      long_by (CarriedTo k) u input g.before g.more left (r.lines ++ given) all off g.past g.full
      (subst (CarriedTo k) (sym (cuts t input rest text r (was_going t.ended u.ended g.gives.still off.1) given)) w)

  lacks : StopsText k text stop.Memory t (Some rest) u left → LacksAnswer k input left
  lacks (inl (same, reads)) = inr (inl (lacks_program k input left [] (after_program t u input rest text left r seen most reads) refl same))
  lacks (inr (inl (given, g, off, w))) = inl (cut_short given g off w)
  lacks (inr (inr (inl (given, g, near, w)))) =
      inr (inr (inl (readable t input (Some rest) text r seen most, (given, reads_up_to t u input rest text left given r seen g near most', same_text (BreaksAt k given) w))))
  lacks (inr (inr (inr (lines, g, w)))) = inr (inr (inr (carried (Accepting k) lines g w)))

  asked_row : (status : Status) (out : List ℕ) → Over status k whole part t (Some rest) u left text out → OverRow status k whole part input left out
  asked_row Done out (lines, g, w) = carried (λ given verdict. whole given verdict out) lines g w
  asked_row Refused out (same, w) = (
    readable t input (Some rest) text r seen most,
    after_program t u input rest text left r seen most same,
    refused_alike k Run input text out (cut_of input) tt w (told_text input text r.separator (pending t (Some rest)) r.told),
  )
  asked_row WriteFault out (inl (same, w)) = inl (
    readable t input (Some rest) text r seen most,
    after_program t u input rest text left r seen most same,
    same_text (λ verdict. StopsInFault k verdict out) w,
  )
  asked_row WriteFault out (inr (lines, g, w)) = inr (carried (λ given verdict. part given verdict out) lines g w)
  asked_row ReadFault out (none, (given, g, off, w)) = (none, cut_short given g off w)
  asked_row TooLong out (none, (given, g, off, w)) = let long = too_long given g off w in (none, long.0, long.1, long.2)
  asked_row Memory out (none, w) = (none, lacks w)
  asked_row Usage out never = absurd never

asked : (k : Kept) (whole part : List (List ℕ) → Verdict → List ℕ → Type 0) (status : Status) (t u : InputState) (input text : List ℕ)
    (mid left sink sink' : Option (List ℕ)) → ReadsText (fresh MOST_INPUT) (Some input) t mid text → EndsWhereSeen t mid
    → bytes_read t ≤ MOST_INPUT → bytes_read u ≤ MOST_INPUT → (out : List ℕ) × Appends sink sink' out × Over status k whole part t mid u left text out
    → (out : List ℕ) × Appends sink sink' out × OverRow status k whole part input left out
asked k whole part status t u input text None left sink sink' r seen most most' s = absurd r.told
asked k whole part status t u input text (Some rest) left sink sink' r seen most most' (out, written, w) =
    (out, written, asked_row k whole part t u input rest text left r seen most most' status out w)

-- the script was carried out and the question answered
pub text_asked : (k : Kept) (whole part : List (List ℕ) → Verdict → List ℕ → Type 0) (status : Status) (a t u : InputState)
    (left mid left' sink sink' : Option (List ℕ)) (text : List ℕ) → a ≡ fresh MOST_INPUT → ReadsText a left t mid text
    → EndsWhereSeen t mid → bytes_read t ≤ MOST_INPUT → bytes_read u ≤ MOST_INPUT → (out : List ℕ) × Appends sink sink' out × Over status k whole part t mid u left' text out
    → IfSome left (λ input. (out : List ℕ) × Appends sink sink' out × OverRow status k whole part input left' out)
text_asked k whole part status a t u None mid left' sink sink' text new r seen most most' s = tt
text_asked k whole part status a t u (Some input) mid left' sink sink' text new r seen most most' s =
    asked k whole part status t u input text mid left' sink sink' (subst (λ v. ReadsText v (Some input) t mid text) new r) seen most most' s

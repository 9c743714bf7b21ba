-- What comes of the text of a program.
use Rattle.std.proofs.Common.{◌≡◌, ℕ, inl, inr, List, [], ◌∷◌, refl, sym, ◌∙◌, subst, Option, Some, append-nil}
use Rattle.std.specs.Io.KnownBytes.{Appends, IsAtEnd}
use Rattle.pst_grammar.specs.Syntax.{ProgramText}
use Rattle.pst_typing.specs.Declarations.{NamedProgram}
use Rattle.pst_program.specs.declared.program.Program.{Program}
use Rattle.pst_typing.specs.View.{program_of}
use Rattle.pst_history.specs.Meaning.{Meaning}
use Rattle.pst_history.specs.History.{History}
use Rattle.pst_history.specs.Direct.{meaning_of}
use Rattle.pst_io.specs.Input.{InputState, Gives, IsOver}
use Rattle.pst_io.proofs.Handing.{gives_none}
use Rattle.pst_front.specs.declared.fault.Fault.{Fault}
use Rattle.pst_cli_words.specs.declared.job.Job.{Job}
use Rattle.pst_cli_words.specs.declared.job.Job.TheVariants.{Check, Code}
use Rattle.pst_front.specs.declared.page.Page.{Page}
use Rattle.pst_front.specs.declared.page.Page.TheVariants.{Canonical, Listing}
use Rattle.pst_cli_scripts.specs.declared.stop.Stop.{Stop}
use Rattle.pst_cli_scripts.specs.declared.stop.Stop.TheVariants as stop
use Rattle.pst_cli_words.specs.declared.status.Status.{Status}
use Rattle.pst_cli_words.specs.declared.status.Status.TheVariants.{Done, ReadFault, WriteFault, Usage, Refused, TooLong, Memory}
use Rattle.pst_cli_scripts.specs.Pieces.{pieces_from, state_after, IsAll, IsPartOf}
use Rattle.pst_cli_scripts.specs.Script.{Rules, script_of}
use Rattle.pst_cli_scripts.specs.Kept.{Kept, first_history, kept_by, still}
use Rattle.pst_front.specs.Verdict.{Accepted, Refused as IsRefusedBy, Judged, HasFault}
use Rattle.pst_front.specs.Pages.{page_text}
use Rattle.pst_cli_serving.specs.Output.{replied, Outputs, OfVerdict, Accepting, Refusing, StopsInPiece, StopsBeforePiece}
use Rattle.pst_cli_scripts.specs.Reading.{IsNear}
use Rattle.pst_cli_serving.specs.Serving.{Refuses, Serves, Prints, status_of}
use Rattle.pst_cli_scripts.specs.Sessions.{StopsAtReply, StopsAnswering}

pub one_whole : (piece out : List ℕ) → out ≡ piece → IsAll (piece ∷ []) out
one_whole piece out is = is ∙ sym (append-nil piece)

-- ---- a fault

pub fault_printed : (status : Status) (page : Page) (text out : List ℕ) (fault : Fault) → HasFault text fault.kind fault.line → Refuses status fault out → Prints status page text out
fault_printed Refused page text out fault has w = (IsRefusedBy fault, has, tt, one_whole _ out w)
fault_printed WriteFault page text out fault has w = (IsRefusedBy fault, has, w)
fault_printed Memory page text out fault has w = w
fault_printed Done page text out fault has w = absurd w
fault_printed ReadFault page text out fault has w = absurd w
fault_printed TooLong page text out fault has w = absurd w
fault_printed Usage page text out fault has w = absurd w

pub fault_served : (status : Status) (rules : Rules) (k : Kept) (a : InputState) (left : Option (List ℕ)) (text out : List ℕ) (fault : Fault)
    → k.untouched → IsNear a → HasFault text fault.kind fault.line → Refuses status fault out
    → Serves status rules k a left a left text out
fault_served Refused rules k a left text out fault same near has w = ((refl, refl), (IsRefusedBy fault, has, same, one_whole _ out w))
fault_served WriteFault rules k a left text out fault same near has w = ([], gives_none a left, near, (IsRefusedBy fault, has, (refl, w, same)))
fault_served Memory rules k a left text out fault same near has w = inl (w, same, (refl, refl))
fault_served Done rules k a left text out fault same near has w = absurd w
fault_served ReadFault rules k a left text out fault same near has w = absurd w
fault_served TooLong rules k a left text out fault same near has w = absurd w
fault_served Usage rules k a left text out fault same near has w = absurd w

-- ---- a page

pub page_printed : (page : Page) (text piece out : List ℕ) (syntax : ProgramText) (program : NamedProgram) → Judged text (Accepted syntax program) → piece ≡ page_text page syntax program → out ≡ piece
    → Prints Done page text out
page_printed page text piece out syntax program judged is w = (Accepted syntax program, judged, tt, one_whole _ out (w ∙ is))

pub page_stopped : (s : Stop) (page : Page) (text piece out : List ℕ) (syntax : ProgramText) (program : NamedProgram) → Judged text (Accepted syntax program) → piece ≡ page_text page syntax program
    → StopsAtReply s (Some piece) out → Prints (status_of s) page text out
page_stopped stop.Write page text piece out syntax program judged is (whole, same, part) =
    let e : whole ≡ piece = cc in
    (Accepted syntax program, judged, subst (λ l. IsPartOf l out) (e ∙ is) part)
page_stopped stop.Memory page text piece out syntax program judged is s = s
page_stopped stop.Read page text piece out syntax program judged is s = absurd s
page_stopped stop.TooLong page text piece out syntax program judged is s = absurd s

-- ---- the script

pub script_answered : {T : Type 0} (rules : Rules) (leaves breaks : Meaning → T → History → Type 0) (old new : T) (a b : InputState)
    (left left' : Option (List ℕ)) (text out : List ℕ) (syntax : ProgramText) (program : Program)
    (given : List (List ℕ)) → Judged text (Accepted syntax (program_of program)) → Gives a left b left' given → IsOver b → IsAtEnd left'
    → IsAll (pieces_from (script_of rules (meaning_of program)) (first_history rules (meaning_of program)) given) out
    → leaves (meaning_of program) new (state_after (script_of rules (meaning_of program)) (first_history rules (meaning_of program)) given)
    → Serves Done rules (kept_by rules leaves breaks old new) a left b left' text out
script_answered rules leaves breaks old new a b left left' text out syntax program given judged g over end w kept =
    (given, g, over, end, (Accepted syntax (program_of program), judged, kept, w))

pub script_stopped : {T : Type 0} (rules : Rules) (leaves breaks : Meaning → T → History → Type 0) (old new : T) (s : Stop) (a b : InputState)
    (left left' : Option (List ℕ)) (text out : List ℕ) (syntax : ProgramText)
    (program : Program) (given : List (List ℕ)) → Judged text (Accepted syntax (program_of program))
    → StopsAnswering (script_of rules (meaning_of program)) (first_history rules (meaning_of program)) (leaves (meaning_of program) new) (breaks (meaning_of program) new) s a left b left' given out
    → Serves (status_of s) rules (kept_by rules leaves breaks old new) a left b left' text out
script_stopped rules leaves breaks old new stop.Read a b left left' text out syntax program given judged (g, off, w, kept) = (given, g, off, (Accepted syntax (program_of program), judged, kept, w))
script_stopped rules leaves breaks old new stop.TooLong a b left left' text out syntax program given judged (g, off, w, kept) = (given, g, off, (Accepted syntax (program_of program), judged, kept, w))
script_stopped rules leaves breaks old new stop.Write a b left left' text out syntax program given judged (g, near, w, kept) =
    (given, g, near, (Accepted syntax (program_of program), judged, (w, kept)))
script_stopped rules leaves breaks old new stop.Memory a b left left' text out syntax program given judged (g, inl (off, w, kept)) =
    inr (inl (given, g, off, (Accepted syntax (program_of program), judged, kept, w)))
script_stopped rules leaves breaks old new stop.Memory a b left left' text out syntax program given judged (g, inr (near, w, kept)) =
    inr (inr (given, g, near, (Accepted syntax (program_of program), judged, (w, kept))))

-- ---- what is held, said otherwise

-- what is held as the one says is held as the other says
pub record Implies (k n : Kept) : Type 0 where
  pub leaves : (m : Meaning) (lines : List (List ℕ)) → k.leaves m lines → n.leaves m lines
  pub breaks : (m : Meaning) (lines : List (List ℕ)) → k.breaks m lines → n.breaks m lines
  pub untouched : k.untouched → n.untouched

accepted_as : (rules : Rules) (k n : Kept) → Implies k n → (text out : List ℕ) (lines : List (List ℕ))
    → Outputs (Accepting k lines) IsAll text (replied rules lines) out → Outputs (Accepting n lines) IsAll text (replied rules lines) out
accepted_as rules k n i text out lines (Accepted syntax program, judged, kept, w) = (Accepted syntax program, judged, i.leaves _ lines kept, w)
accepted_as rules k n i text out lines (IsRefusedBy fault, judged, never, w) = absurd never

refused_as : (rules : Rules) (k n : Kept) → Implies k n → (text out : List ℕ) → Outputs (Refusing k) IsAll text (replied rules []) out → Outputs (Refusing n) IsAll text (replied rules []) out
refused_as rules k n i text out (Accepted syntax program, judged, never, w) = absurd never
refused_as rules k n i text out (IsRefusedBy fault, judged, same, w) = (IsRefusedBy fault, judged, i.untouched same, w)

in_piece_as : (rules : Rules) (k n : Kept) → Implies k n → (text out : List ℕ) (lines : List (List ℕ))
    → OfVerdict text (λ verdict. StopsInPiece rules k lines verdict out) → OfVerdict text (λ verdict. StopsInPiece rules n lines verdict out)
in_piece_as rules k n i text out lines (Accepted syntax program, judged, (w, kept)) = (Accepted syntax program, judged, (w, i.leaves _ lines kept))
in_piece_as rules k n i text out lines (IsRefusedBy fault, judged, (none, w, same)) = (IsRefusedBy fault, judged, (none, w, i.untouched same))

before_piece_as : (rules : Rules) (k n : Kept) → Implies k n → (text out : List ℕ) (lines : List (List ℕ))
    → OfVerdict text (λ verdict. StopsBeforePiece rules k lines verdict out) → OfVerdict text (λ verdict. StopsBeforePiece rules n lines verdict out)
before_piece_as rules k n i text out lines (Accepted syntax program, judged, (w, kept)) = (Accepted syntax program, judged, (w, i.breaks _ lines kept))
before_piece_as rules k n i text out lines (IsRefusedBy fault, judged, never) = absurd never

-- what is left of a program and its script is left so too
pub serves_as : (status : Status) (rules : Rules) (k n : Kept) → Implies k n → (a b : InputState) (left left' : Option (List ℕ)) (text out : List ℕ)
    → Serves status rules k a left b left' text out → Serves status rules n a left b left' text out
serves_as Done rules k n i a b left left' text out (lines, g, over, end, w) = (lines, g, over, end, accepted_as rules k n i text out lines w)
serves_as Refused rules k n i a b left left' text out (same, w) = (same, refused_as rules k n i text out w)
serves_as WriteFault rules k n i a b left left' text out (lines, g, near, w) = (lines, g, near, in_piece_as rules k n i text out lines w)
serves_as ReadFault rules k n i a b left left' text out (lines, g, off, w) = (lines, g, off, accepted_as rules k n i text out lines w)
serves_as TooLong rules k n i a b left left' text out (lines, g, off, w) = (lines, g, off, accepted_as rules k n i text out lines w)
serves_as Memory rules k n i a b left left' text out (inl (none, same, reads)) = inl (none, i.untouched same, reads)
serves_as Memory rules k n i a b left left' text out (inr (inl (lines, g, off, w))) = inr (inl (lines, g, off, accepted_as rules k n i text out lines w))
serves_as Memory rules k n i a b left left' text out (inr (inr (lines, g, near, w))) = inr (inr (lines, g, near, before_piece_as rules k n i text out lines w))
serves_as Usage rules k n i a b left left' text out never = absurd never

-- the same, with what was written
pub served_as : (status : Status) (rules : Rules) (k n : Kept) → Implies k n → (a b : InputState) (left left' sink sink' : Option (List ℕ)) (text : List ℕ)
    → (out : List ℕ) × Appends sink sink' out × Serves status rules k a left b left' text out → (out : List ℕ) × Appends sink sink' out × Serves status rules n a left b left' text out
served_as status rules k n i a b left left' sink sink' text (out, written, w) = (out, written, serves_as status rules k n i a b left left' text out w)

pub all_still : (P : Type 0) → P → (k : Kept) → Implies k (still P)
all_still P p k = record { leaves = λ m lines kept. p; breaks = λ m lines kept. p; untouched = λ kept. p }

-- ---- how a call ends where nothing failed

-- a job that prints a page
abbrev pub job_of_page : Page → Job
job_of_page Canonical = Check
job_of_page Listing = Code

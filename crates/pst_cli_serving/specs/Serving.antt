-- What the functions below the top call come to.
use Rattle.std.specs.Prelude.{◌≡◌, ℕ, ◌⊎◌, List, [], Option}
use Rattle.std.specs.Io.KnownBytes.{IsAtEnd}
use Rattle.pst_io.specs.Input.{InputState, Gives, IsOver, IsCutOff}
use Rattle.pst_io.specs.Lines.{LinesState}
use Rattle.pst_history.specs.Meaning.{Meaning}
use Rattle.pst_history.specs.History.{History}
use Rattle.pst_front.specs.declared.fault.Fault.{Fault}
use Rattle.pst_cli_scripts.specs.declared.stop.Stop.{Stop}
use Rattle.pst_cli_scripts.specs.declared.stop.Stop.TheVariants as stop
use Rattle.pst_front.specs.declared.judge.NoProgram.TheVariants as no
use Rattle.pst_front.specs.declared.page.Page.{Page}
use Rattle.pst_cli_words.specs.declared.status.Status.{Status}
use Rattle.pst_cli_words.specs.declared.status.Status.TheVariants.{Done, ReadFault, WriteFault, Usage, Refused, TooLong, Memory}
use Rattle.pst_cli_serving.specs.Output.{replied, printed, Outputs, OfVerdict, Accepting, Refusing, StopsInPiece, StopsBeforePiece, StopsInPage}
use Rattle.pst_cli_scripts.specs.Pieces.{IsAll, IsPartOf}
use Rattle.pst_front.specs.Verdict.{IsAccepted, IsRefused, fault_text}
use Rattle.pst_cli_scripts.specs.Script.{Rules}
use Rattle.pst_cli_scripts.specs.Kept.{Kept, kept_by}
use Rattle.pst_cli_scripts.specs.Reading.{GivesPast, IsNear}

-- how a call ends that stopped
abbrev pub status_of : Stop → Status
status_of stop.Read = ReadFault
status_of stop.Write = WriteFault
status_of stop.TooLong = TooLong
status_of stop.Memory = Memory

-- what is written of the line of a fault, by the status
abbrev pub Refuses : Status → Fault → List ℕ → Type 0
Refuses Refused fault out = out ≡ fault_text fault
Refuses WriteFault fault out = IsPartOf (fault_text fault) out
Refuses Memory fault out = out ≡ []
Refuses Done fault out = ⊥
Refuses ReadFault fault out = ⊥
Refuses TooLong fault out = ⊥
Refuses Usage fault out = ⊥

-- nothing more was read
abbrev pub ReadsNothing : InputState → Option (List ℕ) → InputState → Option (List ℕ) → Type 0
ReadsNothing a left b left' = (b ≡ a) × (left' ≡ left)

-- there was no room: for the program or the line of its fault; to read on; or in a line
abbrev pub ServesInPart : Rules → Kept → InputState → Option (List ℕ) → InputState → Option (List ℕ) → List ℕ → List ℕ → Type 0
ServesInPart rules k a left b left' text out =
    ((out ≡ []) × k.untouched × ReadsNothing a left b left')
    ⊎ (((lines : List (List ℕ)) × Gives a left b left' lines × IsCutOff b × Outputs (Accepting k lines) IsAll text (replied rules lines) out)
    ⊎ ((lines : List (List ℕ)) × Gives a left b left' lines × IsNear b × OfVerdict text (λ verdict. StopsBeforePiece rules k lines verdict out)))

-- what comes of the text of a program whose script is then read and answered
abbrev pub Serves : Status → Rules → Kept → InputState → Option (List ℕ) → InputState → Option (List ℕ) → List ℕ → List ℕ → Type 0
Serves Done rules k a left b left' text out =
    (lines : List (List ℕ)) × Gives a left b left' lines × IsOver b × IsAtEnd left' × Outputs (Accepting k lines) IsAll text (replied rules lines) out
Serves Refused rules k a left b left' text out = ReadsNothing a left b left' × Outputs (Refusing k) IsAll text (replied rules []) out
Serves WriteFault rules k a left b left' text out =
    (lines : List (List ℕ)) × Gives a left b left' lines × IsNear b × OfVerdict text (λ verdict. StopsInPiece rules k lines verdict out)
Serves ReadFault rules k a left b left' text out =
    (lines : List (List ℕ)) × Gives a left b left' lines × IsCutOff b × Outputs (Accepting k lines) IsAll text (replied rules lines) out
Serves TooLong rules k a left b left' text out =
    (lines : List (List ℕ)) × GivesPast a left b left' lines × IsCutOff b × Outputs (Accepting k lines) IsAll text (replied rules lines) out
Serves Memory rules k a left b left' text out = ServesInPart rules k a left b left' text out
Serves Usage rules k a left b left' text out = ⊥

-- so it is for a session with these rules and for what is held, as it was and is, and for a reader of lines and its source
abbrev pub ServesScript : {T S : Type 0} → Status → Rules → (leaves breaks : Meaning → T → History → Type 0) → (old new : T) → (left : S → Option (List ℕ)) → LinesState → S → LinesState → S
    → (text out : List ℕ) → Type 0
ServesScript status rules leaves breaks old new left lines source lines' source' text out =
    Serves status rules (kept_by rules leaves breaks old new) lines.input (left source) lines'.input (left source') text out

-- what comes of the text of a program that is printed
abbrev pub Prints : Status → Page → List ℕ → List ℕ → Type 0
Prints Done page text out = Outputs IsAccepted IsAll text (printed page) out
Prints Refused page text out = Outputs IsRefused IsAll text (printed page) out
Prints WriteFault page text out = OfVerdict text (λ verdict. StopsInPage page verdict out)
Prints Memory page text out = out ≡ []
Prints ReadFault page text out = ⊥
Prints TooLong page text out = ⊥
Prints Usage page text out = ⊥

-- The output of an input, as pieces.
use Rattle.std.specs.Prelude.{◌≡◌, ℕ, List, [], ◌∷◌}
use Rattle.pst_history.specs.Meaning.{Meaning}
use Rattle.pst_history.specs.Direct.{direct}
use Rattle.pst_cli_words.specs.declared.job.Job.{Job}
use Rattle.pst_cli_words.specs.declared.job.Job.TheVariants.{Run, Replay, Line, Check, Code}
use Rattle.pst_front.specs.declared.page.Page.{Page}
use Rattle.pst_front.specs.declared.page.Page.TheVariants.{Canonical, Listing}
use Rattle.pst_cli_scripts.specs.Pieces.{pieces_from, IsPartOf, StopsInReply, StopsBeforeReply}
use Rattle.pst_cli_scripts.specs.Script.{Rules, by_tree, script_of}
use Rattle.pst_cli_serving.specs.Lining.{by_line}
use Rattle.pst_cli_scripts.specs.Kept.{Kept, first_history}
use Rattle.pst_front.specs.Pages.{routines_in, page_text}
use Rattle.pst_front.specs.Verdict.{Verdict, Accepted, Refused, Judged, fault_text}

-- the replies to a script, from the history on with which it begins
abbrev pub replies_of : Rules → Meaning → List (List ℕ) → List (List ℕ)
replies_of rules m script = pieces_from (script_of rules m) (first_history rules m) script

-- the line of the fault, or the replies to the script
abbrev pub replied : Rules → List (List ℕ) → Verdict → List (List ℕ)
replied rules script (Refused fault) = fault_text fault ∷ []
replied rules script (Accepted syntax program) = replies_of rules (direct (routines_in program)) script

-- the line of the fault, or the page
abbrev pub printed : Page → Verdict → List (List ℕ)
printed page (Refused fault) = fault_text fault ∷ []
printed page (Accepted syntax program) = page_text page syntax program ∷ []

-- How the commands of a script are answered. The jobs that answer none may have any rules.
abbrev pub rules_of : Job → Rules
rules_of Run = by_tree
rules_of Replay = by_tree
rules_of Line = by_line
rules_of Check = by_tree
rules_of Code = by_tree

abbrev pub pieces : Job → List (List ℕ) → Verdict → List (List ℕ)
pieces Run script verdict = replied (rules_of Run) script verdict
pieces Replay script verdict = replied (rules_of Replay) script verdict
pieces Line script verdict = replied (rules_of Line) script verdict
pieces Check script verdict = printed Canonical verdict
pieces Code script verdict = printed Listing verdict

-- the text has such a verdict, and so much of its output is written
abbrev pub Outputs : (Verdict → Type 0) → (List (List ℕ) → List ℕ → Type 0) → List ℕ → (Verdict → List (List ℕ)) → List ℕ → Type 0
Outputs Is IsWritten text output out = (verdict : Verdict) × Judged text verdict × Is verdict × IsWritten (output verdict) out

-- the text has a verdict of which this holds
abbrev pub OfVerdict : List ℕ → (Verdict → Type 0) → Type 0
OfVerdict text P = (verdict : Verdict) × Judged text verdict × P verdict

-- the program is accepted, and what is held is left after these lines of the script
abbrev pub Accepting : Kept → List (List ℕ) → Verdict → Type 0
Accepting k lines (Accepted syntax program) = k.leaves (direct (routines_in program)) lines
Accepting k lines (Refused fault) = ⊥

-- the program is refused, and what is held is untouched
abbrev pub Refusing : Kept → Verdict → Type 0
Refusing k (Accepted syntax program) = ⊥
Refusing k (Refused fault) = k.untouched

-- A proper part of the line of the fault is written, before any line of the script is read; or the lines of the script are
-- carried out and answered but for the last, which is carried out, and a proper part of the reply to it is written.
abbrev pub StopsInPiece : Rules → Kept → List (List ℕ) → Verdict → List ℕ → Type 0
StopsInPiece rules k given (Refused fault) out = (given ≡ []) × IsPartOf (fault_text fault) out × k.untouched
StopsInPiece rules k given (Accepted syntax program) out =
    let m = direct (routines_in program) in
    StopsInReply (script_of rules m) (first_history rules m) given out × k.leaves m given

-- the lines of the script are answered but for the last one, in which there was no room
abbrev pub StopsBeforePiece : Rules → Kept → List (List ℕ) → Verdict → List ℕ → Type 0
StopsBeforePiece rules k given (Refused fault) out = ⊥
StopsBeforePiece rules k given (Accepted syntax program) out =
    let m = direct (routines_in program) in
    StopsBeforeReply (script_of rules m) (first_history rules m) given out × k.breaks m given

-- a proper part of the line of the fault or of the page is written
abbrev pub StopsInPage : Page → Verdict → List ℕ → Type 0
StopsInPage page (Refused fault) out = IsPartOf (fault_text fault) out
StopsInPage page (Accepted syntax program) out = IsPartOf (page_text page syntax program) out

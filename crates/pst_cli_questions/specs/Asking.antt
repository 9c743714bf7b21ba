-- Questions about the versions that a script makes. The script is carried out as for `run` and no reply is written; then the
-- answer is.
use Rattle.std.specs.Prelude.{◌≡◌, ℕ, ◌+◌, ◌<◌, ◌⊎◌, List, [], Option, Some, None, Result, Ok, Err, length, take, drop}
use Rattle.std.specs.Io.KnownBytes.{IsAtEnd}
use Rattle.pst_io.specs.declared.room.TheConstants.{MOST_INPUT}
use Rattle.pst_io.specs.Text.{whole_lines}
use Rattle.pst_io.specs.Input.{InputState, Gives, IsOver, IsCutOff}
use Rattle.pst_io.specs.Lines.{LinesState}
use Rattle.pst_program.specs.declared.program.Program.{Program}
use Rattle.pst_typing.specs.View.{program_of}
use Rattle.pst_history.specs.Meaning.{Meaning}
use Rattle.pst_history.specs.History.{History}
use Rattle.pst_history.specs.Direct.{direct, meaning_of}
use Rattle.pst_store_meaning.specs.Store.{Stored}
use Rattle.pst_cli_words.specs.declared.job.Job.TheVariants.{Run}
use Rattle.pst_cli_words.specs.declared.job.Question.{Question}
use Rattle.pst_cli_words.specs.declared.status.Status.{Status}
use Rattle.pst_cli_words.specs.declared.status.Status.TheVariants.{Done, ReadFault, WriteFault, Usage, Refused, TooLong, Memory}
use Rattle.pst_cli_scripts.specs.declared.stop.Stop.{Stop}
use Rattle.pst_cli_scripts.specs.declared.stop.Stop.TheVariants as stop
use Rattle.pst_front.specs.Verdict.{Accepted, Refused as IsRefusedBy}
use Rattle.pst_cli_serving.specs.Output.{replied, Outputs, OfVerdict, Accepting, Refusing}
use Rattle.pst_cli_serving.specs.Rows.{IsReadable, IsWithin, HasRead, ReadsUpTo, ReadsAll, Writes, LacksProgram}
use Rattle.pst_cli_serving.specs.Serving.{ReadsNothing}
use Rattle.pst_cli_scripts.specs.Input.{CutInput, cut, cut_of}
use Rattle.pst_cli_scripts.specs.Pieces.{Answering, state_after, BreaksIn, IsAll, IsPartOf}
use Rattle.pst_front.specs.Verdict.{Verdict, fault_text}
use Rattle.pst_cli_scripts.specs.Script.{Rules, by_tree, script_of}
use Rattle.pst_cli_scripts.specs.Sessions.{OnEachHistory}
use Rattle.pst_cli_scripts.specs.Kept.{Kept, history_after}
use Rattle.pst_front.specs.Pages.{routines_in}
use Rattle.pst_cli_scripts.specs.Reading.{GivesPast, IsNear}
use Rattle.pst_cli_serving.specs.Held.{run_in}
use Rattle.pst_cli_questions.specs.Telling.{Tells}

-- ---- what is held and written, by the verdict on the program

-- these lines were carried out, and so much is written of the answer about the history after them
abbrev pub Answered : Kept → List (List ℕ) → (Program → Meaning → History → List ℕ → Type 0) → Verdict → List ℕ → Type 0
Answered k lines Told (Accepted syntax named) out =
    let m = direct (routines_in named) in
    k.leaves m lines × ((program : Program) × (program_of program ≡ named) × Told program m (history_after by_tree m lines) out)
Answered k lines Told (IsRefusedBy fault) out = ⊥

-- all of the answer
abbrev pub IsAnswer : Question → (path : List ℕ) → Program → Meaning → History → List ℕ → Type 0
IsAnswer question path program m h out = Tells program m h question path out

-- a proper part of it
abbrev pub IsPartOfAnswer : Question → (path : List ℕ) → Program → Meaning → History → List ℕ → Type 0
IsPartOfAnswer question path program m h out = (piece : List ℕ) × Tells program m h question path piece × IsPartOf piece out

-- these lines were carried out, and all of the answer is written, or a part of it
abbrev pub AnsweredWhole : Kept → Question → (path : List ℕ) → List (List ℕ) → Verdict → List ℕ → Type 0
AnsweredWhole k question path lines verdict out = Answered k lines (IsAnswer question path) verdict out

abbrev pub AnsweredInPart : Kept → Question → (path : List ℕ) → List (List ℕ) → Verdict → List ℕ → Type 0
AnsweredInPart k question path lines verdict out = Answered k lines (IsPartOfAnswer question path) verdict out

-- a proper part of the line of the fault is written
abbrev pub StopsInFault : Kept → Verdict → List ℕ → Type 0
StopsInFault k (Accepted syntax named) out = ⊥
StopsInFault k (IsRefusedBy fault) out = k.untouched × IsPartOf (fault_text fault) out

-- there was no room in the last of these lines
abbrev pub BreaksAt : Kept → List (List ℕ) → Verdict → Type 0
BreaksAt k lines (Accepted syntax named) = k.breaks (direct (routines_in named)) lines
BreaksAt k lines (IsRefusedBy fault) = ⊥

-- ---- the table

-- reading was cut off before the program was read, or in the script, of which all whole lines that were read are carried out
abbrev pub CarriedTo : Kept → Option CutInput → Type 0
CarriedTo k None = k.untouched
CarriedTo k (Some c) = OfVerdict c.text (Accepting k c.script)

-- a read that was due did not come
abbrev pub StopsInScript : Kept → List ℕ → Option (List ℕ) → Type 0
StopsInScript k input left = (n : ℕ) × HasRead n input left × CarriedTo k (cut (whole_lines (take n input)))

-- there was no room: to read on; for the program; in a line of the script, and nothing was read behind it; or for the answer
abbrev pub LacksAnswer : Kept → List ℕ → Option (List ℕ) → Type 0
LacksAnswer k input left =
    StopsInScript k input left ⊎ (LacksProgram k input left []
    ⊎ ((IsReadable input × ((given : List (List ℕ)) × ReadsUpTo given input left × OfVerdict (cut_of input).text (BreaksAt k given)))
    ⊎ (IsWithin Run input × ReadsAll Run input left × OfVerdict (cut_of input).text (Accepting k (cut_of input).script))))

-- the line of the fault, or the answer after all lines, is not written whole
abbrev pub StopsInAnswer : Kept → (part : List (List ℕ) → Verdict → List ℕ → Type 0) → List ℕ → Option (List ℕ) → List ℕ → Type 0
StopsInAnswer k part input left out =
    (IsReadable input × ReadsUpTo [] input left × OfVerdict (cut_of input).text (λ verdict. StopsInFault k verdict out))
    ⊎ (IsWithin Run input × ReadsAll Run input left × OfVerdict (cut_of input).text (λ verdict. part (cut_of input).script verdict out))

-- The row of a status, for what is held, what is written of an answer, the whole or a part of it, by the lines of a script and the
-- verdict on its program, an input, what the source has left of it, and what was written.
abbrev pub OverRow : Status → Kept → (whole part : List (List ℕ) → Verdict → List ℕ → Type 0) → List ℕ → Option (List ℕ) → List ℕ → Type 0
OverRow Done k whole part input left out =
    IsWithin Run input × ReadsAll Run input left × OfVerdict (cut_of input).text (λ verdict. whole (cut_of input).script verdict out)
OverRow Refused k whole part input left out = IsReadable input × ReadsUpTo [] input left × Writes (Refusing k) IsAll Run (cut_of input) out
OverRow WriteFault k whole part input left out = StopsInAnswer k part input left out
OverRow ReadFault k whole part input left out = (out ≡ []) × StopsInScript k input left
OverRow TooLong k whole part input left out =
    (out ≡ []) × (MOST_INPUT < length input) × (left ≡ Some (drop (MOST_INPUT + 1) input)) × CarriedTo k (cut (whole_lines (take MOST_INPUT input)))
OverRow Memory k whole part input left out = (out ≡ []) × LacksAnswer k input left
OverRow Usage k whole part input left out = ⊥

-- that of a question with its path
abbrev pub AskRow : Status → Kept → Question → (path : List ℕ) → List ℕ → Option (List ℕ) → List ℕ → Type 0
AskRow status k question path input left out =
    OverRow status k (AnsweredWhole k question path) (AnsweredInPart k question path) input left out

-- ---- what the functions below the top call come to

-- where carrying lines out stopped, which were handed out, and what is held
abbrev pub StopsCarrying : {A : Type 0} → Answering A → A → (leaves breaks : A → Type 0) → Stop → InputState → Option (List ℕ) → InputState → Option (List ℕ) → List (List ℕ) → Type 0
StopsCarrying m h leaves breaks stop.Read a left b left' lines = Gives a left b left' lines × IsCutOff b × leaves (state_after m h lines)
StopsCarrying m h leaves breaks stop.TooLong a left b left' lines = GivesPast a left b left' lines × IsCutOff b × leaves (state_after m h lines)
StopsCarrying m h leaves breaks stop.Write a left b left' lines = ⊥
StopsCarrying m h leaves breaks stop.Memory a left b left' lines =
    Gives a left b left' lines × ((IsCutOff b × leaves (state_after m h lines)) ⊎ (IsNear b × BreaksIn m h breaks lines))

-- these lines were handed out to the end of the input
abbrev pub GivesAll : InputState → Option (List ℕ) → InputState → Option (List ℕ) → List (List ℕ) → Type 0
GivesAll a left b left' lines = Gives a left b left' lines × IsOver b × IsAtEnd left'

-- what comes of carrying the lines out that are left: all of them, and what is held stands for the state after them
abbrev pub Carries : {A T : Type 0} → Answering A → A → (stands leaves breaks : A → Type 0) → Result T Stop → InputState → Option (List ℕ) → InputState → Option (List ℕ) → Type 0
Carries m h stands leaves breaks (Ok done) a left b left' = (lines : List (List ℕ)) × GivesAll a left b left' lines × stands (state_after m h lines)
Carries m h stands leaves breaks (Err s) a left b left' = (lines : List (List ℕ)) × StopsCarrying m h leaves breaks s a left b left' lines

-- so it is on each history that a session with these rules and what it holds stand for, as they were and are, and for a reader of lines
-- and its source, as they were and are
abbrev pub CarriesRest : {A T U S : Type 0} → Rules → (stands : A → T → Meaning → History → Type 0) → (leaves breaks : Meaning → T → History → Type 0) → (session : A) → (held : T)
    → (session' : A) → (held' : T) → Result U Stop → (left : S → Option (List ℕ)) → LinesState → S → LinesState → S → Type 0
CarriesRest rules stands leaves breaks session held session' held' result left lines source lines' source' =
    OnEachHistory stands session held (λ m h.
    Carries (script_of rules m) h (stands session' held' m) (leaves m held') (breaks m held') result lines.input (left source) lines'.input (left source'))

-- Carrying out the lines of a script stopped, or there was no room for the program or for the answer behind the last line: what
-- is held is untouched, or is left so after these lines, or broken so in the last of them.
abbrev pub StopsAsking : (untouched : Type 0) → (leaves breaks : List (List ℕ) → Type 0) → Stop → InputState → Option (List ℕ) → InputState → Option (List ℕ) → Type 0
StopsAsking untouched leaves breaks stop.Read a left b left' = (lines : List (List ℕ)) × Gives a left b left' lines × IsCutOff b × leaves lines
StopsAsking untouched leaves breaks stop.TooLong a left b left' = (lines : List (List ℕ)) × GivesPast a left b left' lines × IsCutOff b × leaves lines
StopsAsking untouched leaves breaks stop.Write a left b left' = ⊥
StopsAsking untouched leaves breaks stop.Memory a left b left' =
    (untouched × ReadsNothing a left b left')
    ⊎ (((lines : List (List ℕ)) × Gives a left b left' lines × IsCutOff b × leaves lines)
    ⊎ (((lines : List (List ℕ)) × Gives a left b left' lines × IsNear b × breaks lines)
    ⊎ ((lines : List (List ℕ)) × GivesAll a left b left' lines × leaves lines)))

-- what comes of a question about the script of a program: an answer behind the last line
abbrev pub Finds : Kept → Program → Meaning → Question → (path : List ℕ) → Result (List ℕ) Stop → InputState → Option (List ℕ) → InputState → Option (List ℕ) → Type 0
Finds k program m question path (Ok text) a left b left' =
    (lines : List (List ℕ)) × GivesAll a left b left' lines × k.leaves m lines × Tells program m (history_after by_tree m lines) question path text
Finds k program m question path (Err s) a left b left' = StopsAsking k.untouched (k.leaves m) (k.breaks m) s a left b left'

-- so it is for the store, as it was and is, and for a reader of lines and its source
abbrev pub FindsInScript : {S : Type 0} → (old new : Option Stored) → Program → Question → (path : List ℕ) → Result (List ℕ) Stop
    → (left : S → Option (List ℕ)) → LinesState → S → LinesState → S → Type 0
FindsInScript old new program question path result left lines source lines' source' =
    Finds (run_in old new) program (meaning_of program) question path result lines.input (left source) lines'.input (left source')

-- a text is that of a program whose script stopped so, or it lacked room for its program or the line of its fault
abbrev pub StopsText : Kept → List ℕ → Stop → InputState → Option (List ℕ) → InputState → Option (List ℕ) → Type 0
StopsText k text s a left b left' =
    StopsAsking k.untouched (λ lines. OfVerdict text (Accepting k lines)) (λ lines. OfVerdict text (BreaksAt k lines)) s a left b left'

-- what comes of the text of a program whose script is then carried out, and of an answer behind the last line
abbrev pub Over : Status → Kept → (whole part : List (List ℕ) → Verdict → List ℕ → Type 0) → InputState → Option (List ℕ) → InputState → Option (List ℕ) → List ℕ → List ℕ → Type 0
Over Done k whole part a left b left' text out = (lines : List (List ℕ)) × GivesAll a left b left' lines × OfVerdict text (λ verdict. whole lines verdict out)
Over Refused k whole part a left b left' text out = ReadsNothing a left b left' × Outputs (Refusing k) IsAll text (replied by_tree []) out
Over WriteFault k whole part a left b left' text out =
    (ReadsNothing a left b left' × OfVerdict text (λ verdict. StopsInFault k verdict out))
    ⊎ ((lines : List (List ℕ)) × GivesAll a left b left' lines × OfVerdict text (λ verdict. part lines verdict out))
Over ReadFault k whole part a left b left' text out = (out ≡ []) × StopsText k text stop.Read a left b left'
Over TooLong k whole part a left b left' text out = (out ≡ []) × StopsText k text stop.TooLong a left b left'
Over Memory k whole part a left b left' text out = (out ≡ []) × StopsText k text stop.Memory a left b left'
Over Usage k whole part a left b left' text out = ⊥

-- and of a question about it
abbrev pub Asks : Status → Kept → Question → (path : List ℕ) → InputState → Option (List ℕ) → InputState → Option (List ℕ) → List ℕ → List ℕ → Type 0
Asks status k question path a left b left' text out =
    Over status k (AnsweredWhole k question path) (AnsweredInPart k question path) a left b left' text out

-- so it is for the store, as it was and is, and for a reader of lines and its source
abbrev pub AsksScript : {S : Type 0} → Status → (old new : Option Stored) → Question → (path : List ℕ) → (left : S → Option (List ℕ)) → LinesState → S → LinesState → S → (text out : List ℕ) → Type 0
AsksScript status old new question path left lines source lines' source' text out =
    Asks status (run_in old new) question path lines.input (left source) lines'.input (left source') text out

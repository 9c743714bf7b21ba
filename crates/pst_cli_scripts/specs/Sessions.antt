-- What a session stands for, and what comes of answering lines by it.
use Rattle.std.specs.Prelude.{◌≡◌, ℕ, ◌⊎◌, Bool, true, false, List, [], ◌++◌, Option, Some, None, Result, Ok, Err, MatchResult}
use Rattle.std.specs.List.{concat}
use Rattle.std.specs.Option.{option_to_list}
use Rattle.std.specs.Io.KnownBytes.{Appends, IsAtEnd}
use Rattle.pst_io.specs.Input.{InputState, Gives, IsOver, IsCutOff}
use Rattle.pst_io.specs.Lines.{LinesState}
use Rattle.pst_history.specs.Meaning.{Meaning}
use Rattle.pst_history.specs.History.{History}
use Rattle.pst_cli_scripts.specs.declared.stop.Stop.{Stop}
use Rattle.pst_cli_scripts.specs.declared.stop.Stop.TheVariants as stop
use Rattle.pst_cli_scripts.specs.Pieces.{Answering, pieces_from, state_after, IsAll, IsPartOf, StopsInReply, StopsBeforeReply, BreaksIn}
use Rattle.pst_cli_scripts.specs.Reading.{GivesPast, IsNear}
use Rattle.pst_cli_scripts.specs.Script.{Rules, script_of}

-- The sink has taken bytes of which this holds, and, where it tells what it takes, no others.
abbrev pub HasTaken : {K : Type 0} → (taken : K → Option (List ℕ)) → (old new : K) → (List ℕ → Type 0) → Type 0
HasTaken taken old new Holds = (out : List ℕ) × Appends (taken old) (taken new) out × Holds out

-- what answers and what it holds stand for some history of a program
abbrev pub StandForSome : {S T : Type 0} → (S → T → Meaning → History → Type 0) → S → T → Type 0
StandForSome stands session held = (m : Meaning) × (h : History) × stands session held m h

-- this holds for each meaning of a program and each history of it that they stand for
abbrev pub OnEachHistory : {S T : Type 0} → (S → T → Meaning → History → Type 0) → S → T → (Meaning → History → Type 0) → Type 0
OnEachHistory stands session held Holds = (m : Meaning) (h : History) → stands session held m h → Holds m h

-- after want of memory between a history and the next one, what is held is that of the one or of the other
abbrev pub BreaksBetween : {T : Type 0} → (breaks : Meaning → T → History → Type 0) → (held : T) → (next : Meaning → History → History) → Meaning → History → Type 0
BreaksBetween breaks held next m h = breaks m held h ⊎ breaks m held (next m h)

-- what was written of the reply to a line where it stopped
abbrev pub StopsAtReply : Stop → Option (List ℕ) → List ℕ → Type 0
StopsAtReply stop.Write reply out = (piece : List ℕ) × (reply ≡ Some piece) × IsPartOf piece out
StopsAtReply stop.Memory reply out = out ≡ []
StopsAtReply stop.Read reply out = ⊥
StopsAtReply stop.TooLong reply out = ⊥

-- the piece that was made, if one was
abbrev pub made_piece : Bool → List ℕ → Option (List ℕ)
made_piece false text = None
made_piece true text = Some text

-- what was written of the reply to a line, if it has one: all of it, or so much where it stopped
abbrev pub IsSaid : {T : Type 0} → Result T Stop → (reply : Option (List ℕ)) → (out : List ℕ) → Type 0
IsSaid result reply out = MatchResult result (λ _. out ≡ concat (option_to_list reply)) (λ s. StopsAtReply s reply out)

-- What is held where it stopped at a line: as after the line, where the reply was not written; as before or as after it, where
-- there was no room.
abbrev pub HeldAtReply : {A : Type 0} → Answering A → (leaves breaks : A → Type 0) → Stop → A → List ℕ → Type 0
HeldAtReply m leaves breaks stop.Write a line = leaves (m.next a line)
HeldAtReply m leaves breaks stop.Memory a line = breaks a ⊎ breaks (m.next a line)
HeldAtReply m leaves breaks stop.Read a line = ⊥
HeldAtReply m leaves breaks stop.TooLong a line = ⊥

-- so it is on a history of a program for a session with these rules
abbrev pub HeldAtLine : {T : Type 0} → Rules → (leaves breaks : Meaning → T → History → Type 0) → (held : T) → Stop → List ℕ → Meaning → History → Type 0
HeldAtLine rules leaves breaks held s line m h = HeldAtReply (script_of rules m) (leaves m held) (breaks m held) s h line

-- Where answering the lines of a script stopped, which were handed out, what was written, and what is held: all replies where
-- it stopped at a read, and elsewhere none or a part of the reply to the last line, with less than one read held beyond that line.
abbrev pub StopsAnswering : {A : Type 0} → Answering A → A → (leaves breaks : A → Type 0) → Stop → InputState → Option (List ℕ) → InputState → Option (List ℕ)
    → List (List ℕ) → List ℕ → Type 0
StopsAnswering m h leaves breaks stop.Read a left b left' lines out =
    Gives a left b left' lines × IsCutOff b × IsAll (pieces_from m h lines) out × leaves (state_after m h lines)
StopsAnswering m h leaves breaks stop.TooLong a left b left' lines out =
    GivesPast a left b left' lines × IsCutOff b × IsAll (pieces_from m h lines) out × leaves (state_after m h lines)
StopsAnswering m h leaves breaks stop.Write a left b left' lines out =
    Gives a left b left' lines × IsNear b × StopsInReply m h lines out × leaves (state_after m h lines)
StopsAnswering m h leaves breaks stop.Memory a left b left' lines out =
    Gives a left b left' lines
    × ((IsCutOff b × IsAll (pieces_from m h lines) out × leaves (state_after m h lines)) ⊎ (IsNear b × StopsBeforeReply m h lines out × BreaksIn m h breaks lines))

-- what comes of answering the lines that are left
abbrev pub Answers : {A T : Type 0} → Answering A → A → (leaves breaks : A → Type 0) → Result T Stop → InputState → Option (List ℕ) → InputState → Option (List ℕ)
    → List ℕ → Type 0
Answers m h leaves breaks (Ok done) a left b left' out =
    (lines : List (List ℕ)) × Gives a left b left' lines × IsOver b × IsAtEnd left' × IsAll (pieces_from m h lines) out × leaves (state_after m h lines)
Answers m h leaves breaks (Err s) a left b left' out = (lines : List (List ℕ)) × StopsAnswering m h leaves breaks s a left b left' lines out

-- so it is on each history that a session with these rules stands for, as it was, and for what it holds, as it was and is; for a reader
-- of lines and its source, as they were and are; and for a sink, as it was and is
abbrev pub AnswersRest : {A T U S K : Type 0} → Rules → (stands : A → T → Meaning → History → Type 0) → (leaves breaks : Meaning → T → History → Type 0) → (session : A) → (held held' : T)
    → Result U Stop → (left : S → Option (List ℕ)) → LinesState → S → LinesState → S → (taken : K → Option (List ℕ)) → (old new : K) → Type 0
AnswersRest rules stands leaves breaks session held held' result left lines source lines' source' taken old new =
    OnEachHistory stands session held (λ m h.
    HasTaken taken old new (Answers (script_of rules m) h (leaves m held') (breaks m held') result lines.input (left source) lines'.input (left source')))

-- ---- the lines of a text, of which nothing is read

-- Where answering the lines of a text stopped: in the reply to the last of these first ones, or before it, where there was no room.
abbrev pub StopsInText : {A : Type 0} → Answering A → A → (leaves breaks : A → Type 0) → Stop → List (List ℕ) → List ℕ → Type 0
StopsInText m h leaves breaks stop.Write lines out =
    (given : List (List ℕ)) × (behind : List (List ℕ)) × (lines ≡ given ++ behind) × StopsInReply m h given out × leaves (state_after m h given)
StopsInText m h leaves breaks stop.Memory lines out =
    (given : List (List ℕ)) × (behind : List (List ℕ)) × (lines ≡ given ++ behind) × StopsBeforeReply m h given out × BreaksIn m h breaks given
StopsInText m h leaves breaks stop.Read lines out = ⊥
StopsInText m h leaves breaks stop.TooLong lines out = ⊥

-- what comes of answering the lines of a text
abbrev pub AnswersText : {A T : Type 0} → Answering A → A → (leaves breaks : A → Type 0) → Result T Stop → List (List ℕ) → List ℕ → Type 0
AnswersText m h leaves breaks (Ok done) lines out = IsAll (pieces_from m h lines) out × leaves (state_after m h lines)
AnswersText m h leaves breaks (Err s) lines out = StopsInText m h leaves breaks s lines out

-- so it is on a history of a program for a session with these rules and for what it holds then, and for a sink, as it was and is
abbrev pub AnswersLines : {T U K : Type 0} → Rules → (leaves breaks : Meaning → T → History → Type 0) → (held : T) → Result U Stop → List (List ℕ)
    → (taken : K → Option (List ℕ)) → (old new : K) → Meaning → History → Type 0
AnswersLines rules leaves breaks held result lines taken old new m h =
    HasTaken taken old new (AnswersText (script_of rules m) h (leaves m held) (breaks m held) result lines)

-- How a line behind an image is answered: a question about the versions, which changes nothing, or else a command as for `run`.
use Rattle.std.specs.Prelude.{◌≡◌, ℕ, ◌<◌, List, [], ◌∷◌, ◌++◌, codes, Option, Some, None, Result, Ok, Err, MatchResult, ◌⊎◌}
use Rattle.std.specs.List.{concat, flat_map}
use Rattle.std.specs.Option.{option_to_list}
use Rattle.std.specs.Io.KnownBytes.{IsAtEnd}
use Rattle.pst_base.specs.declared.names.VersionNo.{VersionNo}
use Rattle.pst_io.specs.Input.{InputState, Gives, IsOver, IsCutOff}
use Rattle.pst_io.specs.Lines.{LinesState}
use Rattle.pst_program.specs.declared.program.Program.{Program}
use Rattle.pst_history.specs.Meaning.{Meaning}
use Rattle.pst_history.specs.History.{History, heap_of}
use Rattle.pst_questions.specs.Dump.{IsDump}
use Rattle.pst_cli_words.specs.declared.job.Question.{Question}
use Rattle.pst_cli_words.specs.declared.job.Question.TheVariants.{Dump, Changed}
use Rattle.pst_cli_words.specs.Asked.{Asked, question_in}
use Rattle.pst_cli_questions.specs.Telling.{Tells, TellsOf}
use Rattle.pst_cli_scripts.specs.declared.stop.Stop.{Stop}
use Rattle.pst_cli_scripts.specs.declared.stop.Stop.TheVariants as stop
use Rattle.pst_cli_scripts.specs.Pieces.{Answering, state_after, IsPartOf, BreaksIn}
use Rattle.pst_cli_scripts.specs.Reading.{GivesPast, IsNear}
use Rattle.pst_cli_scripts.specs.Script.{by_tree, script_of, line_reply}
use Rattle.pst_cli_scripts.specs.Sessions.{OnEachHistory, HasTaken, HeldAtReply}

-- ---- a line

-- a dump, and behind it the line `ok`
abbrev pub IsEndedDump : Program → Meaning → History → VersionNo → List ℕ → Type 0
IsEndedDump program m h version out = (dump : List ℕ) × IsDump program.names (heap_of m h version.0) dump × (out ≡ dump ++ codes "ok\n")

-- the answer to a question: that of the word of its name; the dump of a version that is there is ended by the line `ok`
abbrev pub AnswersQuestion : Program → Meaning → History → Question → (path : List ℕ) → List ℕ → Type 0
AnswersQuestion program m h (Dump version) path out = TellsOf h version (IsEndedDump program m h version) out
AnswersQuestion program m h (Changed version) path out = Tells program m h (Changed version) path out

-- the reply to a line that asks this, or else to a command
abbrev pub SaysTo : Program → Meaning → History → (line : List ℕ) → Option Asked → Option (List ℕ) → Type 0
SaysTo program m h line None reply = reply ≡ line_reply by_tree line m h
SaysTo program m h line (Some asked) reply = (text : List ℕ) × (reply ≡ Some text) × AnswersQuestion program m h asked.question asked.path text

-- The reply to a line, if it has one. A question is no command, so the history after the line is that of `run`, to which the line is none.
abbrev pub Says : Program → Meaning → History → (line : List ℕ) → Option (List ℕ) → Type 0
Says program m h line reply = SaysTo program m h line (question_in line) reply

-- ---- lines, by a relation between states, lines and replies

-- a relation between a state, a line and a reply to it, if it has one
abbrev pub Saying : Type 0 → Type 1
Saying A = A → List ℕ → Option (List ℕ) → Type 0

-- these are the replies to the lines in order, each in the state so far
abbrev pub AreReplies : {A : Type 0} → (Says : Saying A) → Answering A → A → List (List ℕ) → List (Option (List ℕ)) → Type 0
AreReplies Says m a [] [] = Unit {0}
AreReplies Says m a [] (reply ∷ replies) = ⊥
AreReplies Says m a (line ∷ lines) [] = ⊥
AreReplies Says m a (line ∷ lines) (reply ∷ replies) = Says a line reply × AreReplies Says m (m.next a line) lines replies

-- the bytes of replies, one behind the other
abbrev pub bytes_said : List (Option (List ℕ)) → List ℕ
bytes_said replies = concat (flat_map option_to_list replies)

-- all lines are answered
abbrev pub IsAnswered : {A : Type 0} → (Says : Saying A) → Answering A → A → List (List ℕ) → List ℕ → Type 0
IsAnswered Says m a lines out = (replies : List (Option (List ℕ))) × AreReplies Says m a lines replies × (out ≡ bytes_said replies)

-- All lines but the last are answered, and a proper part of a reply to the last is written.
pub record StopsInTold {A : Type 0} (Says : Saying A) (m : Answering A) (a : A) (lines : List (List ℕ)) (out : List ℕ) : Type 0 where
  pub before : List (List ℕ)
  pub last : List ℕ
  pub done : List ℕ
  pub piece : List ℕ
  pub part : List ℕ
  pub split : lines ≡ before ++ last ∷ []
  pub answered : IsAnswered Says m a before done
  pub reply : Says (state_after m a before) last (Some piece)
  pub proper : IsPartOf piece part
  pub bytes : out ≡ done ++ part

-- All lines but the last are answered, and nothing of the reply to the last is written.
pub record StopsBeforeTold {A : Type 0} (Says : Saying A) (m : Answering A) (a : A) (lines : List (List ℕ)) (out : List ℕ) : Type 0 where
  pub before : List (List ℕ)
  pub last : List ℕ
  pub split : lines ≡ before ++ last ∷ []
  pub answered : IsAnswered Says m a before out

-- ---- what the functions come to

-- what was written of the reply to a line where it stopped
abbrev pub StopsAtTold : Stop → (Option (List ℕ) → Type 0) → List ℕ → Type 0
StopsAtTold stop.Write Reply out = (piece : List ℕ) × Reply (Some piece) × IsPartOf piece out
StopsAtTold stop.Memory Reply out = out ≡ []
StopsAtTold stop.Read Reply out = ⊥
StopsAtTold stop.TooLong Reply out = ⊥

-- what was written of a reply: all of it, if there is one, or so much where it stopped
abbrev pub IsWrittenOf : {T : Type 0} → Result T Stop → (Option (List ℕ) → Type 0) → (out : List ℕ) → Type 0
IsWrittenOf result Reply out =
    MatchResult result (λ _. (reply : Option (List ℕ)) × Reply reply × (out ≡ concat (option_to_list reply))) (λ s. StopsAtTold s Reply out)

-- Where answering lines stopped, which were handed out, what was written, and what is held: as for `run`.
abbrev pub StopsServing : {A : Type 0} → (Says : Saying A) → Answering A → A → (leaves breaks : A → Type 0) → Stop → InputState → Option (List ℕ) → InputState → Option (List ℕ)
    → List (List ℕ) → List ℕ → Type 0
StopsServing Says m h leaves breaks stop.Read a left b left' lines out =
    Gives a left b left' lines × IsCutOff b × IsAnswered Says m h lines out × leaves (state_after m h lines)
StopsServing Says m h leaves breaks stop.TooLong a left b left' lines out =
    GivesPast a left b left' lines × IsCutOff b × IsAnswered Says m h lines out × leaves (state_after m h lines)
StopsServing Says m h leaves breaks stop.Write a left b left' lines out =
    Gives a left b left' lines × IsNear b × StopsInTold Says m h lines out × leaves (state_after m h lines)
StopsServing Says m h leaves breaks stop.Memory a left b left' lines out =
    Gives a left b left' lines
    × ((IsCutOff b × IsAnswered Says m h lines out × leaves (state_after m h lines)) ⊎ (IsNear b × StopsBeforeTold Says m h lines out × BreaksIn m h breaks lines))

-- what comes of answering the lines that are left
abbrev pub ServesLines : {A T : Type 0} → (Says : Saying A) → Answering A → A → (leaves breaks : A → Type 0) → Result T Stop → InputState → Option (List ℕ) → InputState → Option (List ℕ)
    → List ℕ → Type 0
ServesLines Says m h leaves breaks (Ok done) a left b left' out =
    (lines : List (List ℕ)) × Gives a left b left' lines × IsOver b × IsAtEnd left' × IsAnswered Says m h lines out × leaves (state_after m h lines)
ServesLines Says m h leaves breaks (Err s) a left b left' out = (lines : List (List ℕ)) × StopsServing Says m h leaves breaks s a left b left' lines out

-- so it is on each history that a session of this program stands for, as it was, and for what it holds then; for a reader of lines and
-- its source, as they were and are; and for a sink, as it was and is
abbrev pub ServesRest : {A T U S K : Type 0} → Program → (stands : A → T → Meaning → History → Type 0) → (leaves breaks : Meaning → T → History → Type 0) → (session : A) → (held held' : T)
    → Result U Stop → (left : S → Option (List ℕ)) → LinesState → S → LinesState → S → (taken : K → Option (List ℕ)) → (old new : K) → Type 0
ServesRest program stands leaves breaks session held held' result left lines source lines' source' taken old new =
    OnEachHistory stands session held (λ m h.
    HasTaken taken old new (ServesLines (Says program m) (script_of by_tree m) h (leaves m held') (breaks m held') result lines.input (left source) lines'.input (left source')))

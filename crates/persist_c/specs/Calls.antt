-- What comes of a call, for the session that the handle held before it.
use Rattle.std.specs.Prelude.{◌≡◌, ◌≤◌, ◌++◌, ◌⊎◌, ℕ, List, Option, Some, None, length, drop, take}
use Rattle.std.specs.Option.{option_map}
use Rattle.pst_script.specs.declared.command.Command.{Command}
use Rattle.pst_script.specs.Commands.{reading}
use Rattle.pst_history.specs.History.{reply, after}
use Rattle.pst_cli_words.specs.declared.job.Question.{Question}
use Rattle.pst_cli_scripts.specs.Script.{by_tree, answer_of, line_reply, after_line}
use Rattle.pst_cli_questions.specs.Telling.{Tells}
use Rattle.persist_live.specs.declared.live.Live.{Live}
use Rattle.persist_live.specs.Standing.{OnEach, StandsFor, printed_in, said_in}
use Rattle.persist_live.specs.Imaged.{IsImageOf}
use Rattle.persist_c.specs.declared.summary.Summary.{Summary}
use Rattle.persist_c.specs.Summaries.{summary_of}

-- it is a session of the same program
abbrev pub IsSameProgram : (old new : Live) → Type 0
IsSameProgram l n = (n.session.code ≡ l.session.code) × (n.text ≡ l.text)

-- a number, or 0
abbrev pub option_or_zero : Option ℕ → ℕ
option_or_zero None = 0
option_or_zero (Some n) = n

-- how long the text of the reply that is kept is
abbrev pub text_size : Live → ℕ
text_size l = option_or_zero (option_map length (said_in l))

-- the summary tells the reply that is kept, and a length
abbrev pub IsSummaryOf : Summary → Live → (size : ℕ) → Type 0
IsSummaryOf s n size = s ≡ summary_of n.reply (printed_in n.reply) size

-- For each history that the session stood for, the reply that is kept, with its text, is the line's, and it stands for the history after it.
abbrev pub AnswersLine : (line : List ℕ) → (old : Live) → Summary → (new : Live) → Type 0
AnswersLine line l s n =
    IsSameProgram l n × IsSummaryOf s n (text_size n)
    × OnEach l (λ m h. (n.reply ≡ answer_of by_tree m h (reading line)) × (said_in n ≡ line_reply by_tree line m h) × StandsFor n m (after_line by_tree line m h))

-- so it is of a command, whose text is not made
abbrev pub AnswersCall : Command → (old : Live) → Summary → (new : Live) → Type 0
AnswersCall c l s n = IsSameProgram l n × IsSummaryOf s n 0 × OnEach l (λ m h. (n.reply ≡ Some (reply m h c)) × StandsFor n m (after m h c))

-- the session is as before, but for the bytes that were made last
abbrev pub Stays : (old new : Live) → Type 0
Stays l n = (n.session ≡ l.session) × (n.store ≡ l.store) × (n.text ≡ l.text) × (n.reply ≡ l.reply)

-- for each history that it stands for, these bytes are the answer to the question, and so many
abbrev pub Asks : Question → (path : List ℕ) → (old : Live) → (size : ℕ) → (new : Live) → Type 0
Asks question path l size n = Stays l n × (size ≡ length n.said.items) × OnEach l (λ m h. Tells l.session.code m h question path n.said.items)

-- and so of the image
abbrev pub Images : (old : Live) → (size : ℕ) → (new : Live) → Type 0
Images l size n = Stays l n × (size ≡ length n.said.items) × OnEach l (IsImageOf l (Some n.said.items))

-- so many of the bytes or numbers from a place on stand in front of what was there: as many as there is room for
abbrev pub IsCopied : {A : Type 0} → (all : List A) → (from many : ℕ) → (old new : List A) → Type 0
IsCopied all from many old new =
    (new ≡ take many (drop from all) ++ drop many old) × (many ≤ length old) × (many ≤ length (drop from all)) × ((many ≡ length old) ⊎ (many ≡ length (drop from all)))

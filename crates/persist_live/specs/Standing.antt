-- What a session in memory stands for, and what it keeps of its last reply.
use Rattle.std.specs.Prelude.{◌≡◌, ℤ, ℕ, List, [], Option, Some, None, IfSome}
use Rattle.std.specs.Option.{option_map}
use Rattle.pst_script.specs.declared.reply.Reply.{Reply}
use Rattle.pst_script.specs.declared.reply.Reply.TheVariants.{Version, Answer, Trapped, Opened, Running, Finished, Dropped, BudgetSet, VersionList, StatsAre, LineStatsAre, Refused}
use Rattle.pst_history.specs.Meaning.{Meaning}
use Rattle.pst_history.specs.History.{History}
use Rattle.pst_cli_serving.specs.Storing.{IsRunning}
use Rattle.persist_live.specs.declared.live.Live.{Live}

-- the program has this meaning, and the session and its store stand for this history of it
abbrev pub StandsFor : Live → Meaning → History → Type 0
StandsFor l m h = IsRunning l.session.code l.session.engine l.store m h

-- they stand for some history
abbrev pub StandsForSome : Live → Type 0
StandsForSome l = (m : Meaning) × (h : History) × StandsFor l m h

-- this holds for each history that they stand for
abbrev pub OnEach : Live → (Meaning → History → Type 0) → Type 0
OnEach l Holds = (m : Meaning) (h : History) → StandsFor l m h → Holds m h

-- the text of the reply that is kept, if there is one
abbrev pub said_in : Live → Option (List ℕ)
said_in l = option_map (λ _. l.said.items) l.reply

-- the numbers that a reply printed
abbrev pub printed_in : Option Reply → List ℤ
printed_in None = []
printed_in (Some (Version printed version)) = printed
printed_in (Some (Answer printed)) = printed
printed_in (Some (Trapped printed trap)) = printed
printed_in (Some (Opened run)) = []
printed_in (Some (Running run)) = []
printed_in (Some (Finished run)) = []
printed_in (Some (Dropped run)) = []
printed_in (Some (BudgetSet charges)) = []
printed_in (Some (VersionList parents)) = []
printed_in (Some (StatsAre counts)) = []
printed_in (Some (LineStatsAre counts)) = []
printed_in (Some (Refused refusal)) = []

-- What the lines of a script are answered.
use Rattle.std.specs.Prelude.{ℕ, List, Option, Some, None, Result, Ok, Err}
use Rattle.std.specs.Option.{option_map}
use Rattle.pst_script.specs.declared.command.Command.{Command}
use Rattle.pst_script.specs.declared.command.LineFault.{LineFault}
use Rattle.pst_script.specs.declared.command.LineFault.TheVariants.{Line, Number, Memory}
use Rattle.pst_script.specs.declared.reply.Reply.{Reply}
use Rattle.pst_script.specs.declared.reply.Reply.TheVariants.{Refused}
use Rattle.pst_script.specs.declared.reply.Refusal.TheVariants as because
use Rattle.pst_script.specs.Commands.{reading}
use Rattle.pst_script.specs.Texts.{text_of}
use Rattle.pst_history.specs.Meaning.{Meaning}
use Rattle.pst_history.specs.History.{Opening, History, opening, reply, after}
use Rattle.pst_cli_scripts.specs.Pieces.{Answering}

-- How a script is answered: the opening with which it begins, the reply to a command on a history, and the history after it.
pub record Rules : Type 0 where
  pub first : Meaning → Opening
  pub reply : Meaning → History → Command → Reply
  pub after : Meaning → History → Command → History

-- any version may be written: the versions form a tree, which begins with this opening
abbrev pub by_tree_from : (Meaning → Opening) → Rules
by_tree_from first = record { first = first; reply = reply; after = after }

-- and which begins with version 0 alone
abbrev pub by_tree : Rules
by_tree = by_tree_from (λ m. opening m.shape)

-- the reply, if there is one
abbrev pub answer_of : Rules → Meaning → History → Result (Option Command) LineFault → Option Reply
answer_of rules m h (Ok None) = None
answer_of rules m h (Ok (Some c)) = Some (rules.reply m h c)
answer_of rules m h (Err Line) = Some (Refused because.Line)
answer_of rules m h (Err Number) = Some (Refused because.Number)
answer_of rules m h (Err Memory) = None

-- its text
abbrev pub reply_of : Rules → Meaning → History → Result (Option Command) LineFault → Option (List ℕ)
reply_of rules m h line = option_map text_of (answer_of rules m h line)

-- only a command makes another history
abbrev pub next_of : Rules → Meaning → History → Result (Option Command) LineFault → History
next_of rules m h (Ok None) = h
next_of rules m h (Ok (Some c)) = rules.after m h c
next_of rules m h (Err fault) = h

-- the lines of a script, each answered on the history so far
abbrev pub script_of : Rules → Meaning → Answering History
script_of rules m = record { reply = λ h line. reply_of rules m h (reading line); next = λ h line. next_of rules m h (reading line) }

-- the reply to a line, if it has one, and the history after it
abbrev pub line_reply : Rules → List ℕ → Meaning → History → Option (List ℕ)
line_reply rules line m h = (script_of rules m).reply h line

abbrev pub after_line : Rules → List ℕ → Meaning → History → History
after_line rules line m h = (script_of rules m).next h line

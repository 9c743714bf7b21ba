-- What was written so far of the replies to lines.
use Rattle.std.proofs.Common.{◌≡◌, ℕ, ◌<◌, ◌≤◌, ◌⊎◌, inl, inr, List, [], ◌∷◌, ◌++◌, refl, sym, ap, ◌∙◌, subst, arith, Option, Some, None, Result, Ok, Err, append-nil, append_assoc}
use Rattle.std.specs.Prelude.{codes, MatchResult, IfErr, OnOk}
use Rattle.std.specs.List.{concat, flat_map, AllByRecursion}
use Rattle.std.specs.Option.{option_to_list}
use Rattle.std.proofs.lemmas.List.Folds.{concat-append}
use Rattle.pst_base.specs.declared.names.VersionNo.{VersionNo}
use Rattle.pst_program.specs.declared.program.Program.{Program}
use Rattle.pst_history.specs.Meaning.{Meaning}
use Rattle.pst_history.specs.History.{History, heap_of, version_count}
use Rattle.pst_questions.specs.Dump.{IsDump}
use Rattle.pst_io.specs.Input.{InputState, Gives, IsCutOff}
use Rattle.pst_io.specs.declared.fault.LinesFault.{LinesFault}
use Rattle.pst_io.specs.declared.fault.LinesFault.TheVariants as lines
use Rattle.pst_cli_scripts.specs.declared.stop.Stop.{Stop}
use Rattle.pst_cli_scripts.specs.declared.stop.Stop.TheVariants as stop
use Rattle.pst_cli_scripts.specs.Pieces.{Answering, pieces_from, state_after, IsAll, IsPartOf}
use Rattle.pst_cli_scripts.specs.Reading.{GivesUntil, IsNear, stop_of}
use Rattle.pst_cli_scripts.specs.Script.{by_tree, script_of, line_reply}
use Rattle.pst_cli_scripts.specs.Sessions.{IsSaid, HeldAtLine, HeldAtReply, StopsAtReply}
use Rattle.pst_cli_scripts.proofs.Writing.{state_more, breaks_in}
use Rattle.pst_cli_words.specs.declared.job.Question.TheVariants.{Dump}
use Rattle.pst_cli_words.specs.Asked.{Asked, question_in}
use Rattle.pst_cli_questions.specs.Telling.{Tells}
use Rattle.pst_cli_serve.proofs.Commands.{after_question}
use Rattle.pst_cli_serve.specs.Served.{SaysTo, Says, Saying, AnswersQuestion, IsEndedDump, AreReplies, bytes_said, IsAnswered, StopsInTold, StopsBeforeTold, StopsAtTold, IsWrittenOf, StopsServing}

-- ---- a line

-- the dump of a version that is there, with the line behind it
pub dump_ended : (program : Program) (m : Meaning) (h : History) (version : VersionNo) (path text : List ℕ) → version.0 < version_count h → Tells program m h (Dump version) path text
    → AnswersQuestion program m h (Dump version) path (text ++ codes "ok\n")
dump_ended program m h version path text there told =
    elim told [ inl none ↦ absurd (omega (arith, none.0, there)) | inr some ↦ inr (there, (text, some.1, refl)) ]

-- and of one that is not
pub dump_none : (program : Program) (m : Meaning) (h : History) (version : VersionNo) (path text : List ℕ) → version_count h ≤ version.0 → Tells program m h (Dump version) path text
    → AnswersQuestion program m h (Dump version) path text
dump_none program m h version path text past told =
    elim told [ inl none ↦ inl none | inr some ↦ absurd (omega (arith, some.0, past)) ]

says_command : (program : Program) (m : Meaning) (h : History) (line : List ℕ) (reply : Option (List ℕ)) → question_in line ≡ None → reply ≡ line_reply by_tree line m h → Says program m h line reply
says_command program m h line reply e is = subst (λ (o : Option Asked). SaysTo program m h line o reply) (sym e) is

pub says_answer : (program : Program) (m : Meaning) (h : History) (line : List ℕ) (asked : Asked) (text : List ℕ) → question_in line ≡ Some asked
    → AnswersQuestion program m h asked.question asked.path text → Says program m h line (Some text)
says_answer program m h line asked text e is = subst (λ (o : Option Asked). SaysTo program m h line o (Some text)) (sym e) (text, refl, is)

-- the reply to a command was written
pub said_command : {T : Type 0} (r : Result T Stop) (program : Program) (m : Meaning) (h : History) (line out : List ℕ) → question_in line ≡ None → IsSaid r (line_reply by_tree line m h) out
    → IsWrittenOf r (Says program m h line) out
said_command (Ok x) program m h line out e said = (line_reply by_tree line m h, says_command program m h line (line_reply by_tree line m h) e refl, said)
said_command (Err stop.Write) program m h line out e (piece, is, part) = (piece, says_command program m h line (Some piece) e (sym is), part)
said_command (Err stop.Memory) program m h line out e none = none
said_command (Err stop.Read) program m h line out e never = never
said_command (Err stop.TooLong) program m h line out e never = never

-- the answer to a question was written in part
pub said_in_part : (s : Stop) (Reply : Option (List ℕ) → Type 0) (piece out : List ℕ) → Reply (Some piece) → StopsAtReply s (Some piece) out → StopsAtTold s Reply out
said_in_part stop.Write Reply piece out reply (whole, is, part) = let e : whole ≡ piece = cc in (piece, reply, subst (λ (l : List ℕ). IsPartOf l out) e part)
said_in_part stop.Memory Reply piece out reply none = none
said_in_part stop.Read Reply piece out reply never = never
said_in_part stop.TooLong Reply piece out reply never = never

-- it was written, all of it or a part
pub said_answer : {T : Type 0} (r : Result T Stop) (Reply : Option (List ℕ) → Type 0) (text piece out : List ℕ) → piece ≡ text → Reply (Some text)
    → MatchResult r (λ _. out ≡ piece) (λ s. StopsAtReply s (Some piece) out) → IsWrittenOf r Reply out
said_answer (Ok x) Reply text piece out same reply is = (Some text, reply, is ∙ same ∙ sym (append-nil text))
said_answer (Err s) Reply text piece out same reply stops = said_in_part s Reply piece out (subst (λ (l : List ℕ). Reply (Some l)) (sym same) reply) stops

-- what is held where it stopped
pub held_answer : {T H : Type 0} (r : Result T Stop) (line piece out : List ℕ) (asked : Asked) (leaves breaks : Meaning → H → History → Type 0) (held : H) (Stands : Meaning → History → Type 0)
    → question_in line ≡ Some asked → MatchResult r (λ _. out ≡ piece) (λ s. StopsAtReply s (Some piece) out) → ((m : Meaning) (h : History) → Stands m h → leaves m held h)
    → ((m : Meaning) (h : History) → Stands m h → breaks m held h) → IfErr r (λ s. (m : Meaning) (h : History) → Stands m h → HeldAtLine by_tree leaves breaks held s line m h)
held_answer (Ok x) line piece out asked leaves breaks held Stands e said left broken = tt
held_answer (Err stop.Write) line piece out asked leaves breaks held Stands e said left broken =
    λ m h now. subst (λ (x : History). leaves m held x) (sym (after_question line asked m h e)) (left m h now)
held_answer (Err stop.Memory) line piece out asked leaves breaks held Stands e said left broken = λ m h now. inl (broken m h now)
held_answer (Err stop.Read) line piece out asked leaves breaks held Stands e said left broken = absurd said
held_answer (Err stop.TooLong) line piece out asked leaves breaks held Stands e said left broken = absurd said

-- no line stops at a read
pub never_read : {H : Type 0} {P : Type 0} (s : Stop) (line : List ℕ) (leaves breaks : Meaning → H → History → Type 0) (held : H) (m : Meaning) (h : History)
    → s ≡ stop.Read → HeldAtLine by_tree leaves breaks held s line m h → P
never_read stop.Read line leaves breaks held m h e there = absurd there
never_read stop.Write line leaves breaks held m h e there = absurd cc
never_read stop.Memory line leaves breaks held m h e there = absurd cc
never_read stop.TooLong line leaves breaks held m h e there = absurd cc

pub on_ok : {T E : Type 0} (r : Result T E) (P : Type 0) → P → OnOk r P
on_ok (Ok x) P p = p
on_ok (Err e) P p = tt

-- ---- lines

said_push : (replies : List (Option (List ℕ))) (reply : Option (List ℕ)) → bytes_said (replies ++ reply ∷ []) ≡ bytes_said replies ++ concat (option_to_list reply)
said_push [] reply = ap concat (append-nil (option_to_list reply))
said_push (first ∷ replies) reply =
    concat-append (option_to_list first) (flat_map option_to_list (replies ++ reply ∷ []))
    ∙ ap (λ (l : List ℕ). concat (option_to_list first) ++ l) (said_push replies reply)
    ∙ sym (append_assoc (concat (option_to_list first)) (bytes_said replies) (concat (option_to_list reply)))
    ∙ ap (λ (l : List ℕ). l ++ concat (option_to_list reply)) (sym (concat-append (option_to_list first) (flat_map option_to_list replies)))

module _ {A : Type 0} (SaysLine : Saying A) (m : Answering A) where
  replies_push : (a : A) (given : List (List ℕ)) (replies : List (Option (List ℕ))) (line : List ℕ) (reply : Option (List ℕ)) → AreReplies SaysLine m a given replies
      → SaysLine (state_after m a given) line reply → AreReplies SaysLine m a (given ++ line ∷ []) (replies ++ reply ∷ [])
  replies_push a [] [] line reply are says = (says, tt)
  replies_push a [] (r ∷ rs) line reply are says = absurd are
  replies_push a (first ∷ given) [] line reply are says = absurd are
  replies_push a (first ∷ given) (r ∷ rs) line reply are says = (are.0, replies_push (m.next a first) given rs line reply are.1 says)

  -- nothing is answered yet
  pub answered_none : (a : A) → IsAnswered SaysLine m a [] []
  answered_none a = ([], tt, refl)

  -- one more line was answered
  pub answered_more : (a : A) (given : List (List ℕ)) (line done out : List ℕ) → IsAnswered SaysLine m a given done
      → (reply : Option (List ℕ)) × SaysLine (state_after m a given) line reply × (out ≡ concat (option_to_list reply)) → IsAnswered SaysLine m a (given ++ line ∷ []) (done ++ out)
  answered_more a given line done out (replies, are, all) (reply, says, is) = (
    replies ++ reply ∷ [],
    replies_push a given replies line reply are says,
    ap (λ (l : List ℕ). l ++ out) all ∙ ap (λ (l : List ℕ). bytes_said replies ++ l) is ∙ sym (said_push replies reply),
  )

  before_answer : (a : A) (given : List (List ℕ)) (line done out : List ℕ) → IsAnswered SaysLine m a given done → out ≡ [] → StopsBeforeTold SaysLine m a (given ++ line ∷ []) (done ++ out)
  before_answer a given line done out answered none = record {
    before = given;
    last = line;
    split = refl;
    answered = subst (λ (l : List ℕ). IsAnswered SaysLine m a given l) (sym (ap (λ (l : List ℕ). done ++ l) none ∙ append-nil done)) answered;
  }

  -- reading stopped, and all that was handed out is answered
  pub until_served : (h : A) (leaves breaks : A → Type 0) (fault : LinesFault) (a : InputState) (left : Option (List ℕ)) (c : InputState) (left'' : Option (List ℕ))
      (given : List (List ℕ)) (out : List ℕ) → GivesUntil (stop_of fault) a left c left'' given → IsCutOff c → IsAnswered SaysLine m h given out → leaves (state_after m h given)
      → StopsServing SaysLine m h leaves breaks (stop_of fault) a left c left'' given out
  until_served h leaves breaks lines.Failed a left c left'' given out g off all kept = (g.0, off, all, kept)
  until_served h leaves breaks lines.TooLong a left c left'' given out g off all kept = (g.0, off, all, kept)
  until_served h leaves breaks lines.Memory a left c left'' given out g off all kept = (g.0, inl (off, all, kept))

  -- answering stopped at a line
  pub until_answer : (h : A) (leaves breaks : A → Type 0) (s : Stop) (a : InputState) (left : Option (List ℕ)) (b : InputState) (left' : Option (List ℕ))
      (given : List (List ℕ)) (line done out : List ℕ) → IsAnswered SaysLine m h given done
      → StopsAtTold s (SaysLine (state_after m h given) line) out → HeldAtReply m leaves breaks s (state_after m h given) line
      → Gives a left b left' (given ++ line ∷ []) → IsNear b → StopsServing SaysLine m h leaves breaks s a left b left' (given ++ line ∷ []) (done ++ out)
  until_answer h leaves breaks stop.Write a left b left' given line done out answered (piece, says, part) kept g near = (
    g,
    near,
    record { before = given; last = line; done = done; piece = piece; part = out; split = refl; answered = answered; reply = says; proper = part; bytes = refl },
    state_more m h leaves given line kept,
  )
  until_answer h leaves breaks stop.Memory a left b left' given line done out answered none kept g near =
      (g, inr (near, before_answer h given line done out answered none, breaks_in m h breaks given line kept))
  until_answer h leaves breaks stop.Read a left b left' given line done out answered never kept g near = absurd never
  until_answer h leaves breaks stop.TooLong a left b left' given line done out answered never kept g near = absurd never

-- ---- where no line asks a question

one_reply : (program : Program) (m : Meaning) (h : History) (line : List ℕ) (reply : Option (List ℕ)) → question_in line ≡ None → Says program m h line reply → reply ≡ line_reply by_tree line m h
one_reply program m h line reply e says = subst (λ (o : Option Asked). SaysTo program m h line o reply) e says

same_replies : (program : Program) (m : Meaning) (h : History) (given : List (List ℕ)) (replies : List (Option (List ℕ))) → AllByRecursion (λ line. question_in line ≡ None) given
    → AreReplies (Says program m) (script_of by_tree m) h given replies → flat_map option_to_list replies ≡ pieces_from (script_of by_tree m) h given
same_replies program m h [] [] none are = refl
same_replies program m h [] (r ∷ rs) none are = absurd are
same_replies program m h (line ∷ given) [] none are = absurd are
same_replies program m h (line ∷ given) (r ∷ rs) none are =
    ap (λ (o : Option (List ℕ)). option_to_list o ++ flat_map option_to_list rs) (one_reply program m h line r none.0 are.0)
    ∙ ap (λ (l : List (List ℕ)). option_to_list (line_reply by_tree line m h) ++ l) (same_replies program m ((script_of by_tree m).next h line) given rs none.1 are.1)

-- what is written are the replies to commands
pub all_commands : (program : Program) (m : Meaning) (h : History) (given : List (List ℕ)) (out : List ℕ) → AllByRecursion (λ line. question_in line ≡ None) given
    → IsAnswered (Says program m) (script_of by_tree m) h given out → IsAll (pieces_from (script_of by_tree m) h given) out
all_commands program m h given out none (replies, are, is) = is ∙ ap concat (same_replies program m h given replies none are)

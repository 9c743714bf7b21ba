-- How a replayer begins, and what it does not answer.
use Rattle.std.proofs.Common.{◌≡◌, ℕ, List, [], ap, ◌∙◌, Some, None}
use Rattle.pst_base.specs.declared.shape.TypeShape.{TypeShape}
use Rattle.pst_script.specs.declared.command.Command.{Command}
use Rattle.pst_script.specs.declared.reply.Refusal.{Refusal}
use Rattle.pst_script.specs.declared.reply.Reply.TheVariants as answer
use Rattle.pst_history.specs.declared.history.Descent.{Descent}
use Rattle.pst_history.specs.declared.history.Run.{Run}
use Rattle.pst_history.specs.declared.history.Since.{Since}
use Rattle.pst_history.specs.History.{History, begun, opening, refusal, answered, reply, since, unless_refused}
use Rattle.pst_history.specs.Meaning.{Meaning}
use Rattle.pst_history.proofs.LawLemmas.{only_refused_are_refused}
use Rattle.pst_history.specs.declared.history.TheConstants.{BUDGET}

-- nothing has happened
pub begun_so : (s : Since) → s.budget ≡ BUDGET → s.runs ≡ [] → s.versions ≡ [] → (shape : List TypeShape) → since (opening shape) s ≡ begun (opening shape)
begun_so s budget runs versions shape =
    let of : ℕ → List Run → List Descent → History = λ b rs vs. record { start = opening shape; budget = b; runs = rs; versions = vs } in
    ap (λ b. of b s.runs s.versions) budget ∙ ap (λ rs. of BUDGET rs s.versions) runs ∙ ap (of BUDGET []) versions

-- what is not refused is not answered by a refusal
pub accepted-other : (m : Meaning) (h : History) (c : Command) → refusal m h c ≡ None → (why : Refusal) → answered m h c ≡ answer.Refused why → ⊥
unfolding reply
accepted-other m h c e why q =
    let is : refusal m h c ≡ Some why = only_refused_are_refused m h c why (ap (λ o. unless_refused o (answered m h c)) e ∙ q) in
    cc (e, is)

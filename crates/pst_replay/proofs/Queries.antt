-- What a query comes to.
use Rattle.std.proofs.Common.{◌≡◌, ℕ, List, [], ◌∷◌, ap, ◌∙◌}
use Rattle.pst_script.specs.declared.command.Call.{Call}
use Rattle.pst_script.specs.declared.command.Command.TheVariants as command
use Rattle.pst_history.specs.declared.history.RunState.TheVariants.{Open}
use Rattle.pst_history.specs.declared.history.Run.{Run}
use Rattle.pst_history.specs.declared.history.NamedCall.{NamedCall}
use Rattle.pst_history.specs.Meaning.{Meaning, AllFit}
use Rattle.pst_history.specs.Accepted.{IsAccepted}
use Rattle.pst_history.specs.History.{History, outcome_of, next_run, call_of, queried, answered}
use Rattle.pst_history.proofs.After.{one_fits}
use Rattle.pst_eval.specs.declared.whole.Outcome.{Outcome as Told}
use Rattle.pst_replay.specs.Replay.{IsEnd}

-- the run that a query is carried out as
abbrev pub query_run : History → Call → List NamedCall → Run
query_run h call calls = record { parent = call.version; calls = calls; budget = h.budget; granted = h.budget; state = Open }

pub query_fits : (m : Meaning) (h : History) (call : Call) → IsAccepted h (m.query call.procedure) call → AllFit m.query (call_of call ∷ [])
query_fits m h call a = one_fits (record m { proc = m.query }) (call_of call) a.fits

pub query-answered : (m : Meaning) (h : History) (call : Call) (n : ℕ) (calls : List NamedCall) (o : Told) → n ≡ next_run h
    → calls ≡ call_of call ∷ [] → IsEnd (outcome_of m h n (query_run h call calls) h.budget) o → queried o.printed o.ended ≡ answered m h (command.Query call)
query-answered m h call n calls o number same is =
    let out = outcome_of m h n (query_run h call calls) h.budget in
    ap (λ p. queried p o.ended) is.printed ∙ ap (queried out.printed) is.end
    ∙ ap (λ x. let y = outcome_of m h n (query_run h call x) h.budget in queried y.printed y.end) same
    ∙ ap (λ k. let y = outcome_of m h k (query_run h call (call_of call ∷ [])) h.budget in queried y.printed y.end) number

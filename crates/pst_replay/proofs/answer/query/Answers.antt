use Rattle.std.proofs.Common.{inr, ◌≤◌, List, sym, subst, ◌∙◌}
use Rattle.pst_history.specs.declared.history.NamedCall.{NamedCall}
use Rattle.pst_history.specs.Meaning.{AllFit}
use Rattle.pst_history.specs.Direct.{meaning_of}
use Rattle.pst_history.specs.Sound.{made_below}
use Rattle.pst_history.proofs.Accepting.{query-accepted}
use Rattle.pst_history.proofs.Steps.{made_below-next}
use Rattle.pst_replay.specs.Replay.{kept_for}
use Rattle.pst_replay.proofs.Queries.{query_fits, query-answered}
use Rattle.pst_replay.proofs.answer.query.Goals as goal

pub worked-requires-clause-there : goal.worked-requires-clause-there
worked-requires-clause-there c = (query-accepted (meaning_of c.args.program.now) (kept_for c.args.program.now c.args.history.now) c.args.call.now c.requires.accepted).there

pub worked-requires-clause-older : goal.worked-requires-clause-older
worked-requires-clause-older c =
    let h = kept_for c.args.program.now c.args.history.now in
    subst (λ k. made_below h.start c.args.history.now.since.versions c.args.call.now.version.0 ≤ k) (sym c.next_number-number.ensures)
    (made_below-next (meaning_of c.args.program.now) h c.requires.sound c.args.call.now.version.0)

pub worked-requires-clause-work : goal.worked-requires-clause-work
worked-requires-clause-work c =
    let m = meaning_of c.args.program.now in
    let h = kept_for c.args.program.now c.args.history.now in
    let P : List NamedCall → Type 0 = λ x. AllFit m.query x in
    inr (subst P (sym c.in_ok-calls.ensures) (query_fits m h c.args.call.now (query-accepted m h c.args.call.now c.requires.accepted)))

pub returns : goal.returns
returns c =
    let m = meaning_of c.args.program.now in
    let h = kept_for c.args.program.now c.args.history.now in
    c.queried.ensures ∙ query-answered m h c.args.call.now c.next_number-number.result.0 c.in_ok-calls.calls c.in_ok-outcome.outcome
    c.next_number-number.ensures c.in_ok-calls.ensures c.in_ok-outcome.ensures

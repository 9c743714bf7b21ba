use Rattle.std.proofs.Common.{◌≡◌, ◌<◌, length, ap, set, sym, ◌∙◌, subst, suc, arith, Some}
use Rattle.std.specs.Prelude.{IsSome}
use Rattle.std.proofs.lemmas.Option.{slice_get-get_or}
use Rattle.std.proofs.lemmas.Result.{on_ok_weaker}
use Rattle.pst_history.specs.History.{numbered}
use Rattle.pst_replay.specs.declared.history.NumberedHistory.{NumberedHistory}
use Rattle.pst_replay.specs.Replay.{IsNumbered}
use Rattle.pst_replay.proofs.Numbers.{added_numbered, as_many}
use Rattle.pst_replay.proofs.history.NumberedHistory.add.Goals as goal

pub returns-clause-numbered : goal.returns-clause-numbered
returns-clause-numbered c =
    let P : NumberedHistory → Type 0 = λ k. IsNumbered c.args.program.now k in
    let Q : NumberedHistory → Type 0 = λ k. IsSome (numbered 1 k.since.runs c.args.number.0) in
    let R : NumberedHistory → Type 0 = λ k. c.index_of-index.result < length k.calls in
    let many = as_many c.args.program.now c.args.self.now c.requires.numbered in
    let S : NumberedHistory → Type 0 = λ k. c.index_of-index.result < length k.since.runs in
    let within = subst S c.self.view_is c.index_of-index.ensures.within in
    let below : c.index_of-index.result < length c.args.self.now.calls = omega (arith, many, within) in
    let at : c.args.number.0 ≡ suc c.index_of-index.result = omega arith in
    let found = slice_get-get_or _ c.index_of-index.result c.index_mut.result.now (subst R (sym c.self.view_is) below) ∙ ap Some (sym c.index_mut.ensures.value ∙ sym c.behind-self.view_is) in
    on_ok_weaker c.add.result (λ changes. added_numbered c.args.program.now _ _ c.args.number.0 c.index_of-index.result _ c.in_ok-by_number.by_number
    c.args.call at found (subst Q (sym c.self.view_is) c.requires.there) c.in_ok-by_number.ensures
    (ap (set _ c.index_of-index.result) c.in_ok-push.ensures.items) (subst P (sym c.self.view_is) c.requires.numbered) changes) c.add.ensures

use Rattle.std.proofs.Common.{◌≡◌, ◌∷◌, [], ◌++◌, ◌-◌, ◌<◌, length, ap, ◌∙◌, arith, Some}
use Rattle.pst_versions.specs.Rows.{parent_of}
use Rattle.pst_engine.proofs.Commands.{parents-more}
use Rattle.pst_linerun.proofs.Answering.{parent-before}
use Rattle.pst_linerun.proofs.answer.parents.Goals as goal

pub loop-version-preserved : goal.loop-version-preserved
loop-version-preserved g c =
    let s = g.S.HeapAt.state c.args.store.now in
    let k = c.loop-version.version in
    let some : 0 < k = omega arith in
    let less : k < length s.versions = omega (arith, c.count-version-end.ensures, c.loop-version-test.true) in
    let is : parent_of s.versions k ≡ Some (record { 0 = k - 1 }) = parent-before s c.known_line.ensures.chain k some less in
    c.in_ok-push.ensures.items ∙ ap (λ xs. xs ++ (record { 0 = k - 1 }) ∷ []) c.loop-version.invariant ∙ parents-more s.versions k (record { 0 = k - 1 }) is

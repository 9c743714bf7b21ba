use Rattle.std.proofs.Common.{◌≡◌, ◌∷◌, [], ◌++◌, ap, sym, ◌∙◌, Some}
use Rattle.pst_versions.specs.Rows.{parent_of}
use Rattle.pst_engine.proofs.Commands.{parents-more}
use Rattle.pst_engine.proofs.answer.parents.Goals as goal

pub loop-version-preserved : goal.loop-version-preserved
loop-version-preserved g c =
    let rows = (g.H.HeapAt.state c.args.heap.now).versions in
    let is : parent_of rows c.loop-version.version ≡ Some c.unwrap.result = sym c.parent.ensures ∙ c.unwrap.ensures in
    c.in_ok-push.ensures.items ∙ ap (λ xs. xs ++ c.unwrap.result ∷ []) c.loop-version.invariant ∙ parents-more rows c.loop-version.version c.unwrap.result is

use Rattle.std.proofs.Common.{◌≡◌, map, take}
use Rattle.pst_history.proofs.rows.parents.Given as goal

abbrev pub invariant-loop-version : goal.invariant-loop-version
invariant-loop-version l = l.items.items ≡ map (λ v. v.parent) (take l.version-index l.history.versions)

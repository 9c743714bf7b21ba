use Rattle.std.proofs.Common.{ℕ, ◌<◌}
use Rattle.pst_image_rules.specs.Versions.{version_at, parent_of, IsInside}
use Rattle.pst_image_rules.proofs.nested.are_inside.Given as goal

abbrev pub invariant-loop-number : goal.invariant-loop-number
invariant-loop-number l = (v : ℕ) → 0 < v → v < l.number → IsInside l.next_run v (version_at l.versions v) (version_at l.versions (parent_of l.versions v))

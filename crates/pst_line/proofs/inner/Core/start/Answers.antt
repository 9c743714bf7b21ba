use Rattle.std.proofs.Common.{ℕ, ap}
use Rattle.pst_line.proofs.Starts.{start_held, start_done}
use Rattle.pst_line.proofs.inner.Core.start.Goals as goal

pub invariant_of-result : goal.invariant_of-result
invariant_of-result g c = start_held c.args.shape.now c.requires _ _ c.none-nodes.ensures c.in_ok-root.ensures.made c.make.ensures.kept _ c.in_ok-copy.ensures _ c.new.ensures _ _ _ _ _ (ap (λ (n : ℕ). record { 0 = n }) c.in_ok-root.ensures.id) c.new-versions.ensures.items c.in_ok-root.ensures.id c.count.ensures c.in_ok-push.ensures.items

pub returns : goal.returns
returns g c = start_done c.args.shape.now c.requires _ _ c.none-nodes.ensures c.in_ok-root.ensures.made c.make.ensures.kept _ c.in_ok-copy.ensures _ c.new.ensures _ _ _ _ _ (ap (λ (n : ℕ). record { 0 = n }) c.in_ok-root.ensures.id) c.new-versions.ensures.items c.in_ok-root.ensures.id c.count.ensures c.in_ok-push.ensures.items

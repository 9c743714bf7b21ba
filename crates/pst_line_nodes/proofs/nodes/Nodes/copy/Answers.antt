use Rattle.std.proofs.Common.{◌≡◌, ℕ, ◌<◌, length, subst, sym}
use Rattle.pst_line_nodes.specs.Contents.{Target}
use Rattle.pst_line_nodes.specs.Rows.{base_of}
use Rattle.pst_line_nodes.specs.Copying.{IsHandedOver, AreContents, AreRenamed, IsTargetBelow, node_at}
use Rattle.pst_line_nodes.proofs.Copying.{copied, copied_kept, targets}
use Rattle.pst_line_nodes.proofs.nodes.Nodes.copy.Goals as goal

pub rename_partners-requires-clause-targets : goal.rename_partners-requires-clause-targets
rename_partners-requires-clause-targets c =
    let r = c.requires.line in
    let h = subst (λ (k : ℕ). IsHandedOver c.args.self.now c.grow.new.self c.args.x.0 k c.args.stamp.0 c.in_ok-contents.contents.items) c.count.ensures c.in_ok-grow.ensures.ok in
    let a = subst (λ (k : ℕ). AreContents c.args.self.now c.args.x.0 k c.args.stamp.0 c.in_ok-contents.contents.items) c.count.ensures c.in_ok-contents.ensures in
    subst (λ (k : ℕ). (g y : ℕ) → base_of (node_at c.grow.new.self k) g ≡ Target y → y < length c.grow.new.self) (sym c.count.ensures)
    (targets c.args.self.now c.grow.new.self c.args.x.0 c.args.stamp.0 c.in_ok-contents.contents.items c.requires.newest.there h r.0 r.1 r.2 r.3 c.requires.newest c.requires.before a)

pub returns-clause-copied : goal.returns-clause-copied
returns-clause-copied c =
    let r = c.requires.line in
    let h = subst (λ (k : ℕ). IsHandedOver c.args.self.now c.grow.new.self c.args.x.0 k c.args.stamp.0 c.in_ok-contents.contents.items) c.count.ensures c.in_ok-grow.ensures.ok in
    let a = subst (λ (k : ℕ). AreContents c.args.self.now c.args.x.0 k c.args.stamp.0 c.in_ok-contents.contents.items) c.count.ensures c.in_ok-contents.ensures in
    let n = subst (λ (k : ℕ). AreRenamed c.grow.new.self c.rename_partners.new.self c.args.x.0 k (IsTargetBelow (node_at c.grow.new.self k) (length (node_at c.grow.new.self k).base))) c.count.ensures c.rename_partners.ensures in
    λ made. copied c.args.self.now c.grow.new.self c.args.x.0 c.args.stamp.0 c.in_ok-contents.contents.items c.requires.newest.there h r.0 r.1 r.2 r.3 c.requires.newest c.requires.before a c.rename_partners.new.self n made

pub returns-clause-kept : goal.returns-clause-kept
returns-clause-kept c =
    let r = c.requires.line in
    let h = subst (λ (k : ℕ). IsHandedOver c.args.self.now c.grow.new.self c.args.x.0 k c.args.stamp.0 c.in_ok-contents.contents.items) c.count.ensures c.in_ok-grow.ensures.ok in
    let a = subst (λ (k : ℕ). AreContents c.args.self.now c.args.x.0 k c.args.stamp.0 c.in_ok-contents.contents.items) c.count.ensures c.in_ok-contents.ensures in
    let n = subst (λ (k : ℕ). AreRenamed c.grow.new.self c.rename_partners.new.self c.args.x.0 k (IsTargetBelow (node_at c.grow.new.self k) (length (node_at c.grow.new.self k).base))) c.count.ensures c.rename_partners.ensures in
    λ shape kept. copied_kept c.args.self.now c.grow.new.self c.args.x.0 c.args.stamp.0 c.in_ok-contents.contents.items c.requires.newest.there h r.0 r.1 r.2 r.3 c.requires.newest c.requires.before a c.rename_partners.new.self n shape kept c.requires.newest.last c.requires.before a

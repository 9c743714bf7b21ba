use Rattle.std.proofs.Common.{◌≡◌, ℕ, suc, ◌+◌, None, Option, true, length, ap, sym, ◌∙◌, arith}
use Rattle.pst_base.specs.Below.{sum_below}
use Rattle.pst_line_nodes.specs.Line.{if_newest}
use Rattle.pst_line_nodes.specs.Nodes.{line_of}
use Rattle.pst_line_nodes.proofs.NodeLemmas.{of_node-at, sum_below-part}
use Rattle.pst_line_nodes.proofs.nodes.Nodes.potential.Goals as goal

pub overflow_add-stamped : goal.overflow_add-stamped
overflow_add-stamped c =
    let later = of_node-at (λ n. n.later) None c.args.self.now c.loop-id.id c.node.result.now c.node.ensures in
    let stamped = of_node-at (λ n. length n.stamped) 0 c.args.self.now c.loop-id.id c.node.result.now c.node.ensures in
    let more = c.newest_stamped-stamped.ensures ∙ ap (λ (k : ℕ). if_newest c.node.result.now.later k) (sym stamped) ∙ ap (λ (o : Option ℕ). if_newest o ((line_of (λ j. true) c.args.self.now).stamped c.loop-id.id)) (sym later) in
    let part = sum_below-part (λ i. if_newest ((line_of (λ j. true) c.args.self.now).later i) ((line_of (λ j. true) c.args.self.now).stamped i)) c.loop-id.id (length c.args.self.now) (omega (arith, c.loop-id-test.true, c.count-id-end.ensures)) in
    omega (arith, c.loop-id.invariant, more, part, c.requires)

pub loop-id-preserved : goal.loop-id-preserved
loop-id-preserved c =
    let later = of_node-at (λ n. n.later) None c.args.self.now c.loop-id.id c.node.result.now c.node.ensures in
    let stamped = of_node-at (λ n. length n.stamped) 0 c.args.self.now c.loop-id.id c.node.result.now c.node.ensures in
    let more = c.newest_stamped-stamped.ensures ∙ ap (λ (k : ℕ). if_newest c.node.result.now.later k) (sym stamped) ∙ ap (λ (o : Option ℕ). if_newest o ((line_of (λ j. true) c.args.self.now).stamped c.loop-id.id)) (sym later) in
    let next : suc c.loop-id.id ≡ c.loop-id.id + 1 = omega arith in
    ap (λ (k : ℕ). c.loop-id.stamped + k) more ∙ ap (λ (k : ℕ). k + if_newest ((line_of (λ j. true) c.args.self.now).later c.loop-id.id) ((line_of (λ j. true) c.args.self.now).stamped c.loop-id.id)) c.loop-id.invariant
    ∙ ap (λ (n : ℕ). sum_below n (λ i. if_newest ((line_of (λ j. true) c.args.self.now).later i) ((line_of (λ j. true) c.args.self.now).stamped i))) next

pub returns : goal.returns
returns c =
    let all : c.loop-id.id ≡ length c.args.self.now = omega (arith, c.loop-id-test.false, c.loop-id.auto, c.count-id-end.ensures) in
    c.loop-id.invariant ∙ ap (λ (n : ℕ). sum_below n (λ i. if_newest ((line_of (λ j. true) c.args.self.now).later i) ((line_of (λ j. true) c.args.self.now).stamped i))) all

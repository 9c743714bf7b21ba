use Rattle.std.proofs.Common.{◌+◌, true, None, ap, sym, ◌∙◌}
use Rattle.pst_line_nodes.specs.Nodes.{line_of, entry_of, pair_of}
use Rattle.pst_line_nodes.proofs.Results.{on_ok_map}
use Rattle.pst_line_nodes.proofs.NodeLemmas.{of_node-at}
use Rattle.pst_line_nodes.proofs.Redirecting.{redirecting_as, skip_none}
use Rattle.pst_line_nodes.proofs.nodes.Nodes.redirect_slot.Goals as goal

pub redirect-requires-clause-entered : goal.redirect-requires-clause-entered
redirect-requires-clause-entered c =
    let entry = of_node-at (λ d. entry_of d c.args.slot.0) None c.args.self.now c.args.z.0 c.node.result.now c.node.ensures ∙ ap pair_of (sym c.entry.ensures ∙ c.in-Some.is) in
    (c.args.slot.0, c.requires.begun, entry)

pub returns-in-Some-clause-done : goal.returns-in-Some-clause-done
returns-in-Some-clause-done c =
    let entry = of_node-at (λ d. entry_of d c.args.slot.0) None c.args.self.now c.args.z.0 c.node.result.now c.node.ensures ∙ ap pair_of (sym c.entry.ensures ∙ c.in-Some.is) in
    on_ok_map c.redirect.result _ _ (λ d. d c.args.slot.0 c.requires.begun entry) c.redirect.ensures.done

pub returns-in-None-clause-done : goal.returns-in-None-clause-done
returns-in-None-clause-done c =
    let entry = of_node-at (λ d. entry_of d c.args.slot.0) None c.args.self.now c.args.z.0 c.node.result.now c.node.ensures ∙ ap pair_of (sym c.entry.ensures ∙ c.in-None.is) in
    redirecting_as c.requires.line.0 (λ i. true) c.args.self.now c.args.stamp.0 c.args.z.0 (c.args.slot.0 + 1)
    (skip_none c.args.shape.now c.args.stamp.0 (line_of c.requires.line.0 c.args.self.now) c.requires.line.1 c.args.z.0 c.args.slot.0 (redirecting_as (λ i. true) c.requires.line.0 c.args.self.now c.args.stamp.0 c.args.z.0 c.args.slot.0 c.requires.begun) c.requires.there entry)

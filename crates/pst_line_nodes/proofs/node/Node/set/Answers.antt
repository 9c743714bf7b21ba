use Rattle.pst_line_nodes.proofs.RowWrites.{base_set_as, put_set_as, unstamped_since}
use Rattle.pst_line_nodes.proofs.Results.{on_ok_map, ok_unless}
use Rattle.pst_line_nodes.proofs.node.Node.set.Goals as goal

pub returns-then-self-stamp-clause-ok : goal.returns-then-self-stamp-clause-ok
returns-then-self-stamp-clause-ok c = (base_set_as _ c.args.self.now c.args.slot.0 c.args.stamp.0 c.args.content c.self.view_is c.requires.row c.if-self-stamp.true c.requires.slot).0

pub returns-else-self-stamp-clause-ok : goal.returns-else-self-stamp-clause-ok
returns-else-self-stamp-clause-ok c = on_ok_map c.put.result _ _ (λ p. (put_set_as _ c.args.self.now _ c.args.slot.0 c.args.stamp.0 c.args.content c.self.view_is c.requires.row c.if-self-stamp.false p).0) c.put.ensures.ok

pub returns-else-self-stamp-clause-row : goal.returns-else-self-stamp-clause-row
returns-else-self-stamp-clause-row c = on_ok_map c.put.result _ _ (λ p. (put_set_as _ c.args.self.now _ c.args.slot.0 c.args.stamp.0 c.args.content c.self.view_is c.requires.row c.if-self-stamp.false p).1) c.put.ensures.ok

pub returns-else-self-stamp-clause-replaces : goal.returns-else-self-stamp-clause-replaces
returns-else-self-stamp-clause-replaces c = λ e. ok_unless c.put.result _ c.put.ensures.fails (λ none. unstamped_since _ c.args.self.now c.args.slot.0 c.args.stamp.0 c.self.view_is c.requires.row c.if-self-stamp.false none e)

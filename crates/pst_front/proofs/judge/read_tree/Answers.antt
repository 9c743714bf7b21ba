use Rattle.pst_front.proofs.Refused.{parsing_refused, tree_found}
use Rattle.pst_front.proofs.judge.read_tree.Goals as goal

pub returns-in-Ok : goal.returns-in-Ok
returns-in-Ok c = tree_found c.args.text.items c.in-Ok.tree (rw c.deref.ensures.value at c.in-Ok.ensures.lexed) (rw c.deref.ensures.value at c.in-Ok.ensures.found)

pub returns : goal.returns
returns c =
    rw c.into.ensures (parsing_refused c.args.text.items c.in-Err.fault (rw c.deref-in-Err.ensures.value at c.in_ok-find_fault-in-Err.ensures.exact)
    (rw c.deref.ensures.value at c.in-Err.ensures.unexpected) (rw c.deref.ensures.value at c.in-Err.ensures.deep))

use Rattle.pst_line.proofs.Listed.{noted_before, noted_now}
use Rattle.pst_line.proofs.undo_list.UndoList.note.Goals as goal

pub returns-in_ok-insert-clause-ok : goal.returns-in_ok-insert-clause-ok
returns-in_ok-insert-clause-ok c = noted_now c.self.inside.fields.entries c.args.self.now c.self.view_is c.args.entry c.contains_key.result c.contains_key.ensures c.if-not-contains_key.true _ c.in_ok-insert.ensures.entries

pub returns-else-not-contains_key-clause-ok : goal.returns-else-not-contains_key-clause-ok
returns-else-not-contains_key-clause-ok c = noted_before c.self.inside.fields.entries c.args.self.now c.self.view_is c.args.entry c.contains_key.result c.contains_key.ensures c.if-not-contains_key.false

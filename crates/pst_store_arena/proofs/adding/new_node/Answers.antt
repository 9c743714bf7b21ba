use Rattle.pst_base.specs.declared.shape.TypeShape.{TypeShape}
use Rattle.pst_rows.specs.Changes.{IsNewRow}
use Rattle.std.proofs.Common.{subst}
use Rattle.pst_store_arena.proofs.AddedLemmas.{added_ok}
use Rattle.pst_store_arena.proofs.adding.new_node.Goals as goal

pub returns-clause-ok : goal.returns-clause-ok
returns-clause-ok c = added_ok c.args.shape.now c.args.nodes.now.list.items c.add.new.self.list.items c.add.result c.args.name c.args.ty c.args.at
    c.in_ok-row.row c.add.ensures.id c.add.ensures.added (subst (λ (t : TypeShape). IsNewRow t c.args.at.begin c.args.at.end c.in_ok-row.row)
    c.type_at.ensures c.in_ok-row.ensures)

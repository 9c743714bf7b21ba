use Rattle.std.proofs.Common.{rules}
use Rattle.pst_codegen_expressions.proofs.Rows.{pushed, noted_then, noted_else, indexed_push}
use Rattle.pst_codegen_expressions.proofs.table.Table.note.Goals as goal

pub returns-then-is_some : goal.returns-then-is_some
returns-then-is_some c = noted_then c.args.self.now c.args.level c.args.kind c.find.result c.find.ensures (search rules)

pub invariant_of-self-else-is_err : goal.invariant_of-self-else-is_err
invariant_of-self-else-is_err c =
    indexed_push c.self.inside.rows.items c.lengthen.new.rows.items c.args.self.now c.push.new.self.items c.from-row.result c.args.kind c.push-added.new.self c.len-index.result
    (search rules) c.lengthen.ensures.same (search rules) (search rules) (search rules)
    (pushed c.lengthen.new.rows.items c.from-row.result c.index_mut.result.now c.push-added.new.self _ c.push-added.result c.push-added.ensures (search rules) c.index_mut.ensures.value (search rules))

pub returns-else-is_err : goal.returns-else-is_err
returns-else-is_err c = let n = noted_else c.args.self.now c.args.level c.args.kind c.find.result c.find.ensures (search rules) in let f = c.push.ensures in search rules

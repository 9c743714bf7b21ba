use Rattle.std.proofs.Common.{◌∙◌, subst, sym, refl}
use Rattle.std.specs.Option.{IsSome}
use Rattle.pst_codegen_expressions.proofs.Rows.{index_found}
use Rattle.pst_codegen_expressions.proofs.table.Table.index_of.Goals as goal

pub unwrap-requires : goal.unwrap-requires
unwrap-requires c = subst IsSome (sym (c.find.ensures ∙ index_found c.args.self.now c.args.level c.args.kind c.requires)) refl

pub returns : goal.returns
returns c = let e = c.find.ensures ∙ index_found c.args.self.now c.args.level c.args.kind c.requires in cc

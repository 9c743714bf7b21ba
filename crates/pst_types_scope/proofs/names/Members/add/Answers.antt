use Rattle.std.proofs.Common.{◌+◌, ap, ◌∙◌}
use Rattle.pst_typing.specs.Names.{bounded}
use Rattle.pst_types_scope.proofs.Added.{value_added, pointer_added}
use Rattle.pst_types_scope.proofs.names.Members.add.Goals as goal

pub returns-in_ok-insert-in-Int : goal.returns-in_ok-insert-in-Int
returns-in_ok-insert-in-Int c =
    let counted = c.bounded_sum-self.ensures ∙ ap (λ n. bounded (c.args.self.now.values + n)) (c.from-count.ensures ∙ c.elements_of.ensures) in
    value_added c.args.self.now c.args.name c.args.kind c.args.elements _ _ c.in-Int.is counted c.requires c.in_ok-insert-in-Int.ensures.entries

pub returns-in_ok-insert-in-Named : goal.returns-in_ok-insert-in-Named
returns-in_ok-insert-in-Named c =
    let counted = c.bounded_sum-self-in-Named.ensures ∙ ap (λ n. bounded (c.args.self.now.pointers + n)) (c.from-count.ensures ∙ c.elements_of.ensures) in
    pointer_added c.args.self.now c.args.name c.args.kind c.in-Named.field-0 c.args.elements _ _ c.in-Named.is counted c.requires c.in_ok-insert-in-Named.ensures.entries

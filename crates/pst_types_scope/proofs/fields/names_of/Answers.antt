use Rattle.std.proofs.Common.{◌∙◌}
use Rattle.pst_types_scope.specs.View.{members_of}
use Rattle.pst_types_scope.proofs.Added.{names_on}
use Rattle.pst_types_scope.proofs.fields.names_of.Goals as goal

pub loop-index-preserved : goal.loop-index-preserved
loop-index-preserved c =
    names_on (members_of c.args.members.now) c.as_slice-field-items.result.now c.as_slice-declared.result.now c.args.members.now.list.entries c.loop-index.index _ _
    c.in_ok-named_field.field-0 c.slot-slot.result _ _ _ (c.as_slice-field-items.ensures ∙ c.keys.ensures.rest) (c.as_slice-declared.ensures ∙ c.values.ensures.rest)
    c.loop-index-test.true c.in_ok-named_field.ensures.ok.0 c.in_ok-named_field.ensures.ok.1 c.in_ok-named_field.ensures.ok.2 c.slot-slot.ensures c.in_ok-push.ensures.items c.loop-index.invariant

use Rattle.std.proofs.Common.{◌≡◌, ◌∙◌, length, ap, arith, Ok}
use Rattle.pst_types_scope.specs.View.{scope_of}
use Rattle.pst_types_scope.proofs.Targets.{targets_done}
use Rattle.pst_types_scope.proofs.fields.targets_of.Goals as goal

pub returns : goal.returns
returns c =
    let end : c.loop-member.member-index ≡ length c.as_slice-member-items.result.now = omega arith in
    ap Ok (targets_done (scope_of c.args.scope.now) c.args.members.now.list.entries c.as_slice-member-items.result.now c.loop-member.member-index _ _
    (c.as_slice-member-items.ensures ∙ c.values.ensures.rest) end c.loop-member.invariant c.from_vec.ensures)

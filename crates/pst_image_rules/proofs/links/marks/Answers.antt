use Rattle.std.proofs.Common.{◌≡◌, refl, suc, ◌-◌, sym, subst, arith, length}
use Rattle.pst_image_rules.specs.Nodes.{node_at}
use Rattle.pst_image_rules.specs.Heads.{AreLinked, AreMarked, CanLead}
use Rattle.pst_image_rules.proofs.Marks.{none_linked_more, none_marked_more, one_linked_more, one_marked_more, not_linked, never}
use Rattle.pst_image_rules.proofs.links.marks.Goals as goal

pub loop-i-preserved-then-later-eq0 : goal.loop-i-preserved-then-later-eq0
loop-i-preserved-then-later-eq0 c =
    let none : (node_at c.args.nodes.now c.loop-i.i).later ≡ 0 = omega arith in
    record { linked = none_linked_more _ _ c.loop-i.invariant.linked none; marked = none_marked_more _ _ _ c.loop-i.invariant.marked none }

pub returns-then-not-can_lead : goal.returns-then-not-can_lead
returns-then-not-can_lead c = λ h.
    let later : (node_at c.args.nodes.now c.loop-i.i).later ≡ suc (c.later_of-later.result - 1) = omega arith in
    not_linked c.args.nodes.now c.loop-i.i (c.later_of-later.result - 1) c.loop-i.marks.items c.loop-i.invariant.marked c.loop-i-test.true later
    (λ can. never (c.if-not-can_lead.ensures.1 (subst (λ m. CanLead c.args.nodes.now m c.loop-i.i (c.later_of-later.result - 1)) (sym c.deref.ensures.value) can))) h

pub loop-i-preserved : goal.loop-i-preserved
loop-i-preserved c =
    let later : (node_at c.args.nodes.now c.loop-i.i).later ≡ suc (c.later_of-later.result - 1) = omega arith in
    let can = subst (λ m. CanLead c.args.nodes.now m c.loop-i.i (c.later_of-later.result - 1)) c.deref.ensures.value (c.if-not-can_lead.ensures.0 refl) in
    record {
      linked = one_linked_more _ _ _ _ c.loop-i.invariant.linked c.loop-i.invariant.marked later can;
      marked = one_marked_more _ _ _ _ c.loop-i.invariant.marked later can;
    }

pub returns : goal.returns
returns c =
    let all : c.loop-i.i ≡ length c.args.nodes.now = omega arith in
    (subst (λ n. AreLinked c.args.nodes.now n) all c.loop-i.invariant.linked, subst (λ n. AreMarked c.args.nodes.now n c.loop-i.marks.items) all c.loop-i.invariant.marked)

use Rattle.std.proofs.Common.{◌∙◌, ◌+◌, List, [], ◌∷◌, ◌++◌, sym, subst, ap}
use Rattle.pst_image_rules.specs.declared.heads.Head.{Head}
use Rattle.pst_image_rules.specs.Heads.{AreHeads}
use Rattle.pst_image_rules.proofs.Marks.{one_head_more, no_head_more}
use Rattle.pst_image_rules.proofs.heads.heads_of.Goals as goal
use Rattle.pst_image_rules.proofs.heads.heads_of.Goals.{then-not-marks-i+in_ok-push, else-not-marks-i}

pub loop-i-preserved : goal.loop-i-preserved
loop-i-preserved c = elim c.if-not-marks-i.branch [
  | then-not-marks-i+in_ok-push w ↦ subst (λ (h : List Head). AreHeads c.args.nodes.now c.args.marks.now (c.loop-i.i + 1) h)
      (sym (ap (λ v. v.items) w.heads-is ∙ w.in_ok-push.ensures.items ∙ ap (λ x. c.loop-i.heads.items ++ x ∷ []) w.head_at.ensures))
      (one_head_more _ _ _ _ c.loop-i.invariant w.if-not-marks-i.true)
  | else-not-marks-i w ↦ subst (λ (h : List Head). AreHeads c.args.nodes.now c.args.marks.now (c.loop-i.i + 1) h) (sym (ap (λ v. v.items) w.heads-is))
      (no_head_more _ _ _ _ c.loop-i.invariant w.if-not-marks-i.false)
]

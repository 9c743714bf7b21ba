use Rattle.std.proofs.Common.{◌≡◌, ◌∙◌, ◌+◌, List, length, sym, subst, ap, arith}
use Rattle.pst_image_rules.specs.declared.ends.Chain.{Chain}
use Rattle.pst_image_rules.specs.Heads.{AreChainsTo}
use Rattle.pst_image_rules.proofs.ChainList.{none_more, one_more, chain_is, all_chains}
use Rattle.pst_image_rules.proofs.ends.chains_by.Goals as goal
use Rattle.pst_image_rules.proofs.ends.chains_by.Goals.{then-not-marks-i+in_ok-push, else-not-marks-i}

pub loop-i-preserved : goal.loop-i-preserved
loop-i-preserved c = elim c.if-not-marks-i.branch [
  | then-not-marks-i+in_ok-push w ↦ subst (λ (x : List Chain). AreChainsTo c.args.nodes.now c.args.marks.now (c.loop-i.i + 1) x) (sym (ap (λ v. v.items) w.chains-is ∙ w.in_ok-push.ensures.items))
      (one_more _ _ _ _ _ c.loop-i.invariant w.chain_of.ensures.head (chain_is _ _ _ _ c.requires.marked c.loop-i-test.true w.if-not-marks-i.true w.chain_of.ensures.head w.chain_of.ensures.last))
  | else-not-marks-i w ↦ subst (λ (x : List Chain). AreChainsTo c.args.nodes.now c.args.marks.now (c.loop-i.i + 1) x)
      (sym (ap (λ v. v.items) w.chains-is)) (none_more _ _ _ _ c.loop-i.invariant w.if-not-marks-i.false)
]

pub returns : goal.returns
returns c =
    let all : c.loop-i.i ≡ length c.args.nodes.now = omega arith in
    all_chains _ _ _ c.requires.linked c.requires.lives c.requires.marked (subst (λ n. AreChainsTo c.args.nodes.now c.args.marks.now n c.loop-i.chains.items) all c.loop-i.invariant)

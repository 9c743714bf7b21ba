use Rattle.std.proofs.Common.{ap, sym, ◌∙◌}
use Rattle.std.proofs.Math.Seq.{map-set_same}
use Rattle.std.proofs.lemmas.List.{length-set}
use Rattle.pst_base.specs.declared.names.Name.{Name}
use Rattle.pst_program.specs.declared.meaning.Value.TheVariants.{Record}
use Rattle.pst_machine_steps.specs.declared.register.Register.TheVariants.{Reference}
use Rattle.pst_machine_steps.specs.View.{value_of}
use Rattle.pst_machine_steps.proofs.Kept.{live_set}
use Rattle.pst_machine_steps.proofs.fields.renew_all.Goals as goal

pub loop-i-preserved : goal.loop-i-preserved
loop-i-preserved g c =
    let s = g.H.HeapAt.state c.args.heap.now in
    let rs = c.loop-i.registers.items in
    let near = Reference c.nearest.result in (
      map-set_same (value_of s.name) rs c.loop-i.i near c.index.result.now
          (ap (λ (n : Name). Record n) c.nearest.ensures.name ∙ ap (value_of s.name) (sym c.in-Reference.is ∙ c.index.ensures)) ∙ c.loop-i.invariant.0,
      live_set s c.args.at rs c.loop-i.i near c.nearest.ensures.live c.loop-i.invariant.1,
      length-set rs c.loop-i.i near ∙ c.loop-i.invariant.2,
    )

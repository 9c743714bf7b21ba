use Rattle.std.proofs.Common.{◌∙◌, sym, ap, subst}
use Rattle.pst_code.specs.declared.procedure.Parts.{Parts}
use Rattle.pst_forest.specs.Forest.{ForestOf, started, state_of}
use Rattle.pst_engine_runs.specs.Bare.{by_machine}
use Rattle.pst_engine.specs.Stands.{IsStartedHeap}
use Rattle.pst_engine_cases.proofs.bare.Bare.new.Goals as goal

pub a_new_engine_stands-requires-clause-heap : goal.a_new_engine_stands-requires-clause-heap
unfolding by_machine
a_new_engine_stands-requires-clause-heap c =
    let m = by_machine c.new-code.result in
    let shape = c.shape.ensures ∙ ap (λ (p : Parts). p.shape) (sym c.new-code.ensures) in
    subst (λ (f : ForestOf). IsStartedHeap m (state_of f)) (sym (c.in_ok-heap.ensures ∙ ap started shape)) (c.a_new_forest_is_started.ensures m)

use Rattle.std.proofs.Common.{◌∙◌, ap, ◌++◌, List, ℕ, [], ◌∷◌}
use Rattle.pst_order.proofs.StepLemmas.{ring_one}
use Rattle.pst_order.proofs.labels.LabelOrderOrder.new.Goals as goal

pub invariant_of-result : goal.invariant_of-result
invariant_of-result c =
    ring_one c.push.new.self.items c.push-2.new.self.items
    (c.in_ok-push.ensures.items ∙ ap (λ (t : List ℕ). t ++ 0 ∷ []) c.new-next.ensures.items)
    (c.in_ok-push-2.ensures.items ∙ ap (λ (t : List ℕ). t ++ 0 ∷ []) c.new-labels.ensures.items)

pub returns-clause-label : goal.returns-clause-label
returns-clause-label c = c.in_ok-push-2.ensures.items ∙ ap (λ (t : List ℕ). t ++ 0 ∷ []) c.new-labels.ensures.items

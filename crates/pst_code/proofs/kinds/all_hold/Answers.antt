use Rattle.std.proofs.Common.{◌≡◌, ◌+◌, ℕ, ap, sym, ◌∙◌}
use Rattle.pst_base.specs.Shape.{field_kind}
use Rattle.pst_code.proofs.Holding.{hold_not}
use Rattle.pst_code.proofs.kinds.all_hold.Goals as goal

pub returns-then-not-are_alike : goal.returns-then-not-are_alike
returns-then-not-are_alike c =
    let t = c.args.shape.now in
    let slot = c.args.slot.0 in
    let index = c.loop-index.index in
    let there : c.kind_at.result ≡ field_kind t (slot + index) =
    c.kind_at.ensures ∙ ap (λ (n : ℕ). field_kind t (n + c.from.result)) c.from-first.ensures ∙ ap (λ (n : ℕ). field_kind t (slot + n)) c.from.ensures in
    sym (hold_not t c.args.kind slot index c.args.count c.loop-index-test.true (λ e. absurd (let alike = c.are_alike.ensures.1 (there ∙ e) in let not_so = c.if-not-are_alike.true in cc)))

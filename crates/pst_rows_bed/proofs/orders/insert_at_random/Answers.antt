use Rattle.std.proofs.Common.{rules, ◌≡◌, ℕ, List, subst, arith}
use Rattle.pst_order.specs.declared.order.Pos.{Pos}
use Rattle.pst_order.specs.Places.{IsIn, IsInsertedAfter}
use Rattle.pst_rows_bed.proofs.OrderLemmas.{put_in, one_more}
use Rattle.pst_rows_bed.proofs.orders.insert_at_random.Goals as goal

pub loop-k-preserved : goal.loop-k-preserved
loop-k-preserved g c =
    let plain : List ℕ = g.A.Order.places c.loop-k.plain in
    let plain' : List ℕ = g.A.Order.places c.insert_after.new.self in
    let quick : List ℕ = g.B.Order.places c.loop-k.quick in
    let quick' : List ℕ = g.B.Order.places c.insert_after-in-loop-k.new.self in
    let at : Pos = c.index-place.result.now in
    let in_plain : IsIn plain at.0 = search rules in
    let in_quick : IsIn quick at.0 = search rules in
    let same : c.in_ok-same.same.0 ≡ c.in_ok-new.new.0 = omega (arith, c.if-new-same.false) in
    let put : IsInsertedAfter quick quick' at.0 c.in_ok-new.new.0 = subst (λ (z : ℕ). IsInsertedAfter quick quick' at.0 z) same c.in_ok-same.ensures.ok in
    record {
      plain_count = omega (arith, c.loop-k.invariant.plain_count, one_more plain plain' at.0 c.in_ok-new.new.0 in_plain c.in_ok-new.ensures.ok);
      quick_count = omega (arith, c.loop-k.invariant.quick_count, one_more quick quick' at.0 c.in_ok-new.new.0 in_quick put);
      some = omega (arith, c.in_ok-insert.ensures.len, c.insert.new.self.ok);
      plain = rw c.in_ok-insert.ensures.items (put_in plain plain' at.0 c.in_ok-new.new c.loop-k.places.items _ in_plain c.in_ok-new.ensures.ok c.loop-k.invariant.plain);
      quick = rw c.in_ok-insert.ensures.items (put_in quick quick' at.0 c.in_ok-new.new c.loop-k.places.items _ in_quick put c.loop-k.invariant.quick);
    }

use Rattle.std.proofs.Common.{◌≡◌, ℕ, sym, ap, ◌∙◌, subst}
use Rattle.std.proofs.lemmas.Result.{on_ok_weaker}
use Rattle.pst_order.specs.Places.{rank}
use Rattle.pst_mirror.specs.Mirror.{names}
use Rattle.pst_nodes.specs.Arena.{HasRoom, row_at}
use Rattle.pst_repair.proofs.RoomLemmas.{named_there}
use Rattle.pst_repair.proofs.room.reserve_partner.Goals as goal

pub reserve_row-requires : goal.reserve_row-requires
reserve_row-requires g c = named_there (g.O.Order.places c.args.order.now) c.args.nodes.now.list.items c.args.x.0 c.args.slot.0
    ((rank (g.O.Order.places c.args.order.now)) c.args.at.0) c.in-Some.node.0 c.read.result c.requires.rows c.requires.mirrored (sym c.read.ensures)
    c.in-Some.ensures.some

pub returns-in-Some-clause-room : goal.returns-in-Some-clause-room
returns-in-Some-clause-room g c = on_ok_weaker c.reserve_row.result
    (λ h j d e ne.
    let same : j ≡ c.in-Some.node.0 = c.in-Some.ensures.one j (ap (names j) c.read.ensures ∙ e) in
    subst (λ (k : ℕ). HasRoom (row_at c.reserve_row.new.self.list.items k d) c.args.n) (sym same) (h d))
    c.reserve_row.ensures.room

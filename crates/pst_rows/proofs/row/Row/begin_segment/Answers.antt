use Rattle.std.proofs.Common.{◌≡◌, ℕ, Bool, true, List, length, not, refl, sym, ap, subst, arith}
use Rattle.pst_order.specs.Places.{rank}
use Rattle.pst_rows.specs.Rows.{row_edge}
use Rattle.pst_rows.specs.Changes.{HasMore, missing}
use Rattle.pst_rows.specs.Steps.{IsLocated}
use Rattle.pst_rows.proofs.PartLemmas.{has_parts}
use Rattle.pst_rows.proofs.RowLemmas.{more_none}
use Rattle.pst_rows.proofs.SetLemmas.{IsBegunThere, rank_same, rank_other, begins_edge, begun_there}
use Rattle.pst_rows.proofs.row.Row.begin_segment.Goals as goal

pub insert-requires-clause-parts : goal.insert-requires-clause-parts
insert-requires-clause-parts g c = let ps : List ℕ = g.O.Order.places c.args.order.now in has_parts (rank ps) (length ps) c.args.self.now c.requires.row

pub returns-then-eq : goal.returns-then-eq
returns-then-eq g c =
    let ps : List ℕ = g.O.Order.places c.args.order.now in
    let loc : IsLocated (rank ps) c.args.self.now.cells.stamps c.args.slot.0 (rank ps c.args.at.0) c.locate-located.result.start c.locate-located.result.index c.locate-located.result.stop =
    subst (λ (qs : List ℕ). IsLocated (rank qs) c.args.self.now.cells.stamps c.args.slot.0 (rank qs c.args.at.0) c.locate-located.result.start
    c.locate-located.result.index c.locate-located.result.stop) c.new.ensures.order c.locate-located.ensures.located in
    let edge : row_edge (rank ps) c.args.self.now c.args.slot.0 (rank ps c.args.at.0) ≡ true =
    begins_edge (rank ps) (length ps) c.args.self.now c.args.slot.0 (rank ps c.args.at.0) c.locate-located.result.start c.locate-located.result.index
    c.locate-located.result.stop c.requires.row loc c.requires.life.after c.requires.life.before c.begin_of.result c.begin_of.ensures
    (rank_same ps c.begin_of.result c.args.at (rank ps c.args.at.0) c.eq.ensures c.if-eq.true refl) in
    record {
      begun = sym (ap not edge);
      cut = λ e. cc;
      same = λ _. refl;
      row = c.requires.row;
      more = subst (λ (b : Bool). HasMore (missing b) c.args.self.now c.args.self.now) (sym edge) (more_none c.args.self.now);
    }

pub returns : goal.returns
returns g c =
    let ps : List ℕ = g.O.Order.places c.args.order.now in
    let loc : IsLocated (rank ps) c.args.self.now.cells.stamps c.args.slot.0 (rank ps c.args.at.0) c.locate-located.result.start c.locate-located.result.index c.locate-located.result.stop =
    subst (λ (qs : List ℕ). IsLocated (rank qs) c.args.self.now.cells.stamps c.args.slot.0 (rank qs c.args.at.0) c.locate-located.result.start
    c.locate-located.result.index c.locate-located.result.stop) c.new.ensures.order c.locate-located.ensures.located in
    let done : IsBegunThere (rank ps) (length ps) c.args.self.now c.insert.new.self c.args.slot.0 (rank ps c.args.at.0) =
    begun_there (rank ps) (length ps) c.args.self.now c.args.slot.0 (rank ps c.args.at.0) c.locate-located.result.start c.locate-located.result.index
    c.locate-located.result.stop c.requires.row loc c.requires.life.after c.requires.life.before c.insert.new.self
    (record { slot = c.args.slot; place = c.args.at; content = c.held.result }) c.begin_of.result c.requires.slot c.begin_of.ensures
    (rank_other ps c.begin_of.result c.args.at (rank ps c.args.at.0) c.eq.ensures c.if-eq.false refl
    (omega (arith, c.requires.life.before, c.requires.row.there))) c.held.ensures refl refl (rw c.new-stamp.ensures at c.insert.ensures) c.requires.spare in
    record {
      begun = sym (ap not done.free);
      cut = λ _. done.cut;
      same = λ e. cc;
      row = done.row;
      more = done.more;
    }

use Rattle.std.proofs.Common.{sym, subst}
use Rattle.pst_forest.specs.Forest.{state_of}
use Rattle.pst_forest.specs.declared.place.PlaceNo.{PlaceNo}
use Rattle.pst_machine_cases.proofs.session.Session.advance.Goals as goal

pub returns-clause-opened : goal.returns-clause-opened
returns-clause-opened c = record {
  ready = c.in_ok-advance.ensures.ready.0;
  working = c.in_ok-advance.ensures.ready.1;
  writable = subst (λ (p : PlaceNo). (state_of c.advance.new.heap).writable p) (sym c.advance.ensures.home.0) (c.in_ok-advance.ensures.writes.kept _ c.requires.writable);
}

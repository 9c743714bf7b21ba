use Rattle.std.proofs.Common.{sym, subst}
use Rattle.pst_image_rules.specs.Heads.{AreNeighboursApart}
use Rattle.pst_image_rules.proofs.Names.{own_names, neighbours_apart}
use Rattle.pst_image_rules.proofs.heads.have_own_names.Goals as goal

pub returns : goal.returns
returns c = (
  λ t. own_names _ _ c.in_ok-sort.ensures.permutation c.in_ok-sort.ensures.sorted (subst AreNeighboursApart c.deref.ensures.value (c.are_neighbours_apart.ensures.0 t)),
  λ own. c.are_neighbours_apart.ensures.1 (subst AreNeighboursApart (sym c.deref.ensures.value) (neighbours_apart _ _ c.in_ok-sort.ensures.permutation own)),
)

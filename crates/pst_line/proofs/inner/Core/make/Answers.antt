use Rattle.pst_line_nodes.proofs.Results.{on_err}
use Rattle.pst_line.proofs.Adding.{refused_held, refused_same, added_held, added_done}
use Rattle.pst_line.proofs.inner.Core.make.Goals as goal

pub invariant_of-self : goal.invariant_of-self
invariant_of-self g c = refused_held _ _ c.self.view_is c.self.invariant c.args.at c.requires.writable c.args.ty c.args.name c.requires.known_type c.requires.fresh c.requires.room _ c.stamp-stamp.ensures _ c.in_err-id.ensures.err

pub returns-in_err-id-clause-err : goal.returns-in_err-id-clause-err
returns-in_err-id-clause-err g c = on_err _ _ (refused_same _ _ c.self.view_is c.self.invariant c.args.at c.requires.writable c.args.ty c.args.name c.requires.known_type c.requires.fresh c.requires.room _ c.stamp-stamp.ensures _ c.in_err-id.ensures.err)

pub invariant_of-self-2 : goal.invariant_of-self-2
invariant_of-self-2 g c = added_held _ _ c.self.view_is c.self.invariant c.args.at c.requires.writable c.args.ty c.args.name c.requires.known_type c.requires.fresh c.requires.room _ c.stamp-stamp.ensures _ c.in_ok-id.ensures.made c.make.ensures.kept

pub returns-clause-ok : goal.returns-clause-ok
returns-clause-ok g c =
    added_done _ _ c.self.view_is c.self.invariant c.args.at c.requires.writable c.args.ty c.args.name c.requires.known_type c.requires.fresh c.requires.room _ c.stamp-stamp.ensures _ c.in_ok-id.ensures.made c.make.ensures.kept c.in_ok-id.id.0 c.in_ok-id.ensures.id

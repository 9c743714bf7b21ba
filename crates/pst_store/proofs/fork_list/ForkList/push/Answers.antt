use Rattle.std.proofs.Common.{List, [], ◌∷◌, ◌++◌, sym, ap, ◌∙◌, subst}
use Rattle.pst_store.specs.declared.fork_list.ForkRow.{ForkRow}
use Rattle.pst_store.specs.ForkLists.{Held, forks_of, AreCoded, IsRowFor}
use Rattle.pst_store.proofs.ForkListLemmas.{pushed_coded, pushed_forks}
use Rattle.pst_store.proofs.fork_list.ForkList.push.Goals as goal

pub invariant_of-self : goal.invariant_of-self
invariant_of-self c =
    let row : IsRowFor c.self.inside.rows.items c.self.inside.others.items c.row_of-row.new.others.items c.args.fork c.row_of-row.result =
    subst (λ (rows : List ForkRow). IsRowFor rows c.self.inside.others.items c.row_of-row.new.others.items c.args.fork c.row_of-row.result)
    c.deref.ensures.value c.row_of-row.ensures in
    subst (λ (rows : List ForkRow). AreCoded rows c.row_of-row.new.others.items) (sym c.push_reserved.ensures.items) (pushed_coded _ _ _ _ _ c.self.invariant row)

pub returns : goal.returns
returns c =
    let row : IsRowFor c.self.inside.rows.items c.self.inside.others.items c.row_of-row.new.others.items c.args.fork c.row_of-row.result =
    subst (λ (rows : List ForkRow). IsRowFor rows c.self.inside.others.items c.row_of-row.new.others.items c.args.fork c.row_of-row.result)
    c.deref.ensures.value c.row_of-row.ensures in
    ap (λ (rows : List ForkRow). forks_of rows c.row_of-row.new.others.items) c.push_reserved.ensures.items
    ∙ pushed_forks _ _ _ _ _ c.self.invariant row
    ∙ ap (λ (held : Held). held.forks ++ c.args.fork ∷ []) c.self.view_is

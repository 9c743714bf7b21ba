use Rattle.std.proofs.Common.{◌<◌, List, length, slice_set, ap, subst, arith}
use Rattle.std.proofs.lemmas.List.{length-map}
use Rattle.pst_store_meaning.specs.declared.place.Fork.{Fork}
use Rattle.pst_store.specs.ForkLists.{Held, places_of, fork_in, forks_of, IsForkPublished}
use Rattle.pst_store.proofs.ForkListLemmas.{marked, published_coded, published_forks}
use Rattle.pst_store.proofs.fork_list.ForkList.mark_published.Goals as goal

pub invariant_of-self : goal.invariant_of-self
invariant_of-self c =
    let there : c.args.number < length c.self.inside.rows.items =
    omega (
      arith,
      c.requires,
      ap (λ (held : Held). length held.forks) c.self.view_is,
      length-map c.self.inside.rows.items (fork_in (places_of c.self.inside.rows.items) c.self.inside.others.items),
    ) in
    published_coded _ _ c.args.number c.index_mut.result.now there c.index_mut.ensures.value c.self.invariant

pub returns : goal.returns
returns c =
    let there : c.args.number < length c.self.inside.rows.items =
    omega (
      arith,
      c.requires,
      ap (λ (held : Held). length held.forks) c.self.view_is,
      length-map c.self.inside.rows.items (fork_in (places_of c.self.inside.rows.items) c.self.inside.others.items),
    ) in
    subst (λ (forks : List Fork). IsForkPublished forks (forks_of (slice_set c.self.inside.rows.items c.args.number (marked c.index_mut.result.now))
    c.self.inside.others.items) c.args.number) (ap (λ (held : Held). held.forks) c.self.view_is)
    (published_forks c.self.inside.rows.items c.self.inside.others.items c.args.number c.index_mut.result.now there c.index_mut.ensures.value)

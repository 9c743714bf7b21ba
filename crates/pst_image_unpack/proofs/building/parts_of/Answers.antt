use Rattle.std.proofs.Common.{◌≡◌, ◌-◌, ◌<◌, ◌^◌, List, length, get_or, map, sym, ap, ◌∙◌, subst, arith}
use Rattle.pst_base.proofs.Below.{length-listed}
use Rattle.pst_repair.proofs.SeenLemmas.{seen_count}
use Rattle.pst_store_meaning.specs.declared.place.Place.{Place}
use Rattle.pst_image_form.specs.declared.parts.VersionPart.{VersionPart}
use Rattle.pst_image_form.specs.declared.parts.NodePart.{NodePart}
use Rattle.pst_image_rules.specs.Versions.{AreInside, HaveOwnRuns}
use Rattle.pst_image_rules.specs.Chains.{AreChains, AreInChains, HaveLives, EndBelow}
use Rattle.pst_image_meaning.specs.Denoted.{nodes_of, relic_of}
use Rattle.pst_image_unpack.specs.Listing.{AreFew, AreOfVersions, HaveParents, no_place, rows_in, forks_in}
use Rattle.pst_repair.specs.Seen.{seen}
use Rattle.pst_image_unpack.proofs.Counting.{of_versions, few}
use Rattle.pst_image_unpack.proofs.Forks.{any_default}
use Rattle.pst_image_unpack.proofs.Built.{range, nested, parents, in_chains, lives, end_below, are_few, listed, are_ready, is_kept, is_rebuilt}
use Rattle.pst_image_unpack.proofs.building.parts_of.Goals as goal

pub order_of_runs-requires-clause-some : goal.order_of_runs-requires-clause-some
order_of_runs-requires-clause-some g c = let i = range c.args.shape.now c.args.parts.now c.requires.valid c.requires.fits c.requires.rules in
    let some = i.some_version in omega (arith, some, ap length c.as_slice-versions.ensures)

pub order_of_runs-requires-clause-inside : goal.order_of_runs-requires-clause-inside
order_of_runs-requires-clause-inside g c = subst (AreInside c.args.parts.now.next_run.0) (sym c.as_slice-versions.ensures)
    (nested c.args.shape.now c.args.parts.now c.requires.valid c.requires.fits c.requires.rules).inside

pub order_of_runs-requires-clause-own_run : goal.order_of_runs-requires-clause-own_run
order_of_runs-requires-clause-own_run g c = subst HaveOwnRuns (sym c.as_slice-versions.ensures) (nested c.args.shape.now c.args.parts.now c.requires.valid c.requires.fits c.requires.rules).own_run

pub places_of-requires-clause-versions : goal.places_of-requires-clause-versions
places_of-requires-clause-versions g c =
    subst (AreOfVersions (length c.as_slice-versions.result.now)) (sym c.deref.ensures.value) (of_versions c.as_slice-versions.result.now c.in_ok-by_run.by_run.items c.in_ok-by_run.ensures)

pub tree_of-requires-clause-parents : goal.tree_of-requires-clause-parents
tree_of-requires-clause-parents g c = subst HaveParents (sym c.as_slice-versions.ensures) (parents c.args.shape.now c.args.parts.now c.requires.valid c.requires.fits c.requires.rules)

pub tree_of-requires-clause-places : goal.tree_of-requires-clause-places
tree_of-requires-clause-places g c = ap length c.deref-2.ensures.value ∙ ap length c.in_ok-places.ensures.2 ∙ length-listed (length c.as_slice-versions.result.now) _

pub forks_of-requires-clause-parents : goal.forks_of-requires-clause-parents
forks_of-requires-clause-parents g c = subst HaveParents (sym c.as_slice-versions.ensures) (parents c.args.shape.now c.args.parts.now c.requires.valid c.requires.fits c.requires.rules)

pub forks_of-requires-clause-places : goal.forks_of-requires-clause-places
forks_of-requires-clause-places g c = ap length c.deref-3.ensures.value ∙ ap length c.in_ok-places.ensures.2 ∙ length-listed (length c.as_slice-versions.result.now) _

pub relics_of-requires-clause-chained : goal.relics_of-requires-clause-chained
relics_of-requires-clause-chained g c = subst AreInChains (sym c.as_slice.ensures) (in_chains c.args.shape.now c.args.parts.now c.requires.valid c.requires.fits c.requires.rules)

pub relics_of-requires-clause-lives : goal.relics_of-requires-clause-lives
relics_of-requires-clause-lives g c = subst HaveLives (sym c.as_slice.ensures) (lives c.args.shape.now c.args.parts.now c.requires.valid c.requires.fits c.requires.rules)

pub relics_of-requires-clause-inside : goal.relics_of-requires-clause-inside
relics_of-requires-clause-inside g c = subst (EndBelow (2 ^ 32)) (sym c.as_slice.ensures) (end_below c.args.shape.now c.args.parts.now c.requires.valid c.requires.fits c.requires.rules)

pub order_of-requires-clause-some : goal.order_of-requires-clause-some
order_of-requires-clause-some g c = let i = range c.args.shape.now c.args.parts.now c.requires.valid c.requires.fits c.requires.rules in let low = i.places_low in omega (arith, low)

pub order_of-requires-clause-few : goal.order_of-requires-clause-few
order_of-requires-clause-few g c =
    let i = range c.args.shape.now c.args.parts.now c.requires.valid c.requires.fits c.requires.rules in
    let high = i.places_high in
    let most = i.run_high in
    omega (arith, high, most)

pub nodes_of-requires : goal.nodes_of-requires
nodes_of-requires g c = record { few = subst (AreFew c.args.shape.now) (sym c.as_slice-2.ensures) (are_few c.args.shape.now c.args.parts.now c.requires.valid c.requires.fits c.requires.rules) }

pub places_of-requires-clause-few : goal.places_of-requires-clause-few
places_of-requires-clause-few g c =
    let runs = range c.args.shape.now c.args.parts.now c.requires.valid c.requires.fits c.requires.rules in
    let one = runs.run_low in
    let most = runs.run_high in
    let less = few c.as_slice-versions.result.now c.in_ok-by_run.by_run.items c.in_ok-by_run.ensures c.args.parts.now.next_run.0 one
    (subst (AreInside c.args.parts.now.next_run.0) (sym c.as_slice-versions.ensures) (nested c.args.shape.now c.args.parts.now c.requires.valid c.requires.fits c.requires.rules).inside) in
    omega (arith, most, less, ap length c.deref.ensures.value)

pub overflow_cast-calls : goal.overflow_cast-calls
overflow_cast-calls g c =
    let runs = range c.args.shape.now c.args.parts.now c.requires.valid c.requires.fits c.requires.rules in
    let one = runs.run_low in
    let most = runs.run_high in
    let less = few c.as_slice-versions.result.now c.in_ok-by_run.by_run.items c.in_ok-by_run.ensures c.args.parts.now.next_run.0 one
    (subst (AreInside c.args.parts.now.next_run.0) (sym c.as_slice-versions.ensures) (nested c.args.shape.now c.args.parts.now c.requires.valid c.requires.fits c.requires.rules).inside) in
    omega (arith, most, less, c.len-calls.ensures)

pub of_list-requires : goal.of_list-requires
of_list-requires g c =
    let h = listed c.args.shape.now c.args.parts.now c.requires.valid c.requires.fits c.requires.rules c.as_slice-versions.result.now
    c.in_ok-by_run.by_run.items c.deref.result.now c.in_ok-places.places.items c.as_slice-versions.ensures c.deref.ensures.value
    c.in_ok-by_run.ensures c.in_ok-places.ensures in
    let are : AreChains c.args.parts.now.nodes c.in_ok-relics.ensures.0 = subst (λ (ks : List NodePart). AreChains ks c.in_ok-relics.ensures.0) c.as_slice.ensures c.in_ok-relics.ensures.1 in
    let ready = are_ready c.args.shape.now c.args.parts.now c.requires.valid c.requires.fits c.requires.rules c.in_ok-by_run.by_run.items c.in_ok-places.places.items h c.in_ok-relics.ensures.0 are
    (g.O.Order.places c.in_ok-order.order) (seen c.in_ok-list.list.list.items) c.in_ok-order.ensures
    (c.in_ok-list.ensures.nodes ∙ ap (nodes_of c.args.shape.now) c.as_slice-2.ensures) in
    record {
      nodes = ready.nodes_are;
      some = (let some = ready.some in omega (arith, some, seen_count c.in_ok-list.list.list.items));
      root = ready.root;
      first = ready.first;
      out = c.in_ok-list.ensures.out;
      small = ready.small;
    }

pub overflow_sub-result-2 : goal.overflow_sub-result-2
overflow_sub-result-2 g c =
    let runs = range c.args.shape.now c.args.parts.now c.requires.valid c.requires.fits c.requires.rules in
    let one = runs.run_low in
    let less = few c.as_slice-versions.result.now c.in_ok-by_run.by_run.items c.in_ok-by_run.ensures c.args.parts.now.next_run.0 one
    (subst (AreInside c.args.parts.now.next_run.0) (sym c.as_slice-versions.ensures) (nested c.args.shape.now c.args.parts.now c.requires.valid c.requires.fits c.requires.rules).inside) in
    omega (arith, less, c.len-calls.ensures)

pub overflow_sub-result : goal.overflow_sub-result
overflow_sub-result g c = let i = range c.args.shape.now c.args.parts.now c.requires.valid c.requires.fits c.requires.rules in let low = i.run_low in omega (arith, low)

pub returns-clause-kept : goal.returns-clause-kept
returns-clause-kept g c =
    let h = listed c.args.shape.now c.args.parts.now c.requires.valid c.requires.fits c.requires.rules c.as_slice-versions.result.now
    c.in_ok-by_run.by_run.items c.deref.result.now c.in_ok-places.places.items c.as_slice-versions.ensures c.deref.ensures.value
    c.in_ok-by_run.ensures c.in_ok-places.ensures in
    let are : AreChains c.args.parts.now.nodes c.in_ok-relics.ensures.0 = subst (λ (ks : List NodePart). AreChains ks c.in_ok-relics.ensures.0) c.as_slice.ensures c.in_ok-relics.ensures.1 in
    let runs = range c.args.shape.now c.args.parts.now c.requires.valid c.requires.fits c.requires.rules in
    let some = runs.some_version in
    let many = ap length c.in_ok-places.ensures.2 ∙ length-listed (length c.as_slice-versions.result.now) _ in
    let there : 0 < length c.in_ok-places.places.items = omega (arith, some, many, ap length c.as_slice-versions.ensures) in
    let start : c.index.result.now ≡ get_or c.in_ok-places.places.items 0 no_place = c.index.ensures ∙ any_default c.in_ok-places.places.items 0 c.index.result.now no_place there in
    let nodes = c.in_ok-nodes.ensures.nodes ∙ c.in_ok-list.ensures.nodes ∙ ap (nodes_of c.args.shape.now) c.as_slice-2.ensures in
    let versions = c.in_ok-tree.ensures ∙ ap (λ (vs : List VersionPart). rows_in vs c.deref-2.result.now) c.as_slice-versions.ensures
    ∙ ap (rows_in c.args.parts.now.versions) c.deref-2.ensures.value in
    let forks = c.in_ok-forks.ensures ∙ ap (λ (vs : List VersionPart). forks_in vs c.deref-3.result.now c.deref-4.result.now) c.as_slice-versions.ensures
    ∙ ap (λ (ps : List Place). forks_in c.args.parts.now.versions ps c.deref-4.result.now) c.deref-3.ensures.value
    ∙ ap (forks_in c.args.parts.now.versions c.in_ok-places.places.items) c.deref-4.ensures.value in
    let calls : c.len-calls.result ≡ length c.in_ok-by_run.by_run.items = omega (arith, c.len-calls.ensures, c.in_ok-by_run.by_run.ok) in
    let relics = c.in_ok-relics.ensures.2 ∙ ap (λ (ks : List NodePart). map (relic_of ks) c.in_ok-relics.ensures.0) c.as_slice.ensures in
    is_kept c.args.shape.now c.args.parts.now c.requires.valid c.requires.fits c.requires.rules c.in_ok-by_run.by_run.items c.in_ok-places.places.items h c.in_ok-relics.ensures.0 are _
    (λ i. record {
      shape = c.in_ok-copy.ensures i;
      places = c.in_ok-order.ensures i;
      nodes = nodes i;
      noted = g.N.FatNodes.noted c.in_ok-nodes.nodes;
      start = start i;
      versions = versions i;
      forks = forks i;
      calls = calls i;
      relics = relics i;
      spent = c.args.parts.now.next_run.0 - 1 - calls i;
      counts = c.args.parts.now.counts;
    })
    c.in_ok-nodes.ensures.waiting c.in_ok-nodes.ensures.held

pub returns-clause-rebuilt : goal.returns-clause-rebuilt
returns-clause-rebuilt g c =
    let h = listed c.args.shape.now c.args.parts.now c.requires.valid c.requires.fits c.requires.rules c.as_slice-versions.result.now
    c.in_ok-by_run.by_run.items c.deref.result.now c.in_ok-places.places.items c.as_slice-versions.ensures c.deref.ensures.value
    c.in_ok-by_run.ensures c.in_ok-places.ensures in
    let are : AreChains c.args.parts.now.nodes c.in_ok-relics.ensures.0 = subst (λ (ks : List NodePart). AreChains ks c.in_ok-relics.ensures.0) c.as_slice.ensures c.in_ok-relics.ensures.1 in
    let runs = range c.args.shape.now c.args.parts.now c.requires.valid c.requires.fits c.requires.rules in
    let some = runs.some_version in
    let many = ap length c.in_ok-places.ensures.2 ∙ length-listed (length c.as_slice-versions.result.now) _ in
    let there : 0 < length c.in_ok-places.places.items = omega (arith, some, many, ap length c.as_slice-versions.ensures) in
    let start : c.index.result.now ≡ get_or c.in_ok-places.places.items 0 no_place = c.index.ensures ∙ any_default c.in_ok-places.places.items 0 c.index.result.now no_place there in
    let nodes = c.in_ok-nodes.ensures.nodes ∙ c.in_ok-list.ensures.nodes ∙ ap (nodes_of c.args.shape.now) c.as_slice-2.ensures in
    let versions = c.in_ok-tree.ensures ∙ ap (λ (vs : List VersionPart). rows_in vs c.deref-2.result.now) c.as_slice-versions.ensures
    ∙ ap (rows_in c.args.parts.now.versions) c.deref-2.ensures.value in
    let forks = c.in_ok-forks.ensures ∙ ap (λ (vs : List VersionPart). forks_in vs c.deref-3.result.now c.deref-4.result.now) c.as_slice-versions.ensures
    ∙ ap (λ (ps : List Place). forks_in c.args.parts.now.versions ps c.deref-4.result.now) c.deref-3.ensures.value
    ∙ ap (forks_in c.args.parts.now.versions c.in_ok-places.places.items) c.deref-4.ensures.value in
    let calls : c.len-calls.result ≡ length c.in_ok-by_run.by_run.items = omega (arith, c.len-calls.ensures, c.in_ok-by_run.by_run.ok) in
    let relics = c.in_ok-relics.ensures.2 ∙ ap (λ (ks : List NodePart). map (relic_of ks) c.in_ok-relics.ensures.0) c.as_slice.ensures in
    is_rebuilt c.args.shape.now c.args.parts.now c.requires.valid c.requires.fits c.requires.rules c.in_ok-by_run.by_run.items c.in_ok-places.places.items h c.in_ok-relics.ensures.0 are _
    (λ i. record {
      shape = c.in_ok-copy.ensures i;
      places = c.in_ok-order.ensures i;
      nodes = nodes i;
      noted = g.N.FatNodes.noted c.in_ok-nodes.nodes;
      start = start i;
      versions = versions i;
      forks = forks i;
      calls = calls i;
      relics = relics i;
      spent = c.args.parts.now.next_run.0 - 1 - calls i;
      counts = c.args.parts.now.counts;
    })
    c.in_ok-nodes.ensures.rested c.in_ok-nodes.ensures.all

-- What is made of the parts of an image that keep the rules is a store, and the one that they tell of.
use Rattle.std.proofs.Common.{◌≡◌, ℕ, ◌-◌, ◌<◌, ◌^◌, List, [], length, get_or, map, refl, sym, ap, ◌∙◌, subst, arith}
use Rattle.std.specs.Prelude.{None}
use Rattle.std.proofs.lemmas.Option.{get_or_from_slice_get}
use Rattle.pst_base.specs.declared.shape.TypeShape.{TypeShape}
use Rattle.pst_base.specs.Name.{root_name}
use Rattle.pst_base.specs.Shape.{IsValid}
use Rattle.pst_mirror.proofs.CapacityLemmas.{capacity_few, slots_few}
use Rattle.pst_store_meaning.specs.declared.place.Place.{Place}
use Rattle.pst_store_meaning.specs.Store.{Node, Noted, Stored, arena, end_of, IsStore, AreHeld, AreAllHeld}
use Rattle.pst_store_meaning.proofs.Places.{slice_get-below}
use Rattle.pst_store_arena.specs.Calls.{AreNodes as AreArenaNodes, AreWaiting, IsOverFull, arena_at}
use Rattle.pst_store.specs.Calls.{AreCounted, IsKept}
use Rattle.pst_image_form.specs.declared.parts.VersionPart.{VersionPart}
use Rattle.pst_image_form.specs.declared.parts.ImageParts.{ImageParts}
use Rattle.pst_image_form.specs.Bytes.{Fits, FitsNode}
use Rattle.pst_image_rules.specs.Versions.{IsInRange, AreNested, IsOrderOfRuns}
use Rattle.pst_image_rules.specs.Nodes.{no_node, node_at, AreNodes}
use Rattle.pst_image_rules.specs.Chains.{HaveLives, EndBelow, AreInChains, AreChained, AreChains}
use Rattle.pst_image_rules.specs.declared.ends.Chain.{Chain}
use Rattle.pst_image_rules.specs.Capacity.{AreWithinCapacity}
use Rattle.pst_image_rules.specs.declared.rule.Rule.TheVariants.{Ranges, Versions, Nodes, Chains, Capacity}
use Rattle.pst_image_rules.specs.Rules.{IsJudged}
use Rattle.pst_image_meaning.specs.Denoted.{nodes_of, places_of, relic_of}
use Rattle.pst_image_meaning.specs.Made.{IsMade, IsRebuilt}
use Rattle.pst_image_meaning.proofs.Lists.{all_at}
use Rattle.pst_image_meaning.proofs.Given.{given}
use Rattle.pst_image_meaning.proofs.StoreBounds.{small}
use Rattle.pst_image_meaning.proofs.Rebuilt.{made_is_store, made_is_rebuilt}
use Rattle.pst_image_unpack.specs.Listing.{HasFew, AreFew, HasNumbers, HaveParents, no_place, places_in, rows_in, forks_in}
use Rattle.pst_image_unpack.proofs.Counting.{few}
use Rattle.pst_image_unpack.proofs.Forks.{have_parents, AreListed, start_is, versions_back, first_is, forks_are}

-- nodes that an arena can be made of
pub record AreReady (shape : List TypeShape) (places : List ℕ) (nodes : List Node) : Type 0 where
  pub nodes_are : AreArenaNodes shape places nodes
  pub some : 0 < length nodes
  pub root : (arena_at places nodes).name 0 ≡ root_name
  pub first : (arena_at places nodes).lo 0 ≡ 0
  pub small : (i : ℕ) → IsOverFull shape nodes i → ⊥

module _ (shape : List TypeShape) (p : ImageParts) (valid : IsValid shape) (fits : Fits p) (rules : IsJudged shape p None) where
  pub range : IsInRange p
  range = rules Ranges

  pub nested : AreNested p.versions p.places p.next_run.0
  nested = rules Versions

  are_nodes : AreNodes shape p.places p.nodes
  are_nodes = rules Nodes

  chained : AreChained p.places p.next_run.0 p.nodes
  chained = rules Chains

  within : AreWithinCapacity shape p.nodes
  within = rules Capacity

  -- ---- what the lists are made of

  pub parents : HaveParents p.versions
  parents = have_parents p.versions p.places p.next_run.0 range.some_version nested

  pub in_chains : AreInChains p.nodes
  in_chains = (p.places, (p.next_run.0, chained))

  pub lives : HaveLives p.nodes
  lives i l = (are_nodes i l).life

  pub end_below : EndBelow (2 ^ 32) p.nodes
  end_below i l = (let inside = (are_nodes i l).inside in let most = fits.places in omega (arith, inside, most))

  has_few : (i : ℕ) → i < length p.nodes → HasFew shape (node_at p.nodes i)
  has_few i l = record {
    known = (are_nodes i l).known;
    slots = (all_at FitsNode p.nodes no_node fits.nodes i l).slots;
    stamped =
        let most = within i l in
        let few = (capacity_few shape (node_at p.nodes i).ty valid (are_nodes i l).known).1 in
        omega (arith, most, few);
    narrow = λ (j : ℕ) (m : j < length (node_at p.nodes i).stamps).
        let slot = ((are_nodes i l).stamps j m).slot in
        let slots = (are_nodes i l).slots in
        omega (arith, slot, slots, slots_few shape (node_at p.nodes i).ty valid (are_nodes i l).known);
  }

  pub are_few : AreFew shape p.nodes
  are_few i k e = subst (HasFew shape) (get_or_from_slice_get p.nodes i k no_node e) (has_few i (slice_get-below p.nodes i k e))

  -- the lists, as they were made of slices
  pub listed : (vs : List VersionPart) (by_run slice : List ℕ) (places : List Place) → vs ≡ p.versions → slice ≡ by_run → IsOrderOfRuns vs by_run
      → (numbers : List ℕ) × HasNumbers (length vs) slice numbers × (places ≡ places_in vs numbers) → AreListed p.versions p.places p.next_run.0 by_run places
  listed vs by_run slice places e d order found = record {
    some = range.some_version;
    nested = nested;
    order = subst (λ (vs : List VersionPart). IsOrderOfRuns vs by_run) e order;
    numbers = found.0;
    has = subst (λ (vs : List VersionPart). HasNumbers (length vs) by_run found.0) e (subst (λ (r : List ℕ). HasNumbers (length vs) r found.0) d found.1);
    places_are = found.2 ∙ ap (λ (vs : List VersionPart). places_in vs found.0) e;
  }

  module _ (by_run : List ℕ) (places : List Place) (h : AreListed p.versions p.places p.next_run.0 by_run places) (chains : List Chain) (are : AreChains p.nodes chains) where
    -- the store, with what is noted beside its nodes
    abbrev pub store_of : Noted → Stored
    store_of noted = record {
      shape = shape;
      places = places_of p.places;
      nodes = nodes_of shape p.nodes;
      noted = noted;
      start = get_or places 0 no_place;
      versions = rows_in p.versions places;
      forks = forks_in p.versions places by_run;
      calls = length by_run;
      relics = map (relic_of p.nodes) chains;
      spent = p.next_run.0 - 1 - length by_run;
      counts = p.counts;
    }

    pub fewer : length by_run < p.next_run.0
    fewer = few p.versions by_run h.order p.next_run.0 range.run_low nested.inside

    made : (noted : Noted) → IsMade shape p (store_of noted)
    made noted = record {
      shape_is = refl;
      places = refl;
      nodes = refl;
      start = start_is p.versions p.places p.next_run.0 by_run places h;
      versions = versions_back p.versions p.places p.next_run.0 by_run places h;
      first = first_is p.versions p.places p.next_run.0 by_run places h (store_of noted) refl refl refl;
      forks = forks_are p.versions p.places p.next_run.0 by_run places h (store_of noted) refl refl refl;
      chains = chains;
      are_chains = are;
      relics = refl;
      spent = omega (arith, fewer);
      counts = refl;
    }

    store : (noted : Noted) → IsStore (store_of noted)
    store noted = made_is_store shape p (store_of noted) valid fits rules (made noted)

    -- ---- its nodes

    abbrev none : Noted
    none = record { queue = []; roots = []; seen = 0 }

    ready : AreReady shape (places_of p.places) (nodes_of shape p.nodes)
    ready = record {
      nodes_are = record { rows = (store none).rows; wide = (store none).wide; end = end_of (store_of none) (store_of none).start; arena = (store none).arena };
      some = (store none).rooted.some;
      root = (store none).rooted.name;
      first = (store none).rooted.begins;
      small = λ i over.
          let most = small (store_of none) p (given shape p (store_of none) valid fits rules (made none)) i over.node over.there in
          let more = over.over in
          absurd (omega (arith, most, more));
    }

    pub are_ready : (order : List ℕ) (nodes : List Node) → order ≡ places_of p.places → nodes ≡ nodes_of shape p.nodes → AreReady shape order nodes
    are_ready order nodes d e =
        subst (λ (qs : List ℕ). AreReady shape qs nodes) (sym d) (subst (AreReady shape (places_of p.places)) (sym e) ready)

    -- ---- the whole

    module _ (s : Stored) (e : s ≡ store_of s.noted) where
      counted : AreCounted s.counts
      counted = subst AreCounted (sym (ap (λ (t : Stored). t.counts) e)) (
          let records = range.records in
          let pointer_writes = range.pointer_writes in
          let value_writes = range.value_writes in
          record { records = omega (arith, records); pointer_writes = omega (arith, pointer_writes); value_writes = omega (arith, value_writes) })

      pub is_kept : AreWaiting shape s.nodes s.noted.queue → AreHeld (arena s) s.noted → IsKept s
      is_kept waiting held = record {
        store = subst IsStore (sym e) (store s.noted);
        waiting = subst (λ (t : List TypeShape). AreWaiting t s.nodes s.noted.queue) (sym (ap (λ (t : Stored). t.shape) e)) waiting;
        held = held;
        counted = counted;
      }

      pub is_rebuilt : s.noted.queue ≡ [] → AreAllHeld (arena s) s.noted → IsRebuilt shape p s
      is_rebuilt rested held = made_is_rebuilt shape p s valid fits rules (subst (IsMade shape p) (sym e) (made s.noted)) rested held

-- The versions of a store that is made of an image, and its bounds.
use Rattle.std.proofs.Common.{◌≡◌, ◌≢◌, ℕ, ◌+◌, ◌-◌, ◌*◌, ◌<◌, ◌≤◌, ◌^◌, List, length, Some, sym, ap, ◌∙◌, inl, inr, subst, ⊎_elim, arith}
use Rattle.std.specs.Prelude.{slice_get, sum_by}
use Rattle.std.proofs.lemmas.Bool.{cases_eq}
use Rattle.std.proofs.lemmas.List.{length-map}
use Rattle.pst_base.specs.declared.names.Counts.{Counts}
use Rattle.pst_base.specs.declared.names.Name.{Name}
use Rattle.pst_base.specs.Shape.{type_at}
use Rattle.pst_order.specs.Places.{rank}
use Rattle.pst_program.specs.Sound.{CountsWithin}
use Rattle.pst_versions.specs.declared.rows.VersionRow.{VersionRow}
use Rattle.pst_versions.specs.Rows.{first_row}
use Rattle.pst_mirror.specs.Potential.{potential, capacity}
use Rattle.pst_store_meaning.specs.declared.place.Place.{Place}
use Rattle.pst_store_meaning.specs.Store.{Node, Stored, arena, loads, bound}
use Rattle.pst_image_form.specs.declared.parts.VersionPart.{VersionPart}
use Rattle.pst_image_form.specs.declared.parts.ImageParts.{ImageParts}
use Rattle.pst_image_rules.specs.Versions.{no_version, version_at, AreNested}
use Rattle.pst_image_rules.specs.Nodes.{node_at}
use Rattle.pst_image_rules.specs.Capacity.{excess, bound_of}
use Rattle.pst_image_meaning.specs.Parts.{version_part, version_parts}
use Rattle.pst_image_meaning.specs.Versions.{AreVersionsNested}
use Rattle.pst_image_meaning.specs.Left.{AreNamed, IsLeftStore, AreSmall}
use Rattle.pst_image_meaning.proofs.Nodes.{slice_get-there, part_in}
use Rattle.pst_image_meaning.proofs.Versions.{versions_law}
use Rattle.pst_image_meaning.specs.Denoted.{stamp_of as stamp_made}
use Rattle.pst_image_meaning.proofs.PartBounds.{excess_is}
use Rattle.pst_image_meaning.proofs.Given.{Given}
use Rattle.pst_image_meaning.proofs.Back.{place_count, node_count, node_is, part_there, version_count, versions_shown, nodes_shown}
use Rattle.pst_image_meaning.proofs.ChainsStore.{name_is, root_named}

module _ (s : Stored) (p : ImageParts) (h : Given s p) where
  abbrev r : ℕ → ℕ
  r = rank s.places

  pub two : 2 ≤ length s.places
  two = (let low = h.range.places_low in omega (arith, low, place_count s p h))

  pub most : length s.places ≤ 2 * (s.calls + s.spent) + 2
  most = (let high = h.range.places_high in let spent = h.made.spent in omega (arith, high, spent, place_count s p h))

  pub spent : s.spent ≤ 1048576
  spent = (let high = h.range.run_high in let spent = h.made.spent in omega (arith, high, spent))

  pub runs : s.calls + s.spent < p.next_run.0
  runs = (let spent = h.made.spent in omega (arith, spent))

  -- ---- versions

  first_is : (row : VersionRow Place) → slice_get s.versions 0 ≡ Some row → row ≡ first_row s.start
  first_is row e =
      let is : version_at p.versions 0 ≡ version_part (λ n. n) row = ap (λ (vs : List VersionPart). version_at vs 0) (sym h.made.versions)
      ∙ part_in (version_part (λ n. n)) no_version s.versions 0 row e in
      let parent : row.parent.0 ≡ 0 = sym (ap (λ (v : VersionPart). v.parent.0) is) ∙ h.nested.root.parent in
      let run : row.run.0 ≡ 0 = sym (ap (λ (v : VersionPart). v.run.0) is) ∙ h.nested.root.run in
      let place = h.made.first row e in
      λ i. record { parent = record { 0 = parent i }; run = record { 0 = run i }; place = place i }

  root_row : slice_get s.versions 0 ≡ Some (first_row s.start)
  root_row =
      let some = h.range.some_version in
      let x = slice_get-there s.versions 0 (omega (arith, some, version_count s p h)) in
      x.1 ∙ ap Some (first_is x.0 x.1)

  pub versions : AreVersionsNested s p.next_run.0
  versions =
      let nested : AreNested (version_parts s) (length s.places) p.next_run.0 =
      subst (λ (n : ℕ). AreNested (version_parts s) n p.next_run.0) (sym (place_count s p h))
      (subst (λ (vs : List VersionPart). AreNested vs p.places p.next_run.0) (sym (versions_shown s p h)) h.nested) in
      (versions_law s p.next_run.0 two root_row).1 nested

  -- ---- nodes

  pub bounded : length s.nodes + potential (loads s) ≤ bound s.counts
  bounded =
      let sum : sum_by (excess s.shape) p.nodes ≡ potential (loads s) = ap (sum_by (excess s.shape)) (sym (nodes_shown s p h)) ∙ excess_is s.shape r s.nodes in
      let most : length p.nodes + sum_by (excess s.shape) p.nodes ≤ bound_of s.counts =
      subst (λ (c : Counts). length p.nodes + sum_by (excess s.shape) p.nodes ≤ bound_of c) (sym h.made.counts) h.bounded in
      omega (arith, most, sum, node_count s p h)

  pub small : AreSmall s
  small i n e =
      let l = part_there s p h i n e in
      let few = h.small i l in
      subst (λ (n : Node). length n.row.stamps ≤ capacity (type_at s.shape n.head.ty)) (sym (node_is s p h i n e))
      (omega (arith, few, length-map (node_at p.nodes i).stamps (stamp_made (type_at s.shape (node_at p.nodes i).ty))))

  named : AreNamed s p.next_run.0
  named i l =
      let m : i < length p.nodes = omega (arith, l, node_count s p h) in
      let is = h.chained.named i m in
      let name = name_is s p h i m in
      ⊎_elim
      (λ (root : (node_at p.nodes i).name.run.0 ≡ 0). inl (name ∙ root_named (node_at p.nodes i).name (is.root_run root)))
      (λ (other : (node_at p.nodes i).name.run.0 ≢ 0).
      let run : ((arena s).name i).run.0 ≡ (node_at p.nodes i).name.run.0 = ap (λ (n : Name). n.run.0) name in
      inr (λ e. other (sym run ∙ e), let below = is.run in omega (arith, below, run)))
      (cases_eq (node_at p.nodes i).name.run.0 0)

  counts : CountsWithin s.counts (2 ^ 50)
  counts = subst (λ (c : Counts). CountsWithin c (2 ^ 50)) (sym h.made.counts) (record { records = h.range.records; pointer_writes = h.range.pointer_writes; value_writes = h.range.value_writes })

  pub left : IsLeftStore s p.next_run.0
  left = record {
    places = (let high = h.range.places_high in omega (arith, high, place_count s p h));
    versions = versions;
    named = named;
    counts = counts;
  }

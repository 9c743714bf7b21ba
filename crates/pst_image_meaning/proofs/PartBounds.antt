-- What a store shows is within the bounds of an image: ranges, capacity, the number of nodes; and each number fits its type.
use Rattle.std.proofs.Common.{◌≡◌, ℕ, ◌+◌, ◌-◌, ◌*◌, ◌≤◌, List, [], ◌∷◌, length, map, refl, sym, ap, ap₂, ◌∙◌, subst, arith}
use Rattle.std.specs.Prelude.{sum_by}
use Rattle.std.proofs.lemmas.List.{length-map}
use Rattle.std.proofs.lemmas.List.Sums.{sum_by-cons}
use Rattle.pst_base.specs.declared.shape.TypeShape.{TypeShape}
use Rattle.pst_order.specs.Places.{rank}
use Rattle.pst_mirror.specs.Potential.{potential, excess as excess_of}
use Rattle.pst_store_meaning.specs.Store.{Node, Stored, load_of, IsStore}
use Rattle.pst_image_form.specs.declared.parts.NodePart.{NodePart}
use Rattle.pst_image_rules.specs.Versions.{IsInRange}
use Rattle.pst_image_rules.specs.Capacity.{half, excess, AreWithinCapacity, IsBounded}
use Rattle.pst_image_meaning.specs.Parts.{stamp_part, node_part, node_parts, version_part, parts_of}
use Rattle.pst_image_meaning.specs.Left.{IsLeftStore, AreNumbers, AreSmall}
use Rattle.pst_image_meaning.proofs.Nodes.{there, part_at}

-- the potential of the nodes is the sum of what their parts have above half their capacity
pub excess_is : (shape : List TypeShape) (r : ℕ → ℕ) (nodes : List Node) → sum_by (excess shape) (map (node_part r) nodes) ≡ potential (map (load_of shape) nodes)
excess_is shape r [] = refl
excess_is shape r (n ∷ ns) =
    sum_by-cons (excess shape) (node_part r n) (map (node_part r) ns)
    ∙ ap₂ (λ a b. a + b) (ap (λ m. m - half shape (node_part r n)) (length-map n.row.stamps (stamp_part r))) (excess_is shape r ns)
    ∙ sym (sum_by-cons excess_of (load_of shape n) (map (load_of shape) ns))

module _ (s : Stored) (h : IsStore s) where
  abbrev ks : List NodePart
  ks = node_parts s

  pub bounded : IsBounded s.shape s.counts ks
  bounded = omega (arith, h.bounded, length-map s.nodes (node_part (rank s.places)), excess_is s.shape (rank s.places) s.nodes)

  pub within : AreSmall s → AreWithinCapacity s.shape ks
  within q i l =
      let x = there s h i l in
      let small = q i x.0 x.1 in
      subst (λ (k : NodePart). length k.stamps ≤ 2 * half s.shape k) (sym (part_at s h i x.0 x.1)) (omega (arith, small, length-map x.0.row.stamps (stamp_part (rank s.places))))

  pub in_range : (text : List ℕ) (next budget : ℕ) → IsLeftStore s next → AreNumbers next budget → IsInRange (parts_of s text next budget)
  in_range text next budget left n = record {
    budget_low = n.budget_low;
    budget_high = n.budget_high;
    run_low = n.next_low;
    run_high = n.next_high;
    records = left.counts.records;
    pointer_writes = left.counts.pointer_writes;
    value_writes = left.counts.value_writes;
    places_low = omega (arith, h.nested.some, h.nested.last);
    places_high = left.places;
    some_version = omega (arith, h.versions.tree.some, length-map s.versions (version_part (rank s.places)));
    some_node = omega (arith, h.rooted.some, length-map s.nodes (node_part (rank s.places)));
  }

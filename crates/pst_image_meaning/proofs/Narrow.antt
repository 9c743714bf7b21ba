-- The numbers in the nodes of a store are small.
use Rattle.std.proofs.Common.{◌≡◌, ℕ, ◌<◌, ◌≤◌, length, get_or, Some, None, ap, ◌∙◌, subst, arith}
use Rattle.std.specs.Prelude.{slice_get, ◌^◌}
use Rattle.std.specs.Option.{option_map}
use Rattle.pst_base.specs.declared.names.TypeNo.{TypeNo}
use Rattle.pst_order.specs.Places.{rank}
use Rattle.pst_program.specs.Sound.{CountsWithin}
use Rattle.pst_mirror.proofs.CapacityLemmas.{slots_few}
use Rattle.pst_rows.specs.declared.content.Content.{Content}
use Rattle.pst_rows.specs.declared.content.Content.TheVariants.{Number, Null, Free, Target as TargetOf, From as FromOf}
use Rattle.pst_rows.specs.Rows.{no_stamp}
use Rattle.pst_store_meaning.specs.Store.{Node, Stored, arena, IsStore}
use Rattle.pst_store_meaning.proofs.Places.{slice_get-below}
use Rattle.pst_image_meaning.specs.Narrow.{IsSmallContent, IsNarrow}
use Rattle.pst_image_meaning.specs.LawsParts.{NarrowLaw}
use Rattle.pst_image_meaning.proofs.Nodes.{of_node-there, type_is, from_lives, target_lives, base_held, stamp_held}

module _ (s : Stored) (h : IsStore s) (few : CountsWithin s.counts (2 ^ 50)) where
  abbrev r : ℕ → ℕ
  r = rank s.places

  -- there are as many nodes as the counts pay for, and no more
  few_nodes : length s.nodes < 2 ^ 56
  few_nodes = omega (arith, h.bounded, few.records, few.pointer_writes, few.value_writes)

  small_held : (i g m : ℕ) (c : Content) → (arena s).chart.holds i g m ≡ c → IsSmallContent c
  small_held i g m (Number n) e = tt
  small_held i g m Null e = tt
  small_held i g m (TargetOf y) e = (let x = h.arena.mirrored.found i g m y.0 e in let l = (from_lives s h y.0 x.0 m i g x.1).there in omega (arith, l, few_nodes))
  small_held i g m Free e = tt
  small_held i g m (FromOf x f) e = (let back = h.arena.mirrored.back i g m x.0 f.0 e in let l = (target_lives s h x.0 f.0 m i back).there in omega (arith, l, few_nodes))

  narrow : (i : ℕ) (n : Node) → slice_get s.nodes i ≡ Some n → IsNarrow n
  narrow i n e = record {
    slots =
        let known = h.arena.known i (slice_get-below s.nodes i n e) in
        let most = slots_few s.shape n.head.ty h.valid (subst (λ (t : TypeNo). t.0 < length s.shape) (type_is s h i n e) known) in
        omega (arith, most, h.wide i n e);
    bases = λ g l. small_held i g (r n.row.lo.0) _ (base_held s h i n e g);
    stamps = λ k l. small_held i (get_or n.row.stamps k no_stamp).slot.0 (r (get_or n.row.stamps k no_stamp).place.0) _ (stamp_held s h i n e k l);
    later = λ j q.
        let there : (arena s).later i ≡ Some j.0 = of_node-there (λ n. option_map (λ i. i.0) n.head.later) None s.nodes i n e ∙ ap (option_map (λ i. i.0)) q in
        let l = (h.arena.chained.next i j.0 (slice_get-below s.nodes i n e) there).0 in
        omega (arith, l, few_nodes);
  }

pub narrow_law : NarrowLaw
narrow_law s h few i n e = narrow s h few i n e

-- What a store shows as nodes is in chains.
use Rattle.std.proofs.Common.{◌≡◌, ◌≢◌, ℕ, zero, suc, ◌+◌, ◌<◌, ◌≤◌, List, length, Option, Some, None, refl, sym, ap, ◌∙◌, ◌⊎◌, inl, inr, ⊎_elim, arith}
use Rattle.std.specs.Option.{option_map}
use Rattle.std.proofs.lemmas.Bool.{cases_eq}
use Rattle.pst_base.specs.declared.names.Name.{Name}
use Rattle.pst_base.specs.declared.names.NodeId.{NodeId}
use Rattle.pst_base.specs.declared.names.TypeNo.{TypeNo}
use Rattle.pst_base.specs.Name.{root_name}
use Rattle.pst_base.specs.Shape.{root_type}
use Rattle.pst_store_meaning.specs.Arena.{Arena, AreChained as AreArenaChained}
use Rattle.pst_store_meaning.specs.Store.{Stored, arena, end_of, IsStore}
use Rattle.pst_image_form.specs.declared.parts.NodePart.{NodePart}
use Rattle.pst_image_rules.specs.Nodes.{node_at}
use Rattle.pst_image_rules.specs.Chains.{IsRootName, IsSameName, Leads, IsNamed, AreChained}
use Rattle.pst_image_meaning.specs.Parts.{link_number, node_parts}
use Rattle.pst_image_meaning.specs.Left.{AreNamed}
use Rattle.pst_image_meaning.proofs.Nodes.{of_node-there, count, there, part_at, part_type, value}
use Rattle.pst_image_meaning.proofs.MirrorParts.{part_lo, part_hi}

-- ---- links as numbers

linked : (o : Option NodeId) (j : ℕ) → option_map (λ i. i.0) o ≡ Some j → link_number o ≡ suc j
linked None j e = absurd (cc)
linked (Some k) j e = (let same : k.0 ≡ j = cc in ap suc same)

link_of : (o : Option NodeId) (j : ℕ) → link_number o ≡ suc j → option_map (λ i. i.0) o ≡ Some j
link_of None j e = absurd (omega (arith, e))
link_of (Some k) j e = ap Some (let same : k.0 ≡ j = omega (arith, e) in same)

no_link : (o : Option NodeId) → link_number o ≡ 0 → option_map (λ i. i.0) o ≡ None
no_link None e = refl
no_link (Some k) e = absurd (omega (arith, e))

-- ---- names

named : (n : Name) → IsRootName n → n ≡ root_name
named n e = λ i. record { run = record { 0 = e.run i }; ordinal = e.ordinal i }

root_is : (n : Name) → n ≡ root_name → IsRootName n
root_is n e = record { run = ap (λ (m : Name). m.run.0) e; ordinal = ap (λ (m : Name). m.ordinal) e }

same_is : (a b : Name) → a ≡ b → IsSameName a b
same_is a b e = record { run = ap (λ (m : Name). m.run.0) e; ordinal = ap (λ (m : Name). m.ordinal) e }

one_name : (a b : Name) → IsSameName a b → a ≡ b
one_name a b e = λ i. record { run = record { 0 = e.run i }; ordinal = e.ordinal i }

module _ (s : Stored) (h : IsStore s) where
  abbrev ks : List NodePart
  ks = node_parts s

  abbrev w : Arena
  w = arena s

  c : AreArenaChained w
  c = h.arena.chained

  in_store : (i : ℕ) → i < length ks → i < w.count
  in_store i l = omega (arith, l, count s h)

  in_parts : (i : ℕ) → i < w.count → i < length ks
  in_parts i l = omega (arith, l, count s h)

  part_name : (i : ℕ) → i < length ks → (node_at ks i).name ≡ w.name i
  part_name i l = let x = there s h i l in ap (λ (k : NodePart). k.name) (part_at s h i x.0 x.1) ∙ sym (of_node-there (λ n. n.head.name) root_name s.nodes i x.0 x.1)

  later_is : (i : ℕ) (l : i < length ks) → w.later i ≡ option_map (λ i. i.0) (there s h i l).0.head.later
  later_is i l = let x = there s h i l in of_node-there (λ n. option_map (λ i. i.0) n.head.later) None s.nodes i x.0 x.1

  part_later : (i : ℕ) (l : i < length ks) → (node_at ks i).later ≡ link_number (there s h i l).0.head.later
  part_later i l = let x = there s h i l in ap (λ (k : NodePart). k.later) (part_at s h i x.0 x.1)

  to_part : (i j : ℕ) → i < length ks → w.later i ≡ Some j → (node_at ks i).later ≡ suc j
  to_part i j l e = part_later i l ∙ linked (there s h i l).0.head.later j (sym (later_is i l) ∙ e)

  from_part : (i j : ℕ) → i < length ks → (node_at ks i).later ≡ suc j → w.later i ≡ Some j
  from_part i j l e = later_is i l ∙ link_of (there s h i l).0.head.later j (sym (part_later i l) ∙ e)

  last_part : (i : ℕ) → i < length ks → (node_at ks i).later ≡ 0 → w.later i ≡ None
  last_part i l e = later_is i l ∙ no_link (there s h i l).0.head.later (sym (part_later i l) ∙ e)

  -- a node leads to each one of its record that begins behind its end
  reaches : (fuel i j : ℕ) → i < w.count → j < w.count → w.name i ≡ w.name j → w.hi i ≤ w.lo j → w.lo j < w.hi i + fuel → Leads ks i j
  reaches zero i j l k same late f = absurd (omega arith)
  reaches (suc fuel) i j l k same late f =
      elim (w.later i) as (λ (o : Option ℕ). w.later i ≡ o → Leads ks i j) [
        | None ↦ λ e. absurd (omega (arith, c.last i j l k e (sym same), c.some j k))
        | Some m ↦ λ e.
            let x = c.next i m l e in
            let named : w.name m ≡ w.name j = x.1 ∙ same in
            ⊎_elim
            (λ (q : m ≡ j). (1, (m, to_part i m (in_parts i l) e, q)))
            (λ (ne : m ≢ j). elim (c.apart m j x.0 k ne named) [
              | inl h ↦ (let rest = reaches fuel m j x.0 k named h (omega (arith, x.2, c.some m x.0)) in (suc rest.0, (m, to_part i m (in_parts i l) e, rest.1)))
              | inr h ↦ absurd (omega (arith, h, x.2, c.some j k))
            ])
            (cases_eq m j)
      ] refl

  one : (i j : ℕ) → i < w.count → j < w.count → w.name i ≡ w.name j → Leads ks i j ⊎ Leads ks j i
  one i j l k same = ⊎_elim
      (λ (q : i ≡ j). inl (0, q))
      (λ (ne : i ≢ j). elim (c.apart i j l k ne same) [
        | inl h ↦ inl (reaches (w.lo j + 1) i j l k same h (omega arith))
        | inr h ↦ inr (reaches (w.lo i + 1) j i k l (sym same) h (omega arith))
      ])
      (cases_eq i j)

  -- the last node of the root record ends at the last place
  root_ends : (i : ℕ) → i < w.count → w.name i ≡ root_name → w.later i ≡ None → suc (w.hi i) ≡ length s.places
  root_ends i l name e =
      let pred : (n : ℕ) × (end_of s s.start ≡ suc n) = before (end_of s s.start) (omega (arith, h.nested.some)) in
      let x = h.arena.root pred.0 (omega (arith, pred.1)) in
      let high = x.1.high in
      omega (arith, high, c.last i x.0 l x.1.there e (x.2 ∙ sym name), within, pred.1, h.nested.last)
    where
      before : (n : ℕ) → 0 < n → (m : ℕ) × (n ≡ suc m)
      before zero l = absurd (omega arith)
      before (suc n) l = (n, refl)

      within : w.hi i < length s.places
      within = let k = in_parts i l in let x = there s h i k in omega (arith, part_hi s h i k, ap (λ (k : NodePart). k.hi) (part_at s h i x.0 x.1), (value s h i x.0 x.1).there)

  root_typed : w.ty 0 ≡ root_type
  root_typed =
      let x = h.arena.root 0 (omega (arith, h.nested.some)) in
      h.arena.one_type 0 x.0 h.rooted.some x.1.there (h.rooted.name ∙ sym x.2) ∙ x.3

  module _ (next : ℕ) (low : 1 ≤ next) (n : AreNamed s next) where
    is_named : (i : ℕ) → i < length ks → IsNamed (length s.places) next (node_at ks i)
    is_named i l = record {
      run = elim (n i (in_store i l)) [
        | inl e ↦ (let z = (root_is (w.name i) e).run in omega (arith, z, run, low))
        | inr p ↦ omega (arith, p.1, run)
      ];
      root_run = λ z. elim (n i (in_store i l)) [
        | inl e ↦ root_is (node_at ks i).name (part_name i l ∙ e)
        | inr p ↦ absurd (p.0 (omega (arith, z, run)))
      ];
      root_type = λ z. root_is (node_at ks i).name (part_name i l ∙ h.arena.one_root i (in_store i l) (sym (part_type s h i l) ∙ (λ j. record { 0 = z j })));
      last = λ z e. (let ends = root_ends i (in_store i l) (sym (part_name i l) ∙ named (node_at ks i).name z) (last_part i l e) in omega (arith, ends, part_hi s h i l));
    }
      where
        run : (node_at ks i).name.run.0 ≡ (w.name i).run.0
        run = ap (λ (m : Name). m.run.0) (part_name i l)

    pub chained : AreChained (length s.places) next ks
    chained = record {
      root = (let z : 0 < length ks = in_parts 0 h.rooted.some in record {
        name = root_is (node_at ks 0).name (part_name 0 z ∙ h.rooted.name);
        ty = ap (λ (t : TypeNo). t.0) (part_type s h 0 z ∙ root_typed);
        lo = part_lo s h 0 z ∙ h.rooted.begins;
      });
      named = is_named;
      there = λ i j l e. in_parts j (c.next i j (in_store i l) (from_part i j l e)).0;
      next = λ i j l e.
          let x = c.next i j (in_store i l) (from_part i j l e) in
          let k = in_parts j x.0 in
          record {
            name = same_is (node_at ks i).name (node_at ks j).name (part_name i l ∙ sym x.1 ∙ sym (part_name j k));
            ty = ap (λ (t : TypeNo). t.0) (part_type s h j k ∙ h.arena.one_type j i x.0 (in_store i l) x.1 ∙ sym (part_type s h i l));
            lo = part_lo s h j k ∙ x.2 ∙ sym (part_hi s h i l);
          };
      one = λ i j l k e. one i j (in_store i l) (in_store j k) (sym (part_name i l) ∙ one_name (node_at ks i).name (node_at ks j).name e ∙ part_name j k);
    }

-- The nodes of a store that is made of an image are in chains, and each record lives over a relic.
use Rattle.std.proofs.Common.{◌≡◌, ℕ, zero, suc, ◌-◌, ◌<◌, ◌≤◌, List, length, Some, None, refl, sym, ap, ◌∙◌, ◌⊎◌, inl, inr, subst, arith}
use Rattle.std.specs.Prelude.{slice_get}
use Rattle.std.specs.Option.{option_map}
use Rattle.std.proofs.lemmas.List.{length-map}
use Rattle.std.proofs.lemmas.Option.{slice_get-get_or}
use Rattle.pst_base.specs.declared.names.Name.{Name}
use Rattle.pst_base.specs.declared.names.TypeNo.{TypeNo}
use Rattle.pst_base.specs.Name.{root_name}
use Rattle.pst_base.specs.Shape.{root_type}
use Rattle.pst_order.specs.Places.{rank}
use Rattle.pst_store_meaning.specs.declared.place.Place.{Place}
use Rattle.pst_store_meaning.specs.Arena.{Arena}
use Rattle.pst_store_meaning.specs.Store.{Node, Stored, arena, begin_of, end_of}
use Rattle.pst_store_meaning.proofs.Places.{slice_get-below, slice_get-mapped}
use Rattle.pst_image_form.specs.declared.parts.NodePart.{NodePart}
use Rattle.pst_image_form.specs.declared.parts.ImageParts.{ImageParts}
use Rattle.pst_image_rules.specs.Nodes.{node_at}
use Rattle.pst_image_rules.specs.declared.ends.Chain.{Chain}
use Rattle.pst_image_rules.specs.Chains.{IsRootName, IsSameName, LeadsBy, Leads, no_chain, chain_at}
use Rattle.pst_image_meaning.proofs.Nodes.{of_node-there}
use Rattle.pst_image_meaning.specs.Chains.{ComesAfter, Itself, Beyond, AreRecordChains}
use Rattle.pst_image_meaning.specs.Taken.{HasRelic}
use Rattle.pst_image_meaning.specs.Denoted.{link_of, relic_of}
use Rattle.pst_image_meaning.proofs.Given.{Given}
use Rattle.pst_image_meaning.proofs.Back.{placed, node_count, node_is, fits_node, lo_placed, hi_placed}
use Rattle.pst_image_meaning.proofs.RowsStore.{there, type_is}

-- ---- links and names

link_some : (n j : ℕ) → n ≡ suc j → option_map (λ i. i.0) (link_of n) ≡ Some j
link_some zero j e = absurd (omega (arith, e))
link_some (suc i) j e = (let same : i ≡ j = omega (arith, e) in ap Some same)

link_none : (n : ℕ) → n ≡ 0 → option_map (λ i. i.0) (link_of n) ≡ None
link_none zero e = refl
link_none (suc i) e = absurd (omega (arith, e))

some_link : (n j : ℕ) → option_map (λ i. i.0) (link_of n) ≡ Some j → n ≡ suc j
some_link zero j e = absurd (cc)
some_link (suc i) j e = (let same : i ≡ j = cc in ap suc same)

none_link : (n : ℕ) → option_map (λ i. i.0) (link_of n) ≡ None → n ≡ 0
none_link zero e = refl
none_link (suc i) e = absurd (cc)

pub root_named : (n : Name) → IsRootName n → n ≡ root_name
root_named n e = λ i. record { run = record { 0 = e.run i }; ordinal = e.ordinal i }

named_root : (n : Name) → n ≡ root_name → IsRootName n
named_root n e = record { run = ap (λ (m : Name). m.run.0) e; ordinal = ap (λ (m : Name). m.ordinal) e }

same_named : (a b : Name) → a ≡ b → IsSameName a b
same_named a b e = record { run = ap (λ (m : Name). m.run.0) e; ordinal = ap (λ (m : Name). m.ordinal) e }

one_name : (a b : Name) → IsSameName a b → a ≡ b
one_name a b e = λ i. record { run = record { 0 = e.run i }; ordinal = e.ordinal i }

one_type : (a b : TypeNo) → a.0 ≡ b.0 → a ≡ b
one_type a b e = λ i. record { 0 = e i }

module _ (s : Stored) (p : ImageParts) (h : Given s p) where
  abbrev r : ℕ → ℕ
  r = rank s.places

  abbrev ks : List NodePart
  ks = p.nodes

  abbrev w : Arena
  w = arena s

  in_parts : (i : ℕ) → i < w.count → i < length ks
  in_parts i l = omega (arith, l, node_count s p h)

  in_store : (i : ℕ) → i < length ks → i < w.count
  in_store i l = omega (arith, l, node_count s p h)

  -- what the arena says of a node
  pub name_is : (i : ℕ) → i < length ks → w.name i ≡ (node_at ks i).name
  name_is i l = let x = there s p h i l in of_node-there (λ n. n.head.name) root_name s.nodes i x.0 x.1 ∙ ap (λ (n : Node). n.head.name) (node_is s p h i x.0 x.1)

  pub lo_at : (i : ℕ) → i < length ks → w.lo i ≡ r (node_at ks i).lo
  lo_at i l = let x = there s p h i l in of_node-there (λ n. r n.row.lo.0) 0 s.nodes i x.0 x.1 ∙ ap (λ (n : Node). r n.row.lo.0) (node_is s p h i x.0 x.1)

  pub hi_at : (i : ℕ) → i < length ks → w.hi i ≡ r (node_at ks i).hi
  hi_at i l = let x = there s p h i l in of_node-there (λ n. r n.row.hi.0) 0 s.nodes i x.0 x.1 ∙ ap (λ (n : Node). r n.row.hi.0) (node_is s p h i x.0 x.1)

  pub lo_is : (i : ℕ) → i < length ks → w.lo i ≡ (node_at ks i).lo
  lo_is i l = lo_at i l ∙ lo_placed s p h (node_at ks i) (h.nodes i l) (fits_node s p h i l)

  pub hi_is : (i : ℕ) → i < length ks → w.hi i ≡ (node_at ks i).hi
  hi_is i l = hi_at i l ∙ hi_placed s p h (node_at ks i) (h.nodes i l) (fits_node s p h i l)

  later_is : (i : ℕ) → i < length ks → w.later i ≡ option_map (λ i. i.0) (link_of (node_at ks i).later)
  later_is i l =
      let x = there s p h i l in
      of_node-there (λ n. option_map (λ i. i.0) n.head.later) None s.nodes i x.0 x.1 ∙ ap (λ (n : Node). option_map (λ i. i.0) n.head.later) (node_is s p h i x.0 x.1)

  to_store : (i j : ℕ) → i < length ks → (node_at ks i).later ≡ suc j → w.later i ≡ Some j
  to_store i j l e = later_is i l ∙ link_some (node_at ks i).later j e

  from_store : (i j : ℕ) → i < length ks → w.later i ≡ Some j → (node_at ks i).later ≡ suc j
  from_store i j l e = some_link (node_at ks i).later j (sym (later_is i l) ∙ e)

  last_of : (i : ℕ) → i < length ks → w.later i ≡ None → (node_at ks i).later ≡ 0
  last_of i l e = none_link (node_at ks i).later (sym (later_is i l) ∙ e)

  -- ---- along a chain

  comes_after : (n i k : ℕ) → i < length ks → LeadsBy ks n i k → ComesAfter w k i
  comes_after zero i k l e = subst (ComesAfter w k) (sym e) Itself
  comes_after (suc n) i k l e = Beyond i e.0 (to_store i e.0 l e.1) (comes_after n e.0 k (h.chained.there i e.0 l e.1) e.2)

  same_name : (n i k : ℕ) → i < length ks → LeadsBy ks n i k → (node_at ks i).name ≡ (node_at ks k).name
  same_name zero i k l e = ap (λ (m : ℕ). (node_at ks m).name) e
  same_name (suc n) i k l e =
      one_name (node_at ks i).name (node_at ks e.0).name (h.chained.next i e.0 l e.1).name ∙ same_name n e.0 k (h.chained.there i e.0 l e.1) e.2

  same_type : (n i k : ℕ) → i < length ks → LeadsBy ks n i k → (node_at ks i).ty ≡ (node_at ks k).ty
  same_type zero i k l e = ap (λ (m : ℕ). (node_at ks m).ty) e
  same_type (suc n) i k l e =
      one_type (node_at ks i).ty (node_at ks e.0).ty (sym (h.chained.next i e.0 l e.1).ty) ∙ same_type n e.0 k (h.chained.there i e.0 l e.1) e.2

  one_chain : (i j : ℕ) → i < length ks → j < length ks → w.name i ≡ w.name j → Leads ks i j ⊎ Leads ks j i
  one_chain i j l m e = h.chained.one i j l m (same_named (node_at ks i).name (node_at ks j).name (sym (name_is i l) ∙ e ∙ name_is j m))

  -- ---- the rule

  pub end_is : end_of s s.start ≡ p.places - 1
  end_is = ap (end_of s) h.made.start ∙ placed s p h (p.places - 1) (let two = h.range.places_low in omega (arith, two))

  node_0 : 0 < length ks
  node_0 = h.range.some_node

  within : (i : ℕ) → i < length ks → w.hi i ≤ end_of s s.start
  within i l = (let in_list = (h.nodes i l).inside in omega (arith, in_list, hi_is i l, end_is))

  pub chains : AreRecordChains w (end_of s s.start)
  chains = record {
    some = λ i l. let m = in_parts i l in let life = (h.nodes i m).life in omega (arith, life, lo_is i m, hi_is i m);
    next = λ i j l e.
        let m = in_parts i l in
        let q = from_store i j m e in
        let k = h.chained.there i j m q in
        let x = h.chained.next i j m q in
        let lo = x.lo in (
          in_store j k,
          name_is j k ∙ sym (one_name (node_at ks i).name (node_at ks j).name x.name) ∙ sym (name_is i m),
          lo_is j k ∙ lo ∙ sym (hi_is i m),
        );
    one = λ i j l m e. elim (one_chain i j (in_parts i l) (in_parts j m) e) [
      | inl x ↦ inl (comes_after x.0 i j (in_parts i l) x.1)
      | inr x ↦ inr (comes_after x.0 j i (in_parts j m) x.1)
    ];
    first = (
      in_store 0 node_0,
      name_is 0 node_0 ∙ root_named (node_at ks 0).name h.chained.root.name,
      lo_is 0 node_0 ∙ h.chained.root.lo,
    );
    last = λ i l e q.
        let m = in_parts i l in
        hi_is i m ∙ (h.chained.named i m).last (named_root (node_at ks i).name (sym (name_is i m) ∙ e)) (last_of i m q) ∙ sym end_is;
    within = λ i l. within i (in_parts i l);
  }

  pub types : (i j : ℕ) → i < length s.nodes → j < length s.nodes → w.name i ≡ w.name j → w.ty i ≡ w.ty j
  types i j l m e =
      let i_there = in_parts i l in
      let j_there = in_parts j m in
      type_is s p h i i_there
      ∙ elim (one_chain i j i_there j_there e) [ inl x ↦ same_type x.0 i j i_there x.1 | inr x ↦ sym (same_type x.0 j i j_there x.1) ]
      ∙ sym (type_is s p h j j_there)

  pub root_type_is : w.ty 0 ≡ root_type
  root_type_is = type_is s p h 0 node_0 ∙ one_type (node_at ks 0).ty root_type h.chained.root.ty

  pub root_alone : (i : ℕ) → i < length s.nodes → w.ty i ≡ root_type → w.name i ≡ root_name
  root_alone i l e =
      let m = in_parts i l in
      name_is i m ∙ root_named (node_at ks i).name ((h.chained.named i m).root_type (ap (λ (t : TypeNo). t.0) (sym (type_is s p h i m) ∙ e)))

  -- ---- relics

  abbrev cs : List Chain
  cs = h.made.chains

  relic_there : (k : ℕ) → k < length cs → slice_get s.relics k ≡ Some (relic_of ks (chain_at cs k))
  relic_there k l =
      ap (λ (ps : List Place). slice_get ps k) h.made.relics ∙ slice_get-mapped (relic_of ks) cs k (chain_at cs k) (slice_get-get_or cs k no_chain l)

  pub relic : (i : ℕ) → i < length s.nodes → HasRelic s i
  relic i l =
      let m = in_parts i l in
      let x = h.made.are_chains.all i m in
      let c = chain_at cs x.index in
      let is = h.made.are_chains.each x.index x.there in
      let head = is.head_there in
      let last = is.last_there in
      record {
        index = x.index;
        place = relic_of ks c;
        at = relic_there x.index x.there;
        first = c.head.0;
        last = c.last.0;
        ends = record {
          first_there = in_store c.head.0 head;
          first_of = name_is c.head.0 head ∙ same_name x.from_head.0 c.head.0 i head x.from_head.1 ∙ sym (name_is i m);
          first_is = λ j k e. is.is_head j (in_parts j k) (from_store j c.head.0 (in_parts j k) e);
          last_there = in_store c.last.0 last;
          last_of = name_is c.last.0 last ∙ sym (same_name x.to_last.0 i c.last.0 m x.to_last.1) ∙ sym (name_is i m);
          last_is = later_is c.last.0 last ∙ link_none (node_at ks c.last.0).later is.is_last;
        };
        begins = sym (lo_at c.head.0 head);
        stops = sym (hi_at c.last.0 last);
      }

  -- along a chain nodes end later
  ends_later : (n i k : ℕ) → i < length ks → LeadsBy ks n i k → (node_at ks i).lo < (node_at ks k).hi
  ends_later zero i k l e = (let life = (h.nodes i l).life in let same = ap (λ (m : ℕ). (node_at ks m).hi) e in omega (arith, life, same))
  ends_later (suc n) i k l e =
      let m = h.chained.there i e.0 l e.1 in
      let x = h.chained.next i e.0 l e.1 in
      let lo = x.lo in
      let life = (h.nodes i l).life in
      let rest = ends_later n e.0 k m e.2 in
      omega (arith, lo, life, rest)

  pub inside : (k : ℕ) (q : Place) → slice_get s.relics k ≡ Some q → (begin_of s q < end_of s q) × (end_of s q ≤ end_of s s.start)
  inside k q e =
      let l : k < length cs = below in
      let c = chain_at cs k in
      let is = h.made.are_chains.each k l in
      let head = is.head_there in
      let last = is.last_there in
      let leads = is.leads in
      let same : q ≡ relic_of ks c = (let t = relic_there k l in cc) in
      let less = ends_later leads.0 c.head.0 c.last.0 head leads.1 in
      let begins : begin_of s q ≡ (node_at ks c.head.0).lo = ap (begin_of s) same ∙ lo_placed s p h (node_at ks c.head.0) (h.nodes c.head.0 head) (fits_node s p h c.head.0 head) in
      let ends : end_of s q ≡ (node_at ks c.last.0).hi = ap (end_of s) same ∙ hi_placed s p h (node_at ks c.last.0) (h.nodes c.last.0 last) (fits_node s p h c.last.0 last) in
      (omega (arith, less, begins, ends), omega (arith, within c.last.0 last, ends, hi_is c.last.0 last))
    where
      below : k < length cs
      below = (let b = slice_get-below s.relics k q e in let count = ap length h.made.relics ∙ length-map cs (relic_of ks) in omega (arith, b, count))

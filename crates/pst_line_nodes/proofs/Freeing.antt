-- A pointer field is written: the entry of what it held is freed.
use Rattle.std.proofs.Common.{◌≡◌, ◌≢◌, ℕ, zero, suc, ◌<◌, ◌≤◌, Bool, true, false, cond, eqb, ◌&&◌, List, [], ◌∷◌, length, map, get_or, Option, Some, None, refl, sym, ap, ◌∙◌, subst, ⊎_elim, arith}
use Rattle.std.proofs.Math.ListN.{set}
use Rattle.std.proofs.Math.Seq.{map-set_same}
use Rattle.std.proofs.lemmas.Bool.{cases_eq, cases_lt}
use Rattle.std.proofs.lemmas.List.{get_or-set_same, get_or-set_other, length-map}
use Rattle.pst_base.specs.declared.shape.TypeShape.{TypeShape}
use Rattle.pst_base.specs.declared.names.TypeNo.{TypeNo}
use Rattle.pst_base.specs.Shape.{type_at}
use Rattle.pst_line_nodes.specs.declared.content.Content.{Content}
use Rattle.pst_line_nodes.specs.declared.content.Content.TheVariants.{Number, Null, Target as TargetOf}
use Rattle.pst_line_nodes.specs.Contents.{Target}
use Rattle.pst_line_nodes.specs.declared.content.Entry.{Entry}
use Rattle.pst_line_nodes.specs.Seen.{Seen}
use Rattle.pst_line_nodes.specs.Line.{Line, IsNewest, IsLine, newest, onward}
use Rattle.pst_line_nodes.specs.Rows.{holds, since}
use Rattle.pst_line_nodes.specs.Nodes.{of_node, entry_of, pair_of, entry_without, line_of, AreKept, IsFieldSet}
use Rattle.pst_line_nodes.specs.Changes.{IsSet, without}
use Rattle.pst_line_nodes.specs.Full.{is_other_entry}
use Rattle.pst_line_nodes.specs.Copying.{no_node, no_entry, node_at, bare}
use Rattle.pst_line_nodes.specs.Making.{AreFreed, entered}
use Rattle.pst_line_nodes.specs.Carried.{IsFieldNulled, IsFieldPointed, IsOpenSlot}
use Rattle.pst_line_nodes.proofs.Contents.{one_target}
use Rattle.pst_line_nodes.proofs.Writes.{without-keeps}
use Rattle.pst_line_nodes.proofs.Degree.{open_law}
use Rattle.pst_line_nodes.proofs.Lists.{get_or-any}
use Rattle.pst_line_nodes.proofs.Copying.{of-get, bare-at, kept_at}
use Rattle.pst_line_nodes.proofs.Renames.{count_kept, bare-set, set_there, set_elsewhere}

pair_without : (x f : ℕ) (e : Option Entry) → pair_of (entry_without x f e) ≡ without x f (pair_of e)
pair_without x f None = refl
pair_without x f (Some e) = elim ((eqb e.node.0 x) && (eqb e.slot.0 f)) as (λ (b : Bool). pair_of (cond b None (Some e)) ≡ cond b None (Some (e.node.0, e.slot.0))) [ true ↦ refl | false ↦ refl ]

-- the entry is freed in the node that has it
pub freed_one : (old xs : List Seen) (y z x f : ℕ) (n m : Seen) (held : Content) → xs ≡ old → z < length old → n ≡ get_or xs z n → m ≡ record n { inverse = map (entry_without x f) n.inverse } → held ≡ Target y → z ≡ newest (line_of (λ i. true) old) y → AreFreed old (set xs z m) x f held
freed_one old xs y z x f n m held is there at made h at_z = record {
  same = bare-set (entry_without x f) old xs z n m is there at made;
  there = λ q s e.
      let both : Target y ≡ Target q = sym h ∙ e in
      let same : y ≡ q = one_target y q both in
      let goes : z ≡ newest (line_of (λ i. true) old) q = at_z ∙ ap (newest (line_of (λ i. true) old)) same in
      ap (λ (i : ℕ). entry_of (node_at (set xs z m) i) s) (sym goes) ∙ ap pair_of (set_there (entry_without x f) old xs z s n m refl is there at made) ∙ pair_without x f (get_or (node_at old z).inverse s None) ∙ ap (λ (i : ℕ). without x f (entry_of (node_at old i) s)) goes;
  others = λ i s ne. ap (λ (d : Seen). entry_of d s) (set_elsewhere old xs z i m is (λ p. ne y h (p ∙ at_z)));
}

-- ---- only entries change

module _ (made : ℕ → Bool) (mid new : List Seen) (same : map bare new ≡ map bare mid) where
  line_part : {A : Type 0} (f : Seen → A) → ((n : Seen) → f (bare n) ≡ f n) → (i : ℕ) → of_node f (f no_node) new i ≡ of_node f (f no_node) mid i
  line_part f b i = of-get f new i ∙ sym (b (node_at new i)) ∙ ap f (bare-at new mid i same) ∙ b (node_at mid i) ∙ sym (of-get f mid i)

  pub set_bare : (old : Line) (x f t k : ℕ) (c : Content) → IsSet old (line_of made mid) x f t c k → IsSet old (line_of made new) x f t c k
  set_bare old x f t k c d = record {
    nodes = record {
      count = count_kept mid new same ∙ d.nodes.count;
      home = λ i. line_part (λ n. n.home) (λ n. refl) i ∙ d.nodes.home i;
      name = λ i. line_part (λ n. n.name) (λ n. refl) i ∙ d.nodes.name i;
      ty = λ i. line_part (λ n. n.ty) (λ n. refl) i ∙ d.nodes.ty i;
      made = λ i. ap made (line_part (λ n. n.home) (λ n. refl) i) ∙ d.nodes.made i;
      first = λ i. line_part (λ n. n.first) (λ n. refl) i ∙ d.nodes.first i;
      later = λ i. line_part (λ n. n.later) (λ n. refl) i ∙ d.nodes.later i;
    };
    here = line_part (λ n. holds n f t) (λ n. refl) x ∙ d.here;
    early = λ n b e. line_part (λ d. holds d f n) (λ d. refl) x ∙ d.early n b e;
    others = λ i g n ne. line_part (λ d. holds d g n) (λ d. refl) i ∙ d.others i g n ne;
    late = λ n b. line_part (λ d. holds d f n) (λ d. refl) x ∙ d.late n b;
    since = line_part (λ n. since n f) (λ n. refl) x ∙ d.since;
    other_since = λ i g ne. line_part (λ n. since n g) (λ n. refl) i ∙ d.other_since i g ne;
    most = d.most;
    stamped = line_part (λ n. length n.stamped) (λ n. refl) x ∙ d.stamped;
    other_stamped = λ i ne. line_part (λ n. length n.stamped) (λ n. refl) i ∙ d.other_stamped i ne;
  }

-- ---- the entries after a write

module _ (shape : List TypeShape) (t : ℕ) (old : List Seen) (made : ℕ → Bool) (l : IsLine shape t (line_of made old)) (k : AreKept shape t old) (x f : ℕ) where
  abbrev w : Line
  w = line_of made old

  -- only the node that the field holds has its entry
  elsewhere : (y s : ℕ) → y < length old → ((q : ℕ) → w.holds x f t ≡ Target q → y ≢ newest w q) → without x f (w.entry y s) ≡ w.entry y s
  elsewhere y s m ne = elim (w.later y) as (λ (j : Option ℕ). w.later y ≡ j → without x f (w.entry y s) ≡ w.entry y s) [
    | None ↦ λ last. elim (w.entry y s) as (λ (o : Option (ℕ × ℕ)). w.entry y s ≡ o → without x f o ≡ o) [
      | None ↦ λ e. refl
      | Some o ↦ λ e. without-keeps x f o.0 o.1 (Some o) refl (λ p q.
          let entry : w.entry y s ≡ Some (x, f) = e ∙ ap (λ (i : ℕ). Some (i, o.1)) p ∙ ap (λ (g : ℕ). Some (x, g)) q in
          let b = l.matched.back y s x f (record { there = m; last = last }) entry in
          ne b.1.0 b.1.1 (sym b.1.2))
    ] refl
    | Some j ↦ λ later.
        let none : (node_at old y).inverse ≡ [] = (kept_at shape t old y k m).bare j (sym (of-get (λ n. n.later) old y) ∙ later) in
        let was : w.entry y s ≡ None = of-get (λ n. entry_of n s) old y ∙ ap (λ (es : List (Option Entry)). pair_of (get_or es s None)) none in
        ap (without x f) was ∙ sym was
  ] refl

  out_of : (y s : ℕ) → length old ≤ y → w.entry y s ≡ None
  out_of y s m = of-get (λ n. entry_of n s) old y ∙ ap (λ (n : Seen). entry_of n s) (beyond old y m)
    where
      beyond : (xs : List Seen) (i : ℕ) → length xs ≤ i → get_or xs i no_node ≡ no_node
      beyond [] i m = refl
      beyond (y ∷ ys) zero m = absurd (omega arith)
      beyond (y ∷ ys) (suc i) m = beyond ys i (omega arith)

  module _ (mid new : List Seen) (held : Content) (read : held ≡ w.holds x f t) (later : (y : ℕ) → (line_of made mid).later y ≡ w.later y) (entry : (y s : ℕ) → (line_of made mid).entry y s ≡ w.entry y s) (d : AreFreed mid new x f held) where
    own_entry : (i s : ℕ) → entry_of (node_at mid i) s ≡ w.entry i s
    own_entry i s = sym (of-get (λ n. entry_of n s) mid i) ∙ entry i s

    pub freed_entries : (y s : ℕ) → (line_of made new).entry y s ≡ without x f (w.entry y s)
    freed_entries y s = of-get (λ n. entry_of n s) new y ∙ by_held held refl
      where
        same_newest : (q : ℕ) → newest (line_of (λ i. true) mid) q ≡ newest w q
        same_newest q = ap (λ j. onward j q) (later q)

        stays : ((q : ℕ) → held ≡ Target q → y ≢ newest w q) → entry_of (node_at new y) s ≡ without x f (w.entry y s)
        stays ne = d.others y s (λ q e p. ne q e (p ∙ same_newest q)) ∙ own_entry y s ∙ ⊎_elim
            (λ (m : y < length old). sym (elsewhere y s m (λ q e. ne q (read ∙ e))))
            (λ (m : length old ≤ y). out_of y s m ∙ sym (ap (without x f) (out_of y s m)))
            (cases_lt y (length old))

        by_held : (c : Content) → held ≡ c → entry_of (node_at new y) s ≡ without x f (w.entry y s)
        by_held (Number v) e = stays (λ q h. absurd (let no : Number v ≡ Target q = sym e ∙ h in cc))
        by_held Null e = stays (λ q h. absurd (let no : Null ≡ Target q = sym e ∙ h in cc))
        by_held (TargetOf p) e = ⊎_elim
            (λ (at : y ≡ newest w p.0).
            let goes : newest (line_of (λ i. true) mid) p.0 ≡ y = same_newest p.0 ∙ sym at in
            ap (λ (i : ℕ). entry_of (node_at new i) s) (sym goes) ∙ d.there p.0 s e ∙ ap (λ (i : ℕ). without x f (entry_of (node_at mid i) s)) goes ∙ ap (without x f) (own_entry y s))
            (λ (at : y ≡ newest w p.0 → ⊥). stays (λ q h. let both : Target p.0 ≡ Target q = sym e ∙ h in let same : p.0 ≡ q = one_target p.0 q both in λ is. at (is ∙ ap (newest w) (sym same))))
            (cases_eq y (newest w p.0))

-- ---- whole writes

pub enter_is : (old xs : List Seen) (z u : ℕ) (b m : Seen) (e : Entry) → xs ≡ old → z < length old → b ≡ get_or xs z b → m ≡ record b { inverse = set b.inverse u (Some e) } → set xs z m ≡ entered old z u e
enter_is old xs z u b m e is there at put =
    let own : b ≡ node_at old z = at ∙ ap (λ (zs : List Seen). get_or zs z b) is ∙ get_or-any old z b no_node there in
    ap (set xs z) (put ∙ ap (λ (c : Seen). record c { inverse = set c.inverse u (Some e) }) own) ∙ ap (λ (ys : List Seen). set ys z (record (node_at old z) { inverse = set (node_at old z).inverse u (Some e) })) is

module _ (shape : List TypeShape) (t : ℕ) (old : List Seen) (made : ℕ → Bool) (l : IsLine shape t (line_of made old)) (k : AreKept shape t old) (x f : ℕ) (n : IsNewest (line_of (λ i. true) old) x) (held : Content) (read : held ≡ (line_of made old).holds x f t)
    (mid : List Seen) (content : Content) (d : (mark : ℕ → Bool) → IsFieldSet (line_of mark old) (line_of mark mid) x f t content) where
  -- what the field held is there
  pub held_in : (y : ℕ) → held ≡ Target y → (y < length mid) × (newest (line_of (λ i. true) mid) y < length mid)
  held_in y e =
      let o = (d made).set.nodes in
      let v = l.newest x f y (record { there = n.there; last = n.last }) (sym read ∙ e) in
      let same : newest (line_of (λ i. true) mid) y ≡ newest (line_of made old) y = ap (λ j. onward j y) (o.later y) in
      (omega (arith, v.0, o.count), omega (arith, v.1.there, o.count, same))

  module _ (free : List Seen) (r : AreFreed mid free x f held) where
    entries : (y s : ℕ) → (line_of made free).entry y s ≡ without x f ((line_of made old).entry y s)
    entries = freed_entries shape t old made l k x f mid free held read (d made).set.nodes.later (d made).entry r

    pub nulled : content ≡ Null → (mark : ℕ → Bool) → IsFieldNulled (line_of mark old) (line_of mark free) x f t
    nulled is mark = record {
      more = (d mark).more;
      nulled = record { set = subst (λ (c : Content). IsSet (line_of mark old) (line_of mark free) x f t c (d mark).more) is (set_bare mark mid free r.same (line_of mark old) x f t (d mark).more content (d mark).set); entry = entries };
      replaced = (d mark).replaced;
    }

    -- an entry is put in
    module _ (xs : List Seen) (z u : ℕ) (b m : Seen) (e : Entry) (is : xs ≡ free) (there : z < length free) (at : b ≡ get_or xs z b) (below : u < length b.inverse) (put : m ≡ record b { inverse = set b.inverse u (Some e) }) (node_is : e.node.0 ≡ x) (slot_is : e.slot.0 ≡ f) where
      within : z < length xs
      within = omega (arith, there, ap length is)

      bare_same : bare m ≡ bare b
      bare_same = ap bare put ∙ ap (λ (es : List (Option Entry)). record b { inverse = es }) (map-set_same no_entry b.inverse u (Some e) None refl)

      pub enter_same : map bare (set xs z m) ≡ map bare free
      enter_same = map-set_same bare xs z m b (bare_same ∙ ap bare at) ∙ ap (map bare) is

      own_b : b ≡ node_at free z
      own_b = at ∙ ap (λ (zs : List Seen). get_or zs z b) is ∙ get_or-any free z b no_node there

      there_is : (s : ℕ) → entry_of (node_at (set xs z m) z) s ≡ pair_of (get_or (set b.inverse u (Some e)) s None)
      there_is s = ap (λ (d : Seen). entry_of d s) (get_or-set_same xs z m no_node within ∙ put)

      pub pointed : content ≡ Target z → is_other_entry x f ((line_of (λ i. true) old).entry z u) ≡ false → (mark : ℕ → Bool) → IsFieldPointed (line_of mark old) (line_of mark (set xs z m)) x f t z u
      pointed target open_is mark = record {
        more = (d mark).more;
        pointed = record {
          set = subst (λ (c : Content). IsSet (line_of mark old) (line_of mark (set xs z m)) x f t c (d mark).more) target (set_bare mark mid (set xs z m) (enter_same ∙ r.same) (line_of mark old) x f t (d mark).more content (d mark).set);
          free = open_law x f ((line_of (λ i. true) old).entry z u) open_is;
          put = of-get (λ n. entry_of n u) (set xs z m) z ∙ there_is u ∙ ap pair_of (get_or-set_same b.inverse u (Some e) None below) ∙ ap (λ (i : ℕ). Some (i, e.slot.0)) node_is ∙ ap (λ (g : ℕ). Some (x, g)) slot_is;
          entry = λ y s ne. of-get (λ n. entry_of n s) (set xs z m) y ∙ ⊎_elim
              (λ (p : y ≡ z). ap (λ (i : ℕ). entry_of (node_at (set xs z m) i) s) p ∙ there_is s ∙ ap pair_of (get_or-set_other b.inverse u s (Some e) None (λ q. ne p q)) ∙ ap (λ (c : Seen). entry_of c s) own_b ∙ ap (λ (i : ℕ). entry_of (node_at free i) s) (sym p))
              (λ (p : y ≡ z → ⊥). ap (λ (c : Seen). entry_of c s) (set_elsewhere free xs z y m is p))
              (cases_eq y z) ∙ sym (of-get (λ n. entry_of n s) free y) ∙ entries y s;
        };
        replaced = (d mark).replaced;
      }

-- ---- how many inverse slots there are

pub slots_same : (old new : List Seen) (i : ℕ) → map bare new ≡ map bare old → length (node_at new i).inverse ≡ length (node_at old i).inverse
slots_same old new i e = sym (length-map (node_at new i).inverse no_entry) ∙ ap (λ (n : Seen). length n.inverse) (bare-at new old i e) ∙ length-map (node_at old i).inverse no_entry

pub set_slots : (shape : List TypeShape) (t : ℕ) (old new : List Seen) (z : ℕ) → AreKept shape t old → AreKept shape t new → z < length old → z < length new → (line_of (λ i. true) old).later z ≡ None → (line_of (λ i. true) new).later z ≡ (line_of (λ i. true) old).later z
    → (line_of (λ i. true) new).ty z ≡ (line_of (λ i. true) old).ty z → length (node_at new z).inverse ≡ length (node_at old z).inverse
set_slots shape t old new z k m l r last later ty =
    let a = (kept_at shape t old z k l).slots (sym (of-get (λ n. n.later) old z) ∙ last) in
    let b = (kept_at shape t new z m r).slots (sym (of-get (λ n. n.later) new z) ∙ later ∙ last) in
    let c = ap (λ (u : TypeNo). (type_at shape u).limit) (sym (of-get (λ n. n.ty) new z) ∙ ty ∙ of-get (λ n. n.ty) old z) in
    b ∙ c ∙ sym a

pub entered_same : (nodes : List Seen) (z u : ℕ) (e : Entry) → z < length nodes → map bare (entered nodes z u e) ≡ map bare nodes
entered_same nodes z u e there = map-set_same bare nodes z (record (node_at nodes z) { inverse = set (node_at nodes z).inverse u (Some e) }) no_node
    (ap (λ (es : List (Option Entry)). record (node_at nodes z) { inverse = es }) (map-set_same no_entry (node_at nodes z).inverse u (Some e) None refl))

pub open_below : (shape : List TypeShape) (t : ℕ) (nodes : List Seen) (made : ℕ → Bool) (z x f u : ℕ) → AreKept shape t nodes → z < length nodes → (line_of (λ i. true) nodes).later z ≡ None → IsOpenSlot shape (line_of made nodes) z x f u → u < length (node_at nodes z).inverse
open_below shape t nodes made z x f u k there last o =
    let slots = (kept_at shape t nodes z k there).slots (sym (of-get (λ n. n.later) nodes z) ∙ last) in
    let types = ap (λ (u : TypeNo). (type_at shape u).limit) (of-get (λ n. n.ty) nodes z) in
    omega (arith, o.below, slots, types)

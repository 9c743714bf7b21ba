use Rattle.std.proofs.Common.{◌≡◌, ◌≢◌, ℕ, ◌+◌, ◌≤◌, ◌<◌, Bool, true, false, ◌||◌, ◌&&◌, cond, eqb, leb, ltb, List, length, refl, sym, ap, ap₂, ◌∙◌, subst, ⊎_elim, ◌⊎◌, inl, inr, arith}
use Rattle.std.proofs.lemmas.Bool.{cases_eq, cases_lt, cases_Bool, eq-eqb, ne_eqb, le-leb, lt-leb, lt-ltb, le-ltb, and_left, and_right, or_cases, false≢true}
use mathlib.Core.Path.{fun_ext}
use Rattle.pst_rows.specs.declared.content.Content.{Content}
use Rattle.pst_rows.specs.declared.content.Content.TheVariants.{Number, Null, Free, Target as TargetOf, From as FromOf}
use Rattle.pst_mirror.specs.Contents.{Target, From}
use Rattle.pst_rows.specs.declared.row.Row.{Row}
use Rattle.pst_order.specs.Places.{rank}
use Rattle.pst_mirror.specs.Mirror.{Chart, IsMirrored, IsSteady, names, renamed, moved}
use Rattle.pst_mirror.specs.Segments.{IsSegmentOf}
use Rattle.pst_mirror.specs.Partners.{IsPartner, IsHalfway, one_more}
use Rattle.pst_mirror.specs.SplitBody.{finished}
use Rattle.pst_rows.specs.Rows.{width_of, stamped_count, IsRow, stamps_of}
use Rattle.pst_mirror.proofs.MirrorLemmas.{renamed_target}
use Rattle.pst_mirror.proofs.PartnerLemmas.{partner_law, no_partner_law}
use Rattle.pst_mirror.proofs.SplitBodyLemmas.{named, partner_names, start_law}
use Rattle.pst_mirror.proofs.SegmentLemmas.{segments_from_positions}
use Rattle.pst_nodes.specs.declared.node.Node.{Node}
use Rattle.pst_nodes.specs.Arena.{row_at, lo_at, hi_at, AreRows, chart, IsSlot, IsAlive, IsSegmentAt}
use Rattle.pst_nodes.specs.Changes.{IsTouched, IsReplacedOver, IsSegmentReplaced}
use Rattle.pst_nodes.proofs.NodeLemmas.{lo_is, hi_is, some_row, row_in, edges_in}
use Rattle.pst_rows.proofs.TimelineLemmas.{edge_here}
use Rattle.pst_nodes.proofs.PairLemmas.{held_slot, target_slot, named_slot}
use Rattle.pst_repair.specs.Load.{is_link}
use Rattle.pst_repair.specs.Steps.{IsRenamable, IsPartnerOf, HasNoPartner, AreReplaced, begin_of, slot_done, slot_done_to}
use Rattle.pst_repair.proofs.LoadLemmas.{stamped_is, stamped_past}

pub moved_twice : (x z i : ℕ) → x ≢ z → moved x z (moved x z i) ≡ moved x z i
moved_twice x z i ne =
    ⊎_elim (λ (e : i ≡ x). let z_ne : z ≡ x → ⊥ = λ q. ne (sym q) in rw (eq-eqb i x e, ne_eqb z x z_ne) refl) (λ (n : i ≡ x → ⊥). rw (ne_eqb i x n, ne_eqb i x n) refl) (cases_eq i x)

pub renamed_twice : (x z : ℕ) (c : Content) → x ≢ z → renamed x z (renamed x z c) ≡ renamed x z c
renamed_twice x z (Number n) ne = refl
renamed_twice x z Null ne = refl
renamed_twice x z (TargetOf y) ne = ap Target (moved_twice x z y.0 ne)
renamed_twice x z Free ne = refl
renamed_twice x z (FromOf y f) ne = ap (λ (k : ℕ). From k f.0) (moved_twice x z y.0 ne)

pub fin_late : (w : Chart) (x z n i g m : ℕ) → n ≤ m → (finished w x z n).holds i g m ≡ renamed x z (w.holds i g m)
fin_late w x z n i g m l = rw (le-leb n m l) refl

pub fin_early : (w : Chart) (x z n i g m : ℕ) → m < n → (finished w x z n).holds i g m ≡ w.holds i g m
fin_early w x z n i g m l = rw (lt-leb n m l) refl

-- halfway: a slot holds what it held or what it is to hold
module _ (old new : Chart) (x z n : ℕ) (done : ℕ → ℕ → Bool) (r : IsRenamable old x z n) (half : IsHalfway old (finished old x z n) new z done) where
  pub either : (i g m : ℕ) → (new.holds i g m ≡ old.holds i g m) ⊎ (new.holds i g m ≡ (finished old x z n).holds i g m)
  either i g m =
      ⊎_elim
      (λ (q : names z ((finished old x z n).holds i g m) ≡ true).
      let p : (h : ℕ) × IsPartner (finished old x z n) z h i g m = named (finished old x z n) z i g m r.mirrored ((finished old x z n).holds i g m) refl q in
      ⊎_elim (λ (e : done p.0 m ≡ true). inr (half.handled i g m p.0 p.1 e)) (λ (e : done p.0 m ≡ false). inl (half.waiting i g m p.0 p.1 e)) (cases_Bool (done p.0 m)))
      (λ (q : names z ((finished old x z n).holds i g m) ≡ false). inr (half.others i g m (λ h p. false≢true (sym q ∙ partner_names (finished old x z n) z h i g m r.mirrored p))))
      (cases_Bool (names z ((finished old x z n).holds i g m)))

  pub fin_same : (i g m : ℕ) → (finished new x z n).holds i g m ≡ (finished old x z n).holds i g m
  fin_same i g m =
      ⊎_elim
      (λ (l : m < n). fin_early new x z n i g m l ∙ ⊎_elim (λ (e : new.holds i g m ≡ old.holds i g m). e ∙ sym (fin_early old x z n i g m l))
      (λ (e : new.holds i g m ≡ (finished old x z n).holds i g m). e) (either i g m))
      (λ (l : n ≤ m). fin_late new x z n i g m l ∙ ⊎_elim
      (λ (e : new.holds i g m ≡ old.holds i g m). ap (renamed x z) e ∙ sym (fin_late old x z n i g m l))
      (λ (e : new.holds i g m ≡ (finished old x z n).holds i g m). ap (renamed x z) (e ∙ fin_late old x z n i g m l) ∙ renamed_twice x z (old.holds i g m) r.other ∙ sym (fin_late old x z n i g m l))
      (either i g m))
      (cases_lt m n)

  pub fin_path : ((i g m : ℕ) → new.edge i g m ≡ old.edge i g m) → finished new x z n ≡ finished old x z n
  fin_path edges =
      ap₂ (λ (h : ℕ → ℕ → ℕ → Content) (e : ℕ → ℕ → ℕ → Bool). record { holds = h; edge = e })
      (fun_ext (λ i. fun_ext (λ g. fun_ext (λ m. fin_same i g m))))
      (fun_ext (λ i. fun_ext (λ g. fun_ext (λ m. edges i g m))))

pub renamable_on : (old new : Chart) (x z n : ℕ) → IsRenamable old x z n → finished new x z n ≡ finished old x z n → IsRenamable new x z n
renamable_on old new x z n r e = record {
  other = r.other;
  mirrored = subst (λ (w : Chart). IsMirrored w) (sym e) r.mirrored;
  steady = subst (λ (w : Chart). IsSteady w) (sym e) r.steady;
}

-- one part done after another
pub half_on : (old mid new fin fin' : Chart) (z : ℕ) (d d' : ℕ → ℕ → Bool) → fin' ≡ fin → IsHalfway old fin mid z d → IsHalfway mid fin' new z d' → IsHalfway old fin new z (λ k m. d k m || d' k m)
half_on old mid new fin fin' z d d' e a b' =
    let b : IsHalfway mid fin new z d' = subst (λ (w : Chart). IsHalfway mid w new z d') e b' in
    record {
      others = λ i g m no_one. b.others i g m no_one;
      handled = λ i g m h p q. ⊎_elim
          (λ (u : d' h m ≡ true). b.handled i g m h p u)
          (λ (u : d' h m ≡ false). b.waiting i g m h p u ∙ a.handled i g m h p
          (⊎_elim (λ (v : d h m ≡ true). v) (λ (v : d' h m ≡ true). absurd (false≢true (sym u ∙ v))) (or_cases (d h m) (d' h m) q)))
          (cases_Bool (d' h m));
      waiting = λ i g m h p q. let w : (d h m ≡ false) × (d' h m ≡ false) = neither (d h m) (d' h m) q in b.waiting i g m h p w.1 ∙ a.waiting i g m h p w.0;
    }
  where
    neither : (u v : Bool) → (u || v) ≡ false → (u ≡ false) × (v ≡ false)
    neither true v q = absurd (false≢true (sym q))
    neither false v q = (refl, q)

pub half_ext : (old fin new : Chart) (z : ℕ) (d d' : ℕ → ℕ → Bool) → ((i g m h : ℕ) → IsPartner fin z h i g m → d h m ≡ d' h m) → IsHalfway old fin new z d → IsHalfway old fin new z d'
half_ext old fin new z d d' same a = record {
  others = a.others;
  handled = λ i g m h p q. a.handled i g m h p (same i g m h p ∙ q);
  waiting = λ i g m h p q. a.waiting i g m h p (same i g m h p ∙ q);
}

-- a partner is a pointer or an entry of z
pub partner_link : (w : Chart) (z h i g m : ℕ) → IsMirrored w → IsPartner w z h i g m → (w.holds z h m ≡ Target i) ⊎ (w.holds z h m ≡ From i g)
partner_link w z h i g m mir p = ⊎_elim (λ (e : w.holds i g m ≡ From z h). inl (mir.back i g m z h e)) (λ (e : w.holds z h m ≡ From i g). inr e) p

-- where a slot holds a link after the renaming, it holds one before
pub link_before : (w : Chart) (x z n h m : ℕ) (c : Content) → (finished w x z n).holds z h m ≡ c → is_link c ≡ true → is_link (w.holds z h m) ≡ true
link_before w x z n h m c e l =
    ⊎_elim
    (λ (k : m < n). ap is_link (sym (fin_early w x z n z h m k) ∙ e) ∙ l)
    (λ (k : n ≤ m). link_of x z (w.holds z h m) (ap is_link (sym (fin_late w x z n z h m k) ∙ e) ∙ l))
    (cases_lt m n)
  where
    link_of : (x z : ℕ) (c : Content) → is_link (renamed x z c) ≡ true → is_link c ≡ true
    link_of x z (Number k) q = q
    link_of x z Null q = q
    link_of x z (TargetOf y) q = refl
    link_of x z Free q = q
    link_of x z (FromOf y f) q = refl

pub link_held : (c : Content) → is_link c ≡ true → c ≢ Null
link_held c l e = false≢true (sym (ap is_link e) ∙ l)

-- so z lives there
pub partner_lives : (qs : List ℕ) (ns : List Node) (x z n h i g m : ℕ) → AreRows qs ns → IsMirrored (finished (chart qs ns) x z n)
    → IsPartner (finished (chart qs ns) x z n) z h i g m → is_link ((chart qs ns).holds z h m) ≡ true × IsSlot qs ns z h m
partner_lives qs ns x z n h i g m all mir p =
    let w = chart qs ns in
    let l : is_link ((chart qs ns).holds z h m) ≡ true = ⊎_elim
    (λ (e : (finished (chart qs ns) x z n).holds z h m ≡ Target i). link_before (chart qs ns) x z n h m (Target i) e refl)
    (λ (e : (finished (chart qs ns) x z n).holds z h m ≡ From i g). link_before (chart qs ns) x z n h m (From i g) e refl)
    (partner_link (finished (chart qs ns) x z n) z h i g m mir p) in
    (l, held_slot qs ns z h m ((chart qs ns).holds z h m) all refl (link_held ((chart qs ns).holds z h m) l))

-- the partner of one segment
module _ (qs : List ℕ) (ns : List Node) (x z s m : ℕ) (all : AreRows qs ns) (is : IsSlot qs ns z s m) (r : IsRenamable (chart qs ns) x z (begin_of qs ns z)) where
  pub late : begin_of qs ns z ≤ m
  late = let d : Row = some_row ns z is.alive.there in let e : (row_at ns z (some_row ns z is.alive.there)).lo.0 ≡ lo_at ns z =
      lo_is ns z (some_row ns z is.alive.there) is.alive.there in subst (λ (p : ℕ). rank qs p ≤ m) e (is.alive.low (some_row ns z is.alive.there))

  pub pointer_found : (y : ℕ) → (chart qs ns).holds z s m ≡ Target y → (t : ℕ) × (renamed x z ((chart qs ns).holds (moved x z y) t m) ≡ From z s) × IsAlive qs ns (moved x z y) m
  pointer_found y e =
      let fin = finished (chart qs ns) x z (begin_of qs ns z) in
      let f : (t : ℕ) × ((finished (chart qs ns) x z (begin_of qs ns z)).holds (moved x z y) t m ≡ From z s) =
      r.mirrored.found z s m (moved x z y) (fin_late (chart qs ns) x z (begin_of qs ns z) z s m late ∙ ap (renamed x z) e) in
      let e' : renamed x z ((chart qs ns).holds (moved x z y) f.0 m) ≡ From z s = sym (fin_late (chart qs ns) x z (begin_of qs ns z) (moved x z y) f.0 m late) ∙ f.1 in
      let slot : IsSlot qs ns (moved x z y) f.0 m = named_slot qs ns (moved x z y) f.0 m x z s all e' in
      (f.0, e', slot.alive)

  pub partner_of_pointer : (y t : ℕ) → renamed x z ((chart qs ns).holds (moved x z y) t m) ≡ From z s
      → IsPartnerOf qs ns x z s m (record { node = record { 0 = moved x z y }; slot = record { 0 = t }; content = From z s })
  partner_of_pointer y t e =
      let e' : (finished (chart qs ns) x z (begin_of qs ns z)).holds (moved x z y) t m ≡ From z s = fin_late (chart qs ns) x z (begin_of qs ns z) (moved x z y) t m late ∙ e in
      record { partner = inl e'; content = sym e'; slot = named_slot qs ns (moved x z y) t m x z s all e }

  pub partner_of_entry : (y f : ℕ) → (chart qs ns).holds z s m ≡ From y f → IsPartnerOf qs ns x z s m (record { node = record { 0 = moved x z y }; slot = record { 0 = f }; content = Target z })
  partner_of_entry y f e =
      let e' : (finished (chart qs ns) x z (begin_of qs ns z)).holds z s m ≡ From (moved x z y) f = fin_late (chart qs ns) x z (begin_of qs ns z) z s m late ∙ ap (renamed x z) e in
      let b : (finished (chart qs ns) x z (begin_of qs ns z)).holds (moved x z y) f m ≡ Target z = r.mirrored.back z s m (moved x z y) f e' in
      let t = renamed_target x z z ((chart qs ns).holds (moved x z y) f m) (sym (fin_late (chart qs ns) x z (begin_of qs ns z) (moved x z y) f m late) ∙ b) in
      record { partner = inr e'; content = sym b; slot = target_slot qs ns (moved x z y) f m t.0 all t.2 }

-- the segment of the partner
pub partner_segment : (w : Chart) (z s a e i g : ℕ) → IsSteady w → IsMirrored w → IsSegmentOf w z s a e → IsPartner w z s i g a → IsSegmentOf w i g a e
partner_segment w z s a e i g st mir seg p =
    let m = segments_from_positions w st mir in
    ⊎_elim
    (λ (q : w.holds i g a ≡ From z s).
    let t = m.pointers z s a e i seg (mir.back i g a z s q) in
    let same : t.0 ≡ g = mir.one i t.0 g a z s t.2 q in
    subst (λ (k : ℕ). IsSegmentOf w i k a e) same t.1)
    (λ (q : w.holds z s a ≡ From i g). (m.entries z s a e i g seg q).0)
    p

-- one segment done
-- a segment that is replaced and covers the begin of a segment is that segment
pub replaced_from : (qs : List ℕ) (old new : List Node) (i g a : ℕ) (c : Content) → IsSegmentReplaced qs old new i g a c → (e : ℕ)
    → IsSegmentOf (chart qs old) i g a e → IsReplacedOver (chart qs old) (chart qs new) i g a e c
replaced_from qs old new i g a c h e s =
    let low : h.low ≡ a = ⊎_elim
    (λ (l : h.low < a). absurd (false≢true (sym (h.segment.whole a l h.not_over) ∙ s.begins)))
    (λ (l : a ≤ h.low). omega (arith, h.begun))
    (cases_lt h.low a) in
    let high : h.high ≡ e = ⊎_elim
    (λ (l : h.high < e). absurd (false≢true (sym (s.whole h.high h.not_over l) ∙ h.segment.ends)))
    (λ (l : e ≤ h.high). ⊎_elim
    (λ (m : e < h.high). absurd (false≢true (sym (h.segment.whole e (omega (arith, low, s.some)) m) ∙ s.ends)))
    (λ (m : h.high ≤ e). omega arith)
    (cases_lt e h.high))
    (cases_lt h.high e) in
    subst (λ (n : ℕ). IsReplacedOver (chart qs old) (chart qs new) i g n e c) low (subst (λ (n : ℕ). IsReplacedOver (chart qs old) (chart qs new) i g h.low n c) high h.replaced)

pub segment_done : (old new : Chart) (x z n s a e i g : ℕ) (c : Content) → IsRenamable old x z n → IsSegmentOf old z s a e
    → IsPartner (finished old x z n) z s i g a → c ≡ (finished old x z n).holds i g a →
    ((e : ℕ) → IsSegmentOf old i g a e → IsReplacedOver old new i g a e c) →
    IsHalfway old (finished old x z n) new z (one_more (λ _ _. false) s a e) × ((j t m : ℕ) → new.edge j t m ≡ old.edge j t m)
segment_done old new x z n s a e i g c r seg p is set =
    let fin = finished old x z n in
    let seg' : IsSegmentOf (finished old x z n) z s a e = record { begins = seg.begins; ends = seg.ends; some = seg.some; whole = seg.whole } in
    let ps : IsSegmentOf (finished old x z n) i g a e = partner_segment (finished old x z n) z s a e i g r.steady r.mirrored seg' p in
    let w : IsReplacedOver old new i g a e c = set e (record { begins = ps.begins; ends = ps.ends; some = ps.some; whole = ps.whole }) in (
      partner_law old (finished old x z n) old new z (λ _ _. false) s a e i g r.steady r.mirrored (start_law old x z n r.mirrored)
          (record { segment = seg'; partner = p; holds = λ j t m. w.holds j t m ∙ ap (λ v. cond ((eqb j i && eqb t g) && (leb a m && ltb m e)) v (old.holds j t m)) is }),
      w.edges,
    )

pub segment_passed : (old : Chart) (x z n s a e : ℕ) → IsRenamable old x z n → IsSegmentOf old z s a e → HasNoPartner (finished old x z n) z s a
    → IsHalfway old (finished old x z n) old z (one_more (λ _ _. false) s a e)
segment_passed old x z n s a e r seg p =
    no_partner_law old (finished old x z n) old z (λ _ _. false) s a e r.steady r.mirrored (start_law old x z n r.mirrored)
    (record { begins = seg.begins; ends = seg.ends; some = seg.some; whole = seg.whole }) p.no_pointer p.no_entry

-- replacing
pub replaced_itself : (ns : List Node) → AreReplaced ns ns
replaced_itself ns = record { count = refl; frames = refl; links = λ i. refl; lo = λ i. refl; hi = λ i. refl; width = λ i d. refl; stamped = λ i. refl }

pub replaced_on : (old mid new : List Node) → AreReplaced old mid → AreReplaced mid new → AreReplaced old new
replaced_on old mid new a b = record {
  count = b.count ∙ a.count;
  frames = b.frames ∙ a.frames;
  links = λ i. b.links i ∙ a.links i;
  lo = λ i. b.lo i ∙ a.lo i;
  hi = λ i. b.hi i ∙ a.hi i;
  width = λ i d. b.width i d ∙ a.width i d;
  stamped = λ i. b.stamped i ∙ a.stamped i;
}

pub replaced_touched : (old new : List Node) (x : ℕ) → x < length old → IsTouched 0 old new x → ((d : Row) → stamped_count (row_at new x d) ≡ stamped_count (row_at old x d)) → AreReplaced old new
replaced_touched old new x l t exact =
    let d : Row = some_row old x l in
    record {
      count = t.count;
      frames = t.frames;
      links = t.links;
      lo = t.lo;
      hi = t.hi;
      width = t.width;
      stamped = λ i. ⊎_elim
          (λ (p : i < length old). stamped_is new i (some_row old x l) (omega (arith, t.count))
          ∙ ⊎_elim (λ (e : i ≡ x). rw e (exact (some_row old x l))) (λ (ne : i ≡ x → ⊥). ap stamped_count (t.others i (some_row old x l) ne))
          (cases_eq i x) ∙ sym (stamped_is old i (some_row old x l) p))
          (λ (p : length old ≤ i). stamped_past new i (omega (arith, t.count)) ∙ sym (stamped_past old i p))
          (cases_lt i (length old));
    }

-- what is done, one segment and one slot more
pub done_to_more : (s p c k m : ℕ) → p < c → ((eqb k s && ltb m p) || ((eqb k s && (leb p m && ltb m c)) || false)) ≡ (eqb k s && ltb m c)
done_to_more s p c k m l =
    ⊎_elim
    (λ (q : k ≡ s). rw (eq-eqb k s q) (⊎_elim
    (λ (u : m < p). rw (lt-ltb m p u, lt-ltb m c (omega arith)) refl)
    (λ (u : p ≤ m). rw (le-ltb m p u, le-leb p m u) (or_false (ltb m c)))
    (cases_lt m p)))
    (λ (q : k ≡ s → ⊥). rw (ne_eqb k s q) refl)
    (cases_eq k s)
  where
    or_false : (b : Bool) → (b || false) ≡ b
    or_false true = refl
    or_false false = refl

pub slots_done_more : (first index k m : ℕ) → first ≤ index → ((leb first k && ltb k index) || eqb k index) ≡ (leb first k && ltb k (index + 1))
slots_done_more first index k m l =
    ⊎_elim
    (λ (q : k ≡ index). rw (eq-eqb k index q, le-leb first k (omega arith), lt-ltb k (index + 1) (omega arith), le-ltb k index (omega arith)) refl)
    (λ (q : k ≡ index → ⊥). rw (ne_eqb k index q) (⊎_elim
    (λ (u : k < index). rw (lt-ltb k index u, lt-ltb k (index + 1) (omega arith)) (or_false (leb first k && true)))
    (λ (u : index ≤ k). rw (le-ltb k index u, le-ltb k (index + 1) (omega arith)) (or_false (leb first k && false)))
    (cases_lt k index)))
    (cases_eq k index)
  where
    or_false : (b : Bool) → (b || false) ≡ b
    or_false true = refl
    or_false false = refl

pub slots_none : (first k : ℕ) → (leb first k && ltb k first) ≡ false
slots_none first k = ⊎_elim (λ (l : k < first). and_left (leb first k) (ltb k first) (lt-leb first k l))
    (λ (l : first ≤ k). and_right (leb first k) (ltb k first) (le-ltb k first l)) (cases_lt k first)

-- the life of z
module _ (qs : List ℕ) (ns : List Node) (z : ℕ) (l : z < length ns) (all : AreRows qs ns) where
  pub z_row : IsRow (rank qs) (length qs) (row_at ns z (some_row ns z l))
  z_row = row_in qs ns z (some_row ns z l) l all

  pub begin_edge : (s : ℕ) → (chart qs ns).edge z s (begin_of qs ns z) ≡ true
  begin_edge s =
      let d : Row = some_row ns z l in
      edges_in qs ns z (some_row ns z l) l s (begin_of qs ns z)
      ∙ edge_here (stamps_of (rank qs) (row_at ns z (some_row ns z l)) s) (rank qs (row_at ns z (some_row ns z l)).lo.0)
      (rank qs (row_at ns z (some_row ns z l)).hi.0) (begin_of qs ns z) (inl (ap (rank qs) (sym (lo_is ns z (some_row ns z l) l))))

  pub life : (begin_of qs ns z < rank qs (hi_at ns z)) × (rank qs (hi_at ns z) < length qs)
  life =
      let a : (row_at ns z (some_row ns z l)).lo.0 ≡ lo_at ns z = lo_is ns z (some_row ns z l) l in
      let b : (row_at ns z (some_row ns z l)).hi.0 ≡ hi_at ns z = hi_is ns z (some_row ns z l) l in (
        subst (λ (p : ℕ). rank qs p < rank qs (hi_at ns z)) a (subst (λ (p : ℕ). rank qs (row_at ns z (some_row ns z l)).lo.0 < rank qs p) b
            z_row.life),
        subst (λ (p : ℕ). rank qs p < length qs) b z_row.there,
      )

  pub slot_in : (s m : ℕ) → ((d : Row) → s < width_of (row_at ns z d)) → begin_of qs ns z ≤ m → m < rank qs (hi_at ns z) → IsSlot qs ns z s m
  slot_in s m wide low high = record {
    alive = record {
      there = l;
      low = λ d. rw (lo_is ns z d l) low;
      high = λ d. rw (hi_is ns z d l) high;
    };
    slot_there = wide;
  }

  pub slot_life : (s m : ℕ) → IsSlot qs ns z s m → (begin_of qs ns z ≤ m) × (m < rank qs (hi_at ns z))
  slot_life s m is =
      let a : (row_at ns z (some_row ns z l)).lo.0 ≡ lo_at ns z = lo_is ns z (some_row ns z l) l in
      let b : (row_at ns z (some_row ns z l)).hi.0 ≡ hi_at ns z = hi_is ns z (some_row ns z l) l in
      (subst (λ (p : ℕ). rank qs p ≤ m) a (is.alive.low (some_row ns z l)), subst (λ (p : ℕ). m < rank qs p) b (is.alive.high (some_row ns z l)))

  -- nothing is done before the life, and all is done at its end
  pub half_none : (x s : ℕ) → IsRenamable (chart qs ns) x z (begin_of qs ns z)
      → IsHalfway (chart qs ns) (finished (chart qs ns) x z (begin_of qs ns z)) (chart qs ns) z (slot_done_to s (begin_of qs ns z))
  half_none x s r =
      half_ext (chart qs ns) (finished (chart qs ns) x z (begin_of qs ns z)) (chart qs ns) z (λ h m. false) (slot_done_to s (begin_of qs ns z))
      (λ i g m h p.
      let t = partner_lives qs ns x z (begin_of qs ns z) h i g m all r.mirrored p in
      sym (and_right (eqb h s) (ltb m (begin_of qs ns z)) (le-ltb m (begin_of qs ns z) (slot_life h m t.1).0)))
      (start_law (chart qs ns) x z (begin_of qs ns z) r.mirrored)

  pub half_whole : (x s : ℕ) (new : Chart) → IsRenamable (chart qs ns) x z (begin_of qs ns z)
      → IsHalfway (chart qs ns) (finished (chart qs ns) x z (begin_of qs ns z)) new z (slot_done_to s (rank qs (hi_at ns z)))
      → IsHalfway (chart qs ns) (finished (chart qs ns) x z (begin_of qs ns z)) new z (slot_done s)
  half_whole x s new r h =
      half_ext (chart qs ns) (finished (chart qs ns) x z (begin_of qs ns z)) new z (slot_done_to s (rank qs (hi_at ns z))) (slot_done s)
      (λ i g m k p.
      let t = partner_lives qs ns x z (begin_of qs ns z) k i g m all r.mirrored p in
      ap (λ b. eqb k s && b) (lt-ltb m (rank qs (hi_at ns z)) (slot_life k m t.1).1) ∙ and-true (eqb k s))
      h
    where
      and-true : (b : Bool) → (b && true) ≡ b
      and-true true = refl
      and-true false = refl

-- what is replaced is renamable still
pub renamable_after : (qs : List ℕ) (old now : List Node) (x z : ℕ) (done : ℕ → ℕ → Bool) → IsRenamable (chart qs old) x z (begin_of qs old z)
    → IsHalfway (chart qs old) (finished (chart qs old) x z (begin_of qs old z)) (chart qs now) z done →
    ((i g m : ℕ) → (chart qs now).edge i g m ≡ (chart qs old).edge i g m) → AreReplaced old now → IsRenamable (chart qs now) x z (begin_of qs now z)
    × (finished (chart qs now) x z (begin_of qs now z) ≡ finished (chart qs old) x z (begin_of qs old z))
renamable_after qs old now x z done r half edges same =
    let e : begin_of qs now z ≡ begin_of qs old z = ap (rank qs) (same.lo z) in
    let p : finished (chart qs now) x z (begin_of qs old z) ≡ finished (chart qs old) x z (begin_of qs old z) = fin_path (chart qs old) (chart qs now) x z (begin_of qs old z) done r half edges in (
      subst (λ (n : ℕ). IsRenamable (chart qs now) x z n) (sym e) (renamable_on (chart qs old) (chart qs now) x z (begin_of qs old z) r p),
      ap (λ (n : ℕ). finished (chart qs now) x z n) e ∙ p,
    )

-- a segment found at a place where one begins begins there
pub segment_here : (qs : List ℕ) (ns : List Node) (z s at a c : ℕ) → (chart qs ns).edge z s (rank qs at) ≡ true
    → IsSegmentAt qs ns z s (rank qs at) a c → IsSegmentOf (chart qs ns) z s (rank qs at) (rank qs c)
segment_here qs ns z s at a c e seg =
    ⊎_elim
    (λ (l : rank qs a < rank qs at). absurd (false≢true (sym (seg.segment.whole (rank qs at) l seg.not_over) ∙ e)))
    (λ (l : rank qs at ≤ rank qs a). let same : rank qs a ≡ rank qs at = omega (arith, seg.begun) in subst (λ (n : ℕ). IsSegmentOf (chart qs ns) z s n (rank qs c)) same seg.segment)
    (cases_lt (rank qs a) (rank qs at))

pub now_slot : (qs : List ℕ) (old now : List Node) (z s m : ℕ) → AreReplaced old now → IsSlot qs old z s m → IsSlot qs now z s m
now_slot qs old now z s m same a =
    let there : z < length now = omega (arith, same.count, a.alive.there) in
    record {
      alive = record {
        there = there;
        low = λ d. let e : (row_at now z d).lo.0 ≡ (row_at old z d).lo.0 = lo_is now z d there ∙ same.lo z ∙ sym (lo_is old z d a.alive.there) in rw e (a.alive.low d);
        high = λ d. let e : (row_at now z d).hi.0 ≡ (row_at old z d).hi.0 = hi_is now z d there ∙ same.hi z ∙ sym (hi_is old z d a.alive.there) in rw e (a.alive.high d);
      };
      slot_there = λ d. rw (same.width z d) (a.slot_there d);
    }

pub end_of_segment : (qs : List ℕ) (old now : List Node) (z s m a c : ℕ) → z < length old → AreReplaced old now → IsSegmentAt qs now z s m a c → rank qs c ≤ rank qs (hi_at old z)
end_of_segment qs old now z s m a c l same seg =
    let there : z < length now = omega (arith, same.count) in
    let e : (row_at now z (some_row now z there)).hi.0 ≡ hi_at old z = hi_is now z (some_row now z there) there ∙ same.hi z in
    subst (λ (p : ℕ). rank qs c ≤ rank qs p) e (seg.high (some_row now z there))

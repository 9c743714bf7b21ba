use Rattle.pst_base.specs.Shape.{type_at}
use Rattle.pst_rows.specs.Changes.{slot_count}
use Rattle.std.proofs.lemmas.List.{append-nil}
use Rattle.pst_nodes.proofs.QueueLemmas.{chain_kept}
use Rattle.std.proofs.Common.{◌≡◌, ◌≢◌, ℕ, ◌+◌, ◌≤◌, ◌<◌, true, List, [], ◌++◌, length, get_or, refl, sym, ap, ◌∙◌, subst, ⊎_elim, ◌⊎◌, inl, inr, arith}
use Rattle.std.proofs.lemmas.Bool.{cases_eq, cases_lt, eq-eqb, false≢true}
use Rattle.pst_rows.specs.declared.content.Content.{Content}
use Rattle.pst_rows.specs.declared.content.Content.TheVariants.{Null}
use Rattle.pst_mirror.specs.Contents.{Target, From}
use Rattle.pst_rows.specs.declared.row.Row.{Row}
use Rattle.pst_order.specs.Places.{rank}
use Rattle.pst_mirror.specs.Mirror.{Chart}
use Rattle.pst_mirror.specs.Partners.{IsPartner}
use Rattle.pst_rows.specs.Rows.{stamped_count}
use Rattle.pst_nodes.specs.Arena.{no_frame, rows_of, row_at, frames_of, frame_at, Frame, link_at, AreRows, chart, IsSlot, IsTyped}
use Rattle.pst_mirror.proofs.MirrorLemmas.{target_node}
use Rattle.pst_mirror.proofs.PartnerLemmas.{one_partner}
use Rattle.pst_nodes.specs.Queue.{waits, HoldsList}
use Rattle.pst_nodes.specs.declared.queue.Queue.{Queue}
use Rattle.pst_nodes.specs.declared.node.Node.{Node}
use Rattle.pst_base.specs.declared.shape.TypeShape.{TypeShape}
use Rattle.pst_nodes.specs.Changes.{IsTouched}
use Rattle.pst_nodes.proofs.NodeLemmas.{lo_is, hi_is, length-rows}
use Rattle.pst_order.proofs.RankLemmas.{rank_before}
use Rattle.pst_nodes.proofs.PairLemmas.{target_slot, entry_at}
use Rattle.pst_repair.specs.Load.{half_at, stamped_at, IsOver}
use Rattle.pst_repair.specs.Steps.{AreParted, IsOuter, IsOuterOf, IsPartnerCut, ArePartnersCutUpTo, AreGrown, Queues, KeepsQueue, WaitsIfOver}
use Rattle.pst_repair.proofs.LoadLemmas.{stamped_is, stamped_past, half_same, grown_on, grown_touched, grown_same}

module _ (w now : Chart) (x z n : ℕ) (p : AreParted w now x z n) where
  -- a partner outside is one in the chart before
  pub outer_is : (s i g : ℕ) → IsOuter now x z s i g n → IsPartner w x s i g n
  outer_is s i g o =
      ⊎_elim (λ (e : now.holds i g n ≡ From x s). inl (sym (p.holds i g o.not_x o.not_z) ∙ e))
      (λ (e : now.holds z s n ≡ From i g). inr (sym (p.z_holds s) ∙ e))
      o.pair

  -- what its slot of x held
  pub outer_held : (s i g : ℕ) → IsOuter now x z s i g n → (now.holds z s n ≡ Target i) ⊎ (now.holds z s n ≡ From i g)
  outer_held s i g o =
      ⊎_elim (λ (e : w.holds i g n ≡ From x s). inl (p.z_holds s ∙ p.mirrored.back i g n x s e))
      (λ (e : w.holds x s n ≡ From i g). inr (p.z_holds s ∙ e))
      (outer_is s i g o)

  pub outer_one : (s i g j t : ℕ) → IsOuter now x z s i g n → IsOuter now x z s j t n → (j ≡ i) × (t ≡ g)
  outer_one s i g j t o q = one_partner w p.mirrored x s j t i g n (outer_is s j t q) (outer_is s i g o)

  -- what holds something is not z
  pub not_z : (i g : ℕ) (c : Content) → w.holds i g n ≡ c → c ≢ Null → i ≢ z
  not_z i g c e ne q = ne (sym e ∙ ap (λ (k : ℕ). w.holds k g n) q ∙ p.fresh g)

  -- the entry of a pointer
  pub outer_entry : (s y : ℕ) → now.holds z s n ≡ Target y → y ≢ x → (y ≢ z) × ((t : ℕ) × (now.holds y t n ≡ From x s))
  outer_entry s y e ne =
      let f : (t : ℕ) × (w.holds y t n ≡ From x s) = p.mirrored.found x s n y (sym (p.z_holds s) ∙ e) in
      let nz : y ≢ z = not_z y f.0 (From x s) f.1 (λ q. let q' : From x s ≡ Null = q in cc) in
      (nz, (f.0, p.holds y f.0 ne nz ∙ f.1))

  -- the pointer of an entry
  pub outer_pointer : (s y f : ℕ) → now.holds z s n ≡ From y f → y ≢ x → (y ≢ z) × (now.holds y f n ≡ Target x)
  outer_pointer s y f e ne =
      let b : w.holds y f n ≡ Target x = p.mirrored.back x s n y f (sym (p.z_holds s) ∙ e) in
      let nz : y ≢ z = not_z y f (Target x) b (λ q. let q' : Target x ≡ Null = q in cc) in
      (nz, p.holds y f ne nz ∙ b)

-- the partner found
pub outer_of_pointer : (qs : List ℕ) (ns : List Node) (w : Chart) (x z s y t n : ℕ) → AreRows qs ns → AreParted w (chart qs ns) x z n
    → (chart qs ns).holds z s n ≡ Target y → y ≢ x → (chart qs ns).holds y t n ≡ From x s → IsOuterOf qs ns x z s y t n
outer_of_pointer qs ns w x z s y t n all p e ne f =
    let nz : y ≢ z = (outer_entry w (chart qs ns) x z n p s y e ne).0 in
    let o : IsOuter (chart qs ns) x z s y t n = record { not_x = ne; not_z = nz; pair = inl f } in
    record {
      outer = o;
      one = λ j u q. outer_one w (chart qs ns) x z n p s y t j u o q;
      slot = entry_at qs ns y t n x s all f;
      named = rw e (eq-eqb y y refl);
    }

pub outer_of_entry : (qs : List ℕ) (ns : List Node) (w : Chart) (x z s y f n : ℕ) → AreRows qs ns → AreParted w (chart qs ns) x z n
    → (chart qs ns).holds z s n ≡ From y f → y ≢ x → IsOuterOf qs ns x z s y f n
outer_of_entry qs ns w x z s y f n all p e ne =
    let t = outer_pointer w (chart qs ns) x z n p s y f e ne in
    let o : IsOuter (chart qs ns) x z s y f n = record { not_x = ne; not_z = t.0; pair = inr e } in
    record {
      outer = o;
      one = λ j u q. outer_one w (chart qs ns) x z n p s y f j u o q;
      slot = target_slot qs ns y f n x all t.1;
      named = rw e (eq-eqb y y refl);
    }

-- no partner outside, where z's slot holds neither a pointer nor an entry of another node
pub outer_none : (w now : Chart) (x z s n : ℕ) → AreParted w now x z n → ((y : ℕ) → now.holds z s n ≡ Target y → y ≡ x)
    → ((y f : ℕ) → now.holds z s n ≡ From y f → y ≡ x) → (i g : ℕ) → IsOuter now x z s i g n → ⊥
outer_none w now x z s n p a b i g o =
    ⊎_elim (λ (e : now.holds z s n ≡ Target i). o.not_x (a i e)) (λ (e : now.holds z s n ≡ From i g). o.not_x (b i g e)) (outer_held w now x z n p s i g o)

pub queues_links : (old new : List Node) (queue : Queue) (xs : List ℕ) → length new ≡ length old → ((i : ℕ) → link_at new i ≡ link_at old i) → Queues old queue xs → Queues new queue xs
queues_links old new queue xs count links h = subst (λ (k : ℕ). HoldsList k (link_at new) queue xs) (sym count) (record {
  ends = h.ends;
  chain = chain_kept (link_at old) (link_at new) xs (λ i _. links i) h.chain;
  there = h.there;
  apart = h.apart;
  others = λ i w. links i ∙ h.others i w;
})

pub queue_touched : (k : ℕ) (types : List TypeShape) (old mid new : List Node) (queue queue' : Queue) (x : ℕ) (d : Row) → IsTouched k old mid x
    → KeepsQueue (λ i. i ≡ x) types mid new queue queue' → KeepsQueue (λ _. ⊥) types old new queue queue'
queue_touched k types old mid new queue queue' x d t b xs h =
    let q = b xs (queues_links old mid queue xs t.count t.links h) in
    let same : (i : ℕ) → i ≢ x → IsOver types mid i → IsOver types old i = λ i ne over.
    let a : stamped_at mid i ≡ stamped_at old i = ⊎_elim
    (λ (l : i < length old). stamped_is mid i d (omega (arith, t.count)) ∙ ap stamped_count (t.others i d ne) ∙ sym (stamped_is old i d l))
    (λ (l : length old ≤ i). stamped_past mid i (omega (arith, t.count)) ∙ sym (stamped_past old i l))
    (cases_lt i (length old)) in
    let c : half_at types mid i ≡ half_at types old i = half_same types old mid t.frames i in
    omega arith in (
      q.0,
      q.1,
      λ i o. ⊎_elim
          (λ (e : i ≡ x). q.2 i (inl e))
          (λ (ne : i ≡ x → ⊥). ⊎_elim (λ (v : ⊥). absurd v) (λ (u : WaitsIfOver types old xs i). q.2 i (inr (λ over. u (same i ne over)))) o)
          (cases_eq i x),
    )

pub queue_nothing : (types : List TypeShape) (ns : List Node) (queue : Queue) → KeepsQueue (λ _. ⊥) types ns ns queue queue
queue_nothing types ns queue xs h = (
  [],
  record { held = subst (λ (zs : List ℕ). Queues ns queue zs) (sym (append-nil xs)) h; over = λ i w. absurd (false≢true w) },
  λ i o w. subst (λ (zs : List ℕ). waits zs i ≡ true) (sym (append-nil xs)) (⊎_elim (λ (v : ⊥). absurd v) (λ (u : WaitsIfOver types ns xs i). u w) o),
)

-- growth keeps what is there
module _ (k : ℕ) (types : List TypeShape) (old new : List Node) (g : AreGrown k types old new) where
  pub slot_grown : (qs : List ℕ) (i s n : ℕ) → IsSlot qs old i s n → IsSlot qs new i s n
  slot_grown qs i s n a =
      let there : i < length new = omega (arith, g.count, a.alive.there) in
      record {
        alive = record {
          there = there;
          low = λ d. let e : (row_at new i d).lo.0 ≡ (row_at old i d).lo.0 = lo_is new i d there ∙ g.lo i ∙ sym (lo_is old i d a.alive.there) in rw e (a.alive.low d);
          high = λ d. let e : (row_at new i d).hi.0 ≡ (row_at old i d).hi.0 = hi_is new i d there ∙ g.hi i ∙ sym (hi_is old i d a.alive.there) in rw e (a.alive.high d);
        };
        slot_there = λ d. rw (g.width i d) (a.slot_there d);
      }

  pub typed_grown : (i : ℕ) → IsTyped types old i → IsTyped types new i
  typed_grown i h =
      let e : (frame_at new i).ty ≡ (frame_at old i).ty = ap (λ (fs : List Frame). (get_or fs i no_frame).ty) g.frames in
      record {
        there = subst (λ (y : ℕ). y < length types) (sym e) h.there;
        width = λ d. g.width i d ∙ h.width d ∙ ap (λ (y : ℕ). slot_count (type_at types (record { 0 = y }))) (sym e);
      }

  pub all_typed : ((i : ℕ) → i < length old → IsTyped types old i) → (i : ℕ) → i < length new → IsTyped types new i
  all_typed h i l = typed_grown i (h i (omega (arith, g.count)))

-- the loop over the slots
pub outer_same : (old now : Chart) (x z s i g n : ℕ) → ((j t m : ℕ) → now.holds j t m ≡ old.holds j t m) → IsOuter old x z s i g n → IsOuter now x z s i g n
outer_same old now x z s i g n same o = record {
  not_x = o.not_x;
  not_z = o.not_z;
  pair = ⊎_elim (λ (e : old.holds i g n ≡ From x s). inl (same i g n ∙ e)) (λ (e : old.holds z s n ≡ From i g). inr (same z s n ∙ e)) o.pair;
}

pub parted_same : (w old now : Chart) (x z n : ℕ) → ((j t m : ℕ) → now.holds j t m ≡ old.holds j t m) → AreParted w old x z n → AreParted w now x z n
parted_same w old now x z n same p = record {
  mirrored = p.mirrored;
  other = p.other;
  fresh = p.fresh;
  z_holds = λ g. same z g n ∙ p.z_holds g;
  holds = λ i g a b. same i g n ∙ p.holds i g a b;
}

pub none_cut : (w : Chart) (x z n first : ℕ) → ArePartnersCutUpTo w w x z n first first
none_cut w x z n first = record { holds = λ i g m. refl; cut = λ s i g l k o. absurd (omega arith); kept = λ i g m e. e; others = λ i g m o. refl }

pub one_more_cut : (old now new : Chart) (x z n first k : ℕ) → first ≤ k → ArePartnersCutUpTo old now x z n first k → IsPartnerCut now new x z k n → ArePartnersCutUpTo old new x z n first (k + 1)
one_more_cut old now new x z n first k l a b =
    record {
      holds = λ i g m. b.holds i g m ∙ a.holds i g m;
      cut = λ s i g u v o. ⊎_elim
          (λ (e : s ≡ k). b.cut i g (subst (λ (y : ℕ). IsOuter now x z y i g n) e (outer_same old now x z s i g n a.holds o)))
          (λ (ne : s ≡ k → ⊥). b.kept i g n (a.cut s i g u (omega arith) o))
          (cases_eq s k);
      kept = λ i g m e. b.kept i g m (a.kept i g m e);
      others = λ i g m none.
          b.others i g m (λ e o. none k l (omega arith) e (outer_same now old x z k i g n (λ j t q. sym (a.holds j t q)) o))
          ∙ a.others i g m (λ s u v e o. none s u (omega arith) e o);
    }

pub held_after : (types : List TypeShape) (asked : ℕ → Type 0) (old new : List Node) (queue queue' : Queue) → (xs : List ℕ) × Queues old queue xs
    → KeepsQueue asked types old new queue queue' → (xs : List ℕ) × Queues new queue' xs
held_after types asked old new queue queue' h k = let q = k h.0 h.1 in (h.0 ++ q.0, q.1.held)

pub queue_never : (types : List TypeShape) (old new : List Node) (queue queue' : Queue) → KeepsQueue (λ i. ⊥ ⊎ ⊥) types old new queue queue' → KeepsQueue (λ _. ⊥) types old new queue queue'
queue_never types old new queue queue' k xs h = let q = k xs h in (q.0, q.1, λ i o. q.2 i (⊎_elim (λ (v : ⊥). absurd v) (λ (u : WaitsIfOver types old xs i). inr u) o))

pub before_ne : (qs : List ℕ) (a b : ℕ) → rank qs a ≤ rank qs b → rank qs b < length qs → (a ≡ b → ⊥) → rank qs a < rank qs b
before_ne qs a b l k ne = rank_before qs a b l k ne

pub same_count : (old new : List Node) → rows_of new ≡ rows_of old → length new ≡ length old
same_count old new rows = sym (length-rows new) ∙ ap length rows ∙ length-rows old

pub grown_cut : (types : List TypeShape) (old mid new : List Node) (x : ℕ) → x < length old → IsTouched 1 old mid x
    → ((d : Row) → stamped_count (row_at mid x d) ≡ stamped_count (row_at old x d) + 1) → rows_of new ≡ rows_of mid → frames_of new ≡ frames_of mid
    → Row → AreGrown 1 types old new
grown_cut types old mid new x l t exact rows frames d =
    grown_on 1 0 types old mid new (grown_touched 1 types old mid x l t (λ d'. omega (arith, exact d')) d) (grown_same types mid new (same_count mid new rows) rows frames)

pub none_at_target : (w now : Chart) (x z s n y : ℕ) → AreParted w now x z n → now.holds z s n ≡ Target y → y ≡ x → (i g : ℕ) → IsOuter now x z s i g n → ⊥
none_at_target w now x z s n y p e same = outer_none w now x z s n p (λ k q. target_node k y (sym q ∙ e) ∙ same) (λ k f q. let d : From k f ≡ Target y = sym q ∙ e in cc)

use Rattle.pst_rows.specs.Values.{before_in, after_in, width_in, count_in}
use Rattle.pst_repair.proofs.LoadLemmas.{chart_same, rows_kept, stamped_is, stamped_past, stamped_read, stamped_le, only_none, only_weaker, only_on, excess_at}
use Rattle.pst_repair.proofs.LoadLemmas.{half_same, over_same, grown_same, potential_le, lo_same, hi_same, queue_on, queue_same}
use Rattle.pst_nodes.specs.Arena.{values_of, no_frame, HasRoom, rows_of, row_at, Frame, frames_of, frame_at, link_at, lo_at, hi_at, AreRows, chart, lives, IsSlot, IsTyped, type_no, type_of}
use Rattle.std.proofs.Common.{◌≡◌, ◌≢◌, ℕ, zero, suc, ◌+◌, ◌-◌, ◌*◌, ◌≤◌, ◌<◌, true, false, ◌||◌, ◌&&◌, cond, eqb, List, [], ◌∷◌, length, get_or, map, sum_by}
use Rattle.std.proofs.Common.{refl, sym, ap, ap₂, ◌∙◌, subst, ⊎_elim, ◌⊎◌, inl, inr, arith}
use Rattle.std.proofs.lemmas.Bool.{cases_eq, cases_lt, cases_Bool, eq-eqb, ne_eqb, false≢true}
use Rattle.std.proofs.lemmas.List.Sums.{sum_by-cons}
use Rattle.pst_rows.specs.declared.content.Content.{Content}
use Rattle.pst_rows.specs.declared.content.Content.TheVariants.{Number, Null, Free, Target as TargetOf, From as FromOf}
use Rattle.pst_mirror.specs.Contents.{Target, From}
use Rattle.pst_rows.specs.declared.row.Row.{Row}
use Rattle.pst_order.specs.Places.{rank}
use Rattle.pst_mirror.specs.Mirror.{Chart, IsMirrored, IsSteady, names, renamed, moved, IsSplitWhole}
use Rattle.pst_mirror.specs.Charts.{IsMovedApart}
use Rattle.pst_nodes.proofs.PairLemmas.{held_slot, entry_at}
use Rattle.pst_mirror.specs.Kinds.{HasKind}
use Rattle.pst_mirror.specs.Potential.{half}
use Rattle.pst_mirror.proofs.KindLemmas.{pointer_field, kind-renamed, kind-types}
use Rattle.pst_base.specs.declared.names.TypeNo.{TypeNo}
use Rattle.pst_base.specs.Shape.{type_at, element_count}
use Rattle.pst_rows.specs.Changes.{slot_count, IsSplitStamp}
use Rattle.pst_repair.proofs.RenameLemmas.{link_held}
use Rattle.pst_mirror.specs.SplitBody.{finished, ArePartnersCut}
use Rattle.pst_mirror.specs.Lives.{IsSplitLife, Lives, IsIn}
use Rattle.pst_mirror.specs.Partners.{IsPartner}
use Rattle.pst_rows.specs.Rows.{stamped_count, width_of, stamped_before, stamped_after}
use Rattle.pst_mirror.proofs.SplitBodyLemmas.{named, partner_names, finish_law, finished_is_steady, split_body_law}
use Rattle.pst_mirror.proofs.SplitLemmas.{split_whole_law}
use Rattle.pst_mirror.proofs.LivesLemmas.{split_life_law}
use Rattle.pst_mirror.proofs.ChartLemmas.{charts_steady}
use Rattle.pst_nodes.specs.Queue.{AreThere}
use Rattle.pst_nodes.specs.declared.queue.Queue.{Queue}
use Rattle.pst_nodes.proofs.QueueLemmas.{chain_kept}
use Rattle.pst_nodes.specs.declared.node.Node.{Node}
use Rattle.pst_base.specs.declared.shape.TypeShape.{TypeShape}
use Rattle.pst_nodes.specs.Changes.{IsCutInTwo}
use Rattle.pst_nodes.proofs.NodeLemmas.{lo_is, hi_is, some_row, row_in, in_of}
use Rattle.pst_repair.specs.Load.{IsSound, IsOver, is_link, first_in, half_in, half_at, stamped_at, stamped_in_all, excess, potential_of}
use Rattle.pst_repair.specs.Steps.{AreParted, IsOuter, ArePartnersCutUpTo, AreGrown, AreReplaced, HasRoomRound, IsParted, IsRenamable, IsRenamed, begin_of}
use Rattle.pst_repair.specs.Steps.{Queues, KeepsQueue, HasQueuedOnly, WaitsIfOver}
use Rattle.pst_repair.specs.Split.{IsSplit, IsHalfOrNeighbour}
use Rattle.pst_repair.proofs.CutLemmas.{outer_is, queues_links, same_count}
use Rattle.pst_repair.proofs.RoomLemmas.{same_chart, same_lo, same_hi, same_stamped, same_lives, named_there}

-- The partners cut after the node was cut in two: as if they had been cut before.
abbrev pub cut_chart : Chart → ℕ → ℕ → Chart
cut_chart w x n = record { holds = w.holds; edge = λ i g m. cond (eqb i x) (w.edge i g m) ((eqb m n && names x (w.holds i g m)) || w.edge i g m) }

pub names_link : (x : ℕ) (c : Content) → names x c ≡ true → is_link c ≡ true
names_link x (Number k) e = e
names_link x Null e = e
names_link x (TargetOf y) e = refl
names_link x Free e = e
names_link x (FromOf y f) e = refl

module _ (old n1 : Chart) (x z n : ℕ) (mir : IsMirrored old) (a : IsMovedApart old n1 x z n) where
  pub moved_x : moved x z x ≡ z
  moved_x = rw (eq-eqb x x refl) refl

  pub moved_other : (i : ℕ) → i ≢ x → moved x z i ≡ i
  moved_other i ne = rw (ne_eqb i x ne) refl

  pub parted : AreParted old n1 x z n
  parted = record {
    mirrored = mir;
    other = a.other;
    fresh = λ g. a.fresh g n;
    z_holds = λ g. ap (λ (k : ℕ). n1.holds k g n) (sym moved_x) ∙ a.late x g n (omega arith) a.other;
    holds = λ i g nx nz. ap (λ (k : ℕ). n1.holds k g n) (sym (moved_other i nx)) ∙ a.late i g n (omega arith) nz;
  }

  module _ (n2 : Chart) (first end : ℕ) (c : ArePartnersCutUpTo n1 n2 x z n first end) (linked : (s : ℕ) → is_link (old.holds x s n) ≡ true → (first ≤ s) × (s < end)) where
    -- what is not cut
    plain : (i g m : ℕ) → (m ≡ n → i ≢ x → i ≢ z → names x (old.holds i g n) ≡ true → ⊥) → n2.edge i g m ≡ n1.edge i g m
    plain i g m h = c.others i g m (λ s l k e o. h e o.not_x o.not_z (partner_names old x s i g n mir (outer_is old n1 x z n parted s i g o)))

    pub cut_apart : IsMovedApart (cut_chart old x n) n2 x z n
    cut_apart = record {
      other = a.other;
      fresh = a.fresh;
      early = λ i g m l. c.holds i g m ∙ a.early i g m l;
      gone = λ g m l. c.holds x g m ∙ a.gone g m l;
      late = λ i g m l nz. c.holds (moved x z i) g m ∙ a.late i g m l nz;
      early_edges = λ i g m l nz.
          let ne : m ≡ n → ⊥ = λ e. omega arith in
          plain i g m (λ e p q r. ne e) ∙ a.early_edges i g m l nz ∙ ⊎_elim
          (λ (e : i ≡ x). rw (eq-eqb i x e) refl)
          (λ (nx : i ≡ x → ⊥). rw (ne_eqb i x nx, ne_eqb m n ne) refl)
          (cases_eq i x);
      late_edges = λ i g m l nz. ⊎_elim
          (λ (e : i ≡ x).
          plain (moved x z i) g m (λ u p q r. q (ap (moved x z) e ∙ moved_x)) ∙ a.late_edges i g m l nz ∙ (rw (eq-eqb i x e) refl))
          (λ (nx : i ≡ x → ⊥).
          ap (λ (k : ℕ). n2.edge k g m) (moved_other i nx) ∙ ⊎_elim
          (λ (e : m ≡ n). ⊎_elim
          (λ (q : names x (old.holds i g n) ≡ true).
          let p : (h : ℕ) × IsPartner old x h i g n = named old x i g n mir (old.holds i g n) refl q in
          let held : is_link (old.holds x p.0 n) ≡ true = ⊎_elim
          (λ (u : old.holds i g n ≡ From x p.0). let v : old.holds x p.0 n ≡ Target i = mir.back i g n x p.0 u in rw v refl)
          (λ (u : old.holds x p.0 n ≡ From i g). rw u refl)
          p.1 in
          let inside : (first ≤ p.0) × (p.0 < end) = linked p.0 held in
          let same : n1.holds i g n ≡ old.holds i g n = parted.holds i g nx nz in
          let same' : n1.holds z p.0 n ≡ old.holds x p.0 n = parted.z_holds p.0 in
          let outer : IsOuter n1 x z p.0 i g n = record {
            not_x = nx;
            not_z = nz;
            pair =
                ⊎_elim (λ (u : old.holds i g n ≡ From x p.0). inl (same ∙ u)) (λ (u : old.holds x p.0 n ≡ From i g). inr (same' ∙ u)) p.1;
          } in
          let here : names x (old.holds i g m) ≡ true = ap (λ (k : ℕ). names x (old.holds i g k)) e ∙ q in
          ap (n2.edge i g) e ∙ c.cut p.0 i g inside.0 inside.1 outer ∙ (rw (ne_eqb i x nx, eq-eqb m n e, here) refl))
          (λ (q : names x (old.holds i g n) ≡ false).
          let here : names x (old.holds i g m) ≡ false = ap (λ (k : ℕ). names x (old.holds i g k)) e ∙ q in
          plain i g m (λ u v w r. false≢true (sym q ∙ r)) ∙ ap (λ (k : ℕ). n1.edge k g m) (sym (moved_other i nx)) ∙ a.late_edges i g m l nz ∙ (rw (ne_eqb i x nx, eq-eqb m n e, here) refl))
          (cases_Bool (names x (old.holds i g n))))
          (λ (ne : m ≡ n → ⊥). plain i g m (λ u v w r. ne u) ∙ ap (λ (k : ℕ). n1.edge k g m) (sym (moved_other i nx)) ∙ a.late_edges i g m l nz ∙ (rw (ne_eqb i x nx, ne_eqb m n ne) refl))
          (cases_eq m n))
          (cases_eq i x);
    }

    pub cut_before : ArePartnersCut old (cut_chart old x n) x n
    cut_before = record {
      holds = λ i g m. refl;
      own = λ g m. rw (eq-eqb x x refl) refl;
      others = λ i g m nx. rw (ne_eqb i x nx) refl;
    }

    pub cut_whole : IsSplitWhole old (finished n2 x z n) x z n
    cut_whole = finish_law old (cut_chart old x n) n2 x z n cut_before cut_apart

    pub cut_mirrored : IsMirrored (finished n2 x z n)
    cut_mirrored = split_whole_law old (finished n2 x z n) x z n cut_whole mir

    pub cut_steady : IsSteady n2 → IsSteady (finished n2 x z n)
    cut_steady st = finished_is_steady old (cut_chart old x n) n2 x z n cut_before cut_apart st

    pub whole_after : (n3 : Chart) → IsRenamed n2 n3 x z n → IsSplitWhole old n3 x z n
    whole_after n3 r = split_body_law old (cut_chart old x n) n2 n3 x z n (record { partners = cut_before; row = cut_apart; holds = r.holds; edges = r.edges })

-- sums, where one entry becomes two
sum_last : (f : Node → ℕ) (old new : List Node) → length new ≡ suc (length old)
    → ((i : ℕ) → i ≢ length old → get_or (map f new) i 0 ≡ get_or (map f old) i 0) → sum_by f new ≡ sum_by f old + get_or (map f new) (length old) 0
sum_last f [] [] e same = absurd (omega arith)
sum_last f [] (n ∷ []) e same = sum_by-cons f n [] ∙ (omega arith)
sum_last f [] (n ∷ m ∷ new) e same = absurd (omega arith)
sum_last f (o ∷ old) [] e same = absurd (omega arith)
sum_last f (o ∷ old) (n ∷ new) e same =
    let ih : sum_by f new ≡ sum_by f old + get_or (map f new) (length old) 0 = sum_last f old new (omega arith) (λ i ne. same (suc i) (λ q. ne (omega arith))) in
    let here : f n ≡ f o = same 0 (λ q. omega arith) in
    rw (sum_by-cons f n new, sum_by-cons f o old) (omega arith)

sum_two : (f : Node → ℕ) (old new : List Node) (x : ℕ) → x < length old → length new ≡ suc (length old) → ((i : ℕ) → i ≢ x → i ≢ length old → get_or (map f new) i 0 ≡ get_or (map f old) i 0) →
    sum_by f new + get_or (map f old) x 0 ≡ sum_by f old + get_or (map f new) x 0 + get_or (map f new) (length old) 0
sum_two f [] new x l e same = absurd (omega arith)
sum_two f (o ∷ old) [] x l e same = absurd (omega arith)
sum_two f (o ∷ old) (n ∷ new) zero l e same =
    let t : sum_by f new ≡ sum_by f old + get_or (map f new) (length old) 0 = sum_last f old new (omega arith) (λ i ne. same (suc i) (λ q. omega arith) (λ q. ne (omega arith))) in
    rw (sum_by-cons f n new, sum_by-cons f o old) (omega arith)
sum_two f (o ∷ old) (n ∷ new) (suc x) l e same =
    let ih : sum_by f new + get_or (map f old) x 0 ≡ sum_by f old + get_or (map f new) x 0 + get_or (map f new) (length old) 0 =
    sum_two f old new x (omega arith) (omega arith) (λ i a b. same (suc i) (λ q. a (omega arith)) (λ q. b (omega arith))) in
    let here : f n ≡ f o = same 0 (λ q. omega arith) (λ q. omega arith) in
    rw (sum_by-cons f n new, sum_by-cons f o old) (omega arith)

-- a node over its capacity becomes two: the potential falls by half a capacity and one
pub excess_falls : (t l r h : ℕ) → h + h < t → 2 * l ≤ t → 2 * r ≤ t → l + r < t → (l - h) + (r - h) + h + 1 ≤ t - h
excess_falls t l r h a b c d = omega arith

pub potential_falls : (types : List TypeShape) (qs : List ℕ) (old new : List Node) (x z s : ℕ) → IsCutInTwo qs old new x z s
    → ((d : Row) → IsSplitStamp (rank qs) (row_at old x d) (rank qs s)) → IsOver types old x
    → potential_of types new + half_at types old x + 1 ≤ potential_of types old
potential_falls types qs old new x z s c m over =
    let d : Row = some_row old x c.there in
    let count : length new ≡ suc (length old) = c.life.count in
    let z' : length old < length new = omega (arith, c.life.count) in
    let f = excess types in
    let sm : IsSplitStamp (rank qs) (row_at old x (some_row old x c.there)) (rank qs s) = m (some_row old x c.there) in
    let t : stamped_at old x ≡ stamped_count (row_at old x (some_row old x c.there)) = stamped_is old x (some_row old x c.there) c.there in
    let l : stamped_at new x ≡ stamped_count (row_at new x (some_row old x c.there)) = stamped_is new x (some_row old x c.there) (omega (arith, c.there)) in
    let r : stamped_at new (length old) ≡ stamped_count (row_at new z (some_row old x c.there)) =
    stamped_is new (length old) (some_row old x c.there) z' ∙ ap (λ (k : ℕ). stamped_count (row_at new k (some_row old x c.there))) (sym c.is_last) in
    let hx : half_at types new x ≡ half_at types old x = ap (half_in types) (c.types x c.there) in
    let hz : half_at types new (length old) ≡ half_at types old x = ap (λ (k : ℕ). half_at types new k) (sym c.is_last) ∙ ap (half_in types) c.new_type in
    let others : (i : ℕ) → i ≢ x → i ≢ length old → get_or (map (excess types) new) i 0 ≡ get_or (map (excess types) old) i 0 = λ i a b.
    excess_at types new i ∙ ⊎_elim
    (λ (p : i < length old). ap₂ (λ u v. u - v) (stamped_is new i (some_row old x c.there) (omega (arith, c.life.count))
    ∙ ap stamped_count (c.others i (some_row old x c.there) a (λ q. b (q ∙ c.is_last))) ∙ sym (stamped_is old i (some_row old x c.there) p))
    (ap (half_in types) (c.types i p)))
    (λ (p : length old ≤ i).
    let u : stamped_at new i ≡ 0 = stamped_past new i (omega (arith, c.life.count)) in
    let v : stamped_at old i ≡ 0 = stamped_past old i p in
    omega arith)
    (cases_lt i (length old)) ∙ sym (excess_at types old i) in
    let sum : sum_by (excess types) new + get_or (map (excess types) old) x 0 ≡ sum_by (excess types) old + get_or (map (excess types) new) x 0 +
    get_or (map (excess types) new) (length old) 0 = sum_two (excess types) old new x c.there c.life.count others in
    let e : get_or (map (excess types) old) x 0 ≡ stamped_at old x - half_at types old x = excess_at types old x in
    let el : get_or (map (excess types) new) x 0 ≡ stamped_at new x - half_at types new x = excess_at types new x in
    let er : get_or (map (excess types) new) (length old) 0 ≡ stamped_at new (length old) - half_at types new (length old) = excess_at types new (length old) in
    let left : stamped_at new x ≡ _ = l ∙ c.left (some_row old x c.there) in
    let right : stamped_at new (length old) ≡ _ = r ∙ c.right (some_row old x c.there) in
    let falls = excess_falls (stamped_at old x) (stamped_at new x) (stamped_at new (length old)) (half_at types old x) over
    (omega (arith, sm.few_before)) (omega (arith, sm.few_after)) (omega (arith, sm.stamped_there)) in
    omega arith

-- what is stamped in all, where one node becomes two
cut_stamped : (qs : List ℕ) (old new : List Node) (x z s : ℕ) → IsCutInTwo qs old new x z s → (d : Row) →
    stamped_in_all new + stamped_at old x ≡ stamped_in_all old + (stamped_before (rank qs) (row_at old x d) (rank qs s) + stamped_after (rank qs) (row_at old x d) (rank qs s))
cut_stamped qs old new x z s c d =
    let others : (i : ℕ) → i ≢ x → i ≢ length old → get_or (map (λ (n : Node). stamped_count n.row) new) i 0 ≡ get_or (map (λ (n : Node). stamped_count n.row) old) i 0 = λ i a b.
    stamped_read new i ∙ ⊎_elim
    (λ (p : i < length old). stamped_is new i d (omega (arith, c.life.count)) ∙ ap stamped_count (c.others i d a (λ q. b (q ∙ c.is_last))) ∙ sym (stamped_is old i d p))
    (λ (p : length old ≤ i). stamped_past new i (omega (arith, c.life.count)) ∙ sym (stamped_past old i p))
    (cases_lt i (length old)) ∙ sym (stamped_read old i) in
    let l : stamped_at new x ≡ stamped_before (rank qs) (row_at old x d) (rank qs s) = stamped_is new x d (omega (arith, c.there, c.life.count)) ∙ c.left d in
    let r : stamped_at new (length old) ≡ stamped_after (rank qs) (row_at old x d) (rank qs s) =
    stamped_is new (length old) d (omega (arith, c.life.count)) ∙ ap (λ (k : ℕ). stamped_count (row_at new k d)) (sym c.is_last) ∙ c.right d in
    omega (arith, sum_two (λ (n : Node). stamped_count n.row) old new x c.there c.life.count others, stamped_read old x, stamped_read new x, stamped_read new (length old), l, r)

-- before the first step
pub record Ready (types : List TypeShape) (qs : List ℕ) (old : List Node) (x at first end : ℕ) : Type 0 where
  pub sound : IsSound types qs old
  pub there : x < length old
  pub over : IsOver types old x
  pub first_is : first ≡ first_in types (frame_at old x).ty
  pub end_is : end ≡ first + half_at types old x
  pub inside : (d : Row) → IsSplitStamp (rank qs) (row_at old x d) (rank qs at)

pub width_typed : (types : List TypeShape) (ns : List Node) (i : ℕ) (d : Row) → IsTyped types ns i → width_of (row_at ns i d) ≡ first_in types (frame_at ns i).ty + half_at types ns i
width_typed types ns i d t = omega (arith, t.width d)

-- links stand behind the values, in as many slots as half the capacity
link_slot : (t : TypeShape) (ty : ℕ → TypeNo) (s : ℕ) (c : Content) → is_link c ≡ true → HasKind t ty s c → (t.values ≤ s) × (s < t.values + half t)
link_slot t ty s (Number n) e k = absurd (cc)
link_slot t ty s Null e k = absurd (cc)
link_slot t ty s (TargetOf y) e k = let p : (t.values ≤ s) × (s < element_count t) = pointer_field t s (ty y.0) k in (p.0, omega (arith, p.1))
link_slot t ty s Free e k = absurd (cc)
link_slot t ty s (FromOf x f) e k = (omega (arith, k.from), omega (arith, k.below))

links_in : (types : List TypeShape) (qs : List ℕ) (ns : List Node) (i s m : ℕ) → IsSound types qs ns → is_link ((chart qs ns).holds i s m) ≡ true →
    (first_in types (frame_at ns i).ty ≤ s) × (s < first_in types (frame_at ns i).ty + half_at types ns i)
links_in types qs ns i s m a e =
    let slot : IsSlot qs ns i s m = held_slot qs ns i s m ((chart qs ns).holds i s m) a.rows refl (link_held ((chart qs ns).holds i s m) e) in
    link_slot (type_of types ns i) (type_no ns) s ((chart qs ns).holds i s m) e (a.kinds i s m (in_of qs ns i m slot.alive))

pub type_narrow : (types : List TypeShape) (qs : List ℕ) (ns : List Node) (x : ℕ) → IsSound types qs ns → x < length ns → first_in types (frame_at ns x).ty + half_at types ns x ≤ 65536
type_narrow types qs ns x sound l =
    let w : width_of (row_at ns x (some_row ns x l)) ≡ first_in types (frame_at ns x).ty + half_at types ns x = width_typed types ns x (some_row ns x l) (sound.typed x l) in
    let row = row_in qs ns x (some_row ns x l) l sound.rows in
    omega (arith, row.narrow)

module _ (types : List TypeShape) (qs : List ℕ) (old : List Node) (x at first end : ℕ) (a : Ready types qs old x at first end) where
  pub x_slots : (s : ℕ) → s < end → IsSlot qs old x s (rank qs at)
  x_slots s l = record {
    alive = record {
      there = a.there;
      low = λ d. let i = a.inside d in omega (arith, i.low);
      high = λ d. (a.inside d).high;
    };
    slot_there = λ d. let w : width_of (row_at old x d) ≡ first_in types (frame_at old x).ty + half_at types old x =
        width_typed types old x d (a.sound.typed x a.there) in omega (arith, a.first_is, a.end_is);
  }

  module _ (n1 : List Node) (z : ℕ) (p : IsParted qs old n1 x z at first end (end - first)) (rows1 : AreRows qs n1) where
    pub apart1 : IsMovedApart (chart qs old) (chart qs n1) x z (rank qs at)
    apart1 = subst (λ (w : Chart). IsMovedApart w (chart qs n1) x z (rank qs at)) (same_chart old p.mid p.same qs) p.cut.apart

    pub parted1 : AreParted (chart qs old) (chart qs n1) x z (rank qs at)
    parted1 = parted (chart qs old) (chart qs n1) x z (rank qs at) a.sound.mirrored apart1

    pub z_there : z < length n1
    z_there = omega (arith, p.cut.is_last, p.cut.life.count)

    pub count1 : length n1 ≡ suc (length old)
    count1 = omega (arith, p.cut.life.count, p.same.count)

    pub z_is : z ≡ length old
    z_is = p.cut.is_last ∙ p.same.count

    z_lo : rank qs (lo_at n1 z) ≡ rank qs at
    z_lo = ap (λ (k : ℕ). rank qs (lo_at n1 k)) p.cut.is_last ∙ p.cut.life.lo_z

    z_hi : rank qs at < rank qs (hi_at n1 z)
    z_hi = let e : rank qs (hi_at n1 z) ≡ rank qs (hi_at p.mid x) = ap (λ (k : ℕ). rank qs (hi_at n1 k)) p.cut.is_last ∙ p.cut.life.hi_z in omega (arith, p.cut.life.high)

    pub slots1 : (s : ℕ) → s < end → IsSlot qs n1 z s (rank qs at)
    slots1 s l = record {
      alive = record {
        there = z_there;
        low = λ d. rw (lo_is n1 z d z_there) (omega (arith, z_lo));
        high = λ d. rw (hi_is n1 z d z_there) z_hi;
      };
      slot_there = λ d. let w = (x_slots s l).slot_there d in rw (p.cut.right_width d, (ap (λ w. width_in w) (p.same.rows x d))) w;
    }

    pub type_same : (i : ℕ) → i < length old → (frame_at n1 i).ty ≡ (frame_at old i).ty
    type_same i l = p.cut.types i (omega (arith, p.same.count)) ∙ ap (λ (fs : List Frame). (get_or fs i no_frame).ty) p.same.frames

    pub type_z : (frame_at n1 z).ty ≡ (frame_at old x).ty
    type_z = p.cut.new_type ∙ ap (λ (fs : List Frame). (get_or fs x no_frame).ty) p.same.frames

    pub typed1 : (i : ℕ) → i < length n1 → IsTyped types n1 i
    typed1 i l =
        ⊎_elim
        (λ (e : i ≡ z).
        let t : IsTyped types old x = a.sound.typed x a.there in
        record {
          there = subst (λ (y : ℕ). y < length types) (sym (ap (λ (k : ℕ). (frame_at n1 k).ty) e ∙ type_z)) t.there;
          width = λ d. ap (λ (k : ℕ). width_of (row_at n1 k d)) e ∙ p.cut.right_width d ∙ (ap (λ w. width_in w) (p.same.rows x d)) ∙ t.width d
              ∙ ap (λ (y : ℕ). slot_count (type_at types (record { 0 = y }))) (sym (ap (λ (k : ℕ). (frame_at n1 k).ty) e ∙ type_z));
        })
        (λ (nz : i ≡ z → ⊥).
        let lt : i < length old = omega (arith, count1, z_is) in
        let t : IsTyped types old i = a.sound.typed i lt in
        record {
          there = subst (λ (y : ℕ). y < length types) (sym (type_same i lt)) t.there;
          width = λ d. ⊎_elim
              (λ (e : i ≡ x). ap (λ (k : ℕ). width_of (row_at n1 k d)) e ∙ p.cut.left_width d ∙ ap (λ (k : ℕ). width_of (row_at p.mid k d)) (sym e))
              (λ (nx : i ≡ x → ⊥). ap width_of (p.cut.others i d nx nz))
              (cases_eq i x) ∙ (ap (λ w. width_in w) (p.same.rows i d)) ∙ t.width d ∙ ap (λ (y : ℕ). slot_count (type_at types (record { 0 = y }))) (sym (type_same i lt));
        })
        (cases_eq i z)

    -- links of x stand in its slots for links
    pub linked_x : (s m : ℕ) → is_link ((chart qs old).holds x s m) ≡ true → (first ≤ s) × (s < end)
    linked_x s m e = let t : (first_in types (frame_at old x).ty ≤ s) × (s < first_in types (frame_at old x).ty + half_at types old x) =
        links_in types qs old x s m a.sound e in (omega (arith, t.0, a.first_is), omega (arith, t.1, a.first_is, a.end_is))

    pub room1 : HasRoomRound qs n1 z x (rank qs at) (end - first)
    room1 s j d e ne =
        let was : names j ((chart qs old).holds x s (rank qs at)) ≡ true = ap (names j) (sym (parted1.z_holds s)) ∙ e in
        let inside : (first ≤ s) × (s < end) = linked_x s (rank qs at) (names_link j ((chart qs old).holds x s (rank qs at)) was) in
        let there : j < length old = named_there qs old x s (rank qs at) j ((chart qs old).holds x s (rank qs at)) a.sound.rows a.sound.mirrored refl was in
        let in_mid : names j ((chart qs p.mid).holds x s (rank qs at)) ≡ true = ap (λ (w : Chart). names j (w.holds x s (rank qs at))) (same_chart old p.mid p.same qs) ∙ was in
        let nz : j ≡ z → ⊥ = λ q. omega (arith, z_is) in
        subst (λ (w : Row). HasRoom w (end - first)) (sym (p.cut.others j d ne nz)) (p.room s j d inside.0 inside.1 in_mid ne)

    pub queues1 : (queue : Queue) (xs : List ℕ) → Queues old queue xs → Queues n1 queue xs
    queues1 queue xs h = record {
      ends = h.ends;
      chain = chain_kept (link_at old) (link_at n1) xs (λ i _. p.cut.links i ∙ p.same.links i) h.chain;
      there = there_more xs h.there;
      apart = h.apart;
      others = λ i w. p.cut.links i ∙ p.same.links i ∙ h.others i w;
    }
      where
        there_more : (xs : List ℕ) → AreThere (length old) xs → AreThere (length n1) xs
        there_more [] h = tt
        there_more (y ∷ ys) h = (omega (arith, h.0, count1), there_more ys h.1)

    pub inside_mid : (d : Row) → IsSplitStamp (rank qs) (row_at p.mid x d) (rank qs at)
    inside_mid d =
        let i = a.inside d in
        let r = p.same.rows x d in
        let b : stamped_before (rank qs) (row_at p.mid x d) (rank qs at) ≡ stamped_before (rank qs) (row_at old x d) (rank qs at) = ap (λ w. before_in (rank qs) w (rank qs at)) (p.same.rows x d) in
        let e : stamped_after (rank qs) (row_at p.mid x d) (rank qs at) ≡ stamped_after (rank qs) (row_at old x d) (rank qs at) = ap (λ w. after_in (rank qs) w (rank qs at)) (p.same.rows x d) in
        let n : stamped_count (row_at p.mid x d) ≡ stamped_count (row_at old x d) = (ap (λ w. count_in w) (p.same.rows x d)) in
        record {
          low = rw ((ap (λ w. w.lo.0) (p.same.rows x d))) i.low;
          high = rw ((ap (λ w. w.hi.0) (p.same.rows x d))) i.high;
          few_before = omega (arith, i.few_before);
          few_after = omega (arith, i.few_after);
          stamped_there = omega (arith, i.stamped_there);
        }

    fewer : (d : Row) → stamped_count (row_at n1 x d) ≤ stamped_count (row_at p.mid x d)
    fewer d = let i = inside_mid d in omega (arith, p.cut.left d, i.few_before)

    pub over1 : (i : ℕ) → i ≢ z → IsOver types n1 i → IsOver types old i
    over1 i nz o =
        ⊎_elim
        (λ (l : i < length old).
        let d : Row = some_row old i l in
        let here : stamped_at n1 i ≡ stamped_count (row_at n1 i (some_row old i l)) = stamped_is n1 i (some_row old i l) (omega (arith, count1)) in
        let was : stamped_at old i ≡ stamped_count (row_at p.mid i (some_row old i l)) = stamped_is old i (some_row old i l) l ∙ sym ((ap (λ w. count_in w) (p.same.rows i (some_row old i l)))) in
        let h : half_at types n1 i ≡ half_at types old i = ap (half_in types) (type_same i l) in
        ⊎_elim
        (λ (e : i ≡ x).
        let sm = a.inside (some_row old i l) in
        let left : stamped_count (row_at n1 i (some_row old i l)) ≤ stamped_count (row_at p.mid i (some_row old i l)) =
        subst (λ (k : ℕ). stamped_count (row_at n1 k (some_row old i l)) ≤ stamped_count (row_at p.mid k (some_row old i l))) (sym e)
        (fewer (some_row old i l)) in
        omega arith)
        (λ (nx : i ≡ x → ⊥). let s : stamped_count (row_at n1 i (some_row old i l)) ≡ stamped_count (row_at p.mid i (some_row old i l)) =
        ap stamped_count (p.cut.others i (some_row old i l) nx nz) in omega arith)
        (cases_eq i x))
        (λ (l : length old ≤ i).
        let e : stamped_at n1 i ≡ 0 = stamped_past n1 i (omega (arith, count1, z_is)) in
        absurd (omega arith))
        (cases_lt i (length old))

    pub life1 : IsSplitLife (lives qs old) (lives qs n1) x (rank qs at)
    life1 = subst (λ (w : Lives). IsSplitLife w (lives qs n1) x (rank qs at)) (same_lives qs old p.mid p.same.count (same_lo old p.mid p.same) (same_hi old p.mid p.same) p.same.frames) p.cut.life

    -- the partners cut
    module _ (n2 : List Node) (cut : ArePartnersCutUpTo (chart qs n1) (chart qs n2) x z (rank qs at) first end) (rows2 : AreRows qs n2) (grown : AreGrown (end - first) types n1 n2) where
      here : (s : ℕ) → is_link ((chart qs old).holds x s (rank qs at)) ≡ true → (first ≤ s) × (s < end)
      here s e = linked_x s (rank qs at) e

      pub begin2 : begin_of qs n2 z ≡ rank qs at
      begin2 = ap (rank qs) (grown.lo z) ∙ z_lo

      pub renamable2 : IsRenamable (chart qs n2) x z (begin_of qs n2 z)
      renamable2 = subst (λ (n : ℕ). IsRenamable (chart qs n2) x z n) (sym begin2) (record {
        other = apart1.other;
        mirrored = cut_mirrored (chart qs old) (chart qs n1) x z (rank qs at) a.sound.mirrored apart1 (chart qs n2) first end cut here;
        steady = cut_steady (chart qs old) (chart qs n1) x z (rank qs at) a.sound.mirrored apart1 (chart qs n2) first end cut here (charts_steady (rank qs) (length qs) (values_of n2) rows2);
      })

      pub there2 : z < length n2
      there2 = omega (arith, grown.count, z_there)

      pub slots2 : (d : Row) → end ≤ width_of (row_at n2 z d)
      slots2 d =
          let w : width_of (row_at n2 z d) ≡ width_of (row_at old x d) = grown.width z d ∙ p.cut.right_width d ∙ (ap (λ w. width_in w) (p.same.rows x d)) in
          let v : width_of (row_at old x d) ≡ first_in types (frame_at old x).ty + half_at types old x = width_typed types old x d (a.sound.typed x a.there) in
          omega (arith, a.first_is, a.end_is)

      pub linked2 : (s m : ℕ) → is_link ((chart qs n2).holds z s m) ≡ true → (first ≤ s) × (s < end)
      linked2 s m e =
          ⊎_elim
          (λ (l : m < rank qs at). absurd (false≢true (sym (ap is_link (cut.holds z s m ∙ apart1.early z s m l ∙ apart1.fresh s m)) ∙ e)))
          (λ (l : rank qs at ≤ m). linked_x s m (ap is_link (sym
          (cut.holds z s m ∙ ap (λ (k : ℕ). (chart qs n1).holds k s m)
          (sym (moved_x (chart qs old) (chart qs n1) x z (rank qs at) a.sound.mirrored apart1)) ∙ apart1.late x s m l apart1.other)) ∙ e))
          (cases_lt m (rank qs at))

      -- the partners renamed
      module _ (n3 : List Node) (renamed3 : IsRenamed (chart qs n2) (chart qs n3) x z (begin_of qs n2 z)) (rows3 : AreRows qs n3) (same3 : AreReplaced n2 n3) where
        pub whole3 : IsSplitWhole (chart qs old) (chart qs n3) x z (rank qs at)
        whole3 = whole_after (chart qs old) (chart qs n1) x z (rank qs at) a.sound.mirrored apart1 (chart qs n2) first end cut here (chart qs n3)
            (subst (λ (n : ℕ). IsRenamed (chart qs n2) (chart qs n3) x z n) begin2 renamed3)

        pub frames3 : frames_of n3 ≡ frames_of n1
        frames3 = same3.frames ∙ grown.frames

        pub count3 : length n3 ≡ suc (length old)
        count3 = same3.count ∙ grown.count ∙ count1

        type3 : (i : ℕ) → (frame_at n3 i).ty ≡ (frame_at n1 i).ty
        type3 i = ap (λ (fs : List Frame). (get_or fs i no_frame).ty) frames3

        pub typed3 : (i : ℕ) → i < length n3 → IsTyped types n3 i
        typed3 i l =
            let t : IsTyped types n1 i = typed1 i (omega (arith, same3.count, grown.count)) in
            record {
              there = subst (λ (y : ℕ). y < length types) (sym (type3 i)) t.there;
              width = λ d. same3.width i d ∙ grown.width i d ∙ t.width d ∙ ap (λ (y : ℕ). slot_count (type_at types (record { 0 = y }))) (sym (type3 i));
            }

        pub potential3 : potential_of types n3 + 1 ≤ potential_of types old
        potential3 =
            let over : IsOver types p.mid x =
            let s : stamped_at p.mid x ≡ stamped_at old x = same_stamped old p.mid p.same x in
            let h : half_at types p.mid x ≡ half_at types old x = half_same types old p.mid p.same.frames x in omega (arith, a.over) in
            let f : potential_of types n1 + half_at types p.mid x + 1 ≤ potential_of types p.mid = potential_falls types qs p.mid n1 x z at p.cut (λ d. inside_mid d) over in
            let h : half_at types p.mid x ≡ half_at types old x = half_same types old p.mid p.same.frames x in
            let m : potential_of types p.mid ≤ potential_of types old + 0 =
            potential_le types old p.mid 0 0 p.same.count p.same.frames (λ k ne. same_stamped old p.mid p.same k)
            (let s : stamped_at p.mid 0 ≡ stamped_at old 0 = same_stamped old p.mid p.same 0 in omega arith) in
            let r : potential_of types n3 ≤ potential_of types n2 + 0 =
            potential_le types n2 n3 0 0 same3.count same3.frames (λ k ne. same3.stamped k)
            (let s : stamped_at n3 0 ≡ stamped_at n2 0 = same3.stamped 0 in omega arith) in
            omega (arith, grown.potential, a.end_is)

        few3 : (d : Row) → stamped_in_all n3 + stamped_at old x ≤ stamped_in_all old +
            (stamped_before (rank qs) (row_at old x d) (rank qs at) + stamped_after (rank qs) (row_at old x d) (rank qs at)) + half_at types old x
        few3 d =
            let b : stamped_before (rank qs) (row_at p.mid x d) (rank qs at) ≡ stamped_before (rank qs) (row_at old x d) (rank qs at) =
            ap (λ w. before_in (rank qs) w (rank qs at)) (p.same.rows x d) in
            let e : stamped_after (rank qs) (row_at p.mid x d) (rank qs at) ≡ stamped_after (rank qs) (row_at old x d) (rank qs at) = ap (λ w. after_in (rank qs) w (rank qs at)) (p.same.rows x d) in
            let was : stamped_at p.mid x ≡ stamped_at old x = same_stamped old p.mid p.same x in
            let m : stamped_in_all p.mid ≤ stamped_in_all old + 0 =
            stamped_le old p.mid 0 0 p.same.count (λ k ne. same_stamped old p.mid p.same k)
            (let s : stamped_at p.mid 0 ≡ stamped_at old 0 = same_stamped old p.mid p.same 0 in omega arith) in
            let r : stamped_in_all n3 ≤ stamped_in_all n2 + 0 =
            stamped_le n2 n3 0 0 same3.count (λ k ne. same3.stamped k) (let s : stamped_at n3 0 ≡ stamped_at n2 0 = same3.stamped 0 in omega arith) in
            omega (arith, cut_stamped qs p.mid n1 x z at p.cut d, grown.few, a.end_is)

        -- the queue asked for both halves, with the rows as they are
        module _ (n5 : List Node) (rows5 : rows_of n5 ≡ rows_of n3) (frames5 : frames_of n5 ≡ frames_of n3) where
          chart5 : chart qs n5 ≡ chart qs n3
          chart5 = chart_same qs n3 n5 rows5

          count5 : length n5 ≡ suc (length old)
          count5 = same_count n3 n5 rows5 ∙ count3

          type5 : (i : ℕ) → (frame_at n5 i).ty ≡ (frame_at n1 i).ty
          type5 i = ap (λ (fs : List Frame). (get_or fs i no_frame).ty) (frames5 ∙ frames3)

          whole5 : IsSplitWhole (chart qs old) (chart qs n5) x z (rank qs at)
          whole5 = subst (λ (w : Chart). IsSplitWhole (chart qs old) w x z (rank qs at)) (sym chart5) whole3

          life5 : IsSplitLife (lives qs old) (lives qs n5) x (rank qs at)
          life5 = subst (λ (w : Lives). IsSplitLife (lives qs old) w x (rank qs at))
              (sym (same_lives qs n1 n5 (same_count n3 n5 rows5 ∙ same3.count ∙ grown.count) (λ i. lo_same n3 n5 rows5 i ∙ same3.lo i ∙ grown.lo i)
              (λ i. hi_same n3 n5 rows5 i ∙ same3.hi i ∙ grown.hi i) (frames5 ∙ frames3))) life1

          over5 : (i : ℕ) → i ≢ x → IsOver types old i → IsOver types n5 i
          over5 i nx o =
              ⊎_elim
              (λ (l : i < length old).
              let d : Row = some_row old i l in
              let nz : i ≡ z → ⊥ = λ q. omega (arith, z_is) in
              let was : stamped_at old i ≡ stamped_count (row_at p.mid i (some_row old i l)) = stamped_is old i (some_row old i l) l
              ∙ sym ((ap (λ w. count_in w) (p.same.rows i (some_row old i l)))) in
              let here : stamped_at n1 i ≡ stamped_count (row_at p.mid i (some_row old i l)) =
              stamped_is n1 i (some_row old i l) (omega (arith, count1)) ∙ ap stamped_count (p.cut.others i (some_row old i l) nx nz) in
              let up : stamped_at n1 i ≤ stamped_at n2 i = grown.stamped i in
              let on : stamped_at n3 i ≡ stamped_at n2 i = same3.stamped i in
              let end : stamped_at n5 i ≡ stamped_at n3 i = ap (λ ws. get_or (map stamped_count ws) i 0) rows5 in
              let h : half_at types n5 i ≡ half_at types old i = ap (half_in types) (type5 i ∙ type_same i l) in
              omega arith)
              (λ (l : length old ≤ i). let e : stamped_at old i ≡ 0 = stamped_past old i l in absurd (omega arith))
              (cases_lt i (length old))

          pub split5 : IsSplit types qs old n5 x z (rank qs at)
          split5 = record {
            is_last = z_is;
            one_more = omega (arith, count5);
            middle = a.inside;
            whole = whole5;
            life = life5;
            same_type = λ i l. type5 i ∙ type_same i l;
            new_type = type5 z ∙ type_z;
            grown = λ i nx o. over5 i nx o;
            few = λ d. omega (arith, few3 d, (grown_same types n3 n5 (same_count n3 n5 rows5) rows5 frames5).few);
            potential = let g : potential_of types n5 ≤ potential_of types n3 + 0 = (grown_same types n3 n5 (same_count n3 n5 rows5) rows5 frames5).potential in omega (arith, potential3);
          }

          typed5 : (i : ℕ) → i < length n5 → IsTyped types n5 i
          typed5 i l =
              let t : IsTyped types n3 i = typed3 i (omega (arith, same_count n3 n5 rows5)) in
              let e : (frame_at n5 i).ty ≡ (frame_at n3 i).ty = ap (λ (fs : List Frame). (get_or fs i no_frame).ty) frames5 in
              record {
                there = subst (λ (y : ℕ). y < length types) (sym e) t.there;
                width = λ d. ap (λ ws. width_of (get_or ws i d)) rows5 ∙ t.width d ∙ ap (λ (y : ℕ). slot_count (type_at types (record { 0 = y }))) (sym e);
              }

          -- types are those of before
          abbrev numbered : ℕ → TypeNo
          numbered k = record { 0 = k }

          type_kept : (j : ℕ) → j < length old → type_no n5 j ≡ type_no old j
          type_kept j l = ap numbered (type5 j ∙ type_same j l)

          type_moved : (j : ℕ) → j < length old → type_no n5 (moved x z j) ≡ type_no old j
          type_moved j l = ⊎_elim
              (λ (e : j ≡ x). ap (λ (k : ℕ). type_no n5 (moved x z k)) e
              ∙ ap (type_no n5) (moved_x (chart qs old) (chart qs n1) x z (rank qs at) a.sound.mirrored apart1) ∙ ap numbered (type5 z ∙ type_z)
              ∙ ap (type_no old) (sym e))
              (λ (ne : j ≡ x → ⊥). ap (type_no n5) (moved_other (chart qs old) (chart qs n1) x z (rank qs at) a.sound.mirrored apart1 j ne) ∙ type_kept j l)
              (cases_eq j x)

          target_there : (i s m y : ℕ) → (chart qs old).holds i s m ≡ Target y → y < length old
          target_there i s m y e = let t : (g : ℕ) × ((chart qs old).holds y g m ≡ From i s) = a.sound.mirrored.found i s m y e in (entry_at qs old y t.0 m i s a.sound.rows t.1).alive.there

          -- what slots hold is of their kinds
          of_type : (i j s : ℕ) (c d : Content) → type_no n5 i ≡ type_no old j → c ≡ d → HasKind (type_of types old j) (type_no n5) s d → HasKind (type_of types n5 i) (type_no n5) s c
          of_type i j s c d e q k = subst (λ (b : Content). HasKind (type_of types n5 i) (type_no n5) s b) (sym q) (subst (λ (t : TypeNo). HasKind (type_at types t) (type_no n5) s d) (sym e) k)

          kind_renamed : (i j s m : ℕ) → type_no n5 i ≡ type_no old j → IsIn (lives qs old) j m
              → (chart qs n5).holds i s m ≡ renamed x z ((chart qs old).holds j s m) → HasKind (type_of types n5 i) (type_no n5) s ((chart qs n5).holds i s m)
          kind_renamed i j s m e h q = of_type i j s ((chart qs n5).holds i s m) (renamed x z ((chart qs old).holds j s m)) e q
              (kind-renamed (type_of types old j) (type_no old) (type_no n5) x z s ((chart qs old).holds j s m) (λ y k. type_moved y (target_there j s m y k)) (a.sound.kinds j s m h))

          kind_kept : (i j s m : ℕ) → type_no n5 i ≡ type_no old j → IsIn (lives qs old) j m → (chart qs n5).holds i s m ≡ (chart qs old).holds j s m
              → HasKind (type_of types n5 i) (type_no n5) s ((chart qs n5).holds i s m)
          kind_kept i j s m e h q = of_type i j s ((chart qs n5).holds i s m) ((chart qs old).holds j s m) e q
              (kind-types (type_of types old j) (type_no old) (type_no n5) s ((chart qs old).holds j s m) (λ y k. type_kept y (target_there j s m y k)) (a.sound.kinds j s m h))

          kinds5 : (i s m : ℕ) → IsIn (lives qs n5) i m → HasKind (type_of types n5 i) (type_no n5) s ((chart qs n5).holds i s m)
          kinds5 i s m in' =
              let there : i < length n5 = in'.there in
              ⊎_elim
              (λ (e : i ≡ z).
              let low : rank qs at ≤ m = let q : rank qs (lo_at n5 i) ≡ rank qs at = ap (λ (k : ℕ). rank qs (lo_at n5 k)) (e ∙ z_is) ∙ life5.lo_z in omega (arith, in'.low) in
              let high : m < rank qs (hi_at old x) = let q : rank qs (hi_at n5 i) ≡ rank qs (hi_at old x) = ap (λ (k : ℕ). rank qs (hi_at n5 k)) (e ∙ z_is) ∙ life5.hi_z in omega (arith, in'.high) in
              let ty : type_no n5 i ≡ type_no old x = ap numbered (ap (λ (k : ℕ). (frame_at n5 k).ty) e ∙ type5 z ∙ type_z) in
              let new : (chart qs n5).holds i s m ≡ renamed x z ((chart qs old).holds x s m) =
              ap (λ (k : ℕ). (chart qs n5).holds k s m) (e ∙ sym (moved_x (chart qs old) (chart qs n1) x z (rank qs at) a.sound.mirrored apart1))
              ∙ whole5.late x s m low apart1.other in
              kind_renamed i x s m ty (record { there = a.there; low = omega (arith, life5.low); high = high }) new)
              (λ (nz : i ≡ z → ⊥).
              let l : i < length old = omega (arith, count5, z_is) in
              let ty : type_no n5 i ≡ type_no old i = type_kept i l in
              ⊎_elim
              (λ (k : m < rank qs at).
              let high : m < rank qs (hi_at old i) = ⊎_elim
              (λ (q : i ≡ x). let t : rank qs (hi_at old i) ≡ rank qs (hi_at old x) = ap (λ (y : ℕ). rank qs (hi_at old y)) q in omega (arith, life5.high))
              (λ (q : i ≡ x → ⊥). omega (arith, life5.hi i l q, in'.high))
              (cases_eq i x) in
              kind_kept i i s m ty (record { there = l; low = omega (arith, life5.lo i l, in'.low); high = high }) (whole5.early i s m k))
              (λ (k : rank qs at ≤ m). ⊎_elim
              (λ (q : i ≡ x). absurd (let t : rank qs (hi_at n5 i) ≡ rank qs at = ap (λ (y : ℕ). rank qs (hi_at n5 y)) q ∙ life5.hi_x in omega (arith, in'.high)))
              (λ (q : i ≡ x → ⊥).
              let new : (chart qs n5).holds i s m ≡ renamed x z ((chart qs old).holds i s m) =
              ap (λ (y : ℕ). (chart qs n5).holds y s m) (sym
              (moved_other (chart qs old) (chart qs n1) x z (rank qs at) a.sound.mirrored apart1 i q)) ∙ whole5.late i s m k nz in
              kind_renamed i i s m ty (record { there = l; low = omega (arith, life5.lo i l, in'.low); high = omega (arith, life5.hi i l q, in'.high) }) new)
              (cases_eq i x))
              (cases_lt m (rank qs at)))
              (cases_eq i z)

          -- the old node that a node was
          source : (i : ℕ) → i < length n5 → (j : ℕ) × (j < length old) × ((frame_at n5 i).name ≡ (frame_at old j).name) × ((frame_at n5 i).ty ≡ (frame_at old j).ty)
          source i l = ⊎_elim
              (λ (e : i ≡ z). (x, a.there, ap (λ (k : ℕ). (frame_at n5 k).name) (e ∙ z_is) ∙ life5.name_z, ap (λ (k : ℕ). (frame_at n5 k).ty) e ∙ type5 z ∙ type_z))
              (λ (nz : i ≡ z → ⊥). let p : i < length old = omega (arith, count5, z_is) in (i, p, life5.name i p, type5 i ∙ type_same i p))
              (cases_eq i z)

          one_type5 : (i j : ℕ) → i < length n5 → j < length n5 → (frame_at n5 i).name ≡ (frame_at n5 j).name → (frame_at n5 i).ty ≡ (frame_at n5 j).ty
          one_type5 i j l m e =
              let p : (k : ℕ) × (k < length old) × ((frame_at n5 i).name ≡ (frame_at old k).name) × ((frame_at n5 i).ty ≡ (frame_at old k).ty) = source i l in
              let q : (k : ℕ) × (k < length old) × ((frame_at n5 j).name ≡ (frame_at old k).name) × ((frame_at n5 j).ty ≡ (frame_at old k).ty) = source j m in
              p.3 ∙ a.sound.one_type p.0 q.0 p.1 q.1 (sym p.2 ∙ e ∙ q.2) ∙ sym q.3

          pub sound5 : IsSound types qs n5
          sound5 = record {
            rows = rows_kept qs n3 n5 rows5 rows3;
            mirrored = split_whole_law (chart qs old) (chart qs n5) x z (rank qs at) whole5 a.sound.mirrored;
            chained = split_life_law (lives qs old) (lives qs n5) x (rank qs at) life5 a.sound.chained;
            one_type = one_type5;
            typed = typed5;
            kinds = kinds5;
          }

          -- the queue of the whole
          pub queue5 : (queue queue' : Queue) → KeepsQueue (λ i. (i ≡ x) ⊎ (i ≡ z)) types n1 n5 queue queue' → KeepsQueue (λ i. (i ≡ x) ⊎ (i ≡ z)) types old n5 queue queue'
          queue5 queue queue' k xs h =
              let q = k xs (queues1 queue xs h) in (
                q.0,
                q.1,
                λ i o. ⊎_elim
                    (λ (e : i ≡ z). q.2 i (inl (inr e)))
                    (λ (nz : i ≡ z → ⊥). q.2 i (⊎_elim (λ (u : (i ≡ x) ⊎ (i ≡ z)). inl u) (λ (u : WaitsIfOver types old xs i). inr (λ over. u (over1 i nz over))) o))
                    (cases_eq i z),
              )

-- the queue after the steps
pub queue_steps : (types : List TypeShape) (n1 n2 n3 n4 n5 : List Node) (q0 q1 q2 q3 : Queue) (x z : ℕ) → KeepsQueue (λ _. ⊥) types n1 n2 q0 q1
    → AreReplaced n2 n3 → rows_of n4 ≡ rows_of n3 → frames_of n4 ≡ frames_of n3 → KeepsQueue (λ i. i ≡ x) types n3 n4 q1 q2 →
    rows_of n5 ≡ rows_of n4 → frames_of n5 ≡ frames_of n4 → KeepsQueue (λ i. i ≡ z) types n4 n5 q2 q3 → KeepsQueue (λ i. (i ≡ x) ⊎ (i ≡ z)) types n1 n5 q0 q3
queue_steps types n1 n2 n3 n4 n5 q0 q1 q2 q3 x z cut same rows4 frames4 one rows5 frames5 two xs h =
    let over3 : (i : ℕ) → IsOver types n3 i → IsOver types n2 i = λ i o. let s : stamped_at n3 i ≡ stamped_at n2 i = same.stamped i in
    let e : half_at types n3 i ≡ half_at types n2 i = half_same types n2 n3 same.frames i in omega arith in
    let over3' : (i : ℕ) → IsOver types n2 i → IsOver types n3 i = λ i o. let s : stamped_at n3 i ≡ stamped_at n2 i = same.stamped i in
    let e : half_at types n3 i ≡ half_at types n2 i = half_same types n2 n3 same.frames i in omega arith in
    let never = λ (i : ℕ). ⊥ in
    let a = queue_on never never types n1 n2 n3 q0 q1 q1 over3' cut (queue_same never types n2 n3 q1 (λ i v. v) (λ zs k. queues_links n2 n3 q1 zs same.count same.links k) over3) in
    let b = queue_on (λ i. (never i) ⊎ (never i)) (λ i. i ≡ x) types n1 n3 n4 q0 q1 q2 (λ i o. over_same types n4 n3 (sym rows4) (sym frames4) i o) a one in
    let c = queue_on (λ i. ((never i) ⊎ (never i)) ⊎ (i ≡ x)) (λ i. i ≡ z) types n1 n4 n5 q0 q2 q3 (λ i o. over_same types n5 n4 (sym rows5) (sym frames5) i o) b two in
    let q = c xs h in
    (q.0, q.1, λ i o. q.2 i (⊎_elim (λ (u : (i ≡ x) ⊎ (i ≡ z)). inl (⊎_elim (λ (v : i ≡ x). inl (inr v)) (λ (v : i ≡ z). inr v) u)) (λ (u : WaitsIfOver types n1 xs i). inr u) o))

-- and which nodes it got
pub named_steps : (qs : List ℕ) (old n1 n2 n3 n4 n5 : List Node) (q0 q1 q2 q3 : Queue) (x z n : ℕ)
    → ((xs : List ℕ) → Queues old q0 xs → Queues n1 q0 xs) → ((s : ℕ) → (chart qs n1).holds z s n ≡ (chart qs old).holds x s n) →
    HasQueuedOnly (λ i. (s : ℕ) × (names i ((chart qs n1).holds z s n) ≡ true)) n1 n2 q0 q1 → AreReplaced n2 n3
    → HasQueuedOnly (λ i. i ≡ x) n3 n4 q1 q2 → HasQueuedOnly (λ i. i ≡ z) n4 n5 q2 q3 → HasQueuedOnly (IsHalfOrNeighbour qs old x z) old n5 q0 q3
named_steps qs old n1 n2 n3 n4 n5 q0 q1 q2 q3 x z n start held cut same one two =
    only_on (IsHalfOrNeighbour qs old x z) old n1 n5 q0 q0 q3 (only_none (IsHalfOrNeighbour qs old x z) old n1 q0 start)
    (only_on (IsHalfOrNeighbour qs old x z) n1 n2 n5 q0 q1 q3
    (only_weaker (λ i. (s : ℕ) × (names i ((chart qs n1).holds z s n) ≡ true)) (IsHalfOrNeighbour qs old x z) n1 n2 q0 q1
    (λ i t. inr (inr (t.0, n, ap (names i) (sym (held t.0)) ∙ t.1))) cut)
    (only_on (IsHalfOrNeighbour qs old x z) n2 n3 n5 q1 q1 q3 (only_none (IsHalfOrNeighbour qs old x z) n2 n3 q1 (λ xs h. queues_links n2 n3 q1 xs same.count same.links h))
    (only_on (IsHalfOrNeighbour qs old x z) n3 n4 n5 q1 q2 q3 (only_weaker (λ i. i ≡ x) (IsHalfOrNeighbour qs old x z) n3 n4 q1 q2 (λ i e. inl e) one)
    (only_weaker (λ i. i ≡ z) (IsHalfOrNeighbour qs old x z) n4 n5 q2 q3 (λ i e. inr (inl e)) two))))

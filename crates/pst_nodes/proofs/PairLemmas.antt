use Rattle.std.proofs.Common.{◌≡◌, ◌≢◌, ℕ, ◌+◌, ◌≤◌, ◌<◌, true, false, cond, eqb, List, length, refl, sym, ap, ap₂, ◌∙◌, subst, ⊎_elim, arith}
use Rattle.std.proofs.lemmas.Bool.{cases_eq, cases_lt, cases_Bool, eq-eqb, ne_eqb, and_left, and_right}
use Rattle.pst_rows.specs.declared.row.Row.{Row}
use Rattle.pst_rows.specs.declared.content.Content.{Content}
use Rattle.pst_rows.specs.declared.content.Content.TheVariants.{Number, Null, Free, Target as TargetOf, From as FromOf}
use Rattle.pst_mirror.specs.Contents.{Target, From}
use Rattle.pst_order.specs.Places.{rank}
use Rattle.pst_mirror.specs.Mirror.{Chart, IsMirrored, IsUnlinked, IsLinked, moved, renamed, is_slot}
use Rattle.pst_mirror.specs.Charts.{IsSlotSet, is_alive, row_holds}
use Rattle.pst_rows.specs.Rows.{width_of, shown}
use Rattle.pst_nodes.specs.Arena.{HasRoom, values_of, row_at, AreRows, chart, IsAlive, IsSlot}
use Rattle.pst_mirror.proofs.ChartLemmas.{rows_hold-at, alive_is}
use Rattle.pst_mirror.proofs.ChartSplit.{rows_hold-past}
use Rattle.pst_mirror.proofs.ValueLemmas.{narrow_law}
use Rattle.pst_mirror.proofs.WriteLemmas.{two_sets_law}
use Rattle.pst_nodes.specs.declared.node.Node.{Node}
use Rattle.pst_nodes.specs.Changes.{IsTouched, added}
use Rattle.pst_rows.specs.Changes.{missing}
use Rattle.pst_rows.specs.Values.{IsValue}
use Rattle.pst_nodes.proofs.NodeLemmas.{AllRows-at, length-values, value_at, lo_is, hi_is, some_row, narrow_slot}
use Rattle.pst_mirror.proofs.MirrorLemmas.{renamed_from}

-- what holds something is there
pub held_slot : (qs : List ℕ) (ns : List Node) (x f n : ℕ) (c : Content) → AreRows qs ns → (chart qs ns).holds x f n ≡ c → c ≢ Null → IsSlot qs ns x f n
held_slot qs ns x f n c all e ne =
    let rows = values_of ns in
    let l : x < length rows = ⊎_elim (λ (p : x < length rows). p) (λ (p : length rows ≤ x). absurd (ne (sym e ∙ rows_hold-past (rank qs) rows x f n p))) (cases_lt x (length rows)) in
    let there : x < length ns = omega (arith, length-values ns) in
    let here : (d : Row) → c ≡ row_holds (rank qs) (shown (row_at ns x d)) f n = λ d. sym e ∙ rows_hold-at (rank qs) rows x (shown d) l f n
    ∙ ap (λ w. row_holds (rank qs) w f n) (value_at ns x d (shown d) there) in
    let alive : (d : Row) → is_alive (rank qs) (shown (row_at ns x d)) n ≡ true = λ d. ⊎_elim (λ (p : is_alive (rank qs) (shown (row_at ns x d)) n ≡ true). p)
    (λ (p : is_alive (rank qs) (shown (row_at ns x d)) n ≡ false). absurd (ne (here d ∙ (rw p refl))))
    (cases_Bool (is_alive (rank qs) (shown (row_at ns x d)) n)) in
    let is_row : (d : Row) → IsValue (rank qs) (length qs) (shown (row_at ns x d)) =
    λ d. subst (IsValue (rank qs) (length qs)) (value_at ns x d (shown d) there) (AllRows-at (rank qs) (length qs) rows x (shown d) l all) in
    record {
      alive = record {
        there = there;
        low = λ d. (alive_is (rank qs) (shown (row_at ns x d)) n (alive d)).0;
        high = λ d. (alive_is (rank qs) (shown (row_at ns x d)) n (alive d)).1;
      };
      slot_there = λ d. ⊎_elim (λ (p : f < width_of (row_at ns x d)). p)
          (λ (p : width_of (row_at ns x d) ≤ f). absurd (ne (here d ∙ (rw (alive d) (narrow_law (rank qs) (length qs) (shown (row_at ns x d)) f n (is_row d) p)))))
          (cases_lt f (width_of (row_at ns x d)));
    }

pub target_slot : (qs : List ℕ) (ns : List Node) (x f n y : ℕ) → AreRows qs ns → (chart qs ns).holds x f n ≡ Target y → IsSlot qs ns x f n
target_slot qs ns x f n y all e = held_slot qs ns x f n (Target y) all e (λ q. let e' : Target y ≡ Null = q in cc)

pub entry_at : (qs : List ℕ) (ns : List Node) (x f n y g : ℕ) → AreRows qs ns → (chart qs ns).holds x f n ≡ From y g → IsSlot qs ns x f n
entry_at qs ns x f n y g all e = held_slot qs ns x f n (From y g) all e (λ q. let e' : From y g ≡ Null = q in cc)

pub moved_itself : (x i : ℕ) → moved x x i ≡ i
moved_itself x i = ⊎_elim (λ (e : i ≡ x). rw (eq-eqb i x e) (sym e)) (λ (ne : i ≡ x → ⊥). rw (ne_eqb i x ne) refl) (cases_eq i x)

pub renamed_itself : (x : ℕ) (c : Content) → renamed x x c ≡ c
renamed_itself x (Number n) = refl
renamed_itself x Null = refl
renamed_itself x (TargetOf y) = ap Target (moved_itself x y.0)
renamed_itself x Free = refl
renamed_itself x (FromOf y f) = ap (λ (k : ℕ). From k f.0) (moved_itself x y.0)

-- the room of the second node after the first was touched
pub room_after : (k : ℕ) (old new : List Node) (x y : ℕ) (d : Row) → IsTouched 2 old new x → HasRoom (row_at old y d) (cond (eqb y x) 4 2) → HasRoom (row_at new y d) 2
room_after k old new x y d t h =
    ⊎_elim
    (λ (e : y ≡ x).
    let four : cond (eqb y x) 4 2 ≡ 4 = rw (eq-eqb y x e) refl in
    let h' : HasRoom (row_at old x d) (2 + 2) = subst (λ (i : ℕ). HasRoom (row_at old i d) 4) e (subst (λ (j : ℕ). HasRoom (row_at old y d) j) four h) in
    subst (λ (i : ℕ). HasRoom (row_at new i d) 2) (sym e) (t.room d 2 h'))
    (λ (ne : y ≡ x → ⊥).
    let two : cond (eqb y x) 4 2 ≡ 2 = rw (ne_eqb y x ne) refl in
    subst (λ (w : Row). HasRoom w 2) (sym (t.others y d ne)) (subst (λ (j : ℕ). HasRoom (row_at old y d) j) two h))
    (cases_eq y x)

module _ (k : ℕ) (old new : List Node) (x : ℕ) (t : IsTouched k old new x) (qs : List ℕ) where
  pub alive_kept : (i n : ℕ) → IsAlive qs old i n → IsAlive qs new i n
  alive_kept i n a =
      let there : i < length new = omega (arith, t.count, a.there) in
      record {
        there = there;
        low = λ d. let e : (row_at new i d).lo.0 ≡ (row_at old i d).lo.0 = lo_is new i d there ∙ t.lo i ∙ sym (lo_is old i d a.there) in rw e (a.low d);
        high = λ d. let e : (row_at new i d).hi.0 ≡ (row_at old i d).hi.0 = hi_is new i d there ∙ t.hi i ∙ sym (hi_is old i d a.there) in rw e (a.high d);
      }

  pub slot_kept : (i s n : ℕ) → IsSlot qs old i s n → IsSlot qs new i s n
  slot_kept i s n a = record { alive = alive_kept i n a.alive; slot_there = λ d. rw (t.width i d) (a.slot_there d) }

-- the two steps of taking a pair away
pub unlinked : (old mid new : Chart) (x f y s b : ℕ) → IsMirrored old → old.holds y s b ≡ From x f → IsSlotSet old mid x f b Null → IsSlotSet mid new y s b Free → IsUnlinked old new x f y s b
unlinked old mid new x f y s b mir pair one two =
    let apart : x ≡ y → f ≡ s → ⊥ = λ u v.
    let p : old.holds x f b ≡ Target y = mir.back y s b x f pair in
    let e : Target y ≡ From x f = sym p ∙ ap (λ (k : ℕ). old.holds k f b) u ∙ ap (λ (k : ℕ). old.holds y k b) v ∙ pair in cc in
    let t = two_sets_law old mid new x f y s b Null Free apart one two in
    record { pair = pair; holds = t.0; edges = t.1 }

-- what is an entry under another name is there
pub named_slot : (qs : List ℕ) (ns : List Node) (i s n x z f : ℕ) → AreRows qs ns → renamed x z ((chart qs ns).holds i s n) ≡ From z f → IsSlot qs ns i s n
named_slot qs ns i s n x z f all e =
    let t = renamed_from x z z f ((chart qs ns).holds i s n) e in
    entry_at qs ns i s n t.0 f all t.2

pub slot_below : (qs : List ℕ) (ns : List Node) (i s n : ℕ) (row : Row) → AreRows qs ns → IsAlive qs ns i n → ((d : Row) → row ≡ row_at ns i d) → s < width_of row → IsSlot qs ns i s n × (s < 65536)
slot_below qs ns i s n row all is e l =
    let slot : IsSlot qs ns i s n = record { alive = is; slot_there = λ d. subst (λ (w : Row). s < width_of w) (e d) l } in
    (slot, narrow_slot qs ns i n s (some_row ns i is.there) all slot)

pub linked : (old mid new : Chart) (x f y s b : ℕ) → old.holds x f b ≡ Null → old.holds y s b ≡ Free → IsSlotSet old mid x f b (Target y)
    → IsSlotSet mid new y s b (From x f) → IsLinked old new x f y s b
linked old mid new x f y s b null free one two =
    let apart : x ≡ y → f ≡ s → ⊥ = λ u v. let e : Null ≡ Free = sym null ∙ ap (λ (k : ℕ). old.holds k f b) u ∙ ap (λ (k : ℕ). old.holds y k b) v ∙ free in cc in
    let t = two_sets_law old mid new x f y s b (Target y) (From x f) apart one two in
    record { null = null; free = free; holds = t.0; edges = t.1 }

-- what the second of two slots is to get is not changed by the first
pub added_same : (old mid : Chart) (x f y s b : ℕ) (c : Content) → (x ≡ y → f ≡ s → ⊥) → IsSlotSet old mid x f b c → added mid y s b ≡ added old y s b
added_same old mid x f y s b c apart h =
    let away : is_slot x f y s ≡ false = ⊎_elim
    (λ (e : y ≡ x). and_right (eqb y x) (eqb s f) (ne_eqb s f (λ q. apart (sym e) (sym q))))
    (λ (ne : y ≡ x → ⊥). and_left (eqb y x) (eqb s f) (ne_eqb y x ne))
    (cases_eq y x) in
    let same : (m : ℕ) → mid.edge y s m ≡ old.edge y s m = λ m. h.edges y s m ∙ (rw away refl) in
    ap₂ (λ u v. missing u + missing v) (same b) (same (b + 1))

pub apart_free : (w : Chart) (x f y s b : ℕ) → w.holds x f b ≡ Null → w.holds y s b ≡ Free → x ≡ y → f ≡ s → ⊥
apart_free w x f y s b null free u v = let e : Null ≡ Free = sym null ∙ ap (λ (k : ℕ). w.holds k f b) u ∙ ap (λ (k : ℕ). w.holds y k b) v ∙ free in cc

pub apart_pair : (w : Chart) (x f y s b : ℕ) → IsMirrored w → w.holds y s b ≡ From x f → x ≡ y → f ≡ s → ⊥
apart_pair w x f y s b mir pair u v =
    let p : w.holds x f b ≡ Target y = mir.back y s b x f pair in
    let e : Target y ≡ From x f = sym p ∙ ap (λ (k : ℕ). w.holds k f b) u ∙ ap (λ (k : ℕ). w.holds y k b) v ∙ pair in cc

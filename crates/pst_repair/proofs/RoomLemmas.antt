use Rattle.pst_nodes.specs.Arena.{values_of, no_frame, Frame, frames_of, lo_at, hi_at, AreRows, chart, lives, IsSlot}
use Rattle.pst_rows.specs.Values.{width_in, count_in}
use Rattle.std.proofs.Common.{Result, Ok, Err, IfOk, OnOk, OnErr, ◌≡◌, ℕ, suc, ◌≤◌, ◌<◌, true, List, [], ◌∷◌, length, get_or, map, refl, sym, ap, ap₂, ◌∙◌, subst, ⊎_elim, arith}
use Rattle.std.proofs.lemmas.Bool.{cases_lt, eqb-true, false≢true}
use mathlib.Core.Path.{fun_ext}
use Rattle.pst_rows.specs.declared.content.Content.{Content}
use Rattle.pst_rows.specs.declared.content.Content.TheVariants.{Number, Null, Free, Target as TargetOf, From as FromOf}
use Rattle.pst_mirror.specs.Contents.{Target, From}
use Rattle.pst_order.specs.Places.{rank}
use Rattle.pst_mirror.specs.Mirror.{Chart, IsMirrored, names}
use Rattle.pst_mirror.specs.Charts.{chart_of, AllRows}
use Rattle.pst_mirror.specs.Lives.{Lives}
use Rattle.pst_nodes.specs.declared.node.Node.{Node}
use Rattle.pst_nodes.specs.Changes.{AreSameNodes}
use Rattle.pst_nodes.proofs.NodeLemmas.{lo_is, hi_is, some_row, length-values, value_at}
use Rattle.pst_nodes.proofs.PairLemmas.{target_slot, entry_at}
use Rattle.pst_repair.specs.Load.{stamped_at}
use Rattle.pst_repair.proofs.LoadLemmas.{stamped_is, stamped_past}
use Rattle.std.proofs.lemmas.List.{get_or_past, length-map}

-- lists with the same items are one
same_list : {A : Type 0} (xs ys : List A) → length xs ≡ length ys → ((i : ℕ) (d : A) → i < length ys → get_or xs i d ≡ get_or ys i d) → xs ≡ ys
same_list [] [] l h = refl
same_list [] (y ∷ ys) l h = absurd (omega arith)
same_list (x ∷ xs) [] l h = absurd (omega arith)
same_list (x ∷ xs) (y ∷ ys) l h = ap₂ (λ a as'. a ∷ as') (h 0 x (omega arith)) (same_list xs ys (omega arith) (λ i d k. h (suc i) d (omega arith)))

-- the same nodes have the same chart
module _ (old new : List Node) (s : AreSameNodes old new) where
  pub same_values : values_of new ≡ values_of old
  same_values = same_list (values_of new) (values_of old) (length-values new ∙ s.count ∙ sym (length-values old))
      (λ i d l. let k : i < length old = omega (arith, length-values old) in
      value_at new i (some_row old i k) d (omega (arith, s.count)) ∙ s.rows i (some_row old i k) ∙ sym (value_at old i (some_row old i k) d k))

  pub same_chart : (qs : List ℕ) → chart qs new ≡ chart qs old
  same_chart qs = ap (chart_of (rank qs)) same_values

  pub same_holds : (qs : List ℕ) (i g m : ℕ) → (chart qs new).holds i g m ≡ (chart qs old).holds i g m
  same_holds qs i g m = ap (λ (w : Chart). w.holds i g m) (same_chart qs)

  pub same_rows : (qs : List ℕ) → AreRows qs old → AreRows qs new
  same_rows qs all = subst (AllRows (rank qs) (length qs)) (sym same_values) all

  pub same_lo : (i : ℕ) → lo_at new i ≡ lo_at old i
  same_lo i = ⊎_elim
      (λ (l : i < length old). sym (lo_is new i (some_row old i l) (omega (arith, s.count))) ∙ (ap (λ w. w.lo.0) (s.rows i (some_row old i l))) ∙ lo_is old i (some_row old i l) l)
      (λ (l : length old ≤ i). get_or_past (map (λ (n : Node). n.row.lo.0) new) i 0
      (omega (arith, length-map new (λ (n : Node). n.row.lo.0), s.count))
      ∙ sym (get_or_past (map (λ (n : Node). n.row.lo.0) old) i 0 (omega (arith, length-map old (λ (n : Node). n.row.lo.0)))))
      (cases_lt i (length old))

  pub same_hi : (i : ℕ) → hi_at new i ≡ hi_at old i
  same_hi i = ⊎_elim
      (λ (l : i < length old). sym (hi_is new i (some_row old i l) (omega (arith, s.count))) ∙ (ap (λ w. w.hi.0) (s.rows i (some_row old i l))) ∙ hi_is old i (some_row old i l) l)
      (λ (l : length old ≤ i). get_or_past (map (λ (n : Node). n.row.hi.0) new) i 0
      (omega (arith, length-map new (λ (n : Node). n.row.hi.0), s.count))
      ∙ sym (get_or_past (map (λ (n : Node). n.row.hi.0) old) i 0 (omega (arith, length-map old (λ (n : Node). n.row.hi.0)))))
      (cases_lt i (length old))

  pub same_stamped : (i : ℕ) → stamped_at new i ≡ stamped_at old i
  same_stamped i = ⊎_elim
      (λ (l : i < length old). stamped_is new i (some_row old i l) (omega (arith, s.count)) ∙ (ap (λ w. count_in w) (s.rows i (some_row old i l))) ∙ sym (stamped_is old i (some_row old i l) l))
      (λ (l : length old ≤ i). stamped_past new i (omega (arith, s.count)) ∙ sym (stamped_past old i l))
      (cases_lt i (length old))

  pub same_slot : (qs : List ℕ) (x t n : ℕ) → IsSlot qs old x t n → IsSlot qs new x t n
  same_slot qs x t n a = record {
    alive = record {
      there = omega (arith, s.count, a.alive.there);
      low = λ d. rw ((ap (λ w. w.lo.0) (s.rows x d))) (a.alive.low d);
      high = λ d. rw ((ap (λ w. w.hi.0) (s.rows x d))) (a.alive.high d);
    };
    slot_there = λ d. rw ((ap (λ w. width_in w) (s.rows x d))) (a.slot_there d);
  }

pub same_itself : (ns : List Node) → AreSameNodes ns ns
same_itself ns = record { count = refl; frames = refl; links = λ i. refl; rows = λ i d. refl; room = λ i d k h. h }

pub same_on : (old mid new : List Node) → AreSameNodes old mid → AreSameNodes mid new → AreSameNodes old new
same_on old mid new a b = record {
  count = b.count ∙ a.count;
  frames = b.frames ∙ a.frames;
  links = λ i. b.links i ∙ a.links i;
  rows = λ i d. b.rows i d ∙ a.rows i d;
  room = λ i d k h. b.room i d k (a.room i d k h);
}

pub same_items : (old new : List Node) → new ≡ old → AreSameNodes old new
same_items old new e = subst (λ (ns : List Node). AreSameNodes old ns) (sym e) (same_itself old)

-- what is named is there
pub named_there : (qs : List ℕ) (ns : List Node) (x s n j : ℕ) (c : Content) → AreRows qs ns → IsMirrored (chart qs ns) → (chart qs ns).holds x s n ≡ c → names j c ≡ true → j < length ns
named_there qs ns x s n j (Number k) all mir e q = absurd (false≢true q)
named_there qs ns x s n j Null all mir e q = absurd (false≢true q)
named_there qs ns x s n j (TargetOf ynode) all mir e q =
    let y : ℕ = ynode.0 in
    let f : (t : ℕ) × ((chart qs ns).holds y t n ≡ From x s) = mir.found x s n y e in
    let slot : IsSlot qs ns y f.0 n = entry_at qs ns y f.0 n x s all f.1 in
    subst (λ (k : ℕ). k < length ns) (eqb-true y j q) slot.alive.there
named_there qs ns x s n j Free all mir e q = absurd (false≢true q)
named_there qs ns x s n j (FromOf ynode fslot) all mir e q =
    let y : ℕ = ynode.0 in
    let f : ℕ = fslot.0 in
    let b : (chart qs ns).holds y f n ≡ Target x = mir.back x s n y f e in
    let slot : IsSlot qs ns y f n = target_slot qs ns y f n x all b in
    subst (λ (k : ℕ). k < length ns) (eqb-true y j q) slot.alive.there

-- the lives of two lists
pub same_lives : (qs : List ℕ) (old new : List Node) → length new ≡ length old → ((i : ℕ) → lo_at new i ≡ lo_at old i)
    → ((i : ℕ) → hi_at new i ≡ hi_at old i) → frames_of new ≡ frames_of old → lives qs new ≡ lives qs old
same_lives qs old new count lo hi frames =
    let make : ℕ → (ℕ → ℕ) → (ℕ → ℕ) → List Frame → Lives = λ c a b fs. record {
      count = c;
      lo = a;
      hi = b;
      name = λ i. (get_or fs i no_frame).name;
      later = λ i. (get_or fs i no_frame).later;
    } in
    ap (λ (c : ℕ). make c (λ i. rank qs (lo_at new i)) (λ i. rank qs (hi_at new i)) (frames_of new)) count
    ∙ ap (λ (a : ℕ → ℕ). make (length old) a (λ i. rank qs (hi_at new i)) (frames_of new)) (fun_ext (λ i. ap (rank qs) (lo i)))
    ∙ ap (λ (b : ℕ → ℕ). make (length old) (λ i. rank qs (lo_at old i)) b (frames_of new)) (fun_ext (λ i. ap (rank qs) (hi i)))
    ∙ ap (λ (fs : List Frame). make (length old) (λ i. rank qs (lo_at old i)) (λ i. rank qs (hi_at old i)) fs) frames

pub if_ok_on : {T E : Type 0} (r : Result T E) {P Q : T → Type 0} → ((x : T) → P x → Q x) → IfOk r P → IfOk r Q
if_ok_on (Ok x) f h = f x h
if_ok_on (Err e) f h = tt

pub on_ok_of : {T E : Type 0} (r : Result T E) {P : Type 0} → P → OnOk r P
on_ok_of (Ok x) h = h
on_ok_of (Err e) h = tt

pub on_err_of : {T E : Type 0} (r : Result T E) {P : Type 0} → P → OnErr r P
on_err_of (Ok x) h = tt
on_err_of (Err e) h = h

pub on_err_on : {T E : Type 0} (r : Result T E) {P Q : Type 0} → (P → Q) → OnErr r P → OnErr r Q
on_err_on (Ok x) f h = tt
on_err_on (Err e) f h = f h

-- Room for a pointer, and that one is written.
use Rattle.std.proofs.Common.{◌≡◌, ℕ, ◌<◌, Bool, true, false, List, length, Option, Some, None, IsSome, is_some, IsTrue, refl, sym, ap, ◌∙◌, subst}
use Rattle.std.proofs.lemmas.Bool.{false≢true}
use Rattle.std.specs.Prelude.{IfSome, IfNone, ◌↔◌}
use Rattle.std.specs.Option.{option_map}
use Rattle.pst_base.specs.declared.names.NodeId.{NodeId}
use Rattle.pst_base.specs.declared.names.TypeNo.{TypeNo}
use Rattle.pst_base.specs.declared.names.Kind.TheVariants.{Pointer}
use Rattle.pst_base.specs.declared.shape.TypeShape.{TypeShape}
use Rattle.pst_base.specs.Shape.{type_at, field_kind}
use Rattle.pst_base.specs.Heap.{IsFull, kind_in}
use Rattle.pst_versions.specs.State.{WritesStay, PointerStored}
use Rattle.pst_versions.specs.Store.{MayStorePointer}
use Rattle.pst_line_nodes.specs.Line.{Covers, IsIn, IsNewest, IsLine, heap_at}
use Rattle.pst_line_nodes.specs.Full.{is_other_entry}
use Rattle.pst_line_nodes.specs.declared.content.InverseNo.{InverseNo}
use Rattle.pst_line_nodes.specs.Seen.{Seen}
use Rattle.pst_line_nodes.specs.Nodes.{line_of, AreKept}
use Rattle.pst_line_nodes.specs.Carried.{IsOpenSlot, AreAllOthers, HasOpenSlot, HasNoOpenSlot, MayPoint, IsFieldPointed}
use Rattle.pst_line_nodes.proofs.Copy.{covers_last}
use Rattle.pst_line_nodes.proofs.Degree.{full_law}
use Rattle.pst_line.specs.declared.place.LinePlace.{LinePlace}
use Rattle.pst_line.specs.Store.{state_of, is_made}
use Rattle.pst_line.specs.StoreLaws.{one_pointer}
use Rattle.pst_line.specs.Undoing.{IsNewestOf}
use Rattle.pst_line.specs.Noted.{with_entry}
use Rattle.pst_line.specs.Held.{Held, IsHeld, line_in, stored_of}
use Rattle.pst_line.specs.Entered.{line_with, entry_at, HasEntered, HasNoRoom, IsLinked}
use Rattle.pst_line.proofs.Reading.{kind_there}
use Rattle.pst_line.proofs.Answered.{covers_all, type_of_ref}
use Rattle.pst_line.proofs.Roots.{stay_same, root_anew}
use Rattle.pst_line.proofs.Fields.{still_roomy, target_field, target_held, target_done}

-- what a pointer write may be asked for: the field's kind is that of a pointer to the target's type
pub kind_of : (g : Held) → IsHeld g → (at : LinePlace) (r : NodeId) (f : ℕ) (q : NodeId) → MayStorePointer (state_of (stored_of g)) at r f (Some q) → kind_in g.shape (heap_at g.shape (line_in g) at.stamp.0) ((line_in g).name r.0) f ≡ Some (Pointer ((line_in g).ty q.0))
kind_of g h at r f q may = may.fits.1 ∙ ap (option_map Pointer) (type_of_ref g g refl h q at may.target_live)

-- ---- whether there is room

module _ (s : Held) (h : IsHeld s) (at : LinePlace) (r : NodeId) (f : ℕ) (q : NodeId) (may : MayStorePointer (state_of (stored_of s)) at r f (Some q)) (x z : ℕ)
    (cx : Covers (line_of (λ i. true) s.nodes) x (length s.versions)) (hx : (line_of (λ i. true) s.nodes).home x ≡ (line_of (λ i. true) s.nodes).home r.0)
    (cz : Covers (line_of (λ i. true) s.nodes) z (length s.versions)) (hz : (line_of (λ i. true) s.nodes).home z ≡ (line_of (λ i. true) s.nodes).home q.0) where
  same_r : ((line_in s).name x ≡ (line_in s).name r.0) × ((line_in s).ty x ≡ (line_in s).ty r.0) × ((line_in s).made x ≡ (line_in s).made r.0)
  same_r = h.stored.line.chained.same x r.0 cx.there may.live.1.there hx

  same_q : ((line_in s).name z ≡ (line_in s).name q.0) × ((line_in s).ty z ≡ (line_in s).ty q.0) × ((line_in s).made z ≡ (line_in s).made q.0)
  same_q = h.stored.line.chained.same z q.0 cz.there may.target_live.1.there hz

  x_in : IsIn (line_in s) x (length s.versions)
  x_in = record { covers = covers_all (λ i. true) (is_made s.versions s.opened) s.nodes x (length s.versions) cx; made = same_r.2 ∙ may.live.1.made }

  z_in : IsIn (line_in s) z (length s.versions)
  z_in = record { covers = covers_all (λ i. true) (is_made s.versions s.opened) s.nodes z (length s.versions) cz; made = same_q.2 ∙ may.target_live.1.made }

  kind_x : field_kind (type_at s.shape ((line_in s).ty x)) f ≡ Some (Pointer ((line_in s).ty z))
  kind_x = sym (kind_there (stored_of s) h.stored at r.0 x may.live (subst (Covers (line_in s) x) (sym may.writable.run.newest) x_in.covers) hx f) ∙ kind_of s h at r f q may ∙ ap (λ (u : TypeNo). Some (Pointer u)) (sym same_q.1)

  full : (IsFull s.shape (heap_at s.shape (line_in s) (length s.versions)) ((line_in s).name x) f (Some ((line_in s).name z))) ↔ ((u : ℕ) → u < (type_at s.shape ((line_in s).ty z)).limit → is_other_entry x f ((line_in s).entry z u) ≡ true)
  full = full_law s.shape (length s.versions) (line_in s) x f z h.stored.line x_in z_in kind_x

  there : IsFull s.shape (heap_at s.shape (line_in s) (length s.versions)) ((line_in s).name x) f (Some ((line_in s).name z)) ≡ HasNoRoom s at r f q
  there = ap (λ n. IsFull s.shape (heap_at s.shape (line_in s) (length s.versions)) n f (Some ((line_in s).name z))) same_r.0
      ∙ ap (λ n. IsFull s.shape (heap_at s.shape (line_in s) (length s.versions)) ((line_in s).name r.0) f (Some n)) same_q.0
      ∙ ap (λ n. IsFull s.shape (heap_at s.shape (line_in s) n) ((line_in s).name r.0) f (Some ((line_in s).name q.0))) (sym may.writable.run.newest)

  pub room_is : (o : Option InverseNo) → IfSome o (λ u. HasOpenSlot s.nodes z x f u.0)
      → IfNone o (HasNoOpenSlot s.nodes z x f) → IsTrue (is_some o) ↔ ¬ (HasNoRoom s at r f q)
  room_is None some none = ((λ t. absurd (false≢true t)), λ no. absurd (no (subst (λ (A : Type 0). A) there (full.1 (none s.shape (length s.versions) (λ i. true) h.kept).others))))
  room_is (Some u) some none =
      let o = some s.shape (length s.versions) (λ i. true) h.kept in
      ((λ t k. false≢true (sym o.free ∙ full.0 (subst (λ (A : Type 0). A) (sym there) k) u.0 o.below)), λ no. refl)

-- ---- a pointer is written

-- g is the store before, and k that after the write was entered
module _ (k n g : Held) (e : k ≡ n) (h : IsHeld g) (at : LinePlace) (r : NodeId) (f : ℕ) (q : NodeId) (may : MayStorePointer (state_of (stored_of g)) at r f (Some q)) (roomy : ¬ (HasNoRoom g at r f q)) (x : ℕ) (en : HasEntered g n r.0 f x)
    (t : ℕ) (t_is : t ≡ length g.versions) (z : ℕ) (cz : Covers (line_of (λ i. true) k.nodes) z t) (hz : (line_of (λ i. true) k.nodes).home z ≡ (line_of (λ i. true) k.nodes).home q.0) where
  path : k ≡ record g { nodes = en.nodes; undo = with_entry (entry_at g en.nodes x f) g.undo; failed = true; root = en.root }
  path = e ∙ en.is

  nodes_are : k.nodes ≡ en.nodes
  nodes_are = ap (λ (k : Held). k.nodes) path

  cz_s : Covers (line_with g en.nodes) z (length g.versions)
  cz_s = covers_all (λ i. true) (is_made g.versions g.opened) en.nodes z (length g.versions) (subst (λ (ns : List Seen). Covers (line_of (λ i. true) ns) z (length g.versions)) nodes_are (subst (Covers (line_of (λ i. true) k.nodes) z) t_is cz))

  hz_s : (line_with g en.nodes).home z ≡ (line_with g en.nodes).home q.0
  hz_s = subst (λ (ns : List Seen). (line_of (λ i. true) ns).home z ≡ (line_of (λ i. true) ns).home q.0) nodes_are hz

  newest_z : IsNewestOf (line_with g en.nodes) (length g.versions) q.0 z
  newest_z = record {
    there = record { covers = cz_s; made = ap (is_made g.versions g.opened) (hz_s ∙ en.room.carried.went.nodes.home q.0 may.target_live.1.there) ∙ may.target_live.1.made };
    last = covers_last g.shape (length g.versions) (line_with g en.nodes) z en.room.carried.line cz_s;
    home = hz_s;
  }

  pub last_z : IsNewest (line_of (λ i. true) k.nodes) z
  last_z = subst (λ (ns : List Seen). IsNewest (line_of (λ i. true) ns) z) (sym nodes_are) (record { there = newest_z.last.there; last = newest_z.last.last })

  kept_k : AreKept g.shape t k.nodes
  kept_k = subst (λ (ns : List Seen). AreKept g.shape t ns) (sym nodes_are) (subst (λ (t : ℕ). AreKept g.shape t en.nodes) (sym t_is) en.room.kept)

  -- an inverse slot is free
  pub some_slot : (o : Option InverseNo) → IfNone o (HasNoOpenSlot k.nodes z x f) → IsSome o
  some_slot (Some u) none = refl
  some_slot None none =
      let others = subst (λ (ns : List Seen). AreAllOthers g.shape (line_of (λ i. true) ns) z x f) nodes_are (none g.shape t (λ i. true) kept_k) in
      let field = target_field g h at may.writable r f may.live may.room en.nodes x en.room q may.target_live (kind_of g h at r f q may) roomy z 0 newest_z in
      absurd (still_roomy g h at may.writable r f may.live may.room en.nodes x en.room q may.target_live (kind_of g h at r f q may) roomy z 0 newest_z
      ((full_law g.shape (length g.versions) (line_with g en.nodes) x f z en.room.carried.line en.room.newest.there newest_z.there field).1 others.others))

  pub open_line : (u : ℕ) → HasOpenSlot k.nodes z x f u → MayPoint t k.nodes z x f u
  open_line u o = (
    g.shape,
    is_made g.versions g.opened,
    kept_k,
    subst (λ (ns : List Seen). IsLine g.shape t (line_with g ns)) (sym nodes_are) (subst (λ (t : ℕ). IsLine g.shape t (line_with g en.nodes)) (sym t_is) en.room.carried.line),
    o g.shape t (is_made g.versions g.opened) kept_k,
  )

  module _ (u : ℕ) (o : HasOpenSlot k.nodes z x f u) (ms : List Seen) (kept : (shape : List TypeShape) → AreKept shape t k.nodes → AreKept shape t ms)
      (d : (made : ℕ → Bool) → IsFieldPointed (line_of made k.nodes) (line_of made ms) x f t z u) where
    below_u : u < (type_at g.shape ((line_with g en.nodes).ty z)).limit
    below_u = (subst (λ (ns : List Seen). IsOpenSlot g.shape (line_of (λ i. true) ns) z x f u) nodes_are (o g.shape t (λ i. true) kept_k)).below

    kept_m : AreKept g.shape (length g.versions) ms
    kept_m = subst (λ (t : ℕ). AreKept g.shape t ms) t_is (kept g.shape kept_k)

    d_m : IsFieldPointed (line_with g en.nodes) (line_with g ms) x f (length g.versions) z u
    d_m = subst (λ (t : ℕ). IsFieldPointed (line_with g en.nodes) (line_with g ms) x f t z u) t_is (subst (λ (ns : List Seen). IsFieldPointed (line_with g ns) (line_with g ms) x f t z u) nodes_are (d (is_made g.versions g.opened)))

    pub target_end : IsHeld (record k { nodes = ms; failed = false; counts = one_pointer k.counts })
    target_end = subst (λ (k : Held). IsHeld (record k { nodes = ms; failed = false; counts = one_pointer k.counts })) (sym path)
        (root_anew _ (target_held g h at may.writable r f may.live may.room en.nodes x en.room q may.target_live (kind_of g h at r f q may) roomy z u newest_z ms below_u d_m kept_m) en.root
        (stay_same (is_made g.versions g.opened) en.nodes ms d_m.pointed.set.nodes (length g.versions) en.root en.rooted))

    pub target_ends : IsLinked g at r f q (record k { nodes = ms; failed = false; counts = one_pointer k.counts })
    target_ends = let l = subst (λ (k : Held). PointerStored (state_of (stored_of g)) at ((line_in g).name r.0) f (Some ((line_in g).name q.0)) (state_of (stored_of (record k { nodes = ms; failed = false; counts = one_pointer k.counts }))) × WritesStay (state_of (stored_of g)) (state_of (stored_of (record k { nodes = ms; failed = false; counts = one_pointer k.counts })))) (sym path)
        (target_done g h at may.writable r f may.live may.room en.nodes x en.room q may.target_live (kind_of g h at r f q may) roomy z u newest_z ms below_u d_m kept_m) in (l.0, l.1, roomy)

-- whether there is room, as it is seen
pub room_seen : (s g : Held) → s ≡ g → IsHeld s → (at : LinePlace) (r : NodeId) (f : ℕ) (q : NodeId) → MayStorePointer (state_of (stored_of g)) at r f (Some q) → (t : ℕ) → t ≡ length g.versions → (x z : ℕ)
    → Covers (line_of (λ i. true) s.nodes) x t → (line_of (λ i. true) s.nodes).home x ≡ (line_of (λ i. true) s.nodes).home r.0
    → Covers (line_of (λ i. true) s.nodes) z t → (line_of (λ i. true) s.nodes).home z ≡ (line_of (λ i. true) s.nodes).home q.0
    → (o : Option InverseNo) → IfSome o (λ u. HasOpenSlot s.nodes z x f u.0)
    → IfNone o (HasNoOpenSlot s.nodes z x f) → (b : Bool) → b ≡ is_some o → IsTrue b ↔ ¬ (HasNoRoom g at r f q)
room_seen s g e h at r f q may t t_is x z cx hx cz hz o some none b is =
    let may_s = subst (λ (g : Held). MayStorePointer (state_of (stored_of g)) at r f (Some q)) (sym e) may in
    let n : t ≡ length s.versions = t_is ∙ ap (λ (g : Held). length g.versions) (sym e) in
    let cx_s = subst (Covers (line_of (λ i. true) s.nodes) x) n cx in
    let cz_s = subst (Covers (line_of (λ i. true) s.nodes) z) n cz in
    subst (λ (b : Bool). IsTrue b ↔ ¬ (HasNoRoom g at r f q)) (sym is) (subst (λ (g : Held). IsTrue (is_some o) ↔ ¬ (HasNoRoom g at r f q)) e (room_is s h at r f q may_s x z cx_s hx cz_s hz o some none))

pub some_of : {A : Type 0} (P : A → Type 0) (o : Option A) (u : A) → o ≡ Some u → IfSome o P → P u
some_of {A = A} P o u e k = let Q : Option A → Type 0 = λ o. IfSome o P in subst Q e k

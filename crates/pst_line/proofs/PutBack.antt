-- A write that is undone.
use Rattle.std.proofs.Common.{◌≡◌, ℕ, ◌+◌, ◌<◌, ◌≤◌, List, ◌∷◌, Option, Some, None, ℤ, refl, sym, ap, ◌∙◌, subst, inl, inr, ⊎_elim, arith}
use Rattle.std.proofs.lemmas.Bool.{cases_eq}
use Rattle.std.specs.FinMap.{get}
use Rattle.std.specs.Option.{option_map}
use Rattle.pst_base.specs.declared.names.Name.{Name}
use Rattle.pst_base.specs.declared.names.TypeNo.{TypeNo}
use Rattle.pst_base.specs.declared.names.Kind.{Kind}
use Rattle.pst_base.specs.declared.names.Kind.TheVariants.{Int, Pointer}
use Rattle.pst_base.specs.declared.shape.TypeShape.{TypeShape}
use Rattle.pst_base.specs.Shape.{type_at, field_kind}
use Rattle.pst_base.specs.Heap.{Rec, Heap, IsWellFormed, IsPointer, IsPointerSlot, IsFull, with_value, with_pointer, type_in, limit_from}
use Rattle.pst_base.proofs.Degrees.{holding-same, in_degree-with_pointer, in_degree_apart-is}
use Rattle.pst_base.proofs.WellFormed.{type_in-with_pointer}
use Rattle.pst_line_nodes.specs.declared.content.Content.{Content}
use Rattle.pst_line_nodes.specs.declared.content.Content.TheVariants.{Number, Null, Target as TargetOf}
use Rattle.pst_line_nodes.specs.Contents.{Target}
use Rattle.pst_line_nodes.specs.Line.{Line, IsLive, IsLine, IsQuiet, heap_at, record_at, most, load}
use Rattle.pst_line_nodes.specs.Changes.{IsSet, IsNumberSet, IsNulled, VersionsStay}
use Rattle.pst_line_nodes.proofs.Contents.{one_target}
use Rattle.pst_line_nodes.proofs.HeapLaws.{heap_has}
use Rattle.pst_line_nodes.proofs.Same.{same_field}
use Rattle.pst_line_nodes.proofs.Writes.{number_law, null_law, point_law}
use Rattle.pst_line.specs.declared.place.Undo.{Undo}
use Rattle.pst_line.specs.Store.{Stored, stamp, IsStored, IsRested}
use Rattle.pst_line.specs.Undo.{put_back}
use Rattle.pst_line.specs.Undoing.{CanUndo, Fits, IsNewestOf, IsPointedBack, IsPut, IsUndone, PutBackLaw, RoomLaw}
use Rattle.pst_line.proofs.Stores.{same_after}
use Rattle.pst_line_nodes.proofs.Carrying.{went_set}
use Rattle.pst_line.proofs.Undos.{can_undo_less}
use Rattle.pst_line.proofs.Entries.{value_below, pointer_slot_at}

-- ---- rest

pub quiet_set : (old new : Line) (x f t k : ℕ) (c : Content) → IsSet old new x f t c k → ((y : ℕ) → c ≡ Target y → old.later y ≡ None) → IsQuiet old t → IsQuiet new t
quiet_set old new x f t k c d fits q = record {
  none = λ i g y n e. elim (same_field i g x f) [
    | inl p ↦ d.nodes.later y ∙ fits y (sym d.here ∙ ap (λ i. new.holds i f t) (sym p.0) ∙ ap (λ g. new.holds i g t) (sym p.1) ∙ e)
    | inr ne ↦ d.nodes.later y ∙ q.none i g y (record { there = omega (arith, n.there, d.nodes.count); last = sym (d.nodes.later i) ∙ n.last }) (sym (d.others i g t ne) ∙ e)
  ];
}

-- nothing is stamped
small_set : (s : Stored) (w : Line) (x f t : ℕ) (c : Content) → IsSet s.line w x f t c 0 → ((i : ℕ) → i < s.line.count → s.line.stamped i ≤ most (type_at s.shape (s.line.ty i)))
    → (i : ℕ) → i < w.count → w.stamped i ≤ most (type_at s.shape (w.ty i))
small_set s w x f t c d small i m =
    let n : i < s.line.count = omega (arith, m, d.nodes.count) in
    let same : most (type_at s.shape (w.ty i)) ≡ most (type_at s.shape (s.line.ty i)) = ap (λ (v : TypeNo). most (type_at s.shape v)) (d.nodes.ty i) in
    ⊎_elim
    (λ (p : i ≡ x). let here : w.stamped i ≡ s.line.stamped i = ap w.stamped p ∙ d.stamped ∙ (let e : s.line.stamped x + 0 ≡ s.line.stamped x = omega arith in e) ∙ ap s.line.stamped (sym p) in omega (arith, small i n, same, here))
    (λ (ne : i ≡ x → ⊥). omega (arith, small i n, same, d.other_stamped i ne))
    (cases_eq i x)

-- ---- room

-- the kind of a field that holds pointers
pub pointer_kind : (k : Option Kind) → IsPointer k → (ty : TypeNo) × (k ≡ Some (Pointer ty))
pointer_kind None p = absurd p
pointer_kind (Some Int) p = absurd p
pointer_kind (Some (Pointer ty)) p = (ty, refl)

roomy : (shape : List TypeShape) (h : Heap) (n q : Name) (slot : ℕ) (r k : Rec) → get h n ≡ Some r → IsPointerSlot r slot → get h q ≡ Some k → IsWellFormed shape (with_pointer h n slot (Some q)) → ¬ (IsFull shape h n slot (Some q))
roomy shape h n q slot r k e i f formed full =
    let typed : type_in h q ≡ Some k.ty = ap (option_map (λ (r : Rec). r.ty)) f in
    let limit : limit_from shape (type_in h q) ≡ (type_at shape k.ty).limit = ap (limit_from shape) typed in
    let apart = in_degree_apart-is h n slot q r e i in
    let with = in_degree-with_pointer h n slot (Some q) q r e i in
    let null = in_degree-with_pointer h n slot None q r e i in
    let most = formed.limits q k.ty (type_in-with_pointer h n slot (Some q) q ∙ typed) in
    omega (arith, full, limit, apart, with, null, most, holding-same q)

module _ (s : Stored) (w : Line) (b x : ℕ) (v : Undo) (es : List Undo) (h : IsStored s) (r : IsRested s) (open' : s.opened ≡ Some b) (u : CanUndo s b (v ∷ es)) (n : IsNewestOf s.line (stamp s) v.node.0 x) where
  same : (s.line.name x ≡ s.line.name v.node.0) × (s.line.ty x ≡ s.line.ty v.node.0)
  same = let k = h.line.chained.same x v.node.0 n.there.covers.there (u.entered 0 v (omega arith)).live.there n.home in (k.0, k.1)

  finish : (c : Content) → IsSet s.line w x v.slot.0 (stamp s) c 0 → ((y : ℕ) → c ≡ Target y → s.line.later y ≡ None) → IsLine s.shape (stamp s) w → VersionsStay s.shape (stamp s) s.line w
      → heap_at s.shape w (stamp s) ≡ put_back s.line.name (heap_at s.shape s.line (stamp s)) (s.line.name v.node.0) v.slot.0 v.content → load s.shape w (stamp s) ≤ load s.shape s.line (stamp s) + 0 → IsUndone s w b es
  finish c d fits line stay heap few = record {
    stored = same_after s w s.counts h stay d.nodes line (λ p q. subst (IsWellFormed s.shape) (sym heap) u.leads.0) (omega (arith, few, h.bounded));
    rested = record { quiet = quiet_set s.line w x v.slot.0 (stamp s) 0 c d fits r.quiet; small = small_set s w x v.slot.0 (stamp s) c d r.small };
    can = can_undo_less s w s.counts b (went_set s.line w x v.slot.0 (stamp s) 0 c d) stay v es u heap;
    stay = stay;
    nodes = d.nodes;
  }

  number_put : (k : ℤ) → v.content ≡ Number k → IsNumberSet s.line w x v.slot.0 (stamp s) k 0 → IsUndone s w b es
  number_put k is d =
      let field : field_kind (type_at s.shape (s.line.ty x)) v.slot.0 ≡ Some Int = ap (λ (o : TypeNo). field_kind (type_at s.shape o) v.slot.0) same.1 ∙ subst (Fits s v.node.0 v.slot.0) is (u.entered 0 v (omega arith)).fits in
      let l = number_law s.shape s.line w x v.slot.0 (stamp s) k 0 h.line n.there n.last (value_below (type_at s.shape (s.line.ty x)) v.slot.0 field) d in
      finish (Number k) d.set (λ y q. absurd (cc)) l.0 l.1
      (l.2 ∙ ap (λ m. with_value (heap_at s.shape s.line (stamp s)) m v.slot.0 k) same.0 ∙ ap (put_back s.line.name (heap_at s.shape s.line (stamp s)) (s.line.name v.node.0) v.slot.0) (sym is)) l.3

  null_put : v.content ≡ Null → IsNulled s.line w x v.slot.0 (stamp s) 0 → IsUndone s w b es
  null_put is d =
      let field : IsPointer (field_kind (type_at s.shape (s.line.ty x)) v.slot.0) = subst (λ (o : TypeNo). IsPointer (field_kind (type_at s.shape o) v.slot.0)) (sym same.1) (subst (Fits s v.node.0 v.slot.0) is (u.entered 0 v (omega arith)).fits) in
      let k = pointer_kind (field_kind (type_at s.shape (s.line.ty x)) v.slot.0) field in
      let l = null_law s.shape s.line w x v.slot.0 (stamp s) 0 k.0 h.line n.there n.last k.1 d in
      finish Null d.set (λ y q. absurd (cc)) l.0 l.1
      (l.2 ∙ ap (λ m. with_pointer (heap_at s.shape s.line (stamp s)) m v.slot.0 None) same.0 ∙ ap (put_back s.line.name (heap_at s.shape s.line (stamp s)) (s.line.name v.node.0) v.slot.0) (sym is)) l.3

  target_put : (y : ℕ) → v.content ≡ Target y → IsPointedBack s.shape s.line w x v.slot.0 (stamp s) y → IsUndone s w b es
  target_put y is p =
      let f : IsLive s.line y (stamp s) × (field_kind (type_at s.shape (s.line.ty v.node.0)) v.slot.0 ≡ Some (Pointer (s.line.ty y))) = subst (Fits s v.node.0 v.slot.0) is (u.entered 0 v (omega arith)).fits in
      let z = h.line.chained.same p.node y p.newest.there.covers.there f.0.there p.newest.home in
      let field : field_kind (type_at s.shape (s.line.ty x)) v.slot.0 ≡ Some (Pointer (s.line.ty p.node)) = ap (λ (o : TypeNo). field_kind (type_at s.shape o) v.slot.0) same.1 ∙ f.1 ∙ ap (λ o. Some (Pointer o)) (sym z.1) in
      let l = point_law s.shape s.line w x v.slot.0 (stamp s) p.node p.slot 0 h.line n.there n.last p.newest.there p.newest.last p.below field p.pointed in
      finish (Target p.node) p.pointed.set (λ k q. let m : p.node ≡ k = one_target p.node k q in ap s.line.later (sym m) ∙ p.newest.last.last) l.0 l.1
      (l.2 ∙ ap (λ m. with_pointer (heap_at s.shape s.line (stamp s)) m v.slot.0 (Some (s.line.name p.node))) same.0
      ∙ ap (λ m. with_pointer (heap_at s.shape s.line (stamp s)) (s.line.name v.node.0) v.slot.0 (Some m)) z.0
      ∙ ap (put_back s.line.name (heap_at s.shape s.line (stamp s)) (s.line.name v.node.0) v.slot.0) (sym is)) l.3

  put : (c : Content) → v.content ≡ c → IsPut s.shape s.line w x v.slot.0 (stamp s) c → IsUndone s w b es
  put (Number k) is d = number_put k is d
  put Null is d = null_put is d
  put (TargetOf y) is p = target_put y.0 is p

pub put_back_law : PutBackLaw
put_back_law s w b x v es h r e u n p = put s w b x v es h r e u n v.content refl p

pub room_law : RoomLaw
room_law s b x y z v es h u is n m =
    let e = u.entered 0 v (omega arith) in
    let f : IsLive s.line y (stamp s) × (field_kind (type_at s.shape (s.line.ty v.node.0)) v.slot.0 ≡ Some (Pointer (s.line.ty y))) = subst (Fits s v.node.0 v.slot.0) is e.fits in
    let k = h.line.chained.same x v.node.0 n.there.covers.there e.live.there n.home in
    let j = h.line.chained.same z y m.there.covers.there f.0.there m.home in
    let back : put_back s.line.name (heap_at s.shape s.line (stamp s)) (s.line.name v.node.0) v.slot.0 v.content ≡ with_pointer (heap_at s.shape s.line (stamp s)) (s.line.name x) v.slot.0 (Some (s.line.name z))
    = ap (put_back s.line.name (heap_at s.shape s.line (stamp s)) (s.line.name v.node.0) v.slot.0) is
    ∙ ap (λ o. with_pointer (heap_at s.shape s.line (stamp s)) o v.slot.0 (Some (s.line.name y))) (sym k.0)
    ∙ ap (λ o. with_pointer (heap_at s.shape s.line (stamp s)) (s.line.name x) v.slot.0 (Some o)) (sym j.0) in
    let field : field_kind (type_at s.shape (s.line.ty x)) v.slot.0 ≡ Some (Pointer (s.line.ty y)) = ap (λ (o : TypeNo). field_kind (type_at s.shape o) v.slot.0) k.1 ∙ f.1 in
    roomy s.shape (heap_at s.shape s.line (stamp s)) (s.line.name x) (s.line.name z) v.slot.0 (record_at s.shape s.line x (stamp s)) (record_at s.shape s.line z (stamp s))
    (heap_has s.shape s.line (stamp s) h.line.chained x n.there) (pointer_slot_at s x v.slot.0 h n.there (s.line.ty y) field) (heap_has s.shape s.line (stamp s) h.line.chained z m.there) (subst (IsWellFormed s.shape) back u.leads.0)

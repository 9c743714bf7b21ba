-- What a reference and its fields are at a place.
use Rattle.std.proofs.Common.{◌≡◌, ℕ, ◌+◌, ◌-◌, ◌<◌, ◌≤◌, length, get_or, Some, None, pos, sym, ap, ◌∙◌, subst, ⊎_elim, arith}
use Rattle.std.proofs.lemmas.Bool.{cases_lt}
use Rattle.std.specs.Option.{option_map}
use Rattle.std.specs.FinMap.{get}
use Rattle.pst_base.proofs.Below.{get_or-listed, length-listed}
use Rattle.pst_base.specs.declared.names.Kind.{Kind}
use Rattle.pst_base.specs.declared.names.Kind.TheVariants.{Int, Pointer}
use Rattle.pst_base.specs.Shape.{type_at, field_kind, element_count}
use Rattle.pst_base.specs.Heap.{Rec, IsPointer, type_in, kind_in, kind_from, value_in, value_from, pointer_in, pointer_from}
use Rattle.pst_line_nodes.specs.Contents.{Target}
use Rattle.pst_line_nodes.specs.Line.{Covers, IsIn, IsLive, heap_at, record_at, number, denoted}
use Rattle.pst_line_nodes.proofs.HeapLaws.{heap_has}
use Rattle.pst_line_nodes.proofs.Same.{pointer_field}
use Rattle.pst_line_nodes.proofs.Copy.{covers_last}
use Rattle.pst_line.specs.declared.place.LinePlace.{LinePlace}
use Rattle.pst_line.specs.Store.{Stored, stamp, IsPlace, IsStored}
use Rattle.pst_line.proofs.Stores.{at_most}
use Rattle.pst_line.proofs.Entries.{value_below}
use Rattle.pst_line.proofs.PutBack.{pointer_kind}

module _ (s : Stored) (h : IsStored s) (p : LinePlace) (r x : ℕ) (l : IsPlace s p × IsLive s.line r p.stamp.0) (c : Covers s.line x p.stamp.0) (home : s.line.home x ≡ s.line.home r) where
  same : (s.line.name x ≡ s.line.name r) × (s.line.ty x ≡ s.line.ty r) × (s.line.made x ≡ s.line.made r)
  same = h.line.chained.same x r c.there l.1.there home

  pub in_place : IsIn s.line x p.stamp.0
  in_place = record { covers = c; made = (h.line.chained.same x r c.there l.1.there home).2 ∙ l.1.made }

  pub shown_there : get (heap_at s.shape s.line p.stamp.0) (s.line.name r) ≡ Some (record_at s.shape s.line x p.stamp.0)
  shown_there = ap (get (heap_at s.shape s.line p.stamp.0)) (sym same.0) ∙ heap_has s.shape s.line p.stamp.0 h.line.chained x in_place

  pub type_there : type_in (heap_at s.shape s.line p.stamp.0) (s.line.name r) ≡ Some (s.line.ty x)
  type_there = ap (option_map (λ (k : Rec). k.ty)) shown_there

  pub kind_there : (f : ℕ) → kind_in s.shape (heap_at s.shape s.line p.stamp.0) (s.line.name r) f ≡ field_kind (type_at s.shape (s.line.ty x)) f
  kind_there f = ap (kind_from s.shape f) type_there

  pub number_there : (f : ℕ) → kind_in s.shape (heap_at s.shape s.line p.stamp.0) (s.line.name r) f ≡ Some Int → value_in (heap_at s.shape s.line p.stamp.0) (s.line.name r) f ≡ number (s.line.holds x f p.stamp.0)
  number_there f k = ap (value_from f) shown_there ∙ get_or-listed (type_at s.shape (s.line.ty x)).values (λ g. number (s.line.holds x g p.stamp.0)) f (pos 0) (value_below (type_at s.shape (s.line.ty x)) f (sym (kind_there f) ∙ k))

  -- which of the pointer fields
  pub pointer_at_field : (f : ℕ) → IsPointer (kind_in s.shape (heap_at s.shape s.line p.stamp.0) (s.line.name r) f) → ((type_at s.shape (s.line.ty x)).values ≤ f) × (f < element_count (type_at s.shape (s.line.ty x)))
  pointer_at_field f k =
      let e = pointer_kind (field_kind (type_at s.shape (s.line.ty x)) f) (subst IsPointer (kind_there f) k) in
      pointer_field (type_at s.shape (s.line.ty x)) f e.0 e.1

  pub pointer_there : (f : ℕ) → IsPointer (kind_in s.shape (heap_at s.shape s.line p.stamp.0) (s.line.name r) f) → pointer_in (heap_at s.shape s.line p.stamp.0) (s.line.name r) f ≡ denoted s.line.name (s.line.holds x f p.stamp.0)
  pointer_there f k =
      let at = pointer_at_field f k in
      let many = length-listed (type_at s.shape (s.line.ty x)).values (λ g. number (s.line.holds x g p.stamp.0)) in
      ap (pointer_from f) shown_there
      ∙ ap (λ n. get_or (record_at s.shape s.line x p.stamp.0).pointers (f - n) None) many
      ∙ get_or-listed (length (type_at s.shape (s.line.ty x)).targets) (λ k. denoted s.line.name (s.line.holds x ((type_at s.shape (s.line.ty x)).values + k) p.stamp.0)) (f - (type_at s.shape (s.line.ty x)).values) None (omega (arith, at.0, at.1))
      ∙ ap (λ k. denoted s.line.name (s.line.holds x k p.stamp.0)) (let e : (type_at s.shape (s.line.ty x)).values + (f - (type_at s.shape (s.line.ty x)).values) ≡ f = omega (arith, at.0) in e)

  -- a field of a kind is one of the fields
  pub field_there : (f : ℕ) (k : Kind) → kind_in s.shape (heap_at s.shape s.line p.stamp.0) (s.line.name r) f ≡ Some k → f < element_count (type_at s.shape (s.line.ty x))
  field_there f Int e = let v = value_below (type_at s.shape (s.line.ty x)) f (sym (kind_there f) ∙ e) in omega (arith, v)
  field_there f (Pointer ty) e = (pointer_field (type_at s.shape (s.line.ty x)) f ty (sym (kind_there f) ∙ e)).1

  -- what a field holds lives there
  pub target_there : (f y : ℕ) → s.line.holds x f p.stamp.0 ≡ Target y → IsLive s.line y p.stamp.0
  target_there f y e =
      let most = at_most s p l.0 in
      let v = h.line.lives x f p.stamp.0 y most c e in
      ⊎_elim
      (λ (early : p.stamp.0 < stamp s). let d = h.line.segments x f p.stamp.0 y early c e in record { there = d.there; made = v.1; begun = d.begun })
      (λ (late : stamp s ≤ p.stamp.0).
      let n : p.stamp.0 ≡ stamp s = omega (arith, late, most) in
      let d = h.line.newest x f y (covers_last s.shape (stamp s) s.line x h.line (subst (Covers s.line x) n c)) (ap (s.line.holds x f) (sym n) ∙ e) in
      record { there = d.0; made = v.1; begun = omega (arith, h.line.first y d.0, n) })
      (cases_lt p.stamp.0 (stamp s))

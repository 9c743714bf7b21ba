-- What is read of a store.
use Rattle.std.proofs.Common.{◌≡◌, ℕ, ◌+◌, ◌-◌, length, Some, None, pos, refl, sym, ap, ◌∙◌, arith, get_or}
use Rattle.std.specs.Option.{option_map}
use Rattle.pst_base.proofs.Below.{get_or-listed, length-listed}
use Rattle.pst_base.specs.Shape.{type_at}
use Rattle.pst_base.specs.Heap.{Rec, type_in, kind_from, value_from, pointer_from}
use Rattle.pst_order.specs.Places.{rank}
use Rattle.pst_rows.specs.Contents.{number}
use Rattle.pst_store_meaning.specs.Arena.{heap_at, record_at, denoted}
use Rattle.pst_store_meaning.specs.Store.{arena, begin_of}
use Rattle.pst_store_meaning.specs.Steps.{KindLaw, ValueReadLaw, PointerReadLaw, RootLaw}
use Rattle.pst_store_meaning.proofs.HeapLaws.{heap_has}
use Rattle.pst_store_meaning.proofs.RecordLaws.{target_alive}
use Rattle.pst_store_meaning.proofs.Written.{pointer_field}
use Rattle.pst_store_meaning.proofs.Concrete.{drawn}
use Rattle.pst_store_meaning.proofs.Places.{begins}

pub kind_law : KindLaw
kind_law s p x f h i a =
    let t : type_in (heap_at s.shape (arena s) (begin_of s p)) ((arena s).name x) ≡ Some ((arena s).ty x) =
    ap (option_map (λ (r : Rec). r.ty)) (heap_has s.shape (arena s) (begin_of s p) h.arena.chained x a) in
    (t, ap (kind_from s.shape f) t)

pub value_read_law : ValueReadLaw
value_read_law s p x f h i a l =
    ap (value_from f) (heap_has s.shape (arena s) (begin_of s p) h.arena.chained x a)
    ∙ get_or-listed (type_at s.shape ((arena s).ty x)).values (λ g. number ((arena s).chart.holds x g (begin_of s p))) f (pos 0) l

pub pointer_read_law : PointerReadLaw
pointer_read_law s p x f t h i a k =
    let b : ℕ = begin_of s p in
    let q = pointer_field (type_at s.shape ((arena s).ty x)) f t k in
    let v : ℕ = (type_at s.shape ((arena s).ty x)).values in
    let len : length (record_at s.shape (arena s) x (begin_of s p)).values ≡ (type_at s.shape ((arena s).ty x)).values =
    length-listed (type_at s.shape ((arena s).ty x)).values (λ g. number ((arena s).chart.holds x g (begin_of s p))) in
    let at : (type_at s.shape ((arena s).ty x)).values + (f - (type_at s.shape ((arena s).ty x)).values) ≡ f = omega (arith, q.0) in (
      ap (pointer_from f) (heap_has s.shape (arena s) (begin_of s p) h.arena.chained x a)
          ∙ ap (λ (m : ℕ). get_or (record_at s.shape (arena s) x (begin_of s p)).pointers (f - m) None) len
          ∙ get_or-listed (length (type_at s.shape ((arena s).ty x)).targets)
          (λ k. denoted (arena s).name ((arena s).chart.holds x ((type_at s.shape ((arena s).ty x)).values + k) (begin_of s p)))
          (f - (type_at s.shape ((arena s).ty x)).values) None (omega (arith, q.0, q.1))
          ∙ ap (λ (g : ℕ). denoted (arena s).name ((arena s).chart.holds x g (begin_of s p))) at,
      λ y e. let j = target_alive (arena s) x f (begin_of s p) y (drawn (rank s.places) (length s.places) s.nodes h.rows) h.arena.mirrored e in
          record { there = j.there; begun = j.low; covering = (y, j, refl) },
    )

pub root_law : RootLaw
root_law s p h i =
    let r = h.arena.root (begin_of s p) (begins s h.nested p i) in
    (record { there = h.rooted.some; begun = omega (arith, h.rooted.begins); covering = (r.0, r.1, r.2 ∙ sym h.rooted.name) }, h.rooted.name)

use Rattle.std.proofs.Common.{◌≡◌, ◌≢◌, ℕ, zero, suc, ◌+◌, ◌<◌, ◌≤◌, List, [], ◌∷◌, ◌++◌, length, get_or, ap, ◌∙◌, ⊎_elim, arith, length-append}
use Rattle.std.specs.Prelude.{All}
use Rattle.std.proofs.lemmas.Bool.{cases_lt}
use Rattle.std.proofs.lemmas.List.Elements.{All-push}
use Rattle.pst_base.specs.declared.shape.TypeShape.{TypeShape}
use Rattle.pst_order.specs.declared.order.Pos.{Pos}
use Rattle.pst_order.specs.Places.{rank, IsIn, IsInsertedAfter, AreRanked}
use Rattle.pst_order.proofs.RankLemmas.{ranks_law, ranks_rise_law}
use Rattle.pst_rows_bed.specs.declared.bed.Written.{Written}
use Rattle.pst_rows.specs.Rows.{IsInLife}
use Rattle.pst_rows.specs.Changes.{slot_count, IsNewRow}
use Rattle.pst_rows.proofs.RowLemmas.{insertions_keep_rows}
use Rattle.pst_rows_bed.specs.declared.bed.Bed.{Bed}
use Rattle.pst_rows_bed.specs.Beds.{IsReady}

pub new_ready : (old new : List ℕ) (lo hi : Pos) (shape : TypeShape) (bed : Bed) → length old ≡ 1 → IsIn old lo.0 → rank old lo.0 ≡ 0
    → IsInsertedAfter old new lo.0 hi.0 → IsNewRow shape lo hi bed.row → slot_count shape ≡ 5 → length bed.base.items ≡ 5 → bed.places.items ≡ lo ∷ []
    → bed.stamps.items ≡ [] → IsReady new bed × (length new ≡ 2)
new_ready old new lo hi shape bed one there first ins row five bases places stamps =
    let k : AreRanked old new lo.0 hi.0 = ranks_law old new lo.0 hi.0 there.there ins in
    let low : rank new lo.0 ≡ 0 = k.early lo.0 (omega arith) ∙ first in
    let high : rank new hi.0 ≡ 1 = k.new_is ∙ ap suc first in
    let count : length new ≡ 2 = k.count ∙ ap suc one in
    let alive : IsInLife new bed.row lo.0 = record { after = rw row.lo_is (omega arith); before = rw row.hi_is (omega arith) } in (
      record {
        row_is = row.row_is (rank new) (length new) (omega arith) (omega arith);
        width = row.width ∙ five;
        bases = bases;
        some = rw places (omega arith);
        alive = rw places (λ (i : ℕ) (d : Pos) (l : i < 1). only i d l alive);
        known = rw stamps (λ (i : ℕ) (d : Written) (l : i < 0). absurd (omega arith));
      },
      count,
    )
  where
    only : (i : ℕ) (d : Pos) → i < 1 → IsInLife new bed.row lo.0 → IsInLife new bed.row (get_or (lo ∷ []) i d).0
    only zero d l a = a
    only (suc i) d l a = absurd (omega arith)

pub ready_inserted : (old new : List ℕ) (bed bed' : Bed) (z : Pos) → IsReady old bed → IsInsertedAfter old new bed.row.lo.0 z.0 → bed'.row ≡ bed.row
    → bed'.base ≡ bed.base → bed'.stamps ≡ bed.stamps → bed'.places.items ≡ bed.places.items ++ z ∷ [] →
    IsReady new bed' × (rank new z.0 ≡ rank new bed.row.lo.0 + 1) × (length new ≡ length old + 1)
ready_inserted old new bed bed' z h ins row base stamps places =
    let lo : ℕ = bed.row.lo.0 in
    let hi : ℕ = bed.row.hi.0 in
    let life : rank old lo < rank old hi = h.row_is.life in
    let there : rank old hi < length old = h.row_is.there in
    let k : AreRanked old new lo z.0 = ranks_law old new lo z.0 (omega arith) ins in
    let rise : (a b : ℕ) → rank old a < rank old b → rank old b < length old → rank new a < rank new b = ranks_rise_law old new lo z.0 (omega arith) ins in
    let fresh : rank old z.0 ≡ length old = ins.fresh in
    let low : rank new lo ≡ rank old lo = k.early lo (omega arith) in
    let other : hi ≢ z.0 = λ (e : hi ≡ z.0). let e' : rank old hi ≡ rank old z.0 = ap (rank old) e in omega arith in
    let high : rank new hi ≡ suc (rank old hi) = k.late hi other life in
    let one : IsInLife new bed.row z.0 = record { after = omega (arith, k.new_is); before = omega (arith, k.new_is) } in
    let all : All (λ (p : Pos). IsInLife new bed.row p.0) bed.places.items =
    λ (i : ℕ) (d : Pos) (l : i < length bed.places.items). kept (get_or bed.places.items i d).0 k rise life there (h.alive i d l) in
    let all' : All (λ (p : Pos). IsInLife new bed.row p.0) (bed.places.items ++ z ∷ []) = All-push (λ (p : Pos). IsInLife new bed.row p.0) bed.places.items z all one in (
      record {
        row_is = rw row (insertions_keep_rows old new lo z.0 (omega arith) ins bed.row h.row_is);
        width = rw row h.width;
        bases = rw base h.bases;
        some = rw (places, length-append) (omega arith);
        alive = rw (row, places) all';
        known = rw stamps (λ (i : ℕ) (d : Written) (l : i < length bed.stamps.items). k.stays (get_or bed.stamps.items i d).place.0 (h.known i d l));
      },
      omega (arith, k.new_is),
      omega (arith, k.count),
    )
  where
    kept : (p : ℕ) → AreRanked old new bed.row.lo.0 z.0 → ((a b : ℕ) → rank old a < rank old b → rank old b < length old → rank new a < rank new b)
        → rank old bed.row.lo.0 < rank old bed.row.hi.0 → rank old bed.row.hi.0 < length old → IsInLife old bed.row p → IsInLife new bed.row p
    kept p k rise life there a = record {
      after = ⊎_elim
          (λ (l : rank old bed.row.lo.0 < rank old p). omega (arith, rise bed.row.lo.0 p l (omega (arith, a.before))))
          (λ (l : rank old p ≤ rank old bed.row.lo.0). omega (arith, k.early p l, k.early bed.row.lo.0 (omega arith), a.after))
          (cases_lt (rank old bed.row.lo.0) (rank old p));
      before = rise p bed.row.hi.0 a.before there;
    }

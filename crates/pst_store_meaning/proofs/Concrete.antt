-- From lists of nodes and places to what laws see of them.
use Rattle.std.proofs.Common.{◌≡◌, ◌≢◌, ℕ, zero, suc, ◌<◌, ◌≤◌, true, false, ◌&&◌, cond, List, [], ◌∷◌, length, refl, sym, ap, ◌∙◌, ⊎_elim, arith, ltb, leb}
use Rattle.std.specs.Prelude.{map}
use Rattle.std.proofs.lemmas.Bool.{cases_lt, cases_Bool, lt-ltb, ltb-true}
use Rattle.pst_rows.specs.declared.content.Content.TheVariants.{Null}
use Rattle.pst_rows.specs.declared.content.Stamp.{Stamp}
use Rattle.pst_rows.specs.Values.{RowValue}
use Rattle.pst_order.specs.Places.{rank}
use Rattle.pst_rows.specs.Values.{AreStamps}
use Rattle.pst_mirror.specs.Charts.{rows_hold, AllRows, is_alive}
use Rattle.pst_rows.specs.Values.{content_in}
use Rattle.pst_mirror.specs.Fork.{shift, IsInsertedAfter, Apart, RowsApart}
use Rattle.pst_mirror.proofs.ChartLemmas.{charts_steady}
use Rattle.pst_mirror.proofs.ForkLemmas.{insert_law}
use Rattle.pst_store_meaning.specs.Arena.{IsDrawn}
use Rattle.pst_store_meaning.specs.Changes.{IsInserted}
use Rattle.pst_store_meaning.specs.Store.{Node, of_node, arena_of}

abbrev pub rows : List Node → List RowValue
rows nodes = map (λ n. n.row) nodes

pub length-rows : (nodes : List Node) → length (rows nodes) ≡ length nodes
length-rows [] = refl
length-rows (n ∷ ns) = ap suc (length-rows ns)

-- ---- an arena of rows

outside_rows : (r : ℕ → ℕ) (nodes : List Node) (i g n : ℕ) → (ltb i (length nodes) &&
    (leb (of_node (λ n. r n.row.lo.0) 0 nodes i) n && ltb n (of_node (λ n. r n.row.hi.0) 0 nodes i))) ≡ false → rows_hold r (rows nodes) i g n ≡ Null
outside_rows r [] i g n e = refl
outside_rows r (m ∷ ms) zero g n e =
    let one : ltb 0 (suc (length ms)) ≡ true = lt-ltb 0 (suc (length ms)) (omega arith) in
    let dead : is_alive r m.row n ≡ false = rw one at e in
    ap (λ b. cond b (content_in r m.row g n) Null) dead
outside_rows r (m ∷ ms) (suc i) g n e = outside_rows r ms i g n (ap (λ b. b && (leb (of_node (λ n. r n.row.lo.0) 0 ms i) n && ltb n (of_node (λ n. r n.row.hi.0) 0 ms i))) (same i (length ms)) ∙ e)
  where
    same : (i k : ℕ) → ltb i k ≡ ltb (suc i) (suc k)
    same i k = ⊎_elim (λ (l : i < k). lt-ltb i k l ∙ sym (lt-ltb (suc i) (suc k) (omega arith)))
        (λ (l : k ≤ i). none i k l ∙ sym (none (suc i) (suc k) (omega arith)))
        (cases_lt i k)
      where
        none : (a b : ℕ) → b ≤ a → ltb a b ≡ false
        none a b l = ⊎_elim (λ (e : ltb a b ≡ true). absurd (let m = ltb-true a b e in omega arith)) (λ (e : ltb a b ≡ false). e) (cases_Bool (ltb a b))

pub drawn : (r : ℕ → ℕ) (places : ℕ) (nodes : List Node) → AllRows r places (rows nodes) → IsDrawn (arena_of r nodes)
drawn r places nodes h = record {
  steady = charts_steady r places (rows nodes) h;
  outside = λ i g n e. outside_rows r nodes i g n e;
}

-- ---- a place that no row knows

module _ (qs : List ℕ) (z : ℕ) (fresh : rank qs z ≡ length qs) where
  known : (p : ℕ) → rank qs p < length qs → p ≢ z
  known p l e = let same : rank qs p ≡ rank qs z = ap (rank qs) e in absurd (omega arith)

  stamps_apart : (lo hi width : ℕ) (es : List Stamp) → hi < length qs → AreStamps (rank qs) lo hi width es → Apart z es
  stamps_apart lo hi width [] l h = tt
  stamps_apart lo hi width (e ∷ es) l h = (known e.place.0 (omega (arith, h.2)), stamps_apart lo hi width es l h.4)

  pub rows_apart : (rs : List RowValue) → AllRows (rank qs) (length qs) rs → RowsApart z rs
  rows_apart [] h = tt
  rows_apart (row ∷ rs) h = (
    known row.lo.0 (omega (arith, h.0.life, h.0.there)),
    known row.hi.0 h.0.there,
    stamps_apart (rank qs row.lo.0) (rank qs row.hi.0) (length row.slots) row.stamps h.0.there h.0.stamps,
    rows_apart rs h.1,
  )

-- ---- a place that comes in

module _ (r r' : ℕ → ℕ) (k z : ℕ) (ins : IsInsertedAfter r r' k z) where
  lo_shift : (nodes : List Node) → RowsApart z (rows nodes) → (i : ℕ) → i < length nodes → of_node (λ n. r' n.row.lo.0) 0 nodes i ≡ shift k (of_node (λ n. r n.row.lo.0) 0 nodes i)
  lo_shift [] a i l = absurd (omega arith)
  lo_shift (n ∷ ns) a zero l = ins.old n.row.lo.0 a.0
  lo_shift (n ∷ ns) a (suc i) l = lo_shift ns a.3 i (omega arith)

  hi_shift : (nodes : List Node) → RowsApart z (rows nodes) → (i : ℕ) → i < length nodes → of_node (λ n. r' n.row.hi.0) 0 nodes i ≡ shift k (of_node (λ n. r n.row.hi.0) 0 nodes i)
  hi_shift [] a i l = absurd (omega arith)
  hi_shift (n ∷ ns) a zero l = ins.old n.row.hi.0 a.1
  hi_shift (n ∷ ns) a (suc i) l = hi_shift ns a.3 i (omega arith)

  pub arena_inserted : (nodes : List Node) → RowsApart z (rows nodes) → IsInserted (arena_of r nodes) (arena_of r' nodes) k
  arena_inserted nodes a = record {
    count = refl;
    name = λ i. refl;
    ty = λ i. refl;
    lo = λ i l. lo_shift nodes a i l;
    hi = λ i l. hi_shift nodes a i l;
    later = λ i. refl;
    chart = insert_law r r' k z (rows nodes) ins a;
  }

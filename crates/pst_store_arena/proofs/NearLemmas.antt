-- The root record's node at a place, where a node of it is known to live there.
use Rattle.std.proofs.Common.{◌≡◌, ℕ, ◌<◌, ◌≤◌, List, Some, length, ap, ◌∙◌, subst, sym, arith}
use Rattle.pst_order.specs.declared.order.Pos.{Pos}
use Rattle.pst_order.specs.Places.{rank, IsIn}
use Rattle.pst_rows.specs.declared.row.Row.{Row}
use Rattle.pst_rows.specs.Rows.{IsRow}
use Rattle.pst_nodes.specs.declared.node.Node.{Node}
use Rattle.pst_mirror.specs.Lives.{AreChained}
use Rattle.pst_nodes.specs.Arena.{AreRows, frame_at, row_at, lives, lo_at, hi_at}
use Rattle.pst_nodes.proofs.NodeLemmas.{row_in, lo_is, hi_is, hi_in, some_row}
use Rattle.pst_store_arena.specs.Kept.{IsRootAt, IsRootBy}

-- the places of a row that was read are those of its node
pub read_lo : (ns : List Node) (i : ℕ) (row : Row) (lo : Pos) → i < length ns → lo ≡ row.lo → row ≡ row_at ns i row → lo.0 ≡ lo_at ns i
read_lo ns i row lo l e r = ap (λ (p : Pos). p.0) e ∙ ap (λ (w : Row). w.lo.0) r ∙ lo_is ns i row l

pub read_hi : (ns : List Node) (i : ℕ) (row : Row) (hi : Pos) → i < length ns → hi ≡ row.hi → row ≡ row_at ns i row → hi.0 ≡ hi_at ns i
read_hi ns i row hi l e r = ap (λ (p : Pos). p.0) e ∙ ap (λ (w : Row). w.hi.0) r ∙ hi_is ns i row l

module _ (qs : List ℕ) (ns : List Node) (i p : ℕ) (l : i < length ns) (all : AreRows qs ns) where
  pub begin_in : p ≡ lo_at ns i → IsIn qs p
  begin_in e =
      let d : Row = some_row ns i l in
      let h : IsRow (rank qs) (length qs) (row_at ns i d) = row_in qs ns i d l all in
      let low : rank qs (row_at ns i d).lo.0 < length qs = omega (arith, h.life, h.there) in
      record { there = subst (λ (q : ℕ). rank qs q < length qs) (lo_is ns i d l ∙ sym e) low }

  pub end_in : p ≡ hi_at ns i → IsIn qs p
  end_in e = record { there = subst (λ (q : ℕ). rank qs q < length qs) (sym e) (hi_in qs ns i l all) }

-- the node behind one of the root record that has ended is one of the root record, and has begun
pub by_later : (qs : List ℕ) (ns : List Node) (i j n : ℕ) → AreChained (lives qs ns) → IsRootBy qs ns i n → rank qs (hi_at ns i) ≤ n → (frame_at ns i).later ≡ Some j → IsRootBy qs ns j n
by_later qs ns i j n chained root ended later =
    let next = chained.next i j root.there later in
    record {
      there = next.0;
      begun = subst (λ (p : ℕ). p ≤ n) (sym next.2) ended;
      root = next.1 ∙ root.root;
    }

-- a node of the root record that has begun and has not ended lives there
pub root_lives : (qs : List ℕ) (ns : List Node) (i n : ℕ) → IsRootBy qs ns i n → n < rank qs (hi_at ns i) → IsRootAt qs ns i n
root_lives qs ns i n root before = record {
  inside = record { there = root.there; low = root.begun; high = before };
  root = root.root;
}

use Rattle.std.proofs.Common.{◌≡◌, ℕ, suc, ◌<◌, List, length, Some, sym, ap, ◌∙◌, subst, arith}
use Rattle.pst_base.specs.declared.names.TypeNo.{TypeNo}
use Rattle.pst_base.specs.declared.shape.TypeShape.{TypeShape}
use Rattle.pst_order.specs.Places.{rank}
use Rattle.pst_mirror.specs.Mirror.{Chart, IsSplitWhole}
use Rattle.pst_nodes.specs.declared.node.Node.{Node}
use Rattle.pst_nodes.specs.Arena.{frame_at, chart}
use Rattle.pst_repair.specs.Split.{IsSplit}
use Rattle.pst_store_meaning.specs.Arena.{Arena}
use Rattle.pst_store_meaning.specs.Changes.{IsSplit as IsSplitSeen}
use Rattle.pst_store_meaning.specs.Store.{arena_of}
use Rattle.pst_repair.specs.Seen.{seen, SplitsAreSteps}
use Rattle.pst_repair.proofs.SeenLemmas.{seen_chart, seen_all, seen_count, seen_name, seen_ty, seen_later, seen_lo, seen_hi, seen_potential, seen_wide}

module _ (types : List TypeShape) (qs : List ℕ) (old new : List Node) (x z n : ℕ) (s : IsSplit types qs old new x z n) where
  abbrev r : ℕ → ℕ
  r = rank qs

  abbrev a : Arena
  a = arena_of r (seen old)

  abbrev b : Arena
  b = arena_of r (seen new)

  more : length new ≡ suc (length old)
  more = s.one_more ∙ omega arith

  -- a node of what is seen is there
  there : (i : ℕ) → i < a.count → i < length old
  there i l = omega (arith, seen_count old)

  here : (i : ℕ) → i < a.count → i < length new
  here i l = omega (arith, seen_count old, more)

  last : a.count ≡ length old
  last = seen_count old

  z_there : length old < length new
  z_there = omega (arith, more)

  same_type : (i j : ℕ) → (frame_at new i).ty ≡ (frame_at old j).ty → b.ty i ≡ a.ty j
  same_type i j e = let f : ℕ → TypeNo = λ k. record { 0 = k } in ap f (seen_ty new i ∙ e ∙ sym (seen_ty old j))

  seen_split : IsSplitSeen a b x n
  seen_split = record {
    life = record {
      there = omega (arith, s.life.there, seen_count old);
      low = rw (seen_lo r old x s.life.there) s.life.low;
      high = rw (seen_hi r old x s.life.there) s.life.high;
      count = seen_count new ∙ more ∙ ap suc (sym last);
      name = λ i l. seen_name new i ∙ s.life.name i (there i l) ∙ sym (seen_name old i);
      lo = λ i l. seen_lo r new i (here i l) ∙ s.life.lo i (there i l) ∙ sym (seen_lo r old i (there i l));
      hi = λ i l ne. seen_hi r new i (here i l) ∙ s.life.hi i (there i l) ne ∙ sym (seen_hi r old i (there i l));
      later = λ i l ne. seen_later new i ∙ s.life.later i (there i l) ne ∙ sym (seen_later old i);
      hi_x = seen_hi r new x (omega (arith, s.life.there, more)) ∙ s.life.hi_x;
      later_x = seen_later new x ∙ s.life.later_x ∙ ap Some (sym last);
      name_z = ap b.name last ∙ seen_name new (length old) ∙ s.life.name_z ∙ sym (seen_name old x);
      lo_z = ap b.lo last ∙ seen_lo r new (length old) z_there ∙ s.life.lo_z;
      hi_z = ap b.hi last ∙ seen_hi r new (length old) z_there ∙ s.life.hi_z ∙ sym (seen_hi r old x s.life.there);
      later_z = ap b.later last ∙ seen_later new (length old) ∙ s.life.later_z ∙ sym (seen_later old x);
    };
    ty = λ i l. same_type i i (s.same_type i (there i l));
    ty_z = ap b.ty last ∙ same_type (length old) x (ap (λ (k : ℕ). (frame_at new k).ty) (sym s.is_last) ∙ s.new_type);
    whole = subst (λ (k : ℕ). IsSplitWhole a.chart b.chart x k n) (s.is_last ∙ sym last)
        (subst (λ (w : Chart). IsSplitWhole a.chart w x z n) (sym (seen_chart qs new)) (subst (λ (w : Chart). IsSplitWhole w (chart qs new) x z n) (sym (seen_chart qs old)) s.whole));
  }

pub splits_are_steps : SplitsAreSteps
splits_are_steps types qs old new x z n s sound = record {
  node = x;
  position = n;
  rows = seen_all qs new sound.rows;
  wide = seen_wide types new sound.typed;
  split = seen_split types qs old new x z n s;
  falls = rw (seen_potential types new, seen_potential types old) s.potential;
}

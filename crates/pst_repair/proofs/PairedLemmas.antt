use Rattle.std.proofs.Common.{ℕ, ◌<◌, ◌≤◌, List, [], ◌∷◌, length, map, sym, ◌∙◌, subst, arith}
use Rattle.pst_base.specs.declared.shape.TypeShape.{TypeShape}
use Rattle.pst_order.specs.Places.{rank}
use Rattle.pst_rows.specs.declared.row.Row.{Row}
use Rattle.pst_rows.specs.Rows.{stamped_count}
use Rattle.pst_mirror.specs.Mirror.{Chart, IsLinked, IsUnlinked}
use Rattle.pst_mirror.specs.Potential.{Load, HasGrown}
use Rattle.pst_nodes.specs.declared.node.Node.{Node}
use Rattle.pst_nodes.specs.Arena.{row_at, chart, IsTyped}
use Rattle.pst_nodes.specs.Changes.{AreTouched}
use Rattle.pst_store_meaning.specs.Arena.{Arena}
use Rattle.pst_store_meaning.specs.Store.{load_of, arena_of}
use Rattle.pst_store_meaning.specs.Changes.{HasSameNodes}
use Rattle.pst_repair.specs.Seen.{seen}
use Rattle.pst_repair.specs.Paired.{IsPairSeen, LinksAreSeen, UnlinksAreSeen}
use Rattle.pst_repair.proofs.SeenLemmas.{seen_chart, seen_wide}
use Rattle.pst_repair.proofs.WrittenLemmas.{touched_nodes, touched_wide, touched_grown, touched_few}

same_on : (a b c : Arena) → HasSameNodes a b → HasSameNodes b c → HasSameNodes a c
same_on a b c p q = record {
  count = q.count ∙ p.count;
  name = λ i. q.name i ∙ p.name i;
  ty = λ i. q.ty i ∙ p.ty i;
  lo = λ i. q.lo i ∙ p.lo i;
  hi = λ i. q.hi i ∙ p.hi i;
  later = λ i. q.later i ∙ p.later i;
}

grown_on : (xs ys zs : List Load) → HasGrown xs ys → HasGrown ys zs → HasGrown xs zs
grown_on [] [] zs p q = q
grown_on [] (y ∷ ys) zs p q = absurd p
grown_on (x ∷ xs) [] zs p q = absurd p
grown_on (x ∷ xs) (y ∷ ys) [] p q = absurd q
grown_on (x ∷ xs) (y ∷ ys) (z ∷ zs) p q = (p.0 ∙ q.0, omega (arith, p.1, q.1), grown_on xs ys zs p.2 q.2)

some_row : (ns : List Node) (i : ℕ) → i < length ns → Row
some_row [] i l = absurd (omega arith)
some_row (n ∷ ns) i l = n.row

module _ (types : List TypeShape) (qs : List ℕ) (old new : List Node) (x f y s b : ℕ) (there : x < length old) (t : AreTouched qs old new x f y s b) where
  d : Row
  d = some_row old x there

  pub pair_nodes : HasSameNodes (arena_of (rank qs) (seen old)) (arena_of (rank qs) (seen new))
  pair_nodes = same_on (arena_of (rank qs) (seen old)) (arena_of (rank qs) (seen t.mid)) (arena_of (rank qs) (seen new))
      (touched_nodes types qs 2 old t.mid x t.first) (touched_nodes types qs 2 t.mid new y t.second)

  pub pair_seen : ((i : ℕ) → i < length old → IsTyped types old i) → IsPairSeen types (seen old) (seen new)
  pair_seen typed =
      let up : stamped_count (row_at old x d) ≤ stamped_count (row_at t.mid x d) = omega (arith, t.first_stamped d) in
      let up' : stamped_count (row_at t.mid y d) ≤ stamped_count (row_at new y d) = omega (arith, t.second_stamped d) in
      record {
        wide = seen_wide types new (touched_wide types qs 2 t.mid new y t.second (touched_wide types qs 2 old t.mid x t.first typed));
        grown = record {
          each = grown_on (map (load_of types) (seen old)) (map (load_of types) (seen t.mid)) (map (load_of types) (seen new))
              (touched_grown types qs 2 old t.mid x t.first d up) (touched_grown types qs 2 t.mid new y t.second d up');
          few = omega (arith, touched_few types qs 2 old t.mid x t.first d up, touched_few types qs 2 t.mid new y t.second d up');
        };
      }

pub links_are_seen : LinksAreSeen
links_are_seen types qs old new x f y s b l m h t typed = (
  record {
    nodes = pair_nodes types qs old new x f y s b l t;
    linked = subst (λ (c : Chart). IsLinked (arena_of (rank qs) (seen old)).chart c x f y s b) (sym (seen_chart qs new))
        (subst (λ (c : Chart). IsLinked c (chart qs new) x f y s b) (sym (seen_chart qs old)) h);
  },
  pair_seen types qs old new x f y s b l t typed,
)

pub unlinks_are_seen : UnlinksAreSeen
unlinks_are_seen types qs old new x f y s b l m h t typed = (
  record {
    nodes = pair_nodes types qs old new x f y s b l t;
    unlinked = subst (λ (c : Chart). IsUnlinked (arena_of (rank qs) (seen old)).chart c x f y s b) (sym (seen_chart qs new))
        (subst (λ (c : Chart). IsUnlinked c (chart qs new) x f y s b) (sym (seen_chart qs old)) h);
  },
  pair_seen types qs old new x f y s b l t typed,
)

-- What writes stamp.
use Rattle.std.proofs.Common.{◌≡◌, ℕ, List, [], ◌∷◌, map, refl, sym, subst, arith}
use Rattle.pst_mirror.specs.Potential.{Load, HasGrown}
use Rattle.pst_store_meaning.specs.Store.{Node, Noted, Stored, load_of}
use Rattle.pst_store_meaning.specs.Steps.{with_nodes}
use Rattle.pst_store.specs.Calls.{IsSplitUp, IsStamped, StampsAtMost}

same_loads : (xs : List Load) → HasGrown xs xs
same_loads [] = tt
same_loads (x ∷ xs) = (refl, omega arith, same_loads xs)

pub stamped_nothing : (k : ℕ) (s : Stored) → IsStamped k s s
stamped_nothing k s = record {
  shape = refl;
  places = refl;
  grown = record { each = same_loads (map (load_of s.shape) s.nodes); few = omega arith };
}

-- nothing was stamped where memory ran out
pub stamped_failed : (k : ℕ) (s g : Stored) (nodes : List Node) (noted : Noted) → s ≡ g → nodes ≡ s.nodes → IsStamped k g (with_nodes s nodes noted s.counts)
stamped_failed k s g nodes noted e a =
    subst (λ (g : Stored). IsStamped k g (with_nodes s nodes noted s.counts)) e
    (subst (λ (ns : List Node). IsStamped k s (with_nodes s ns noted s.counts)) (sym a)
    (record { shape = refl; places = refl; grown = (stamped_nothing k s).grown }))

-- a write that only split
pub only_split : (k : ℕ) (old new : Stored) → IsSplitUp old new → StampsAtMost k old new
only_split k old new b = record {
  ready = new;
  written = new;
  before = b;
  stamped = stamped_nothing k new;
  after = record { shape = refl; places = refl; repaired = record { count = 0; splits = refl } };
}

-- What packing shows is what the store shows.
use Rattle.std.proofs.Common.{◌≡◌, ℕ, ◌<◌, List, length, map, Option, Some, None, Result, Ok, Err, ap, arith, IfSome}
use Rattle.std.specs.Prelude.{slice_get, IsSomeAnd, IfOk, ◌^◌}
use Rattle.std.proofs.lemmas.List.{length-map}
use Rattle.pst_store_meaning.specs.Store.{Node, Stored, IsStore, arena}
use Rattle.pst_image_rules.specs.Rules.{IsJudged}
use Rattle.pst_store.specs.Whole.{IsSmall, nodes_in, state_in}
use Rattle.pst_image_form.specs.Bytes.{FitsCounts}
use Rattle.pst_image_meaning.specs.Narrow.{IsNarrow}
use Rattle.pst_image_meaning.proofs.Narrow.{narrow_law}
use Rattle.pst_image_meaning.specs.Parts.{parts_of}
use Rattle.pst_image_meaning.specs.Left.{IsLeftStore, AreNumbers}
use Rattle.pst_image_meaning.proofs.All.{rules_law}
use Rattle.pst_image_meaning.specs.Denoted.{AreShort, arena_in}
use Rattle.pst_image_meaning.proofs.Shown.{shown_denotes}

pub rules_hold : (o : Option Stored) (text : List ℕ) (next budget : ℕ) → IfSome o IsStore → IsSmall o → IsSomeAnd o (λ s. IsLeftStore s next) → AreNumbers next budget
    → IsSomeAnd o (λ s. IsJudged s.shape (parts_of s text next budget) None)
rules_hold None text next budget h q left n = left
rules_hold (Some s) text next budget h q left n = rules_law s text next budget h q.small left n

-- what is packed denotes the nodes of the store
pub denotes_its_nodes : {A E : Type 0} (r : Result A E) (o : Option Stored) (text : List ℕ) (next budget : ℕ) → IfSome o IsStore → IsSomeAnd o AreShort
    → IfOk r (λ _. IsSomeAnd o (λ s. arena_in s.shape (parts_of s text next budget) ≡ arena s))
denotes_its_nodes (Err e) o text next budget h short = tt
denotes_its_nodes (Ok x) None text next budget h short = short
denotes_its_nodes (Ok x) (Some s) text next budget h short = shown_denotes s text next budget h short

-- the numbers in the nodes that are packed are small
pub narrow_in : (o : Option Stored) (next : ℕ) → IfSome o IsStore → IsSomeAnd o (λ s. IsLeftStore s next) → (i : ℕ) (n : Node) → slice_get (nodes_in o) i ≡ Some n → IsNarrow n
narrow_in None next h left i n e = absurd left
narrow_in (Some s) next h left i n e = narrow_law s h left.counts i n e

-- there are few versions and nodes, and the counts are small
pub record AreFew (o : Option Stored) : Type 0 where
  pub counts : FitsCounts (state_in o).counts
  pub versions : length (state_in o).versions < 2 ^ 32
  pub nodes : length (nodes_in o) < 2 ^ 64

pub few_in : (o : Option Stored) (next : ℕ) → IfSome o IsStore → IsSomeAnd o (λ s. IsLeftStore s next) → AreFew o
few_in None next h left = absurd left
few_in (Some s) next h left = record {
  counts = record { records = omega (arith, left.counts.records); pointer_writes = omega (arith, left.counts.pointer_writes); value_writes = omega (arith, left.counts.value_writes) };
  versions = h.versions.tree.few;
  nodes = omega (arith, h.bounded, left.counts.records, left.counts.pointer_writes, left.counts.value_writes);
}

-- a list that was made of another one has no more items
pub few_by : {A B : Type 0} (f : A → B) (xs : List A) (ys : List B) (n : ℕ) → ys ≡ map f xs → length xs < n → length ys < n
few_by f xs ys n e l = omega (arith, ap length e, length-map xs f, l)

-- The rule of an image on the nodes of one record, said of an arena.
use Rattle.std.specs.Prelude.{◌≡◌, ◌⊎◌, ℕ, ◌<◌, ◌≤◌, Some, None}
use Rattle.pst_base.specs.Name.{root_name}
use Rattle.pst_store_meaning.specs.Arena.{Arena, IsIn, AreChained}
use Rattle.pst_store_meaning.specs.Store.{LivesOver}

-- node k is node i, or comes after it along `later`
pub data ComesAfter (w : Arena) (k : ℕ) : ℕ → Type 0 where
  Itself : ComesAfter w k k
  Beyond : (i j : ℕ) → w.later i ≡ Some j → ComesAfter w k j → ComesAfter w k i

-- The nodes of each record are one chain, each beginning where the one before it ends; that of the root record goes from position 0
-- to `end`, and no node goes beyond.
pub record AreRecordChains (w : Arena) (end : ℕ) : Type 0 where
  pub some : (i : ℕ) → i < w.count → w.lo i < w.hi i
  pub next : (i j : ℕ) → i < w.count → w.later i ≡ Some j → (j < w.count) × (w.name j ≡ w.name i) × (w.lo j ≡ w.hi i)
  pub one : (i j : ℕ) → i < w.count → j < w.count → w.name i ≡ w.name j → ComesAfter w j i ⊎ ComesAfter w i j
  pub first : (0 < w.count) × (w.name 0 ≡ root_name) × (w.lo 0 ≡ 0)
  pub last : (i : ℕ) → i < w.count → w.name i ≡ root_name → w.later i ≡ None → w.hi i ≡ end
  pub within : (i : ℕ) → i < w.count → w.hi i ≤ end

-- the first node and the last one of node i's record: no node stands before the first one, and none comes after the last one
pub record AreRecordEnds (w : Arena) (i first last : ℕ) : Type 0 where
  pub first_there : first < w.count
  pub first_of : w.name first ≡ w.name i
  pub first_is : (j : ℕ) → j < w.count → w.later j ≡ Some first → ⊥
  pub last_there : last < w.count
  pub last_of : w.name last ≡ w.name i
  pub last_is : w.later last ≡ None

-- what chains give: the nodes of a record cover its life, the root record lives everywhere, and a record lives from the beginning of
-- its first node up to the end of its last one
pub record ChainsGive (w : Arena) (end : ℕ) : Type 0 where
  pub chained : AreChained w
  pub root : (n : ℕ) → n < end → (i : ℕ) × IsIn w i n × (w.name i ≡ root_name)
  pub lives : (i first last : ℕ) → i < w.count → AreRecordEnds w i first last → LivesOver w i (w.lo first) (w.hi last)

-- The nodes of one record, one behind the other (the fat nodes of Driscoll, Sarnak, Sleator and Tarjan, split by node
-- copying): a number of one of them stands for the record, and leads to the node that lives at a position.
use Rattle.std.specs.Prelude.{◌≡◌, ◌≢◌, ℕ, suc, ◌<◌, ◌≤◌, Option, Some, None, ◌⊎◌, ◌↔◌}
use Rattle.pst_base.specs.declared.names.Name.{Name}

-- of each node: where it begins and ends, its record's name, and the node that comes after it
pub record Lives : Type 0 where
  pub count : ℕ
  pub lo : ℕ → ℕ
  pub hi : ℕ → ℕ
  pub name : ℕ → Name
  pub later : ℕ → Option ℕ

-- the nodes of a record cover its life without gap or overlap, in the order of `later`
pub record AreChained (w : Lives) : Type 0 where
  pub some : (i : ℕ) → i < w.count → w.lo i < w.hi i
  pub next : (i j : ℕ) → i < w.count → w.later i ≡ Some j → (j < w.count) × (w.name j ≡ w.name i) × (w.lo j ≡ w.hi i)
  pub last : (i j : ℕ) → i < w.count → j < w.count → w.later i ≡ None → w.name j ≡ w.name i → w.hi j ≤ w.hi i
  pub apart : (i j : ℕ) → i < w.count → j < w.count → i ≢ j → w.name i ≡ w.name j → (w.hi i ≤ w.lo j) ⊎ (w.hi j ≤ w.lo i)

-- the position is in the life of the node
pub record IsIn (w : Lives) (i n : ℕ) : Type 0 where
  pub there : i < w.count
  pub low : w.lo i ≤ n
  pub high : n < w.hi i

-- A node number stands for a record that lives at a position: the node begins by then, and some node of its name lives there.
pub record IsLive (w : Lives) (i n : ℕ) : Type 0 where
  pub there : i < w.count
  pub begun : w.lo i ≤ n
  pub covering : (j : ℕ) × IsIn w j n × (w.name j ≡ w.name i)

-- the node that lives there is the only one of its name
abbrev pub UniqueLaw : Type 0
UniqueLaw = (w : Lives) (i j n : ℕ) → AreChained w → IsIn w i n → IsIn w j n → w.name i ≡ w.name j → i ≡ j

-- a live number is of the node that lives there, or leads to a later one that is live too
abbrev pub WalkLaw : Type 0
WalkLaw = (w : Lives) (i n : ℕ) → AreChained w → IsLive w i n → IsIn w i n ⊎ ((j : ℕ) × (w.later i ≡ Some j) × IsLive w j n × (w.name j ≡ w.name i) × (w.lo i < w.lo j))

-- a node has no later one exactly where no node of its record ends after it
abbrev pub LastLaw : Type 0
LastLaw = (w : Lives) (i : ℕ) → AreChained w → i < w.count → (w.later i ≡ None) ↔ ((j : ℕ) → j < w.count → w.name j ≡ w.name i → w.hi j ≤ w.hi i)

-- node x ends at s, and the new node has the rest
pub record IsSplitLife (old new : Lives) (x s : ℕ) : Type 0 where
  pub there : x < old.count
  pub low : old.lo x < s
  pub high : s < old.hi x
  pub count : new.count ≡ suc old.count
  pub lo : (i : ℕ) → i < old.count → new.lo i ≡ old.lo i
  pub hi : (i : ℕ) → i < old.count → i ≢ x → new.hi i ≡ old.hi i
  pub name : (i : ℕ) → i < old.count → new.name i ≡ old.name i
  pub later : (i : ℕ) → i < old.count → i ≢ x → new.later i ≡ old.later i
  pub hi_x : new.hi x ≡ s
  pub later_x : new.later x ≡ Some old.count
  pub lo_z : new.lo old.count ≡ s
  pub hi_z : new.hi old.count ≡ old.hi x
  pub name_z : new.name old.count ≡ old.name x
  pub later_z : new.later old.count ≡ old.later x

abbrev pub SplitLifeLaw : Type 0
SplitLifeLaw = (old new : Lives) (x s : ℕ) → IsSplitLife old new x s → AreChained old → AreChained new

-- what was live is live
abbrev pub StaysLiveLaw : Type 0
StaysLiveLaw = (old new : Lives) (x s : ℕ) → IsSplitLife old new x s → (i n : ℕ) → IsLive old i n → IsLive new i n

-- The heap that numbered nodes show, each the record of one name or none.
use Rattle.std.specs.Prelude.{◌≡◌, ℕ, zero, suc, ◌<◌, Bool, true, if◌then◌else◌}
use Rattle.std.specs.FinMap.{empty, insert}
use Rattle.pst_base.specs.declared.names.Name.{Name}
use Rattle.pst_base.specs.Heap.{Rec, Heap}

-- of each node: whether it shows its record, the record's name, and what it shows of it
pub record Showing : Type 0 where
  pub count : ℕ
  pub shows : ℕ → Bool
  pub name : ℕ → Name
  pub rec : ℕ → Rec

-- the records that the nodes with numbers below m show
abbrev pub heap_shown_below : Showing → ℕ → Heap
heap_shown_below w zero = empty
heap_shown_below w (suc m) = if w.shows m then insert (heap_shown_below w m) (w.name m) (w.rec m) else heap_shown_below w m

abbrev pub heap_shown : Showing → Heap
heap_shown w = heap_shown_below w w.count

-- each record is shown by one node, which is among those that are counted
pub record AreApart (w : Showing) : Type 0 where
  pub there : (i : ℕ) → w.shows i ≡ true → i < w.count
  pub one : (i j : ℕ) → w.shows i ≡ true → w.shows j ≡ true → w.name i ≡ w.name j → i ≡ j

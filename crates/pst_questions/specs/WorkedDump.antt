-- Heaps worked by hand, and their dumps.
use Rattle.std.specs.Prelude.{ℕ, ℤ, pos, List, [], ◌∷◌, codes, Option, Some, None}
use Rattle.std.specs.FinMap.{from_sorted}
use Rattle.pst_base.specs.declared.names.Name.{Name}
use Rattle.pst_base.specs.declared.names.TypeNo.{TypeNo}
use Rattle.pst_base.specs.declared.shape.TypeShape.{TypeShape}
use Rattle.pst_base.specs.Name.{root_name}
use Rattle.pst_base.specs.Shape.{root_type}
use Rattle.pst_base.specs.Heap.{Rec, Heap, initial_heap}
use Rattle.pst_program.specs.declared.program.TypeEntry.{TypeEntry}
use Rattle.pst_questions.specs.Dump.{IsDump}

-- items with a number and a pointer to an item, and one root that holds an item
abbrev pub item : TypeNo
item = record { 0 = 1 }

abbrev pub list_shape : List TypeShape
list_shape = record { values = 0; targets = item ∷ []; limit = 1 } ∷ record { values = 1; targets = item ∷ []; limit = 2 } ∷ []

abbrev pub list_types : List TypeEntry
list_types = record { name = codes "root"; fields = [] } ∷ record { name = codes "N"; fields = [] } ∷ []

-- the first record that a run made
abbrev pub made_by : (run : ℕ) → Name
made_by run = record { run = record { 0 = run }; ordinal = 0 }

abbrev pub root_of : List (Option Name) → Rec
root_of pointers = record { ty = root_type; values = []; pointers = pointers }

abbrev pub item_of : ℤ → Option Name → Rec
item_of key next = record { ty = item; values = key ∷ []; pointers = next ∷ [] }

-- run 1 put 5 in front of the empty list, and run 2 put 7 in front of that
abbrev pub two_items : Heap
two_items = from_sorted ((root_name, root_of (Some (made_by 2) ∷ [])) ∷ (made_by 1, item_of (pos 5) None) ∷ (made_by 2, item_of (pos 7) (Some (made_by 1))) ∷ [])

-- two items that hold each other
abbrev pub ring : Heap
ring = from_sorted ((root_name, root_of (Some (made_by 2) ∷ [])) ∷ (made_by 1, item_of (pos 5) (Some (made_by 2))) ∷ (made_by 2, item_of (pos 7) (Some (made_by 1))) ∷ [])

-- the two roots hold items that share a third one, and a fourth one, which nothing holds, holds it too
abbrev pub shared : Heap
shared = from_sorted
    ((root_name, root_of (Some (made_by 3) ∷ Some (made_by 2) ∷ [])) ∷ (made_by 1, item_of (pos 1) None) ∷ (made_by 2, item_of (pos 2) (Some (made_by 1)))
    ∷ (made_by 3, item_of (pos 3) (Some (made_by 1)))
    ∷ (made_by 4, item_of (pos 4) (Some (made_by 1))) ∷ [])

-- Records stand in the order of their least paths: what both roots hold comes before what only an item holds. A record that
-- several paths lead to stands once, and one that no path leads to does not stand at all.
pub record WorkedDumps : Type 0 where
  pub of_two_items : IsDump list_types two_items (codes "0 root: @1\n1 N: 7 @2\n2 N: 5 null\n")
  pub of_no_item : IsDump list_types (initial_heap list_shape) (codes "0 root: null\n")
  pub of_a_ring : IsDump list_types ring (codes "0 root: @1\n1 N: 7 @2\n2 N: 5 @1\n")
  pub of_a_shared_item : IsDump list_types shared (codes "0 root: @1 @2\n1 N: 3 @3\n2 N: 2 @3\n3 N: 1 null\n")

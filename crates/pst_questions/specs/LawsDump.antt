-- What holds of every numbering and of every dump. Each statement is what a function without code ensures.
use Rattle.std.specs.Prelude.{◌≡◌, ◌↔◌, ℕ, ◌<◌, ◌^◌, List, length}
use Rattle.pst_base.specs.declared.names.Name.{Name}
use Rattle.pst_base.specs.declared.shape.TypeShape.{TypeShape}
use Rattle.pst_base.specs.Heap.{Heap, IsWellFormed}
use Rattle.pst_program.specs.declared.program.TypeEntry.{TypeEntry}
use Rattle.pst_questions.specs.Paths.{AreNumbered}
use Rattle.pst_questions.specs.Dump.{lines_of, IsDump}
use Rattle.pst_questions.specs.Renaming.{IsRenaming, IsHeapOf, AreNamedApart}

-- ---- a heap has one dump

-- the records that the root record reaches can be numbered
abbrev pub NumberingExists : Type 0
NumberingExists = (shape : List TypeShape) (h : Heap) → IsWellFormed shape h → (names : List Name) × AreNumbered h names

-- and in one way only
abbrev pub NumberingIsUnique : Type 0
NumberingIsUnique = (h : Heap) (names others : List Name) → AreNumbered h names → AreNumbered h others → names ≡ others

-- so there is one dump
abbrev pub DumpIsUnique : Type 0
DumpIsUnique = (types : List TypeEntry) (h : Heap) (text other : List ℕ) → IsDump types h text → IsDump types h other → text ≡ other

-- ---- what a dump tells of a heap

-- a heap in which records are renamed has the same dump
abbrev pub RenamingKeepsDump : Type 0
RenamingKeepsDump = (types : List TypeEntry) (h g : Heap) (to : Name → Name) (text : List ℕ) → IsRenaming h g to → IsDump types h text → IsDump types g text

-- the lines of two well-formed heaps are equal exactly where one heap is the other one with its records renamed
abbrev pub LinesTellHeaps : Type 0
LinesTellHeaps = (shape : List TypeShape) (h g : Heap) (names others : List Name) → IsWellFormed shape h → IsWellFormed shape g → AreNumbered h names → AreNumbered g others
    → (lines_of h names ≡ lines_of g others) ↔ ((to : Name → Name) × IsRenaming h g to)

-- and so are the texts of their dumps, where they are shorter than 2^64 bytes
abbrev pub DumpsTellHeaps : Type 0
DumpsTellHeaps = (shape : List TypeShape) (types : List TypeEntry) (h g : Heap) (text other : List ℕ) → IsHeapOf shape h → IsHeapOf shape g → AreNamedApart shape types
    → IsDump types h text → IsDump types g other → length text < 2 ^ 64 → (text ≡ other) ↔ ((to : Name → Name) × IsRenaming h g to)

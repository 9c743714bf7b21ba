-- Heaps that differ in the names of their records alone.
use Rattle.std.specs.Prelude.{◌≡◌, ℕ, ◌<◌, ◌≢◌, List, length, map, IsTrue, Some}
use Rattle.std.specs.List.{All}
use Rattle.std.specs.Option.{option_map}
use Rattle.std.specs.FinMap.{get}
use Rattle.pst_base.specs.declared.names.Name.{Name}
use Rattle.pst_base.specs.declared.names.TypeNo.{TypeNo}
use Rattle.pst_base.specs.declared.shape.TypeShape.{TypeShape}
use Rattle.pst_base.specs.Name.{root_name}
use Rattle.pst_base.specs.Heap.{Rec, Heap, IsWellFormed}
use Rattle.pst_program.specs.declared.program.TypeEntry.{TypeEntry}
use Rattle.pst_program.specs.Names.{type_named}
use Rattle.pst_program.specs.Value.{fits_i64}
use Rattle.pst_questions.specs.Paths.{Path, Leads}

-- the root record reaches a record
abbrev pub IsReached : Heap → Name → Type 0
IsReached h n = (path : Path) × Leads h path n

-- the same record with the targets renamed: its type, its numbers and what is null stay
abbrev pub renamed : (Name → Name) → Rec → Rec
renamed to r = record r { pointers = map (option_map to) r.pointers }

-- A one-to-one map from the records that the root record reaches in one heap to those that it reaches in another one. It
-- keeps the root record's name, types, numbers, nulls and targets.
pub record IsRenaming (h g : Heap) (to : Name → Name) : Type 0 where
  pub root : to root_name ≡ root_name
  pub reached : (n : Name) → IsReached h n → IsReached g (to n)
  pub onto : (m : Name) → IsReached g m → (n : Name) × IsReached h n × (to n ≡ m)
  pub one_to_one : (a b : Name) → IsReached h a → IsReached h b → to a ≡ to b → a ≡ b
  pub records : (n : Name) → IsReached h n → get g (to n) ≡ option_map (renamed to) (get h n)

-- a well-formed heap whose numbers have 64 bits
pub record IsHeapOf (shape : List TypeShape) (h : Heap) : Type 0 where
  pub well_formed : IsWellFormed shape h
  pub numbers : (n : Name) (r : Rec) → get h n ≡ Some r → All (λ v. IsTrue (fits_i64 v)) r.values

-- the code of a colon, which ends the name of a type in a dump
abbrev pub colon : ℕ
colon = 58

-- each record type has a name of its own, in which no colon stands
pub record AreNamedApart (shape : List TypeShape) (types : List TypeEntry) : Type 0 where
  pub differ : (a b : TypeNo) → a.0 < length shape → b.0 < length shape → type_named types a ≡ type_named types b → a ≡ b
  pub plain : (a : TypeNo) → a.0 < length shape → All (λ byte. byte ≢ colon) (type_named types a)

-- How a store begins.
use Rattle.std.specs.Prelude.{◌≡◌, ℕ, true, false, List, [], ◌∷◌, None}
use Rattle.pst_base.specs.declared.shape.TypeShape.{TypeShape}
use Rattle.pst_base.specs.Name.{root_name}
use Rattle.pst_base.specs.Shape.{IsValid, type_at, root_type}
use Rattle.pst_line_nodes.specs.Line.{Line}
use Rattle.pst_line_nodes.specs.Changes.{default_content}
use Rattle.pst_line.specs.Store.{Stored, IsStored, IsClosed, IsStarted}

-- a line with the node of the root record alone, which holds no pointer
pub record IsRoot (shape : List TypeShape) (w : Line) : Type 0 where
  pub one : w.count ≡ 1
  pub home : w.home 0 ≡ 0
  pub name : w.name 0 ≡ root_name
  pub ty : w.ty 0 ≡ root_type
  pub made : w.made 0 ≡ true
  pub first : w.first 0 ≡ 0
  pub later : w.later 0 ≡ None
  pub stamped : w.stamped 0 ≡ 0
  pub holds : (g n : ℕ) → w.holds 0 g n ≡ default_content (type_at shape root_type) g
  pub entry : (s : ℕ) → w.entry 0 s ≡ None

-- version 0 over such a line
abbrev pub first_store : List TypeShape → Line → Stored
first_store shape w = record {
  shape = shape;
  line = w;
  versions = record { run = record { 0 = 0 }; from = 0; to = 1; root = record { 0 = 0 } } ∷ [];
  opened = None;
  failed = false;
  counts = record { records = 1; pointer_writes = 0; value_writes = 0 };
}

abbrev pub StartLaw : Type 0
StartLaw = (shape : List TypeShape) (w : Line) → IsValid shape → IsRoot shape w → IsStored (first_store shape w) × IsClosed (first_store shape w) × IsStarted shape (first_store shape w)

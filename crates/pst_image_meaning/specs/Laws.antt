-- Contents are numbers and back, and what a store shows denotes that store.
use Rattle.std.specs.Prelude.{◌≡◌, ℕ, ◌<◌, ◌^◌, List}
use Rattle.pst_base.specs.declared.names.TypeNo.{TypeNo}
use Rattle.pst_base.specs.declared.shape.TypeShape.{TypeShape}
use Rattle.pst_base.specs.Shape.{type_at}
use Rattle.pst_store_meaning.specs.Store.{Stored, arena, IsStore}
use Rattle.pst_image_form.specs.declared.parts.NodePart.{NodePart}
use Rattle.pst_image_rules.specs.Nodes.{FitsSlot}
use Rattle.pst_image_meaning.specs.Parts.{content_number, parts_of}
use Rattle.pst_image_meaning.specs.Denoted.{content_of, arena_in, AreShort}

-- a number that a slot may hold is that of the content which it denotes there
abbrev pub NumbersBackLaw : Type 0
NumbersBackLaw = (shape : List TypeShape) (ks : List NodePart) (ty : TypeNo) (g n : ℕ) → n < 2 ^ 64 → FitsSlot shape ks ty g n → content_number (content_of (type_at shape ty) g n) ≡ n

-- the parts that a store shows denote its nodes at each position, where its numbers are of 64 bits
abbrev pub ShownDenotesLaw : Type 0
ShownDenotesLaw = (s : Stored) (text : List ℕ) (next budget : ℕ) → IsStore s → AreShort s → arena_in s.shape (parts_of s text next budget) ≡ arena s

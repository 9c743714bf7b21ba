-- What holds of the segments of nodes of their types.
use Rattle.std.specs.Prelude.{◌≡◌, ℕ, ◌<◌, ◌≤◌, List, length, Some, None, ◌⊎◌}
use Rattle.pst_base.specs.declared.shape.TypeShape.{TypeShape}
use Rattle.pst_image_form.specs.declared.parts.NodePart.{NodePart}
use Rattle.pst_image_rules.specs.Nodes.{node_at}
use Rattle.pst_image_rules.specs.Segments.{begins, ends}
use Rattle.pst_image_rules.specs.Sides.{AreTyped}

-- The segment of slot g of a node that begins at a: it lies inside the life, it ends where the next one begins or where the life ends, and
-- none begins before.
pub record IsSegment (k : NodePart) (g a : ℕ) : Type 0 where
  pub low : k.lo ≤ a
  pub some : a < ends k g a
  pub high : ends k g a ≤ k.hi
  pub next : (ends k g a ≡ k.hi) ⊎ ((c : ℕ) × (begins k g (ends k g a) ≡ Some c))
  pub whole : (n : ℕ) → a < n → n < ends k g a → begins k g n ≡ None

abbrev pub SegmentsFollow : Type 0
SegmentsFollow = (shape : List TypeShape) (ks : List NodePart) (i g a c : ℕ) → AreTyped shape ks → i < length ks → begins (node_at ks i) g a ≡ Some c → IsSegment (node_at ks i) g a

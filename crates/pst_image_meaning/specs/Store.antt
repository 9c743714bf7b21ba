-- A store that is made of the parts of an image that keep the rules is a store, and the one that the image tells of.
use Rattle.std.specs.Prelude.{◌≡◌, List, [], None}
use Rattle.pst_base.specs.declared.shape.TypeShape.{TypeShape}
use Rattle.pst_base.specs.Shape.{IsValid}
use Rattle.pst_store_meaning.specs.Store.{Stored, arena, IsStore, AreAllHeld}
use Rattle.pst_image_form.specs.declared.parts.ImageParts.{ImageParts}
use Rattle.pst_image_form.specs.Bytes.{Fits}
use Rattle.pst_image_rules.specs.Rules.{IsJudged}
use Rattle.pst_image_meaning.specs.Made.{IsMade, IsRebuilt}

-- it keeps what a store keeps at all times
abbrev pub MadeIsStoreLaw : Type 0
MadeIsStoreLaw = (shape : List TypeShape) (p : ImageParts) (s : Stored) → IsValid shape → Fits p → IsJudged shape p None → IsMade shape p s → IsStore s

-- where nothing waits in it and all nodes of the root record are held, it is the one that the image tells of
abbrev pub MadeIsRebuiltLaw : Type 0
MadeIsRebuiltLaw = (shape : List TypeShape) (p : ImageParts) (s : Stored) → IsValid shape → Fits p → IsJudged shape p None → IsMade shape p s →
    s.noted.queue ≡ [] → AreAllHeld (arena s) s.noted → IsRebuilt shape p s

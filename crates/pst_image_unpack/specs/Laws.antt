-- Laws of images by themselves: what is accepted is not refused, packing what was taken gives the same bytes, and what is packed is taken.
use Rattle.std.specs.Prelude.{◌≡◌, ℕ, List, ◌++◌, length, take, None}
use Rattle.pst_typing.specs.Declarations.{NamedProgram}
use Rattle.pst_store_meaning.specs.Store.{Stored}
use Rattle.pst_image_form.specs.declared.parts.ImageParts.{ImageParts}
use Rattle.pst_image_form.specs.Bytes.{Fits, image_bytes}
use Rattle.pst_image_rules.specs.declared.rule.Rule.{Rule}
use Rattle.pst_image_rules.specs.Rules.{IsJudged}
use Rattle.pst_image_meaning.specs.Parts.{parts_of}
use Rattle.pst_image_meaning.specs.Made.{IsRebuilt}
use Rattle.pst_image_unpack.specs.Unpacked.{IsOwnText, IsAccepted, FailsFirst}

-- where all rules hold of bytes, none of them fails first
abbrev pub NeverBothLaw : Type 0
NeverBothLaw = (bytes : List ℕ) (p : ImageParts) (named : NamedProgram) (len : ℕ) (rule : Rule) → IsAccepted bytes p named len → FailsFirst bytes rule → ⊥

-- no two rules fail first
abbrev pub OneFailsLaw : Type 0
OneFailsLaw = (bytes : List ℕ) (one other : Rule) → FailsFirst bytes one → FailsFirst bytes other → one ≡ other

-- packing what was taken gives the same bytes again
abbrev pub PackedAgainLaw : Type 0
PackedAgainLaw = (bytes : List ℕ) (p : ImageParts) (named : NamedProgram) (len : ℕ) (s : Stored) → IsAccepted bytes p named len → IsRebuilt named.shape p s
    → take len bytes ≡ image_bytes (parts_of s p.text p.next_run.0 p.budget)

-- What packing gives of a store, with the own text of a program of its record types, is accepted, whatever stands behind it, where its
-- numbers fit their types and the rules of an image hold of it.
abbrev pub PackedIsTakenLaw : Type 0
PackedIsTakenLaw = (s : Stored) (text : List ℕ) (next budget : ℕ) (named : NamedProgram) (behind : List ℕ) → IsOwnText text named → named.shape ≡ s.shape
    → Fits (parts_of s text next budget) → IsJudged s.shape (parts_of s text next budget) None
    → IsAccepted (image_bytes (parts_of s text next budget) ++ behind) (parts_of s text next budget) named (length (image_bytes (parts_of s text next budget)))

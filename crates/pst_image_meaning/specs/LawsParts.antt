-- What a store shows as parts keeps the rules of an image.
use Rattle.std.specs.Prelude.{◌≡◌, ℕ, ◌≤◌, ◌^◌, List, length, Some, None, slice_get, ◌↔◌}
use Rattle.pst_versions.specs.Rows.{first_row}
use Rattle.pst_store_meaning.specs.Store.{Node, Stored, IsStore}
use Rattle.pst_program.specs.Sound.{CountsWithin}
use Rattle.pst_image_rules.specs.Versions.{AreNested}
use Rattle.pst_image_rules.specs.Rules.{IsJudged}
use Rattle.pst_image_meaning.specs.Parts.{parts_of, version_parts}
use Rattle.pst_image_meaning.specs.Versions.{AreVersionsNested}
use Rattle.pst_image_meaning.specs.Left.{IsLeftStore, AreNumbers, AreSmall}
use Rattle.pst_image_meaning.specs.Narrow.{IsNarrow}

-- The rules of an image hold of a store that an engine left, where no node is over its capacity.
abbrev pub RulesLaw : Type 0
RulesLaw = (s : Stored) (text : List ℕ) (next budget : ℕ) → IsStore s → AreSmall s → IsLeftStore s next → AreNumbers next budget → IsJudged s.shape (parts_of s text next budget) None

-- the numbers in the nodes of a store fit
abbrev pub NarrowLaw : Type 0
NarrowLaw = (s : Stored) → IsStore s → CountsWithin s.counts (2 ^ 50) → (i : ℕ) (n : Node) → slice_get s.nodes i ≡ Some n → IsNarrow n

-- The versions that a store shows keep the rule exactly where the store does.
abbrev pub VersionsLaw : Type 0
VersionsLaw = (s : Stored) (next : ℕ) → 2 ≤ length s.places → slice_get s.versions 0 ≡ Some (first_row s.start) → AreVersionsNested s next ↔ AreNested (version_parts s) (length s.places) next

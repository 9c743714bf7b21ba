-- That a store which is made of an image keeps what a store keeps.
use Rattle.std.specs.Prelude.{ℕ, ◌≤◌, length}
use Rattle.pst_store_meaning.specs.Arena.{Arena}
use Rattle.pst_store_meaning.specs.Store.{Stored, AreNested, AreVersions, IsStore}
use Rattle.pst_image_meaning.specs.Versions.{AreVersionsNested}
use Rattle.pst_image_meaning.specs.Chains.{AreRecordChains, ChainsGive}
use Rattle.pst_image_meaning.specs.Forks.{AreForksOfVersions, AreRelicsInside}
use Rattle.pst_image_meaning.specs.Taken.{IsTaken}

-- Nodes in chains cover the lives of their records.
abbrev pub ChainsLaw : Type 0
ChainsLaw = (w : Arena) (end : ℕ) → AreRecordChains w end → ChainsGive w end

-- Where versions are nested as in an image and the forks are these versions, forks and versions are as a store keeps them.
abbrev pub BuiltLaw : Type 0
BuiltLaw = (s : Stored) (next : ℕ) → 1 ≤ next → next ≤ 1048577 → 2 ≤ length s.places → AreVersionsNested s next → AreForksOfVersions s → AreRelicsInside s → AreNested s × AreVersions s

-- A store that is made of an image keeps what a store keeps.
abbrev pub TakenIsStoreLaw : Type 0
TakenIsStoreLaw = (s : Stored) (next : ℕ) → IsTaken s next → IsStore s

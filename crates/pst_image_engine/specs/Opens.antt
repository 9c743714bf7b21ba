-- A store that is made of an image, as an engine takes it up.
use Rattle.std.specs.Prelude.{◌≡◌, ℕ, ◌+◌, ◌<◌, ◌≤◌, ◌^◌}
use Rattle.pst_program.specs.Sound.{CountsWithin}
use Rattle.pst_history.specs.Meaning.{Meaning}
use Rattle.pst_store_meaning.specs.Store.{Stored, state_of, IsStore}
use Rattle.pst_engine.specs.Stands.{IsOpeningHeap}
use Rattle.pst_image_meaning.specs.Versions.{AreVersionsNested}
use Rattle.pst_image_meaning.specs.Left.{AreNamed}
use Rattle.pst_image_meaning.specs.Forks.{AreForksOfVersions}

-- A store of a program's record types that counted little, whose records and versions are of runs below the next one, whose forks are
-- its versions and in which fewer forks were asked for, is a heap that an engine with that next run opens on.
abbrev pub OpensLaw : Type 0
OpensLaw = (m : Meaning) (s : Stored) (next : ℕ) → IsStore s → 1 ≤ next → AreNamed s next → AreVersionsNested s next
    → AreForksOfVersions s → s.calls + s.spent < next → s.shape ≡ m.shape → CountsWithin s.counts (2 ^ 50) → IsOpeningHeap m (state_of s) next

-- When a call says that the disk failed.
use Rattle.std.specs.Prelude.{◌≡◌, ℕ, Result, MatchResult, IsTrue}
use Rattle.sqlite_disk.specs.declared.Disk.{Ghosts}
use Rattle.sqlite_disk.specs.Disk.{MoreFaults}
use Rattle.pst_kept_text.specs.declared.error.DiskError.{DiskError}
use Rattle.pst_kept_text.specs.declared.error.DiskError.TheVariants.{Failed, DoesNotMix, TooLarge, Memory}

-- `Failed` comes only where a call of the disk failed
abbrev pub HasCause : ℕ → ℕ → DiskError → Type 0
HasCause old new (Failed _) = MoreFaults old new
HasCause old new DoesNotMix = old ≡ new
HasCause old new TooLarge = old ≡ new
HasCause old new Memory = old ≡ new

-- at `Ok` no call failed
abbrev pub CountsFailed : {T : Type 0} → Result T DiskError → ℕ → ℕ → Type 0
CountsFailed result old new = MatchResult result (λ _. new ≡ old) (λ e. HasCause old new e)

-- each disk of the type says that it mixes
abbrev pub AlwaysMixes : {D : Type 0} → Ghosts D → Type 0
AlwaysMixes {D} g = (disk : D) → IsTrue (g.is_mixing disk)

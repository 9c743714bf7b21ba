-- A file whose gate is shut.
use Rattle.std.specs.Prelude.{◌≡◌, ◌≢◌, ◌⊎◌, ℕ, ◌<◌, ◌≤◌, List, length, slice_index, IsTrue}
use Rattle.sqlite_disk.specs.declared.Disk.{Ghosts}

-- The gate is shut now and whatever a crash leaves.
pub record IsShut {D : Type 0} (g : Ghosts D) (disk : D) : Type 0 where
  pub usable : IsTrue (g.is_usable disk)
  pub some : 0 < length (g.seen disk)
  pub gate : slice_index (g.seen disk) 0 ≡ 0
  pub left_some : (c : List ℕ) → g.may_leave disk c → 0 < length c
  pub left_gate : (c : List ℕ) → g.may_leave disk c → slice_index c 0 ≡ 0

-- the file as it was, or one that doesn't count
abbrev pub OrDoesNotCount : List ℕ → List ℕ → Type 0
OrDoesNotCount old c = (c ≡ old) ⊎ ((slice_index c 0 ≢ 1) ⊎ (length c ≤ 1))

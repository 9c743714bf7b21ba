use Rattle.std.proofs.Common.{◌≡◌, ◌<◌, ℕ, length, slice_index}
use Rattle.pst_kept_files.specs.Checks.{letter}
use Rattle.pst_kept_files.proofs.checks.letters_of.Given as goal

abbrev pub invariant-loop-i : goal.invariant-loop-i
invariant-loop-i l = record {
  size : length l.letters ≡ 16;
  each : (j : ℕ) → j < l.i → slice_index l.letters j ≡ letter (slice_index l.digest j);
}

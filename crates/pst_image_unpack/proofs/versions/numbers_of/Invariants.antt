use Rattle.std.proofs.Common.{◌≡◌, ℕ, ◌<◌, length, get_or, slice_index}
use Rattle.pst_image_unpack.proofs.versions.numbers_of.Given as goal

abbrev pub invariant-loop-number : goal.invariant-loop-number
invariant-loop-number l = record {
  wide : length l.numbers.items ≡ l.count;
  each : (k : ℕ) → k < l.number → get_or l.numbers.items (slice_index l.by_run k) 0 ≡ k;
  first : get_or l.numbers.items 0 0 ≡ 0;
}

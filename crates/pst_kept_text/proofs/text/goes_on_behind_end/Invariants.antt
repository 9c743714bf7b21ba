use Rattle.std.proofs.Common.{◌≡◌, ◌≢◌, ◌<◌, ℕ, false, slice_index, IsTrue}
use Rattle.pst_kept_text.proofs.TextLemmas.{EndsBefore}
use Rattle.pst_kept_text.proofs.text.goes_on_behind_end.Given as goal

abbrev pub invariant-loop-byte : goal.invariant-loop-byte
invariant-loop-byte l = record {
  ended : IsTrue l.ended → EndsBefore l.rest l.byte-index;
  none : l.ended ≡ false → (i : ℕ) → i < l.byte-index → slice_index l.rest i ≢ 30;
  zeros : (i j : ℕ) → i < j → j < l.byte-index → slice_index l.rest i ≡ 30 → slice_index l.rest j ≡ 0;
}

use Rattle.std.proofs.Common.{◌≡◌, ◌≤◌, length, take, drop}
use Rattle.pst_kept_text.specs.Text.{whole}
use Rattle.pst_kept_text.proofs.TextLemmas.{held}
use Rattle.pst_kept_text.proofs.text.whole_len.Given as goal

abbrev pub invariant-loop-i : goal.invariant-loop-i
invariant-loop-i l = record {
  within : l.end ≤ l.i;
  below : l.i ≤ length l.text;
  lines : held (take l.end l.text) (take l.i l.text) (whole (drop l.i l.text)) ≡ whole l.text;
}

use Rattle.pst_cli_images.proofs.Days.{packed_keeps_law, repacked_keeps_law, never_refused_again_law, resumed_behind_law, never_refused_behind_law}
use Rattle.pst_cli_images.proofs.repack.day_after_day.Goals as goal

pub returns : goal.returns
returns c = record {
  packed = packed_keeps_law;
  repacked = repacked_keeps_law;
  never_refused = never_refused_again_law;
  replies = resumed_behind_law;
  never_refused_behind = never_refused_behind_law;
}

use Rattle.pst_line.proofs.Stores.{begin_law, publish_law}
use Rattle.pst_line.proofs.Undoing.{end_law}
use Rattle.pst_line.proofs.PutBack.{put_back_law, room_law}
use Rattle.pst_line.proofs.laws.runs.Goals as goal

pub returns : goal.returns
returns c = record { begin = begin_law; publish = publish_law; put_back = put_back_law; room = room_law; end = end_law }

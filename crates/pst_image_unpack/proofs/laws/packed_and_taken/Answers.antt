use Rattle.pst_image_unpack.proofs.Alone.{packed_again_law, packed_is_taken_law}
use Rattle.pst_image_unpack.proofs.laws.packed_and_taken.Goals as goal

pub returns : goal.returns
returns c = record { again = packed_again_law; taken = packed_is_taken_law }

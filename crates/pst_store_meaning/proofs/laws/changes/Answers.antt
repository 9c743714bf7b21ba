use Rattle.pst_store_meaning.proofs.Inserted.{inserted_law}
use Rattle.pst_store_meaning.proofs.Split.{split_law}
use Rattle.pst_store_meaning.proofs.Pointers.{cleared_law, pointer_law}
use Rattle.pst_store_meaning.proofs.Made.{made_law}
use Rattle.pst_store_meaning.proofs.Writes.{number_law, taken_law, put_law}
use Rattle.pst_store_meaning.proofs.laws.changes.Goals as goal

pub returns : goal.returns
returns c = record { inserted = inserted_law; made = made_law; number = number_law; taken = taken_law; put = put_law; cleared = cleared_law; pointer = pointer_law; split = split_law }

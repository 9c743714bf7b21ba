use Rattle.pst_store_meaning.proofs.Around.{repair_law, unchanged_law, value_around_law, pointer_around_law, allocated_after_law}
use Rattle.pst_store_meaning.proofs.Reading.{kind_law, value_read_law, pointer_read_law, root_law}
use Rattle.pst_store_meaning.proofs.Starting.{start_law}
use Rattle.pst_store_meaning.proofs.laws.around.Goals as goal

pub returns : goal.returns
returns c = record {
  repair = repair_law;
  unchanged = unchanged_law;
  value = value_around_law;
  pointer = pointer_around_law;
  allocated =
      allocated_after_law;
  kind = kind_law;
  value_read = value_read_law;
  pointer_read = pointer_read_law;
  root = root_law;
  start = start_law;
}

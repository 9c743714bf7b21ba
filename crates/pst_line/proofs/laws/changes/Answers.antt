use Rattle.pst_line.proofs.Stores.{sound_law, value_law, null_law', point_law', allocate_law, copy_law', redirect_law', fail_law}
use Rattle.pst_line.proofs.laws.changes.Goals as goal

pub returns : goal.returns
returns c = record { sound = sound_law; value = value_law; null = null_law'; point = point_law'; allocate = allocate_law; copy = copy_law'; redirect = redirect_law'; fail = fail_law }

use Rattle.pst_line.proofs.Undo.{value_back_law, pointer_back_law, entry_law, record_back_law}
use Rattle.pst_line.proofs.laws.undo_entries.Goals as goal

pub returns : goal.returns
returns c = record { value_back = value_back_law; pointer_back = pointer_back_law; entry = entry_law; new_record = record_back_law }

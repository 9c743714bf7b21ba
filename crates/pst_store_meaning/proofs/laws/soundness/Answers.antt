use Rattle.pst_store_meaning.proofs.Born.{life_law}
use Rattle.pst_store_meaning.proofs.Sound.{sound_law, full_law, open_slot_law}
use Rattle.pst_store_meaning.proofs.Places.{store_is_sound, store_is_versioned}
use Rattle.pst_store_meaning.proofs.laws.soundness.Goals as goal

pub returns : goal.returns
returns c = record { sound = sound_law; full = full_law; open_slot = open_slot_law; store = store_is_sound; versions = store_is_versioned; life = life_law }

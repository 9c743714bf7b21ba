use Rattle.pst_history_laws.proofs.Commands.{begins_law, replies_law, stays_law}
use Rattle.pst_history_laws.proofs.Scripts.{sound_behind_law, stays_behind_law, replies_behind_law, taken_up_law, goes_on_law, program_goes_on_law}
use Rattle.pst_history_laws.proofs.openings.goes_on.Goals as goal

pub returns : goal.returns
returns c = record {
  begins = begins_law;
  replies = replies_law;
  stays = stays_law;
  sound_behind = sound_behind_law;
  stays_behind =
      stays_behind_law;
  replies_behind = replies_behind_law;
  taken_up = taken_up_law;
  script = goes_on_law;
  program = program_goes_on_law;
}

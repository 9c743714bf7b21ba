-- What the replayer stands for.
use Rattle.std.specs.Prelude.{◌≡◌, false}
use Rattle.pst_program.specs.declared.program.Program.{Program}
use Rattle.pst_program.specs.View.{routines_of}
use Rattle.pst_program.specs.Typed.{IsTyped}
use Rattle.pst_history.specs.Meaning.{Meaning}
use Rattle.pst_history.specs.History.{History}
use Rattle.pst_history.specs.Direct.{meaning_of}
use Rattle.pst_replay.specs.Replay.{MayApply, kept_for}
use Rattle.pst_replay.specs.declared.replayer.Replayer.{Replayer}

-- the replayer can be asked about the program, and keeps this history of it
pub record IsReplaying (program : Program) (replayer : Replayer) (m : Meaning) (h : History) : Type 0 where
  pub meaning : m ≡ meaning_of program
  pub history : h ≡ kept_for program replayer.history
  pub typed : IsTyped (routines_of program)
  pub going : replayer.failed ≡ false
  pub may : MayApply program replayer

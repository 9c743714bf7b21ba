use Rattle.std.proofs.Common.{ap, map, sym, subst, ◌∙◌}
use Rattle.std.specs.Prelude.{count_by}
use Rattle.pst_history.specs.History.{History, opening, is_open}
use Rattle.pst_history.specs.Sound.{IsSoundHistory}
use Rattle.pst_history.specs.Direct.{meaning_of}
use Rattle.pst_history.proofs.After.{begun-sound}
use Rattle.pst_history.proofs.DirectLemmas.{direct_is_lawful}
use Rattle.pst_history.proofs.Sound.{opening-sound}
use Rattle.pst_program.specs.Outcome.{calls_of}
use Rattle.pst_program.specs.View.{routines_of}
use Rattle.pst_replay.specs.Replay.{direct_calls}
use Rattle.pst_replay.proofs.Opening.{begun_so}
use Rattle.pst_replay.proofs.replayer.Replayer.new.Goals as goal

pub returns-clause-history : goal.returns-clause-history
returns-clause-history c = begun_so c.nothing.result.since c.nothing.ensures.budget c.nothing.ensures.runs c.nothing.ensures.versions

pub returns-clause-may : goal.returns-clause-may
returns-clause-may c = λ program typed.
    let m = meaning_of program in
    let law = direct_is_lawful (routines_of program) typed.valid in
    let P : History → Type 0 = λ x. IsSoundHistory m x in
    record {
      sound = subst P (sym (begun_so c.nothing.result.since c.nothing.ensures.budget c.nothing.ensures.runs c.nothing.ensures.versions m.shape))
          (begun-sound m (opening m.shape) (opening-sound m law));
      numbered = ap (map calls_of) c.nothing.ensures.calls ∙ sym (ap (map (direct_calls program)) c.nothing.ensures.runs);
      counted = sym (ap (count_by is_open) c.nothing.ensures.runs);
    }

use Rattle.std.proofs.Common.{sym, subst}
use Rattle.pst_program.specs.View.{routines_of}
use Rattle.pst_translation.specs.Compiled.{code_of}
use Rattle.pst_history.specs.Meaning.{Meaning}
use Rattle.pst_history.specs.History.{after}
use Rattle.pst_engine.specs.Stands.{EngineStands}
use Rattle.pst_store.specs.Whole.{queue_in, state_in}
use Rattle.pst_cli_serving.proofs.Keeping.{nothing_waits}
use Rattle.pst_cli_serving.proofs.running.RunningSession.apply.Goals as goal

pub returns-clause-stands : goal.returns-clause-stands
returns-clause-stands g c m h r =
    let parts = code_of (routines_of c.args.self.now.code) in
    let before = subst (λ (n : Meaning). EngineStands (record { meaning = n; parts = parts }) c.args.self.now.engine (state_in c.args.held.now) h) r.meaning r.stands in
    let stands = (c.in_ok-reply.ensures.answers h before).stands c.requires.range in
    record {
      meaning = r.meaning;
      going = c.in_ok-reply.ensures.ok.1;
      stands = subst (λ (n : Meaning). EngineStands (record { meaning = n; parts = parts }) c.apply-answer.new.self (state_in c.apply-answer.new.heap)
          (after n h c.args.command.now)) (sym r.meaning) stands;
      rested = nothing_waits (queue_in c.apply-answer.new.heap) c.if-pending.ensures.1;
    }

use Rattle.std.proofs.Common.{ap, ◌∙◌, Option}
use Rattle.pst_machine_steps.specs.declared.register.Register.{Register}
use Rattle.pst_machine_steps.specs.declared.standing.CallFrame.{CallFrame}
use Rattle.pst_machine_steps.specs.Calls.{with_register, given_back}
use Rattle.pst_machine_steps.proofs.calls.leave.Goals as goal

pub returns-in_ok-push-in-Some-clause-left : goal.returns-in_ok-push-in-Some-clause-left
returns-in_ok-push-in-Some-clause-left g c =
    let after = c.replace-left.ensures.after in
    let into = c.in-Some.waiting.into in
    record {
      waiting = c.in-Some.waiting;
      callers_are = c.in-Some.ensures.items;
      procedure = c.keep.ensures.same.0 ∙ ap (λ (f : CallFrame g.row.R.Denot). f.procedure) after;
      at = c.keep.ensures.same.1 ∙ ap (λ (f : CallFrame g.row.R.Denot). f.at) after;
      line = c.keep.ensures.same.2 ∙ ap (λ (f : CallFrame g.row.R.Denot). f.line) after;
      registers = c.keep.ensures.registers
          ∙ ap (λ (v : Option (Register g.row.R.Denot)). with_register into v c.replace-left.new.dest.registers.items) c.result_of-v.ensures
          ∙ ap (λ (f : CallFrame g.row.R.Denot). with_register into (given_back c.args.frame.now c.args.s) f.registers.items) after;
    }

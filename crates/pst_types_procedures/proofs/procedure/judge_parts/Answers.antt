use Rattle.std.proofs.Common.{rules}
use Rattle.pst_grammar.specs.View.{phrases_of}
use Rattle.pst_types_procedures.proofs.procedure.judge_parts.Goals as goal

pub returns-in_err-setting : goal.returns-in_err-setting
returns-in_err-setting c = let names = c.in_err-setting.ensures (phrases_of c.args.body.now) in search (rules, names)

pub returns : goal.returns
returns c = let names = c.in_ok-setting.ensures (phrases_of c.args.body.now) in search (rules, names)

use Rattle.std.proofs.Common.{arith}
use Rattle.pst_line.proofs.Back.{going_at, going_end}
use Rattle.pst_line.proofs.undo_run.take_back.Goals as goal

pub loop-number-init : goal.loop-number-init
loop-number-init g c = λ h rest i. i

pub take_entry-requires : goal.take_entry-requires
take_entry-requires g c = (
  c.requires.0,
  _,
  going_at _ _ _ c.args.step c.loop-number.number c.args.entries.now c.requires.1 (c.loop-number.invariant c.requires.0 c.requires.1 c.requires.2) c.from_last.result _ c.from_last.ensures c.entry_in-entry.ensures,
)

pub loop-number-preserved : goal.loop-number-preserved
loop-number-preserved g c = λ h rest i. c.take_entry.ensures h _ (going_at h _ _ c.args.step c.loop-number.number c.args.entries.now rest (c.loop-number.invariant h rest i) c.from_last.result _ c.from_last.ensures c.entry_in-entry.ensures)

pub returns : goal.returns
returns g c = λ h rest i. going_end h _ _ c.args.step c.loop-number.number c.args.entries.now rest (c.loop-number.invariant h rest i) (omega (arith, c.loop-number-test.false, c.len-number-end.ensures.len))

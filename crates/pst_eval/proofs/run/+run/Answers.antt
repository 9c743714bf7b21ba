use Rattle.std.proofs.Common.{◌≤◌, arith, sym, ap, ◌∙◌, Ok, Err, rules}
use Rattle.pst_program.specs.Syntax.{Actions}
use Rattle.pst_program.specs.Meaning.{Returned, leave, exec, call}
use Rattle.pst_program.specs.View.{expr_of, statements_of, routines_of}
use Rattle.pst_program.specs.declared.block.TypedBlock.{size-TypedBlock}
use Rattle.pst_eval.specs.Work.{world_of, ending_of}
use Rattle.pst_eval.specs.Ends.{deepest}
use Rattle.pst_eval.specs.Flows.{end_of}
use Rattle.pst_eval.proofs.Blocks.{block_is_list}
use Rattle.pst_eval.proofs.Loops.{turned, over, leave_other, call_at_most, call_below, at_most_deepest, body_left, shown}
use Rattle.pst_eval.proofs.run.+run.Goals as goal

pub run_block-loop-statement-init : goal.run_block-loop-statement-init
run_block-loop-statement-init t c = record {
  ready = c.requires.ready;
  fewer = omega arith;
  rest = let does = λ (a : Actions). exec c.args.program.now.shape (call (routines_of c.args.program.now) c.args.deep) a c.args.env.now.items (world_of c.args.heap.now c.args.work.now.tally) in
      ap does (ap statements_of c.deref-statement-items.ensures.value ∙ sym (block_is_list c.args.block.now));
}

pub run_body-run_block-requires : goal.run_body-run_block-requires
run_body-run_block-requires t c =
    let within : size-TypedBlock c.in-Some.p.now.body ≤ deepest c.args.program.now.procedures.items.items = at_most_deepest _ _ _ c.in-Some.ensures in
    (omega (arith, within), (within, c.requires.ready))

pub run_body-returns-in-On-clause-meaning : goal.run_body-returns-in-On-clause-meaning
run_body-returns-in-On-clause-meaning t c =
    let calls = call (routines_of c.args.program.now) c.args.deep in
    let w = world_of c.run_block.new.heap c.run_block.new.work.tally in
    ap (λ v. Returned v w) c.default_result.ensures
    ∙ ap (λ f. leave c.in-Some.p.now.result (ending_of (end_of f c.run_block.new.work.end) c.run_block.new.env.items w)) (sym c.in-On.is)
    ∙ body_left c.args.program.now.shape calls c.args.program.now.procedures.items.items c.args.procedure c.args.values.items
    (world_of c.args.heap.now c.args.work.now.tally) c.in-Some.p.now _ _ c.in-Some.ensures (search rules) c.in_ok-run_block-in-Some.ensures.meaning

pub run_body-returns-clause-meaning : goal.run_body-returns-clause-meaning
run_body-returns-clause-meaning t c =
    let end = c.run_block.new.work.end in
    let w = world_of c.run_block.new.heap c.run_block.new.work.tally in
    sym (leave_other end c.in-Some.p.now.result c.run_block.new.env.items w (c.in_ok-run_block-in-Some.ensures.over c.in-Over.is))
    ∙ ap (λ f. leave c.in-Some.p.now.result (ending_of (end_of f end) c.run_block.new.env.items w)) (sym c.in-Over.is)
    ∙ body_left c.args.program.now.shape (call (routines_of c.args.program.now) c.args.deep) c.args.program.now.procedures.items.items
    c.args.procedure c.args.values.items (world_of c.args.heap.now c.args.work.now.tally) c.in-Some.p.now _ _ c.in-Some.ensures (search rules)
    c.in_ok-run_block-in-Some.ensures.meaning

pub run_call-returns-then-deep-eq0-clause-meaning :
    goal.run_call-returns-then-deep-eq0-clause-meaning
run_call-returns-then-deep-eq0-clause-meaning t c = sym (call_at_most _ _ _ _ _ _ c.if-deep-eq0.true)

pub run_call-returns-clause-meaning : goal.run_call-returns-clause-meaning
run_call-returns-clause-meaning t c =
    rw (call_below (routines_of c.args.program.now) c.args.deep c.args.procedure c.args.values.items c.args.line
    (world_of c.args.heap.now c.args.work.now.tally) c.if-deep-eq0.false) c.run_body.ensures.meaning

pub run_while-returns-in-None-clause-meaning : goal.run_while-returns-in-None-clause-meaning
run_while-returns-in-None-clause-meaning t c =
    turned c.turns.invariant.rest.0 _ _ _ _ _ _ _ (Err c.choose.new.work.end) _ c.turns.invariant.rest.1 c.turns.invariant.rest.2
    (shown c.args.program.now.shape c.turns.heap.shape (expr_of c.args.e.now) c.args.line c.turns.env.items c.deref.result.now
    (world_of c.turns.heap c.turns.work.tally) (world_of c.turns.heap c.choose.new.work.tally) (Err c.choose.new.work.end)
    c.turns.invariant.ready.shaped c.deref.ensures.value c.in-None.ensures.meaning)

pub run_while-returns-in-Over-clause-meaning : goal.run_while-returns-in-Over-clause-meaning
run_while-returns-in-Over-clause-meaning t c =
    let end = c.run_block.new.work.end in
    over c.turns.invariant.rest.0 _ _ _ _ _ _ _ _ _ _ end _ c.in-Some-true.field-0-test c.turns.invariant.rest.1 c.turns.invariant.rest.2
    (shown c.args.program.now.shape c.turns.heap.shape (expr_of c.args.e.now) c.args.line c.turns.env.items c.deref.result.now
    (world_of c.turns.heap c.turns.work.tally) (world_of c.turns.heap c.choose.new.work.tally) (Ok c.in-Some-true.field-0)
    c.turns.invariant.ready.shaped c.deref.ensures.value c.in-Some-true.ensures.meaning)
    (ap (λ f. ending_of (end_of f end) c.run_block.new.env.items (world_of c.run_block.new.heap c.run_block.new.work.tally)) (sym c.in-Over.is) ∙ c.in_ok-run_block.ensures.meaning)
    (c.in_ok-run_block.ensures.over c.in-Over.is)

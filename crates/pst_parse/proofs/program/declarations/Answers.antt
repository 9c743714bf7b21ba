use Rattle.std.proofs.Common.{arith, [], ◌++◌, refl, sym, subst}
use Rattle.std.specs.Prelude.{Bool, Err}
use Rattle.std.proofs.lemmas.Result.{err_from_is_err_and}
use Rattle.pst_lex.specs.declared.lexer.Lexer.{Lexer}
use Rattle.pst_parse.specs.declared.fault.ParseFault.{ParseFault}
use Rattle.pst_parse.specs.Window.{IsLast, IsReached}
use Rattle.pst_parse.specs.Taking.{last, AreRead}
use Rattle.pst_parse.proofs.Windows.{first_stage, refilled, left_ahead, fill_fails, reaches_end, bad_among, all_left, all_read, broken_off}
use Rattle.pst_parse.proofs.program.declarations.Goals as goal

pub returns-in_err-left-clause-declares : goal.returns-in_err-left-clause-declares
returns-in_err-left-clause-declares c = λ tokens end ahead.
    let p = err_from_is_err_and c.from_residual.result c.from_residual.ensures.1 in
    rw (p.1, p.2) (bad_among c.args.language _ tokens end c.args.window [] c.tokens.result.now c.new-items.result.items
    c.take_declarations.new.items.items (first_stage c.args.language tokens end c.args.window ahead) c.tokens.ensures
    c.new-items.ensures.items c.in_err-left.ensures)

pub loop-alloc-init : goal.loop-alloc-init
loop-alloc-init c =
    let t = all_left c.args.language c.args.window c.in_ok-left.left c.tokens.result.now [] c.new-items.result.items
    c.take_declarations.new.items.items c.tokens.ensures c.new-items.ensures.items c.in_ok-left.ensures in
    record { reached = λ text r. r; within = t.0; broken = t.1; read = λ tokens end ahead. t.2 tokens end (first_stage c.args.language tokens end c.args.window ahead) }

pub returns-in_err-fill-clause-declares : goal.returns-in_err-fill-clause-declares
returns-in_err-fill-clause-declares c = λ tokens end ahead.
    let p = err_from_is_err_and c.from_residual-in_err-fill.result c.from_residual-in_err-fill.ensures.1 in
    let stage = c.loop-alloc.invariant.read tokens end ahead in
    rw (p.1, p.2) (fill_fails (λ (f : ParseFault). AreRead c.args.language (Err f) tokens end) _ c.keep.new.self (last c.loop-alloc.left c.loop-alloc.window.tokens.items ++ stage.behind) end
    (left_ahead c.args.language tokens end c.loop-alloc.window c.keep.new.self c.loop-alloc.left c.loop-alloc.items.items stage c.keep.ensures.tokens
    c.keep.ensures.lexer) c.in_err-fill.ensures.err tt)

pub returns-in_err-left-2-clause-declares : goal.returns-in_err-left-2-clause-declares
returns-in_err-left-2-clause-declares c = λ tokens end ahead.
    let p = err_from_is_err_and c.from_residual-in_err-left-2.result c.from_residual-in_err-left-2.ensures.1 in
    let stage = refilled c.args.language tokens end c.loop-alloc.window c.keep.new.self c.fill.new.self c.loop-alloc.left c.loop-alloc.items.items
    (c.loop-alloc.invariant.read tokens end ahead) c.keep.ensures.tokens c.keep.ensures.lexer
    c.in_ok-fill.ensures.ahead in
    rw (p.1, p.2) (bad_among c.args.language _ tokens end c.fill.new.self c.loop-alloc.items.items c.tokens-in-loop-alloc.result.now
    c.loop-alloc.items.items c.take_declarations-in-loop-alloc.new.items.items stage
    c.tokens-in-loop-alloc.ensures refl c.in_err-left-2.ensures)

pub loop-alloc-preserved : goal.loop-alloc-preserved
loop-alloc-preserved c =
    let t = all_left c.args.language c.fill.new.self c.in_ok-left-2.left c.tokens-in-loop-alloc.result.now c.loop-alloc.items.items
    c.loop-alloc.items.items c.take_declarations-in-loop-alloc.new.items.items c.tokens-in-loop-alloc.ensures refl
    c.in_ok-left-2.ensures in
    record {
      reached = λ text r. c.in_ok-fill.ensures.reached text (subst (λ (x : Lexer). IsReached text x) (sym c.keep.ensures.lexer) (c.loop-alloc.invariant.reached text r));
      within = t.0;
      broken = t.1;
      read = λ tokens end ahead. t.2 tokens end
          (refilled c.args.language tokens end c.loop-alloc.window c.keep.new.self c.fill.new.self c.loop-alloc.left c.loop-alloc.items.items
          (c.loop-alloc.invariant.read tokens end ahead) c.keep.ensures.tokens c.keep.ensures.lexer
          c.in_ok-fill.ensures.ahead);
    }

pub returns-then-left-gt0-clause-declares : goal.returns-then-left-gt0-clause-declares
returns-then-left-gt0-clause-declares c = λ tokens end ahead.
    broken_off c.args.language c.end_line-line.result tokens end c.loop-alloc.window c.loop-alloc.left c.loop-alloc.items.items (c.loop-alloc.invariant.read tokens end ahead)
    (subst (λ (b : Bool). IsLast b c.loop-alloc.window) c.loop-alloc-test.false c.is_last.ensures) c.if-left-gt0.true c.loop-alloc.invariant.within
    c.loop-alloc.invariant.broken c.end_line-line.ensures

pub returns-clause-declares : goal.returns-clause-declares
returns-clause-declares c = λ tokens end ahead.
    all_read c.args.language tokens end c.loop-alloc.window c.loop-alloc.left c.loop-alloc.items.items (c.loop-alloc.invariant.read tokens end ahead)
    (subst (λ (b : Bool). IsLast b c.loop-alloc.window) c.loop-alloc-test.false c.is_last.ensures) (omega (arith, c.if-left-gt0.false))

pub returns-clause-lexed : goal.returns-clause-lexed
returns-clause-lexed c = λ text r.
    reaches_end c.loop-alloc.window (subst (λ (b : Bool). IsLast b c.loop-alloc.window) c.loop-alloc-test.false c.is_last.ensures) text (c.loop-alloc.invariant.reached text r)

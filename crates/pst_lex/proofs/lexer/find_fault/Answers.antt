use Rattle.std.proofs.Common.{◌∷◌, ◌++◌, []}
use Rattle.std.specs.Prelude.{Ok}
use Rattle.std.proofs.lemmas.Result.{err_from_is_err_and}
use Rattle.pst_lex.proofs.Taking.{looked_more, looked_all, looked_bad}
use Rattle.pst_lex.proofs.Unique.{gives_no_fault, gives_fault}
use Rattle.pst_lex.proofs.lexer.find_fault.Goals as goal

pub returns-in_err-token-clause-exact : goal.returns-in_err-token-clause-exact
returns-in_err-token-clause-exact c =
    let p = err_from_is_err_and c.from_residual.result c.from_residual.ensures.1 in
    let (ts, h) = c.loop-token.invariant in
    rw (p.1, p.2) (looked_bad c.args.text.now ts c.loop-token.lexer _ h c.in_err-token.ensures.exact.0)

pub returns-in_err-token-clause-tokens : goal.returns-in_err-token-clause-tokens
returns-in_err-token-clause-tokens c =
    let p = err_from_is_err_and c.from_residual.result c.from_residual.ensures.1 in
    let (ts, h) = c.loop-token.invariant in
    gives_no_fault c.from_residual.result c.args.text.now (rw (p.1, p.2) (looked_bad c.args.text.now ts c.loop-token.lexer _ h c.in_err-token.ensures.exact.0))

pub returns-in_err-token-clause-fault : goal.returns-in_err-token-clause-fault
returns-in_err-token-clause-fault c =
    let p = err_from_is_err_and c.from_residual.result c.from_residual.ensures.1 in
    let (ts, h) = c.loop-token.invariant in
    gives_fault c.from_residual.result c.args.text.now (rw (p.1, p.2) (looked_bad c.args.text.now ts c.loop-token.lexer _ h c.in_err-token.ensures.exact.0))

pub loop-token-preserved : goal.loop-token-preserved
loop-token-preserved c =
    let (ts, h) = c.loop-token.invariant in
    (ts ++ c.in-Some.token ∷ [], looked_more c.args.text.now ts c.in-Some.token c.loop-token.lexer c.next_token.new.self h (rw c.in-Some.is at c.in_ok-token.ensures.exact))

pub returns-clause-exact : goal.returns-clause-exact
returns-clause-exact c =
    let (ts, h) = c.loop-token.invariant in
    looked_all c.args.text.now ts c.loop-token.lexer c.next_token.new.self.line h (rw c.in_default.is at c.in_ok-token.ensures.exact).0

pub returns-clause-fault : goal.returns-clause-fault
returns-clause-fault c = let (ts, h) = c.loop-token.invariant in
    gives_fault (Ok tt) c.args.text.now (looked_all c.args.text.now ts c.loop-token.lexer c.next_token.new.self.line h
    (rw c.in_default.is at c.in_ok-token.ensures.exact).0)

use Rattle.std.proofs.Common.{◌≡◌, ◌<◌, ◌+◌, [], ◌∷◌, length, arith, refl}
use Rattle.std.proofs.lemmas.Result.{err_from_is_err_and}
use Rattle.pst_lex.specs.Lexing.{LexedTo}
use Rattle.pst_lex.proofs.Rows.{skip_fault, take_fault, take_token, skip_end, none_left, zero_test, more_test}
use Rattle.pst_lex.proofs.Taking.{token_of, end_of, no_fault_of}
use Rattle.pst_lex.proofs.lexer.Lexer.next_token.Goals as goal

pub returns-in_err-blank-clause-exact : goal.returns-in_err-blank-clause-exact
returns-in_err-blank-clause-exact c =
    let p = err_from_is_err_and c.from_residual.result c.from_residual.ensures.1 in
    rw (p.1, p.2) (skip_fault _ c.args.self.now.at _ _ c.in_err-blank.ensures, (refl, refl, refl))

pub returns-in_err-blank-clause-left : goal.returns-in_err-blank-clause-left
returns-in_err-blank-clause-left c = λ tokens end h.
    let p = err_from_is_err_and c.from_residual.result c.from_residual.ensures.1 in
    rw p.1 (no_fault_of _ _ _ _ tokens end (skip_fault _ c.args.self.now.at _ _ c.in_err-blank.ensures) h)

pub returns-then-is_empty-clause-left : goal.returns-then-is_empty-clause-left
returns-then-is_empty-clause-left c = λ tokens end h.
    let none = zero_test _ c.if-is_empty.ensures in
    end_of _ _ _ _ (c.args.self.now.at + c.in_ok-blank.blank) _ end tokens
    (skip_end _ c.args.self.now.at _ c.in_ok-blank.blank _ c.in_ok-blank.ensures (rw c.split_at.ensures.back at none)) (none_left _ none) h

pub returns-in_err-kind-clause-left : goal.returns-in_err-kind-clause-left
returns-in_err-kind-clause-left c = λ tokens end h.
    let p = err_from_is_err_and c.from_residual-in_err-kind.result c.from_residual-in_err-kind.ensures.1 in
    let some = more_test _ c.if-is_empty.ensures in
    let more : c.in_ok-blank.blank < length c.args.self.now.rest.now = omega (arith, some, c.split_at.ensures.back_len) in
    rw p.1 (no_fault_of _ _ _ _ tokens end (take_fault _ c.args.self.now.at _ _ _ _ c.in_ok-blank.ensures more (rw c.split_at.ensures.back at c.in_err-kind.ensures)) h)

pub returns-clause-left : goal.returns-clause-left
returns-clause-left c = λ tokens end h.
    let some = more_test _ c.if-is_empty.ensures in
    let more : c.in_ok-blank.blank < length c.args.self.now.rest.now = omega (arith, some, c.split_at.ensures.back_len) in
    let at = c.args.self.now.at in
    let taken : LexedTo (λ r a l. (r ≡ c.split_at-2.result.1.now) × (a ≡ at + c.in_ok-blank.blank + c.in_ok-kind.length) × (l ≡ c.in_ok-blank.line))
    c.args.self.now.rest.now at c.args.self.now.line (c.token.result ∷ []) =
    rw (c.token.ensures, c.split_at-2.ensures.back, c.split_at.ensures.back)
    (take_token c.args.self.now.rest.now at c.args.self.now.line c.in_ok-blank.blank c.in_ok-blank.line c.in_ok-kind.length c.in_ok-kind.kind
    c.in_ok-blank.ensures more (rw c.split_at.ensures.back at c.in_ok-kind.ensures)) in
    token_of _ _ _ _ (at + c.in_ok-blank.blank + c.in_ok-kind.length) c.in_ok-blank.line end c.token.result tokens taken h

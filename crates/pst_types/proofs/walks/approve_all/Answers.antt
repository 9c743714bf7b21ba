use Rattle.std.proofs.Common.{◌≡◌, length, refl, arith}
use Rattle.std.proofs.lemmas.Result.{err_from_is_err_and}
use Rattle.pst_grammar.specs.View.{item_of}
use Rattle.pst_typing.specs.Declarations.{declared}
use Rattle.pst_types_scope.specs.View.{scope_of}
use Rattle.pst_typing.proofs.Through.{goes_on, fails_there, at_end}
use Rattle.pst_types.proofs.walks.approve_all.Goals as goal

pub loop-declaration-init : goal.loop-declaration-init
loop-declaration-init c = λ before. (before, refl)

pub loop-declaration-preserved : goal.loop-declaration-preserved
loop-declaration-preserved c = λ before.
    let (now, left) = c.loop-declaration.invariant before in
    let (next, judged) = c.in_ok-approve_declaration.ensures now in (
      next,
      goes_on (declared (scope_of c.args.scope.now)) item_of c.args.declarations.now _ c.loop-declaration.declaration-index
          c.declaration-item.result now next c.loop-declaration-test.true c.declaration-item.is left judged,
    )

pub returns : goal.returns
returns c = λ before.
    let (now, left) = c.loop-declaration.invariant before in
    let end : c.loop-declaration.declaration-index ≡ length c.args.declarations.now = omega arith in
    (now, at_end (declared (scope_of c.args.scope.now)) item_of c.args.declarations.now _ c.loop-declaration.declaration-index now end left)

pub returns-in_err-approve_declaration : goal.returns-in_err-approve_declaration
returns-in_err-approve_declaration c = λ before.
    let (now, left) = c.loop-declaration.invariant before in
    let p = err_from_is_err_and c.from_residual.result c.from_residual.ensures.1 in
    rw (p.1, p.2) (fails_there (declared (scope_of c.args.scope.now)) item_of c.args.declarations.now _ c.loop-declaration.declaration-index
    c.declaration-item.result now c.in_err-approve_declaration.field-0.0
    c.loop-declaration-test.true c.declaration-item.is left (c.in_err-approve_declaration.ensures now))

use Rattle.std.proofs.lemmas.Result.{err_from_is_err_and}
use Rattle.pst_grammar.specs.View.{item_of}
use Rattle.pst_grammar.specs.declared.lexeme.Sign.TheVariants as sign
use Rattle.pst_parse_expressions.specs.View.{lexemes_of}
use Rattle.pst_parse_statements.proofs.Loops.{stops_bind}
use Rattle.pst_parse_declarations.proofs.Parts.{followed_gives, procedure_stops, procedure_goes}
use Rattle.pst_parse_declarations.proofs.declarations.procedure.Goals as goal

pub returns-in_err-signature-clause-given : goal.returns-in_err-signature-clause-given
returns-in_err-signature-clause-given c =
    let p = err_from_is_err_and c.from_residual.result c.from_residual.ensures.1 in
    rw (p.1, p.2) (procedure_stops c.args.language c.args.height c.args.nesting c.args.line c.args.query (lexemes_of c.args.tokens.now) _ c.in_err-signature.ensures.given)

pub returns-in_err-locals-clause-given : goal.returns-in_err-locals-clause-given
returns-in_err-locals-clause-given c =
    let p = err_from_is_err_and c.from_residual-in_err-locals.result c.from_residual-in_err-locals.ensures.1 in
    rw (
      p.1,
      p.2,
      procedure_goes c.args.language c.args.height c.args.nesting c.args.line c.args.query (lexemes_of c.args.tokens.now) _ _
          c.in_ok-signature.ensures.given,
    ) (stops_bind _ _ _ c.in_err-locals.ensures.given)

pub returns-in_err-body-clause-given : goal.returns-in_err-body-clause-given
returns-in_err-body-clause-given c =
    let p = err_from_is_err_and c.from_residual-in_err-body.result c.from_residual-in_err-body.ensures.1 in
    rw (p.1, p.2, procedure_goes c.args.language c.args.height c.args.nesting c.args.line c.args.query (lexemes_of c.args.tokens.now) _ _ c.in_ok-signature.ensures.given, c.in_ok-locals.ensures.given)
    (stops_bind _ _ _ c.in_err-body.ensures.given)

pub returns-clause-given : goal.returns-clause-given
returns-clause-given c =
    rw (
      procedure_goes c.args.language c.args.height c.args.nesting c.args.line c.args.query (lexemes_of c.args.tokens.now) _ _
          c.in_ok-signature.ensures.given,
      c.in_ok-locals.ensures.given,
      c.in_ok-body.ensures.given,
    )
    (followed_gives item_of _ _ sign.CloseBrace _ c.followed.ensures.given c.followed.ensures.kept)

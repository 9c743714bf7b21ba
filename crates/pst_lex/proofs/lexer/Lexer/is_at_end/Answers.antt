use Rattle.pst_lex.proofs.Taking.{ends_there}
use Rattle.pst_lex.proofs.lexer.Lexer.is_at_end.Goals as goal

pub returns-clause-none_left : goal.returns-clause-none_left
returns-clause-none_left c = ends_there c.is_empty.result c.args.self.now c.is_empty.ensures

use Rattle.std.proofs.Common.{List}
use Rattle.pst_lex.specs.declared.types.Token.{Token}
use Rattle.pst_lex.specs.Pieces.{Leaves}
use Rattle.pst_lex.specs.Taking.{bytes_left}
use Rattle.pst_lex.proofs.lexer.find_fault.Given as goal

abbrev pub invariant-loop-token : goal.invariant-loop-token
invariant-loop-token l = (ts : List Token) × Leaves l.text ts l.lexer.rest.now l.lexer.at l.lexer.line

abbrev pub decreases-loop-token : goal.decreases-loop-token
decreases-loop-token l = bytes_left l.lexer

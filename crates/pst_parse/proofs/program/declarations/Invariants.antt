use Rattle.std.proofs.Common.{◌≡◌, ◌≤◌, ◌⊎◌, ℕ, List, [], length}
use Rattle.pst_parse_expressions.specs.declared.lexeme.Atom.{Atom}
use Rattle.pst_lex.specs.Taking.{bytes_left}
use Rattle.pst_parse_expressions.specs.View.{lexemes_of}
use Rattle.pst_grammar.specs.Reader.{Bad, Unexpected}
use Rattle.pst_grammar.specs.Declarations.{item}
use Rattle.pst_parse.specs.Window.{Ahead, KeepsReached}
use Rattle.pst_parse.specs.Taking.{last}
use Rattle.pst_parse.proofs.Windows.{IsLeft}
use Rattle.pst_parse.proofs.program.declarations.Given as goal

abbrev pub invariant-loop-alloc : goal.invariant-loop-alloc
invariant-loop-alloc l = record {
  reached : KeepsReached l.fn.window l.window;
  within : l.left ≤ length l.window.tokens.items;
  broken : (l.left ≡ 0) ⊎ (item l.language 63 15 (lexemes_of (last l.left l.window.tokens.items)) ≡ Bad Unexpected []);
  read : (tokens : List Atom) (end : ℕ) → Ahead l.fn.window tokens end → IsLeft l.language tokens end l.window l.left l.items.items;
}

abbrev pub decreases-loop-alloc : goal.decreases-loop-alloc
decreases-loop-alloc l = bytes_left l.window.lexer

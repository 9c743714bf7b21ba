use Rattle.std.proofs.Common.{◌≡◌, ◌+◌, ◌≤◌, length}
use Rattle.pst_lex.specs.Taking.{bytes_left}
use Rattle.pst_parse.specs.Window.{KeepsAhead, KeepsReached}
use Rattle.pst_parse.proofs.window.Window.fill.Given as goal

abbrev pub invariant-loop-taken : goal.invariant-loop-taken
invariant-loop-taken l = record {
  ahead : KeepsAhead l.initial.self l.self;
  reached : KeepsReached l.initial.self l.self;
  longer : length l.self.tokens.items ≡ length l.initial.self.tokens.items + l.taken;
  fewer : bytes_left l.self.lexer + l.taken ≤ bytes_left l.initial.self.lexer;
}

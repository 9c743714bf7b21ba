use Rattle.std.proofs.Common.{arith, inr, ◌∷◌, [], refl, ap, length, length-append}
use Rattle.pst_parse.proofs.Windows.{one_more, no_more, no_fault, more_reached, end_reached}
use Rattle.pst_parse.proofs.window.Window.fill.Goals as goal

pub returns-in-Ok-None-clause-ahead : goal.returns-in-Ok-None-clause-ahead
returns-in-Ok-None-clause-ahead c =
    no_more c.args.self.now c.loop-taken.self (record { tokens = c.loop-taken.self.tokens; lexer = c.next_token.new.self })
    c.loop-taken.invariant.ahead (rw c.in-Ok-None.field-0-is at c.in-Ok-None.ensures.left) refl

pub returns-in-Ok-None-clause-reached : goal.returns-in-Ok-None-clause-reached
returns-in-Ok-None-clause-reached c =
    end_reached c.args.self.now c.loop-taken.self (record { tokens = c.loop-taken.self.tokens; lexer = c.next_token.new.self })
    c.loop-taken.invariant.reached (rw c.in-Ok-None.field-0-is at c.in-Ok-None.ensures.exact)

pub returns-in-Err-clause-err : goal.returns-in-Err-clause-err
returns-in-Err-clause-err c = inr (no_fault c.args.self.now c.loop-taken.self c.next_token.new.self c.in-Err.field-0 c.loop-taken.invariant.ahead c.in-Err.ensures.left)

pub returns-then-len-gt-LEAST-clause-reached : goal.returns-then-len-gt-LEAST-clause-reached
returns-then-len-gt-LEAST-clause-reached c =
    more_reached c.args.self.now c.loop-taken.self (record { tokens = c.push.new.self; lexer = c.next_token.new.self }) c.in-Ok-Some.token
    c.loop-taken.invariant.reached (rw c.in-Ok-Some.field-0-is at c.in-Ok-Some.ensures.exact)

pub returns-then-len-gt-LEAST-clause-ahead : goal.returns-then-len-gt-LEAST-clause-ahead
returns-then-len-gt-LEAST-clause-ahead c =
    one_more c.args.self.now c.loop-taken.self (record { tokens = c.push.new.self; lexer = c.next_token.new.self }) c.in-Ok-Some.token
    c.from_token-atom.result c.loop-taken.invariant.ahead (rw c.in-Ok-Some.field-0-is at c.in-Ok-Some.ensures.left)
    c.from_token-atom.ensures c.in_ok-push-in-Ok-Some.ensures.items

pub loop-taken-preserved : goal.loop-taken-preserved
loop-taken-preserved c =
    let more = rw c.in-Ok-Some.field-0-is at c.in-Ok-Some.ensures.fewer in
    let long = ap length c.in_ok-push-in-Ok-Some.ensures.items in
    record {
      ahead = one_more c.args.self.now c.loop-taken.self (record { tokens = c.push.new.self; lexer = c.next_token.new.self }) c.in-Ok-Some.token
          c.from_token-atom.result c.loop-taken.invariant.ahead (rw c.in-Ok-Some.field-0-is at c.in-Ok-Some.ensures.left)
          c.from_token-atom.ensures c.in_ok-push-in-Ok-Some.ensures.items;
      reached = more_reached c.args.self.now c.loop-taken.self (record { tokens = c.push.new.self; lexer = c.next_token.new.self }) c.in-Ok-Some.token
          c.loop-taken.invariant.reached (rw c.in-Ok-Some.field-0-is at c.in-Ok-Some.ensures.exact);
      longer = omega (arith, long, c.loop-taken.invariant.longer, length-append c.loop-taken.self.tokens.items (c.from_token-atom.result ∷ []));
      fewer = omega (arith, more, c.loop-taken.invariant.fewer);
    }

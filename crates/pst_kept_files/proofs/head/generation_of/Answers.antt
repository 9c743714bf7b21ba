use Rattle.std.proofs.Common.{◌≡◌, Some, take, drop, ap, sym, ◌∙◌, arith, rules}
use Rattle.std.specs.Int.{w64, from_be_bytes}
use Rattle.pst_kept_files.proofs.HeadLemmas.{other_gate, too_long, counts_as}
use Rattle.pst_kept_files.proofs.head.generation_of.Goals as goal

pub returns-then-front-ne1 : goal.returns-then-front-ne1
returns-then-front-ne1 c file is len = other_gate c.args.front.now file is (search rules)

pub returns-then-number-len : goal.returns-then-number-len
returns-then-number-len c file is len =
    let told : c.number.result ≡ from_be_bytes w64 (take 8 (drop 9 c.args.front.now)) = c.number.ensures in
    too_long c.args.front.now file is (omega (arith, sym told, len, c.if-number-len.true)) (omega (arith, len))

pub returns : goal.returns
returns c file is len =
    let told : c.number.result ≡ from_be_bytes w64 (take 8 (drop 9 c.args.front.now)) = c.number.ensures in
    let generation : c.number-2.result ≡ from_be_bytes w64 (take 8 (drop 1 c.args.front.now)) = c.number-2.ensures in
    ap Some generation ∙ counts_as c.args.front.now file is (search rules) (omega (arith, sym told, len, c.if-number-len.false)) (omega (arith, len))

use Rattle.std.proofs.Common.{◌≡◌, ◌+◌, take, drop, sym, arith, rules}
use Rattle.std.specs.Int.{w64, from_be_bytes}
use Rattle.pst_kept_files.proofs.HeadLemmas.{long_none, begins_at}
use Rattle.pst_kept_files.proofs.opening.base_in.Goals as goal

pub returns-then-size-bytes-clause-none : goal.returns-then-size-bytes-clause-none
returns-then-size-bytes-clause-none c none =
    let told : c.number-size.result ≡ from_be_bytes w64 (take 8 (drop 9 c.args.bytes.now)) = c.number-size.ensures in
    long_none c.args.bytes.now (omega (arith, sym told, c.if-size-bytes.true)) (omega (arith, c.if-bytes-lt-HEAD.false))

pub returns-clause-some : goal.returns-clause-some
returns-clause-some c =
    let told : c.number-size.result ≡ from_be_bytes w64 (take 8 (drop 9 c.args.bytes.now)) = c.number-size.ensures in
    begins_at c.args.bytes.now (49 + c.number-size.result) (search rules) (omega (arith, told)) (omega (arith, c.if-size-bytes.false, c.if-bytes-lt-HEAD.false))

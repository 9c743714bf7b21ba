use Rattle.std.proofs.Common.{arith}
use Rattle.std.proofs.lemmas.List.{take_rest}
use Rattle.pst_io.proofs.TextLemmas.{first_feed, no_feed}
use Rattle.pst_io.proofs.feed.find_feed.Goals as goal

pub returns-in_err-behind-clause-none : goal.returns-in_err-behind-clause-none
returns-in_err-behind-clause-none c =
    rw c.from_residual.ensures (no_feed c.args.bytes.now _ c.args.searched (take_rest c.args.bytes.now c.args.searched) c.requires.clear c.in_err-behind.ensures)

pub returns-clause-found : goal.returns-clause-found
returns-clause-found c =
    let (none, here) = c.in_ok-behind.ensures in
    (omega arith, first_feed c.args.bytes.now _ c.args.searched c.in_ok-behind.behind (take_rest c.args.bytes.now c.args.searched) c.requires.clear none here)

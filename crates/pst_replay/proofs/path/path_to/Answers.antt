use Rattle.std.proofs.Common.{◌-◌, arith}
use Rattle.pst_replay.proofs.Paths.{path-longer, path-whole}
use Rattle.pst_replay.proofs.path.path_to.Goals as goal

pub loop-at-preserved : goal.loop-at-preserved
loop-at-preserved c =
    let v = c.version_of-at.result in
    let below = c.requires.parents (c.loop-at.at - 1) v c.version_of-at.ensures in
    let whole = c.loop-at.invariant in
    let there = whole.there in
    record {
      there = omega arith;
      path = path-longer c.args.history.now.versions c.loop-at.at c.args.version.0 c.loop-at.path.items c.push.new.self.items v
          c.version_of-at.ensures c.loop-at-test.true whole.there c.in_ok-push.ensures.items whole.path;
    }

pub returns : goal.returns
returns c = path-whole c.args.history.now.versions c.loop-at.at c.args.version.0 c.loop-at.path.items (omega arith) c.loop-at.invariant.path

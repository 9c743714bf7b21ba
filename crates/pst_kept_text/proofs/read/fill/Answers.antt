use Rattle.std.proofs.Common.{◌≡◌, length, ◌∙◌, rules}
use Rattle.pst_kept_text.proofs.ReadLemmas.{filled}
use Rattle.pst_kept_text.proofs.read.fill.Goals as goal

pub returns-clause-bytes : goal.returns-clause-bytes
returns-clause-bytes g c clean =
    let was = c.requires.len (c.read_at.ensures.clean clean) in
    let size : length c.read_at.new.buf ≡ length c.args.bytes.now = search rules in
    filled (g.D.Disk.seen c.args.disk.now) c.read_at.new.buf (size ∙ was) (c.in_ok-read_at.ensures.read clean (search rules))

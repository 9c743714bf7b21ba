use Rattle.std.proofs.Common.{true}
use Rattle.pst_image_front.proofs.Handing.{on_none}
use Rattle.pst_image_front.proofs.front.hand_parts.Goals as goal

pub returns-then-total-eq0-clause-on : goal.returns-then-total-eq0-clause-on
returns-then-total-eq0-clause-on g c = on_none true c.args.lines.now _ c.args.bytes.now.items c.requires.ready

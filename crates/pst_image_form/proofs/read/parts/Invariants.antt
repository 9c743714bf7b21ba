use Rattle.std.proofs.Common.{◌≡◌, ◌-◌}
use Rattle.pst_image_form.specs.Reading.{times}
use Rattle.pst_image_form.proofs.Loop.{with_front}
use Rattle.pst_image_form.proofs.read.parts.Given as goal

abbrev pub invariant-loop : goal.invariant-loop
invariant-loop g l = with_front l.items.items (times g.T.Part.reading (l.count - l.counter) l.rest) ≡ times g.T.Part.reading l.count l.bytes

use Rattle.std.proofs.Common.{◌≡◌, ◌++◌, length, take}
use Rattle.std.specs.List.{flat_map}
use Rattle.pst_image_form.specs.Bytes.{number}
use Rattle.pst_image_form.proofs.write.put_all.Given as goal

abbrev pub invariant-loop-item : goal.invariant-loop-item
invariant-loop-item g l = l.out.items ≡ l.fn.out.items ++ (number (length l.items) ++ flat_map g.T.Written.bytes (take l.item-index l.items))

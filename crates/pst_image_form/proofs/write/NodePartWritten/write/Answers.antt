use Rattle.std.proofs.Common.{◌∙◌, ◌++◌, refl, ap}
use Rattle.pst_image_form.specs.Bytes.{number, counted, stamp_bytes}
use Rattle.pst_image_form.proofs.Writing.{on_ok, behind}
use Rattle.pst_image_form.proofs.write.NodePartWritten.write.Goals as goal

pub returns : goal.returns
returns c = on_ok c.put_all-2.result
    (λ e. behind _ _ _ _ _ _ c.in_ok-put.ensures (ap number c.from.ensures)
    (behind _ _ _ _ _ _ c.in_ok-put-2.ensures (ap number c.from-2.ensures)
    (behind _ _ _ _ _ _ c.in_ok-put-3.ensures (ap number c.from-3.ensures)
    (behind _ _ _ _ _ _ c.in_ok-put-4.ensures (ap number c.from-4.ensures)
    (behind _ _ _ _ _ _ c.in_ok-put-5.ensures (ap number c.from-5.ensures)
    (behind _ _ _ _ _ _ c.in_ok-put-6.ensures refl
    (behind _ _ _ _ _ _ c.in_ok-put_all.ensures (ap (counted number) c.as_slice.ensures)
    (e ∙ ap (λ x. c.put_all.new.out.items ++ counted stamp_bytes x) c.as_slice-2.ensures))))))))
    c.put_all-2.ensures

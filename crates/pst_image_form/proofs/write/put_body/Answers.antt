use Rattle.std.proofs.Common.{◌∙◌, ◌++◌, refl, ap}
use Rattle.pst_image_form.specs.Bytes.{number, counted, text_bytes, version_bytes, node_bytes}
use Rattle.pst_image_form.proofs.Writing.{on_ok, behind}
use Rattle.pst_image_form.proofs.write.put_body.Goals as goal

pub returns : goal.returns
returns c = on_ok c.put_all-2.result
    (λ e. behind _ _ _ _ _ _ (behind _ _ _ _ _ _ c.in_ok-put.ensures refl c.in_ok-extend_from_slice.ensures.items) (ap text_bytes c.as_slice-text.ensures)
    (behind _ _ _ _ _ _ c.in_ok-put-2.ensures (ap number c.from.ensures)
    (behind _ _ _ _ _ _ c.in_ok-put-3.ensures (ap number c.from-2.ensures)
    (behind _ _ _ _ _ _ c.in_ok-put_counts.ensures refl
    (behind _ _ _ _ _ _ c.in_ok-put-4.ensures (ap number c.from-3.ensures)
    (behind _ _ _ _ _ _ c.in_ok-put_all.ensures (ap (counted version_bytes) c.as_slice.ensures)
    (e ∙ ap (λ x. c.put_all.new.out.items ++ counted node_bytes x) c.as_slice-2.ensures)))))))
    c.put_all-2.ensures

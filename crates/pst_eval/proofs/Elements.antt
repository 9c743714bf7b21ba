-- No record has a slot as high as the greatest number of one, so a write of an element's slot may stop there.
use Rattle.std.proofs.Common.{◌≡◌, ℕ, ◌-◌, ◌^◌, min, List, refl, ap, sym, ◌∙◌, arith}
use Rattle.pst_base.specs.declared.names.Name.{Name}
use Rattle.pst_base.specs.declared.shape.TypeShape.{TypeShape}
use Rattle.pst_base.specs.Shape.{IsValid}
use Rattle.pst_program.specs.declared.meaning.Value.{Value}
use Rattle.pst_program.specs.Value.{Env}
use Rattle.pst_program.specs.Meaning.{World, write, write_kind}
use Rattle.pst_eval.proofs.ValueElements.{kept, no_kind}

pub write_kept : (shape : List TypeShape) (n : Name) (slot s : ℕ) (v : Value) (line : ℕ) (env : Env) (w : World) → IsValid shape
    → s ≡ min slot (2 ^ 16 - 1) → write shape n s v line env w ≡ write shape n slot v line env w
write_kept shape n slot s v line env w valid is =
    kept (λ x. write shape n x v line env w ≡ write shape n slot v line env w) slot s is (λ _. refl) (λ above.
    ap (λ o. write_kind shape o n (2 ^ 16 - 1) v line env w) (no_kind shape w.heap n (2 ^ 16 - 1) valid (omega arith))
    ∙ sym (ap (λ o. write_kind shape o n slot v line env w) (no_kind shape w.heap n slot valid (omega arith))))

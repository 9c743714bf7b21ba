use Rattle.std.proofs.Common.{sym, subst}
use Rattle.std.proofs.lemmas.Result.{IfOk-weaker}
use Rattle.pst_machine_steps.specs.declared.register.Register.{Register}
use Rattle.pst_machine_steps.specs.Fields.{MayWriteField, FieldWritten}
use Rattle.pst_machine_steps.proofs.Writing.{reference_written}
use Rattle.pst_machine_steps.proofs.fields.write.Goals as goal

pub returns-in-Reference-clause-ok : goal.returns-in-Reference-clause-ok
returns-in-Reference-clause-ok g c =
    let s = g.H.HeapAt.state c.args.heap.now in
    let t = g.H.HeapAt.state c.write_pointer-in-Reference.new.heap in
    let has = c.known.ensures.written c.args.at c.requires.writable in
    let may = subst (λ (v : Register g.row.H-Ref.Denot). MayWriteField s c.args.at c.args.r c.args.slot.0 v) c.in-Reference.is c.requires in
    IfOk-weaker c.write_pointer-in-Reference.result _ _
    (λ trap d. subst (λ (v : Register g.row.H-Ref.Denot). FieldWritten s c.args.at (s.name c.args.r) c.args.slot.0 v trap t) (sym c.in-Reference.is)
    (reference_written s t c.args.at c.args.r c.in-Reference.target c.args.slot.0 trap has may d))
    c.write_pointer-in-Reference.ensures.ok

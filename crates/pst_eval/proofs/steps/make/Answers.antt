use Rattle.std.proofs.Common.{◌+◌, ◌-◌, arith, ap, ◌∙◌, sym, subst}
use Rattle.pst_base.proofs.WellFormed.{none-from_type}
use Rattle.pst_base.specs.declared.names.Name.{Name}
use Rattle.pst_base.specs.Heap.{OrdinaryHeap, type_in, with_record, new_record}
use Rattle.pst_eval.specs.declared.tally.Tally.{Tally}
use Rattle.pst_eval.specs.Work.{IsAtWork}
use Rattle.pst_eval.proofs.Ready.{record-ready, ready-charged}
use Rattle.pst_eval.proofs.steps.make.Goals as goal

pub make-requires-clause-fresh : goal.make-requires-clause-fresh
make-requires-clause-fresh c =
    let taken = c.charge.ensures.taken c.if-not-charge.false in
    let name : Tally → Name = λ t. record { run = t.run; ordinal = t.made } in
    none-from_type c.args.heap.now.heap c.next_name-name.result
    (ap (λ (n : Name). type_in c.args.heap.now.heap n) (c.next_name-name.ensures ∙ ap name taken.1)
    ∙ c.requires.ready.fresh c.args.tally.now.made (omega arith))

pub returns-clause-ready : goal.returns-clause-ready
returns-clause-ready c =
    let h : OrdinaryHeap = c.args.heap.now in
    let t : Tally = record c.args.tally.now { charges = c.args.tally.now.charges - 1 } in
    let taken = c.charge.ensures.taken c.if-not-charge.false in
    let name : Tally → Name = λ t. record { run = t.run; ordinal = t.made } in
    let P : Tally → Type 0 = λ t. IsAtWork h.shape c.make.new.self (record t { made = t.made + 1; counts = record t.counts { records = t.counts.records + 1 } }) in
    subst P (sym taken.1)
    (record-ready h.shape h c.make.new.self t h.shape c.args.ty (ready-charged h.shape h c.args.tally.now c.requires.ready taken.0)
    (c.in_ok-make.ensures.ok ∙ ap (λ (n : Name). record h { heap = with_record h.heap n (new_record h.shape c.args.ty) }) (c.next_name-name.ensures ∙ ap name taken.1)))

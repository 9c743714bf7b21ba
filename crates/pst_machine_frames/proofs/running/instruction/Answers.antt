use Rattle.std.proofs.Common.{refl, ap, sym, subst, ◌∙◌, ◌+◌, ◌<◌, ℤ, Some, List, All, inl, inr, length, rules, slice_set}
use Rattle.std.proofs.lemmas.Int.{to_z-of_z}
use mir.Syntax.{w64}
use mir.Val.{SFits}
use Rattle.pst_program.specs.declared.meaning.Value.TheVariants.{Number as ANumber}
use Rattle.pst_code.specs.Machine.{Goes, behind}
use Rattle.std.specs.declared.vec.Vec.{Vec}
use Rattle.std.specs.declared.alloc.Global.{Global}
use Rattle.pst_base.specs.Name.{root_name}
use Rattle.pst_machine_steps.specs.declared.register.Register.{Register}
use Rattle.std.specs.Prelude.{slice_get}
use Rattle.pst_base.specs.declared.names.TrapKind.TheVariants.{Null as NullTrap}
use Rattle.pst_base.specs.declared.names.Kind.{Kind}
use Rattle.pst_base.specs.declared.names.Kind.TheVariants.{Int, Pointer}
use Rattle.pst_code.specs.declared.instr.Instr.{Instr}
use Rattle.pst_code.specs.declared.instr.Instr.TheVariants.{Const, Null, Copy, Print, New, Add, Sub, Mul, Div, Rem, Neg, Root, Setroot, Check, Load, Store}
use Rattle.pst_code.specs.declared.instr.Instr.TheVariants.{Bound, Loadx, Storex, Jump, Jumpeq, Jumpne, Jumplt, Jumple, Jumpgt, Jumpge}
use Rattle.pst_machine_steps.specs.declared.standing.Standing.{Standing}
use Rattle.pst_machine_steps.specs.declared.standing.Step.TheVariants.{Trap}
use Rattle.pst_machine_steps.specs.Live.{IsLive}
use Rattle.pst_machine_steps.specs.Calls.{held_in, HoldsNumber}
use Rattle.pst_machine_steps.specs.declared.fields.Element.{Element}
use Rattle.pst_machine_frames.specs.Ready.{step_of, whole, current_of, waiting_of, world_of, Acted}
use Rattle.pst_machine_steps.specs.Steps.{MayStoreElements}
use Rattle.pst_machine_steps.specs.Fields.{FieldIs, ElementsAre}
use Rattle.pst_machine_steps.proofs.Kept.{kept_same}
use Rattle.pst_machine_frames.proofs.Fitting.{fits_here, has_register, has_kind, has_number, has_numbers, has_pointer, copy_there, root_there, load_there}
use Rattle.pst_machine_frames.proofs.Fitting.{load_element_there, store_element_there, set_root_there, store_there, equal_there, unequal_there, root_kind_here}
use Rattle.pst_machine_frames.proofs.Fitting.{load_kind_here, elements_here, make_writable, set_root_writable, store_writable, store_element_writable}
use Rattle.pst_machine_frames.proofs.Fitting.{new_type_here, numbered_here, room_here, fresh_here, target_here, live_here, live_somewhere, write_root_here}
use Rattle.pst_machine_frames.proofs.Fitting.{store_here, store_elements_here}
use Rattle.pst_machine_frames.proofs.Acting.{frame_acted, plain_acted, jump_acted, element_acted, came_acted, came_due, charged_acted, printed_acted}
use Rattle.pst_machine_frames.proofs.Acting.{written_acted, made_acted, null_acted, stored_acted}
use Rattle.pst_machine_frames.proofs.Reading.{on_err}
use Rattle.pst_machine_frames.proofs.running.instruction.Goals as goal

pub make-requires-clause-writable : goal.make-requires-clause-writable
make-requires-clause-writable g c =
    let s = g.H.HeapAt.state c.args.heap.now in
    let a = whole c.args.standing.now c.args.frame.now c.args.left.now in
    let parts = c.args.code.now in
    make_writable parts s a c.requires.valid c.requires.running c.in-New.d c.in-New.ty (c.requires.instr ∙ ap (λ (i : Instr). Some i) c.in-New.is)

pub make-requires-clause-known_type : goal.make-requires-clause-known_type
make-requires-clause-known_type g c =
    let s = g.H.HeapAt.state c.args.heap.now in
    let a = whole c.args.standing.now c.args.frame.now c.args.left.now in
    let parts = c.args.code.now in
    new_type_here parts s a c.requires.valid c.requires.running c.in-New.d c.in-New.ty (c.requires.instr ∙ ap (λ (i : Instr). Some i) c.in-New.is)

pub make-requires-clause-numbered : goal.make-requires-clause-numbered
make-requires-clause-numbered g c =
    let s = g.H.HeapAt.state c.args.heap.now in
    let a = whole c.args.standing.now c.args.frame.now c.args.left.now in
    let parts = c.args.code.now in
    numbered_here parts s a c.requires.valid c.requires.running c.in-New.d c.in-New.ty c.requires.funded (c.requires.instr ∙ ap (λ (i : Instr). Some i) c.in-New.is)

pub make-requires-clause-room : goal.make-requires-clause-room
make-requires-clause-room g c =
    let s = g.H.HeapAt.state c.args.heap.now in
    let a = whole c.args.standing.now c.args.frame.now c.args.left.now in
    let parts = c.args.code.now in
    room_here parts s a c.requires.valid c.requires.running c.requires.funded

pub make-requires-clause-fresh : goal.make-requires-clause-fresh
make-requires-clause-fresh g c =
    let s = g.H.HeapAt.state c.args.heap.now in
    let a = whole c.args.standing.now c.args.frame.now c.args.left.now in
    let parts = c.args.code.now in
    fresh_here parts s a c.requires.valid c.requires.running

pub set_root-requires-clause-may : goal.set_root-requires-clause-may
set_root-requires-clause-may g c =
    let s = g.H.HeapAt.state c.args.heap.now in
    let a = whole c.args.standing.now c.args.frame.now c.args.left.now in
    let parts = c.args.code.now in
    write_root_here parts s a c.requires.valid c.requires.running c.in-Setroot.slot c.in-Setroot.s c.requires.funded (c.requires.instr ∙ ap (λ (i : Instr). Some i) c.in-Setroot.is)

pub store-requires-clause-may : goal.store-requires-clause-may
store-requires-clause-may g c =
    let s = g.H.HeapAt.state c.args.heap.now in
    let a = whole c.args.standing.now c.args.frame.now c.args.left.now in
    let parts = c.args.code.now in
    store_here parts s a c.requires.valid c.requires.running c.in-Store.o c.in-Store.s c.in-Store.slot c.requires.funded (c.requires.instr ∙ ap (λ (i : Instr). Some i) c.in-Store.is)

pub jump_equal-requires-clause-a : goal.jump_equal-requires-clause-a
jump_equal-requires-clause-a g c =
    let s = g.H.HeapAt.state c.args.heap.now in
    let a = whole c.args.standing.now c.args.frame.now c.args.left.now in
    let parts = c.args.code.now in
    live_somewhere s a.place (held_in a.current c.in-Jumpeq.a) (live_here parts s a c.requires.valid c.requires.running c.in-Jumpeq.a)

pub jump_equal-requires-clause-b : goal.jump_equal-requires-clause-b
jump_equal-requires-clause-b g c =
    let s = g.H.HeapAt.state c.args.heap.now in
    let a = whole c.args.standing.now c.args.frame.now c.args.left.now in
    let parts = c.args.code.now in
    live_somewhere s a.place (held_in a.current c.in-Jumpeq.b) (live_here parts s a c.requires.valid c.requires.running c.in-Jumpeq.b)

pub jump_unequal-requires-clause-a : goal.jump_unequal-requires-clause-a
jump_unequal-requires-clause-a g c =
    let s = g.H.HeapAt.state c.args.heap.now in
    let a = whole c.args.standing.now c.args.frame.now c.args.left.now in
    let parts = c.args.code.now in
    live_somewhere s a.place (held_in a.current c.in-Jumpne.a) (live_here parts s a c.requires.valid c.requires.running c.in-Jumpne.a)

pub jump_unequal-requires-clause-b : goal.jump_unequal-requires-clause-b
jump_unequal-requires-clause-b g c =
    let s = g.H.HeapAt.state c.args.heap.now in
    let a = whole c.args.standing.now c.args.frame.now c.args.left.now in
    let parts = c.args.code.now in
    live_somewhere s a.place (held_in a.current c.in-Jumpne.b) (live_here parts s a c.requires.valid c.requires.running c.in-Jumpne.b)

pub returns-in-Charge-clause-acted : goal.returns-in-Charge-clause-acted
returns-in-Charge-clause-acted g c =
    let s = g.H.HeapAt.state c.args.heap.now in
    let a = whole c.args.standing.now c.args.frame.now c.args.left.now in
    let parts = c.args.code.now in
    came_acted c.flow_of.ensures.came
    (subst (λ (i : Instr). Acted parts s a i c.take_charge.result s (record a { left = c.take_charge.new.left; current = c.take_charge.new.frame })) (sym c.in-Charge.is)
    (charged_acted parts s a c.requires.running.live c.in-Charge.line c.take_charge.result c.take_charge.new.left c.take_charge.new.frame c.take_charge.ensures.charged))

pub returns-in-Jumpeq-clause-acted : goal.returns-in-Jumpeq-clause-acted
returns-in-Jumpeq-clause-acted g c =
    let s = g.H.HeapAt.state c.args.heap.now in
    let a = whole c.args.standing.now c.args.frame.now c.args.left.now in
    let parts = c.args.code.now in
    came_acted c.flow_behind-in-Jumpeq.ensures.came
    (subst (λ (i : Instr). Acted parts s a i c.jump_equal.result s (record a { current = c.jump_equal.new.frame })) (sym c.in-Jumpeq.is)
    (frame_acted parts s a c.requires.running.live c.jump_equal.new.frame (Jumpeq c.in-Jumpeq.a c.in-Jumpeq.b c.in-Jumpeq.to) c.jump_equal.result
    (c.jump_equal.ensures.acts parts (waiting_of parts s a) (world_of s a))
    (subst (λ (xs : Vec (Register g.row.H-Ref.Denot) Global). All (IsLive s a.place) xs.items) (sym c.jump_equal.ensures.registers) c.requires.running.live.current) c.jump_equal.ensures.same))

pub returns-in-Jumpne-clause-acted : goal.returns-in-Jumpne-clause-acted
returns-in-Jumpne-clause-acted g c =
    let s = g.H.HeapAt.state c.args.heap.now in
    let a = whole c.args.standing.now c.args.frame.now c.args.left.now in
    let parts = c.args.code.now in
    came_acted c.flow_behind-in-Jumpne.ensures.came
    (subst (λ (i : Instr). Acted parts s a i c.jump_unequal.result s (record a { current = c.jump_unequal.new.frame })) (sym c.in-Jumpne.is)
    (frame_acted parts s a c.requires.running.live c.jump_unequal.new.frame (Jumpne c.in-Jumpne.a c.in-Jumpne.b c.in-Jumpne.to) c.jump_unequal.result
    (c.jump_unequal.ensures.acts parts (waiting_of parts s a) (world_of s a))
    (subst (λ (xs : Vec (Register g.row.H-Ref.Denot) Global). All (IsLive s a.place) xs.items) (sym c.jump_unequal.ensures.registers) c.requires.running.live.current) c.jump_unequal.ensures.same))

pub returns-in-Root-clause-acted : goal.returns-in-Root-clause-acted
returns-in-Root-clause-acted g c =
    let s = g.H.HeapAt.state c.args.heap.now in
    let a = whole c.args.standing.now c.args.frame.now c.args.left.now in
    let parts = c.args.code.now in
    came_acted c.flow_of-in-Root.ensures.came
    (subst (λ (i : Instr). Acted parts s a i c.root.result s (record a { current = c.root.new.frame })) (sym c.in-Root.is)
    (frame_acted parts s a c.requires.running.live c.root.new.frame (Root c.in-Root.d c.in-Root.slot) c.root.result
    (c.root.ensures.acts parts (waiting_of parts s a) (world_of s a) c.requires.running.shape refl)
    (c.root.ensures.live c.requires.running.live.current) c.root.ensures.same))

pub returns-in-Load-clause-acted : goal.returns-in-Load-clause-acted
returns-in-Load-clause-acted g c =
    let s = g.H.HeapAt.state c.args.heap.now in
    let a = whole c.args.standing.now c.args.frame.now c.args.left.now in
    let parts = c.args.code.now in
    came_acted c.flow_of-in-Load.ensures.came
    (subst (λ (i : Instr). Acted parts s a i c.load.result s (record a { current = c.load.new.frame })) (sym c.in-Load.is)
    (frame_acted parts s a c.requires.running.live c.load.new.frame (Load c.in-Load.d c.in-Load.o c.in-Load.slot) c.load.result
    (c.load.ensures.acts parts (waiting_of parts s a) (world_of s a) c.requires.running.shape refl) c.load.ensures.live c.load.ensures.same))

pub returns-in_ok-print-in-Print-clause-acted : goal.returns-in_ok-print-in-Print-clause-acted
returns-in_ok-print-in-Print-clause-acted g c =
    let s = g.H.HeapAt.state c.args.heap.now in
    let a = whole c.args.standing.now c.args.frame.now c.args.left.now in
    let parts = c.args.code.now in
    let step = c.in_ok-print-in-Print.field-0 in
    came_acted c.flow_behind-in-Print.ensures.came
    (subst (λ (i : Instr). Acted parts s a i step s (record a { printed = c.print.new.printed })) (sym c.in-Print.is)
    (printed_acted parts s a c.requires.running.live c.in-Print.s step c.print.new.printed (c.in_ok-print-in-Print.ensures parts s.name)))

pub returns-in_err-make-in-New-clause-reads : goal.returns-in_err-make-in-New-clause-reads
returns-in_err-make-in-New-clause-reads g c =
    let s = g.H.HeapAt.state c.args.heap.now in
    let a = whole c.args.standing.now c.args.frame.now c.args.left.now in
    let parts = c.args.code.now in
    on_err c.from_residual-in_err-make-in-New.result (λ closed. absurd
    (closed (make_writable parts s a c.requires.valid c.requires.running c.in-New.d c.in-New.ty
    (c.requires.instr ∙ ap (λ (i : Instr). Some i) c.in-New.is))))

pub root-requires-clause-kind : goal.root-requires-clause-kind
root-requires-clause-kind g c =
    let s = g.H.HeapAt.state c.args.heap.now in
    let a = whole c.args.standing.now c.args.frame.now c.args.left.now in
    let parts = c.args.code.now in
    root_kind_here parts s a c.requires.valid c.requires.running c.in-Root.d c.in-Root.slot (c.requires.instr ∙ ap (λ (i : Instr). Some i) c.in-Root.is)
    ∙ ap (λ (ks : List Kind). slice_get ks c.in-Root.d.0) (sym c.requires.kinds)

pub load-requires-clause-kind : goal.load-requires-clause-kind
load-requires-clause-kind g c =
    let s = g.H.HeapAt.state c.args.heap.now in
    let a = whole c.args.standing.now c.args.frame.now c.args.left.now in
    let parts = c.args.code.now in
    subst (λ (ks : List Kind). FieldIs s a.place (slice_get ks c.in-Load.d.0) c.in-Load.slot.0 (held_in a.current c.in-Load.o)) (sym c.requires.kinds)
    (load_kind_here parts s a c.requires.valid c.requires.running c.in-Load.d c.in-Load.o c.in-Load.slot (c.requires.instr ∙ ap (λ (i : Instr). Some i) c.in-Load.is))

pub returns-in-Null-clause-acted : goal.returns-in-Null-clause-acted
returns-in-Null-clause-acted g c =
    let s = g.H.HeapAt.state c.args.heap.now in
    let a = whole c.args.standing.now c.args.frame.now c.args.left.now in
    let parts = c.args.code.now in
    came_acted c.flow_of-in-Null.ensures.came
    (subst (λ (i : Instr). Acted parts s a i c.set-in-Null.result s (record a { current = c.set-in-Null.new.frame })) (sym c.in-Null.is)
    (plain_acted parts s a c.requires.running.live c.set-in-Null.new.frame (Null c.in-Null.d) c.set-in-Null.result
    (c.set-in-Null.ensures.acts s.name parts (waiting_of parts s a) (world_of s a)) (c.set-in-Null.ensures.kept tt) c.set-in-Null.ensures.same))

pub returns-in-Copy-clause-acted : goal.returns-in-Copy-clause-acted
returns-in-Copy-clause-acted g c =
    let s = g.H.HeapAt.state c.args.heap.now in
    let a = whole c.args.standing.now c.args.frame.now c.args.left.now in
    let parts = c.args.code.now in
    came_acted c.flow_of-in-Copy.ensures.came
    (subst (λ (i : Instr). Acted parts s a i c.copy.result s (record a { current = c.copy.new.frame })) (sym c.in-Copy.is)
    (plain_acted parts s a c.requires.running.live c.copy.new.frame (Copy c.in-Copy.d c.in-Copy.s) c.copy.result
    (c.copy.ensures.acts s.name parts (waiting_of parts s a) (world_of s a)) c.copy.ensures.kept c.copy.ensures.same))

pub returns-in-Add-clause-acted : goal.returns-in-Add-clause-acted
returns-in-Add-clause-acted g c =
    let s = g.H.HeapAt.state c.args.heap.now in
    let a = whole c.args.standing.now c.args.frame.now c.args.left.now in
    let parts = c.args.code.now in
    came_acted c.flow_of-in-Add.ensures.came
    (subst (λ (i : Instr). Acted parts s a i c.apply.result s (record a { current = c.apply.new.frame })) (sym c.in-Add.is)
    (plain_acted parts s a c.requires.running.live c.apply.new.frame (Add c.in-Add.d c.in-Add.a c.in-Add.b) c.apply.result
    (c.apply.ensures.acts s.name parts (waiting_of parts s a) (world_of s a)) c.apply.ensures.kept c.apply.ensures.same))

pub returns-in-Sub-clause-acted : goal.returns-in-Sub-clause-acted
returns-in-Sub-clause-acted g c =
    let s = g.H.HeapAt.state c.args.heap.now in
    let a = whole c.args.standing.now c.args.frame.now c.args.left.now in
    let parts = c.args.code.now in
    came_acted c.flow_of-in-Sub.ensures.came
    (subst (λ (i : Instr). Acted parts s a i c.apply-in-Sub.result s (record a { current = c.apply-in-Sub.new.frame })) (sym c.in-Sub.is)
    (plain_acted parts s a c.requires.running.live c.apply-in-Sub.new.frame (Sub c.in-Sub.d c.in-Sub.a c.in-Sub.b) c.apply-in-Sub.result
    (c.apply-in-Sub.ensures.acts s.name parts (waiting_of parts s a) (world_of s a)) c.apply-in-Sub.ensures.kept c.apply-in-Sub.ensures.same))

pub returns-in-Mul-clause-acted : goal.returns-in-Mul-clause-acted
returns-in-Mul-clause-acted g c =
    let s = g.H.HeapAt.state c.args.heap.now in
    let a = whole c.args.standing.now c.args.frame.now c.args.left.now in
    let parts = c.args.code.now in
    came_acted c.flow_of-in-Mul.ensures.came
    (subst (λ (i : Instr). Acted parts s a i c.apply-in-Mul.result s (record a { current = c.apply-in-Mul.new.frame })) (sym c.in-Mul.is)
    (plain_acted parts s a c.requires.running.live c.apply-in-Mul.new.frame (Mul c.in-Mul.d c.in-Mul.a c.in-Mul.b) c.apply-in-Mul.result
    (c.apply-in-Mul.ensures.acts s.name parts (waiting_of parts s a) (world_of s a)) c.apply-in-Mul.ensures.kept c.apply-in-Mul.ensures.same))

pub returns-in-Div-clause-acted : goal.returns-in-Div-clause-acted
returns-in-Div-clause-acted g c =
    let s = g.H.HeapAt.state c.args.heap.now in
    let a = whole c.args.standing.now c.args.frame.now c.args.left.now in
    let parts = c.args.code.now in
    came_acted c.flow_behind.ensures.came
    (subst (λ (i : Instr). Acted parts s a i c.apply-in-Div.result s (record a { current = c.apply-in-Div.new.frame })) (sym c.in-Div.is)
    (plain_acted parts s a c.requires.running.live c.apply-in-Div.new.frame (Div c.in-Div.d c.in-Div.a c.in-Div.b) c.apply-in-Div.result
    (c.apply-in-Div.ensures.acts s.name parts (waiting_of parts s a) (world_of s a)) c.apply-in-Div.ensures.kept c.apply-in-Div.ensures.same))

pub returns-in-Rem-clause-acted : goal.returns-in-Rem-clause-acted
returns-in-Rem-clause-acted g c =
    let s = g.H.HeapAt.state c.args.heap.now in
    let a = whole c.args.standing.now c.args.frame.now c.args.left.now in
    let parts = c.args.code.now in
    came_acted c.flow_of-in-Rem.ensures.came
    (subst (λ (i : Instr). Acted parts s a i c.apply-in-Rem.result s (record a { current = c.apply-in-Rem.new.frame })) (sym c.in-Rem.is)
    (plain_acted parts s a c.requires.running.live c.apply-in-Rem.new.frame (Rem c.in-Rem.d c.in-Rem.a c.in-Rem.b) c.apply-in-Rem.result
    (c.apply-in-Rem.ensures.acts s.name parts (waiting_of parts s a) (world_of s a)) c.apply-in-Rem.ensures.kept c.apply-in-Rem.ensures.same))

pub returns-in-Neg-clause-acted : goal.returns-in-Neg-clause-acted
returns-in-Neg-clause-acted g c =
    let s = g.H.HeapAt.state c.args.heap.now in
    let a = whole c.args.standing.now c.args.frame.now c.args.left.now in
    let parts = c.args.code.now in
    came_acted c.flow_behind-in-Neg.ensures.came
    (subst (λ (i : Instr). Acted parts s a i c.negate.result s (record a { current = c.negate.new.frame })) (sym c.in-Neg.is)
    (plain_acted parts s a c.requires.running.live c.negate.new.frame (Neg c.in-Neg.d c.in-Neg.a) c.negate.result
    (c.negate.ensures.acts s.name parts (waiting_of parts s a) (world_of s a)) c.negate.ensures.kept c.negate.ensures.same))

pub returns-in-Const-clause-acted : goal.returns-in-Const-clause-acted
returns-in-Const-clause-acted g c =
    let s = g.H.HeapAt.state c.args.heap.now in
    let a = whole c.args.standing.now c.args.frame.now c.args.left.now in
    let parts = c.args.code.now in
    let f = current_of parts s a in
    let fits : SFits w64 c.in-Const.n = search rules in
    came_acted c.flow_of-in-Const.ensures.came
    (subst (λ (i : Instr). Acted parts s a i c.set.result s (record a { current = c.set.new.frame })) (sym c.in-Const.is)
    (plain_acted parts s a c.requires.running.live c.set.new.frame (Const c.in-Const.d c.in-Const.n) c.set.result
    (ap (λ (n : ℤ). Goes (behind f (slice_set f.registers c.in-Const.d.0 (ANumber n))) (waiting_of parts s a) (world_of s a))
    (sym (to_z-of_z w64 c.in-Const.n fits)) ∙ c.set.ensures.acts s.name parts (waiting_of parts s a) (world_of s a))
    (c.set.ensures.kept tt) c.set.ensures.same))

pub returns-in-Check-clause-acted : goal.returns-in-Check-clause-acted
returns-in-Check-clause-acted g c =
    let s = g.H.HeapAt.state c.args.heap.now in
    let a = whole c.args.standing.now c.args.frame.now c.args.left.now in
    let parts = c.args.code.now in
    came_acted c.flow_behind-in-Check.ensures.came
    (subst (λ (i : Instr). Acted parts s a i c.check.result s a) (sym c.in-Check.is)
    (plain_acted parts s a c.requires.running.live a.current (Check c.in-Check.o) c.check.result
    (c.check.ensures.acts s.name parts (waiting_of parts s a) (world_of s a)) (kept_same a.current.registers.items) refl))

pub returns-in-Bound-clause-acted : goal.returns-in-Bound-clause-acted
returns-in-Bound-clause-acted g c =
    let s = g.H.HeapAt.state c.args.heap.now in
    let a = whole c.args.standing.now c.args.frame.now c.args.left.now in
    let parts = c.args.code.now in
    came_acted c.flow_behind-in-Bound.ensures.came
    (subst (λ (i : Instr). Acted parts s a i c.bound.result s a) (sym c.in-Bound.is)
    (plain_acted parts s a c.requires.running.live a.current (Bound c.in-Bound.i c.in-Bound.elements) c.bound.result
    (c.bound.ensures.acts s.name parts (waiting_of parts s a) (world_of s a)) (kept_same a.current.registers.items) refl))

pub returns-in-Jump-clause-acted : goal.returns-in-Jump-clause-acted
returns-in-Jump-clause-acted g c =
    let s = g.H.HeapAt.state c.args.heap.now in
    let a = whole c.args.standing.now c.args.frame.now c.args.left.now in
    let parts = c.args.code.now in
    came_acted c.flow_of-in-Jump.ensures.came
    (subst (λ (i : Instr). Acted parts s a i c.jump.result s (record a { current = c.jump.new.frame })) (sym c.in-Jump.is)
    (jump_acted parts s a c.requires.running.live c.jump.new.frame (Jump c.in-Jump.to) c.jump.result
    (c.jump.ensures.acts s.name parts (waiting_of parts s a) (world_of s a)) c.jump.ensures.registers c.jump.ensures.same))

pub returns-in-Jumplt-clause-acted : goal.returns-in-Jumplt-clause-acted
returns-in-Jumplt-clause-acted g c =
    let s = g.H.HeapAt.state c.args.heap.now in
    let a = whole c.args.standing.now c.args.frame.now c.args.left.now in
    let parts = c.args.code.now in
    came_acted c.flow_of-in-Jumplt.ensures.came
    (subst (λ (i : Instr). Acted parts s a i c.jump_less.result s (record a { current = c.jump_less.new.frame })) (sym c.in-Jumplt.is)
    (jump_acted parts s a c.requires.running.live c.jump_less.new.frame (Jumplt c.in-Jumplt.a c.in-Jumplt.b c.in-Jumplt.to) c.jump_less.result
    (c.jump_less.ensures.acts s.name parts (waiting_of parts s a) (world_of s a)) c.jump_less.ensures.registers c.jump_less.ensures.same))

pub returns-in-Jumple-clause-acted : goal.returns-in-Jumple-clause-acted
returns-in-Jumple-clause-acted g c =
    let s = g.H.HeapAt.state c.args.heap.now in
    let a = whole c.args.standing.now c.args.frame.now c.args.left.now in
    let parts = c.args.code.now in
    came_acted c.flow_of-in-Jumple.ensures.came
    (subst (λ (i : Instr). Acted parts s a i c.jump_at_most.result s (record a { current = c.jump_at_most.new.frame })) (sym c.in-Jumple.is)
    (jump_acted parts s a c.requires.running.live c.jump_at_most.new.frame (Jumple c.in-Jumple.a c.in-Jumple.b c.in-Jumple.to) c.jump_at_most.result
    (c.jump_at_most.ensures.acts s.name parts (waiting_of parts s a) (world_of s a)) c.jump_at_most.ensures.registers c.jump_at_most.ensures.same))

pub returns-in-Jumpgt-clause-acted : goal.returns-in-Jumpgt-clause-acted
returns-in-Jumpgt-clause-acted g c =
    let s = g.H.HeapAt.state c.args.heap.now in
    let a = whole c.args.standing.now c.args.frame.now c.args.left.now in
    let parts = c.args.code.now in
    came_acted c.flow_of-in-Jumpgt.ensures.came
    (subst (λ (i : Instr). Acted parts s a i c.jump_less-in-Jumpgt.result s (record a { current = c.jump_less-in-Jumpgt.new.frame })) (sym c.in-Jumpgt.is)
    (jump_acted parts s a c.requires.running.live c.jump_less-in-Jumpgt.new.frame (Jumpgt c.in-Jumpgt.a c.in-Jumpgt.b c.in-Jumpgt.to)
    c.jump_less-in-Jumpgt.result (c.jump_less-in-Jumpgt.ensures.acts s.name parts (waiting_of parts s a) (world_of s a))
    c.jump_less-in-Jumpgt.ensures.registers c.jump_less-in-Jumpgt.ensures.same))

pub returns-in-Jumpge-clause-acted : goal.returns-in-Jumpge-clause-acted
returns-in-Jumpge-clause-acted g c =
    let s = g.H.HeapAt.state c.args.heap.now in
    let a = whole c.args.standing.now c.args.frame.now c.args.left.now in
    let parts = c.args.code.now in
    came_acted c.flow_of-in-Jumpge.ensures.came
    (subst (λ (i : Instr). Acted parts s a i c.jump_at_most-in-Jumpge.result s (record a { current = c.jump_at_most-in-Jumpge.new.frame })) (sym c.in-Jumpge.is)
    (jump_acted parts s a c.requires.running.live c.jump_at_most-in-Jumpge.new.frame (Jumpge c.in-Jumpge.a c.in-Jumpge.b c.in-Jumpge.to)
    c.jump_at_most-in-Jumpge.result (c.jump_at_most-in-Jumpge.ensures.acts s.name parts (waiting_of parts s a) (world_of s a))
    c.jump_at_most-in-Jumpge.ensures.registers c.jump_at_most-in-Jumpge.ensures.same))

pub load_element-requires-clause-kind : goal.load_element-requires-clause-kind
load_element-requires-clause-kind g c =
    let s = g.H.HeapAt.state c.args.heap.now in
    let a = whole c.args.standing.now c.args.frame.now c.args.left.now in
    let parts = c.args.code.now in
    let i = c.in-Loadx in
    subst (λ (e : Element). ElementsAre s a.place (slice_get c.args.kinds.now i.d.0) e.first.0 e.elements (held_in a.current i.o)) (sym c.new-element.ensures)
    (subst (λ (ks : List Kind). ElementsAre s a.place (slice_get ks i.d.0) i.first.0 i.elements (held_in a.current i.o)) (sym c.requires.kinds)
    (elements_here parts s a c.requires.valid c.requires.running i.d i.o i.i i.first i.elements (c.requires.instr ∙ ap (λ (i : Instr). Some i) c.in-Loadx.is)))

pub store_element-requires-clause-may : goal.store_element-requires-clause-may
store_element-requires-clause-may g c =
    let s = g.H.HeapAt.state c.args.heap.now in
    let a = whole c.args.standing.now c.args.frame.now c.args.left.now in
    let parts = c.args.code.now in
    let i = c.in-Storex in
    subst (λ (e : Element). MayStoreElements s a.place (held_in a.current i.o) e.first.0 e.elements (held_in a.current i.s)) (sym c.new-element-in-Storex.ensures)
    (store_elements_here parts s a c.requires.valid c.requires.running i.o i.i i.s i.first i.elements c.requires.funded (c.requires.instr ∙ ap (λ (i : Instr). Some i) c.in-Storex.is))

pub returns-in_ok-set_root-in-Setroot-clause-acted : goal.returns-in_ok-set_root-in-Setroot-clause-acted
returns-in_ok-set_root-in-Setroot-clause-acted g c =
    let s = g.H.HeapAt.state c.args.heap.now in
    let a = whole c.args.standing.now c.args.frame.now c.args.left.now in
    let parts = c.args.code.now in
    let t = g.H.HeapAt.state c.set_root.new.heap in
    let trap = c.in_ok-set_root-in-Setroot.field-0 in
    came_acted c.written.ensures.came
    (subst (λ (i : Instr). Acted parts s a i (step_of trap) t a) (sym c.in-Setroot.is)
    (written_acted parts s t a c.requires.running.live (Setroot c.in-Setroot.slot c.in-Setroot.s) root_name c.in-Setroot.slot.0 c.in-Setroot.s trap
    c.requires.running.shape refl c.in_ok-set_root-in-Setroot.ensures.ok))

pub returns-in_ok-store-in-Store-clause-acted : goal.returns-in_ok-store-in-Store-clause-acted
returns-in_ok-store-in-Store-clause-acted g c =
    let s = g.H.HeapAt.state c.args.heap.now in
    let a = whole c.args.standing.now c.args.frame.now c.args.left.now in
    let parts = c.args.code.now in
    let t = g.H.HeapAt.state c.store.new.heap in
    let instr = Store c.in-Store.o c.in-Store.slot c.in-Store.s in
    let trap = c.in_ok-store-in-Store.field-0 in
    came_acted c.written-in-Store.ensures.came
    (subst (λ (i : Instr). Acted parts s a i (step_of trap) t a) (sym c.in-Store.is)
    (stored_acted parts s a c.requires.running.live t c.in-Store.o c.in-Store.s c.in-Store.slot trap (held_in a.current c.in-Store.o) refl c.requires.running.shape c.in_ok-store-in-Store.ensures.ok
    (λ plain. subst (λ (h : g.row.H.Denot). Acted parts s a instr (Trap NullTrap) (g.H.HeapAt.state h) a)
    (sym (c.in_ok-store-in-Store.ensures.null plain)) (null_acted parts s a c.requires.running.live c.in-Store.o c.in-Store.s c.in-Store.slot plain))))

pub returns-in-Loadx-clause-acted : goal.returns-in-Loadx-clause-acted
returns-in-Loadx-clause-acted g c =
    let s = g.H.HeapAt.state c.args.heap.now in
    let a = whole c.args.standing.now c.args.frame.now c.args.left.now in
    let parts = c.args.code.now in
    let i = c.in-Loadx in
    let e = c.new-element.result in
    let f = c.load_element.new.frame in
    came_acted c.flow_behind-in-Loadx.ensures.came
    (subst (λ (instr : Instr). Acted parts s a instr c.load_element.result s (record a { current = f }))
    (ap (λ (e : Element). Loadx i.d i.o e.first e.elements e.index) c.new-element.ensures ∙ sym i.is)
    (frame_acted parts s a c.requires.running.live f (Loadx i.d i.o e.first e.elements e.index) c.load_element.result
    (c.load_element.ensures.acts parts (waiting_of parts s a) (world_of s a) c.requires.running.shape refl) c.load_element.ensures.live c.load_element.ensures.same))

pub returns-in_ok-store_element-in-Storex-clause-acted : goal.returns-in_ok-store_element-in-Storex-clause-acted
returns-in_ok-store_element-in-Storex-clause-acted g c =
    let s = g.H.HeapAt.state c.args.heap.now in
    let a = whole c.args.standing.now c.args.frame.now c.args.left.now in
    let parts = c.args.code.now in
    let i = c.in-Storex in
    let e = c.new-element-in-Storex.result in
    let t = g.H.HeapAt.state c.store_element.new.heap in
    let instr = Storex i.o e.first e.elements e.index i.s in
    let trap = c.in_ok-store_element-in-Storex.field-0 in
    came_acted c.written-in-Storex.ensures.came
    (subst (λ (instr : Instr). Acted parts s a instr (step_of trap) t a) (ap (λ (e : Element). Storex i.o e.first e.elements e.index i.s) c.new-element-in-Storex.ensures ∙ sym i.is)
    (element_acted parts s t a c.requires.running.live i.o i.s e.index e.first e.elements c.requires.running.shape trap c.in_ok-store_element-in-Storex.ensures.ok
    (λ refused step acted. subst (λ (h : g.row.H.Denot). Acted parts s a instr step (g.H.HeapAt.state h) a) (sym (c.in_ok-store_element-in-Storex.ensures.refused refused)) acted)))

pub returns-in_err-set_root-in-Setroot-clause-reads : goal.returns-in_err-set_root-in-Setroot-clause-reads
returns-in_err-set_root-in-Setroot-clause-reads g c =
    let s = g.H.HeapAt.state c.args.heap.now in
    let a = whole c.args.standing.now c.args.frame.now c.args.left.now in
    let parts = c.args.code.now in
    on_err c.from_residual.result (λ closed. absurd (closed (set_root_writable parts s a c.requires.valid c.requires.running c.in-Setroot.slot
    c.in-Setroot.s (c.requires.instr ∙ ap (λ (i : Instr). Some i) c.in-Setroot.is))))

pub returns-in_err-store-in-Store-clause-reads : goal.returns-in_err-store-in-Store-clause-reads
returns-in_err-store-in-Store-clause-reads g c =
    let s = g.H.HeapAt.state c.args.heap.now in
    let a = whole c.args.standing.now c.args.frame.now c.args.left.now in
    let parts = c.args.code.now in
    on_err c.from_residual-in_err-store-in-Store.result (λ closed. absurd
    (closed (store_writable parts s a c.requires.valid c.requires.running c.in-Store.o c.in-Store.s c.in-Store.slot
    (c.requires.instr ∙ ap (λ (i : Instr). Some i) c.in-Store.is))))

pub returns-in_err-store_element-in-Storex-clause-reads : goal.returns-in_err-store_element-in-Storex-clause-reads
returns-in_err-store_element-in-Storex-clause-reads g c =
    let s = g.H.HeapAt.state c.args.heap.now in
    let a = whole c.args.standing.now c.args.frame.now c.args.left.now in
    let parts = c.args.code.now in
    let i = c.in-Storex in
    on_err c.from_residual-in_err-store_element-in-Storex.result
    (λ closed. absurd (closed (store_element_writable parts s a c.requires.valid c.requires.running i.o i.i i.s i.first i.elements
    (c.requires.instr ∙ ap (λ (i : Instr). Some i) c.in-Storex.is))))

pub set-requires : goal.set-requires
set-requires g c =
    let s = g.H.HeapAt.state c.args.heap.now in
    let a = whole c.args.standing.now c.args.frame.now c.args.left.now in
    let parts = c.args.code.now in
    let i = c.in-Const in
    let e = c.requires.instr ∙ ap (λ (i : Instr). Some i) i.is in
    let f = fits_here parts s a c.requires.valid c.requires.running (Const i.d i.n) e in
    has_register parts s a c.requires.valid c.requires.running i.d Int f

pub set-requires-in-Null : goal.set-requires-in-Null
set-requires-in-Null g c =
    let s = g.H.HeapAt.state c.args.heap.now in
    let a = whole c.args.standing.now c.args.frame.now c.args.left.now in
    let parts = c.args.code.now in
    let i = c.in-Null in
    let e = c.requires.instr ∙ ap (λ (i : Instr). Some i) i.is in
    let f = fits_here parts s a c.requires.valid c.requires.running (Null i.d) e in
    has_pointer parts s a c.requires.valid c.requires.running i.d f

pub copy-requires : goal.copy-requires
copy-requires g c =
    let s = g.H.HeapAt.state c.args.heap.now in
    let a = whole c.args.standing.now c.args.frame.now c.args.left.now in
    let parts = c.args.code.now in
    let i = c.in-Copy in
    let e = c.requires.instr ∙ ap (λ (i : Instr). Some i) i.is in
    copy_there parts s a c.requires.valid c.requires.running i.d i.s e

pub apply-requires-clause-there : goal.apply-requires-clause-there
apply-requires-clause-there g c =
    let s = g.H.HeapAt.state c.args.heap.now in
    let a = whole c.args.standing.now c.args.frame.now c.args.left.now in
    let parts = c.args.code.now in
    let i = c.in-Add in
    let e = c.requires.instr ∙ ap (λ (i : Instr). Some i) i.is in
    let f = fits_here parts s a c.requires.valid c.requires.running (Add i.d i.a i.b) e in
    has_register parts s a c.requires.valid c.requires.running i.d Int f.0

pub apply-requires-in-Sub-clause-there : goal.apply-requires-in-Sub-clause-there
apply-requires-in-Sub-clause-there g c =
    let s = g.H.HeapAt.state c.args.heap.now in
    let a = whole c.args.standing.now c.args.frame.now c.args.left.now in
    let parts = c.args.code.now in
    let i = c.in-Sub in
    let e = c.requires.instr ∙ ap (λ (i : Instr). Some i) i.is in
    let f = fits_here parts s a c.requires.valid c.requires.running (Sub i.d i.a i.b) e in
    has_register parts s a c.requires.valid c.requires.running i.d Int f.0

pub apply-requires-in-Mul-clause-there : goal.apply-requires-in-Mul-clause-there
apply-requires-in-Mul-clause-there g c =
    let s = g.H.HeapAt.state c.args.heap.now in
    let a = whole c.args.standing.now c.args.frame.now c.args.left.now in
    let parts = c.args.code.now in
    let i = c.in-Mul in
    let e = c.requires.instr ∙ ap (λ (i : Instr). Some i) i.is in
    let f = fits_here parts s a c.requires.valid c.requires.running (Mul i.d i.a i.b) e in
    has_register parts s a c.requires.valid c.requires.running i.d Int f.0

pub apply-requires-in-Div-clause-there : goal.apply-requires-in-Div-clause-there
apply-requires-in-Div-clause-there g c =
    let s = g.H.HeapAt.state c.args.heap.now in
    let a = whole c.args.standing.now c.args.frame.now c.args.left.now in
    let parts = c.args.code.now in
    let i = c.in-Div in
    let e = c.requires.instr ∙ ap (λ (i : Instr). Some i) i.is in
    let f = fits_here parts s a c.requires.valid c.requires.running (Div i.d i.a i.b) e in
    has_register parts s a c.requires.valid c.requires.running i.d Int f.0

pub apply-requires-in-Rem-clause-there : goal.apply-requires-in-Rem-clause-there
apply-requires-in-Rem-clause-there g c =
    let s = g.H.HeapAt.state c.args.heap.now in
    let a = whole c.args.standing.now c.args.frame.now c.args.left.now in
    let parts = c.args.code.now in
    let i = c.in-Rem in
    let e = c.requires.instr ∙ ap (λ (i : Instr). Some i) i.is in
    let f = fits_here parts s a c.requires.valid c.requires.running (Rem i.d i.a i.b) e in
    has_register parts s a c.requires.valid c.requires.running i.d Int f.0

pub root-requires-clause-there : goal.root-requires-clause-there
root-requires-clause-there g c =
    let s = g.H.HeapAt.state c.args.heap.now in
    let a = whole c.args.standing.now c.args.frame.now c.args.left.now in
    let parts = c.args.code.now in
    let i = c.in-Root in
    let e = c.requires.instr ∙ ap (λ (i : Instr). Some i) i.is in
    root_there parts s a c.requires.valid c.requires.running i.d i.slot e

pub check-requires : goal.check-requires
check-requires g c =
    let s = g.H.HeapAt.state c.args.heap.now in
    let a = whole c.args.standing.now c.args.frame.now c.args.left.now in
    let parts = c.args.code.now in
    let i = c.in-Check in
    let e = c.requires.instr ∙ ap (λ (i : Instr). Some i) i.is in
    let f = fits_here parts s a c.requires.valid c.requires.running (Check i.o) e in
    has_pointer parts s a c.requires.valid c.requires.running i.o f

pub load-requires-clause-there : goal.load-requires-clause-there
load-requires-clause-there g c =
    let s = g.H.HeapAt.state c.args.heap.now in
    let a = whole c.args.standing.now c.args.frame.now c.args.left.now in
    let parts = c.args.code.now in
    let i = c.in-Load in
    let e = c.requires.instr ∙ ap (λ (i : Instr). Some i) i.is in
    load_there parts s a c.requires.valid c.requires.running i.d i.o i.slot e

pub load_element-requires-clause-there : goal.load_element-requires-clause-there
load_element-requires-clause-there g c =
    let s = g.H.HeapAt.state c.args.heap.now in
    let a = whole c.args.standing.now c.args.frame.now c.args.left.now in
    let parts = c.args.code.now in
    let i = c.in-Loadx in
    let e = c.requires.instr ∙ ap (λ (i : Instr). Some i) i.is in
    load_element_there parts s a c.requires.valid c.requires.running i.d i.o i.i i.first i.elements e

pub store_element-requires-clause-there : goal.store_element-requires-clause-there
store_element-requires-clause-there g c =
    let s = g.H.HeapAt.state c.args.heap.now in
    let a = whole c.args.standing.now c.args.frame.now c.args.left.now in
    let parts = c.args.code.now in
    let i = c.in-Storex in
    let e = c.requires.instr ∙ ap (λ (i : Instr). Some i) i.is in
    store_element_there parts s a c.requires.valid c.requires.running i.o i.i i.s i.first i.elements e

pub set_root-requires-clause-there : goal.set_root-requires-clause-there
set_root-requires-clause-there g c =
    let s = g.H.HeapAt.state c.args.heap.now in
    let a = whole c.args.standing.now c.args.frame.now c.args.left.now in
    let parts = c.args.code.now in
    let i = c.in-Setroot in
    let e = c.requires.instr ∙ ap (λ (i : Instr). Some i) i.is in
    set_root_there parts s a c.requires.valid c.requires.running i.slot i.s e

pub store-requires-clause-there : goal.store-requires-clause-there
store-requires-clause-there g c =
    let s = g.H.HeapAt.state c.args.heap.now in
    let a = whole c.args.standing.now c.args.frame.now c.args.left.now in
    let parts = c.args.code.now in
    let i = c.in-Store in
    let e = c.requires.instr ∙ ap (λ (i : Instr). Some i) i.is in
    store_there parts s a c.requires.valid c.requires.running i.o i.s i.slot e

pub bound-requires : goal.bound-requires
bound-requires g c =
    let s = g.H.HeapAt.state c.args.heap.now in
    let a = whole c.args.standing.now c.args.frame.now c.args.left.now in
    let parts = c.args.code.now in
    let i = c.in-Bound in
    let e = c.requires.instr ∙ ap (λ (i : Instr). Some i) i.is in
    let f = fits_here parts s a c.requires.valid c.requires.running (Bound i.i i.elements) e in
    has_number parts s a c.requires.valid c.requires.running i.i f.0

pub jump_equal-requires-clause-there : goal.jump_equal-requires-clause-there
jump_equal-requires-clause-there g c =
    let s = g.H.HeapAt.state c.args.heap.now in
    let a = whole c.args.standing.now c.args.frame.now c.args.left.now in
    let parts = c.args.code.now in
    let i = c.in-Jumpeq in
    let e = c.requires.instr ∙ ap (λ (i : Instr). Some i) i.is in
    equal_there parts s a c.requires.valid c.requires.running i.a i.b i.to e

pub jump_unequal-requires-clause-there : goal.jump_unequal-requires-clause-there
jump_unequal-requires-clause-there g c =
    let s = g.H.HeapAt.state c.args.heap.now in
    let a = whole c.args.standing.now c.args.frame.now c.args.left.now in
    let parts = c.args.code.now in
    let i = c.in-Jumpne in
    let e = c.requires.instr ∙ ap (λ (i : Instr). Some i) i.is in
    unequal_there parts s a c.requires.valid c.requires.running i.a i.b i.to e

pub make-requires-clause-there : goal.make-requires-clause-there
make-requires-clause-there g c =
    let s = g.H.HeapAt.state c.args.heap.now in
    let a = whole c.args.standing.now c.args.frame.now c.args.left.now in
    let parts = c.args.code.now in
    let i = c.in-New in
    let e = c.requires.instr ∙ ap (λ (i : Instr). Some i) i.is in
    let f = fits_here parts s a c.requires.valid c.requires.running (New i.d i.ty) e in
    has_register parts s a c.requires.valid c.requires.running i.d (Pointer i.ty) f.2

pub print-requires : goal.print-requires
print-requires g c =
    let s = g.H.HeapAt.state c.args.heap.now in
    let a = whole c.args.standing.now c.args.frame.now c.args.left.now in
    let parts = c.args.code.now in
    let i = c.in-Print in
    let e = c.requires.instr ∙ ap (λ (i : Instr). Some i) i.is in
    let f = fits_here parts s a c.requires.valid c.requires.running (Print i.s) e in
    has_number parts s a c.requires.valid c.requires.running i.s f

pub jump_less-requires : goal.jump_less-requires
jump_less-requires g c =
    let s = g.H.HeapAt.state c.args.heap.now in
    let a = whole c.args.standing.now c.args.frame.now c.args.left.now in
    let parts = c.args.code.now in
    let i = c.in-Jumplt in
    let e = c.requires.instr ∙ ap (λ (i : Instr). Some i) i.is in
    let f = fits_here parts s a c.requires.valid c.requires.running (Jumplt i.a i.b i.to) e in
    has_numbers parts s a c.requires.valid c.requires.running i.a i.b f

pub jump_at_most-requires : goal.jump_at_most-requires
jump_at_most-requires g c =
    let s = g.H.HeapAt.state c.args.heap.now in
    let a = whole c.args.standing.now c.args.frame.now c.args.left.now in
    let parts = c.args.code.now in
    let i = c.in-Jumple in
    let e = c.requires.instr ∙ ap (λ (i : Instr). Some i) i.is in
    let f = fits_here parts s a c.requires.valid c.requires.running (Jumple i.a i.b i.to) e in
    has_numbers parts s a c.requires.valid c.requires.running i.a i.b f

pub jump_less-requires-in-Jumpgt : goal.jump_less-requires-in-Jumpgt
jump_less-requires-in-Jumpgt g c =
    let s = g.H.HeapAt.state c.args.heap.now in
    let a = whole c.args.standing.now c.args.frame.now c.args.left.now in
    let parts = c.args.code.now in
    let i = c.in-Jumpgt in
    let e = c.requires.instr ∙ ap (λ (i : Instr). Some i) i.is in
    let f = fits_here parts s a c.requires.valid c.requires.running (Jumpgt i.a i.b i.to) e in
    let h = has_numbers parts s a c.requires.valid c.requires.running i.a i.b f in
    (h.1, h.0)

pub jump_at_most-requires-in-Jumpge : goal.jump_at_most-requires-in-Jumpge
jump_at_most-requires-in-Jumpge g c =
    let s = g.H.HeapAt.state c.args.heap.now in
    let a = whole c.args.standing.now c.args.frame.now c.args.left.now in
    let parts = c.args.code.now in
    let i = c.in-Jumpge in
    let e = c.requires.instr ∙ ap (λ (i : Instr). Some i) i.is in
    let f = fits_here parts s a c.requires.valid c.requires.running (Jumpge i.a i.b i.to) e in
    let h = has_numbers parts s a c.requires.valid c.requires.running i.a i.b f in
    (h.1, h.0)

pub returns-in_ok-make-in-New-clause-acted : goal.returns-in_ok-make-in-New-clause-acted
returns-in_ok-make-in-New-clause-acted g c =
    let s = g.H.HeapAt.state c.args.heap.now in
    let a = whole c.args.standing.now c.args.frame.now c.args.left.now in
    let parts = c.args.code.now in
    let t = g.H.HeapAt.state c.make.new.heap in
    let step = c.in_ok-make-in-New.field-0 in
    let made : Acted parts s a (New c.in-New.d c.in-New.ty) step t (record a { current = c.make.new.frame; made = a.made + 1 }) =
    made_acted parts s t a c.requires.running.live c.make.new.frame (a.made + 1) c.in-New.d c.in-New.ty step c.requires.running.shape
    (target_here parts s a c.requires.valid c.requires.running c.in-New.d c.in-New.ty (c.requires.instr ∙ ap (λ (i : Instr). Some i) c.in-New.is)) c.in_ok-make-in-New.ensures.ok refl in
    came_acted c.flow_behind-in-New.ensures.came
    (subst (λ (i : Instr). Acted parts s a i step t (whole c.make.new.standing c.make.new.frame c.args.left.now)) (sym c.in-New.is)
    (subst (λ (x : Standing g.row.H-Place.Denot g.row.H-Ref.Denot). Acted parts s a (New c.in-New.d c.in-New.ty) step t
    (whole x c.make.new.frame c.args.left.now)) (sym c.in_ok-make-in-New.ensures.counted) made))

pub returns-in-Call-clause-acted : goal.returns-in-Call-clause-acted
returns-in-Call-clause-acted g c =
    let s = g.H.HeapAt.state c.args.heap.now in
    let a = whole c.args.standing.now c.args.frame.now c.args.left.now in
    let parts = c.args.code.now in
    came_due parts s a c.args.instr.now c.left_due.ensures.came c.requires.running c.requires.funded c.requires.instr (inl (c.in-Call._p, c.in-Call._into, c.in-Call._arguments, c.in-Call.is))

pub returns-in-Return-clause-acted : goal.returns-in-Return-clause-acted
returns-in-Return-clause-acted g c =
    let s = g.H.HeapAt.state c.args.heap.now in
    let a = whole c.args.standing.now c.args.frame.now c.args.left.now in
    let parts = c.args.code.now in
    came_due parts s a c.args.instr.now c.left_due-in-Return.ensures.came c.requires.running c.requires.funded c.requires.instr (inr (c.in-Return._s, c.in-Return.is))

pub apply-requires-clause-numbers : goal.apply-requires-clause-numbers
apply-requires-clause-numbers g c =
    let s = g.H.HeapAt.state c.args.heap.now in
    let a = whole c.args.standing.now c.args.frame.now c.args.left.now in
    let parts = c.args.code.now in
    let i = c.in-Add in
    let e = c.requires.instr ∙ ap (λ (i : Instr). Some i) i.is in
    let f = fits_here parts s a c.requires.valid c.requires.running (Add i.d i.a i.b) e in
    has_numbers parts s a c.requires.valid c.requires.running i.a i.b f.1

pub apply-requires-in-Sub-clause-numbers : goal.apply-requires-in-Sub-clause-numbers
apply-requires-in-Sub-clause-numbers g c =
    let s = g.H.HeapAt.state c.args.heap.now in
    let a = whole c.args.standing.now c.args.frame.now c.args.left.now in
    let parts = c.args.code.now in
    let i = c.in-Sub in
    let e = c.requires.instr ∙ ap (λ (i : Instr). Some i) i.is in
    let f = fits_here parts s a c.requires.valid c.requires.running (Sub i.d i.a i.b) e in
    has_numbers parts s a c.requires.valid c.requires.running i.a i.b f.1

pub apply-requires-in-Mul-clause-numbers : goal.apply-requires-in-Mul-clause-numbers
apply-requires-in-Mul-clause-numbers g c =
    let s = g.H.HeapAt.state c.args.heap.now in
    let a = whole c.args.standing.now c.args.frame.now c.args.left.now in
    let parts = c.args.code.now in
    let i = c.in-Mul in
    let e = c.requires.instr ∙ ap (λ (i : Instr). Some i) i.is in
    let f = fits_here parts s a c.requires.valid c.requires.running (Mul i.d i.a i.b) e in
    has_numbers parts s a c.requires.valid c.requires.running i.a i.b f.1

pub apply-requires-in-Div-clause-numbers : goal.apply-requires-in-Div-clause-numbers
apply-requires-in-Div-clause-numbers g c =
    let s = g.H.HeapAt.state c.args.heap.now in
    let a = whole c.args.standing.now c.args.frame.now c.args.left.now in
    let parts = c.args.code.now in
    let i = c.in-Div in
    let e = c.requires.instr ∙ ap (λ (i : Instr). Some i) i.is in
    let f = fits_here parts s a c.requires.valid c.requires.running (Div i.d i.a i.b) e in
    has_numbers parts s a c.requires.valid c.requires.running i.a i.b f.1

pub apply-requires-in-Rem-clause-numbers : goal.apply-requires-in-Rem-clause-numbers
apply-requires-in-Rem-clause-numbers g c =
    let s = g.H.HeapAt.state c.args.heap.now in
    let a = whole c.args.standing.now c.args.frame.now c.args.left.now in
    let parts = c.args.code.now in
    let i = c.in-Rem in
    let e = c.requires.instr ∙ ap (λ (i : Instr). Some i) i.is in
    let f = fits_here parts s a c.requires.valid c.requires.running (Rem i.d i.a i.b) e in
    has_numbers parts s a c.requires.valid c.requires.running i.a i.b f.1

pub negate-requires-clause-there : goal.negate-requires-clause-there
negate-requires-clause-there g c =
    let s = g.H.HeapAt.state c.args.heap.now in
    let a = whole c.args.standing.now c.args.frame.now c.args.left.now in
    let parts = c.args.code.now in
    let i = c.in-Neg in
    let e = c.requires.instr ∙ ap (λ (i : Instr). Some i) i.is in
    let f = fits_here parts s a c.requires.valid c.requires.running (Neg i.d i.a) e in
    has_register parts s a c.requires.valid c.requires.running i.d Int f.0

pub negate-requires-clause-number : goal.negate-requires-clause-number
negate-requires-clause-number g c =
    let s = g.H.HeapAt.state c.args.heap.now in
    let a = whole c.args.standing.now c.args.frame.now c.args.left.now in
    let parts = c.args.code.now in
    let i = c.in-Neg in
    let e = c.requires.instr ∙ ap (λ (i : Instr). Some i) i.is in
    let f = fits_here parts s a c.requires.valid c.requires.running (Neg i.d i.a) e in
    has_number parts s a c.requires.valid c.requires.running i.a f.1

pub root-requires-clause-kinds : goal.root-requires-clause-kinds
root-requires-clause-kinds g c =
    let s = g.H.HeapAt.state c.args.heap.now in
    let a = whole c.args.standing.now c.args.frame.now c.args.left.now in
    let parts = c.args.code.now in
    let i = c.in-Root in
    let e = c.requires.instr ∙ ap (λ (i : Instr). Some i) i.is in
    subst (λ (ks : List Kind). i.d.0 < length ks) (sym c.requires.kinds)
    (has_kind parts s a c.requires.valid c.requires.running i.d (root_there parts s a c.requires.valid c.requires.running i.d i.slot e))

pub load-requires-clause-kinds : goal.load-requires-clause-kinds
load-requires-clause-kinds g c =
    let s = g.H.HeapAt.state c.args.heap.now in
    let a = whole c.args.standing.now c.args.frame.now c.args.left.now in
    let parts = c.args.code.now in
    let i = c.in-Load in
    let e = c.requires.instr ∙ ap (λ (i : Instr). Some i) i.is in
    subst (λ (ks : List Kind). i.d.0 < length ks) (sym c.requires.kinds)
    (has_kind parts s a c.requires.valid c.requires.running i.d (load_there parts s a c.requires.valid c.requires.running i.d i.o i.slot e).0)

pub load_element-requires-clause-kinds : goal.load_element-requires-clause-kinds
load_element-requires-clause-kinds g c =
    let s = g.H.HeapAt.state c.args.heap.now in
    let a = whole c.args.standing.now c.args.frame.now c.args.left.now in
    let parts = c.args.code.now in
    let i = c.in-Loadx in
    let e = c.requires.instr ∙ ap (λ (i : Instr). Some i) i.is in
    subst (λ (ks : List Kind). i.d.0 < length ks) (sym c.requires.kinds)
    (has_kind parts s a c.requires.valid c.requires.running i.d
    (load_element_there parts s a c.requires.valid c.requires.running i.d i.o i.i i.first i.elements e).0)

pub load_element-requires-clause-index : goal.load_element-requires-clause-index
load_element-requires-clause-index g c =
    let s = g.H.HeapAt.state c.args.heap.now in
    let a = whole c.args.standing.now c.args.frame.now c.args.left.now in
    let parts = c.args.code.now in
    let i = c.in-Loadx in
    let e = c.requires.instr ∙ ap (λ (i : Instr). Some i) i.is in
    let f = fits_here parts s a c.requires.valid c.requires.running (Loadx i.d i.o i.first i.elements i.i) e in
    subst (λ (x : Element). HoldsNumber a.current x.index) (sym c.new-element.ensures) (has_number parts s a c.requires.valid c.requires.running i.i f.1)

pub store_element-requires-clause-index : goal.store_element-requires-clause-index
store_element-requires-clause-index g c =
    let s = g.H.HeapAt.state c.args.heap.now in
    let a = whole c.args.standing.now c.args.frame.now c.args.left.now in
    let parts = c.args.code.now in
    let i = c.in-Storex in
    let e = c.requires.instr ∙ ap (λ (i : Instr). Some i) i.is in
    let f = fits_here parts s a c.requires.valid c.requires.running (Storex i.o i.first i.elements i.i i.s) e in
    subst (λ (x : Element). HoldsNumber a.current x.index) (sym c.new-element-in-Storex.ensures) (has_number parts s a c.requires.valid c.requires.running i.i f.2)

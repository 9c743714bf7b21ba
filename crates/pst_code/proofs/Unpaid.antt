-- No instruction but a charge changes how many charges are left, whatever the registers and the heap hold.
use Rattle.std.proofs.Common.{◌≡◌, ℕ, ◌+◌, ◌^◌, neg_ℤ, nat_lt, Bool, true, false, List, [], ◌∷◌, ◌++◌, length, Option, Some, None, refl}
use Rattle.std.specs.Option.{option_eq}
use Rattle.pst_base.specs.declared.names.Kind.{Kind}
use Rattle.pst_base.specs.declared.names.Kind.TheVariants.{Int, Pointer}
use Rattle.pst_base.specs.declared.names.Name.{Name}
use Rattle.pst_base.specs.declared.names.Op.TheVariants as op
use Rattle.pst_base.specs.declared.names.TypeNo.{TypeNo}
use Rattle.pst_base.specs.declared.names.TrapKind.TheVariants.{Null as NullTrap, InDegree, Output}
use Rattle.pst_base.specs.declared.shape.TypeShape.{TypeShape}
use Rattle.pst_base.specs.Name.{root_name}
use Rattle.pst_base.specs.Heap.{kind_in, type_in}
use Rattle.pst_program.specs.declared.meaning.Value.{Value}
use Rattle.pst_program.specs.declared.meaning.Value.TheVariants.{Number as ANumber, Truth as ATruth, Null as ANull, Record as ARecord}
use Rattle.pst_program.specs.Value.{Answer, Gives, Traps, number_of, limited, operate, and_then, index_of, object_of, load, load_element}
use Rattle.pst_program.specs.Meaning.{World, Ending, Normal, Trapped, choose, same_type, is_full, is_target, write_pointer, write_kind, next_name, record_made}
use Rattle.pst_program.specs.Meaning.{pointer_written, with_object, with_index}
use Rattle.pst_program.specs.Sound.{world_in}
use Rattle.pst_code.specs.declared.instr.Reg.{Reg}
use Rattle.pst_code.specs.declared.instr.Instr.{Instr}
use Rattle.pst_code.specs.declared.instr.Instr.TheVariants.{Add, Sub, Mul, Div, Rem, Neg, Root, Setroot, Check, Load, Store, Bound, Loadx, Storex, New, Print}
use Rattle.pst_code.specs.Machine.{held, put, put_answer, effect}

-- it ends with as many charges left
abbrev Leaves : World → Ending → Type 0
Leaves w o = (world_in o).charges ≡ w.charges

module _ (w : World) where
  choose_leaves : (b : Bool) (first other : Ending) → Leaves w first → Leaves w other → Leaves w (choose b first other)
  choose_leaves true first other f o = f
  choose_leaves false first other f o = o

  answer_leaves : (d : Reg) (a : Answer) (line : ℕ) (registers : List Value) → Leaves w (put_answer d a line registers w)
  answer_leaves d (Gives v) line registers = refl
  answer_leaves d (Traps t) line registers = refl

  object_leaves : (o : Value) (line : ℕ) (go : Name → Ending) → ((x : Name) → Leaves w (go x)) → Leaves w (with_object o line w go)
  object_leaves (ARecord x) line go f = f x
  object_leaves ANull line go f = refl
  object_leaves (ANumber x) line go f = refl
  object_leaves (ATruth b) line go f = refl

  index_leaves : (index : Option ℕ) (line : ℕ) (go : ℕ → Ending) → ((k : ℕ) → Leaves w (go k)) → Leaves w (with_index index line w go)
  index_leaves (Some k) line go f = f k
  index_leaves None line go f = refl

  pointer_leaves : (shape : List TypeShape) (ty : TypeNo) (n : Name) (slot : ℕ) (v : Value) (line : ℕ) (registers : List Value) → Leaves w (write_pointer shape ty n slot v line registers w)
  pointer_leaves shape ty n slot ANull line registers = refl
  pointer_leaves shape ty n slot (ARecord y) line registers =
      choose_leaves (option_eq same_type (type_in w.heap y) (Some ty)) _ _
      (choose_leaves (is_full shape w.heap n slot y) (Trapped InDegree line w) (Normal registers (pointer_written w n slot (Some y))) refl refl) refl
  pointer_leaves shape ty n slot (ANumber x) line registers = refl
  pointer_leaves shape ty n slot (ATruth b) line registers = refl

  write_leaves : (shape : List TypeShape) (kind : Option Kind) (n : Name) (slot : ℕ) (v : Value) (line : ℕ) (registers : List Value) → Leaves w (write_kind shape kind n slot v line registers w)
  write_leaves shape None n slot v line registers = refl
  write_leaves shape (Some Int) n slot v line registers = refl
  write_leaves shape (Some (Pointer ty)) n slot v line registers = pointer_leaves shape ty n slot v line registers

pub effect_leaves : (shape : List TypeShape) (i : Instr) (line : ℕ) (registers : List Value) (w : World) → (world_in (effect shape i line registers w)).charges ≡ w.charges
effect_leaves shape (Add d a b) line registers w = answer_leaves w d (operate op.Add (held registers a) (held registers b)) line registers
effect_leaves shape (Sub d a b) line registers w = answer_leaves w d (operate op.Sub (held registers a) (held registers b)) line registers
effect_leaves shape (Mul d a b) line registers w = answer_leaves w d (operate op.Mul (held registers a) (held registers b)) line registers
effect_leaves shape (Div d a b) line registers w = answer_leaves w d (operate op.Div (held registers a) (held registers b)) line registers
effect_leaves shape (Rem d a b) line registers w = answer_leaves w d (operate op.Rem (held registers a) (held registers b)) line registers
effect_leaves shape (Neg d a) line registers w = answer_leaves w d (limited (neg_ℤ (number_of (held registers a)))) line registers
effect_leaves shape (Root d slot) line registers w = answer_leaves w d (load shape w.heap slot.0 (ARecord root_name)) line registers
effect_leaves shape (Setroot slot s) line registers w = write_leaves w shape (kind_in shape w.heap root_name slot.0) root_name slot.0 (held registers s) line registers
effect_leaves shape (Check o) line registers w = object_leaves w (held registers o) line _ (λ n. refl)
effect_leaves shape (Load d o slot) line registers w = answer_leaves w d (load shape w.heap slot.0 (held registers o)) line registers
effect_leaves shape (Store o slot s) line registers w = object_leaves w (held registers o) line _ (λ n. write_leaves w shape (kind_in shape w.heap n slot.0) n slot.0 (held registers s) line registers)
effect_leaves shape (Bound i n) line registers w = index_leaves w (index_of n (number_of (held registers i))) line _ (λ k. refl)
effect_leaves shape (Loadx d o slot n i) line registers w =
    answer_leaves w d (and_then (object_of (held registers o)) (load_element shape w.heap slot.0 (index_of n (number_of (held registers i))))) line registers
effect_leaves shape (Storex o slot n i s) line registers w =
    object_leaves w (held registers o) line _ (λ x.
    index_leaves w (index_of n (number_of (held registers i))) line _ (λ k.
    write_leaves w shape (kind_in shape w.heap x (slot.0 + k)) x (slot.0 + k) (held registers s) line registers))
effect_leaves shape (New d ty) line registers w = choose_leaves w (is_target shape ty) (put d (ARecord (next_name w)) registers (record_made shape ty w)) (Trapped NullTrap line w) refl refl
effect_leaves shape (Print s) line registers w =
    choose_leaves w (nat_lt (length w.printed) (2 ^ 16)) (Normal registers record w { printed = w.printed ++ number_of (held registers s) ∷ [] }) (Trapped Output line w) refl refl
effect_leaves shape i line registers w = refl

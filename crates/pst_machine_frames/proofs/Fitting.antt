-- What the rules of valid code give where an instruction is due.
use Rattle.std.proofs.Common.{◌≡◌, ℕ, suc, ◌+◌, ◌<◌, ◌≤◌, ◌^◌, Bool, true, false, IsTrue, List, [], ◌∷◌, length, map, All, Option, Some, None, refl, ap, sym, ◌∙◌, subst, arith}
use Rattle.std.specs.Prelude.{slice_get}
use Rattle.std.proofs.lemmas.Option.{slice_get_within, get_or_from_slice_get}
use Rattle.pst_base.specs.declared.names.Kind.{Kind}
use Rattle.pst_base.specs.declared.names.Kind.TheVariants.{Int, Pointer}
use Rattle.pst_base.specs.declared.names.Name.{Name}
use Rattle.pst_base.specs.declared.names.ProcNo.{ProcNo}
use Rattle.pst_base.specs.declared.names.SlotNo.{SlotNo}
use Rattle.pst_base.specs.declared.names.TypeNo.{TypeNo}
use Rattle.pst_base.specs.declared.shape.TypeShape.{TypeShape}
use Rattle.pst_base.specs.Shape.{IsTarget, type_at}
use Rattle.pst_base.specs.Name.{root_name}
use Rattle.pst_base.specs.Heap.{Heap, kind_in, kind_from, type_in}
use Rattle.pst_program.specs.Typed.{IsKind, root_kind}
use Rattle.pst_program.specs.Procedures.{MayWrite}
use Rattle.pst_program.specs.Sound.{IsOf, AreOf}
use Rattle.pst_program.specs.declared.meaning.Value.{Value}
use Rattle.std.proofs.lemmas.List.{length-map}
use Rattle.pst_program.proofs.Soundness.{AreOf-get}
use Rattle.pst_code.specs.declared.instr.Reg.{Reg}
use Rattle.pst_code.specs.declared.instr.Instr.{Instr}
use Rattle.pst_code.specs.declared.instr.Instr.TheVariants.{Copy, Jumpeq, Jumpne, Root, Setroot, Load, Store, Loadx, Storex, New, Call}
use Rattle.pst_code.specs.declared.procedure.Procedure.{Procedure}
use Rattle.pst_code.specs.declared.procedure.Parts.{Parts}
use Rattle.pst_code.specs.Machine.{Caller, next_instr}
use Rattle.pst_code.specs.Valid.{IsValidCode, Fits, kind_of, slot_kind, slots_kind, Alike, IsPointerKind, AreInts, signature, IsCall}
use Rattle.pst_code.specs.SoundRuns.{AreSoundCallers, outermost}
use Rattle.pst_code.specs.Spending.{unspent}
use Rattle.pst_code.proofs.Effects.{both_kinds, SlotKind, slot_kind_of, SlotsKind, slots_kind_of}
use Rattle.pst_code.proofs.Paying.{paid_is_unspent}
use Rattle.pst_versions.specs.State.{State, HasRoom, IsFresh, IsNewType}
use Rattle.pst_machine_steps.specs.declared.register.Register.{Register}
use Rattle.pst_machine_steps.specs.declared.register.Register.TheVariants.{Number, Null, Reference}
use Rattle.pst_machine_steps.specs.declared.standing.Standing.{Standing}
use Rattle.pst_machine_steps.specs.View.{value_of}
use Rattle.pst_machine_steps.specs.Live.{IsLive, IsLiveSomewhere, IsNumber}
use Rattle.pst_machine_steps.specs.Calls.{held_in, HasRegister, HoldsNumber}
use Rattle.pst_machine_frames.specs.Ready.{IsRunning, IsFunded, current_of, waiting_of}
use Rattle.pst_machine_steps.specs.Fields.{FieldIs, ElementsAre}
use Rattle.pst_machine_steps.specs.Steps.{MayWriteRoot, MayStore, MayStoreElements}
use Rattle.pst_machine_steps.proofs.Kept.{value_held, live_held}
use Rattle.pst_machine_steps.proofs.Slots.{slots_numbered}

all_at : {X : Type 0} (P : X → Type 0) (xs : List X) (k : ℕ) (x : X) → All P xs → slice_get xs k ≡ Some x → P x
all_at P xs k x all e = subst P (get_or_from_slice_get xs k x x e) (all k x (slice_get_within xs k x e))

-- there are as many values as kinds
same_length : (h : Heap) (kinds : List Kind) (vs : List Value) → AreOf h kinds vs → length kinds ≡ length vs
same_length h [] [] f = refl
same_length h [] (v ∷ vs) f = absurd f
same_length h (k ∷ kinds) [] f = absurd f
same_length h (k ∷ kinds) (v ∷ vs) f = ap suc (same_length h kinds vs f.1)

not_reader : (x y : Bool) → (IsTrue x → IsTrue y) → y ≡ false → x ≡ false
not_reader true y f e = absurd (let t : IsTrue y = f refl in cc)
not_reader false y f e = refl

-- where a frame may write, the run may
may_write : (parts : Parts) (heap : Heap) (p : Procedure) (callers : List Caller) → AreSoundCallers parts heap p callers → p.query ≡ false → (outermost p callers).query ≡ false
may_write parts heap p [] sound e = e
may_write parts heap p (c ∷ callers) sound e = may_write parts heap c.frame.procedure callers sound.1 (not_reader c.frame.procedure.query p.query sound.0.reads e)

-- the procedure that is called
pub record Callee (parts : Parts) (q : ProcNo) : Type 0 where
  pub procedure : Procedure
  pub there : slice_get parts.procedures q.0 ≡ Some procedure

callee_of : (parts : Parts) (caller : Procedure) (into : Option Reg) (arguments : List Reg) (q : ProcNo) (o : Option Procedure)
    → slice_get parts.procedures q.0 ≡ o → IsCall caller into arguments o → Callee parts q
callee_of parts caller into arguments q None e f = absurd f
callee_of parts caller into arguments q (Some p) e f = record { procedure = p; there = e }

-- what a register of numbers holds
number_in : {R : Type 0} (h : Heap) (name : R → Name) (v : Register R) → IsOf h Int (value_of name v) → IsNumber v
number_in h name (Number n) is = tt
number_in h name Null is = absurd is
number_in h name (Reference r) is = absurd is

pub live_somewhere : {P R : Type 0} (s : State P R) (at : P) (v : Register R) → IsLive s at v → IsLiveSomewhere s v
live_somewhere s at (Number n) live = tt
live_somewhere s at Null live = tt
live_somewhere s at (Reference r) live = (at, live)

module _ {P R : Type 0} (parts : Parts) (s : State P R) (a : Standing P R) (valid : IsValidCode parts) (r : IsRunning parts s a) where
  here : Procedure
  here = (current_of parts s a).procedure

  pub fits_here : (x : Instr) → next_instr (current_of parts s a) ≡ Some x → Fits parts (current_of parts s a).procedure x
  fits_here x e = (valid.procedures r.sound.frame.one.number (current_of parts s a).procedure r.sound.frame.one.is).fits a.current.at x e

  -- a register holds what its kind says
  is_of : (x : Reg) (kind : Kind) → kind_of (current_of parts s a).procedure x ≡ Some kind → IsOf (s.heap a.place) kind (value_of s.name (held_in a.current x))
  is_of x kind e =
      subst (IsOf (s.heap a.place) kind) (sym (value_held s.name a.current.registers.items x.0))
      (AreOf-get (s.heap a.place) (current_of parts s a).procedure.kinds (map (value_of s.name) a.current.registers.items) x.0 kind r.sound.frame.registers e)

  -- there are as many registers as kinds
  as_many : length (current_of parts s a).procedure.kinds ≡ length a.current.registers.items
  as_many = same_length (s.heap a.place) (current_of parts s a).procedure.kinds (map (value_of s.name) a.current.registers.items)
      r.sound.frame.registers ∙ length-map a.current.registers.items (value_of s.name)

  -- a register that is there has a kind
  pub has_kind : (x : Reg) → HasRegister a.current x → x.0 < length (current_of parts s a).procedure.kinds
  has_kind x lt = subst (λ (n : ℕ). x.0 < n) (sym as_many) lt

  -- a register that has a kind is there
  pub has_register : (x : Reg) (kind : Kind) → kind_of (current_of parts s a).procedure x ≡ Some kind → HasRegister a.current x
  has_register x kind e =
      let lt = slice_get_within (current_of parts s a).procedure.kinds x.0 kind e in
      subst (λ (n : ℕ). x.0 < n) as_many lt

  -- a register of numbers is there, and holds one
  pub has_number : (x : Reg) → kind_of (current_of parts s a).procedure x ≡ Some Int → HoldsNumber a.current x
  has_number x e = (has_register x Int e, number_in (s.heap a.place) s.name (held_in a.current x) (is_of x Int e))

  pub has_numbers : (x y : Reg) → AreInts (current_of parts s a).procedure x y → HoldsNumber a.current x × HoldsNumber a.current y
  has_numbers x y ints = (has_number x ints.0, has_number y ints.1)

  pub has_alike : (x : Reg) (other : Option Kind) → Alike (kind_of (current_of parts s a).procedure x) other → HasRegister a.current x
  has_alike x other alike = let b = both_kinds (kind_of (current_of parts s a).procedure x) other alike in has_register x b.kind b.first

  pub has_other : (x : Reg) (first : Option Kind) → Alike first (kind_of (current_of parts s a).procedure x) → HasRegister a.current x
  has_other x first alike = let b = both_kinds first (kind_of (current_of parts s a).procedure x) alike in has_register x b.kind b.second

  pointer_by : (x : Reg) (o : Option Kind) → kind_of (current_of parts s a).procedure x ≡ o → IsPointerKind o → HasRegister a.current x
  pointer_by x None e pointer = absurd pointer
  pointer_by x (Some Int) e pointer = absurd pointer
  pointer_by x (Some (Pointer ty)) e pointer = has_register x (Pointer ty) e

  pub has_pointer : (x : Reg) → IsPointerKind (kind_of (current_of parts s a).procedure x) → HasRegister a.current x
  has_pointer x pointer = pointer_by x (kind_of (current_of parts s a).procedure x) refl pointer

  pub copy_there : (d x : Reg) → next_instr (current_of parts s a) ≡ Some (Copy d x) → HasRegister a.current d × HasRegister a.current x
  copy_there d x e =
      let f = fits_here (Copy d x) e in
      (has_alike d (kind_of (current_of parts s a).procedure x) f, has_other x (kind_of (current_of parts s a).procedure d) f)

  pub root_there : (d : Reg) (slot : SlotNo) → next_instr (current_of parts s a) ≡ Some (Root d slot) → HasRegister a.current d
  root_there d slot e = has_alike d (root_kind parts.shape slot.0) (fits_here (Root d slot) e)

  -- the record that a field is read of is in a register that is there
  has_object : (x : Reg) (slot : ℕ) (kind : Kind) → slot_kind parts.shape (kind_of (current_of parts s a).procedure x) slot ≡ Some kind → HasRegister a.current x
  has_object x slot kind e = let k = slot_kind_of parts.shape (kind_of (current_of parts s a).procedure x) slot kind e in has_register x (Pointer k.ty) k.object_is

  pub load_there : (d o : Reg) (slot : SlotNo) → next_instr (current_of parts s a) ≡ Some (Load d o slot) → HasRegister a.current d × HasRegister a.current o
  load_there d o slot e =
      let b = both_kinds (kind_of (current_of parts s a).procedure d) (slot_kind parts.shape (kind_of (current_of parts s a).procedure o) slot.0) (fits_here (Load d o slot) e) in
      (has_register d b.kind b.first, has_object o slot.0 b.kind b.second)

  pub set_root_there : (slot : SlotNo) (x : Reg) → next_instr (current_of parts s a) ≡ Some (Setroot slot x) → HasRegister a.current x
  set_root_there slot x e = has_alike x (root_kind parts.shape slot.0) (fits_here (Setroot slot x) e).1

  pub store_there : (o x : Reg) (slot : SlotNo) → next_instr (current_of parts s a) ≡ Some (Store o slot x) → HasRegister a.current o × HasRegister a.current x
  store_there o x slot e =
      let b = both_kinds (kind_of (current_of parts s a).procedure x) (slot_kind parts.shape (kind_of (current_of parts s a).procedure o) slot.0) (fits_here (Store o slot x) e).1 in
      (has_object o slot.0 b.kind b.second, has_register x b.kind b.first)

  has_array : (x : Reg) (first elements : ℕ) (kind : Kind) → slots_kind parts.shape (kind_of (current_of parts s a).procedure x) first elements ≡ Some kind → HasRegister a.current x
  has_array x first elements kind e = let k = slots_kind_of parts.shape (kind_of (current_of parts s a).procedure x) first elements kind e in has_register x (Pointer k.ty) k.object_is

  pub load_element_there : (d o i : Reg) (slot : SlotNo) (n : ℕ) → next_instr (current_of parts s a) ≡ Some (Loadx d o slot n i) → HasRegister a.current d × HasRegister a.current o
  load_element_there d o i slot n e =
      let f = fits_here (Loadx d o slot n i) e in
      let b = both_kinds (kind_of (current_of parts s a).procedure d) (slots_kind parts.shape (kind_of (current_of parts s a).procedure o) slot.0 n) f.0 in
      (has_register d b.kind b.first, has_array o slot.0 n b.kind b.second)

  pub store_element_there : (o i x : Reg) (slot : SlotNo) (n : ℕ) → next_instr (current_of parts s a) ≡ Some (Storex o slot n i x) → HasRegister a.current o × HasRegister a.current x
  store_element_there o i x slot n e =
      let f = fits_here (Storex o slot n i x) e in
      let b = both_kinds (kind_of (current_of parts s a).procedure x) (slots_kind parts.shape (kind_of (current_of parts s a).procedure o) slot.0 n) f.1 in
      (has_array o slot.0 n b.kind b.second, has_register x b.kind b.first)

  pub equal_there : (x y : Reg) (to : ℕ) → next_instr (current_of parts s a) ≡ Some (Jumpeq x y to) → HasRegister a.current x × HasRegister a.current y
  equal_there x y to e =
      let f = fits_here (Jumpeq x y to) e in
      (has_alike x (kind_of (current_of parts s a).procedure y) f, has_other y (kind_of (current_of parts s a).procedure x) f)

  pub unequal_there : (x y : Reg) (to : ℕ) → next_instr (current_of parts s a) ≡ Some (Jumpne x y to) → HasRegister a.current x × HasRegister a.current y
  unequal_there x y to e =
      let f = fits_here (Jumpne x y to) e in
      (has_alike x (kind_of (current_of parts s a).procedure y) f, has_other y (kind_of (current_of parts s a).procedure x) f)

  pub root_kind_here : (d : Reg) (slot : SlotNo) → next_instr (current_of parts s a) ≡ Some (Root d slot)
      → kind_in s.shape (s.heap a.place) root_name slot.0 ≡ kind_of (current_of parts s a).procedure d
  root_kind_here d slot e =
      let b = both_kinds (kind_of (current_of parts s a).procedure d) (root_kind parts.shape slot.0) (fits_here (Root d slot) e) in
      ap (λ sh. kind_in sh (s.heap a.place) root_name slot.0) r.shape ∙ ap (kind_from parts.shape slot.0) r.sound.world.well_formed.root ∙ b.second ∙ sym b.first

  field_here : (o : Reg) (slot : ℕ) (kind : Kind) → slot_kind parts.shape (kind_of (current_of parts s a).procedure o) slot ≡ Some kind
      → (v : Register R) → held_in a.current o ≡ v → FieldIs s a.place (Some kind) slot v
  field_here o slot kind e (Number n) is = tt
  field_here o slot kind e Null is = tt
  field_here o slot kind e (Reference q) is =
      let k : SlotKind parts.shape (kind_of (current_of parts s a).procedure o) slot kind = slot_kind_of parts.shape (kind_of (current_of parts s a).procedure o) slot kind e in
      let typed : type_in (s.heap a.place) (s.name q) ≡ Some k.ty = subst (λ (v : Register R). IsOf (s.heap a.place) (Pointer k.ty) (value_of s.name v)) is (is_of o (Pointer k.ty) k.object_is) in
      ap (λ sh. kind_in sh (s.heap a.place) (s.name q) slot) r.shape ∙ ap (kind_from parts.shape slot) typed ∙ k.field

  pub load_kind_here : (d o : Reg) (slot : SlotNo) → next_instr (current_of parts s a) ≡ Some (Load d o slot)
      → FieldIs s a.place (kind_of (current_of parts s a).procedure d) slot.0 (held_in a.current o)
  load_kind_here d o slot e =
      let b = both_kinds (kind_of (current_of parts s a).procedure d) (slot_kind parts.shape (kind_of (current_of parts s a).procedure o) slot.0) (fits_here (Load d o slot) e) in
      subst (λ (k : Option Kind). FieldIs s a.place k slot.0 (held_in a.current o)) (sym b.first) (field_here o slot.0 b.kind b.second (held_in a.current o) refl)

  -- each element of an array holds what the array does
  element_kind : (o : Reg) (first elements : ℕ) (kind : Kind) → SlotsKind parts.shape (kind_of (current_of parts s a).procedure o) first elements kind → (k : ℕ) → k < elements
      → slot_kind parts.shape (kind_of (current_of parts s a).procedure o) (first + k) ≡ Some kind
  element_kind o first elements kind array k below = ap (λ (kind : Option Kind). slot_kind parts.shape kind (first + k)) array.object_is ∙ array.has.holds k below

  -- and has a slot with a number of 16 bits
  elements_numbered : (o : Reg) (first elements : ℕ) (kind : Kind) → SlotsKind parts.shape (kind_of (current_of parts s a).procedure o) first elements kind → first + elements ≤ 2 ^ 16
  elements_numbered o first elements kind array =
      let kinds = (valid.procedures r.sound.frame.one.number (current_of parts s a).procedure r.sound.frame.one.is).kinds in
      let target : IsTarget parts.shape array.ty = all_at (IsKind parts.shape) (current_of parts s a).procedure.kinds o.0 (Pointer array.ty) kinds array.object_is in
      slots_numbered (type_at parts.shape array.ty) first elements kind array.has (valid.shape.elements array.ty target.0 target.1)

  pub elements_here : (d o i : Reg) (slot : SlotNo) (n : ℕ) → next_instr (current_of parts s a) ≡ Some (Loadx d o slot n i)
      → ElementsAre s a.place (kind_of (current_of parts s a).procedure d) slot.0 n (held_in a.current o)
  elements_here d o i slot n e =
      let b = both_kinds (kind_of (current_of parts s a).procedure d) (slots_kind parts.shape (kind_of (current_of parts s a).procedure o) slot.0 n) (fits_here (Loadx d o slot n i) e).0 in
      let array = slots_kind_of parts.shape (kind_of (current_of parts s a).procedure o) slot.0 n b.kind b.second in
      record {
        numbered = elements_numbered o slot.0 n b.kind array;
        each = λ k below. subst (λ (kind : Option Kind). FieldIs s a.place kind (slot.0 + k) (held_in a.current o)) (sym b.first)
            (field_here o (slot.0 + k) b.kind (element_kind o slot.0 n b.kind array k below) (held_in a.current o) refl);
      }

  pub writable_here : MayWrite (signature (current_of parts s a).procedure) → s.writable a.place
  writable_here may = r.writable (may_write parts (s.heap a.place) (current_of parts s a).procedure (waiting_of parts s a) r.sound.waiting may)

  pub room_here : IsFunded parts s a → HasRoom s
  room_here f = record { records = omega (arith, f.records); pointer_writes = omega (arith, f.pointer_writes); value_writes = omega (arith, f.value_writes) }

  pub numbered_here : (d : Reg) (ty : TypeNo) → IsFunded parts s a → next_instr (current_of parts s a) ≡ Some (New d ty) → a.made + 1 < 2 ^ 32
  numbered_here d ty f e =
      let one : unspent (current_of parts s a) ≡ 1 = paid_is_unspent (current_of parts s a) (New d ty) e refl in
      omega (arith, f.made, one)

  pub fresh_here : IsFresh s record { run = a.run; ordinal = a.made }
  fresh_here = r.fresh a.made (omega arith)

  pub target_here : (d : Reg) (ty : TypeNo) → next_instr (current_of parts s a) ≡ Some (New d ty) → IsTarget parts.shape ty
  target_here d ty e =
      all_at (IsKind parts.shape) (current_of parts s a).procedure.kinds d.0 (Pointer ty)
      (valid.procedures r.sound.frame.one.number (current_of parts s a).procedure r.sound.frame.one.is).kinds (fits_here (New d ty) e).2

  pub new_type_here : (d : Reg) (ty : TypeNo) → next_instr (current_of parts s a) ≡ Some (New d ty) → IsNewType s ty
  new_type_here d ty e =
      let t = target_here d ty e in
      record { above = t.0; below = subst (λ (sh : List TypeShape). ty.0 < length sh) (sym r.shape) t.1 }

  pub make_writable : (d : Reg) (ty : TypeNo) → next_instr (current_of parts s a) ≡ Some (New d ty) → s.writable a.place
  make_writable d ty e = writable_here (fits_here (New d ty) e).0

  pub set_root_writable : (slot : SlotNo) (x : Reg) → next_instr (current_of parts s a) ≡ Some (Setroot slot x) → s.writable a.place
  set_root_writable slot x e = writable_here (fits_here (Setroot slot x) e).0

  pub store_writable : (o x : Reg) (slot : SlotNo) → next_instr (current_of parts s a) ≡ Some (Store o slot x) → s.writable a.place
  store_writable o x slot e = writable_here (fits_here (Store o slot x) e).0

  pub store_element_writable : (o i x : Reg) (slot : SlotNo) (n : ℕ) → next_instr (current_of parts s a) ≡ Some (Storex o slot n i x) → s.writable a.place
  store_element_writable o i x slot n e = writable_here (fits_here (Storex o slot n i x) e).0

  pub live_here : (x : Reg) → IsLive s a.place (held_in a.current x)
  live_here x = live_held s a.place a.current.registers.items x.0 r.live.current

  pub write_root_here : (slot : SlotNo) (x : Reg) → IsFunded parts s a → next_instr (current_of parts s a) ≡ Some (Setroot slot x) → MayWriteRoot s a.place slot.0 (held_in a.current x)
  write_root_here slot x funded e =
      let f = fits_here (Setroot slot x) e in
      let b = both_kinds (kind_of (current_of parts s a).procedure x) (root_kind parts.shape slot.0) f.1 in
      record {
        has = r.has;
        writable = writable_here f.0;
        live_value = live_here x;
        kind = b.kind;
        is = ap (λ sh. kind_in sh (s.heap a.place) root_name slot.0) r.shape ∙ ap (kind_from parts.shape slot.0) r.sound.world.well_formed.root ∙ b.second;
        fits = is_of x b.kind b.first;
        room = room_here funded;
      }

  store_by : (o x : Reg) (slot : ℕ) (kind : Kind) → IsFunded parts s a → MayWrite (signature (current_of parts s a).procedure) → kind_of (current_of parts s a).procedure x ≡ Some kind
      → slot_kind parts.shape (kind_of (current_of parts s a).procedure o) slot ≡ Some kind → (v : Register R) → held_in a.current o ≡ v → MayStore s a.place v slot (held_in a.current x)
  store_by o x slot kind funded may fits holds (Number n) is = tt
  store_by o x slot kind funded may fits holds Null is = tt
  store_by o x slot kind funded may fits holds (Reference q) is =
      record {
        writable = writable_here may;
        live = subst (IsLive s a.place) is (live_here o);
        live_value = live_here x;
        kind = kind;
        is = field_here o slot kind holds (Reference q) is;
        fits = is_of x kind fits;
        room = room_here funded;
      }

  pub store_here : (o x : Reg) (slot : SlotNo) → IsFunded parts s a → next_instr (current_of parts s a) ≡ Some (Store o slot x) → MayStore s a.place (held_in a.current o) slot.0 (held_in a.current x)
  store_here o x slot funded e =
      let f = fits_here (Store o slot x) e in
      let b = both_kinds (kind_of (current_of parts s a).procedure x) (slot_kind parts.shape (kind_of (current_of parts s a).procedure o) slot.0) f.1 in
      store_by o x slot.0 b.kind funded f.0 b.first b.second (held_in a.current o) refl

  pub store_elements_here : (o i x : Reg) (slot : SlotNo) (n : ℕ) → IsFunded parts s a
      → next_instr (current_of parts s a) ≡ Some (Storex o slot n i x) → MayStoreElements s a.place (held_in a.current o) slot.0 n (held_in a.current x)
  store_elements_here o i x slot n funded e =
      let f = fits_here (Storex o slot n i x) e in
      let b = both_kinds (kind_of (current_of parts s a).procedure x) (slots_kind parts.shape (kind_of (current_of parts s a).procedure o) slot.0 n) f.1 in
      let array = slots_kind_of parts.shape (kind_of (current_of parts s a).procedure o) slot.0 n b.kind b.second in
      record {
        numbered = elements_numbered o slot.0 n b.kind array;
        each = λ k below. store_by o x (slot.0 + k) b.kind funded f.0 b.first (element_kind o slot.0 n b.kind array k below) (held_in a.current o) refl;
      }

  pub callee_here : (q : ProcNo) (into : Option Reg) (arguments : List Reg) → next_instr (current_of parts s a) ≡ Some (Call q into arguments) → Callee parts q
  callee_here q into arguments e = callee_of parts (current_of parts s a).procedure into arguments q (slice_get parts.procedures q.0) refl (fits_here (Call q into arguments) e)

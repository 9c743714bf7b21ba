-- Reads and writes of records, by what a register holds.
use Rattle.std.proofs.Common.{◌≡◌, ◌≢◌, ℕ, ℤ, Bool, true, false, nat_eq, List, Option, Some, None, refl, ap, sym, ◌∙◌}
use Rattle.std.specs.Option.{option_map}
use borrow.Author.Tests.{eq-eqb, eqb-true}
use Rattle.pst_base.specs.declared.names.Kind.{Kind}
use Rattle.pst_base.specs.declared.names.Kind.TheVariants.{Int, Pointer}
use Rattle.pst_base.specs.declared.names.Name.{Name}
use Rattle.pst_base.specs.declared.names.RunNo.{RunNo}
use Rattle.pst_base.specs.declared.names.TrapKind.{TrapKind}
use Rattle.pst_base.specs.declared.names.TrapKind.TheVariants.{InDegree}
use Rattle.pst_base.specs.declared.names.TypeNo.{TypeNo}
use Rattle.pst_base.specs.declared.shape.TypeShape.{TypeShape}
use Rattle.pst_base.specs.Heap.{Heap, kind_in, in_degree_apart, limit_in, IsPointer, FitsField, IsFull}
use Rattle.pst_program.specs.declared.meaning.Value.{Value}
use Rattle.pst_program.specs.declared.meaning.Value.TheVariants.{Number as ANumber, Null as ANull, Record as ARecord}
use Rattle.pst_program.specs.Value.{Env, Gives, content, load}
use Rattle.pst_program.specs.Meaning.{World, Normal, Trapped, choose, value_written, pointer_written, is_full, write}
use Rattle.pst_program.specs.Sound.{IsOf}
use Rattle.pst_program.specs.Laws.{plain_write}
use Rattle.pst_program.proofs.Guards.{writes}
use Rattle.pst_versions.specs.State.{State, WritesStay, Unchanged, ValueStored, PointerStored}
use Rattle.pst_versions.proofs.StateLemmas.{OthersStay_unchanged}
use Rattle.pst_machine_steps.specs.declared.register.Register.TheVariants.{Number, Null, Reference}
use Rattle.pst_machine_steps.specs.Fields.{world_in, MayWriteField, FieldWritten, PointerWritten}

-- a field that is there gives what it holds
pub load_gives : (shape shape' : List TypeShape) (heap heap' : Heap) (slot : ℕ) (n : Name) (kind : Option Kind) (v : Value) → shape ≡ shape'
    → heap ≡ heap' → kind_in shape heap n slot ≡ kind → v ≡ content kind heap n slot → load shape' heap' slot (ARecord n) ≡ Gives v
load_gives shape shape' heap heap' slot n kind v same_shape same_heap is held =
    ap (λ sh. load sh heap' slot (ARecord n)) (sym same_shape) ∙ ap (λ h. load shape h slot (ARecord n)) (sym same_heap)
    ∙ ap (λ k. Gives (content k heap n slot)) is ∙ ap (λ v. Gives v) (sym held)

-- the kinds that values have
number_kind : (heap : Heap) (kind : Kind) (x : ℤ) → IsOf heap kind (ANumber x) → kind ≡ Int
number_kind heap Int x is = refl
number_kind heap (Pointer ty) x is = absurd is

null_fits : (heap : Heap) (kind : Kind) → IsOf heap kind ANull → IsPointer (Some kind)
null_fits heap Int is = absurd is
null_fits heap (Pointer ty) is = tt

record_fits : (heap : Heap) (kind : Kind) (y : Name) → IsOf heap kind (ARecord y) → FitsField heap (Some kind) (Some y)
record_fits heap Int y is = absurd is
record_fits heap (Pointer ty) y is = (tt, sym (ap (option_map (λ (t : TypeNo). Pointer t)) is))

same_test : (m n : ℕ) (b : Bool) → nat_eq m n ≡ b → m ≢ n → b ≡ false
same_test m n true e apart = absurd (apart (eqb-true m n e))
same_test m n false e apart = refl

module _ {P R : Type 0} where
  -- the worlds after the writes
  value_world : (s t : State P R) (at : P) (n : Name) (slot : ℕ) (x : ℤ) (charges : ℕ) (printed : List ℤ) (run : RunNo) (made : ℕ)
      → ValueStored s at n slot x t → value_written (world_in s at charges printed run made) n slot x ≡ world_in t at charges printed run made
  value_world s t at n slot x charges printed run made d = λ i. record { heap = sym d.heap i; charges = charges; printed = printed; run = run; made = made; counts = sym d.counts i }

  pointer_world : (s t : State P R) (at : P) (n : Name) (slot : ℕ) (p : Option Name) (charges : ℕ) (printed : List ℤ) (run : RunNo) (made : ℕ)
      → PointerStored s at n slot p t → pointer_written (world_in s at charges printed run made) n slot p ≡ world_in t at charges printed run made
  pointer_world s t at n slot p charges printed run made d = λ i. record { heap = sym d.heap i; charges = charges; printed = printed; run = run; made = made; counts = sym d.counts i }

  same_world : (s t : State P R) (at : P) (charges : ℕ) (printed : List ℤ) (run : RunNo) (made : ℕ) → s.has at → Unchanged s t
      → world_in s at charges printed run made ≡ world_in t at charges printed run made
  same_world s t at charges printed run made has u = λ i. record { heap = sym (u.heaps at has) i; charges = charges; printed = printed; run = run; made = made; counts = sym u.counts i }

  -- a fitting write is a plain one
  plain : (s : State P R) (at : P) (n : Name) (slot : ℕ) (kind : Kind) (v : Value) (shape : List TypeShape) (line : ℕ) (env : Env) (charges : ℕ)
      (printed : List ℤ) (run : RunNo) (made : ℕ) → kind_in s.shape (s.heap at) n slot ≡ Some kind → IsOf (s.heap at) kind v → s.shape ≡ shape
      → write shape n slot v line env (world_in s at charges printed run made) ≡ plain_write shape n slot v line env (world_in s at charges printed run made)
  plain s at n slot kind v shape line env charges printed run made is fits same =
      writes shape kind n slot v line env (world_in s at charges printed run made) (ap (λ sh. kind_in sh (s.heap at) n slot) (sym same) ∙ is) fits

  pub number_written : (s t : State P R) (at : P) (r : R) (slot : ℕ) (x : ℤ) → MayWriteField s at r slot (Number x)
      → ValueStored s at (s.name r) slot x t → WritesStay s t → FieldWritten s at (s.name r) slot (Number x) None t
  number_written s t at r slot x m d w = record {
    acts = λ shape same line env charges printed run made.
        plain s at (s.name r) slot m.kind (ANumber x) shape line env charges printed run made m.is m.fits same
        ∙ ap (Normal env) (value_world s t at (s.name r) slot x charges printed run made d);
    kept = record { keeps = d.keeps; others = d.others };
    writes = w;
  }

  pub null_written : (s t : State P R) (at : P) (r : R) (slot : ℕ) (trap : Option TrapKind) → MayWriteField s at r slot Null
      → PointerWritten s at (s.name r) slot None trap t → FieldWritten s at (s.name r) slot Null trap t
  null_written s t at r slot None m d = record {
    acts = λ shape same line env charges printed run made.
        plain s at (s.name r) slot m.kind ANull shape line env charges printed run made m.is m.fits same
        ∙ ap (Normal env) (pointer_world s t at (s.name r) slot None charges printed run made d.0);
    kept = record { keeps = d.0.keeps; others = d.0.others };
    writes = d.1;
  }
  null_written s t at r slot (Some kind) m d = absurd d.1

  full_test : (s : State P R) (at : P) (n : Name) (slot : ℕ) (y : Name) (shape : List TypeShape) → s.shape ≡ shape
      → IsFull s.shape (s.heap at) n slot (Some y) → is_full shape (s.heap at) n slot y ≡ true
  full_test s at n slot y shape same full = ap (λ sh. is_full sh (s.heap at) n slot y) (sym same) ∙ eq-eqb (in_degree_apart (s.heap at) n slot y) (limit_in s.shape (s.heap at) y) full

  room_test : (s : State P R) (at : P) (n : Name) (slot : ℕ) (y : Name) (shape : List TypeShape) → s.shape ≡ shape
      → ¬ (IsFull s.shape (s.heap at) n slot (Some y)) → is_full shape (s.heap at) n slot y ≡ false
  room_test s at n slot y shape same room = ap (λ sh. is_full sh (s.heap at) n slot y) (sym same)
      ∙ same_test (in_degree_apart (s.heap at) n slot y) (limit_in s.shape (s.heap at) y) (is_full s.shape (s.heap at) n slot y) refl room

  pub reference_written : (s t : State P R) (at : P) (r q : R) (slot : ℕ) (trap : Option TrapKind) → s.has at
      → MayWriteField s at r slot (Reference q) → PointerWritten s at (s.name r) slot (Some (s.name q)) trap t
      → FieldWritten s at (s.name r) slot (Reference q) trap t
  reference_written s t at r q slot None has m d = record {
    acts = λ shape same line env charges printed run made.
        let w : World = world_in s at charges printed run made in
        plain s at (s.name r) slot m.kind (ARecord (s.name q)) shape line env charges printed run made m.is m.fits same
        ∙ ap (λ b. choose b (Trapped InDegree line w) (Normal env (pointer_written w (s.name r) slot (Some (s.name q))))) (room_test s at (s.name r) slot (s.name q) shape same d.2)
        ∙ ap (Normal env) (pointer_world s t at (s.name r) slot (Some (s.name q)) charges printed run made d.0);
    kept = record { keeps = d.0.keeps; others = d.0.others };
    writes = d.1;
  }
  reference_written s t at r q slot (Some kind) has m d = record {
    acts = λ shape same line env charges printed run made.
        let w : World = world_in s at charges printed run made in
        plain s at (s.name r) slot m.kind (ARecord (s.name q)) shape line env charges printed run made m.is m.fits same
        ∙ ap (λ b. choose b (Trapped InDegree line w) (Normal env (pointer_written w (s.name r) slot (Some (s.name q))))) (full_test s at (s.name r) slot (s.name q) shape same d.1)
        ∙ ap (λ w. Trapped InDegree line w) (same_world s t at charges printed run made has d.2)
        ∙ ap (λ k. Trapped k line (world_in t at charges printed run made)) (sym d.0);
    kept = record { keeps = d.2.keeps; others = OthersStay_unchanged at s t d.2 };
    writes = d.3;
  }

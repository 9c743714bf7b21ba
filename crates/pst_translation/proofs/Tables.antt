-- The temporary registers: where they stand, and that the code of a procedure writes to registers that are there.
use Rattle.std.proofs.Common.{◌≡◌, ℕ, suc, ◌<◌, Bool, true, false, cond, nat_eq, ◌&&◌, List, [], ◌∷◌, length, map, Option, Some, None, refl, sym, ◌∙◌, arith}
use Rattle.std.proofs.lemmas.Bool.{eqb-true}
use Rattle.std.proofs.lemmas.Option.{slice_get_within}
use Rattle.std.specs.Prelude.{slice_get}
use Rattle.pst_base.specs.declared.names.Kind.{Kind}
use Rattle.pst_base.specs.declared.names.Kind.TheVariants.{Int, Pointer}
use Rattle.pst_program.specs.Syntax as syntax
use Rattle.pst_program.specs.Syntax.{Routines}
use Rattle.pst_program.specs.Typed.{ResultFits, same_kind, IsTypedBlock}
use Rattle.pst_code.specs.declared.instr.Reg.{Reg}
use Rattle.pst_code.specs.declared.instr.Instr.{Instr}
use Rattle.pst_code.specs.declared.instr.Instr.TheVariants as instr
use Rattle.pst_code.specs.declared.procedure.Procedure.{Procedure}
use Rattle.pst_code.specs.declared.procedure.Parts.{Parts}
use Rattle.pst_code.specs.Valid.{kind_of, Alike, IsPointerKind, IsCall, Fits, IsValidProcedure}
use Rattle.pst_translation.specs.declared.need.Need.{Need}
use Rattle.pst_translation.specs.Needs.{need, same_need, index_in, table_of, temp_of}
use Rattle.pst_translation.specs.Compiled.{procedure_code}
use Rattle.pst_translation.proofs.Leading.{WritesBelow, Layout}
use Rattle.pst_translation.proofs.Whole.{Compiled}

-- ---- two levels have two registers

both_true : (a b : Bool) → (a && b) ≡ true → a ≡ true
both_true true b e = refl
both_true false b e = e

same_level : (n : Need) (k : ℕ) (kind : Kind) → same_need n (need k kind) ≡ true → n.level ≡ k
same_level n k kind e = eqb-true n.level k (both_true (nat_eq n.level k) (same_kind n.kind kind) e)

apart_at : (b b' : Bool) (m k k' q q' : ℕ) → (b ≡ true → m ≡ k) → (b' ≡ true → m ≡ k') → (q ≡ q' → k ≡ k') → cond b 0 (suc q) ≡ cond b' 0 (suc q') → k ≡ k'
apart_at true true m k k' q q' f g h e = sym (f refl) ∙ g refl
apart_at true false m k k' q q' f g h e = absurd (omega arith)
apart_at false true m k k' q q' f g h e = absurd (omega arith)
apart_at false false m k k' q q' f g h e = h (omega arith)

apart : (table : List Need) (k k' : ℕ) (kind kind' : Kind) → index_in table k kind ≡ index_in table k' kind' → k ≡ k'
apart [] k k' kind kind' e = e
apart (n ∷ ns) k k' kind kind' e =
    apart_at (same_need n (need k kind)) (same_need n (need k' kind')) n.level k k' (index_in ns k kind) (index_in ns k' kind') (same_level n k kind)
    (same_level n k' kind') (apart ns k k' kind kind') e

pub layout : (locals : ℕ) (table : List Need) → Layout (temp_of locals table) locals
layout locals table = record {
  above = λ k kind. omega arith;
  apart = λ k k' kind kind' e. apart table k k' kind kind' (omega arith);
}

-- ---- valid code writes to registers that are there

alike_there : (p : Procedure) (d : Reg) (held other : Option Kind) → kind_of p d ≡ held → Alike held other → d.0 < length p.kinds
alike_there p d None other is fits = absurd fits
alike_there p d (Some kind) other is fits = slice_get_within p.kinds d.0 kind is

pointer_there : (p : Procedure) (d : Reg) (held : Option Kind) → kind_of p d ≡ held → IsPointerKind held → d.0 < length p.kinds
pointer_there p d None is fits = absurd fits
pointer_there p d (Some kind) is fits = slice_get_within p.kinds d.0 kind is

result_there : (p : Procedure) (d : Reg) (result : Option Kind) → ResultFits p.kinds (Some d.0) result → d.0 < length p.kinds
result_there p d None fits = absurd fits
result_there p d (Some kind) fits = slice_get_within p.kinds d.0 kind fits

call_there : (p : Procedure) (d : Reg) (arguments : List Reg) (callee : Option Procedure) → IsCall p (Some d) arguments callee → d.0 < length p.kinds
call_there p d arguments None fits = absurd fits
call_there p d arguments (Some callee) fits = result_there p d callee.result fits.result_fits

writes_below : (parts : Parts) (p : Procedure) (i : Instr) → Fits parts p i → WritesBelow (length p.kinds) i
writes_below parts p (instr.Charge line) fits = tt
writes_below parts p (instr.Const d n) fits = slice_get_within p.kinds d.0 Int fits
writes_below parts p (instr.Null d) fits = pointer_there p d (kind_of p d) refl fits
writes_below parts p (instr.Copy d s) fits = alike_there p d (kind_of p d) _ refl fits
writes_below parts p (instr.Add d a b) fits = slice_get_within p.kinds d.0 Int fits.0
writes_below parts p (instr.Sub d a b) fits = slice_get_within p.kinds d.0 Int fits.0
writes_below parts p (instr.Mul d a b) fits = slice_get_within p.kinds d.0 Int fits.0
writes_below parts p (instr.Div d a b) fits = slice_get_within p.kinds d.0 Int fits.0
writes_below parts p (instr.Rem d a b) fits = slice_get_within p.kinds d.0 Int fits.0
writes_below parts p (instr.Neg d a) fits = slice_get_within p.kinds d.0 Int fits.0
writes_below parts p (instr.Root d slot) fits = alike_there p d (kind_of p d) _ refl fits
writes_below parts p (instr.Setroot slot s) fits = tt
writes_below parts p (instr.Check o) fits = tt
writes_below parts p (instr.Load d o slot) fits = alike_there p d (kind_of p d) _ refl fits
writes_below parts p (instr.Store o slot s) fits = tt
writes_below parts p (instr.Bound i elements) fits = tt
writes_below parts p (instr.Loadx d o slot elements i) fits = alike_there p d (kind_of p d) _ refl fits.0
writes_below parts p (instr.Storex o slot elements i s) fits = tt
writes_below parts p (instr.New d ty) fits = slice_get_within p.kinds d.0 (Pointer ty) fits.2
writes_below parts p (instr.Print s) fits = tt
writes_below parts p (instr.Jump to) fits = tt
writes_below parts p (instr.Jumpeq a b to) fits = tt
writes_below parts p (instr.Jumpne a b to) fits = tt
writes_below parts p (instr.Jumplt a b to) fits = tt
writes_below parts p (instr.Jumple a b to) fits = tt
writes_below parts p (instr.Jumpgt a b to) fits = tt
writes_below parts p (instr.Jumpge a b to) fits = tt
writes_below parts p (instr.Call q (Some d) arguments) fits = call_there p d arguments (slice_get parts.procedures q.0) fits
writes_below parts p (instr.Call q None arguments) fits = tt
writes_below parts p (instr.Return s) fits = tt

-- ---- the code of a procedure

pub compiled : (r : Routines) (parts : Parts) (p : syntax.Procedure) → IsTypedBlock r p p.body → IsValidProcedure parts (procedure_code r.shape p) → Compiled r p (procedure_code r.shape p)
compiled r parts p typed valid =
    let table = table_of r.shape p in
    record {
      temp = temp_of (length p.kinds) table;
      temps = map (λ n. n.kind) table;
      layout = layout (length p.kinds) table;
      kinds_are = refl;
      code_is = refl;
      valid = λ i x e. writes_below parts (procedure_code r.shape p) x (valid.fits i x e);
      typed = typed;
    }

-- The code of a program is valid.
use Rattle.std.proofs.Common.{◌≡◌, ◌⊎◌, inl, inr, ℕ, ◌+◌, ◌-◌, ◌<◌, ◌≤◌, true, List, [], ◌++◌, map, length, All, Option, Some, None, refl, sym, ap, ◌∙◌, subst, arith, slice_get, length-append}
use Rattle.std.specs.List.{AllByRecursion}
use Rattle.std.specs.Option.{option_map}
use Rattle.std.proofs.lemmas.Option.{slice_get-map}
use Rattle.std.proofs.lemmas.List.{length-map}
use Rattle.std.proofs.lemmas.List.Elements.{All-append, All-map, All-from_recursion, recursion_from_All}
use Rattle.pst_base.specs.declared.names.Kind.{Kind}
use Rattle.pst_program.specs.Syntax as syntax
use Rattle.pst_program.specs.Syntax.{Routines}
use Rattle.pst_program.specs.Procedures.{NamesDiffer}
use Rattle.pst_program.specs.Typed.{IsTyped, IsTypedProcedure, IsKind}
use Rattle.pst_code.specs.declared.instr.Instr.{Instr}
use Rattle.pst_code.specs.declared.procedure.Procedure.{Procedure}
use Rattle.pst_code.specs.declared.procedure.TheConstants.{MOST_PROCEDURES, MOST_REGISTERS}
use Rattle.pst_code.specs.Valid.{Fits, JumpsTo, IsCharge, Paid, IsLast, target_of, is_paid, signature, IsValidProcedure, IsValidCode}
use Rattle.pst_translation.specs.declared.need.Need.{Need}
use Rattle.pst_translation.specs.Code.{Temp, block_code, end_code}
use Rattle.pst_translation.specs.Needs.{block_needs, end_needs, table_of, temp_of, index_in}
use Rattle.pst_translation.specs.Compiled.{procedure_code, code_of}
use Rattle.pst_translation.specs.ValidLaws.{IsLow, HasFewRegisters}
use Rattle.pst_translation.proofs.ValidLists.{get_kept, get_back, all_join, all_front, all_back, all_weaker, all_at}
use Rattle.pst_translation.proofs.ValidPieces.{PaidAt, Quiet, jumps_of, quiet_piece}
use Rattle.pst_translation.proofs.ValidStatements.{Closed, then_closed, block_closed, end_quiet}
use Rattle.pst_translation.proofs.ValidTables.{IsFair, Placed, noted_covers, kind_at, few_noted, noted_fair}
use Rattle.pst_translation.proofs.ValidNeeds.{block_fair, end_fair}
use Rattle.pst_translation.proofs.ValidActions.{block_fits, end_fits}
use Rattle.pst_translation.proofs.ValidFits.{Held}

-- how the code of a procedure ends
record Last (c : List Instr) : Type 0 where
  at : ℕ
  size : length c ≡ at + 1
  is : IsLast (slice_get c at)

end_last : (temp : Temp) (result : Option Kind) → Last (end_code temp result)
end_last temp None = record { at = 0; size = refl; is = tt }
end_last temp (Some kind) = record { at = 1; size = refl; is = tt }

-- a procedure of a well-typed program
module _ (r : Routines) (t : IsTyped r) (p : syntax.Procedure) (tp : IsTypedProcedure r p) where
  abbrev needs : List Need
  needs = block_needs r.shape p.body ++ end_needs p.result

  abbrev table : List Need
  table = table_of r.shape p

  abbrev temp : Temp
  temp = temp_of (length p.kinds) table

  abbrev pc : Procedure
  pc = procedure_code r.shape p

  known : AllByRecursion (IsKind r.shape) p.kinds
  known = recursion_from_All (IsKind r.shape) p.kinds tp.kinds

  fair : AllByRecursion (IsFair r.shape) needs
  fair = all_join (IsFair r.shape) (block_needs r.shape p.body) (end_needs p.result)
      (block_fair r t.valid p known t.procedures p.body tp.body tp.shallow.expressions) (end_fair r.shape p.result tp.result)

  few_temps : length table ≤ 4745
  few_temps = few_noted r.shape t.valid.few needs fair

  few : HasFewRegisters r.shape p
  few = record {
    levels = all_weaker (IsFair r.shape) IsLow (λ n f. f.0) needs fair;
    registers = let locals : length p.kinds ≤ p.arguments + 64 = tp.few_locals in let parameters : p.arguments ≤ 8 = tp.few_parameters in omega (arith, few_temps);
  }

  -- ---- registers and kinds

  stays : (x : ℕ) (kind : Kind) → slice_get p.kinds x ≡ Some kind → slice_get pc.kinds x ≡ Some kind
  stays x kind e = get_kept p.kinds (map (λ n. n.kind) table) x kind e

  held : AllByRecursion (Held (code_of r) pc p.kinds temp stays) needs
  held = all_weaker (Placed table) (Held (code_of r) pc p.kinds temp stays)
      (λ n placed. get_back p.kinds (map (λ n. n.kind) table) (index_in table n.level n.kind) ∙ kind_at table n placed) needs (noted_covers needs [])

  all_kinds : All (IsKind r.shape) pc.kinds
  all_kinds =
      All-append (IsKind r.shape) p.kinds (map (λ n. n.kind) table) tp.kinds
      (All-map (IsKind r.shape) (λ (n : Need). n.kind) table (All-from_recursion (λ (n : Need). IsKind r.shape n.kind) table
      (all_weaker (IsFair r.shape) (λ (n : Need). IsKind r.shape n.kind) (λ n f. f.1) table (noted_fair r.shape t.valid.few needs fair))))

  kinds_size : length pc.kinds ≡ length p.kinds + length table
  kinds_size =
      let both : length pc.kinds ≡ length p.kinds + length (map (λ (n : Need). n.kind) table) = length-append p.kinds (map (λ n. n.kind) table) in
      let one : length (map (λ (n : Need). n.kind) table) ≡ length table = length-map table (λ n. n.kind) in
      omega arith

  -- ---- instructions

  abbrev block : List Instr
  block = block_code r.shape temp p.body 0

  abbrev end : List Instr
  end = end_code temp p.result

  all_fit : AllByRecursion (Fits (code_of r) pc) pc.instructions
  all_fit = all_join (Fits (code_of r) pc) block end
      (block_fits r p pc temp stays refl refl t.procedures p.body 0 tp.body (all_front (Held (code_of r) pc p.kinds temp stays) (block_needs r.shape p.body) (end_needs p.result) held))
      (end_fits r p pc temp stays refl refl t.procedures p.result refl (all_back (Held (code_of r) pc p.kinds temp stays) (block_needs r.shape p.body) (end_needs p.result) held))

  size : length pc.instructions ≡ length block + length end
  size = length-append block end

  end_closed : Closed end (0 + length block)
  end_closed = quiet_piece end (0 + length block) (0 + length block + length end) (end_quiet temp p.result) (omega arith)

  closed : Closed pc.instructions 0
  closed = then_closed block end 0 (block_closed r.shape temp p.body 0) end_closed

  ends : IsLast (slice_get pc.instructions (length pc.instructions - 1))
  ends =
      let last : Last end = end_last temp p.result in
      let length_is : length end ≡ last.at + 1 = last.size in
      let index : length pc.instructions - 1 ≡ length block + last.at = omega (arith, size) in
      subst IsLast (sym (ap (slice_get pc.instructions) index ∙ get_back block end last.at)) last.is

  no_jump : (i to : ℕ) → JumpsTo end i to → ⊥
  no_jump i to j =
      let none : target_of j.instr ≡ None = (all_at Quiet end i j.instr (end_quiet temp p.result) j.there).0 in
      let some : target_of j.instr ≡ Some to = j.goes in
      cc

  within : (to : ℕ) → (to ≤ 0 + length block) ⊎ (to ≡ 0 + length block) → to < length pc.instructions
  within to (inl le) = let last : Last end = end_last temp p.result in let length_is : length end ≡ last.at + 1 = last.size in omega (arith, size)
  within to (inr e) = let last : Last end = end_last temp p.result in let length_is : length end ≡ last.at + 1 = last.size in omega (arith, size)

  targets : (from to : ℕ) → JumpsTo pc.instructions from to → to < length pc.instructions
  targets = jumps_of block end (λ i to. to < length pc.instructions) (λ i to lt j. within to ((block_closed r.shape temp p.body 0).high i to j)) (λ i to j. absurd (no_jump i to j))

  back : (from to : ℕ) → JumpsTo pc.instructions from to → to ≤ from → IsCharge (slice_get pc.instructions to)
  back from to j le = let same : to - 0 ≡ to = omega arith in subst (λ (n : ℕ). IsCharge (slice_get pc.instructions n)) same (closed.back from to j (omega arith))

  apart_at_0 : (charge i to : ℕ) → (to ≤ 0 + charge) ⊎ (0 + i < to) → (to ≤ charge) ⊎ (i < to)
  apart_at_0 charge i to (inl le) = inl (omega arith)
  apart_at_0 charge i to (inr lt) = inr (omega arith)

  paid : (i : ℕ) (x : Instr) → slice_get pc.instructions i ≡ Some x → is_paid x ≡ true → Paid pc.instructions i
  paid i x there pays =
      let q : PaidAt pc.instructions 0 i = closed.paid i x there pays in
      record { charge = q.charge; before = q.before; is_charge = q.is_charge; quiet = q.quiet; apart = λ from to j. apart_at_0 q.charge i to (q.apart from to j) }

  valid_procedure : IsValidProcedure (code_of r) pc
  valid_procedure = record {
    few_registers = let most : length p.kinds + length table ≤ MOST_REGISTERS = few.registers in omega (arith, kinds_size);
    few_arguments = tp.few_parameters;
    arguments = let there : p.arguments ≤ length p.kinds = tp.parameters in omega (arith, kinds_size);
    kinds = all_kinds;
    result = tp.result;
    fits = λ i x there. all_at (Fits (code_of r) pc) pc.instructions i x all_fit there;
    ends = ends;
    targets = targets;
    back = back;
    paid = paid;
  }

-- ---- the whole program

-- a procedure of the code is the code of a procedure
record Origin (r : Routines) (i : ℕ) (pc : Procedure) : Type 0 where
  from : syntax.Procedure
  at : slice_get r.procedures i ≡ Some from
  is : procedure_code r.shape from ≡ pc

origin_of : (r : Routines) (i : ℕ) (pc : Procedure) (o : Option syntax.Procedure) → slice_get r.procedures i ≡ o → option_map (procedure_code r.shape) o ≡ Some pc → Origin r i pc
origin_of r i pc None at e = absurd (cc)
origin_of r i pc (Some p) at e = let same : procedure_code r.shape p ≡ pc = cc in record { from = p; at = at; is = same }

origin : (r : Routines) (i : ℕ) (pc : Procedure) → slice_get (code_of r).procedures i ≡ Some pc → Origin r i pc
origin r i pc e = origin_of r i pc (slice_get r.procedures i) refl (sym (slice_get-map (procedure_code r.shape) r.procedures i) ∙ e)

names_differ : (r : Routines) → IsTyped r → NamesDiffer signature (code_of r).procedures
names_differ r t i j p q at at' same =
    let a : Origin r i p = origin r i p at in
    let b : Origin r j q = origin r j q at' in
    t.names i j a.from b.from a.at b.at (ap (λ (p : Procedure). p.name) a.is ∙ same ∙ sym (ap (λ (p : Procedure). p.name) b.is))

pub few_registers : (r : Routines) → IsTyped r → (i : ℕ) (p : syntax.Procedure) → slice_get r.procedures i ≡ Some p → HasFewRegisters r.shape p
few_registers r t i p at = few r t p (t.procedures i p at)

pub compiled_is_valid : (r : Routines) → IsTyped r → IsValidCode (code_of r)
compiled_is_valid r t = record {
  shape = t.valid;
  few = let size : length (map (procedure_code r.shape) r.procedures) ≡ length r.procedures = length-map r.procedures (procedure_code r.shape) in
      let most : length r.procedures ≤ MOST_PROCEDURES = t.few in omega arith;
  names = names_differ r t;
  procedures = λ i pc at. let o : Origin r i pc = origin r i pc at in subst (IsValidProcedure (code_of r)) o.is (valid_procedure r t o.from (t.procedures i o.from o.at));
}

-- What is accepted is well typed.
use Rattle.std.proofs.Common.{◌≡◌, ℕ, ◌+◌, ◌<◌, ◌≤◌, true, List, [], ◌∷◌, map, length, take, All, replicate, ◌++◌, Option, Some, None, slice_get, get_or}
use Rattle.std.proofs.Common.{unwrap_or, Ok, refl, sym, ap, subst, ◌∙◌, arith, suc, zero, length-append}
use Rattle.std.specs.Option.{option_map}
use Rattle.std.proofs.lemmas.Option.{slice_get_within}
use Rattle.std.proofs.lemmas.List.{length-map}
use Rattle.pst_base.specs.declared.names.TypeNo.{TypeNo}
use Rattle.pst_base.specs.declared.shape.TypeShape.{TypeShape}
use Rattle.pst_base.specs.declared.shape.TheConstants.{MOST_ROOTS, MOST_IN_DEGREE, MOST_ELEMENTS}
use Rattle.pst_base.specs.Shape as shape
use Rattle.pst_grammar.specs.Syntax as tree
use Rattle.pst_grammar.specs.Depth as depth
use Rattle.pst_program.specs.Syntax as program
use Rattle.pst_program.specs.Typed as typed
use Rattle.pst_program.specs.Procedures.{NamesDiffer}
use Rattle.pst_typing.specs.declared.fault.TypeFault.TheVariants as fault
use Rattle.pst_typing.specs.Answers.{through}
use Rattle.pst_typing.specs.Names.{Member, Members, Scope, nothing_declared, Local, Setting, RecordType, Signature, named, elements_of, number_of, kind_of, is_known}
use Rattle.pst_typing.specs.Statements.{block}
use Rattle.pst_typing.specs.Declarations.{noted, with_targets, targets_of, shape_of, variable, is_result_known, procedure, NamedProgram, declared, root_alone}
use Rattle.pst_typing.specs.Laws.{routines_in, AcceptedIsTyped}
use Rattle.pst_typing.proofs.Passed.{passed, first_passed, same_ok}
use Rattle.pst_typing.proofs.Few.{through_few}
use Rattle.pst_typing.proofs.Laid.{IsLaid, AllKnown}
use Rattle.pst_typing.proofs.Sorts.{Sound, HasShape, known_target}
use Rattle.pst_typing.proofs.Acts.{KnownEach, KnownResult, Callee, IsSettingOf, good_block}
use Rattle.pst_typing.proofs.Deep.{block_depth}
use Rattle.pst_typing.proofs.Locals.{kinds_in, grew, kind_fits, kinds_fit, first_kinds}
use Rattle.pst_typing.proofs.Whole.{Entry, entry_at, entry_named, entries_length, routine_at, routine_named, routines_length, one_index, Together, start, together}

-- ---- the shape

type_is : (types : List TypeShape) (n : TypeNo) (s : TypeShape) → slice_get types n.0 ≡ Some s → shape.type_at types n ≡ s
type_is types n s e = ap (λ o. unwrap_or o shape.no_type) e

-- a type's entry stands behind the root's
entry_type : (root : TypeShape) (shapes types : List TypeShape) (n : TypeNo) (i : ℕ) (s : TypeShape) → types ≡ root ∷ shapes → n.0 ≡ suc i → slice_get shapes i ≡ Some s → shape.type_at types n ≡ s
entry_type root shapes types n i s is at e = type_is types n s (ap (λ l. slice_get l n.0) is ∙ ap (slice_get (root ∷ shapes)) at ∙ e)

has_shape : (scope : Scope) (types shapes : List TypeShape) (r : RecordType) → types ≡ shape_of scope 1 scope.roots ∷ shapes → Entry scope 1 shapes r → HasShape scope types r
has_shape scope types shapes r is e =
    let at : r.number.0 ≡ suc e.index = let n = e.is.number in omega (arith, n) in
    let inside = slice_get_within shapes e.index e.type e.at in
    let long : length types ≡ suc (length shapes) = ap length is in
    record {
      positive = omega (arith, at);
      below = omega (arith, at, inside, long);
      limit = e.is.limit;
      is = entry_type (shape_of scope 1 scope.roots) shapes types r.number e.index e.type is at e.at ∙ e.is.is;
      laid = e.is.laid;
      few = e.is.few;
      known = e.is.known;
    }

root_type_is : (scope : Scope) (types shapes : List TypeShape) → types ≡ shape_of scope 1 scope.roots ∷ shapes → shape.type_at types shape.root_type ≡ shape_of scope 1 scope.roots
root_type_is scope types shapes is = type_is types shape.root_type (shape_of scope 1 scope.roots) (ap (λ l. slice_get l 0) is)

is_sound : (scope : Scope) (p : NamedProgram) → Together scope scope p → Sound scope p.shape
is_sound scope p g = record {
  types_have = λ t r e. has_shape scope p.shape g.shapes r g.is (entry_named scope 1 scope.types g.shapes t r g.entries e);
  root_is = root_type_is scope p.shape g.shapes g.is;
  root_laid = g.laid;
  root_few = omega (arith, g.one_each, g.few_roots);
  root_known = g.known;
}

-- one type, so many times, before others
repeated : (types : List TypeShape) (ty : TypeNo) (n : ℕ) (rest : List TypeNo) → shape.IsTarget types ty → ((k : ℕ) (d : TypeNo) → k < length rest → shape.IsTarget types (get_or rest k d)) →
    (k : ℕ) (d : TypeNo) → k < length (replicate n ty ++ rest) → shape.IsTarget types (get_or (replicate n ty ++ rest) k d)
repeated types ty zero rest here go k d below = go k d below
repeated types ty (suc n) rest here go zero d below = here
repeated types ty (suc n) rest here go (suc k) d below = let inside : k < length (replicate n ty ++ rest) = omega arith in repeated types ty n rest here go k d inside

-- the elements of one field before others
field_targets : (scope : Scope) (types : List TypeShape) (kind : tree.TypeWord) (n : ℕ) (rest : List TypeNo) → Sound scope types
    → is_known scope kind ≡ true → ((k : ℕ) (d : TypeNo) → k < length rest → shape.IsTarget types (get_or rest k d)) →
    (k : ℕ) (d : TypeNo) → k < length (with_targets scope kind n rest) → shape.IsTarget types (get_or (with_targets scope kind n rest) k d)
field_targets scope types tree.Int n rest sound known go k d below = go k d below
field_targets scope types (tree.Named t) n rest sound known go k d below = repeated types (number_of scope t) n rest (known_target scope types t sound known) go k d below

-- the types of pointer elements are entries of the shape
targets_fit : (scope : Scope) (types : List TypeShape) (ms : List (List ℕ × Member)) → Sound scope types → AllKnown scope ms → (k : ℕ) (d : TypeNo)
    → k < length (targets_of scope ms) → shape.IsTarget types (get_or (targets_of scope ms) k d)
targets_fit scope types [] sound known k d below = absurd (omega arith)
targets_fit scope types (m ∷ ms) sound known k d below = field_targets scope types m.1.kind (elements_of m.1.elements) (targets_of scope ms) sound
    known.0 (targets_fit scope types ms sound known.1) k d below

record FieldsFit (types : List TypeShape) (s : TypeShape) (most : ℕ) : Type 0 where
  pub count : shape.element_count s ≤ most
  pub targets : All (shape.IsTarget types) s.targets

fields_fit : (scope : Scope) (types : List TypeShape) (limit most : ℕ) (m : Members) → Sound scope types → IsLaid scope m → AllKnown scope m.list
    → m.values + m.pointers ≤ most → FieldsFit types (shape_of scope limit m) most
fields_fit scope types limit most m sound laid known few = record {
  count = omega (arith, laid.pointers, few);
  targets = targets_fit scope types m.list sound known;
}

-- what holds of each entry of the shape but the root's
record Fine (types : List TypeShape) (s : TypeShape) : Type 0 where
  pub limit : (1 ≤ s.limit) × (s.limit ≤ MOST_IN_DEGREE)
  pub fields : FieldsFit types s MOST_ELEMENTS

fine_entry : (scope : Scope) (p : NamedProgram) (g : Together scope scope p) (ty : TypeNo) → 0 < ty.0 → ty.0 < length p.shape → Fine p.shape (shape.type_at p.shape ty)
fine_entry scope p g ty positive below = by_number ty.0 refl
  where
    by_number : (n : ℕ) → ty.0 ≡ n → Fine p.shape (shape.type_at p.shape ty)
    by_number zero is = absurd (omega (arith, is))
    by_number (suc i) is =
        let long : length p.shape ≡ suc (length g.shapes) = ap length g.is in
        let inside : i < length g.shapes = omega (arith, is, long) in
        let e = entry_at scope 1 i scope.types g.shapes g.entries inside in
        let type_here = entry_type (shape_of scope 1 scope.roots) g.shapes p.shape ty i e.1.0 g.is is e.1.1.0 ∙ e.1.1.1.is in
        let fine : Fine p.shape (shape_of scope e.1.1.1.limit e.0.members) = record {
          limit = (e.1.1.1.least, e.1.1.1.most);
          fields = fields_fit scope p.shape e.1.1.1.limit MOST_ELEMENTS e.0.members (is_sound scope p g) e.1.1.1.laid e.1.1.1.known e.1.1.1.few;
        } in
        subst (λ (s : TypeShape). Fine p.shape s) (sym type_here) fine

root_fits : (scope : Scope) (p : NamedProgram) (g : Together scope scope p) → FieldsFit p.shape (shape.type_at p.shape shape.root_type) MOST_ROOTS
root_fits scope p g =
    let sound = is_sound scope p g in
    subst (λ (s : TypeShape). FieldsFit p.shape s MOST_ROOTS) (sym (root_type_is scope p.shape g.shapes g.is)) (fields_fit scope p.shape 1 MOST_ROOTS scope.roots sound g.laid g.known sound.root_few)

all_fit : (scope : Scope) (p : NamedProgram) (g : Together scope scope p) (ty : TypeNo) → ty.0 < length p.shape → All (shape.IsTarget p.shape) (shape.type_at p.shape ty).targets
all_fit scope p g ty below = by_number ty.0 refl
  where
    by_number : (n : ℕ) → ty.0 ≡ n → All (shape.IsTarget p.shape) (shape.type_at p.shape ty).targets
    by_number zero is =
        let same : ty ≡ shape.root_type = λ i. record { 0 = is i } in
        subst (λ (t : TypeNo). All (shape.IsTarget p.shape) (shape.type_at p.shape t).targets) (sym same) (root_fits scope p g).targets
    by_number (suc i) is = let positive : 0 < ty.0 = omega (arith, is) in (fine_entry scope p g ty positive below).fields.targets

is_valid : (scope : Scope) (p : NamedProgram) → Together scope scope p → shape.IsValid p.shape
is_valid scope p g =
    let long : length p.shape ≡ suc (length g.shapes) = ap length g.is in
    let many = entries_length scope 1 scope.types g.shapes g.entries in
    let types_few = g.few_types in
    record {
      some = omega (arith, long);
      few = omega (arith, long, many, types_few);
      root_limit = ap (λ (s : TypeShape). s.limit) (root_type_is scope p.shape g.shapes g.is);
      root_fields = (root_fits scope p g).count;
      limits = λ ty positive below. (fine_entry scope p g ty positive below).limit;
      elements = λ ty positive below. (fine_entry scope p g ty positive below).fields.count;
      targets = all_fit scope p g;
    }

-- ---- procedures

-- a procedure that was judged
pub record Made (scope : Scope) (text : tree.ProcedureText) (q : program.Procedure) : Type 0 where
  pub parameters : List (List ℕ × Local)
  pub variables : List (List ℕ × Local)
  pub body : program.Actions
  pub first : through (variable scope 8) [] text.parameters ≡ Ok parameters
  pub result : is_result_known scope text.result ≡ true
  pub second : through (variable scope (length parameters + 64)) parameters text.locals ≡ Ok variables
  pub judged : block (record { scope = scope; query = text.query; result = text.result; locals = variables }) text.body ≡ Ok body
  pub is : q ≡ record {
    name = text.name;
    query = text.query;
    arguments = length parameters;
    result = option_map (kind_of scope) text.result;
    kinds =
        map (λ (v : List ℕ × Local). kind_of scope v.1.kind) variables;
    body = body;
  }

pub made : (scope : Scope) (text : tree.ProcedureText) (q : program.Procedure) → procedure scope text ≡ Ok q → Made scope text q
made scope text q e =
    let ps = first_passed (through (variable scope 8) [] text.parameters) _ q e in
    let known = passed (is_result_known scope text.result) (fault.Unknown text.line) _ q ps.1.1 in
    let vs = first_passed (through (variable scope (length ps.0 + 64)) ps.0 text.locals) _ q known.1 in
    let b = first_passed (block (record { scope = scope; query = text.query; result = text.result; locals = vs.0 }) text.body) _ q vs.1.1 in
    record { parameters = ps.0; variables = vs.0; body = b.0; first = ps.1.0; result = known.0; second = vs.1.0; judged = b.1.0; is = sym (same_ok _ _ b.1.1) }

known_result : (scope : Scope) (result : Option tree.TypeWord) → is_result_known scope result ≡ true → KnownResult scope result
known_result scope None e = tt
known_result scope (Some kind) e = e

result_fits : (scope : Scope) (types : List TypeShape) (result : Option tree.TypeWord) → Sound scope types → is_result_known scope result ≡ true
    → typed.IsResult types (option_map (kind_of scope) result)
result_fits scope types None sound e = tt
result_fits scope types (Some kind) sound e = kind_fits scope types kind sound e

-- what a call finds
callee : (scope : Scope) (p : NamedProgram) → Together scope scope p → (x : List ℕ) (s : Signature) → named x scope.procedures ≡ Some s → Callee (routines_in p) scope s
callee scope p g x s e =
    let f = routine_named scope 0 scope.procedures p.procedures x s g.routines e in
    let text = f.is.text in
    let m = made scope text f.procedure f.is.made in
    let sign = f.is.signature in
    let one = grew scope 8 text.parameters [] m.parameters m.first in
    let two = grew scope (length m.parameters + 64) text.locals m.parameters m.variables m.second in
    let number : s.number.0 ≡ f.index = let n : s.number.0 ≡ 0 + f.index = ap (λ (t : Signature). t.number.0) sign in omega (arith, n) in
    let parameters : typed.parameters_of f.procedure ≡ map (λ (l : tree.LocalText). kind_of scope l.kind) text.parameters =
    ap typed.parameters_of m.is ∙ ap (λ vs. take (length m.parameters) (kinds_in scope vs)) two.is ∙ first_kinds scope m.parameters two.more ∙ ap (kinds_in scope) one.is ∙ one.kinds in
    record {
      callee = f.procedure;
      at = ap (slice_get p.procedures) number ∙ f.at;
      query = ap (λ (q : program.Procedure). q.query) m.is ∙ sym (ap (λ (t : Signature). t.query) sign);
      parameters = parameters ∙ ap (λ (t : Signature). map (λ (l : tree.LocalText). kind_of scope l.kind) t.parameters) (sym sign);
      known = subst (λ (t : Signature). KnownEach scope t.parameters) (sym sign) one.each;
      result = ap (λ (q : program.Procedure). q.result) m.is ∙ ap (λ (t : Signature). option_map (kind_of scope) t.result) (sym sign);
    }

is_procedure : (scope : Scope) (p : NamedProgram) (g : Together scope scope p) (text : tree.ProcedureText) (q : program.Procedure)
    → procedure scope text ≡ Ok q → depth.phrases_height text.body ≤ 63 → depth.phrases_nesting text.body ≤ 15 → typed.IsTypedProcedure (routines_in p) q
is_procedure scope p g text q e high deep =
    let m = made scope text q e in
    let one = grew scope 8 text.parameters [] m.parameters m.first in
    let two = grew scope (length m.parameters + 64) text.locals m.parameters m.variables m.second in
    let sound = is_sound scope p g in
    let final : program.Procedure = record {
      name = text.name;
      query = text.query;
      arguments = length m.parameters;
      result =
          option_map (kind_of scope) text.result;
      kinds = kinds_in scope m.variables;
      body = m.body;
    } in
    let setting : Setting = record { scope = scope; query = text.query; result = text.result; locals = m.variables } in
    let stands : IsSettingOf (routines_in p) final setting = record {
      sound = sound;
      have = two.good (one.good (λ x l h. cc));
      query = refl;
      result = refl;
      result_known = known_result scope text.result m.result;
      calls = callee scope p g;
    } in
    let none : 0 ≤ 8 = omega arith in
    let within : length m.parameters ≤ length m.parameters + 64 = omega arith in
    let few = through_few scope 8 text.parameters [] m.parameters none m.first in
    let few_all = through_few scope (length m.parameters + 64) text.locals m.parameters m.variables within m.second in
    let count : length (kinds_in scope m.variables) ≡ length m.variables = length-map m.variables (λ (v : List ℕ × Local). kind_of scope v.1.kind) in
    let longer : length m.variables ≡ length m.parameters + length two.more = ap length two.is ∙ length-append m.parameters two.more in
    let shallow = block_depth setting text.body m.body m.judged in
    let shallow_depth = shallow.depth in
    let shallow_nesting = shallow.nesting in
    let whole : typed.IsTypedProcedure (routines_in p) final = record {
      parameters = omega (arith, count, longer);
      few_parameters = few;
      few_locals = omega (arith, count, few_all);
      kinds = kinds_fit scope p.shape m.variables sound (two.known (one.known tt));
      result = result_fits scope p.shape text.result sound m.result;
      body = good_block (routines_in p) final setting stands text.body m.body m.judged;
      shallow = record { expressions = omega (arith, shallow_depth, high); blocks = omega (arith, shallow_nesting, deep) };
    } in
    subst (λ (r : program.Procedure). typed.IsTypedProcedure (routines_in p) r) (sym m.is) whole

procedures_are : (scope : Scope) (p : NamedProgram) → Together scope scope p → (i : ℕ) (q : program.Procedure) → slice_get p.procedures i ≡ Some q → typed.IsTypedProcedure (routines_in p) q
procedures_are scope p g i q e =
    let f = routine_at scope 0 i scope.procedures p.procedures q g.routines e in
    is_procedure scope p g f.is.text q f.is.made f.is.height f.is.nesting

name_is : (scope : Scope) (text : tree.ProcedureText) (q : program.Procedure) → procedure scope text ≡ Ok q → q.name ≡ text.name
name_is scope text q e = ap (λ (r : program.Procedure). r.name) (made scope text q e).is

names_differ : (scope : Scope) (p : NamedProgram) → Together scope scope p → NamesDiffer typed.signature p.procedures
names_differ scope p g = λ i j q r e f same.
    let a = routine_at scope 0 i scope.procedures p.procedures q g.routines e in
    let b = routine_at scope 0 j scope.procedures p.procedures r g.routines f in
    one_index scope.procedures i j a.name b.name a.signature b.signature g.apart a.at b.at
    (a.is.name ∙ sym (name_is scope a.is.text q a.is.made) ∙ same ∙ name_is scope b.is.text r b.is.made ∙ sym b.is.name)

pub accepted : AcceptedIsTyped
accepted items p shallow e =
    let w = first_passed (through noted nothing_declared items) (λ scope. through (declared scope) (root_alone scope) items) p e in
    let g = together w.0 items nothing_declared w.0 (root_alone w.0) p shallow.height shallow.nesting (start w.0) w.1.0 w.1.1 in
    let many = routines_length w.0 0 w.0.procedures p.procedures g.routines in
    let few = g.few_procedures in
    record { valid = is_valid w.0 p g; few = omega (arith, many, few); names = names_differ w.0 p g; procedures = procedures_are w.0 p g }

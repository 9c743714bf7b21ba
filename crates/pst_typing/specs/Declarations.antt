-- The types of a program: its first fault, or the typed program.
use Rattle.std.specs.Prelude.{ℕ, ◌+◌, Bool, true, not, ◌&&◌, nat_lt, nat_le, List, [], ◌∷◌, ◌++◌, length, map, replicate, codes, ℤ, pos, negsuc, Option, Some, None, Result, Ok, if◌then◌else◌}
use Rattle.std.specs.Option.{option_map}
use Rattle.pst_base.specs.declared.names.TypeNo.{TypeNo}
use Rattle.pst_base.specs.declared.shape.TypeShape.{TypeShape}
use Rattle.pst_base.specs.declared.shape.TheConstants.{MOST_ROOTS, MOST_IN_DEGREE, MOST_ELEMENTS}
use Rattle.pst_grammar.specs.Syntax as tree
use Rattle.pst_program.specs.declared.program.TypeEntry.{TypeEntry}
use Rattle.pst_program.specs.Syntax as program
use Rattle.pst_typing.specs.declared.fault.TypeFault.{TypeFault}
use Rattle.pst_typing.specs.declared.fault.TypeFault.TheVariants.{Unknown, Duplicate, Limit, TooMany}
use Rattle.pst_typing.specs.Answers.{and_then, check, found, through}
use Rattle.pst_typing.specs.Names.{Member, Members, no_members, with_member, with_field, members_from, slot_of, elements_of, is_length_of, length_in, field_line, field_name, field_kind, field_elements, Scope, nothing_declared, is_free, number_of, kind_of, is_known, Local, is_named}
use Rattle.pst_typing.specs.Statements.{block}

-- ---- the first walk: the names that are declared

-- a declaration, judged against those before it
abbrev pub noted : Scope → tree.Item → Result Scope TypeFault
noted scope (tree.Record line x limit fields) =
    check (nat_lt (length scope.types) 64) (TooMany line) (check (is_free scope x) (Duplicate line) (
    Ok (record scope { types = scope.types ++ (x, record { number = record { 0 = length scope.types + 1 }; members = members_from no_members fields }) ∷ [] })))
noted scope (tree.Root line x kind) =
    check (nat_lt (length scope.roots.list) MOST_ROOTS) (TooMany line) (check (is_free scope x) (Duplicate line) (
    Ok (record scope { roots = with_member scope.roots x kind None })))
noted scope (tree.Procedure p) =
    check (nat_lt (length scope.procedures) 256) (TooMany p.line) (check (is_free scope p.name) (Duplicate p.line) (
    Ok (record scope { procedures = scope.procedures ++ (p.name, record { number = record { 0 = length scope.procedures }; query = p.query; parameters = p.parameters; result = p.result }) ∷ [] })))

-- ---- the second walk: what the declarations say

-- the in-degree limit, if it is from 1 to 16
abbrev pub limit_of : ℤ → Option ℕ
limit_of (pos n) = if nat_lt 0 n && nat_le n MOST_IN_DEGREE then Some n else None
limit_of (negsuc n) = None

-- how many elements the fields have with one more field
abbrev pub elements_with : Members → tree.FieldText → ℕ
elements_with m f = m.values + m.pointers + elements_of (length_in (field_elements f))

-- a field, judged after those before it: at most 16, of different names, each of 1 to 16 elements, together at most 64, and of known types
abbrev pub field : Scope → Members → tree.FieldText → Result Members TypeFault
field scope before f =
    check (nat_lt (length before.list) 16) (TooMany (field_line f)) (check (not (is_named (field_name f) before.list)) (Duplicate (field_line f)) (
    check (is_length_of (field_elements f)) (Limit (field_line f)) (check (nat_le (elements_with before f) MOST_ELEMENTS) (TooMany (field_line f)) (
    check (is_known scope (field_kind f)) (Unknown (field_line f)) (Ok (with_field before f))))))

-- the type of a field once for each of its elements, if they hold pointers, before others
abbrev pub with_targets : Scope → tree.TypeWord → (elements : ℕ) → List TypeNo → List TypeNo
with_targets scope tree.Int n rest = rest
with_targets scope (tree.Named t) n rest = replicate n (number_of scope t) ++ rest

-- the types of the elements that hold pointers
abbrev pub targets_of : Scope → List (List ℕ × Member) → List TypeNo
targets_of scope [] = []
targets_of scope (m ∷ ms) = with_targets scope m.1.kind (elements_of m.1.elements) (targets_of scope ms)

-- a record type as a shape has it, and its names
abbrev pub shape_of : Scope → (limit : ℕ) → Members → TypeShape
shape_of scope limit m = record { values = m.values; targets = targets_of scope m.list; limit = limit }

abbrev pub names_of : List ℕ → Members → TypeEntry
names_of x m = record { name = x; fields = map (λ f. record { name = f.0; slot = record { 0 = slot_of m f.1 }; elements = f.1.elements }) m.list }

-- whether neither a parameter or local before nor a root has the name
abbrev pub is_new : Scope → List (List ℕ × Local) → List ℕ → Bool
is_new scope before x = not (is_named x before) && not (is_named x scope.roots.list)

-- a parameter or a local, judged after those before it, of which there may be so many
abbrev pub variable : Scope → (most : ℕ) → List (List ℕ × Local) → tree.LocalText → Result (List (List ℕ × Local)) TypeFault
variable scope most before l =
    check (nat_lt (length before) most) (TooMany l.line) (check (is_new scope before l.name) (Duplicate l.line) (
    check (is_known scope l.kind) (Unknown l.line) (Ok (before ++ (l.name, record { number = length before; kind = l.kind }) ∷ []))))

abbrev pub is_result_known : Scope → Option tree.TypeWord → Bool
is_result_known scope None = true
is_result_known scope (Some kind) = is_known scope kind

-- a procedure: at most 8 parameters, its result, at most 64 locals, its statements
abbrev pub procedure : Scope → tree.ProcedureText → Result program.Procedure TypeFault
procedure scope p =
    and_then (through (variable scope 8) [] p.parameters) (λ parameters.
    check (is_result_known scope p.result) (Unknown p.line) (
    and_then (through (variable scope (length parameters + 64)) parameters p.locals) (λ variables.
    and_then (block (record { scope = scope; query = p.query; result = p.result; locals = variables }) p.body) (λ body.
    Ok (record {
      name = p.name;
      query = p.query;
      arguments = length parameters;
      result = option_map (kind_of scope) p.result;
      kinds = map (λ v. kind_of scope v.1.kind) variables;
      body = body;
    })))))

-- a typed program with the names of its record types and of their fields
pub record NamedProgram : Type 0 where
  pub shape : List TypeShape
  pub names : List TypeEntry
  pub procedures : List program.Procedure

-- a declaration, judged after those before it
abbrev pub declared : Scope → NamedProgram → tree.Item → Result NamedProgram TypeFault
declared scope before (tree.Record line x limit fields) =
    found (limit_of limit) (Limit line) (λ n. and_then (through (field scope) no_members fields) (λ members.
    Ok (record before { shape = before.shape ++ shape_of scope n members ∷ []; names = before.names ++ names_of x members ∷ [] })))
declared scope before (tree.Root line x kind) = check (is_known scope kind) (Unknown line) (Ok before)
declared scope before (tree.Procedure p) = and_then (procedure scope p) (λ q. Ok (record before { procedures = before.procedures ++ q ∷ [] }))

-- the name of the root record's type
abbrev pub root_type_name : List ℕ
root_type_name = codes "root"

-- the root record, whose fields are the roots
abbrev pub root_alone : Scope → NamedProgram
root_alone scope = record { shape = shape_of scope 1 scope.roots ∷ []; names = names_of root_type_name scope.roots ∷ []; procedures = [] }

-- ---- both walks

-- the first fault of a program, or the typed program
abbrev pub checked : List tree.Item → Result NamedProgram TypeFault
checked items =
    and_then (through noted nothing_declared items) (λ scope. through (declared scope) (root_alone scope) items)

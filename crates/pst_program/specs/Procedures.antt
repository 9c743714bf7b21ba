-- Procedures as their callers see them: the same for programs and for code. The rules are this language's own.
use Rattle.std.specs.Prelude.{◌≡◌, ℕ, Bool, true, false, IsTrue, List, Option, Some, None, slice_get, if◌then◌else◌, position, bytes_eq}
use Rattle.std.specs.Option.{option_and_then}
use Rattle.pst_base.specs.declared.names.Kind.{Kind}

-- what callers see of a procedure: its name, whether it is a query, the kinds of its parameters, and what it gives
pub record Signature : Type 0 where
  pub name : List ℕ
  pub query : Bool
  pub parameters : List Kind
  pub result : Option Kind

-- ---- what a procedure may do

-- queries write nothing
abbrev pub MayWrite : Signature → Type 0
MayWrite p = p.query ≡ false

-- queries call queries only
abbrev pub MayInvoke : (caller callee : Signature) → Type 0
MayInvoke caller callee = IsTrue caller.query → IsTrue callee.query

-- ---- names, where each procedure has the signature that a function gives

-- no two procedures have one name
abbrev pub NamesDiffer : {P : Type 0} → (P → Signature) → List P → Type 0
NamesDiffer {P} signature ps = (i j : ℕ) (p q : P) → slice_get ps i ≡ Some p → slice_get ps j ≡ Some q → (signature p).name ≡ (signature q).name → i ≡ j

-- the number of the procedure or query with a name: of the first, if several have it
abbrev pub number_named : {P : Type 0} → (P → Signature) → List P → (name : List ℕ) → Option ℕ
number_named signature ps name = position (λ p. bytes_eq (signature p).name name) ps

-- the parameters of a query where one is asked for, else those of a procedure that is none
abbrev pub parameters_if : (query : Bool) → Signature → Option (List Kind)
parameters_if true p = if p.query then Some p.parameters else None
parameters_if false p = if p.query then None else Some p.parameters

-- the parameters of the query, or of the procedure that is none, with a name
abbrev pub parameters_with_name : {P : Type 0} → (P → Signature) → (query : Bool) → List P → (name : List ℕ) → Option (List Kind)
parameters_with_name signature query ps name = option_and_then (λ p. parameters_if query (signature p)) (option_and_then (slice_get ps) (number_named signature ps name))

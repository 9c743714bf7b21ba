-- The types of statements.
use Rattle.std.specs.Prelude.{ℕ, ◌==◌, Bool, false, not, ◌||◌, List, [], ◌∷◌, length, Option, Some, None, Result, Ok, Err}
use Rattle.pst_grammar.specs.Syntax as tree
use Rattle.pst_program.specs.Syntax as program
use Rattle.pst_typing.specs.declared.fault.TypeFault.{TypeFault}
use Rattle.pst_typing.specs.declared.fault.TypeFault.TheVariants.{Unknown, Mismatch, QueryWrites}
use Rattle.pst_typing.specs.Answers.{and_then, check, found}
use Rattle.pst_typing.specs.Names.{Setting, Signature, Variable, IsLocal, IsRoot, named, variable}
use Rattle.pst_typing.specs.Expressions.{Int, Truth, same_sort, sort_of, object, plain_field, array_field, judged, fitted, of_sort}

-- an assignment to a variable: a root's in a query is a fault before the value is looked at
abbrev pub assigned : Setting → (line : ℕ) → Variable → tree.Expr → Result program.Action TypeFault
assigned setting line (IsLocal l) e = and_then (fitted setting line l.kind e) (λ v. Ok (program.Set l.number v))
assigned setting line (IsRoot r) e = check (not setting.query) (QueryWrites line) (and_then (fitted setting line r.kind e) (λ v. Ok (program.SetRoot r.slot v)))

-- an assignment to a field that is no array
abbrev pub stored : Setting → (line : ℕ) → (object : tree.Expr) → (f : List ℕ) → (value : tree.Expr) → Result program.Action TypeFault
stored setting line o f e =
    and_then (judged setting line o) (λ j. and_then (object line j) (λ o. and_then (plain_field setting line o.type f) (λ field.
    check (not setting.query) (QueryWrites line) (and_then (fitted setting line field.kind e) (λ v. Ok (program.Store o.pointer field.slot v))))))

-- an assignment to an element of an array
abbrev pub element_stored : Setting → (line : ℕ) → (object : tree.Expr) → (f : List ℕ) → (index value : tree.Expr) → Result program.Action TypeFault
element_stored setting line o f i e =
    and_then (judged setting line o) (λ j. and_then (object line j) (λ o. and_then (array_field setting line o.type f) (λ array.
    check (not setting.query) (QueryWrites line) (and_then (of_sort setting line Int i) (λ index. and_then (fitted setting line array.kind e) (λ v.
    Ok (program.StoreIndexed o.pointer array.slot array.elements index v)))))))

-- an assignment. A place is a name, a field or an element; anything else is no place
abbrev pub written : Setting → (line : ℕ) → (to value : tree.Expr) → Result program.Action TypeFault
written setting line (tree.Name x) e = found (variable setting x) (Unknown line) (λ v. assigned setting line v e)
written setting line (tree.Field o f) e = stored setting line o f e
written setting line (tree.Indexed o f i) e = element_stored setting line o f i e
written setting line (tree.Number n) e = Err (Mismatch line)
written setting line tree.Null e = Err (Mismatch line)
written setting line (tree.Parens p) e = Err (Mismatch line)
written setting line (tree.Negate p) e = Err (Mismatch line)
written setting line (tree.Not p) e = Err (Mismatch line)
written setting line (tree.Binary op a b) e = Err (Mismatch line)

-- a new record goes into a parameter or a local of its type
abbrev pub made : Setting → (line : ℕ) → (x ty : List ℕ) → Result program.Action TypeFault
made setting line x ty =
    found (named x setting.locals) (Unknown line) (λ l. found (named ty setting.scope.types) (Unknown line) (λ t.
    check (not setting.query) (QueryWrites line) (check (same_sort (sort_of l.kind) (sort_of (tree.Named ty))) (Mismatch line) (Ok (program.New l.number t.number)))))

-- the arguments of a call, each judged and fitted before the next
abbrev pub arguments : Setting → (line : ℕ) → List tree.LocalText → List tree.Expr → Result (List program.Expr) TypeFault
arguments setting line [] es = Ok []
arguments setting line (p ∷ ps) [] = Ok []
arguments setting line (p ∷ ps) (e ∷ es) = and_then (fitted setting line p.kind e) (λ v. and_then (arguments setting line ps es) (λ vs. Ok (v ∷ vs)))

-- whether a procedure gives a result of this type
abbrev pub gives : Option tree.TypeWord → tree.TypeWord → Bool
gives None kind = false
gives (Some result) kind = same_sort (sort_of result) (sort_of kind)

-- where the result of a call goes: into a parameter or a local of its type, or nowhere
abbrev pub received : Setting → (line : ℕ) → (result : Option tree.TypeWord) → (to : Option (List ℕ)) → Result (Option ℕ) TypeFault
received setting line result None = Ok None
received setting line result (Some x) = found (named x setting.locals) (Unknown line) (λ l. check (gives result l.kind) (Mismatch line) (Ok (Some l.number)))

-- a query calls queries only
abbrev pub called : Setting → (line : ℕ) → Signature → (to : Option (List ℕ)) → List tree.Expr → Result program.Action TypeFault
called setting line s to es =
    check (not setting.query || s.query) (QueryWrites line) (check (length es == length s.parameters) (Mismatch line) (
    and_then (arguments setting line s.parameters es) (λ vs. and_then (received setting line s.result to) (λ into. Ok (program.Call into s.number.0 vs)))))

-- a return gives a result exactly where the procedure has one
abbrev pub returned : Setting → (line : ℕ) → (wanted : Option tree.TypeWord) → Option tree.Expr → Result program.Action TypeFault
returned setting line None None = Ok (program.Return None)
returned setting line None (Some e) = Err (Mismatch line)
returned setting line (Some kind) None = Err (Mismatch line)
returned setting line (Some kind) (Some e) = and_then (fitted setting line kind e) (λ v. Ok (program.Return (Some v)))

abbrev mutual
  -- a statement that begins on a line
  pub statement : Setting → (line : ℕ) → tree.Phrase → Result program.Action TypeFault
  statement setting line (tree.New x ty) = made setting line x ty
  statement setting line (tree.Call to p es) = found (named p setting.scope.procedures) (Unknown line) (λ s. called setting line s to es)
  statement setting line (tree.Write to e) = written setting line to e
  statement setting line (tree.Print e) = and_then (of_sort setting line Int e) (λ v. Ok (program.Print v))
  statement setting line (tree.If e first) = and_then (of_sort setting line Truth e) (λ c. and_then (block setting first) (λ yes. Ok (program.If c yes)))
  statement setting line (tree.Either e first other) =
      and_then (of_sort setting line Truth e) (λ c. and_then (block setting first) (λ yes. and_then (block setting other) (λ no. Ok (program.Either c yes no))))
  statement setting line (tree.While e body) = and_then (of_sort setting line Truth e) (λ c. and_then (block setting body) (λ turn. Ok (program.While c turn)))
  statement setting line (tree.Return e) = returned setting line setting.result e

  -- the statements in order
  pub block : Setting → tree.Phrases → Result program.Actions TypeFault
  block setting tree.Empty = Ok program.Empty
  block setting (tree.Then line phrase rest) = and_then (statement setting line phrase) (λ action. and_then (block setting rest) (λ actions. Ok (program.Then line action actions)))

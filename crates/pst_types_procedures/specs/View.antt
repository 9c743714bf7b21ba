-- What a procedure's head in the checker stands for in the definitions.
use Rattle.std.specs.Prelude.{ℕ, List, map, Option, None, Some, Result}
use Rattle.std.specs.Borrow.{Bor}
use Rattle.std.specs.Option.{option_map}
use Rattle.pst_grammar.specs.Syntax as tree
use Rattle.pst_grammar.specs.View as tree_view
use Rattle.indexmap.specs.IndexMap.{IndexMap}
use Rattle.pst_typing.specs.declared.fault.TypeFault.{TypeFault}
use Rattle.pst_typing.specs.Answers.{through}
use Rattle.pst_typing.specs.Names.{Local}
use Rattle.pst_typing.specs.Declarations.{variable, noted}
use Rattle.pst_typing.specs.View.{Answers}
use Rattle.pst_types_scope.specs.declared.names.Scope.{Scope}
use Rattle.pst_types_scope.specs.declared.names.Variable.{Variable}
use Rattle.pst_types_scope.specs.View.{entries_of, local_of, scope_of}
use Rattle.pst_types_procedures.specs.declared.procedure.ProcedureHead.{ProcedureHead}

-- the text that a procedure's head is with this body
abbrev pub procedure_text_of : ProcedureHead → (body : tree.Phrases) → tree.ProcedureText
procedure_text_of p body = record {
  line = p.line;
  query = p.query;
  name = p.name.now;
  parameters = map tree_view.local_of p.parameters.now;
  result = option_map tree_view.type_word_of p.result.now;
  locals = map tree_view.local_of p.locals.now;
  body = body;
}

-- the text of a procedure, where a declaration is one
abbrev pub as_procedure : tree.Item → Option tree.ProcedureText
as_procedure (tree.Record line x limit fields) = None
as_procedure (tree.Root line x kind) = None
as_procedure (tree.Procedure p) = Some p

-- parameters and locals by their names, in order
abbrev pub variables_of : {S : Type 0} → IndexMap (Bor (List ℕ)) Variable S → List (List ℕ × Local)
variables_of variables = entries_of local_of variables.entries

-- the answer where parameters or locals are added to those before, so many in all at most: those after, or the first fault
abbrev pub AddsVariables : {S : Type 0} → Scope → (most : ℕ) → (old new : IndexMap (Bor (List ℕ)) Variable S) → Result (Unit {0}) TypeFault → List tree.LocalText → Type 0
AddsVariables scope most old new answer locals = Answers (λ _. variables_of new) answer (through (variable (scope_of scope) most) (variables_of old) locals)

-- the answer where a declaration is noted among the declared names before: those after, or why it may not stand there
abbrev pub Notes : (old new : Scope) → Result (Unit {0}) TypeFault → tree.Item → Type 0
Notes old new answer item = Answers (λ _. scope_of new) answer (noted (scope_of old) item)

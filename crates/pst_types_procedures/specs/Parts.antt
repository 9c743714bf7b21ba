-- A procedure in two parts, its names and its statements.
use Rattle.std.specs.Prelude.{ℕ, ◌+◌, List, [], length, map, Result, Ok}
use Rattle.std.specs.Option.{option_map}
use Rattle.pst_grammar.specs.Syntax as tree
use Rattle.pst_program.specs.Syntax as program
use Rattle.pst_typing.specs.declared.fault.TypeFault.{TypeFault}
use Rattle.pst_typing.specs.declared.fault.TypeFault.TheVariants.{Unknown}
use Rattle.pst_typing.specs.Answers.{and_then, check, through}
use Rattle.pst_typing.specs.Names.{Scope, Local, Setting, kind_of}
use Rattle.pst_typing.specs.Statements.{block}
use Rattle.pst_typing.specs.Declarations.{variable, is_result_known}

-- the parameters and locals of a procedure, and how many are parameters
pub record Variables : Type 0 where
  pub parameters : ℕ
  pub list : List (List ℕ × Local)

abbrev pub counted : List (List ℕ × Local) → (parameters : ℕ) → Variables
counted list n = record { parameters = n; list = list }

-- its parameters, what it gives, its locals
abbrev pub variables_in : Scope → tree.ProcedureText → Result Variables TypeFault
variables_in scope p =
    and_then (through (variable scope 8) [] p.parameters) (λ parameters.
    check (is_result_known scope p.result) (Unknown p.line) (
    and_then (through (variable scope (length parameters + 64)) parameters p.locals) (λ variables.
    Ok (counted variables (length parameters)))))

-- where its statements stand
abbrev pub setting_in : Scope → tree.ProcedureText → Variables → Setting
setting_in scope p vs = record { scope = scope; query = p.query; result = p.result; locals = vs.list }

-- where its statements stand, once its names are judged, and how many of them are parameters
abbrev pub stand_in : Scope → tree.ProcedureText → Result (Setting × ℕ) TypeFault
stand_in scope p = and_then (variables_in scope p) (λ vs. Ok (setting_in scope p vs, vs.parameters))

-- the procedure with these statements, which stand there
abbrev pub made_in : Setting → (parameters : ℕ) → tree.ProcedureText → program.Actions → program.Procedure
made_in setting n p body = record {
  name = p.name;
  query = p.query;
  arguments = n;
  result = option_map (kind_of setting.scope) setting.result;
  kinds = map (λ v. kind_of setting.scope v.1.kind) setting.locals;
  body = body;
}

-- its statements, in their setting
abbrev pub procedure_in : Setting → (parameters : ℕ) → tree.ProcedureText → Result program.Procedure TypeFault
procedure_in setting n p = and_then (block setting p.body) (λ body. Ok (made_in setting n p body))

-- a procedure by its parts
abbrev pub by_parts : Scope → tree.ProcedureText → Result program.Procedure TypeFault
by_parts scope p = and_then (stand_in scope p) (λ s. procedure_in s.0 s.1 p)

-- What holds of each token of a part of a program and of the tokens behind it, holds of those behind it.
use Rattle.std.specs.Prelude.{ℤ, List, [], ◌∷◌, Option, Some, None}
use Rattle.std.specs.List.{AllByRecursion}
use Rattle.pst_grammar.specs.Lexemes.{Lexeme}
use Rattle.pst_grammar.specs.Spelling.{Expr, Number, Null, Name, Parens, Field, Indexed, Negate, Not, Binary, spelled, each, after_comma, listed, Statement}
use Rattle.pst_grammar.specs.Spelling.{New, Call, Result, Write, Print, If, Either, While, Return, Block, Empty, Then, spelled_statement, spelled_block}
use Rattle.pst_grammar.specs.Spelling.{TypeText, Int, Named, spelled_type, spelled_count, FieldText, Val, Ptr, spelled_field, Parameter, spelled_parameter}
use Rattle.pst_grammar.specs.Spelling.{Local, spelled_local, spelled_result, Opening, First, Second, spelled_opening}

module _ (P : Lexeme → Type 0) where
  -- it holds of each
  abbrev pub Are : List Lexeme → Type 0
  Are ts = AllByRecursion P ts

  -- ---- lists of parts

  behind_each : {A : Type 0} (spell : A → List Lexeme → List Lexeme) → ((a : A) (rest : List Lexeme) → Are (spell a rest) → Are rest)
      → (l : List A) (rest : List Lexeme) → Are (each spell l rest) → Are rest
  behind_each spell one [] rest all = all
  behind_each spell one (a ∷ l) rest all = behind_each spell one l rest (one a (each spell l rest) all)

  behind_listed : {A : Type 0} (spell : A → List Lexeme → List Lexeme) → ((a : A) (rest : List Lexeme) → Are (spell a rest) → Are rest)
      → (l : List A) (rest : List Lexeme) → Are (listed spell l rest) → Are rest
  behind_listed spell one [] rest all = all.1
  behind_listed spell one (a ∷ l) rest all = (behind_each (after_comma spell) (λ b more all. one b more all.1) l _ (one a _ all)).1

  -- ---- statements

  behind_expr : (e : Expr) (rest : List Lexeme) → Are (spelled e rest) → Are rest
  behind_expr (Number v) rest all = all.1
  behind_expr Null rest all = all.1
  behind_expr (Name x) rest all = all.1
  behind_expr (Parens e) rest all = (behind_expr e _ all.1).1
  behind_expr (Field e x) rest all = (behind_expr e _ all).1.1
  behind_expr (Indexed e x i) rest all = (behind_expr i _ (behind_expr e _ all).1.1.1).1
  behind_expr (Negate e) rest all = behind_expr e rest all.1
  behind_expr (Not e) rest all = behind_expr e rest all.1
  behind_expr (Binary op l r) rest all = behind_expr r rest (behind_expr l _ all).1

  behind_call : (es : List Expr) (rest : List Lexeme) → Are (listed spelled es rest) → Are rest
  behind_call es rest all = behind_listed spelled behind_expr es rest all

  mutual
    behind_statement : (s : Statement) (rest : List Lexeme) → Are (spelled_statement s rest) → Are rest
    behind_statement (New x ty) rest all = all.1.1.1.1.1
    behind_statement (Call line p es) rest all = (behind_call es _ all.1.1.1).1
    behind_statement (Result x line p es) rest all = (behind_call es _ all.1.1.1.1.1).1
    behind_statement (Write place e) rest all = (behind_expr e _ (behind_expr place _ all).1).1
    behind_statement (Print line e) rest all = (behind_expr e _ all.1).1
    behind_statement (If line e b) rest all = (behind_block b _ (behind_expr e _ all.1).1).1
    behind_statement (Either line e b c) rest all = (behind_block c _ (behind_block b _ (behind_expr e _ all.1).1).1.1.1).1
    behind_statement (While line e b) rest all = (behind_block b _ (behind_expr e _ all.1).1).1
    behind_statement (Return line None) rest all = all.1.1
    behind_statement (Return line (Some e)) rest all = (behind_expr e _ all.1).1

    pub behind_block : (b : Block) (rest : List Lexeme) → Are (spelled_block b rest) → Are rest
    behind_block Empty rest all = all
    behind_block (Then s b) rest all = behind_block b rest (behind_statement s _ all)

  -- ---- declarations

  pub behind_type : (t : TypeText) (rest : List Lexeme) → Are (spelled_type t rest) → Are rest
  behind_type Int rest all = all.1
  behind_type (Named x) rest all = all.1

  behind_count : (n : Option ℤ) (rest : List Lexeme) → Are (spelled_count n rest) → Are rest
  behind_count None rest all = all
  behind_count (Some v) rest all = all.1.1

  behind_field : (f : FieldText) (rest : List Lexeme) → Are (spelled_field f rest) → Are rest
  behind_field (Val line x n) rest all = (behind_count n _ all.1.1.1.1).1
  behind_field (Ptr line x target n) rest all = (behind_count n _ all.1.1.1.1).1

  behind_parameter : (p : Parameter) (rest : List Lexeme) → Are (spelled_parameter p rest) → Are rest
  behind_parameter p rest all = behind_type p.kind rest all.1.1

  behind_local : (l : Local) (rest : List Lexeme) → Are (spelled_local l rest) → Are rest
  behind_local l rest all = (behind_type l.kind _ all.1.1.1).1

  pub behind_result : (t : Option TypeText) (rest : List Lexeme) → Are (spelled_result t rest) → Are rest
  behind_result None rest all = all
  behind_result (Some t) rest all = behind_type t rest all.1

  -- ---- lists of them

  pub behind_fields : (fs : List FieldText) (rest : List Lexeme) → Are (each spelled_field fs rest) → Are rest
  behind_fields fs rest all = behind_each spelled_field behind_field fs rest all

  pub behind_parameters : (ps : List Parameter) (rest : List Lexeme) → Are (listed spelled_parameter ps rest) → Are rest
  behind_parameters ps rest all = behind_listed spelled_parameter behind_parameter ps rest all

  pub behind_locals : (ls : List Local) (rest : List Lexeme) → Are (each spelled_local ls rest) → Are rest
  behind_locals ls rest all = behind_each spelled_local behind_local ls rest all

  -- ---- a program

  pub behind_opening : (o : Opening) (rest : List Lexeme) → Are (spelled_opening o rest) → Are rest
  behind_opening First rest all = all
  behind_opening (Second line) rest all = all.1.1

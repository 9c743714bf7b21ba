-- The tokens of a program. A name in a program's text has a line, as has each keyword that begins something; the tree that is kept has fewer.
use Rattle.std.specs.Prelude.{ℕ, ℤ, pos, Bool, true, false, List, [], ◌∷◌, map, Option, Some, None, codes}
use Rattle.std.specs.Option.{option_map}
use Rattle.pst_base.specs.declared.names.Op.{Op}
use Rattle.pst_base.specs.declared.names.Op.TheVariants as op
use Rattle.pst_grammar.specs.Syntax as tree
use Rattle.pst_grammar.specs.declared.lexeme.Label.{Label}
use Rattle.pst_grammar.specs.declared.lexeme.Sign.TheVariants as sign
use Rattle.pst_grammar.specs.declared.lexeme.Lead.{Lead}
use Rattle.pst_grammar.specs.declared.lexeme.Lead.TheVariants as lead
use Rattle.pst_grammar.specs.Lexemes as token
use Rattle.pst_grammar.specs.Lexemes.{Lexeme, Plain, Leading, Operator}

-- an expression with the lines of its names
pub data Expr : Type 0 where
  Number : ℤ → Expr
  Null : Expr
  Name : Label → Expr
  Parens : Expr → Expr
  Field : Expr → Label → Expr
  Indexed : (object : Expr) (x : Label) (index : Expr) → Expr
  Negate : Expr → Expr
  Not : Expr → Expr
  Binary : Op → Expr → Expr → Expr

-- the tree without those lines
abbrev pub expr : Expr → tree.Expr
expr (Number v) = tree.Number v
expr Null = tree.Null
expr (Name x) = tree.Name x.name
expr (Parens e) = tree.Parens (expr e)
expr (Field e x) = tree.Field (expr e) x.name
expr (Indexed e x i) = tree.Indexed (expr e) x.name (expr i)
expr (Negate e) = tree.Negate (expr e)
expr (Not e) = tree.Not (expr e)
expr (Binary op l r) = tree.Binary op (expr l) (expr r)

-- the tokens of an expression, and then the rest
abbrev pub spelled : Expr → List Lexeme → List Lexeme
spelled (Number v) rest = token.Number v ∷ rest
spelled Null rest = Plain sign.Null ∷ rest
spelled (Name x) rest = token.Name x ∷ rest
spelled (Parens e) rest = Plain sign.OpenParen ∷ spelled e (Plain sign.CloseParen ∷ rest)
spelled (Field e x) rest = spelled e (Plain sign.Dot ∷ token.Name x ∷ rest)
spelled (Indexed e x i) rest = spelled e (Plain sign.Dot ∷ token.Name x ∷ Plain sign.OpenParen ∷ spelled i (Plain sign.CloseParen ∷ rest))
spelled (Negate e) rest = Operator op.Sub ∷ spelled e rest
spelled (Not e) rest = Plain sign.Not ∷ spelled e rest
spelled (Binary op l r) rest = spelled l (Operator op ∷ spelled r rest)

-- one after another
abbrev pub each : {A : Type 0} → (A → List Lexeme → List Lexeme) → List A → List Lexeme → List Lexeme
each spell [] rest = rest
each spell (a ∷ l) rest = spell a (each spell l rest)

-- the same behind a comma
abbrev pub after_comma : {A : Type 0} → (A → List Lexeme → List Lexeme) → A → List Lexeme → List Lexeme
after_comma spell a rest = Plain sign.Comma ∷ spell a rest

-- with commas between them, and a `)` behind
abbrev pub listed : {A : Type 0} → (A → List Lexeme → List Lexeme) → List A → List Lexeme → List Lexeme
listed spell [] rest = Plain sign.CloseParen ∷ rest
listed spell (a ∷ l) rest = spell a (each (after_comma spell) l (Plain sign.CloseParen ∷ rest))

mutual
  pub data Statement : Type 0 where
    New : (x ty : Label) → Statement
    Call : (line : ℕ) (p : Label) → List Expr → Statement
    Result : (x : Label) (line : ℕ) (p : Label) → List Expr → Statement
    Write : (place value : Expr) → Statement
    Print : (line : ℕ) → Expr → Statement
    If : (line : ℕ) → Expr → Block → Statement
    Either : (line : ℕ) → Expr → (yes no : Block) → Statement
    While : (line : ℕ) → Expr → Block → Statement
    Return : (line : ℕ) → Option Expr → Statement

  pub data Block : Type 0 where
    Empty : Block
    Then : Statement → Block → Block

-- the line of the name that a place begins with
abbrev pub place_line : Expr → ℕ
place_line (Name x) = x.line
place_line (Field e x) = place_line e
place_line (Indexed e x i) = place_line e
place_line e = 0

-- the line of a statement is that of its first token
abbrev pub line_of : Statement → ℕ
line_of (New x ty) = x.line
line_of (Call line p es) = line
line_of (Result x line p es) = x.line
line_of (Write place e) = place_line place
line_of (Print line e) = line
line_of (If line e b) = line
line_of (Either line e b c) = line
line_of (While line e b) = line
line_of (Return line e) = line

abbrev mutual
  pub phrase : Statement → tree.Phrase
  phrase (New x ty) = tree.New x.name ty.name
  phrase (Call line p es) = tree.Call None p.name (map expr es)
  phrase (Result x line p es) = tree.Call (Some x.name) p.name (map expr es)
  phrase (Write place e) = tree.Write (expr place) (expr e)
  phrase (Print line e) = tree.Print (expr e)
  phrase (If line e b) = tree.If (expr e) (phrases b)
  phrase (Either line e b c) = tree.Either (expr e) (phrases b) (phrases c)
  phrase (While line e b) = tree.While (expr e) (phrases b)
  phrase (Return line None) = tree.Return None
  phrase (Return line (Some e)) = tree.Return (Some (expr e))

  pub phrases : Block → tree.Phrases
  phrases Empty = tree.Empty
  phrases (Then s b) = tree.Then (line_of s) (phrase s) (phrases b)

-- an expression and a `;`
abbrev pub ended : Expr → List Lexeme → List Lexeme
ended e rest = spelled e (Plain sign.Semicolon ∷ rest)

-- a call behind the word `call`
abbrev pub spelled_call : Label → List Expr → List Lexeme → List Lexeme
spelled_call p es rest = token.Name p ∷ Plain sign.OpenParen ∷ listed spelled es (Plain sign.Semicolon ∷ rest)

abbrev mutual
  pub spelled_statement : Statement → List Lexeme → List Lexeme
  spelled_statement (New x ty) rest = token.Name x ∷ Plain sign.Assign ∷ Plain sign.New ∷ token.Name ty ∷ Plain sign.Semicolon ∷ rest
  spelled_statement (Call line p es) rest = Leading lead.Call line ∷ spelled_call p es rest
  spelled_statement (Result x line p es) rest = token.Name x ∷ Plain sign.Assign ∷ Leading lead.Call line ∷ spelled_call p es rest
  spelled_statement (Write place e) rest = spelled place (Plain sign.Assign ∷ ended e rest)
  spelled_statement (Print line e) rest = Leading lead.Print line ∷ ended e rest
  spelled_statement (If line e b) rest = Leading lead.If line ∷ spelled e (Plain sign.OpenBrace ∷ spelled_block b (Plain sign.CloseBrace ∷ rest))
  spelled_statement (Either line e b c) rest =
      Leading lead.If line ∷ spelled e (Plain sign.OpenBrace ∷ spelled_block b (Plain sign.CloseBrace ∷ Plain sign.Else ∷ Plain sign.OpenBrace ∷ spelled_block c (Plain sign.CloseBrace ∷ rest)))
  spelled_statement (While line e b) rest = Leading lead.While line ∷ spelled e (Plain sign.OpenBrace ∷ spelled_block b (Plain sign.CloseBrace ∷ rest))
  spelled_statement (Return line None) rest = Leading lead.Return line ∷ Plain sign.Semicolon ∷ rest
  spelled_statement (Return line (Some e)) rest = Leading lead.Return line ∷ ended e rest

  pub spelled_block : Block → List Lexeme → List Lexeme
  spelled_block Empty rest = rest
  spelled_block (Then s b) rest = spelled_statement s (spelled_block b rest)

-- a type: `int` or a name
pub data TypeText : Type 0 where
  Int : TypeText
  Named : Label → TypeText

abbrev pub type_word : TypeText → tree.TypeWord
type_word Int = tree.Int
type_word (Named x) = tree.Named x.name

abbrev pub spelled_type : TypeText → List Lexeme → List Lexeme
spelled_type Int rest = Plain sign.Int ∷ rest
spelled_type (Named x) rest = token.Name x ∷ rest

-- the number of elements of a field, where it is an array
abbrev pub spelled_count : Option ℤ → List Lexeme → List Lexeme
spelled_count None rest = rest
spelled_count (Some n) rest = Operator op.Mul ∷ token.Number n ∷ rest

-- a field of a record type
pub data FieldText : Type 0 where
  Val : (line : ℕ) (x : Label) (elements : Option ℤ) → FieldText
  Ptr : (line : ℕ) (x target : Label) (elements : Option ℤ) → FieldText

abbrev pub field : FieldText → tree.FieldText
field (Val line x n) = tree.Val line x.name n
field (Ptr line x target n) = tree.Ptr line x.name target.name n

abbrev pub spelled_field : FieldText → List Lexeme → List Lexeme
spelled_field (Val line x n) rest = Leading lead.Val line ∷ token.Name x ∷ Plain sign.Colon ∷ Plain sign.Int ∷ spelled_count n (Plain sign.Semicolon ∷ rest)
spelled_field (Ptr line x target n) rest = Leading lead.Ptr line ∷ token.Name x ∷ Plain sign.Colon ∷ token.Name target ∷ spelled_count n (Plain sign.Semicolon ∷ rest)

-- a parameter
pub record Parameter : Type 0 where
  pub label : Label
  pub kind : TypeText

abbrev pub parameter : Parameter → tree.LocalText
parameter p = record { line = p.label.line; name = p.label.name; kind = type_word p.kind }

abbrev pub spelled_parameter : Parameter → List Lexeme → List Lexeme
spelled_parameter p rest = token.Name p.label ∷ Plain sign.Colon ∷ spelled_type p.kind rest

-- a local
pub record Local : Type 0 where
  pub line : ℕ
  pub label : Label
  pub kind : TypeText

abbrev pub local : Local → tree.LocalText
local l = record { line = l.line; name = l.label.name; kind = type_word l.kind }

abbrev pub spelled_local : Local → List Lexeme → List Lexeme
spelled_local l rest = Leading lead.Var l.line ∷ token.Name l.label ∷ Plain sign.Colon ∷ spelled_type l.kind (Plain sign.Semicolon ∷ rest)

-- a procedure's result
abbrev pub spelled_result : Option TypeText → List Lexeme → List Lexeme
spelled_result None rest = rest
spelled_result (Some t) rest = Plain sign.Colon ∷ spelled_type t rest

-- the word that a procedure or a query begins with
abbrev pub head : Bool → Lead
head false = lead.Proc
head true = lead.Query

pub data Item : Type 0 where
  Record : (line : ℕ) (x : Label) (limit : ℤ) → List FieldText → Item
  Root : (line : ℕ) (x : Label) → TypeText → Item
  Procedure : (line : ℕ) (query : Bool) (x : Label) → List Parameter → Option TypeText → List Local → Block → Item

abbrev pub item : Item → tree.Item
item (Record line x limit fields) = tree.Record line x.name limit (map field fields)
item (Root line x kind) = tree.Root line x.name (type_word kind)
item (Procedure line query x parameters result locals body) = tree.Procedure record {
  line = line;
  query = query;
  name = x.name;
  parameters = map parameter parameters;
  result = option_map type_word result;
  locals = map local locals;
  body = phrases body;
}

abbrev pub spelled_item : Item → List Lexeme → List Lexeme
spelled_item (Record line x limit fields) rest =
    Leading lead.Record line ∷ token.Name x ∷ token.Number limit ∷ Plain sign.OpenBrace ∷ each spelled_field fields (Plain sign.CloseBrace ∷ rest)
spelled_item (Root line x kind) rest = Leading lead.Root line ∷ token.Name x ∷ Plain sign.Colon ∷ spelled_type kind (Plain sign.Semicolon ∷ rest)
spelled_item (Procedure line query x parameters result locals body) rest =
    Leading (head query) line ∷ token.Name x ∷ Plain sign.OpenParen ∷ listed spelled_parameter parameters
    (spelled_result result (Plain sign.OpenBrace ∷ each spelled_local locals (spelled_block body (Plain sign.CloseBrace ∷ rest))))

-- what a program begins with: nothing in language 1, and `language 2` in language 2, where the word stands on a line
pub data Opening : Type 0 where
  First : Opening
  Second : (line : ℕ) → Opening

abbrev pub language : Opening → ℕ
language First = 1
language (Second line) = 2

-- the word that a program of language 2 begins with, which is no keyword
abbrev pub language_word : List ℕ
language_word = codes "language"

abbrev pub spelled_opening : Opening → List Lexeme → List Lexeme
spelled_opening First rest = rest
spelled_opening (Second line) rest = token.Name (record { line = line; name = language_word }) ∷ token.Number (pos 2) ∷ rest

pub record Program : Type 0 where
  pub opening : Opening
  pub items : List Item

-- the program that is kept
abbrev pub program : Program → tree.ProgramText
program p = record { language = language p.opening; items = map item p.items }

abbrev pub spelled_program : Program → List Lexeme → List Lexeme
spelled_program p rest = spelled_opening p.opening (each spelled_item p.items rest)

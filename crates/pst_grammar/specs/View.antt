-- The tree for definitions that the program's tree is.
use Rattle.std.specs.Prelude.{List, [], ◌∷◌, map}
use Rattle.std.specs.Option.{option_map}
use Rattle.pst_grammar.specs.declared.expression.Expression.{Expression}
use Rattle.pst_grammar.specs.declared.expression.Expression.TheVariants as expression
use Rattle.pst_grammar.specs.declared.statement.Block.{Block, Block', Row_of-Statement, end_of-Statement, more_of-Statement}
use Rattle.pst_grammar.specs.declared.statement.Statement.{Statement}
use Rattle.pst_grammar.specs.declared.statement.Form.{Form, Held-Form-If-2, None', Some'}
use Rattle.pst_grammar.specs.declared.statement.Form.TheVariants as form
use Rattle.pst_grammar.specs.declared.declaration.TypeName.{TypeName}
use Rattle.pst_grammar.specs.declared.declaration.TypeName.TheVariants as written
use Rattle.pst_grammar.specs.declared.declaration.Field.{Field}
use Rattle.pst_grammar.specs.declared.declaration.Field.TheVariants as field
use Rattle.pst_grammar.specs.declared.declaration.Local.{Local}
use Rattle.pst_grammar.specs.declared.declaration.Declaration.{Declaration}
use Rattle.pst_grammar.specs.declared.declaration.Declaration.TheVariants as declaration
use Rattle.pst_grammar.specs.declared.declaration.Tree.{Tree}
use Rattle.pst_grammar.specs.Syntax as tree

abbrev pub expr_of : Expression → tree.Expr
expr_of (expression.Number n) = tree.Number n
expr_of expression.Null = tree.Null
expr_of (expression.Name x) = tree.Name x
expr_of (expression.Parens' p e) = tree.Parens (expr_of e)
expr_of (expression.Field' p e x) = tree.Field (expr_of e) x
expr_of (expression.Indexed' p e x q i) = tree.Indexed (expr_of e) x (expr_of i)
expr_of (expression.Negate' p e) = tree.Negate (expr_of e)
expr_of (expression.Not' p e) = tree.Not (expr_of e)
expr_of (expression.Binary' op p l q r) = tree.Binary op (expr_of l) (expr_of r)

abbrev mutual
  pub phrase_of : Form → tree.Phrase
  phrase_of (form.New x ty) = tree.New x ty
  phrase_of (form.Call x p es) = tree.Call x p (map expr_of es)
  phrase_of (form.Write place e) = tree.Write (expr_of place) (expr_of e)
  phrase_of (form.Print e) = tree.Print (expr_of e)
  phrase_of (form.If' e first other) = choice_of other (expr_of e) (phrases_of first)
  phrase_of (form.While e body) = tree.While (expr_of e) (phrases_of body)
  phrase_of (form.Return e) = tree.Return (option_map expr_of e)

  pub choice_of : Held-Form-If-2 → tree.Expr → tree.Phrases → tree.Phrase
  choice_of None' e first = tree.If e first
  choice_of (Some' other) e first = tree.Either e first (phrases_of other)

  pub phrases_of : Block → tree.Phrases
  phrases_of (Block' shape row) = row_of row

  pub row_of : {m : _} → Row_of-Statement m → tree.Phrases
  row_of end_of-Statement = tree.Empty
  row_of (more_of-Statement line form rest) = tree.Then line (phrase_of form) (row_of rest)

-- the same of a list of statements
abbrev pub statements_of : List Statement → tree.Phrases
statements_of [] = tree.Empty
statements_of (s ∷ ss) = tree.Then s.line (phrase_of s.form) (statements_of ss)

abbrev pub type_word_of : TypeName → tree.TypeWord
type_word_of written.Int = tree.Int
type_word_of (written.Named t) = tree.Named t

abbrev pub field_of : Field → tree.FieldText
field_of (field.Val line x n) = tree.Val line x n
field_of (field.Ptr line x t n) = tree.Ptr line x t n

abbrev pub local_of : Local → tree.LocalText
local_of l = record { line = l.line; name = l.name; kind = type_word_of l.kind }

abbrev pub item_of : Declaration → tree.Item
item_of (declaration.Record line x limit fields) = tree.Record line x limit (map field_of fields)
item_of (declaration.Root line x kind) = tree.Root line x (type_word_of kind)
item_of (declaration.Procedure line query x parameters result locals body) = tree.Procedure record {
  line = line;
  query = query;
  name = x;
  parameters = map local_of parameters;
  result = option_map type_word_of result;
  locals = map local_of locals;
  body = phrases_of body;
}

-- the declarations of a tree
abbrev pub items_of : Tree → List tree.Item
items_of t = map item_of t.declarations.items.items

-- the program's text that a tree is
abbrev pub text_of : Tree → tree.ProgramText
text_of t = record { language = t.language; items = items_of t }

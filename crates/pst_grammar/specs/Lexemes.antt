-- Tokens as the grammar sees them: with a line only where a part of a tree may begin whose line is kept.
use Rattle.std.specs.Prelude.{ℕ, ℤ, List, map}
use Rattle.pst_base.specs.declared.names.Op.{Op}
use Rattle.pst_base.specs.declared.names.Op.TheVariants as op
use Rattle.pst_lex.specs.declared.types.Token.{Token}
use Rattle.pst_lex.specs.declared.types.TokenKind.{TokenKind}
use Rattle.pst_lex.specs.declared.types.TokenKind.TheVariants as kind
use Rattle.pst_lex.specs.declared.words.Mark.{Mark}
use Rattle.pst_lex.specs.declared.words.Mark.TheVariants as mark
use Rattle.pst_grammar.specs.declared.lexeme.Label.{Label}
use Rattle.pst_grammar.specs.declared.lexeme.Sign.{Sign}
use Rattle.pst_grammar.specs.declared.lexeme.Sign.TheVariants as sign
use Rattle.pst_grammar.specs.declared.lexeme.Lead.{Lead}
use Rattle.pst_grammar.specs.declared.lexeme.Lead.TheVariants as lead

pub data Lexeme : Type 0 where
  Name : Label → Lexeme
  Number : ℤ → Lexeme
  Operator : Op → Lexeme
  Plain : Sign → Lexeme
  Leading : Lead → (line : ℕ) → Lexeme

-- a keyword or symbol on a line
abbrev pub marked : ℕ → Mark → Lexeme
marked line mark.Record = Leading lead.Record line
marked line mark.Val = Leading lead.Val line
marked line mark.Ptr = Leading lead.Ptr line
marked line mark.Root = Leading lead.Root line
marked line mark.Proc = Leading lead.Proc line
marked line mark.Query = Leading lead.Query line
marked line mark.Var = Leading lead.Var line
marked line mark.Call = Leading lead.Call line
marked line mark.Print = Leading lead.Print line
marked line mark.If = Leading lead.If line
marked line mark.While = Leading lead.While line
marked line mark.Return = Leading lead.Return line
marked line mark.New = Plain sign.New
marked line mark.Else = Plain sign.Else
marked line mark.Null = Plain sign.Null
marked line mark.Not = Plain sign.Not
marked line mark.Int = Plain sign.Int
marked line mark.OpenBrace = Plain sign.OpenBrace
marked line mark.CloseBrace = Plain sign.CloseBrace
marked line mark.OpenParen = Plain sign.OpenParen
marked line mark.CloseParen = Plain sign.CloseParen
marked line mark.Semicolon = Plain sign.Semicolon
marked line mark.Colon = Plain sign.Colon
marked line mark.Comma = Plain sign.Comma
marked line mark.Dot = Plain sign.Dot
marked line mark.Assign = Plain sign.Assign
marked line mark.And = Operator op.And
marked line mark.Or = Operator op.Or
marked line mark.Equal = Operator op.Equal
marked line mark.NotEqual = Operator op.NotEqual
marked line mark.Less = Operator op.Less
marked line mark.LessEqual = Operator op.LessEqual
marked line mark.Greater = Operator op.Greater
marked line mark.GreaterEqual = Operator op.GreaterEqual
marked line mark.Plus = Operator op.Add
marked line mark.Minus = Operator op.Sub
marked line mark.Star = Operator op.Mul
marked line mark.Slash = Operator op.Div
marked line mark.Percent = Operator op.Rem

abbrev pub lexeme_in : ℕ → TokenKind → Lexeme
lexeme_in line (kind.Name x) = Name (record { line = line; name = x })
lexeme_in line (kind.Number v) = Number v
lexeme_in line (kind.Mark m) = marked line m

-- what a token is to the grammar
abbrev pub lexeme : Token → Lexeme
lexeme t = lexeme_in t.line t.kind

abbrev pub lexemes : List Token → List Lexeme
lexemes ts = map lexeme ts

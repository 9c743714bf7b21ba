-- The tokens of a program, their lines apart.
use Rattle.std.specs.Prelude.{List, [], map}
use Rattle.pst_base.specs.declared.names.Op.{Op}
use Rattle.pst_base.specs.declared.names.Op.TheVariants as op
use Rattle.pst_lex.specs.declared.words.Mark.{Mark}
use Rattle.pst_lex.specs.declared.words.Mark.TheVariants as mark
use Rattle.pst_lex.specs.Words as word
use Rattle.pst_lex.specs.Words.{Word, Fixed}
use Rattle.pst_grammar.specs.declared.lexeme.Sign.{Sign}
use Rattle.pst_grammar.specs.declared.lexeme.Sign.TheVariants as sign
use Rattle.pst_grammar.specs.declared.lexeme.Lead.{Lead}
use Rattle.pst_grammar.specs.declared.lexeme.Lead.TheVariants as lead
use Rattle.pst_grammar.specs.Lexemes.{Lexeme, Name, Number, Operator, Plain, Leading}
use Rattle.pst_grammar.specs.Spelling.{Program, spelled_program}

abbrev pub op_mark : Op → Mark
op_mark op.Add = mark.Plus
op_mark op.Sub = mark.Minus
op_mark op.Mul = mark.Star
op_mark op.Div = mark.Slash
op_mark op.Rem = mark.Percent
op_mark op.Equal = mark.Equal
op_mark op.NotEqual = mark.NotEqual
op_mark op.Less = mark.Less
op_mark op.LessEqual = mark.LessEqual
op_mark op.Greater = mark.Greater
op_mark op.GreaterEqual = mark.GreaterEqual
op_mark op.And = mark.And
op_mark op.Or = mark.Or

abbrev pub sign_mark : Sign → Mark
sign_mark sign.Null = mark.Null
sign_mark sign.Not = mark.Not
sign_mark sign.Int = mark.Int
sign_mark sign.New = mark.New
sign_mark sign.Else = mark.Else
sign_mark sign.OpenBrace = mark.OpenBrace
sign_mark sign.CloseBrace = mark.CloseBrace
sign_mark sign.OpenParen = mark.OpenParen
sign_mark sign.CloseParen = mark.CloseParen
sign_mark sign.Semicolon = mark.Semicolon
sign_mark sign.Colon = mark.Colon
sign_mark sign.Comma = mark.Comma
sign_mark sign.Dot = mark.Dot
sign_mark sign.Assign = mark.Assign

abbrev pub lead_mark : Lead → Mark
lead_mark lead.Record = mark.Record
lead_mark lead.Val = mark.Val
lead_mark lead.Ptr = mark.Ptr
lead_mark lead.Root = mark.Root
lead_mark lead.Proc = mark.Proc
lead_mark lead.Query = mark.Query
lead_mark lead.Var = mark.Var
lead_mark lead.Call = mark.Call
lead_mark lead.Print = mark.Print
lead_mark lead.If = mark.If
lead_mark lead.While = mark.While
lead_mark lead.Return = mark.Return

-- a token of the parser without its line
abbrev pub word_of : Lexeme → Word
word_of (Name x) = word.Name x.name
word_of (Number v) = word.Number v
word_of (Operator o) = Fixed (op_mark o)
word_of (Plain s) = Fixed (sign_mark s)
word_of (Leading l line) = Fixed (lead_mark l)

abbrev pub words_of : List Lexeme → List Word
words_of ts = map word_of ts

-- the tokens of a program, lines apart
abbrev pub program_words : Program → List Word
program_words p = words_of (spelled_program p [])

-- A program without its lines.
use Rattle.std.specs.Prelude.{map}
use Rattle.pst_grammar.specs.Syntax.{Phrase, If, Either, While, Phrases, Empty, Then, FieldText, Val, Ptr, LocalText, Item, Record, Root, Procedure, ProgramText}

-- each line is made 0
abbrev mutual
  pub phrase_lineless : Phrase → Phrase
  phrase_lineless (If e b) = If e (block_lineless b)
  phrase_lineless (Either e b c) = Either e (block_lineless b) (block_lineless c)
  phrase_lineless (While e b) = While e (block_lineless b)
  phrase_lineless s = s

  pub block_lineless : Phrases → Phrases
  block_lineless Empty = Empty
  block_lineless (Then line s b) = Then 0 (phrase_lineless s) (block_lineless b)

abbrev pub field_lineless : FieldText → FieldText
field_lineless (Val line x n) = Val 0 x n
field_lineless (Ptr line x target n) = Ptr 0 x target n

abbrev pub local_lineless : LocalText → LocalText
local_lineless l = record { line = 0; name = l.name; kind = l.kind }

abbrev pub item_lineless : Item → Item
item_lineless (Record line x limit fields) = Record 0 x limit (map field_lineless fields)
item_lineless (Root line x kind) = Root 0 x kind
item_lineless (Procedure p) = Procedure record {
  line = 0;
  query = p.query;
  name = p.name;
  parameters = map local_lineless p.parameters;
  result = p.result;
  locals = map local_lineless p.locals;
  body = block_lineless p.body;
}

-- a program without its lines
abbrev pub lineless : ProgramText → ProgramText
lineless p = record { language = p.language; items = map item_lineless p.items }

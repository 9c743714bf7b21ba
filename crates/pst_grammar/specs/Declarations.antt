-- Reading declarations, in the language l, and whole programs.
use Rattle.std.specs.Prelude.{ℕ, ℤ, pos, negsuc, Bool, true, false, cond, nat_eq, bytes_eq, List, ◌∷◌, Option, Some, None}
use Rattle.pst_base.specs.declared.names.Op.TheVariants as op
use Rattle.pst_grammar.specs.Syntax as tree
use Rattle.pst_grammar.specs.Syntax.{FieldText, LocalText, TypeWord, Item}
use Rattle.pst_grammar.specs.declared.lexeme.Sign.TheVariants as sign
use Rattle.pst_grammar.specs.declared.lexeme.Lead.TheVariants as lead
use Rattle.pst_grammar.specs.Lexemes.{Lexeme, Name, Number, Operator, Plain, Leading}
use Rattle.pst_grammar.specs.Spelling.{language_word}
use Rattle.pst_grammar.specs.Reader.{Read, Got, Bad, Unexpected, and_then, after, label, number, type_word, many, listed}
use Rattle.pst_grammar.specs.Statements.{reading_block}

-- the number of elements behind the type of a field, which may stand there in language 2
abbrev pub count : (l : ℕ) → List Lexeme → Read (Option ℤ)
count l (Operator op.Mul ∷ ts) = cond (nat_eq l 2) (and_then (number ts) (λ n. Got (Some n))) (Got None (Operator op.Mul ∷ ts))
count l ts = Got None ts

-- what stands behind `val`
abbrev pub value_field : (l line : ℕ) → List Lexeme → Read FieldText
value_field l line ts = and_then (label ts) (λ x. after sign.Colon (after sign.Int (λ rest. and_then (count l rest) (λ n. after sign.Semicolon (Got (tree.Val line x.name n))))))

-- what stands behind `ptr`
abbrev pub pointer_field : (l line : ℕ) → List Lexeme → Read FieldText
pointer_field l line ts =
    and_then (label ts) (λ x. after sign.Colon (λ rest. and_then (label rest) (λ target rest. and_then (count l rest) (λ n. after sign.Semicolon (Got (tree.Ptr line x.name target.name n))))))

abbrev pub field : (l : ℕ) → List Lexeme → Read FieldText
field l (Leading lead.Val line ∷ ts) = value_field l line ts
field l (Leading lead.Ptr line ∷ ts) = pointer_field l line ts
field l ts = Bad Unexpected ts

abbrev pub starts_field : Lexeme → Bool
starts_field (Leading lead.Val line) = true
starts_field (Leading lead.Ptr line) = true
starts_field t = false

-- a `:` and a type
abbrev pub typed : List Lexeme → Read TypeWord
typed = after sign.Colon type_word

abbrev pub parameter : List Lexeme → Read LocalText
parameter ts = and_then (label ts) (λ x rest. and_then (typed rest) (λ k. Got (record { line = x.line; name = x.name; kind = k })))

-- what stands behind `var`
abbrev pub variable : ℕ → List Lexeme → Read LocalText
variable line ts = and_then (label ts) (λ x rest. and_then (typed rest) (λ k. after sign.Semicolon (Got (record { line = line; name = x.name; kind = k }))))

abbrev pub local : List Lexeme → Read LocalText
local (Leading lead.Var line ∷ ts) = variable line ts
local ts = Bad Unexpected ts

abbrev pub starts_local : Lexeme → Bool
starts_local (Leading lead.Var line) = true
starts_local t = false

-- the result's type, if one is named
abbrev pub result : List Lexeme → Read (Option TypeWord)
result (Plain sign.Colon ∷ ts) = and_then (type_word ts) (λ k. Got (Some k))
result ts = Got None ts

-- what stands behind `record`
abbrev pub record_type : (l line : ℕ) → List Lexeme → Read Item
record_type l line ts =
    and_then (label ts) (λ x rest. and_then (number rest) (λ v. after sign.OpenBrace (λ rest. and_then (many starts_field (field l) rest) (λ fields. after sign.CloseBrace (Got (tree.Record line x.name v fields))))))

-- what stands behind `root`
abbrev pub root : ℕ → List Lexeme → Read Item
root line ts = and_then (label ts) (λ x rest. and_then (typed rest) (λ k. after sign.Semicolon (Got (tree.Root line x.name k))))

-- a procedure's locals and statements, up to the `}`
abbrev pub body : (l h d : ℕ) → (List LocalText → tree.Phrases → Item) → List Lexeme → Read Item
body l h d make = after sign.OpenBrace (λ ts. and_then (many starts_local local ts) (λ locals rest. and_then (reading_block l h d rest) (λ b. after sign.CloseBrace (Got (make locals b)))))

-- what stands behind `proc` or `query`
abbrev pub procedure : (l h d line : ℕ) → Bool → List Lexeme → Read Item
procedure l h d line query ts =
    and_then (label ts) (λ x. after sign.OpenParen (λ rest. and_then (listed parameter rest) (λ parameters rest. and_then (result rest) (λ kind.
    body l h d (λ locals b. tree.Procedure record { line = line; query = query; name = x.name; parameters = parameters; result = kind; locals = locals; body = b })))))

abbrev pub item : (l h d : ℕ) → List Lexeme → Read Item
item l h d (Leading lead.Record line ∷ ts) = record_type l line ts
item l h d (Leading lead.Root line ∷ ts) = root line ts
item l h d (Leading lead.Proc line ∷ ts) = procedure l h d line false ts
item l h d (Leading lead.Query line ∷ ts) = procedure l h d line true ts
item l h d ts = Bad Unexpected ts

-- any token
abbrev pub any : Lexeme → Bool
any t = true

-- declarations up to the end
abbrev pub declarations : (l h d : ℕ) → List Lexeme → Read tree.ProgramText
declarations l h d ts = and_then (many any (item l h d) ts) (λ items. Got (record { language = l; items = items }))

abbrev pub is_two : ℤ → Bool
is_two (pos n) = nat_eq n 2
is_two (negsuc n) = false

-- the number 2 has to come
abbrev pub two : List Lexeme → Read (Unit {0})
two (Number v ∷ ts) = cond (is_two v) (Got tt ts) (Bad Unexpected (Number v ∷ ts))
two ts = Bad Unexpected ts

-- what stands behind the word `language`
abbrev pub second : (h d : ℕ) → List Lexeme → Read tree.ProgramText
second h d ts = and_then (two ts) (λ _. declarations 2 h d)

-- A program up to the end: of language 2 where its first token is the name `language`, and of language 1 elsewhere.
abbrev pub reading_program : (h d : ℕ) → List Lexeme → Read tree.ProgramText
reading_program h d (Name x ∷ ts) = cond (bytes_eq x.name language_word) (second h d ts) (declarations 1 h d (Name x ∷ ts))
reading_program h d ts = declarations 1 h d ts

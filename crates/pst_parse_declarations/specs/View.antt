-- What the code's values are as definitions see them.
use Rattle.std.specs.Prelude.{◌≡◌, ℕ, true, false, bytes_eq, List, [], ◌∷◌, map, Option, Result, Ok, Err}
use Rattle.std.specs.Borrow.{Bor}
use Rattle.std.specs.Option.{option_map}
use Rattle.pst_parse_expressions.specs.declared.lexeme.Atom.{Atom}
use Rattle.pst_grammar.specs.declared.declaration.Field.{Field}
use Rattle.pst_grammar.specs.declared.declaration.Local.{Local}
use Rattle.pst_grammar.specs.declared.declaration.TypeName.{TypeName}
use Rattle.pst_grammar.specs.Syntax as tree
use Rattle.pst_grammar.specs.View.{field_of, local_of, type_word_of}
use Rattle.pst_grammar.specs.declared.lexeme.Sign.TheVariants as sign
use Rattle.pst_grammar.specs.Lexemes.{Lexeme, Name}
use Rattle.pst_grammar.specs.Spelling.{language_word}
use Rattle.pst_grammar.specs.Reader.{Read, Got, and_then, after, label, listed}
use Rattle.pst_grammar.specs.Declarations as read
use Rattle.pst_parse_expressions.specs.declared.stop.Stop.{Stop}
use Rattle.pst_parse_expressions.specs.View.{Stops, lexemes_of}
use Rattle.pst_parse_declarations.specs.declared.declarations.Signature.{Signature}

-- the word that a program of language 2 begins with stands there
abbrev pub BeginsWithWord : (tokens rest : List Lexeme) → Type 0
BeginsWithWord [] rest = ⊥
BeginsWithWord (Name x ∷ ts) rest = (bytes_eq x.name language_word ≡ true) × (ts ≡ rest)
BeginsWithWord (t ∷ ts) rest = ⊥

-- it does not stand there
abbrev pub BeginsOtherwise : List Lexeme → Type 0
BeginsOtherwise [] = Unit {0}
BeginsOtherwise (Name x ∷ ts) = bytes_eq x.name language_word ≡ false
BeginsOtherwise (t ∷ ts) = Unit {0}

abbrev pub fields_of : List Field → List tree.FieldText
fields_of fs = map field_of fs

abbrev pub locals_of : List Local → List tree.LocalText
locals_of ls = map local_of ls

abbrev pub result_of : Option TypeName → Option tree.TypeWord
result_of k = option_map type_word_of k

-- the tokens after a sign that has to come are the reading's, where a value stands with them
abbrev pub GivesBehind : {X : Type 0} → Result (X × Bor (List Atom)) Stop → Read (Unit {0}) → Type 0
GivesBehind (Ok x) read = read ≡ Got tt (lexemes_of x.1.now)
GivesBehind (Err e) read = Stops e read

-- what a procedure or query shows of itself to a caller
pub record SignatureText : Type 0 where
  pub name : List ℕ
  pub parameters : List tree.LocalText
  pub result : Option tree.TypeWord

abbrev pub signature_of : Signature → SignatureText
signature_of s = record { name = s.name; parameters = locals_of s.parameters; result = result_of s.result }

-- the first part of reading a procedure or query, up to the `{`
abbrev pub heading : List Lexeme → Read SignatureText
heading ts =
    and_then (label ts) (λ x. after sign.OpenParen (λ rest. and_then (listed read.parameter rest) (λ parameters rest. and_then (read.result rest) (λ kind.
    after sign.OpenBrace (Got (record { name = x.name; parameters = parameters; result = kind }))))))

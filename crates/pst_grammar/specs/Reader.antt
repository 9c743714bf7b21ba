-- Reading from the front of a list of tokens.
use Rattle.std.specs.Prelude.{ℕ, ℤ, Bool, true, false, cond, nat_le, List, [], ◌∷◌, length}
use Rattle.std.proofs.Common.{suc, zero}
use Rattle.pst_grammar.specs.Syntax.{TypeWord, Int, Named}
use Rattle.pst_grammar.specs.declared.lexeme.Label.{Label}
use Rattle.pst_grammar.specs.declared.lexeme.Sign.{Sign}
use Rattle.pst_grammar.specs.declared.lexeme.Sign.TheVariants as sign
use Rattle.pst_grammar.specs.Lexemes.{Lexeme, Name, Number, Plain}

pub data Fault : Type 0 where
  Unexpected : Fault
  TooDeep : Fault

-- what was read and the tokens after it, or a fault and the tokens from its place on
pub data Read (A : Type 0) : Type 0 where
  Got : A → List Lexeme → Read A
  Bad : Fault → List Lexeme → Read A

abbrev pub and_then : {A B : Type 0} → Read A → (A → List Lexeme → Read B) → Read B
and_then (Got a rest) f = f a rest
and_then (Bad fault rest) f = Bad fault rest

-- whether the token is the sign
abbrev pub is : Sign → Lexeme → Bool
is sign.Null (Plain sign.Null) = true
is sign.Not (Plain sign.Not) = true
is sign.Int (Plain sign.Int) = true
is sign.New (Plain sign.New) = true
is sign.Else (Plain sign.Else) = true
is sign.OpenBrace (Plain sign.OpenBrace) = true
is sign.CloseBrace (Plain sign.CloseBrace) = true
is sign.OpenParen (Plain sign.OpenParen) = true
is sign.CloseParen (Plain sign.CloseParen) = true
is sign.Semicolon (Plain sign.Semicolon) = true
is sign.Colon (Plain sign.Colon) = true
is sign.Comma (Plain sign.Comma) = true
is sign.Dot (Plain sign.Dot) = true
is sign.Assign (Plain sign.Assign) = true
is s t = false

-- a sign that has to come
abbrev pub expect : Sign → List Lexeme → Read (Unit {0})
expect s [] = Bad Unexpected []
expect s (t ∷ ts) = cond (is s t) (Got tt ts) (Bad Unexpected (t ∷ ts))

-- a sign that has to come, and what is read behind it
abbrev pub after : {A : Type 0} → Sign → (List Lexeme → Read A) → List Lexeme → Read A
after s f ts = and_then (expect s ts) (λ _ rest. f rest)

-- a name that has to come
abbrev pub label : List Lexeme → Read Label
label (Name x ∷ ts) = Got x ts
label ts = Bad Unexpected ts

-- a number that has to come
abbrev pub number : List Lexeme → Read ℤ
number (Number v ∷ ts) = Got v ts
number ts = Bad Unexpected ts

-- a type that has to come
abbrev pub type_word : List Lexeme → Read TypeWord
type_word (Plain sign.Int ∷ ts) = Got Int ts
type_word (Name x ∷ ts) = Got (Named x.name) ts
type_word ts = Bad Unexpected ts

-- a level of depth over a part of height h, where heights up to b are allowed
abbrev pub within : {A : Type 0} → ℕ → ℕ → List Lexeme → Read A → Read A
within h b place r = cond (nat_le (suc h) b) r (Bad TooDeep place)

-- as many parts as stand there, n at most, each beginning with a token that begins one
unfoldable pub many_upto : {A : Type 0} → ℕ → (Lexeme → Bool) → (List Lexeme → Read A) → List Lexeme → Read (List A)
many_upto zero starts part ts = Got [] ts
many_upto (suc n) starts part [] = Got [] []
many_upto (suc n) starts part (t ∷ ts) =
    cond (starts t) (and_then (part (t ∷ ts)) (λ a rest. and_then (many_upto n starts part rest) (λ l. Got (a ∷ l)))) (Got [] (t ∷ ts))

-- the same without end: there are no more parts than tokens
unfoldable pub many : {A : Type 0} → (Lexeme → Bool) → (List Lexeme → Read A) → List Lexeme → Read (List A)
many starts part ts = many_upto (length ts) starts part ts

-- parts with commas between them, from the second one's comma to the `)` behind them
abbrev pub others : {A : Type 0} → (List Lexeme → Read A) → A → List Lexeme → Read (List A)
others part a ts = and_then (many (is sign.Comma) (after sign.Comma part) ts) (λ l. after sign.CloseParen (Got (a ∷ l)))

-- parts with commas between them, up to the `)` behind them
abbrev pub listed : {A : Type 0} → (List Lexeme → Read A) → List Lexeme → Read (List A)
listed part (Plain sign.CloseParen ∷ ts) = Got [] ts
listed part ts = and_then (part ts) (others part)

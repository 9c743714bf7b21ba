-- Reading statements and blocks, in the language l.
use Rattle.std.specs.Prelude.{ℕ, Bool, true, false, List, [], ◌∷◌, Option, Some, None}
use Rattle.std.proofs.Common.{suc, zero}
use Rattle.pst_grammar.specs.Syntax as tree
use Rattle.pst_grammar.specs.Syntax.{Expr, Phrase, Phrases}
use Rattle.pst_grammar.specs.declared.lexeme.Sign.TheVariants as sign
use Rattle.pst_grammar.specs.declared.lexeme.Lead.{Lead}
use Rattle.pst_grammar.specs.declared.lexeme.Lead.TheVariants as lead
use Rattle.pst_grammar.specs.Lexemes.{Lexeme, Name, Plain, Leading}
use Rattle.pst_grammar.specs.Reader.{Read, Got, Bad, Unexpected, and_then, after, label, within, many, listed}
use Rattle.pst_grammar.specs.Reading.{read, going, nothing}

-- an expression and a `;`
abbrev pub ended : (l h : ℕ) → List Lexeme → Read Expr
ended l h ts = and_then (read l h 0 ts) (λ e. after sign.Semicolon (Got e))

-- the arguments of a call, up to the `)`
abbrev pub arguments : (l h : ℕ) → List Lexeme → Read (List Expr)
arguments l h ts = listed (read l h 0) ts

-- what stands behind `call`
abbrev pub call : (l h : ℕ) → Option (List ℕ) → List Lexeme → Read Phrase
call l h result ts = and_then (label ts) (λ p. after sign.OpenParen (λ rest. and_then (arguments l h rest) (λ es. after sign.Semicolon (Got (tree.Call result p.name es)))))

-- what stands behind `x = new`
abbrev pub made : List ℕ → List Lexeme → Read Phrase
made x ts = and_then (label ts) (λ ty. after sign.Semicolon (Got (tree.New x ty.name)))

-- what stands behind the `=` of a place
abbrev pub written : (l h : ℕ) → Expr → List Lexeme → Read Phrase
written l h place ts = and_then (ended l h ts) (λ e. Got (tree.Write place e))

-- what stands behind `x =`
abbrev pub set : (l h : ℕ) → List ℕ → List Lexeme → Read Phrase
set l h x (Plain sign.New ∷ ts) = made x ts
set l h x (Leading lead.Call line ∷ ts) = call l h (Some x) ts
set l h x ts = written l h (tree.Name x) ts

abbrev pub valued : (l h : ℕ) → Expr → List Lexeme → Read Phrase
valued l h (tree.Name x) ts = set l h x ts
valued l h place ts = written l h place ts

-- what stands behind the name that a statement begins with
abbrev pub assigned : (l h : ℕ) → List ℕ → List Lexeme → Read Phrase
assigned l h x ts = and_then (going l h 7 (tree.Name x) ts) (λ place. after sign.Assign (valued l h place))

-- what stands behind `return`
abbrev pub returned : (l h : ℕ) → List Lexeme → Read Phrase
returned l h (Plain sign.Semicolon ∷ ts) = Got (tree.Return None) ts
returned l h ts = and_then (ended l h ts) (λ e. Got (tree.Return (Some e)))

-- a block in braces
abbrev pub braced : (List Lexeme → Read Phrases) → List Lexeme → Read Phrases
braced inner = after sign.OpenBrace (λ ts. and_then (inner ts) (λ b. after sign.CloseBrace (Got b)))

-- what may follow the first block of an `if`
abbrev pub choice : (List Lexeme → Read Phrases) → Expr → Phrases → List Lexeme → Read Phrase
choice inner e b (Plain sign.Else ∷ ts) = and_then (braced inner ts) (λ c. Got (tree.Either e b c))
choice inner e b ts = Got (tree.If e b) ts

-- What stands behind the word that a statement begins with; `inner` reads a block one level deeper, where d levels are allowed.
abbrev pub led : (l : ℕ) → (List Lexeme → Read Phrases) → (h d : ℕ) → Lead → (place ts : List Lexeme) → Read Phrase
led l inner h d lead.Print place ts = and_then (ended l h ts) (λ e. Got (tree.Print e))
led l inner h d lead.Call place ts = call l h None ts
led l inner h d lead.Return place ts = returned l h ts
led l inner h d lead.If place ts = within 0 d place (and_then (read l h 0 ts) (λ e rest. and_then (braced inner rest) (choice inner e)))
led l inner h d lead.While place ts = within 0 d place (and_then (read l h 0 ts) (λ e rest. and_then (braced inner rest) (λ b. Got (tree.While e b))))
led l inner h d w place ts = Bad Unexpected place

-- with its line
abbrev pub on_line : ℕ → Read Phrase → Read (ℕ × Phrase)
on_line line r = and_then r (λ s. Got (line, s))

abbrev pub statement : (l : ℕ) → (List Lexeme → Read Phrases) → (h d : ℕ) → List Lexeme → Read (ℕ × Phrase)
statement l inner h d (Name x ∷ ts) = on_line x.line (assigned l h x.name ts)
statement l inner h d (Leading w line ∷ ts) = on_line line (led l inner h d w (Leading w line ∷ ts) ts)
statement l inner h d ts = Bad Unexpected ts

-- whether a statement begins with the word
abbrev pub starts_statement : Lead → Bool
starts_statement lead.Call = true
starts_statement lead.Print = true
starts_statement lead.If = true
starts_statement lead.While = true
starts_statement lead.Return = true
starts_statement l = false

-- whether a statement begins with the token
abbrev pub starts : Lexeme → Bool
starts (Name x) = true
starts (Leading l line) = starts_statement l
starts t = false

-- statements one after another, as a block
abbrev pub block_of : List (ℕ × Phrase) → Phrases
block_of [] = tree.Empty
block_of (s ∷ ss) = tree.Then s.0 s.1 (block_of ss)

-- as many statements as stand there
abbrev pub block : (List Lexeme → Read (ℕ × Phrase)) → List Lexeme → Read Phrases
block part ts = and_then (many starts part ts) (λ ss. Got (block_of ss))

-- a statement with expressions of height at most h, in which at most d blocks stand in one another
unfoldable pub reading_statement : (l h d : ℕ) → List Lexeme → Read (ℕ × Phrase)
reading_statement l h zero ts = statement l nothing h 0 ts
reading_statement l h (suc c) ts = statement l (block (reading_statement l h c)) h (suc c) ts

abbrev pub reading_block : (l h d : ℕ) → List Lexeme → Read Phrases
reading_block l h d ts = block (reading_statement l h d) ts

-- what reads a block one level deeper
abbrev pub inner : (l h d : ℕ) → List Lexeme → Read Phrases
inner l h zero = nothing
inner l h (suc c) = reading_block l h c

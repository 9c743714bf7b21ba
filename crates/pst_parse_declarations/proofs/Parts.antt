-- Readings in parts, as the code takes them.
use Rattle.std.specs.Prelude.{◌≡◌, ℕ, Bool, List, Option, map, Result, Ok, Err, IfOk}
use Rattle.std.specs.Borrow.{Bor}
use Rattle.std.proofs.Common.{refl, sym, ap, ◌∙◌, subst}
use Rattle.pst_parse_expressions.specs.declared.lexeme.Atom.{Atom}
use Rattle.pst_grammar.specs.Syntax as tree
use Rattle.pst_grammar.specs.Syntax.{LocalText, TypeWord, Item}
use Rattle.pst_grammar.specs.declared.lexeme.Label.{Label}
use Rattle.pst_grammar.specs.declared.lexeme.Sign.{Sign}
use Rattle.pst_grammar.specs.declared.lexeme.Sign.TheVariants as sign
use Rattle.pst_grammar.specs.Lexemes.{Lexeme}
use Rattle.pst_grammar.specs.Reader.{Read, Got, Bad, and_then, after, expect, label, many, listed}
use Rattle.pst_grammar.specs.Statements.{reading_block}
use Rattle.pst_grammar.specs.Declarations.{parameter, result, body, local, starts_local, procedure}
use Rattle.pst_parse_expressions.specs.declared.stop.Stop.{Stop}
use Rattle.pst_parse_expressions.specs.View.{Gives, Stops, Lacks, lexemes_of}
use Rattle.pst_parse_statements.proofs.Loops.{closing, comma_closed, comma_unclosed, stops_bind}
use Rattle.pst_parse_declarations.specs.View.{GivesBehind, SignatureText, heading}

-- a value with the sign behind it, seen as a definition's value
pub followed_gives : {X A : Type 0} (view : X → A) (r : Result (X × Bor (List Atom)) Stop) (x : X) (s : Sign) (ts : List Lexeme) →
    GivesBehind r (expect s ts) → IfOk r (λ y. y.0 ≡ x) → Gives view r (after s (Got (view x)) ts)
followed_gives view (Ok y) x s ts given kept = rw given (ap (λ z. Got (view z) (lexemes_of y.1.now)) (sym kept))
followed_gives view (Err e) x s ts given kept = stops_bind (expect s ts) _ e given

-- parts with commas between them, which are all read, and the `)` behind them
pub listed_followed : {A X Y : Type 0} (part : List Lexeme → Read A) (view : X → A) (xs : List X) (ts : List Lexeme) (whole : Read (List A))
    (all : Y → List A) (r : Result (Y × Bor (List Atom)) Stop) (y : Y) →
    all y ≡ map view xs → Lacks sign.Comma ts → closing part (map view xs) ts ≡ whole → GivesBehind r (expect sign.CloseParen ts) → IfOk r (λ z. z.0 ≡ y) → Gives all r whole
listed_followed part view xs ts whole all (Ok z) y made none inv given kept = comma_closed part view xs ts _ whole none given inv ∙ ap (λ l. Got l (lexemes_of z.1.now)) (sym made ∙ ap all (sym kept))
listed_followed part view xs ts whole all (Err e) y made none inv given kept = comma_unclosed part view xs ts whole e none given inv

-- what stands behind the `{` of a procedure
abbrev pub behind : (l h d line : ℕ) → Bool → SignatureText → List Lexeme → Read Item
behind l h d line query s ts =
    and_then (many starts_local local ts) (λ locals rest. and_then (reading_block l h d rest) (λ b.
    after sign.CloseBrace (Got (tree.Procedure record { line = line; query = query; name = s.name; parameters = s.parameters; result = s.result; locals = locals; body = b }))))

-- a procedure is its signature, and what stands behind
pub procedure_parts : (l h d line : ℕ) (query : Bool) (ts : List Lexeme) → procedure l h d line query ts ≡ and_then (heading ts) (behind l h d line query)
procedure_parts l h d line query ts = named (label ts)
  where
    opened : (x : Label) (ps : List LocalText) (k : Option TypeWord) (ts : List Lexeme) (r : Read (Unit {0})) →
        and_then r (λ _ rest. behind l h d line query (record { name = x.name; parameters = ps; result = k }) rest)
        ≡ and_then (and_then r (λ _. Got (record { name = x.name; parameters = ps; result = k }))) (behind l h d line query)
    opened x ps k ts (Got u rest) = refl
    opened x ps k ts (Bad f rest) = refl

    typed : (x : Label) (ps : List LocalText) (r : Read (Option TypeWord)) →
        and_then r (λ k. body l h d (λ locals b. tree.Procedure record { line = line; query = query; name = x.name; parameters = ps; result = k; locals = locals; body = b }))
        ≡ and_then (and_then r (λ k. after sign.OpenBrace (Got (record { name = x.name; parameters = ps; result = k })))) (behind l h d line query)
    typed x ps (Got k rest) = opened x ps k rest (expect sign.OpenBrace rest)
    typed x ps (Bad f rest) = refl

    listing : (x : Label) (r : Read (List LocalText)) →
        and_then r (λ ps rest. and_then (result rest) (λ k. body l h d
        (λ locals b. tree.Procedure record { line = line; query = query; name = x.name; parameters = ps; result = k; locals = locals; body = b })))
        ≡ and_then (and_then r (λ ps rest. and_then (result rest) (λ k. after sign.OpenBrace (Got (record { name = x.name; parameters = ps; result = k }))))) (behind l h d line query)
    listing x (Got ps rest) = typed x ps (result rest)
    listing x (Bad f rest) = refl

    paren : (x : Label) (r : Read (Unit {0})) →
        and_then r (λ _ rest. and_then (listed parameter rest)
        (λ ps rest. and_then (result rest) (λ k. body l h d
        (λ locals b. tree.Procedure record { line = line; query = query; name = x.name; parameters = ps; result = k; locals = locals; body = b }))))
        ≡ and_then (and_then r (λ _ rest. and_then (listed parameter rest)
        (λ ps rest. and_then (result rest) (λ k. after sign.OpenBrace (Got (record { name = x.name; parameters = ps; result = k }))))))
        (behind l h d line query)
    paren x (Got u rest) = listing x (listed parameter rest)
    paren x (Bad f rest) = refl

    named : (r : Read Label) →
        and_then r (λ x. after sign.OpenParen (λ rest. and_then (listed parameter rest)
        (λ ps rest. and_then (result rest) (λ k. body l h d
        (λ locals b. tree.Procedure record { line = line; query = query; name = x.name; parameters = ps; result = k; locals = locals; body = b })))))
        ≡ and_then (and_then r (λ x. after sign.OpenParen (λ rest. and_then (listed parameter rest)
        (λ ps rest. and_then (result rest) (λ k. after sign.OpenBrace (Got (record { name = x.name; parameters = ps; result = k })))))))
        (behind l h d line query)
    named (Got x rest) = paren x (expect sign.OpenParen rest)
    named (Bad f rest) = refl

pub procedure_stops : (l h d line : ℕ) (query : Bool) (ts : List Lexeme) (e : Stop) → Stops e (heading ts) → Stops e (procedure l h d line query ts)
procedure_stops l h d line query ts e bad = subst (λ r. Stops e r) (sym (procedure_parts l h d line query ts)) (stops_bind (heading ts) (behind l h d line query) e bad)

pub procedure_goes : (l h d line : ℕ) (query : Bool) (ts rest : List Lexeme) (s : SignatureText) → heading ts ≡ Got s rest → procedure l h d line query ts ≡ behind l h d line query s rest
procedure_goes l h d line query ts rest s at = procedure_parts l h d line query ts ∙ ap (λ r. and_then r (behind l h d line query)) at

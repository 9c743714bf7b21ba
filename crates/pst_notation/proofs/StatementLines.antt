-- Tokens that are those of statements, lines apart, are those of statements with other lines.
use Rattle.std.specs.Prelude.{◌≡◌, ℕ, List, ◌∷◌, map, Some, None}
use Rattle.std.proofs.Common.{refl, ap, ◌∙◌}
use Rattle.pst_lex.specs.declared.words.Mark.TheVariants as mark
use Rattle.pst_lex.specs.Words as word
use Rattle.pst_lex.specs.Words.{Word, Fixed}
use Rattle.pst_grammar.specs.Syntax as tree
use Rattle.pst_grammar.specs.declared.lexeme.Label.{Label}
use Rattle.pst_grammar.specs.declared.lexeme.Sign.TheVariants as sign
use Rattle.pst_grammar.specs.declared.lexeme.Lead.TheVariants as lead
use Rattle.pst_grammar.specs.Lexemes.{Lexeme, Plain, Leading}
use Rattle.pst_grammar.specs.Spelling.{Expr, expr, spelled, listed, ended, spelled_call, Statement, New, Call, Result, Write, Print, If, Either, While, Return}
use Rattle.pst_grammar.specs.Spelling.{Block, Empty, Then, phrase, phrases, spelled_statement, spelled_block}
use Rattle.pst_notation.specs.Lines.{phrase_lineless, block_lineless}
use Rattle.pst_notation.specs.Tokens.{words_of}
use Rattle.pst_notation.proofs.Fronts.{front, Relined}
use Rattle.pst_notation.proofs.ExpressionLines.{expr_relined, listed_relined}

ended_relined : (e : Expr) (ts us : List Lexeme) → words_of us ≡ words_of (ended e ts) → Relined (λ f. expr f ≡ expr e) ended ts us
ended_relined e ts us h =
    let a = expr_relined e (Plain sign.Semicolon ∷ ts) us h in
    let b = front (Fixed mark.Semicolon) (words_of ts) a.rest a.words in
    record { part = a.part; rest = b.rest; same = a.same; spells = cc; words = b.words }

-- a block in braces
abbrev bracketed : Block → List Lexeme → List Lexeme
bracketed b rest = Plain sign.OpenBrace ∷ spelled_block b (Plain sign.CloseBrace ∷ rest)

-- a call behind its word has other lines
record RelinedCall (p : Label) (es : List Expr) (ts us : List Lexeme) : Type 0 where
  line : ℕ
  list : List Expr
  rest : List Lexeme
  same : map expr list ≡ map expr es
  spells : spelled_call (record { line = line; name = p.name }) list rest ≡ us
  words : words_of rest ≡ words_of ts

call_relined : (p : Label) (es : List Expr) (ts us : List Lexeme) → words_of us ≡ words_of (spelled_call p es ts) → RelinedCall p es ts us
call_relined p es ts us h =
    let a = front (word.Name p.name) (Fixed mark.OpenParen ∷ words_of (listed spelled es (Plain sign.Semicolon ∷ ts))) us h in
    let b = front (Fixed mark.OpenParen) (words_of (listed spelled es (Plain sign.Semicolon ∷ ts))) a.rest a.words in
    let c = listed_relined expr spelled expr_relined es (Plain sign.Semicolon ∷ ts) b.rest b.words in
    let d = front (Fixed mark.Semicolon) (words_of ts) c.rest c.words in
    record { line = a.line; list = c.part; rest = d.rest; same = c.same; spells = cc; words = d.words }

abbrev SameStatement : Statement → Statement → Type 0
SameStatement s t = phrase_lineless (phrase t) ≡ phrase_lineless (phrase s)

abbrev SameBlock : Block → Block → Type 0
SameBlock b c = block_lineless (phrases c) ≡ block_lineless (phrases b)

either_same : (e f : tree.Expr) (b c y z : tree.Phrases) → f ≡ e → c ≡ b → z ≡ y → tree.Either f c z ≡ tree.Either e b y
either_same e f b c y z p q r = cc

either_spells : (line : ℕ) (e : Expr) (b c : Block) (us f g k l m n o p q : List Lexeme) → us ≡ Leading lead.If line ∷ f → spelled e g ≡ f → g ≡ Plain sign.OpenBrace ∷ k → spelled_block b l ≡ k →
    l ≡ Plain sign.CloseBrace ∷ m → m ≡ Plain sign.Else ∷ n → n ≡ Plain sign.OpenBrace ∷ o → spelled_block c p ≡ o → p ≡ Plain sign.CloseBrace ∷ q → spelled_statement (Either line e b c) q ≡ us
either_spells line e b c us f g k l m n o p q h0 h1 h2 h3 h4 h5 h6 h7 h8 = cc

mutual
  statement_relined : (s : Statement) (ts us : List Lexeme) → words_of us ≡ words_of (spelled_statement s ts) → Relined (SameStatement s) spelled_statement ts us
  statement_relined (New x ty) ts us h =
      let a = front (word.Name x.name) (Fixed mark.Assign ∷ Fixed mark.New ∷ word.Name ty.name ∷ Fixed mark.Semicolon ∷ words_of ts) us h in
      let b = front (Fixed mark.Assign) (Fixed mark.New ∷ word.Name ty.name ∷ Fixed mark.Semicolon ∷ words_of ts) a.rest a.words in
      let c = front (Fixed mark.New) (word.Name ty.name ∷ Fixed mark.Semicolon ∷ words_of ts) b.rest b.words in
      let d = front (word.Name ty.name) (Fixed mark.Semicolon ∷ words_of ts) c.rest c.words in
      let e = front (Fixed mark.Semicolon) (words_of ts) d.rest d.words in
      record { part = New (record { line = a.line; name = x.name }) (record { line = d.line; name = ty.name }); rest = e.rest; same = refl; spells = cc; words = e.words }
  statement_relined (Call line p es) ts us h =
      let a = front (Fixed mark.Call) (words_of (spelled_call p es ts)) us h in
      let b = call_relined p es ts a.rest a.words in
      record { part = Call a.line (record { line = b.line; name = p.name }) b.list; rest = b.rest; same = ap (λ (l : List tree.Expr). tree.Call None p.name l) b.same; spells = cc; words = b.words }
  statement_relined (Result x line p es) ts us h =
      let a = front (word.Name x.name) (Fixed mark.Assign ∷ Fixed mark.Call ∷ words_of (spelled_call p es ts)) us h in
      let b = front (Fixed mark.Assign) (Fixed mark.Call ∷ words_of (spelled_call p es ts)) a.rest a.words in
      let c = front (Fixed mark.Call) (words_of (spelled_call p es ts)) b.rest b.words in
      let d = call_relined p es ts c.rest c.words in
      record {
        part = Result (record { line = a.line; name = x.name }) c.line (record { line = d.line; name = p.name }) d.list;
        rest = d.rest;
        same = ap (λ (l : List tree.Expr). tree.Call (Some x.name) p.name l) d.same;
        spells = cc;
        words = d.words;
      }
  statement_relined (Write place e) ts us h =
      let a = expr_relined place (Plain sign.Assign ∷ ended e ts) us h in
      let b = front (Fixed mark.Assign) (words_of (ended e ts)) a.rest a.words in
      let c = ended_relined e ts b.rest b.words in
      record { part = Write a.part c.part; rest = c.rest; same = cc; spells = cc; words = c.words }
  statement_relined (Print line e) ts us h =
      let a = front (Fixed mark.Print) (words_of (ended e ts)) us h in
      let b = ended_relined e ts a.rest a.words in
      record { part = Print a.line b.part; rest = b.rest; same = ap tree.Print b.same; spells = cc; words = b.words }
  statement_relined (If line e b) ts us h =
      let f = front (Fixed mark.If) (words_of (spelled e (bracketed b ts))) us h in
      let g = expr_relined e (bracketed b ts) f.rest f.words in
      let k = front (Fixed mark.OpenBrace) (words_of (spelled_block b (Plain sign.CloseBrace ∷ ts))) g.rest g.words in
      let l = block_relined b (Plain sign.CloseBrace ∷ ts) k.rest k.words in
      let m = front (Fixed mark.CloseBrace) (words_of ts) l.rest l.words in
      record { part = If f.line g.part l.part; rest = m.rest; same = cc; spells = cc; words = m.words }
  statement_relined (Either line e b c) ts us h =
      let f = front (Fixed mark.If) (words_of (spelled e (bracketed b (Plain sign.Else ∷ bracketed c ts)))) us h in
      let g = expr_relined e (bracketed b (Plain sign.Else ∷ bracketed c ts)) f.rest f.words in
      let k = front (Fixed mark.OpenBrace) (words_of (spelled_block b (Plain sign.CloseBrace ∷ Plain sign.Else ∷ bracketed c ts))) g.rest g.words in
      let l = block_relined b (Plain sign.CloseBrace ∷ Plain sign.Else ∷ bracketed c ts) k.rest k.words in
      let m = front (Fixed mark.CloseBrace) (Fixed mark.Else ∷ words_of (bracketed c ts)) l.rest l.words in
      let n = front (Fixed mark.Else) (words_of (bracketed c ts)) m.rest m.words in
      let o = front (Fixed mark.OpenBrace) (words_of (spelled_block c (Plain sign.CloseBrace ∷ ts))) n.rest n.words in
      let p = block_relined c (Plain sign.CloseBrace ∷ ts) o.rest o.words in
      let q = front (Fixed mark.CloseBrace) (words_of ts) p.rest p.words in
      record {
        part = Either f.line g.part l.part p.part;
        rest = q.rest;
        same = either_same (expr e) (expr g.part) (block_lineless (phrases b)) (block_lineless (phrases l.part)) (block_lineless (phrases c)) (block_lineless (phrases p.part)) g.same l.same p.same;
        spells = either_spells f.line g.part l.part p.part us f.rest g.rest k.rest l.rest m.rest n.rest o.rest p.rest q.rest f.is g.spells k.is l.spells m.is n.is o.is p.spells q.is;
        words = q.words;
      }
  statement_relined (While line e b) ts us h =
      let f = front (Fixed mark.While) (words_of (spelled e (bracketed b ts))) us h in
      let g = expr_relined e (bracketed b ts) f.rest f.words in
      let k = front (Fixed mark.OpenBrace) (words_of (spelled_block b (Plain sign.CloseBrace ∷ ts))) g.rest g.words in
      let l = block_relined b (Plain sign.CloseBrace ∷ ts) k.rest k.words in
      let m = front (Fixed mark.CloseBrace) (words_of ts) l.rest l.words in
      record { part = While f.line g.part l.part; rest = m.rest; same = cc; spells = cc; words = m.words }
  statement_relined (Return line None) ts us h =
      let a = front (Fixed mark.Return) (Fixed mark.Semicolon ∷ words_of ts) us h in
      let b = front (Fixed mark.Semicolon) (words_of ts) a.rest a.words in
      record { part = Return a.line None; rest = b.rest; same = refl; spells = cc; words = b.words }
  statement_relined (Return line (Some e)) ts us h =
      let a = front (Fixed mark.Return) (words_of (ended e ts)) us h in
      let b = ended_relined e ts a.rest a.words in
      record { part = Return a.line (Some b.part); rest = b.rest; same = ap (λ (f : tree.Expr). tree.Return (Some f)) b.same; spells = cc; words = b.words }

  pub block_relined : (b : Block) (ts us : List Lexeme) → words_of us ≡ words_of (spelled_block b ts) → Relined (SameBlock b) spelled_block ts us
  block_relined Empty ts us h = record { part = Empty; rest = us; same = refl; spells = refl; words = h }
  block_relined (Then s b) ts us h =
      let a = statement_relined s (spelled_block b ts) us h in
      let c = block_relined b ts a.rest a.words in
      record { part = Then a.part c.part; rest = c.rest; same = cc; spells = ap (spelled_statement a.part) c.spells ∙ a.spells; words = c.words }

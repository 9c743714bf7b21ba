-- The canonical text of statements has their tokens.
use Rattle.std.specs.Prelude.{ℕ, ◌+◌, List, ◌∷◌, ◌++◌, map, codes, Some, None}
use Rattle.std.proofs.Common.{refl, append_assoc}
use Rattle.pst_lex.specs.declared.words.Mark.TheVariants as mark
use Rattle.pst_grammar.specs.declared.lexeme.Label.{Label}
use Rattle.pst_grammar.specs.declared.lexeme.Sign.TheVariants as sign
use Rattle.pst_grammar.specs.declared.lexeme.Lead.TheVariants as lead
use Rattle.pst_grammar.specs.Lexemes.{Lexeme, Plain, Leading}
use Rattle.pst_grammar.specs.Spelling.{Expr, expr, spelled, ended, spelled_call, Statement, New, Call, Result, Write, Print, If, Either, While, Return, Block}
use Rattle.pst_grammar.specs.Spelling.{Empty, Then, phrase, phrases, spelled_statement, spelled_block}
use Rattle.pst_notation.specs.Texts.{expr_text, line, call_text, phrase_text, phrases_text}
use Rattle.pst_notation.proofs.Pieces.{Reads, written, space, feed, on_line, name, fixed, open_ends}
use Rattle.pst_notation.proofs.ExpressionReads.{expr_reads, listed_read}

-- an expression and a `;` at the end of a line
ended_reads : (e : Expr) {rest : List ℕ} {ts : List Lexeme} → Reads rest ts → Reads (expr_text (expr e) ++ (59 ∷ 10 ∷ rest)) (ended e ts)
ended_reads e r = expr_reads e refl (fixed (Plain sign.Semicolon) mark.Semicolon refl refl (feed r))

-- a call at the end of a line
call_reads : (line : ℕ) (p : Label) (es : List Expr) {rest : List ℕ} {ts : List Lexeme} → Reads rest ts →
    Reads (call_text p.name (map expr es) ++ (10 ∷ rest)) (Leading lead.Call line ∷ spelled_call p es ts)
call_reads line p es {rest} {ts} r =
    written (fixed (Leading lead.Call line) mark.Call refl refl (space (name p refl (fixed (Plain sign.OpenParen) mark.OpenParen refl (open_ends _)
    (listed_read expr expr_text spelled (λ e rest ts ends r. expr_reads e ends r) es _ _ (fixed (Plain sign.Semicolon) mark.Semicolon refl refl (feed r))))))) (simp append_assoc)

-- the first line of an `if`
if_reads : (d at : ℕ) (e : Expr) {rest : List ℕ} {ts : List Lexeme} → Reads rest ts →
    Reads (line d (codes "if " ++ expr_text (expr e) ++ codes " {") ++ rest) (Leading lead.If at ∷ spelled e (Plain sign.OpenBrace ∷ ts))
if_reads d at e {rest} r =
    on_line d _ rest (written (fixed (Leading lead.If at) mark.If refl refl (space (expr_reads e refl (space (fixed (Plain sign.OpenBrace) mark.OpenBrace refl refl (feed r)))))) (simp append_assoc))

-- the first line of a `while`
while_reads : (d at : ℕ) (e : Expr) {rest : List ℕ} {ts : List Lexeme} → Reads rest ts →
    Reads (line d (codes "while " ++ expr_text (expr e) ++ codes " {") ++ rest) (Leading lead.While at ∷ spelled e (Plain sign.OpenBrace ∷ ts))
while_reads d at e {rest} r =
    on_line d _ rest (written (fixed (Leading lead.While at) mark.While refl refl
    (space (expr_reads e refl (space (fixed (Plain sign.OpenBrace) mark.OpenBrace refl refl (feed r)))))) (simp append_assoc))

-- the line between two blocks
else_reads : (d : ℕ) {rest : List ℕ} {ts : List Lexeme} → Reads rest ts → Reads (line d (codes "} else {") ++ rest) (Plain sign.CloseBrace ∷ Plain sign.Else ∷ Plain sign.OpenBrace ∷ ts)
else_reads d {rest} r =
    on_line d _ rest (fixed (Plain sign.CloseBrace) mark.CloseBrace refl refl
    (space (fixed (Plain sign.Else) mark.Else refl refl (space (fixed (Plain sign.OpenBrace) mark.OpenBrace refl refl (feed r))))))

-- the last line of a block
pub close_reads : (d : ℕ) {rest : List ℕ} {ts : List Lexeme} → Reads rest ts → Reads (line d (codes "}") ++ rest) (Plain sign.CloseBrace ∷ ts)
close_reads d {rest} r = on_line d _ rest (fixed (Plain sign.CloseBrace) mark.CloseBrace refl refl (feed r))

mutual
  statement_reads : (d : ℕ) (s : Statement) {rest : List ℕ} {ts : List Lexeme} → Reads rest ts → Reads (phrase_text d (phrase s) ++ rest) (spelled_statement s ts)
  statement_reads d (New x ty) {rest} r =
      on_line d _ rest (written (name x refl (space (fixed (Plain sign.Assign) mark.Assign refl refl (space (fixed (Plain sign.New) mark.New refl refl (space (name ty refl
      (fixed (Plain sign.Semicolon) mark.Semicolon refl refl (feed r))))))))) (simp append_assoc))
  statement_reads d (Call at p es) {rest} r = on_line d _ rest (call_reads at p es r)
  statement_reads d (Result x at p es) {rest} r =
      on_line d _ rest (written (name x refl (space (fixed (Plain sign.Assign) mark.Assign refl refl (space (call_reads at p es r))))) (simp append_assoc))
  statement_reads d (Write place e) {rest} r =
      on_line d _ rest (written (expr_reads place refl (space (fixed (Plain sign.Assign) mark.Assign refl refl (space (ended_reads e r))))) (simp append_assoc))
  statement_reads d (Print at e) {rest} r = on_line d _ rest (written (fixed (Leading lead.Print at) mark.Print refl refl (space (ended_reads e r))) (simp append_assoc))
  statement_reads d (If at e b) r = written (if_reads d at e (block_reads (d + 2) b (close_reads d r))) (simp append_assoc)
  statement_reads d (Either at e b c) r = written (if_reads d at e (block_reads (d + 2) b (else_reads d (block_reads (d + 2) c (close_reads d r))))) (simp append_assoc)
  statement_reads d (While at e b) r = written (while_reads d at e (block_reads (d + 2) b (close_reads d r))) (simp append_assoc)
  statement_reads d (Return at None) {rest} r = on_line d _ rest (fixed (Leading lead.Return at) mark.Return refl refl (fixed (Plain sign.Semicolon) mark.Semicolon refl refl (feed r)))
  statement_reads d (Return at (Some e)) {rest} r = on_line d _ rest (written (fixed (Leading lead.Return at) mark.Return refl refl (space (ended_reads e r))) (simp append_assoc))

  pub block_reads : (d : ℕ) (b : Block) {rest : List ℕ} {ts : List Lexeme} → Reads rest ts → Reads (phrases_text d (phrases b) ++ rest) (spelled_block b ts)
  block_reads d Empty r = r
  block_reads d (Then s b) r = written (statement_reads d s (block_reads d b r)) (simp append_assoc)

-- The canonical text of a program reads as that program.
use Rattle.std.specs.Prelude.{◌≡◌, ℕ, List, [], ◌∷◌, Option, Some, None}
use Rattle.std.proofs.Common.{refl, sym, ap, ◌∙◌, subst}
use Rattle.pst_lex.specs.declared.types.Token.{Token}
use Rattle.pst_lex.specs.declared.types.TokenKind.{TokenKind}
use Rattle.pst_lex.specs.declared.types.TokenKind.TheVariants as kind
use Rattle.pst_lex.specs.declared.words.Mark.{Mark}
use Rattle.pst_lex.specs.Words.{Word, Fixed}
use Rattle.pst_lex.specs.Words as lex
use Rattle.pst_lex.specs.Lexing.{AreWords, LexedAs, Lexes, Faults}
use Rattle.pst_lex.specs.Lexing as lexing
use Rattle.pst_lex.proofs.Unique.{its_words, no_fault, are_words}
use Rattle.pst_grammar.specs.declared.declaration.Tree.{Tree}
use Rattle.pst_grammar.specs.View.{text_of}
use Rattle.pst_grammar.specs.Syntax as tree
use Rattle.pst_grammar.specs.Lexemes.{lexeme_in, lexemes}
use Rattle.pst_grammar.specs.Spelling.{Program, program}
use Rattle.pst_grammar.specs.Grammar.{Spells}
use Rattle.pst_grammar.proofs.Faults.{unique}
use Rattle.pst_notation.specs.Canonical.{canonical}
use Rattle.pst_notation.specs.Lines.{lineless}
use Rattle.pst_notation.specs.Tokens.{word_of, words_of, program_words}
use Rattle.pst_notation.specs.Laws.{IsWritten, HasItsTokens, HasNoFault, ReadsBack, ReadsAsNoOther, DropsLines, KeepsTokens, KeepsTree}
use Rattle.pst_notation.proofs.Fronts.{marked_word}
use Rattle.pst_notation.proofs.DeclarationReads.{program_lexed}
use Rattle.pst_notation.proofs.DeclarationLines.{program_relined}
use Rattle.pst_notation.proofs.Limits.{program_same, shallow_same}
use Rattle.pst_notation.proofs.SameText.{canonical_lineless}

kind_word : (line : ℕ) (k : TokenKind) → word_of (lexeme_in line k) ≡ lex.word_of k
kind_word line (kind.Name x) = refl
kind_word line (kind.Number v) = refl
kind_word line (kind.Mark m) = marked_word line m

-- the parser sees the words of the tokens
seen_words : (ts : List Token) → words_of (lexemes ts) ≡ lexing.words_of ts
seen_words [] = refl
seen_words (t ∷ ts) = rw (kind_word t.line t.kind, seen_words ts) refl

pub has_its_tokens : (whole : tree.ProgramText) → HasItsTokens whole
has_its_tokens whole p e written = subst (λ (l : tree.ProgramText). LexedAs (canonical l) (program_words p)) e (program_lexed p written)

pub has_no_fault : (whole : tree.ProgramText) → HasNoFault whole
has_no_fault whole p f e written faults = no_fault (canonical whole) (program_words p) f (has_its_tokens whole p e written) faults

pub reads_back : (whole : tree.ProgramText) → ReadsBack whole
reads_back whole h d p e written shallow ts end lexes =
    let same : program_words p ≡ lexing.words_of ts = (its_words (canonical whole) ts end lexes).1 (program_words p) (has_its_tokens whole p e written) in
    let r = program_relined p (lexemes ts) (seen_words ts ∙ sym same) in
    let apart : lineless (program r.whole) ≡ lineless whole = r.same ∙ ap lineless e in
    (r.whole, shallow_same h d whole (program r.whole) apart shallow, r.spells, apart)

pub reads_as_no_other : (whole : tree.ProgramText) → ReadsAsNoOther whole
reads_as_no_other whole p e written formed ts end lexes q formed_q spells =
    let same : program_words p ≡ lexing.words_of ts = (its_words (canonical whole) ts end lexes).1 (program_words p) (has_its_tokens whole p e written) in
    let r = program_relined p (lexemes ts) (seen_words ts ∙ sym same) in
    let apart : lineless (program r.whole) ≡ lineless whole = r.same ∙ ap lineless e in
    let one : program q ≡ program r.whole = unique (lexemes ts) q r.whole formed_q (program_same whole (program r.whole) apart formed) spells r.spells in
    ap lineless one ∙ apart

pub drops_lines : (whole : tree.ProgramText) → DropsLines whole
drops_lines whole other e = sym (canonical_lineless other) ∙ ap canonical e ∙ canonical_lineless whole

spelled_words : (tokens : List Token) (p : Program) → Spells (lexemes tokens) p → program_words p ≡ lexing.words_of tokens
spelled_words tokens p spells = ap words_of spells ∙ seen_words tokens

-- the tree that a text was read as has names that are names, and numbers that are numbers
written : (text : List ℕ) (tokens : List Token) (end : ℕ) (p : Program) → Lexes text tokens end → Spells (lexemes tokens) p → IsWritten p
written text tokens end p lexes spells =
    subst AreWords (sym (spelled_words tokens p spells)) (are_words text (lexing.words_of tokens) (its_words text tokens end lexes).0)

pub keeps_tokens : (text : List ℕ) (tree : Tree) → KeepsTokens text tree
keeps_tokens text tree h d tokens (lexes, (p, e, shallow, spells)) =
    subst (λ (ws : List Word). LexedAs (canonical (text_of tree)) ws) (spelled_words tokens.list p spells)
    (has_its_tokens (text_of tree) p e (written text tokens.list tokens.end p lexes spells))

pub keeps_tree : (text : List ℕ) (tree : Tree) → KeepsTree text tree
keeps_tree text tree h d tokens (lexes, (p, e, shallow, spells)) ts end is =
    let is_written = written text tokens.list tokens.end p lexes spells in
    (reads_back (text_of tree) h d p e is_written shallow ts end is, reads_as_no_other (text_of tree) p e is_written shallow.formed ts end is)

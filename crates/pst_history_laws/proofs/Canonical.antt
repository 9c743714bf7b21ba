-- The canonical text of an accepted program is accepted, as the same program but for lines.
use Rattle.std.proofs.Common.{◌≡◌, ℕ, ◌+◌, List, [], ◌∷◌, map, length, refl, sym, ap, ◌∙◌, subst, Result, Ok}
use Rattle.pst_lex.specs.declared.types.Token.{Token}
use Rattle.pst_lex.specs.declared.types.TokenKind.{TokenKind}
use Rattle.pst_lex.specs.declared.types.TokenKind.TheVariants as kind
use Rattle.pst_lex.specs.Bytes.{feeds}
use Rattle.pst_lex.specs.Words.{Word, Name, Number, Fixed, word_of}
use Rattle.pst_lex.specs.Lexing.{IsToken, LexedAs, LexedTo, EndsAt, AreWords}
use Rattle.pst_lex.specs.Lexing as lexing
use Rattle.pst_lex.proofs.Unique.{its_words, are_words}
use Rattle.pst_grammar.specs.Syntax.{Item}
use Rattle.pst_grammar.specs.Spelling.{program}
use Rattle.pst_grammar.specs.Lexemes.{lexeme_in, lexemes}
use Rattle.pst_typing.specs.declared.fault.TypeFault.{TypeFault}
use Rattle.pst_typing.specs.Declarations.{NamedProgram, checked}
use Rattle.pst_notation.specs.Canonical.{canonical}
use Rattle.pst_notation.specs.Lines.{item_lineless}
use Rattle.pst_notation.specs.Tokens.{word_of as word_in, words_of, program_words}
use Rattle.pst_notation.proofs.Fronts.{marked_word}
use Rattle.pst_notation.proofs.ReadBack.{has_its_tokens, reads_back, drops_lines}
use Rattle.pst_history_laws.specs.Alike.{ProgramAlike, Agree, Oks, Errs}
use Rattle.pst_history_laws.specs.LawsLines.{CanonicalLaw}
use Rattle.pst_history_laws.proofs.Typing.{typing_law}

-- ---- each token is a kind of token

abbrev Kind : Word → Type 0
Kind w = (k : TokenKind) × (word_of k ≡ w)

kind_for : (w : Word) → Kind w
kind_for (Name x) = (kind.Name x, refl)
kind_for (Number v) = (kind.Number v, refl)
kind_for (Fixed m) = (kind.Mark m, refl)

-- a text with tokens, places and lines apart, has tokens
abbrev Placed : List ℕ → ℕ → ℕ → Type 0
Placed text at line = (ts : List Token) × (end : ℕ) × LexedTo (EndsAt end) text at line ts

placed : (ws : List Word) (text : List ℕ) (at line : ℕ) → LexedAs text ws → Placed text at line
placed [] text at line (inside, is) = ([], line + feeds text, (inside, is, refl))
placed (w ∷ ws) text at line (blank, bytes, rest, is, white, token, more) =
    let k = kind_for w in
    let t : Token = record { kind = k.0; span = record { from = at + length blank; to = at + length blank + length bytes }; line = line + feeds blank } in
    let (ts, end, on) = placed ws rest (at + length blank + length bytes) (line + feeds blank) more in
    (t ∷ ts, end, (blank, bytes, rest, is, white, subst (λ x. IsToken x bytes rest) (sym k.1) token, refl, refl, refl, on))

-- ---- the parser sees the words of the tokens

kind_word : (line : ℕ) (k : TokenKind) → word_in (lexeme_in line k) ≡ word_of k
kind_word line (kind.Name x) = refl
kind_word line (kind.Number v) = refl
kind_word line (kind.Mark m) = marked_word line m

seen_words : (ts : List Token) → words_of (lexemes ts) ≡ lexing.words_of ts
seen_words [] = refl
seen_words (t ∷ ts) = rw (kind_word t.line t.kind, seen_words ts) refl

-- ---- the program that is read again

turned : {p q : NamedProgram} → ProgramAlike p q → ProgramAlike q p
turned a = record { shape = sym a.shape; names = sym a.names; procedures = sym a.procedures }

joined : {p q r : NamedProgram} → ProgramAlike p q → ProgramAlike q r → ProgramAlike p r
joined a b = record { shape = a.shape ∙ b.shape; names = a.names ∙ b.names; procedures = a.procedures ∙ b.procedures }

abbrev Checks : List Item → NamedProgram → Type 0
Checks items named = (program : NamedProgram) × (checked items ≡ Ok program) × ProgramAlike named program

without : (x y : Result NamedProgram TypeFault) (named : NamedProgram) → Agree ProgramAlike x y → x ≡ Ok named → (q : NamedProgram) × (y ≡ Ok q) × ProgramAlike named q
without _ _ named (Oks a b r) e = (b, refl, subst (λ p. ProgramAlike p b) (cc) r)
without _ _ named (Errs f g) e = absurd (cc)

with_lines : (x y : Result NamedProgram TypeFault) (named : NamedProgram) → Agree ProgramAlike x y → y ≡ Ok named → (q : NamedProgram) × (x ≡ Ok q) × ProgramAlike named q
with_lines _ _ named (Oks a b r) e = (a, refl, subst (λ p. ProgramAlike p a) (cc) (turned r))
with_lines _ _ named (Errs f g) e = absurd (cc)

checks : (items others : List Item) (named : NamedProgram) → map item_lineless others ≡ map item_lineless items → checked items ≡ Ok named → Checks others named
checks items others named same e =
    let (bare, is, alike) = without (checked items) (checked (map item_lineless items)) named (typing_law items) e in
    let (again, was, other) = with_lines (checked others) (checked (map item_lineless others)) bare (typing_law others) (ap checked same ∙ is) in
    (again, was, joined alike other)

pub canonical_law : CanonicalLaw
canonical_law text syntax named ((tokens, lexes, (p, e, shallow, spells)), typed) =
    let written : AreWords (program_words p) = subst AreWords (sym (ap words_of spells ∙ seen_words tokens.list))
    (are_words text (lexing.words_of tokens.list) (its_words text tokens.list tokens.end lexes).0) in
    let (ts, end, again) = placed (program_words p) (canonical syntax) 0 1 (has_its_tokens syntax p e written) in
    let (q, flat, spells', apart) = reads_back syntax 63 15 p e written shallow ts end again in
    let (named', typed', alike) = checks syntax.items (program q).items named (ap (λ x. x.items) apart) typed in
    record {
      text = program q;
      program = named';
      judged = ((record { list = ts; end = end }, again, (q, refl, flat, spells')), typed');
      alike = alike;
      same_text = drops_lines syntax (program q) apart;
    }

-- The names that a text declares are names.
use Rattle.std.specs.Prelude.{ℕ, List, [], ◌∷◌, map}
use Rattle.std.proofs.Common.{sym, subst}
use Rattle.std.specs.List.{AllByRecursion}
use Rattle.std.proofs.lemmas.List.Elements.{All-from_recursion}
use Rattle.pst_lex.specs.declared.types.Token.{Token}
use Rattle.pst_lex.specs.declared.types.TokenKind.{TokenKind}
use Rattle.pst_lex.specs.declared.types.TokenKind.TheVariants as kind
use Rattle.pst_lex.specs.declared.words.Mark.{Mark}
use Rattle.pst_lex.specs.declared.words.Mark.TheVariants as mark
use Rattle.pst_lex.specs.Words.{word_of}
use Rattle.pst_lex.specs.Lexing.{IsName, IsWord, LexedTo}
use Rattle.pst_grammar.specs.Syntax as tree
use Rattle.pst_grammar.specs.Lexemes.{Lexeme, Name, Number, Operator, Plain, Leading, marked, lexeme_in, lexemes}
use Rattle.pst_grammar.specs.Spelling.{Item, Record, Root, Procedure, item, spelled_item, each}
use Rattle.pst_cli_questions.specs.Accepted.{declared_name}
use Rattle.pst_cli_questions.specs.Laws.{DeclaredAreNames}
use Rattle.pst_cli_questions.proofs.Behind.{behind_block, behind_type, behind_result, behind_fields, behind_parameters, behind_locals, behind_opening}

-- ---- tokens

-- the token is a name only if its bytes are one
abbrev IsNamed : Lexeme → Type 0
IsNamed (Name x) = IsName x.name
IsNamed (Number v) = Unit {0}
IsNamed (Operator o) = Unit {0}
IsNamed (Plain s) = Unit {0}
IsNamed (Leading l line) = Unit {0}

abbrev AreNamed : List Lexeme → Type 0
AreNamed ts = AllByRecursion IsNamed ts

mark_named : (line : ℕ) (m : Mark) → IsNamed (marked line m)
mark_named line mark.Record = tt
mark_named line m = tt

lexeme_named : (line : ℕ) (k : TokenKind) → IsWord (word_of k) → IsNamed (lexeme_in line k)
lexeme_named line (kind.Name x) word = word
lexeme_named line (kind.Number v) word = tt
lexeme_named line (kind.Mark m) word = mark_named line m

lexemes_named : (End : List ℕ → ℕ → ℕ → Type 0) (text : List ℕ) (at line : ℕ) (ts : List Token) → LexedTo End text at line ts → AreNamed (lexemes ts)
lexemes_named End text at line [] lexed = tt
lexemes_named End text at line (t ∷ ts) (blank, w, rest, is, gp, token, from, to, on, more) = (lexeme_named t.line t.kind token.1, lexemes_named End rest _ _ ts more)

-- ---- declarations

item_named : (i : Item) (rest : List Lexeme) → AreNamed (spelled_item i rest) → IsName (declared_name (item i)) × AreNamed rest
item_named (Record line x limit fields) rest all = (all.1.0, (behind_fields IsNamed fields _ all.1.1.1.1).1)
item_named (Root line x kind) rest all = (all.1.0, (behind_type IsNamed kind _ all.1.1.1).1)
item_named (Procedure line query x parameters result locals body) rest all =
    let inside = (behind_result IsNamed result _ (behind_parameters IsNamed parameters _ all.1.1.1)).1 in
    (all.1.0, (behind_block IsNamed body _ (behind_locals IsNamed locals _ inside)).1)

items_named : (p : List Item) (rest : List Lexeme) → AreNamed (each spelled_item p rest) → AllByRecursion (λ i. IsName (declared_name i)) (map item p)
items_named [] rest all = tt
items_named (i ∷ p) rest all =
    let one = item_named i (each spelled_item p rest) all in
    (one.0, items_named p rest one.1)

pub declared_names : DeclaredAreNames
declared_names text whole (tokens, lexed, (p, is, shallow, spells)) =
    let named = lexemes_named _ text 0 1 tokens.list lexed in
    let all = items_named p.items [] (behind_opening IsNamed p.opening _ (subst AreNamed (sym spells) named)) in
    All-from_recursion (λ i. IsName (declared_name i)) whole.items (subst (λ (t : tree.ProgramText). AllByRecursion (λ i. IsName (declared_name i)) t.items) is all)

-- The law of reading whole programs, of either language.
use Rattle.std.specs.Prelude.{◌≡◌, ℕ, ℤ, pos, negsuc, Bool, true, false, bytes_eq, List, [], ◌∷◌, map, length}
use Rattle.std.proofs.Common.{refl, sym, ap, subst, arith}
use Rattle.std.proofs.lemmas.Slice.Eq.{bytes_eq-Decides}
use Rattle.pst_grammar.specs.Syntax as tree
use Rattle.pst_grammar.specs.declared.lexeme.Label.{Label}
use Rattle.pst_grammar.specs.Lexemes as token
use Rattle.pst_grammar.specs.Lexemes.{Lexeme}
use Rattle.pst_grammar.specs.Forms.{Each, IsFormedItem}
use Rattle.pst_grammar.specs.Spelling.{each, item as plain_item, spelled_item, Opening, First, Second, language, language_word, spelled_opening, Program, program, spelled_program}
use Rattle.pst_grammar.specs.Reader.{Read, Got, Bad, Unexpected, and_then, many}
use Rattle.pst_grammar.specs.Declarations.{item, any, declarations, is_two, two, second, reading_program}
use Rattle.pst_grammar.proofs.ReaderLaws.{Construct, Begins, Lawful, Good, cond_law, step_law, got_good, wrong_law, end_law, bind_good, rerun_law, rerun_end}
use Rattle.pst_grammar.proofs.Many.{list}
use Rattle.pst_grammar.proofs.ReadLaw.{is_second}
use Rattle.pst_grammar.proofs.DeclarationLaw.{items, many_items_good, items_rest}

abbrev pub programs : (h d : ℕ) → Construct tree.ProgramText
programs h d = record {
  Lined = Program;
  plain = program;
  spell = spelled_program;
  Fit = λ p. Each (λ i. IsFormedItem (language p.opening) (plain_item i)) p.items;
  In = λ p. Each (items (language p.opening) h d).In p.items;
}

declarations_good : (h d : ℕ) (o : Opening) → Good (programs h d) (λ x. spelled_opening o x) (declarations (language o) h d)
declarations_good h d o =
    bind_good (list (items (language o) h d)) (programs h d) (λ x. spelled_opening o x) (many any (item (language o) h d)) (λ is. Got (record { language = language o; items = is }))
    (many_items_good (language o) h d)
    (λ l q. got_good (programs h d) (λ x. spelled_opening o (each spelled_item l x)) (record { opening = o; items = l })
    (record { language = language o; items = map plain_item l }) refl q (λ x. refl))
    (λ l q. (record { opening = o; items = l }, q, [], λ x. refl))

first_good : (h d : ℕ) → Good (programs h d) (λ x. x) (declarations 1 h d)
first_good h d = declarations_good h d First

two_is : (v : ℤ) → is_two v ≡ true → v ≡ pos 2
two_is (pos n) e = ap pos (is_second n e)
two_is (negsuc n) e = cc

-- the word on a line
abbrev word : ℕ → Lexeme
word line = token.Name (record { line = line; name = language_word })

second_good : (h d line : ℕ) → Good (programs h d) (λ x. word line ∷ x) (second h d)
second_good h d line = record { close = some; law = go }
  where
    some : Begins spelled_program (programs h d).In (λ x. word line ∷ x) []
    some = (record { opening = Second line; items = [] }, tt, token.Number (pos 2) ∷ [], λ x. refl)

    go : (ts : List Lexeme) → Lawful (programs h d) (λ x. word line ∷ x) (second h d) ts (second h d ts)
    go [] = end_law (programs h d) (λ x. word line ∷ x) (second h d) some refl
    go (token.Number v ∷ ts) = pick (is_two v) refl
      where
        pick : (b : Bool) → is_two v ≡ b → Lawful (programs h d) (λ x. word line ∷ x) (second h d) (token.Number v ∷ ts) (second h d (token.Number v ∷ ts))
        pick true e =
            let here : v ≡ pos 2 = two_is v e in
            let step : (x : List Lexeme) → second h d (token.Number v ∷ x) ≡ declarations 2 h d x = λ x. rw e refl in
            subst (λ r. Lawful (programs h d) (λ x. word line ∷ x) (second h d) (token.Number v ∷ ts) r) (sym (step ts))
            (step_law (programs h d) (λ x. word line ∷ x) (second h d) (declarations 2 h d) (token.Number v) ts (declarations 2 h d ts) step
            (subst (λ k. Lawful (programs h d) (λ x. word line ∷ token.Number k ∷ x) (declarations 2 h d) ts (declarations 2 h d ts)) (sym here) ((declarations_good h d (Second line)).law ts)))
        pick false e =
            let bad : (x : List Lexeme) → second h d (token.Number v ∷ x) ≡ Bad Unexpected (token.Number v ∷ x) = λ x. rw e refl in
            subst (λ r. Lawful (programs h d) (λ x. word line ∷ x) (second h d) (token.Number v ∷ ts) r) (sym (bad ts))
            (wrong_law (programs h d) (λ x. word line ∷ x) (second h d) (token.Number v) ts some bad)
    go (t ∷ ts) = wrong_law (programs h d) (λ x. word line ∷ x) (second h d) t ts some (λ v. refl)

word_is : (x : Label) → bytes_eq x.name language_word ≡ true → word x.line ≡ token.Name x
word_is x e = let same : language_word ≡ x.name = sym ((bytes_eq-Decides x.name language_word).0 e) in ap (λ n. token.Name (record { line = x.line; name = n })) same

program_law : (h d : ℕ) (ts : List Lexeme) → Lawful (programs h d) (λ x. x) (reading_program h d) ts (reading_program h d ts)
program_law h d [] = rerun_end (programs h d) (λ x. x) (reading_program h d) (declarations 1 h d) (declarations 1 h d []) refl ((first_good h d).law [])
program_law h d (token.Name x ∷ ts) =
    cond_law (λ r. Lawful (programs h d) (λ x. x) (reading_program h d) (token.Name x ∷ ts) r) (bytes_eq x.name language_word) _ _
    (λ q. step_law (programs h d) (λ x. x) (reading_program h d) (second h d) (token.Name x) ts (second h d ts) (λ y. rw q refl)
    (subst (λ k. Lawful (programs h d) (λ y. k ∷ y) (second h d) ts (second h d ts)) (word_is x q) ((second_good h d x.line).law ts)))
    (λ q. rerun_law (programs h d) (λ x. x) (reading_program h d) (declarations 1 h d) (token.Name x) ts (declarations 1 h d (token.Name x ∷ ts))
    (λ y. rw q refl) ((first_good h d).law (token.Name x ∷ ts)))
program_law h d (t ∷ ts) =
    rerun_law (programs h d) (λ x. x) (reading_program h d) (declarations 1 h d) t ts (declarations 1 h d (t ∷ ts)) (λ y. refl) ((first_good h d).law (t ∷ ts))

pub program_good : (h d : ℕ) → Good (programs h d) (λ x. x) (reading_program h d)
program_good h d = record { close = (first_good h d).close; law = λ ts. program_law h d ts }

-- ---- a program is read up to the end

declarations_rest : (j h d : ℕ) (ts rest : List Lexeme) (p : tree.ProgramText) → declarations j h d ts ≡ Got p rest → rest ≡ []
declarations_rest j h d ts rest p e = go (many any (item j h d) ts) refl e
  where
    go : (r : Read (List tree.Item)) → many any (item j h d) ts ≡ r → and_then r (λ is. Got (record { language = j; items = is })) ≡ Got p rest → rest ≡ []
    go (Got l s) is e = let same : s ≡ rest = cc in rw (← same) (items_rest j h d (length ts) ts s l (omega arith) is)
    go (Bad k s) is e = cc

second_rest : (h d : ℕ) (ts rest : List Lexeme) (p : tree.ProgramText) → second h d ts ≡ Got p rest → rest ≡ []
second_rest h d ts rest p e = go (two ts) e
  where
    go : (r : Read (Unit {0})) → and_then r (λ _. declarations 2 h d) ≡ Got p rest → rest ≡ []
    go (Got a s) e = declarations_rest 2 h d s rest p e
    go (Bad k s) e = cc

pub program_rest : (h d : ℕ) (ts rest : List Lexeme) (p : tree.ProgramText) → reading_program h d ts ≡ Got p rest → rest ≡ []
program_rest h d [] rest p e = declarations_rest 1 h d [] rest p e
program_rest h d (token.Name x ∷ ts) rest p e =
    cond_law (λ r. r ≡ Got p rest → rest ≡ []) (bytes_eq x.name language_word) (second h d ts) (declarations 1 h d (token.Name x ∷ ts))
    (λ q. second_rest h d ts rest p) (λ q. declarations_rest 1 h d (token.Name x ∷ ts) rest p) e
program_rest h d (t ∷ ts) rest p e = declarations_rest 1 h d (t ∷ ts) rest p e

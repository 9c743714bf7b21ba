-- What reading a program answers, in the grammar's words.
use Rattle.std.specs.Prelude.{◌≡◌, ℕ, ◌≤◌, ◌+◌, max, List, [], ◌∷◌, ◌++◌, map}
use Rattle.std.proofs.Common.{inl, inr, refl, sym, ap, ◌∙◌, subst, arith, append-nil, append_assoc}
use Rattle.pst_grammar.specs.Syntax as tree
use Rattle.pst_grammar.specs.Lexemes.{Lexeme}
use Rattle.pst_grammar.specs.Depth.{greatest, item_height, item_nesting}
use Rattle.pst_grammar.specs.Forms.{Each, IsFormedItem, IsLanguage, IsProgram, IsShallow}
use Rattle.pst_grammar.specs.Spelling.{Item, item as plain_item, Opening, First, Second, language, Program, program, spelled_program}
use Rattle.pst_grammar.specs.Grammar as grammar
use Rattle.pst_grammar.specs.Grammar.{Spells, IsUnexpected, IsTooDeep}
use Rattle.pst_grammar.specs.Reader.{Read, Got, Bad, Unexpected, TooDeep}
use Rattle.pst_grammar.specs.Declarations.{reading_program}
use Rattle.pst_grammar.proofs.ReaderLaws.{Begins, Lawful}
use Rattle.pst_grammar.proofs.DeclarationLaw.{items}
use Rattle.pst_grammar.proofs.ProgramLaw.{programs, program_good, program_rest}
use Rattle.pst_grammar.proofs.DeclarationAgain.{program_again}
use Rattle.pst_grammar.proofs.Wider.{program_under}

-- programs, part by part and whole
is_language : (o : Opening) → IsLanguage (language o)
is_language First = inl refl
is_language (Second line) = inr refl

each_formed : (j : ℕ) (l : List Item) → Each (λ i. IsFormedItem j (plain_item i)) l → Each (IsFormedItem j) (map plain_item l)
each_formed j [] q = tt
each_formed j (i ∷ l) (q, q') = (q, each_formed j l q')

parts_of : (j h d : ℕ) (l : List Item) → Each (IsFormedItem j) (map plain_item l) → greatest item_height (map plain_item l) ≤ h → greatest item_nesting (map plain_item l) ≤ d → Each (items j h d).In l
parts_of j h d [] q low few = tt
parts_of j h d (i ∷ l) (q, q') low few = ((q, omega arith, omega arith), parts_of j h d l q' (omega arith) (omega arith))

limits_of : (j h d : ℕ) (l : List Item) → Each (items j h d).In l → Each (IsFormedItem j) (map plain_item l)
    × (greatest item_height (map plain_item l) ≤ h) × (greatest item_nesting (map plain_item l) ≤ d)
limits_of j h d [] q = (tt, omega arith, omega arith)
limits_of j h d (i ∷ l) ((q, low, few), q') = let (formed, low', few') = limits_of j h d l q' in ((q, formed), omega arith, omega arith)

formed : (p : Program) → Each (λ i. IsFormedItem (language p.opening) (plain_item i)) p.items → IsProgram (program p)
formed p q = (is_language p.opening, each_formed (language p.opening) p.items q)

parts : (h d : ℕ) (p : Program) → IsProgram (program p) → greatest item_height (program p).items ≤ h → greatest item_nesting (program p).items ≤ d → Each (items (language p.opening) h d).In p.items
parts h d p (q, q') low few = parts_of (language p.opening) h d p.items q' low few

shallow : (h d : ℕ) (p : Program) → Each (items (language p.opening) h d).In p.items → IsShallow h d (program p)
shallow h d p q =
    let (each, low, few) = limits_of (language p.opening) h d p.items q in
    record { formed = (is_language p.opening, each); height = low; nesting = few }

again_program : (h d : ℕ) (p : Program) → IsShallow h d (program p) → reading_program h d (spelled_program p []) ≡ Got (program p) []
again_program h d p s = program_again h d p (parts h d p s.formed s.height s.nesting)

clash : (h d : ℕ) (p : Program) (s : List Lexeme) → IsProgram (program p) → reading_program h d (spelled_program p []) ≡ Bad Unexpected s → ⊥
clash h d p s q e =
    let ts = spelled_program p [] in
    let k = h + greatest item_height (program p).items in
    let c = d + greatest item_nesting (program p).items in
    let w = program_under h k d c ts (omega arith) (omega arith) in
    let w' = rw e at w in
    let a : reading_program k c ts ≡ Got (program p) [] = program_again k c p (parts k c p q (omega arith) (omega arith)) in
    cc

clash_deep : (h d : ℕ) (p : Program) (s : List Lexeme) → IsShallow h d (program p) → reading_program h d (spelled_program p []) ≡ Bad TooDeep s → ⊥
clash_deep h d p s q e = let a = again_program h d p q in cc

begins_shallow : (h d : ℕ) (u : List Lexeme) → Begins spelled_program (programs h d).In (λ x. x) u → grammar.Begins (IsShallow h d) u
begins_shallow h d u (p, q, c, sp) = (p, c ++ [], shallow h d p q, sp [])

begins_program : (h d : ℕ) (u : List Lexeme) → Begins spelled_program (programs h d).Fit (λ x. x) u → grammar.Begins IsProgram u
begins_program h d u (p, q, c, sp) = (p, c ++ [], formed p q, sp [])

unexpected_is : (h d : ℕ) (ts rest : List Lexeme) (r : Read tree.ProgramText) → r ≡ Bad Unexpected rest → Lawful (programs h d) (λ x. x) (reading_program h d) ts r →
    (u : List Lexeme) × (ts ≡ u ++ rest) × IsUnexpected h d u rest
unexpected_is h d ts rest (Got p s) e law = cc
unexpected_is h d ts rest (Bad TooDeep s) e law = cc
unexpected_is h d ts [] (Bad Unexpected []) e (u, at, b, loc) =
    (u, at, (begins_shallow h d u b, λ p q sp. clash h d p [] q (ap (reading_program h d) (sp ∙ sym (append-nil u)) ∙ loc [] refl)))
unexpected_is h d ts (t ∷ v) (Bad Unexpected []) e law = cc
unexpected_is h d ts [] (Bad Unexpected (k ∷ w)) e law = cc
unexpected_is h d ts (t ∷ v) (Bad Unexpected (k ∷ w)) e (u, at, b, loc) =
    let same : k ∷ w ≡ t ∷ v = cc in
    let head : k ≡ t = cc in (
      u,
      rw same at at,
      (
        begins_shallow h d u b,
        λ (p, x, q, sp). clash h d p (k ∷ x) q (ap (reading_program h d) (sp ∙ append_assoc u (t ∷ []) x ∙ ap (λ z. u ++ (z ∷ x)) (sym head)) ∙ loc (k ∷ x) (x, refl)),
      ),
    )

deep_is : (h d : ℕ) (ts rest : List Lexeme) (r : Read tree.ProgramText) → r ≡ Bad TooDeep rest → Lawful (programs h d) (λ x. x) (reading_program h d) ts r →
    (u : List Lexeme) × (ts ≡ u ++ rest) × IsTooDeep h d u rest
deep_is h d ts rest (Got p s) e law = cc
deep_is h d ts rest (Bad Unexpected s) e law = cc
deep_is h d ts [] (Bad TooDeep s) e (u, t, v, at, is, b, b', loc) = cc
deep_is h d ts (k ∷ w) (Bad TooDeep s) e (u, t, v, at, is, b, b', loc) =
    let same : t ∷ v ≡ k ∷ w = cc in
    let head : t ≡ k = cc in (
      u,
      rw same at at,
      (
        begins_shallow h d u b,
        rw head at (begins_program h d (u ++ (t ∷ [])) b'),
        λ (p, x, q, sp). clash_deep h d p (t ∷ x) q (ap (reading_program h d) (sp ∙ append_assoc u (k ∷ []) x ∙ ap (λ z. u ++ (z ∷ x)) (sym head)) ∙ loc (t ∷ x) (x, refl)),
      ),
    )

got_is : (h d : ℕ) (run : List Lexeme → Read tree.ProgramText) (ts rest : List Lexeme) (p : tree.ProgramText) (r : Read tree.ProgramText) → r ≡ Got p rest → rest ≡ [] →
    Lawful (programs h d) (λ x. x) run ts r → (l : Program) × (program l ≡ p) × IsShallow h d p × Spells ts l
got_is h d run ts rest p (Bad Unexpected s) e none law = cc
got_is h d run ts rest p (Bad TooDeep s) e none law = cc
got_is h d run ts rest p (Got a s) e none (l, pl, inn, u, at, sp, loc) =
    let same : a ≡ p = cc in
    let nil : s ≡ [] = cc in
    let kept : program l ≡ p = pl ∙ same in
    (l, kept, subst (IsShallow h d) kept (shallow h d l inn), sp [] ∙ sym (rw nil at at))

-- what is read is a program within the limits, with these tokens
pub found : (h d : ℕ) (ts rest : List Lexeme) (p : tree.ProgramText) → reading_program h d ts ≡ Got p rest → (l : Program) × (program l ≡ p) × IsShallow h d p × Spells ts l
found h d ts rest p e = got_is h d (reading_program h d) ts rest p (reading_program h d ts) e (program_rest h d ts rest p e) ((program_good h d).law ts)

-- each program within the limits is read
pub only : (h d : ℕ) (ts : List Lexeme) (p : Program) → IsShallow h d (program p) → Spells ts p → reading_program h d ts ≡ Got (program p) []
only h d ts p s sp = rw (← sp) (again_program h d p s)

pub unexpected : (h d : ℕ) (ts rest : List Lexeme) → reading_program h d ts ≡ Bad Unexpected rest → (before : List Lexeme) × (ts ≡ before ++ rest) × IsUnexpected h d before rest
unexpected h d ts rest e = unexpected_is h d ts rest (reading_program h d ts) e ((program_good h d).law ts)

pub deep : (h d : ℕ) (ts rest : List Lexeme) → reading_program h d ts ≡ Bad TooDeep rest → (before : List Lexeme) × (ts ≡ before ++ rest) × IsTooDeep h d before rest
deep h d ts rest e = deep_is h d ts rest (reading_program h d ts) e ((program_good h d).law ts)

-- tokens are spelled by at most one program
pub unique : (ts : List Lexeme) (p q : Program) → IsProgram (program p) → IsProgram (program q) → Spells ts p → Spells ts q → program p ≡ program q
unique ts p q formed_p formed_q sp sq =
    let h = max (greatest item_height (program p).items) (greatest item_height (program q).items) in
    let d = max (greatest item_nesting (program p).items) (greatest item_nesting (program q).items) in
    let a = only h d ts p (record { formed = formed_p; height = omega arith; nesting = omega arith }) sp in
    let b = only h d ts q (record { formed = formed_q; height = omega arith; nesting = omega arith }) sq in
    cc

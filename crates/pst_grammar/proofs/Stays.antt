-- What is read of a declaration from some tokens stays so, whatever follows them.
use Rattle.std.specs.Prelude.{◌≡◌, ℕ, List, [], ◌∷◌, ◌++◌}
use Rattle.std.proofs.Common.{refl, sym, ap, ◌∙◌, append_assoc}
use Rattle.pst_grammar.specs.Syntax as tree
use Rattle.pst_grammar.specs.Lexemes.{Lexeme}
use Rattle.pst_grammar.specs.Reader.{Read, Got, Bad, Fault, Unexpected, TooDeep}
use Rattle.pst_grammar.specs.Declarations.{item}
use Rattle.pst_grammar.specs.Laws.{IsBehind}
use Rattle.pst_grammar.proofs.ReaderLaws.{Lawful}
use Rattle.pst_grammar.proofs.DeclarationLaw.{items, item_law}
use Rattle.pst_grammar.proofs.DeclarationAgain.{item_again}

read_on : (l h d : ℕ) (ts rest more : List Lexeme) (a : tree.Item) (r : Read tree.Item) → r ≡ Got a rest
    → Lawful (items l h d) (λ x. x) (item l h d) ts r → item l h d (ts ++ more) ≡ Got a (rest ++ more)
read_on l h d ts rest more a (Bad Unexpected s) e law = cc
read_on l h d ts rest more a (Bad TooDeep s) e law = cc
read_on l h d ts rest more a (Got b s) e (i, plain, fits, u, at, spell, again) =
    let same : b ≡ a = cc in
    let behind : s ≡ rest = cc in
    let whole : ts ++ more ≡ u ++ (rest ++ more) = ap (λ x. x ++ more) (at ∙ ap (λ x. u ++ x) behind) ∙ append_assoc u rest more in
    ap (item l h d) (whole ∙ sym (spell (rest ++ more))) ∙ item_again l h d i (rest ++ more) fits ∙ ap (λ x. Got x (rest ++ more)) (plain ∙ same)

pub read_stays : (l h d : ℕ) (ts rest more : List Lexeme) (a : tree.Item) → item l h d ts ≡ Got a rest → item l h d (ts ++ more) ≡ Got a (rest ++ more)
read_stays l h d ts rest more a e = read_on l h d ts rest more a (item l h d ts) e (item_law l h d ts)

fault_on : (l h d : ℕ) (ts rest more : List Lexeme) (t : Lexeme) (fault : Fault) (r : Read tree.Item) → r ≡ Bad fault (t ∷ rest) → Lawful (items l h d) (λ x. x) (item l h d) ts r →
    item l h d (ts ++ more) ≡ Bad fault (t ∷ rest ++ more)
fault_on l h d ts rest more t fault (Got a s) e law = cc
fault_on l h d ts rest more t fault (Bad Unexpected []) e law = cc
fault_on l h d ts rest more t fault (Bad Unexpected (k ∷ w)) e (u, at, begins, again) =
    let kind : Unexpected ≡ fault = cc in
    let there : k ∷ w ≡ t ∷ rest = cc in
    let whole : ts ++ more ≡ u ++ (k ∷ w ++ more) = ap (λ x. x ++ more) at ∙ append_assoc u (k ∷ w) more in
    ap (item l h d) whole ∙ again (k ∷ w ++ more) (w ++ more, refl) ∙ ap (λ x. Bad Unexpected (x ++ more)) there ∙ ap (λ x. Bad x (t ∷ rest ++ more)) kind
fault_on l h d ts rest more t fault (Bad TooDeep s) e (u, k, w, at, is, begins, begins', again) =
    let kind : TooDeep ≡ fault = cc in
    let there : k ∷ w ≡ t ∷ rest = cc in
    let whole : ts ++ more ≡ u ++ (k ∷ w ++ more) = ap (λ x. x ++ more) at ∙ append_assoc u (k ∷ w) more in
    ap (item l h d) whole ∙ again (k ∷ w ++ more) (w ++ more, refl) ∙ ap (λ x. Bad TooDeep (x ++ more)) there ∙ ap (λ x. Bad x (t ∷ rest ++ more)) kind

pub fault_stays : (l h d : ℕ) (ts rest more : List Lexeme) (t : Lexeme) (fault : Fault) → item l h d ts ≡ Bad fault (t ∷ rest) → item l h d (ts ++ more) ≡ Bad fault (t ∷ rest ++ more)
fault_stays l h d ts rest more t fault e = fault_on l h d ts rest more t fault (item l h d ts) e (item_law l h d ts)

not_deep : (l h d : ℕ) (ts : List Lexeme) (r : Read tree.Item) → r ≡ Bad TooDeep [] → Lawful (items l h d) (λ x. x) (item l h d) ts r → ⊥
not_deep l h d ts (Got a s) e law = cc
not_deep l h d ts (Bad Unexpected s) e law = cc
not_deep l h d ts (Bad TooDeep s) e (u, k, w, at, is, begins, begins', again) = cc

pub end_not_deep : (l h d : ℕ) (ts : List Lexeme) → item l h d ts ≡ Bad TooDeep [] → ⊥
end_not_deep l h d ts e = not_deep l h d ts (item l h d ts) e (item_law l h d ts)

behind : (l h d : ℕ) (ts : List Lexeme) (r : Read tree.Item) → Lawful (items l h d) (λ x. x) (item l h d) ts r → IsBehind r ts
behind l h d ts (Got a s) (i, plain, fits, u, at, spell, again) = (u, at)
behind l h d ts (Bad Unexpected s) (u, at, begins, again) = (u, at)
behind l h d ts (Bad TooDeep s) (u, k, w, at, is, begins, begins', again) = (u, at ∙ ap (λ x. u ++ x) (sym is))

pub from_front : (l h d : ℕ) (ts : List Lexeme) → IsBehind (item l h d ts) ts
from_front l h d ts = behind l h d ts (item l h d ts) (item_law l h d ts)

-- Declarations whose bodies stand apart: how the bodies are taken out, and why the first walk does not need them.
use Rattle.std.proofs.Common.{◌≡◌, ℕ, zero, suc, ◌<◌, List, [], ◌∷◌, ◌++◌, map, length, take, get_or, Result, Ok, Err, refl, ap, ◌∙◌, arith}
use Rattle.std.proofs.Math.ListN.{set}
use Rattle.std.proofs.Math.Seq.{take-append_seam}
use Rattle.pst_grammar.specs.Syntax as tree
use Rattle.pst_grammar.specs.View.{item_of, phrases_of}
use Rattle.pst_grammar.specs.declared.statement.Block.{Block}
use Rattle.pst_grammar.specs.declared.declaration.Declaration.{Declaration}
use Rattle.pst_typing.specs.declared.fault.TypeFault.{TypeFault}
use Rattle.pst_typing.specs.Answers.{and_then, through}
use Rattle.pst_typing.specs.Names.{Scope}
use Rattle.pst_typing.specs.Declarations.{noted}
use Rattle.pst_types.specs.Bodies.{with_body, with_bodies}

-- ---- the first walk sees no body

pub noted_apart : (scope : Scope) (body : tree.Phrases) (item : tree.Item) → noted scope (with_body body item) ≡ noted scope item
noted_apart scope body (tree.Record line x limit fields) = refl
noted_apart scope body (tree.Root line x kind) = refl
noted_apart scope body (tree.Procedure p) = refl

then_same : {A B : Type 0} (r : Result A TypeFault) (one other : A → Result B TypeFault) → ((a : A) → one a ≡ other a) → and_then r one ≡ and_then r other
then_same (Ok a) one other same = same a
then_same (Err f) one other same = refl

pub all_noted_apart : (bodies : List tree.Phrases) (items : List tree.Item) (scope : Scope) → through noted scope (with_bodies bodies items) ≡ through noted scope items
all_noted_apart [] items scope = refl
all_noted_apart (body ∷ bodies) [] scope = refl
all_noted_apart (body ∷ bodies) (item ∷ items) scope =
    ap (λ r. and_then r (λ now. through noted now (with_bodies bodies items))) (noted_apart scope body item)
    ∙ then_same (noted scope item) (λ now. through noted now (with_bodies bodies items)) (λ now. through noted now items) (all_noted_apart bodies items)

-- ---- a body that is taken out of a declaration is the next of the bodies

pub taken_out : (bodies : List Block) (body : Block) (heads : List Declaration) (i : ℕ) (head was : Declaration) → length bodies ≡ i
    → i < length heads → with_body (phrases_of body) (item_of head) ≡ item_of (get_or heads i was) →
    with_bodies (map phrases_of (bodies ++ body ∷ [])) (map item_of (set heads i head)) ≡ with_bodies (map phrases_of bodies) (map item_of heads)
taken_out bodies body [] i head was count below is = absurd (omega arith)
taken_out [] body (h ∷ hs) zero head was count below is = ap (λ item. item ∷ map item_of hs) is
taken_out [] body (h ∷ hs) (suc i) head was count below is = absurd (omega (arith, count))
taken_out (b ∷ bs) body (h ∷ hs) zero head was count below is = absurd (omega (arith, count))
taken_out (b ∷ bs) body (h ∷ hs) (suc i) head was count below is =
    ap (λ items. with_body (phrases_of b) (item_of h) ∷ items) (taken_out bs body hs i head was (omega (arith, count)) (omega arith) is)

-- all of a list, with more behind it
pub all_taken : {A : Type 0} (n : ℕ) (xs ys : List A) → n ≡ length xs → take n (xs ++ ys) ≡ xs
all_taken n xs ys count = ap (λ k. take k (xs ++ ys)) count ∙ take-append_seam xs ys

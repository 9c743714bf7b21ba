-- What is left of a list, one turn later.
use Rattle.std.proofs.Common.{◌≡◌, ℕ, suc, ◌+◌, ◌<◌, List, ◌∷◌, length, drop, get_or, map, ap, subst, sym, ◌∙◌, arith, drop-cons}
use Rattle.pst_base.specs.declared.shape.TypeShape.{TypeShape}
use Rattle.pst_program.specs.declared.typed.Typed.{Typed}
use Rattle.pst_program.specs.declared.block.TypedStatement.{TypedStatement}
use Rattle.pst_program.specs.View.{expr_of, action_of, statements_of}
use Rattle.pst_translation.specs.declared.need.Need.{Need}
use Rattle.pst_translation.specs.Needs.{noted, expr_needs, arguments_needs, action_needs, block_needs}
use Rattle.pst_codegen_expressions.specs.Ready.{Has, AreArguments, AreReady}
use Rattle.pst_codegen_expressions.proofs.Noting.{noted_more}

pub split : {A : Type 0} (xs : List A) (i : ℕ) (x : A) → i < length xs → x ≡ get_or xs i x → drop i xs ≡ x ∷ drop (i + 1) xs
split xs i x lt e =
    let next : suc i ≡ i + 1 = omega arith in
    drop-cons xs i x lt ∙ ap (λ y. y ∷ drop (suc i) xs) (sym e) ∙ ap (λ n. x ∷ drop n xs) next

pub arguments_left : (shape : List TypeShape) (has : Has) (list : List Typed) (i : ℕ) (e : Typed) (k : ℕ) → i < length list → e ≡ get_or list i e
    → AreArguments shape has (map expr_of (drop i list)) k → AreArguments shape has (map expr_of (drop (i + 1) list)) (k + 1)
arguments_left shape has list i e k lt is ready = (subst (λ l. AreArguments shape has (map expr_of l) k) (split list i e lt is) ready).2

pub statements_left : (shape : List TypeShape) (has : Has) (list : List TypedStatement) (i : ℕ) (s : TypedStatement) → i < length list → s ≡ get_or list i s
    → AreReady shape has (statements_of (drop i list)) → AreReady shape has (statements_of (drop (i + 1) list))
statements_left shape has list i s lt is ready = (subst (λ l. AreReady shape has (statements_of l)) (split list i s lt is) ready).1

pub arguments_noted : (shape : List TypeShape) (list : List Typed) (i : ℕ) (e : Typed) (k : ℕ) (table table' all : List Need) → i < length list → e ≡ get_or list i e
    → table' ≡ noted table (expr_needs shape (expr_of e) k) → noted table (arguments_needs shape (map expr_of (drop i list)) k) ≡ all
    → noted table' (arguments_needs shape (map expr_of (drop (i + 1) list)) (k + 1)) ≡ all
arguments_noted shape list i e k table table' all lt is is_table h =
    noted_more table table' (expr_needs shape (expr_of e) k) (arguments_needs shape (map expr_of (drop (i + 1) list)) (k + 1)) is_table
    ∙ ap (λ l. noted table (arguments_needs shape (map expr_of l) k)) (sym (split list i e lt is))
    ∙ h

pub statements_noted : (shape : List TypeShape) (list : List TypedStatement) (i : ℕ) (s : TypedStatement) (table table' all : List Need) → i < length list → s ≡ get_or list i s
    → table' ≡ noted table (action_needs shape (action_of s.form)) → noted table (block_needs shape (statements_of (drop i list))) ≡ all
    → noted table' (block_needs shape (statements_of (drop (i + 1) list))) ≡ all
statements_noted shape list i s table table' all lt is is_table h =
    noted_more table table' (action_needs shape (action_of s.form)) (block_needs shape (statements_of (drop (i + 1) list))) is_table
    ∙ ap (λ l. noted table (block_needs shape (statements_of l))) (sym (split list i s lt is))
    ∙ h

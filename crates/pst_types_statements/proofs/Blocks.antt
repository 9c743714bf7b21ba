-- Statements and arguments, one after another.
use Rattle.std.proofs.Common.{◌≡◌, ℕ, ◌+◌, ◌<◌, List, [], ◌∷◌, ◌++◌, length, drop, get_or, Result, Ok, Err, refl, sym, ap, ◌∙◌}
use Rattle.pst_grammar.specs.Syntax as tree
use Rattle.pst_grammar.specs.View as tree_view
use Rattle.pst_grammar.specs.declared.statement.Block as code
use Rattle.pst_grammar.specs.declared.statement.Statement.{Statement}
use Rattle.pst_program.specs.Syntax as program
use Rattle.pst_program.specs.View as typed_view
use Rattle.pst_program.specs.declared.block.TypedBlock as typed
use Rattle.pst_program.specs.declared.block.TypedStatement.{TypedStatement}
use Rattle.pst_program.specs.declared.block.TypedForm.{TypedForm}
use Rattle.std.proofs.Math.Seq.{drop-length}
use Rattle.pst_typing.specs.declared.fault.TypeFault.{TypeFault}
use Rattle.pst_typing.specs.Answers.{and_then}
use Rattle.pst_typing.specs.Names.{Setting}
use Rattle.pst_typing.specs.Statements.{statement, block}
use Rattle.pst_typing.specs.View.{Fails}
use Rattle.pst_typing.proofs.Through.{at_index, fails_then, fails_as}

-- ---- arguments

-- an answer with arguments before it
abbrev pub ahead : List program.Expr → Result (List program.Expr) TypeFault → Result (List program.Expr) TypeFault
ahead es r = and_then r (λ rest. Ok (es ++ rest))

-- ---- statements

abbrev pub before : program.Actions → program.Actions → program.Actions
before program.Empty rest = rest
before (program.Then line action done) rest = program.Then line action (before done rest)

-- an answer with statements before it
abbrev pub behind : program.Actions → Result program.Actions TypeFault → Result program.Actions TypeFault
behind done r = and_then r (λ rest. Ok (before done rest))

-- the statements of a block are those of its list
written_row : {m : _} (row : code.Row_of-Statement m) → tree_view.row_of row ≡ tree_view.statements_of (code.items-the_row-Statement m row)
written_row code.end_of-Statement = refl
written_row (code.more_of-Statement line form rest) = ap (tree.Then line (tree_view.phrase_of form)) (written_row rest)

pub written_list : (b : code.Block) → tree_view.phrases_of b ≡ tree_view.statements_of (code.out-Block b).items.items
written_list (code.Block' shape row) = written_row row ∙ sym (ap tree_view.statements_of (ap (λ o. o.items.items) (code.outs-Block' shape row) ∙ code.items_shown-the_row-Statement-0 shape row))

pub behind_none : (r : Result program.Actions TypeFault) → behind program.Empty r ≡ r
behind_none (Ok a) = refl
behind_none (Err f) = refl

before_more : (done : List TypedStatement) (s : TypedStatement) (rest : program.Actions)
    → before (typed_view.statements_of (done ++ s ∷ [])) rest ≡ before (typed_view.statements_of done) (program.Then s.line (typed_view.action_of s.form) rest)
before_more [] s rest = refl
before_more (t ∷ done) s rest = ap (program.Then t.line (typed_view.action_of t.form)) (before_more done s rest)

before_all : (done : List TypedStatement) → before (typed_view.statements_of done) program.Empty ≡ typed_view.statements_of done
before_all [] = refl
before_all (t ∷ done) = ap (program.Then t.line (typed_view.action_of t.form)) (before_all done)

behind_more : (done : List TypedStatement) (s : TypedStatement) (r : Result program.Actions TypeFault) →
    behind (typed_view.statements_of done) (and_then r (λ rest. Ok (program.Then s.line (typed_view.action_of s.form) rest))) ≡ behind (typed_view.statements_of (done ++ s ∷ [])) r
behind_more done s (Ok rest) = ap Ok (sym (before_more done s rest))
behind_more done s (Err f) = refl

-- one more statement is judged
pub block_on : (setting : Setting) (xs : List Statement) (i : ℕ) (x : Statement) (done after : List TypedStatement) (form : TypedForm)
    (all : Result program.Actions TypeFault) → i < length xs → x ≡ get_or xs i x →
    statement setting x.line (tree_view.phrase_of x.form) ≡ Ok (typed_view.action_of form) → after ≡ done ++ record { line = x.line; form = form } ∷ [] →
    behind (typed_view.statements_of done) (block setting (tree_view.statements_of (drop i xs))) ≡ all
    → behind (typed_view.statements_of after) (block setting (tree_view.statements_of (drop (i + 1) xs))) ≡ all
block_on setting xs i x done after form all below is judged more so_far =
    let rest = block setting (tree_view.statements_of (drop (i + 1) xs)) in
    ap (λ l. behind (typed_view.statements_of l) rest) more ∙ sym (behind_more done (record { line = x.line; form = form }) rest)
    ∙ sym (ap (λ r. behind (typed_view.statements_of done) (and_then r (λ action. and_then rest (λ actions. Ok (program.Then x.line action actions))))) judged)
    ∙ sym (ap (λ l. behind (typed_view.statements_of done) (block setting (tree_view.statements_of l))) (at_index xs i x below is)) ∙ so_far

pub block_starts : (setting : Setting) (b : code.Block) (xs : List Statement) (none : List TypedStatement) → none ≡ [] → xs ≡ (code.out-Block b).items.items →
    behind (typed_view.statements_of none) (block setting (tree_view.statements_of xs)) ≡ block setting (tree_view.phrases_of b)
block_starts setting b xs none empty is =
    ap (λ l. behind (typed_view.statements_of l) (block setting (tree_view.statements_of xs))) empty ∙ behind_none _ ∙ ap (block setting) (ap tree_view.statements_of is ∙ sym (written_list b))

made_row : {m : _} (row : typed.Row_of-TypedStatement m) → typed_view.row_of row ≡ typed_view.statements_of (typed.items-the_row-TypedStatement m row)
made_row typed.end_of-TypedStatement = refl
made_row (typed.more_of-TypedStatement line form rest) = ap (program.Then line (typed_view.action_of form)) (made_row rest)

made_list : (b : typed.TypedBlock) → typed_view.actions_of b ≡ typed_view.statements_of (typed.out-TypedBlock b).items.items
made_list (typed.TypedBlock' shape row) = made_row row ∙ sym (ap typed_view.statements_of
    (ap (λ o. o.items.items) (typed.outs-TypedBlock' shape row) ∙ typed.items_shown-the_row-TypedStatement-0 shape row))

pub block_ends : (setting : Setting) (b : code.Block) (xs : List Statement) (i : ℕ) (made : typed.TypedBlock) (done : List TypedStatement)
    → i ≡ length xs → (typed.out-TypedBlock made).items.items ≡ done →
    behind (typed_view.statements_of done) (block setting (tree_view.statements_of (drop i xs))) ≡ block setting (tree_view.phrases_of b)
    → block setting (tree_view.phrases_of b) ≡ Ok (typed_view.actions_of made)
block_ends setting b xs i made done end holds so_far =
    let past : drop i xs ≡ [] = ap (λ k. drop k xs) end ∙ drop-length xs in
    sym so_far ∙ ap (λ l. behind (typed_view.statements_of done) (block setting (tree_view.statements_of l))) past
    ∙ ap Ok (before_all done ∙ ap typed_view.statements_of (sym holds) ∙ sym (made_list made))

-- ---- statements that are judged for the verdict alone

before_let_go : (gone : program.Actions) (line : ℕ) (action : program.Action) (rest : program.Actions)
    → before gone (program.Then line action rest) ≡ before (before gone (program.Then line action program.Empty)) rest
before_let_go program.Empty line action rest = refl
before_let_go (program.Then first one gone) line action rest = ap (program.Then first one) (before_let_go gone line action rest)

-- one more statement is judged
pub approved_on : (setting : Setting) (xs : List Statement) (i : ℕ) (x : Statement) (gone : program.Actions) (action : program.Action)
    (all : Result program.Actions TypeFault) → i < length xs → x ≡ get_or xs i x →
    statement setting x.line (tree_view.phrase_of x.form) ≡ Ok action → behind gone (block setting (tree_view.statements_of (drop i xs))) ≡ all →
    behind (before gone (program.Then x.line action program.Empty)) (block setting (tree_view.statements_of (drop (i + 1) xs))) ≡ all
approved_on setting xs i x gone action all below is judged so_far =
    let rest = block setting (tree_view.statements_of (drop (i + 1) xs)) in
    let further : (r : Result program.Actions TypeFault) → behind (before gone (program.Then x.line action program.Empty)) r ≡ behind gone
    (and_then r (λ actions. Ok (program.Then x.line action actions))) = λ r. one_further r in
    further rest
    ∙ sym (ap (λ r. behind gone (and_then r (λ made. and_then rest (λ actions. Ok (program.Then x.line made actions))))) judged)
    ∙ sym (ap (λ l. behind gone (block setting (tree_view.statements_of l))) (at_index xs i x below is)) ∙ so_far
  where
    one_further : (r : Result program.Actions TypeFault) → behind (before gone (program.Then x.line action program.Empty)) r ≡ behind gone
        (and_then r (λ actions. Ok (program.Then x.line action actions)))
    one_further (Ok rest) = ap Ok (sym (before_let_go gone x.line action rest))
    one_further (Err f) = refl

pub approved_from : (setting : Setting) (b : code.Block) (xs : List Statement) → xs ≡ (code.out-Block b).items.items →
    behind program.Empty (block setting (tree_view.statements_of xs)) ≡ block setting (tree_view.phrases_of b)
approved_from setting b xs is = behind_none _ ∙ ap (block setting) (ap tree_view.statements_of is ∙ sym (written_list b))

-- all statements are judged
pub approved_all : (setting : Setting) (b : code.Block) (xs : List Statement) (i : ℕ) (gone : program.Actions) → i ≡ length xs →
    behind gone (block setting (tree_view.statements_of (drop i xs))) ≡ block setting (tree_view.phrases_of b) → (made : program.Actions) × (block setting (tree_view.phrases_of b) ≡ Ok made)
approved_all setting b xs i gone end so_far =
    let past : drop i xs ≡ [] = ap (λ k. drop k xs) end ∙ drop-length xs in
    (before gone program.Empty, sym so_far ∙ ap (λ l. behind gone (block setting (tree_view.statements_of l))) past)

-- a statement fails
pub approved_none : (setting : Setting) (xs : List Statement) (i : ℕ) (x : Statement) (gone : program.Actions) (f : TypeFault)
    (all : Result program.Actions TypeFault) → i < length xs → x ≡ get_or xs i x →
    Fails f (statement setting x.line (tree_view.phrase_of x.form)) → behind gone (block setting (tree_view.statements_of (drop i xs))) ≡ all → Fails f all
approved_none setting xs i x gone f all below is bad so_far =
    let rest = block setting (tree_view.statements_of (drop (i + 1) xs)) in
    fails_as f _ all (sym (ap (λ l. behind gone (block setting (tree_view.statements_of l))) (at_index xs i x below is)) ∙ so_far)
    (fails_then f _ (λ made. Ok (before gone made)) (fails_then f (statement setting x.line (tree_view.phrase_of x.form))
    (λ action. and_then rest (λ actions. Ok (program.Then x.line action actions))) bad))

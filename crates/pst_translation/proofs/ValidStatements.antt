-- The code of statements is a piece that no jump leaves.
use Rattle.std.proofs.Common.{◌≡◌, inl, inr, ℕ, ◌+◌, ◌≤◌, false, List, [], ◌∷◌, ◌++◌, length, Option, Some, None, refl, sym, ap, ◌∙◌, subst, arith, length-append, append_assoc}
use Rattle.std.specs.List.{AllByRecursion}
use Rattle.std.specs.Option.{option_map}
use Rattle.pst_base.specs.declared.names.Kind.{Kind}
use Rattle.pst_base.specs.declared.shape.TypeShape.{TypeShape}
use Rattle.pst_program.specs.Syntax.{Expr, Action, Actions, Set, SetRoot, Store, StoreIndexed, New, Call, Print, If, Either, While, Return, Empty, Then}
use Rattle.pst_code.specs.declared.instr.Instr.{Instr}
use Rattle.pst_code.specs.declared.instr.Instr.TheVariants as code
use Rattle.pst_translation.specs.Code.{Temp, reg, slot_no, proc_no, register, registers, expr_code, test_size, test_code, arguments_code, action_code, block_code, end_code}
use Rattle.pst_translation.proofs.ValidLists.{all_join}
use Rattle.pst_translation.proofs.ValidPieces.{Piece, Quiet, joined, with_exit, quiet_piece}
use Rattle.pst_translation.proofs.ValidPlaces.{straight_piece, jump_piece, charged, loop_piece, expr_quiet, arguments_quiet, default_quiet, test_length, test_piece}

-- a piece that no jump leaves
abbrev pub Closed : List Instr → ℕ → Type 0
Closed c at = Piece c at (at + length c)

closed_on : (c : List Instr) (at exit : ℕ) → Closed c at → at + length c ≤ exit → Piece c at exit
closed_on c at exit p far = with_exit c at (at + length c) exit p (omega arith) far

closes : (c : List Instr) (at exit : ℕ) → Piece c at exit → exit ≤ at + length c → Closed c at
closes c at exit p near = with_exit c at exit (at + length c) p near (omega arith)

pub then_closed : (a b : List Instr) (at : ℕ) → Closed a at → Closed b (at + length a) → Closed (a ++ b) at
then_closed a b at pa pb =
    let whole : length (a ++ b) ≡ length a + length b = length-append a b in
    joined a b at (at + length (a ++ b)) (at + length (a ++ b)) (closed_on a at (at + length (a ++ b)) pa (omega arith))
    (closed_on b (at + length a) (at + length (a ++ b)) pb (omega arith)) (omega arith) (inr refl)

same_code : (a b : List Instr) (at : ℕ) → a ≡ b → Closed a at → Closed b at
same_code a b at e p = subst (λ (c : List Instr). Closed c at) e p

module _ (shape : List TypeShape) (temp : Temp) where
  -- a statement that stores into a record
  store_closed : (o : Expr) (slot : ℕ) (e : Expr) (line at : ℕ) → Closed (action_code shape temp (Store o slot e) line at) at
  store_closed o slot e line at =
      let ro = register shape temp o 0 in
      let co : List Instr = expr_code shape temp o 0 in
      let ce : List Instr = expr_code shape temp e 1 in
      let last : Instr = code.Store ro (slot_no slot) (register shape temp e 1) in
      let quiet : AllByRecursion Quiet (co ++ code.Check ro ∷ ce) = all_join Quiet co (code.Check ro ∷ ce) (expr_quiet shape temp o 0) ((refl, refl), expr_quiet shape temp e 1) in
      let e : code.Charge line ∷ ((co ++ code.Check ro ∷ ce) ++ last ∷ []) ≡ code.Charge line ∷ (co ++ (code.Check ro ∷ (ce ++ last ∷ []))) =
      ap (λ (c : List Instr). code.Charge line ∷ c) (append_assoc co (code.Check ro ∷ ce) (last ∷ [])) in
      same_code _ _ at e (straight_piece line at _ (co ++ code.Check ro ∷ ce) last quiet refl (omega arith))

  -- a statement that stores into an element
  store_element_closed : (o : Expr) (slot elements : ℕ) (i e : Expr) (line at : ℕ) → Closed (action_code shape temp (StoreIndexed o slot elements i e) line at) at
  store_element_closed o slot elements i e line at =
      let ro = register shape temp o 0 in
      let ri = register shape temp i 1 in
      let co : List Instr = expr_code shape temp o 0 in
      let ci : List Instr = expr_code shape temp i 1 in
      let ce : List Instr = expr_code shape temp e 2 in
      let inner : List Instr = ci ++ code.Bound ri elements ∷ ce in
      let last : Instr = code.Storex ro (slot_no slot) elements ri (register shape temp e 2) in
      let quiet_inner : AllByRecursion Quiet inner = all_join Quiet ci (code.Bound ri elements ∷ ce) (expr_quiet shape temp i 1) ((refl, refl), expr_quiet shape temp e 2) in
      let quiet : AllByRecursion Quiet (co ++ code.Check ro ∷ inner) = all_join Quiet co (code.Check ro ∷ inner) (expr_quiet shape temp o 0) ((refl, refl), quiet_inner) in
      let order : (co ++ code.Check ro ∷ inner) ++ last ∷ [] ≡ co ++ (code.Check ro ∷ (ci ++ (code.Bound ri elements ∷ (ce ++ last ∷ [])))) =
      append_assoc co (code.Check ro ∷ inner) (last ∷ []) ∙ ap (λ (c : List Instr). co ++ (code.Check ro ∷ c)) (append_assoc ci (code.Bound ri elements ∷ ce) (last ∷ [])) in
      same_code _ _ at (ap (λ (c : List Instr). code.Charge line ∷ c) order) (straight_piece line at _ (co ++ code.Check ro ∷ inner) last quiet refl (omega arith))

  return_closed : (e : Option Expr) (line at : ℕ) → Closed (action_code shape temp (Return e) line at) at
  return_closed None line at = straight_piece line at _ [] (code.Return None) tt refl (omega arith)
  return_closed (Some e) line at = straight_piece line at _ (expr_code shape temp e 0) (code.Return (Some (register shape temp e 0))) (expr_quiet shape temp e 0) refl (omega arith)

  -- a condition, and behind it what is done where it holds
  tested : (e : Expr) (first : List Instr) (exit at : ℕ) → Closed first (at + test_size shape temp e)
      → at + test_size shape temp e + length first ≤ exit → Piece (test_code shape temp e false exit at ++ first) at exit
  tested e first exit at p far =
      let size : length (test_code shape temp e false exit at) ≡ test_size shape temp e = test_length shape temp e false exit at in
      let whole : length (test_code shape temp e false exit at ++ first) ≡ length (test_code shape temp e false exit at) + length first = length-append (test_code shape temp e false exit at) first in
      joined (test_code shape temp e false exit at) first at exit exit (test_piece shape temp e false exit at (omega arith))
      (subst (λ (n : ℕ). Piece first (at + n) exit) (sym size) (closed_on first (at + test_size shape temp e) exit p far)) (omega arith) (inr refl)

  tested_size : (e : Expr) (first : List Instr) (exit at : ℕ) → length (test_code shape temp e false exit at ++ first) ≡ test_size shape temp e + length first
  tested_size e first exit at =
      let size : length (test_code shape temp e false exit at) ≡ test_size shape temp e = test_length shape temp e false exit at in
      let whole : length (test_code shape temp e false exit at ++ first) ≡ length (test_code shape temp e false exit at) + length first = length-append (test_code shape temp e false exit at) first in
      omega arith

  if_closed : (e : Expr) (first : Actions) (line at : ℕ) → ((at : ℕ) → Closed (block_code shape temp first at) at) → Closed (action_code shape temp (If e first) line at) at
  if_closed e first line at closed =
      let start : ℕ = at + 1 + test_size shape temp e in
      let inner : List Instr = block_code shape temp first start in
      let exit : ℕ = start + length inner in
      let size : length (test_code shape temp e false exit (at + 1) ++ inner) ≡ test_size shape temp e + length inner = tested_size e inner exit (at + 1) in
      closes _ at exit (charged line _ at exit (tested e inner exit (at + 1) (closed start) (omega arith))) (omega arith)

  either_closed : (e : Expr) (first other : Actions) (line at : ℕ) → ((at : ℕ) → Closed (block_code shape temp first at) at)
      → ((at : ℕ) → Closed (block_code shape temp other at) at) → Closed (action_code shape temp (Either e first other) line at) at
  either_closed e first other line at closed closed' =
      let start : ℕ = at + 1 + test_size shape temp e in
      let inner : List Instr = block_code shape temp first start in
      let middle : ℕ = start + length inner + 1 in
      let rest : List Instr = block_code shape temp other middle in
      let end : ℕ = middle + length rest in
      let jump : Instr = code.Jump end in
      let test : List Instr = test_code shape temp e false middle (at + 1) in
      let front : List Instr = test ++ inner in
      let size : length front ≡ test_size shape temp e + length inner = tested_size e inner middle (at + 1) in
      let more : length (front ++ jump ∷ []) ≡ length front + 1 = length-append front (jump ∷ []) in
      let all : length ((front ++ jump ∷ []) ++ rest) ≡ length (front ++ jump ∷ []) + length rest = length-append (front ++ jump ∷ []) rest in
      let seam : at + 1 + length (front ++ jump ∷ []) ≡ middle = omega arith in
      let two : Piece (front ++ jump ∷ []) (at + 1) end = joined front (jump ∷ []) (at + 1) middle end
      (tested e inner middle (at + 1) (closed start) (omega arith)) (jump_piece jump (at + 1 + length front) end refl refl (omega arith))
      (omega arith) (inl (omega arith)) in
      let three : Piece ((front ++ jump ∷ []) ++ rest) (at + 1) end =
      joined (front ++ jump ∷ []) rest (at + 1) end end two (subst (λ (n : ℕ). Piece rest n end) (sym seam) (closed' middle)) (omega arith) (inr refl) in
      let order : (front ++ jump ∷ []) ++ rest ≡ test ++ (inner ++ (jump ∷ rest)) = append_assoc front (jump ∷ []) rest ∙ append_assoc test inner (jump ∷ rest) in
      same_code _ _ at (ap (λ (c : List Instr). code.Charge line ∷ c) order) (closes _ at end (charged line _ at end three) (omega arith))

  while_closed : (e : Expr) (body : Actions) (line at : ℕ) → ((at : ℕ) → Closed (block_code shape temp body at) at) → Closed (action_code shape temp (While e body) line at) at
  while_closed e body line at closed =
      let start : ℕ = at + 1 + test_size shape temp e in
      let inner : List Instr = block_code shape temp body start in
      let exit : ℕ = start + length inner + 1 in
      let test : List Instr = test_code shape temp e false exit (at + 1) in
      let size : length (test ++ inner) ≡ test_size shape temp e + length inner = tested_size e inner exit (at + 1) in
      let head : Piece (code.Charge line ∷ (test ++ inner)) at exit = charged line (test ++ inner) at exit (tested e inner exit (at + 1) (closed start) (omega arith)) in
      let whole : length ((code.Charge line ∷ (test ++ inner)) ++ code.Jump at ∷ []) ≡ length (code.Charge line ∷ (test ++ inner)) + 1 =
      length-append (code.Charge line ∷ (test ++ inner)) (code.Jump at ∷ []) in
      let order : (code.Charge line ∷ (test ++ inner)) ++ code.Jump at ∷ [] ≡ code.Charge line ∷ (test ++ (inner ++ code.Jump at ∷ [])) =
      ap (λ (c : List Instr). code.Charge line ∷ c) (append_assoc test inner (code.Jump at ∷ [])) in
      same_code _ _ at order (loop_piece line (test ++ inner) at exit _ head (omega arith) (omega arith))

  mutual
    action_closed : (action : Action) (line at : ℕ) → Closed (action_code shape temp action line at) at
    action_closed (Set x e) line at = straight_piece line at _ (expr_code shape temp e 0) (code.Copy (reg x) (register shape temp e 0)) (expr_quiet shape temp e 0) refl (omega arith)
    action_closed (SetRoot slot e) line at = straight_piece line at _ (expr_code shape temp e 0) (code.Setroot (slot_no slot) (register shape temp e 0)) (expr_quiet shape temp e 0) refl (omega arith)
    action_closed (Store o slot e) line at = store_closed o slot e line at
    action_closed (StoreIndexed o slot elements i e) line at = store_element_closed o slot elements i e line at
    action_closed (New x ty) line at = straight_piece line at _ [] (code.New (reg x) ty) tt refl (omega arith)
    action_closed (Call result p es) line at = straight_piece line at _ (arguments_code shape temp es 0)
        (code.Call (proc_no p) (option_map reg result) (registers shape temp es 0)) (arguments_quiet shape temp es 0) refl (omega arith)
    action_closed (Print e) line at = straight_piece line at _ (expr_code shape temp e 0) (code.Print (register shape temp e 0)) (expr_quiet shape temp e 0) refl (omega arith)
    action_closed (If e first) line at = if_closed e first line at (block_closed first)
    action_closed (Either e first other) line at = either_closed e first other line at (block_closed first) (block_closed other)
    action_closed (While e body) line at = while_closed e body line at (block_closed body)
    action_closed (Return e) line at = return_closed e line at

    -- the code of statements, wherever it stands
    pub block_closed : (actions : Actions) (at : ℕ) → Closed (block_code shape temp actions at) at
    block_closed Empty at = quiet_piece [] at _ tt (omega arith)
    block_closed (Then line action rest) at =
        then_closed (action_code shape temp action line at) (block_code shape temp rest (at + length (action_code shape temp action line at))) at
        (action_closed action line at) (block_closed rest (at + length (action_code shape temp action line at)))

pub end_quiet : (temp : Temp) (result : Option Kind) → AllByRecursion Quiet (end_code temp result)
end_quiet temp None = ((refl, refl), tt)
end_quiet temp (Some kind) = (default_quiet kind (temp 0 kind), ((refl, refl), tt))

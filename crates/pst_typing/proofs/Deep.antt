-- What is accepted is no deeper than its text.
use Rattle.std.proofs.Common.{◌≡◌, ℕ, ◌+◌, ◌≤◌, ◌==◌, max, not, ◌||◌, length, List, [], ◌∷◌, Option, Some, None, Ok, arith, suc}
use Rattle.pst_base.specs.declared.names.Op.{Op}
use Rattle.pst_base.specs.declared.names.Op.TheVariants.{Add, Sub, Mul, Div, Rem, Equal, NotEqual, Less, LessEqual, Greater, GreaterEqual, And, Or}
use Rattle.pst_base.specs.declared.names.TypeNo.{TypeNo}
use Rattle.pst_grammar.specs.Syntax as tree
use Rattle.pst_grammar.specs.Depth.{height, greatest, phrase_height, phrases_height, phrase_nesting, phrases_nesting}
use Rattle.pst_program.specs.Syntax as program
use Rattle.pst_program.specs.Typed as typed
use Rattle.pst_typing.specs.Names.{Setting, Signature, Variable, IsLocal, IsRoot, named, number_of, variable}
use Rattle.pst_typing.specs.Expressions.{Sort, Int, Truth, Pointer, same_sort, sort_of, Judged, Bare, Known, in_parens, null_of, operand, Object, object, Array}
use Rattle.pst_typing.specs.Expressions.{plain_field, array_field, named_value, loaded, at_index, element_loaded, operation, null_beside, can_equal, equality}
use Rattle.pst_typing.specs.Expressions.{combined, judged, fits, fitted, of_sort}
use Rattle.pst_typing.specs.Statements.{assigned, stored, element_stored, written, made, arguments, received, called, returned, statement, block}
use Rattle.pst_typing.proofs.Passed.{passed, first_passed, found_passed, of_ok}

-- a typed expression is at most so deep
abbrev pub Within : ℕ → Judged → Type 0
Within n Bare = Unit {0}
Within n (Known v sort) = typed.depth v ≤ n + 1

module _ (setting : Setting) where
  value_depth : (n : ℕ) (v : Variable) → Within n (named_value v)
  value_depth n (IsLocal l) = omega arith
  value_depth n (IsRoot s) = omega arith

  parens_depth : (n : ℕ) (j : Judged) → Within n j → Within (suc n) (in_parens j)
  parens_depth n Bare w = tt
  parens_depth n (Known v sort) w = omega arith

  null_depth : (ty : TypeNo) (e : tree.Expr) → typed.depth (null_of ty e) ≤ height e + 1
  null_depth ty (tree.Parens e) = let r = null_depth ty e in omega arith
  null_depth ty (tree.Number n) = omega arith
  null_depth ty tree.Null = omega arith
  null_depth ty (tree.Name x) = omega arith
  null_depth ty (tree.Field e f) = omega arith
  null_depth ty (tree.Indexed e f i) = omega arith
  null_depth ty (tree.Negate e) = omega arith
  null_depth ty (tree.Not e) = omega arith
  null_depth ty (tree.Binary op a b) = omega arith

  operand_depth : (line n : ℕ) (sort : Sort) (j : Judged) (v : program.Expr) → Within n j → operand line sort j ≡ Ok v → typed.depth v ≤ n + 1
  operand_depth line n sort Bare v w e = cc
  operand_depth line n sort (Known u other) v w e =
      let p = passed (same_sort other sort) _ _ v e in
      of_ok (λ (x : program.Expr). typed.depth x ≤ n + 1) u v w p.1

  object_depth : (line n : ℕ) (j : Judged) (o : Object) → Within n j → object line j ≡ Ok o → typed.depth o.pointer ≤ n + 1
  object_depth line n Bare o w e = cc
  object_depth line n (Known v Int) o w e = cc
  object_depth line n (Known v Truth) o w e = cc
  object_depth line n (Known v (Pointer t)) o w e = of_ok (λ (x : Object). typed.depth x.pointer ≤ n + 1) (record { pointer = v; type = t }) o w e

  operation_depth : (line m n : ℕ) (op : Op) (s gives : Sort) (l r j : Judged) → Within m l → Within n r → operation line op s gives l r ≡ Ok j → Within (suc (max m n)) j
  operation_depth line m n op s gives l r j wl wr e =
      let p = first_passed (operand line s l) _ j e in
      let q = first_passed (operand line s r) _ j p.1.1 in
      let a = operand_depth line m s l p.0 wl p.1.0 in
      let b = operand_depth line n s r q.0 wr q.1.0 in
      of_ok (λ (x : Judged). Within (suc (max m n)) x) (Known (program.Binary op p.0 q.0) gives) j (omega arith) q.1.1

  beside_depth : (line : ℕ) (e : tree.Expr) (sort : Sort) (v : program.Expr) → null_beside setting line e sort ≡ Ok v → typed.depth v ≤ height e + 1
  beside_depth line e Int v is = cc
  beside_depth line e Truth v is = cc
  beside_depth line e (Pointer t) v is = of_ok (λ (x : program.Expr). typed.depth x ≤ height e + 1) (null_of (number_of setting.scope t) e) v (null_depth (number_of setting.scope t) e) is

  equality_depth : (line : ℕ) (op : Op) (a b : tree.Expr) (l r j : Judged) → Within (height a) l → Within (height b) r
      → equality setting line op a b l r ≡ Ok j → Within (suc (max (height a) (height b))) j
  equality_depth line op a b Bare Bare j wl wr e = cc
  equality_depth line op a b Bare (Known r sort) j wl wr e =
      let p = first_passed (null_beside setting line a sort) _ j e in
      let d = beside_depth line a sort p.0 p.1.0 in
      of_ok (λ (x : Judged). Within (suc (max (height a) (height b))) x) (Known (program.Binary op p.0 r) Truth) j (omega arith) p.1.1
  equality_depth line op a b (Known l sort) Bare j wl wr e =
      let p = first_passed (null_beside setting line b sort) _ j e in
      let d = beside_depth line b sort p.0 p.1.0 in
      of_ok (λ (x : Judged). Within (suc (max (height a) (height b))) x) (Known (program.Binary op l p.0) Truth) j (omega arith) p.1.1
  equality_depth line op a b (Known l sort) (Known r other) j wl wr e =
      let p = passed (can_equal sort other) _ _ j e in
      of_ok (λ (x : Judged). Within (suc (max (height a) (height b))) x) (Known (program.Binary op l r) Truth) j (omega arith) p.1

  combined_depth : (line : ℕ) (op : Op) (a b : tree.Expr) (l r j : Judged) → Within (height a) l → Within (height b) r
      → combined setting line op a b l r ≡ Ok j → Within (suc (max (height a) (height b))) j
  combined_depth line Add a b l r j wl wr e = operation_depth line (height a) (height b) Add Int Int l r j wl wr e
  combined_depth line Sub a b l r j wl wr e = operation_depth line (height a) (height b) Sub Int Int l r j wl wr e
  combined_depth line Mul a b l r j wl wr e = operation_depth line (height a) (height b) Mul Int Int l r j wl wr e
  combined_depth line Div a b l r j wl wr e = operation_depth line (height a) (height b) Div Int Int l r j wl wr e
  combined_depth line Rem a b l r j wl wr e = operation_depth line (height a) (height b) Rem Int Int l r j wl wr e
  combined_depth line Equal a b l r j wl wr e = equality_depth line Equal a b l r j wl wr e
  combined_depth line NotEqual a b l r j wl wr e = equality_depth line NotEqual a b l r j wl wr e
  combined_depth line Less a b l r j wl wr e = operation_depth line (height a) (height b) Less Int Truth l r j wl wr e
  combined_depth line LessEqual a b l r j wl wr e = operation_depth line (height a) (height b) LessEqual Int Truth l r j wl wr e
  combined_depth line Greater a b l r j wl wr e = operation_depth line (height a) (height b) Greater Int Truth l r j wl wr e
  combined_depth line GreaterEqual a b l r j wl wr e = operation_depth line (height a) (height b) GreaterEqual Int Truth l r j wl wr e
  combined_depth line And a b l r j wl wr e = operation_depth line (height a) (height b) And Truth Truth l r j wl wr e
  combined_depth line Or a b l r j wl wr e = operation_depth line (height a) (height b) Or Truth Truth l r j wl wr e

  element_depth : (line m n : ℕ) (o : Object) (a : Array) (i j : Judged) → typed.depth o.pointer ≤ m + 1 → Within n i → element_loaded setting line o a i ≡ Ok j → Within (suc (max m n)) j
  element_depth line m n o a i j d w e =
      let v = first_passed (operand line Int i) _ j e in
      let k = operand_depth line n Int i v.0 w v.1.0 in
      of_ok (λ (x : Judged). Within (suc (max m n)) x) (at_index setting o a v.0) j (omega arith) v.1.1

  judged_depth : (line : ℕ) (e : tree.Expr) (j : Judged) → judged setting line e ≡ Ok j → Within (height e) j
  judged_depth line (tree.Number n) j e = of_ok (λ (x : Judged). Within 0 x) (Known (program.Number n) Int) j (omega arith) e
  judged_depth line tree.Null j e = of_ok (λ (x : Judged). Within 0 x) Bare j tt e
  judged_depth line (tree.Name x) j e =
      let p = found_passed (variable setting x) _ _ j e in
      of_ok (λ (y : Judged). Within 0 y) (named_value p.0) j (value_depth 0 p.0) p.1.1
  judged_depth line (tree.Parens inner) j e =
      let p = first_passed (judged setting line inner) _ j e in
      of_ok (λ (y : Judged). Within (suc (height inner)) y) (in_parens p.0) j (parens_depth (height inner) p.0 (judged_depth line inner p.0 p.1.0)) p.1.1
  judged_depth line (tree.Field inner f) j e =
      let p = first_passed (judged setting line inner) _ j e in
      let o = first_passed (object line p.0) _ j p.1.1 in
      let s = first_passed (plain_field setting line o.0.type f) _ j o.1.1 in
      let d = object_depth line (height inner) p.0 o.0 (judged_depth line inner p.0 p.1.0) o.1.0 in
      of_ok (λ (y : Judged). Within (suc (height inner)) y) (loaded setting o.0 s.0) j (omega arith) s.1.1
  judged_depth line (tree.Indexed inner f index) j e =
      let p = first_passed (judged setting line inner) _ j e in
      let o = first_passed (object line p.0) _ j p.1.1 in
      let a = first_passed (array_field setting line o.0.type f) _ j o.1.1 in
      let i = first_passed (judged setting line index) _ j a.1.1 in
      let d = object_depth line (height inner) p.0 o.0 (judged_depth line inner p.0 p.1.0) o.1.0 in
      element_depth line (height inner) (height index) o.0 a.0 i.0 j d (judged_depth line index i.0 i.1.0) i.1.1
  judged_depth line (tree.Negate inner) j e =
      let p = first_passed (judged setting line inner) _ j e in
      let v = first_passed (operand line Int p.0) _ j p.1.1 in
      let d = operand_depth line (height inner) Int p.0 v.0 (judged_depth line inner p.0 p.1.0) v.1.0 in
      of_ok (λ (y : Judged). Within (suc (height inner)) y) (Known (program.Negate v.0) Int) j (omega arith) v.1.1
  judged_depth line (tree.Not inner) j e =
      let p = first_passed (judged setting line inner) _ j e in
      let v = first_passed (operand line Truth p.0) _ j p.1.1 in
      let d = operand_depth line (height inner) Truth p.0 v.0 (judged_depth line inner p.0 p.1.0) v.1.0 in
      of_ok (λ (y : Judged). Within (suc (height inner)) y) (Known (program.Not v.0) Truth) j (omega arith) v.1.1
  judged_depth line (tree.Binary op a b) j e =
      let p = first_passed (judged setting line a) _ j e in
      let q = first_passed (judged setting line b) _ j p.1.1 in
      combined_depth line op a b p.0 q.0 j (judged_depth line a p.0 p.1.0) (judged_depth line b q.0 q.1.0) q.1.1

  fits_depth : (line : ℕ) (kind : tree.TypeWord) (e : tree.Expr) (j : Judged) (v : program.Expr) → Within (height e) j → fits setting line kind e j ≡ Ok v → typed.depth v ≤ height e + 1
  fits_depth line tree.Int e Bare v w is = cc
  fits_depth line (tree.Named t) e Bare v w is = of_ok (λ (x : program.Expr). typed.depth x ≤ height e + 1) (null_of (number_of setting.scope t) e) v (null_depth (number_of setting.scope t) e) is
  fits_depth line tree.Int e (Known u sort) v w is = operand_depth line (height e) Int (Known u sort) v w is
  fits_depth line (tree.Named t) e (Known u sort) v w is = operand_depth line (height e) (Pointer t) (Known u sort) v w is

  fitted_depth : (line : ℕ) (kind : tree.TypeWord) (e : tree.Expr) (v : program.Expr) → fitted setting line kind e ≡ Ok v → typed.depth v ≤ height e + 1
  fitted_depth line kind e v is =
      let p = first_passed (judged setting line e) (fits setting line kind e) v is in
      fits_depth line kind e p.0 v (judged_depth line e p.0 p.1.0) p.1.1

  of_sort_depth : (line : ℕ) (sort : Sort) (e : tree.Expr) (v : program.Expr) → of_sort setting line sort e ≡ Ok v → typed.depth v ≤ height e + 1
  of_sort_depth line sort e v is =
      let p = first_passed (judged setting line e) (operand line sort) v is in
      operand_depth line (height e) sort p.0 v (judged_depth line e p.0 p.1.0) p.1.1

  -- ---- statements

  -- a statement is no deeper than its text, and its blocks no more nested
  pub record Shallow (high nested : ℕ) (a : program.Action) : Type 0 where
    pub depth : typed.action_depth a ≤ high + 1
    pub nesting : typed.nesting_in a ≤ nested

  assigned_depth : (line : ℕ) (v : Variable) (e : tree.Expr) (a : program.Action) → assigned setting line v e ≡ Ok a → Shallow (height e) 0 a
  assigned_depth line (IsLocal l) e a is =
      let q = first_passed (fitted setting line l.kind e) _ a is in
      of_ok (λ (x : program.Action). Shallow (height e) 0 x) (program.Set l.number q.0) a (record { depth = fitted_depth line l.kind e q.0 q.1.0; nesting = omega arith }) q.1.1
  assigned_depth line (IsRoot s) e a is =
      let w = passed (not setting.query) _ _ a is in
      let q = first_passed (fitted setting line s.kind e) _ a w.1 in
      of_ok (λ (x : program.Action). Shallow (height e) 0 x) (program.SetRoot s.slot q.0) a (record { depth = fitted_depth line s.kind e q.0 q.1.0; nesting = omega arith }) q.1.1

  stored_depth : (line : ℕ) (o : tree.Expr) (f : List ℕ) (e : tree.Expr) (a : program.Action) → stored setting line o f e ≡ Ok a → Shallow (max (suc (height o)) (height e)) 0 a
  stored_depth line o f e a is =
      let j = first_passed (judged setting line o) _ a is in
      let b = first_passed (object line j.0) _ a j.1.1 in
      let s = first_passed (plain_field setting line b.0.type f) _ a b.1.1 in
      let w = passed (not setting.query) _ _ a s.1.1 in
      let q = first_passed (fitted setting line s.0.kind e) _ a w.1 in
      let d = object_depth line (height o) j.0 b.0 (judged_depth line o j.0 j.1.0) b.1.0 in
      let c = fitted_depth line s.0.kind e q.0 q.1.0 in
      of_ok (λ (x : program.Action). Shallow (max (suc (height o)) (height e)) 0 x) (program.Store b.0.pointer s.0.slot q.0) a (record { depth = omega arith; nesting = omega arith }) q.1.1

  element_stored_depth : (line : ℕ) (o : tree.Expr) (f : List ℕ) (i e : tree.Expr) (a : program.Action) → element_stored setting line o f i e ≡ Ok a
      → Shallow (max (suc (max (height o) (height i))) (height e)) 0 a
  element_stored_depth line o f i e a is =
      let j = first_passed (judged setting line o) _ a is in
      let b = first_passed (object line j.0) _ a j.1.1 in
      let s = first_passed (array_field setting line b.0.type f) _ a b.1.1 in
      let w = passed (not setting.query) _ _ a s.1.1 in
      let k = first_passed (of_sort setting line Int i) _ a w.1 in
      let q = first_passed (fitted setting line s.0.kind e) _ a k.1.1 in
      let d = object_depth line (height o) j.0 b.0 (judged_depth line o j.0 j.1.0) b.1.0 in
      let h = of_sort_depth line Int i k.0 k.1.0 in
      let c = fitted_depth line s.0.kind e q.0 q.1.0 in
      of_ok (λ (x : program.Action). Shallow (max (suc (max (height o) (height i))) (height e)) 0 x)
      (program.StoreIndexed b.0.pointer s.0.slot s.0.elements k.0 q.0) a (record { depth = omega arith; nesting = omega arith }) q.1.1

  higher : (m n k : ℕ) (a : program.Action) → m ≤ n → Shallow m k a → Shallow n k a
  higher m n k a up s = let d = s.depth in record { depth = omega arith; nesting = s.nesting }

  written_depth : (line : ℕ) (to e : tree.Expr) (a : program.Action) → written setting line to e ≡ Ok a → Shallow (max (height to) (height e)) 0 a
  written_depth line (tree.Name x) e a is =
      let v = found_passed (variable setting x) _ _ a is in
      higher (height e) (max 0 (height e)) 0 a (omega arith) (assigned_depth line v.0 e a v.1.1)
  written_depth line (tree.Field o f) e a is = stored_depth line o f e a is
  written_depth line (tree.Indexed o f i) e a is = element_stored_depth line o f i e a is
  written_depth line (tree.Number n) e a is = cc
  written_depth line tree.Null e a is = cc
  written_depth line (tree.Parens b) e a is = cc
  written_depth line (tree.Negate b) e a is = cc
  written_depth line (tree.Not b) e a is = cc
  written_depth line (tree.Binary op b c) e a is = cc

  arguments_depth : (line : ℕ) (ps : List tree.LocalText) (es : List tree.Expr) (vs : List program.Expr) → arguments setting line ps es ≡ Ok vs → typed.deepest vs ≤ greatest height es + 1
  arguments_depth line [] es vs is = of_ok (λ (x : List program.Expr). typed.deepest x ≤ greatest height es + 1) [] vs (omega arith) is
  arguments_depth line (l ∷ ps) [] vs is = of_ok (λ (x : List program.Expr). typed.deepest x ≤ 0 + 1) [] vs (omega arith) is
  arguments_depth line (l ∷ ps) (e ∷ es) vs is =
      let v = first_passed (fitted setting line l.kind e) _ vs is in
      let rest = first_passed (arguments setting line ps es) _ vs v.1.1 in
      let d = fitted_depth line l.kind e v.0 v.1.0 in
      let c = arguments_depth line ps es rest.0 rest.1.0 in
      of_ok (λ (x : List program.Expr). typed.deepest x ≤ max (height e) (greatest height es) + 1) (v.0 ∷ rest.0) vs (omega arith) rest.1.1

  called_depth : (line : ℕ) (s : Signature) (to : Option (List ℕ)) (es : List tree.Expr) (a : program.Action) → called setting line s to es ≡ Ok a → Shallow (greatest height es) 0 a
  called_depth line s to es a is =
      let q = passed (not setting.query || s.query) _ _ a is in
      let n = passed (length es == length s.parameters) _ _ a q.1 in
      let vs = first_passed (arguments setting line s.parameters es) _ a n.1 in
      let into = first_passed (received setting line s.result to) _ a vs.1.1 in
      of_ok (λ (x : program.Action). Shallow (greatest height es) 0 x) (program.Call into.0 s.number.0 vs.0) a
      (record { depth = arguments_depth line s.parameters es vs.0 vs.1.0; nesting = omega arith }) into.1.1

  made_depth : (line : ℕ) (x ty : List ℕ) (a : program.Action) → made setting line x ty ≡ Ok a → Shallow 0 0 a
  made_depth line x ty a is =
      let l = found_passed (named x setting.locals) _ _ a is in
      let t = found_passed (named ty setting.scope.types) _ _ a l.1.1 in
      let w = passed (not setting.query) _ _ a t.1.1 in
      let s = passed (same_sort (sort_of l.0.kind) (sort_of (tree.Named ty))) _ _ a w.1 in
      of_ok (λ (y : program.Action). Shallow 0 0 y) (program.New l.0.number t.0.number) a (record { depth = omega arith; nesting = omega arith }) s.1

  returned_depth : (line : ℕ) (wanted : Option tree.TypeWord) (e : Option tree.Expr) (a : program.Action) → returned setting line wanted e ≡ Ok a → Shallow (phrase_height (tree.Return e)) 0 a
  returned_depth line None None a is = of_ok (λ (x : program.Action). Shallow 0 0 x) (program.Return None) a (record { depth = omega arith; nesting = omega arith }) is
  returned_depth line None (Some e) a is = cc
  returned_depth line (Some kind) None a is = cc
  returned_depth line (Some kind) (Some e) a is =
      let q = first_passed (fitted setting line kind e) _ a is in
      of_ok (λ (x : program.Action). Shallow (height e) 0 x) (program.Return (Some q.0)) a (record { depth = fitted_depth line kind e q.0 q.1.0; nesting = omega arith }) q.1.1

  pub record ShallowBlock (high nested : ℕ) (b : program.Actions) : Type 0 where
    pub depth : typed.block_depth b ≤ high + 1
    pub nesting : typed.nesting b ≤ nested + 1

  mutual
    statement_depth : (line : ℕ) (s : tree.Phrase) (a : program.Action) → statement setting line s ≡ Ok a → Shallow (phrase_height s) (phrase_nesting s) a
    statement_depth line (tree.New x ty) a is = made_depth line x ty a is
    statement_depth line (tree.Call to x es) a is =
        let s = found_passed (named x setting.scope.procedures) _ _ a is in
        called_depth line s.0 to es a s.1.1
    statement_depth line (tree.Write to e) a is = written_depth line to e a is
    statement_depth line (tree.Print e) a is =
        let q = first_passed (of_sort setting line Int e) _ a is in
        of_ok (λ (x : program.Action). Shallow (height e) 0 x) (program.Print q.0) a (record { depth = of_sort_depth line Int e q.0 q.1.0; nesting = omega arith }) q.1.1
    statement_depth line (tree.If e first) a is =
        let q = first_passed (of_sort setting line Truth e) _ a is in
        let b = first_passed (block setting first) _ a q.1.1 in
        let d = of_sort_depth line Truth e q.0 q.1.0 in
        let m = block_depth first b.0 b.1.0 in
        let md = m.depth in let mn = m.nesting in
        of_ok (λ (x : program.Action). Shallow (max (height e) (phrases_height first)) (suc (phrases_nesting first)) x) (program.If q.0 b.0) a
        (record { depth = omega arith; nesting = omega arith }) b.1.1
    statement_depth line (tree.Either e first other) a is =
        let q = first_passed (of_sort setting line Truth e) _ a is in
        let b = first_passed (block setting first) _ a q.1.1 in
        let c = first_passed (block setting other) _ a b.1.1 in
        let d = of_sort_depth line Truth e q.0 q.1.0 in
        let m = block_depth first b.0 b.1.0 in
        let n = block_depth other c.0 c.1.0 in
        let md = m.depth in let mn = m.nesting in let nd = n.depth in let nn = n.nesting in
        of_ok (λ (x : program.Action). Shallow (max (height e) (max (phrases_height first) (phrases_height other)))
        (suc (max (phrases_nesting first) (phrases_nesting other))) x) (program.Either q.0 b.0 c.0) a
        (record { depth = omega arith; nesting = omega arith }) c.1.1
    statement_depth line (tree.While e body) a is =
        let q = first_passed (of_sort setting line Truth e) _ a is in
        let b = first_passed (block setting body) _ a q.1.1 in
        let d = of_sort_depth line Truth e q.0 q.1.0 in
        let m = block_depth body b.0 b.1.0 in
        let md = m.depth in let mn = m.nesting in
        of_ok (λ (x : program.Action). Shallow (max (height e) (phrases_height body)) (suc (phrases_nesting body)) x) (program.While q.0 b.0) a
        (record { depth = omega arith; nesting = omega arith }) b.1.1
    statement_depth line (tree.Return e) a is = returned_depth line setting.result e a is

    pub block_depth : (b : tree.Phrases) (actions : program.Actions) → block setting b ≡ Ok actions → ShallowBlock (phrases_height b) (phrases_nesting b) actions
    block_depth tree.Empty actions is = of_ok (λ (x : program.Actions). ShallowBlock 0 0 x) program.Empty actions (record { depth = omega arith; nesting = omega arith }) is
    block_depth (tree.Then line s rest) actions is =
        let a = first_passed (statement setting line s) _ actions is in
        let more = first_passed (block setting rest) _ actions a.1.1 in
        let m = statement_depth line s a.0 a.1.0 in
        let n = block_depth rest more.0 more.1.0 in
        let md = m.depth in let mn = m.nesting in let nd = n.depth in let nn = n.nesting in
        of_ok (λ (x : program.Actions). ShallowBlock (max (phrase_height s) (phrases_height rest)) (max (phrase_nesting s) (phrases_nesting rest)) x) (program.Then line a.0 more.0) actions
        (record { depth = omega arith; nesting = omega arith }) more.1.1

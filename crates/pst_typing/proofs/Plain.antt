-- A text without arrays is typed to a program without arrays.
use Rattle.std.proofs.Common.{◌≡◌, ℕ, ◌+◌, not, ◌||◌, ◌==◌, nat_lt, List, [], ◌∷◌, ◌++◌, length, map, Option, Some, None, Result, Ok, refl, sym, ap, subst}
use Rattle.pst_base.specs.declared.names.Op.{Op}
use Rattle.pst_base.specs.declared.names.Op.TheVariants.{Add, Sub, Mul, Div, Rem, Equal, NotEqual, Less, LessEqual, Greater, GreaterEqual, And, Or}
use Rattle.pst_base.specs.declared.names.TypeNo.{TypeNo}
use Rattle.pst_base.specs.declared.shape.TheConstants.{MOST_ROOTS}
use Rattle.pst_grammar.specs.Syntax as tree
use Rattle.pst_program.specs.Syntax as program
use Rattle.pst_program.specs.declared.program.FieldName.{FieldName}
use Rattle.pst_typing.specs.declared.fault.TypeFault.{TypeFault}
use Rattle.pst_typing.specs.declared.fault.TypeFault.TheVariants as fault
use Rattle.pst_typing.specs.Answers.{check, through}
use Rattle.pst_typing.specs.Names.{Member, Members, no_members, with_member, members_from, length_in, slot_of, Setting, Signature, Scope, nothing_declared}
use Rattle.pst_typing.specs.Names.{Variable, IsLocal, IsRoot, named, is_free, is_known, number_of, variable, field_name, field_kind, field_elements}
use Rattle.pst_typing.specs.Expressions.{Sort, Int, Truth, Pointer, same_sort, sort_of, Judged, Bare, Known, in_parens, null_of, operand, Object, object}
use Rattle.pst_typing.specs.Expressions.{plain_field, named_value, loaded, operation, null_beside, can_equal, equality, combined, judged, fits, fitted, of_sort}
use Rattle.pst_typing.specs.Statements.{assigned, stored, written, made, arguments, received, called, returned, statement, block}
use Rattle.pst_typing.specs.Declarations.{noted, limit_of, field, names_of, shape_of, procedure, NamedProgram, declared, root_alone}
use Rattle.pst_typing.specs.Plain.{Each, WhereThere, HasNoIndex, PhraseHasNoIndex, PhrasesHaveNoIndex, IsPlainItem, ReadsNoElement, ActionHasNoElement}
use Rattle.pst_typing.specs.Plain.{ActionsHaveNoElement, HasNoArray, IsPlain, PlainStaysPlain}
use Rattle.pst_typing.proofs.Passed.{passed, first_passed, found_passed, same_ok, of_ok}
use Rattle.pst_typing.proofs.Whole.{field_passed}
use Rattle.pst_typing.proofs.Accepted.{made as procedure_made}

each_more : {A : Type 0} (P : A → Type 0) (all : List A) (a : A) → Each P all → P a → Each P (all ++ a ∷ [])
each_more P [] a good here = (here, tt)
each_more P (b ∷ all) a good here = (good.0, each_more P all a good.1 here)

-- ---- expressions

abbrev PlainJudged : Judged → Type 0
PlainJudged Bare = Unit {0}
PlainJudged (Known v sort) = ReadsNoElement v

module _ (setting : Setting) where
  plain_value : (v : Variable) → PlainJudged (named_value v)
  plain_value (IsLocal l) = tt
  plain_value (IsRoot s) = tt

  plain_parens : (j : Judged) → PlainJudged j → PlainJudged (in_parens j)
  plain_parens Bare p = tt
  plain_parens (Known v sort) p = p

  plain_null : (ty : TypeNo) (e : tree.Expr) → ReadsNoElement (null_of ty e)
  plain_null ty (tree.Parens e) = plain_null ty e
  plain_null ty (tree.Number n) = tt
  plain_null ty tree.Null = tt
  plain_null ty (tree.Name x) = tt
  plain_null ty (tree.Field e f) = tt
  plain_null ty (tree.Indexed e f i) = tt
  plain_null ty (tree.Negate e) = tt
  plain_null ty (tree.Not e) = tt
  plain_null ty (tree.Binary op a b) = tt

  plain_operand : (line : ℕ) (sort : Sort) (j : Judged) (v : program.Expr) → PlainJudged j → operand line sort j ≡ Ok v → ReadsNoElement v
  plain_operand line sort Bare v p e = cc
  plain_operand line sort (Known u other) v p e = of_ok ReadsNoElement u v p (passed (same_sort other sort) _ _ v e).1

  plain_object : (line : ℕ) (j : Judged) (o : Object) → PlainJudged j → object line j ≡ Ok o → ReadsNoElement o.pointer
  plain_object line Bare o p e = cc
  plain_object line (Known v Int) o p e = cc
  plain_object line (Known v Truth) o p e = cc
  plain_object line (Known v (Pointer t)) o p e = of_ok (λ (x : Object). ReadsNoElement x.pointer) (record { pointer = v; type = t }) o p e

  plain_operation : (line : ℕ) (op : Op) (s gives : Sort) (l r j : Judged) → PlainJudged l → PlainJudged r → operation line op s gives l r ≡ Ok j → PlainJudged j
  plain_operation line op s gives l r j pl pr e =
      let p = first_passed (operand line s l) _ j e in
      let q = first_passed (operand line s r) _ j p.1.1 in
      of_ok PlainJudged (Known (program.Binary op p.0 q.0) gives) j (plain_operand line s l p.0 pl p.1.0, plain_operand line s r q.0 pr q.1.0) q.1.1

  plain_beside : (line : ℕ) (e : tree.Expr) (sort : Sort) (v : program.Expr) → null_beside setting line e sort ≡ Ok v → ReadsNoElement v
  plain_beside line e Int v is = cc
  plain_beside line e Truth v is = cc
  plain_beside line e (Pointer t) v is = of_ok ReadsNoElement (null_of (number_of setting.scope t) e) v (plain_null (number_of setting.scope t) e) is

  plain_equality : (line : ℕ) (op : Op) (a b : tree.Expr) (l r j : Judged) → PlainJudged l → PlainJudged r → equality setting line op a b l r ≡ Ok j → PlainJudged j
  plain_equality line op a b Bare Bare j pl pr e = cc
  plain_equality line op a b Bare (Known r sort) j pl pr e =
      let p = first_passed (null_beside setting line a sort) _ j e in
      of_ok PlainJudged (Known (program.Binary op p.0 r) Truth) j (plain_beside line a sort p.0 p.1.0, pr) p.1.1
  plain_equality line op a b (Known l sort) Bare j pl pr e =
      let p = first_passed (null_beside setting line b sort) _ j e in
      of_ok PlainJudged (Known (program.Binary op l p.0) Truth) j (pl, plain_beside line b sort p.0 p.1.0) p.1.1
  plain_equality line op a b (Known l sort) (Known r other) j pl pr e =
      of_ok PlainJudged (Known (program.Binary op l r) Truth) j (pl, pr) (passed (can_equal sort other) _ _ j e).1

  plain_combined : (line : ℕ) (op : Op) (a b : tree.Expr) (l r j : Judged) → PlainJudged l → PlainJudged r → combined setting line op a b l r ≡ Ok j → PlainJudged j
  plain_combined line Add a b l r j pl pr e = plain_operation line Add Int Int l r j pl pr e
  plain_combined line Sub a b l r j pl pr e = plain_operation line Sub Int Int l r j pl pr e
  plain_combined line Mul a b l r j pl pr e = plain_operation line Mul Int Int l r j pl pr e
  plain_combined line Div a b l r j pl pr e = plain_operation line Div Int Int l r j pl pr e
  plain_combined line Rem a b l r j pl pr e = plain_operation line Rem Int Int l r j pl pr e
  plain_combined line Equal a b l r j pl pr e = plain_equality line Equal a b l r j pl pr e
  plain_combined line NotEqual a b l r j pl pr e = plain_equality line NotEqual a b l r j pl pr e
  plain_combined line Less a b l r j pl pr e = plain_operation line Less Int Truth l r j pl pr e
  plain_combined line LessEqual a b l r j pl pr e = plain_operation line LessEqual Int Truth l r j pl pr e
  plain_combined line Greater a b l r j pl pr e = plain_operation line Greater Int Truth l r j pl pr e
  plain_combined line GreaterEqual a b l r j pl pr e = plain_operation line GreaterEqual Int Truth l r j pl pr e
  plain_combined line And a b l r j pl pr e = plain_operation line And Truth Truth l r j pl pr e
  plain_combined line Or a b l r j pl pr e = plain_operation line Or Truth Truth l r j pl pr e

  plain_judged : (line : ℕ) (e : tree.Expr) (j : Judged) → HasNoIndex e → judged setting line e ≡ Ok j → PlainJudged j
  plain_judged line (tree.Number n) j none e = of_ok PlainJudged (Known (program.Number n) Int) j tt e
  plain_judged line tree.Null j none e = of_ok PlainJudged Bare j tt e
  plain_judged line (tree.Name x) j none e =
      let p = found_passed (variable setting x) _ _ j e in
      of_ok PlainJudged (named_value p.0) j (plain_value p.0) p.1.1
  plain_judged line (tree.Parens inner) j none e =
      let p = first_passed (judged setting line inner) _ j e in
      of_ok PlainJudged (in_parens p.0) j (plain_parens p.0 (plain_judged line inner p.0 none p.1.0)) p.1.1
  plain_judged line (tree.Field inner f) j none e =
      let p = first_passed (judged setting line inner) _ j e in
      let o = first_passed (object line p.0) _ j p.1.1 in
      let s = first_passed (plain_field setting line o.0.type f) _ j o.1.1 in
      of_ok PlainJudged (loaded setting o.0 s.0) j (plain_object line p.0 o.0 (plain_judged line inner p.0 none p.1.0) o.1.0) s.1.1
  plain_judged line (tree.Indexed inner f i) j none e = absurd none
  plain_judged line (tree.Negate inner) j none e =
      let p = first_passed (judged setting line inner) _ j e in
      let v = first_passed (operand line Int p.0) _ j p.1.1 in
      of_ok PlainJudged (Known (program.Negate v.0) Int) j (plain_operand line Int p.0 v.0 (plain_judged line inner p.0 none p.1.0) v.1.0) v.1.1
  plain_judged line (tree.Not inner) j none e =
      let p = first_passed (judged setting line inner) _ j e in
      let v = first_passed (operand line Truth p.0) _ j p.1.1 in
      of_ok PlainJudged (Known (program.Not v.0) Truth) j (plain_operand line Truth p.0 v.0 (plain_judged line inner p.0 none p.1.0) v.1.0) v.1.1
  plain_judged line (tree.Binary op a b) j none e =
      let p = first_passed (judged setting line a) _ j e in
      let q = first_passed (judged setting line b) _ j p.1.1 in
      plain_combined line op a b p.0 q.0 j (plain_judged line a p.0 none.0 p.1.0) (plain_judged line b q.0 none.1 q.1.0) q.1.1

  plain_fits : (line : ℕ) (kind : tree.TypeWord) (e : tree.Expr) (j : Judged) (v : program.Expr) → PlainJudged j → fits setting line kind e j ≡ Ok v → ReadsNoElement v
  plain_fits line tree.Int e Bare v p is = cc
  plain_fits line (tree.Named t) e Bare v p is = of_ok ReadsNoElement (null_of (number_of setting.scope t) e) v (plain_null (number_of setting.scope t) e) is
  plain_fits line tree.Int e (Known u sort) v p is = plain_operand line Int (Known u sort) v p is
  plain_fits line (tree.Named t) e (Known u sort) v p is = plain_operand line (Pointer t) (Known u sort) v p is

  plain_fitted : (line : ℕ) (kind : tree.TypeWord) (e : tree.Expr) (v : program.Expr) → HasNoIndex e → fitted setting line kind e ≡ Ok v → ReadsNoElement v
  plain_fitted line kind e v none is =
      let p = first_passed (judged setting line e) (fits setting line kind e) v is in
      plain_fits line kind e p.0 v (plain_judged line e p.0 none p.1.0) p.1.1

  plain_of_sort : (line : ℕ) (sort : Sort) (e : tree.Expr) (v : program.Expr) → HasNoIndex e → of_sort setting line sort e ≡ Ok v → ReadsNoElement v
  plain_of_sort line sort e v none is =
      let p = first_passed (judged setting line e) (operand line sort) v is in
      plain_operand line sort p.0 v (plain_judged line e p.0 none p.1.0) p.1.1

  -- ---- statements

  plain_assigned : (line : ℕ) (v : Variable) (e : tree.Expr) (a : program.Action) → HasNoIndex e → assigned setting line v e ≡ Ok a → ActionHasNoElement a
  plain_assigned line (IsLocal l) e a none is =
      let q = first_passed (fitted setting line l.kind e) _ a is in
      of_ok ActionHasNoElement (program.Set l.number q.0) a (plain_fitted line l.kind e q.0 none q.1.0) q.1.1
  plain_assigned line (IsRoot s) e a none is =
      let w = passed (not setting.query) _ _ a is in
      let q = first_passed (fitted setting line s.kind e) _ a w.1 in
      of_ok ActionHasNoElement (program.SetRoot s.slot q.0) a (plain_fitted line s.kind e q.0 none q.1.0) q.1.1

  plain_stored : (line : ℕ) (o : tree.Expr) (f : List ℕ) (e : tree.Expr) (a : program.Action) → HasNoIndex o → HasNoIndex e → stored setting line o f e ≡ Ok a → ActionHasNoElement a
  plain_stored line o f e a no_o no_e is =
      let j = first_passed (judged setting line o) _ a is in
      let b = first_passed (object line j.0) _ a j.1.1 in
      let s = first_passed (plain_field setting line b.0.type f) _ a b.1.1 in
      let w = passed (not setting.query) _ _ a s.1.1 in
      let q = first_passed (fitted setting line s.0.kind e) _ a w.1 in
      of_ok ActionHasNoElement (program.Store b.0.pointer s.0.slot q.0) a
      (plain_object line j.0 b.0 (plain_judged line o j.0 no_o j.1.0) b.1.0, plain_fitted line s.0.kind e q.0 no_e q.1.0) q.1.1

  plain_written : (line : ℕ) (to e : tree.Expr) (a : program.Action) → HasNoIndex to → HasNoIndex e → written setting line to e ≡ Ok a → ActionHasNoElement a
  plain_written line (tree.Name x) e a no_to no_e is =
      let v = found_passed (variable setting x) _ _ a is in
      plain_assigned line v.0 e a no_e v.1.1
  plain_written line (tree.Field o f) e a no_to no_e is = plain_stored line o f e a no_to no_e is
  plain_written line (tree.Indexed o f i) e a no_to no_e is = absurd no_to
  plain_written line (tree.Number n) e a no_to no_e is = cc
  plain_written line tree.Null e a no_to no_e is = cc
  plain_written line (tree.Parens b) e a no_to no_e is = cc
  plain_written line (tree.Negate b) e a no_to no_e is = cc
  plain_written line (tree.Not b) e a no_to no_e is = cc
  plain_written line (tree.Binary op b c) e a no_to no_e is = cc

  plain_made : (line : ℕ) (x ty : List ℕ) (a : program.Action) → made setting line x ty ≡ Ok a → ActionHasNoElement a
  plain_made line x ty a is =
      let l = found_passed (named x setting.locals) _ _ a is in
      let t = found_passed (named ty setting.scope.types) _ _ a l.1.1 in
      let w = passed (not setting.query) _ _ a t.1.1 in
      let s = passed (same_sort (sort_of l.0.kind) (sort_of (tree.Named ty))) _ _ a w.1 in
      of_ok ActionHasNoElement (program.New l.0.number t.0.number) a tt s.1

  plain_arguments : (line : ℕ) (ps : List tree.LocalText) (es : List tree.Expr) (vs : List program.Expr) → Each HasNoIndex es → arguments setting line ps es ≡ Ok vs → Each ReadsNoElement vs
  plain_arguments line [] es vs none is = of_ok (Each ReadsNoElement) [] vs tt is
  plain_arguments line (l ∷ ps) [] vs none is = of_ok (Each ReadsNoElement) [] vs tt is
  plain_arguments line (l ∷ ps) (e ∷ es) vs none is =
      let v = first_passed (fitted setting line l.kind e) _ vs is in
      let rest = first_passed (arguments setting line ps es) _ vs v.1.1 in
      of_ok (Each ReadsNoElement) (v.0 ∷ rest.0) vs (plain_fitted line l.kind e v.0 none.0 v.1.0, plain_arguments line ps es rest.0 none.1 rest.1.0) rest.1.1

  plain_called : (line : ℕ) (s : Signature) (to : Option (List ℕ)) (es : List tree.Expr) (a : program.Action) → Each HasNoIndex es → called setting line s to es ≡ Ok a → ActionHasNoElement a
  plain_called line s to es a none is =
      let q = passed (not setting.query || s.query) _ _ a is in
      let n = passed (length es == length s.parameters) _ _ a q.1 in
      let vs = first_passed (arguments setting line s.parameters es) _ a n.1 in
      let into = first_passed (received setting line s.result to) _ a vs.1.1 in
      of_ok ActionHasNoElement (program.Call into.0 s.number.0 vs.0) a (plain_arguments line s.parameters es vs.0 none vs.1.0) into.1.1

  plain_returned : (line : ℕ) (wanted : Option tree.TypeWord) (e : Option tree.Expr) (a : program.Action) → WhereThere HasNoIndex e → returned setting line wanted e ≡ Ok a → ActionHasNoElement a
  plain_returned line None None a none is = of_ok ActionHasNoElement (program.Return None) a tt is
  plain_returned line None (Some e) a none is = cc
  plain_returned line (Some kind) None a none is = cc
  plain_returned line (Some kind) (Some e) a none is =
      let q = first_passed (fitted setting line kind e) _ a is in
      of_ok ActionHasNoElement (program.Return (Some q.0)) a (plain_fitted line kind e q.0 none q.1.0) q.1.1

  mutual
    plain_statement : (line : ℕ) (s : tree.Phrase) (a : program.Action) → PhraseHasNoIndex s → statement setting line s ≡ Ok a → ActionHasNoElement a
    plain_statement line (tree.New x ty) a none is = plain_made line x ty a is
    plain_statement line (tree.Call to x es) a none is =
        let s = found_passed (named x setting.scope.procedures) _ _ a is in
        plain_called line s.0 to es a none s.1.1
    plain_statement line (tree.Write to e) a none is = plain_written line to e a none.0 none.1 is
    plain_statement line (tree.Print e) a none is =
        let q = first_passed (of_sort setting line Int e) _ a is in
        of_ok ActionHasNoElement (program.Print q.0) a (plain_of_sort line Int e q.0 none q.1.0) q.1.1
    plain_statement line (tree.If e first) a none is =
        let q = first_passed (of_sort setting line Truth e) _ a is in
        let b = first_passed (block setting first) _ a q.1.1 in
        of_ok ActionHasNoElement (program.If q.0 b.0) a (plain_of_sort line Truth e q.0 none.0 q.1.0, plain_block first b.0 none.1 b.1.0) b.1.1
    plain_statement line (tree.Either e first other) a none is =
        let q = first_passed (of_sort setting line Truth e) _ a is in
        let b = first_passed (block setting first) _ a q.1.1 in
        let c = first_passed (block setting other) _ a b.1.1 in
        of_ok ActionHasNoElement (program.Either q.0 b.0 c.0) a (plain_of_sort line Truth e q.0 none.0 q.1.0, plain_block first b.0 none.1 b.1.0, plain_block other c.0 none.2 c.1.0) c.1.1
    plain_statement line (tree.While e body) a none is =
        let q = first_passed (of_sort setting line Truth e) _ a is in
        let b = first_passed (block setting body) _ a q.1.1 in
        of_ok ActionHasNoElement (program.While q.0 b.0) a (plain_of_sort line Truth e q.0 none.0 q.1.0, plain_block body b.0 none.1 b.1.0) b.1.1
    plain_statement line (tree.Return e) a none is = plain_returned line setting.result e a none is

    plain_block : (b : tree.Phrases) (actions : program.Actions) → PhrasesHaveNoIndex b → block setting b ≡ Ok actions → ActionsHaveNoElement actions
    plain_block tree.Empty actions none is = of_ok ActionsHaveNoElement program.Empty actions tt is
    plain_block (tree.Then line s rest) actions none is =
        let a = first_passed (statement setting line s) _ actions is in
        let more = first_passed (block setting rest) _ actions a.1.1 in
        of_ok ActionsHaveNoElement (program.Then line a.0 more.0) actions (plain_statement line s a.0 none.0 a.1.0, plain_block rest more.0 none.1 more.1.0) more.1.1

-- ---- fields

abbrev PlainMembers : Members → Type 0
PlainMembers m = Each (λ f. f.1.elements ≡ None) m.list

plain_member : (m : Members) (x : List ℕ) (kind : tree.TypeWord) (n : Option ℕ) → PlainMembers m → n ≡ None → PlainMembers (with_member m x kind n)
plain_member m x tree.Int n all none = each_more (λ (f : List ℕ × Member). f.1.elements ≡ None) m.list _ all none
plain_member m x (tree.Named t) n all none = each_more (λ (f : List ℕ × Member). f.1.elements ≡ None) m.list _ all none

plain_fields : (scope : Scope) (fs : List tree.FieldText) (m n : Members) → PlainMembers m → Each (λ f. field_elements f ≡ None) fs → through (field scope) m fs ≡ Ok n → PlainMembers n
plain_fields scope [] m n all none e = subst (λ (k : Members). PlainMembers k) (same_ok m n e) all
plain_fields scope (f ∷ fs) m n all none e =
    let s = first_passed (field scope m f) (λ now. through (field scope) now fs) n e in
    let made = (field_passed scope m f s.0 s.1.0).is in
    let now = subst (λ (k : Members). PlainMembers k) made (plain_member m (field_name f) (field_kind f) (length_in (field_elements f)) all (ap length_in none.0)) in
    plain_fields scope fs s.0 n now none.1 s.1.1

plain_names : (m : Members) (l : List (List ℕ × Member)) → Each (λ f. f.1.elements ≡ None) l
    → Each (λ (f : FieldName). f.elements ≡ None) (map (λ f. record { name = f.0; slot = record { 0 = slot_of m f.1 }; elements = f.1.elements }) l)
plain_names m [] all = tt
plain_names m (f ∷ l) all = (all.0, plain_names m l all.1)

plain_noted : (s t : Scope) (item : tree.Item) → PlainMembers s.roots → noted s item ≡ Ok t → PlainMembers t.roots
plain_noted s t (tree.Record line x limit fs) all e =
    let new : Scope = record s { types = s.types ++ (x, record { number = record { 0 = length s.types + 1 }; members = members_from no_members fs }) ∷ [] } in
    let one : Result Scope TypeFault = Ok new in
    let p = passed (nat_lt (length s.types) 64) (fault.TooMany line) (check (is_free s x) (fault.Duplicate line) one) t e in
    let q = passed (is_free s x) (fault.Duplicate line) one t p.1 in
    of_ok (λ (u : Scope). PlainMembers u.roots) new t all q.1
plain_noted s t (tree.Root line x kind) all e =
    let new : Scope = record s { roots = with_member s.roots x kind None } in
    let one : Result Scope TypeFault = Ok new in
    let p = passed (nat_lt (length s.roots.list) MOST_ROOTS) (fault.TooMany line) (check (is_free s x) (fault.Duplicate line) one) t e in
    let q = passed (is_free s x) (fault.Duplicate line) one t p.1 in
    of_ok (λ (u : Scope). PlainMembers u.roots) new t (plain_member s.roots x kind None all refl) q.1
plain_noted s t (tree.Procedure text) all e =
    let new : Scope = record s {
      procedures = s.procedures ++
          (text.name, record { number = record { 0 = length s.procedures }; query = text.query; parameters = text.parameters; result = text.result }) ∷ [];
    } in
    let one : Result Scope TypeFault = Ok new in
    let p = passed (nat_lt (length s.procedures) 256) (fault.TooMany text.line) (check (is_free s text.name) (fault.Duplicate text.line) one) t e in
    let q = passed (is_free s text.name) (fault.Duplicate text.line) one t p.1 in
    of_ok (λ (u : Scope). PlainMembers u.roots) new t all q.1

plain_roots : (items : List tree.Item) (s t : Scope) → PlainMembers s.roots → through noted s items ≡ Ok t → PlainMembers t.roots
plain_roots [] s t all e = subst (λ (u : Scope). PlainMembers u.roots) (same_ok s t e) all
plain_roots (item ∷ items) s t all e =
    let p = first_passed (noted s item) (λ now. through noted now items) t e in
    plain_roots items p.0 t (plain_noted s p.0 item all p.1.0) p.1.1

-- ---- declarations

plain_procedure : (scope : Scope) (text : tree.ProcedureText) (q : program.Procedure) → PhrasesHaveNoIndex text.body → procedure scope text ≡ Ok q → ActionsHaveNoElement q.body
plain_procedure scope text q none e =
    let m = procedure_made scope text q e in
    let setting : Setting = record { scope = scope; query = text.query; result = text.result; locals = m.variables } in
    subst (λ (r : program.Procedure). ActionsHaveNoElement r.body) (sym m.is) (plain_block setting text.body m.body none m.judged)

plain_declared : (scope : Scope) (b c : NamedProgram) (item : tree.Item) → IsPlainItem item → IsPlain b → declared scope b item ≡ Ok c → IsPlain c
plain_declared scope b c (tree.Record line x l fs) none g e =
    let n = found_passed (limit_of l) (fault.Limit line) _ c e in
    let m = first_passed (through (field scope) no_members fs) _ c n.1.1 in
    let made : NamedProgram = record b { shape = b.shape ++ shape_of scope n.0 m.0 ∷ []; names = b.names ++ names_of x m.0 ∷ [] } in
    let all = plain_fields scope fs no_members m.0 tt none m.1.0 in
    let whole : IsPlain made = record { names = each_more HasNoArray b.names (names_of x m.0) g.names (plain_names m.0 m.0.list all); procedures = g.procedures } in
    of_ok (λ (k : NamedProgram). IsPlain k) made c whole m.1.1
plain_declared scope b c (tree.Root line x kind) none g e =
    let k = passed (is_known scope kind) (fault.Unknown line) (Ok b) c e in
    of_ok (λ (j : NamedProgram). IsPlain j) b c g k.1
plain_declared scope b c (tree.Procedure text) none g e =
    let m = first_passed (procedure scope text) _ c e in
    let made : NamedProgram = record b { procedures = b.procedures ++ m.0 ∷ [] } in
    let whole : IsPlain made = record {
      names = g.names;
      procedures =
          each_more (λ (q : program.Procedure). ActionsHaveNoElement q.body) b.procedures m.0 g.procedures (plain_procedure scope text m.0 none m.1.0);
    } in
    of_ok (λ (k : NamedProgram). IsPlain k) made c whole m.1.1

plain_all : (scope : Scope) (items : List tree.Item) (b c : NamedProgram) → Each IsPlainItem items → IsPlain b → through (declared scope) b items ≡ Ok c → IsPlain c
plain_all scope [] b c none g e = subst (λ (k : NamedProgram). IsPlain k) (same_ok b c e) g
plain_all scope (item ∷ items) b c none g e =
    let p = first_passed (declared scope b item) (λ now. through (declared scope) now items) c e in
    plain_all scope items p.0 c none.1 (plain_declared scope b p.0 item none.0 g p.1.0) p.1.1

pub plain_stays : PlainStaysPlain
plain_stays items p none e =
    let w = first_passed (through noted nothing_declared items) (λ scope. through (declared scope) (root_alone scope) items) p e in
    let roots = plain_roots items nothing_declared w.0 tt w.1.0 in
    let alone : IsPlain (root_alone w.0) = record { names = (plain_names w.0.roots w.0.roots.list roots, tt); procedures = tt } in
    plain_all w.0 items (root_alone w.0) p none alone w.1.1

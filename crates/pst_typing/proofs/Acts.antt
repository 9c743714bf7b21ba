-- Statements that are accepted are well typed.
use Rattle.std.proofs.Common.{◌≡◌, ℕ, ◌==◌, Bool, true, false, IsTrue, not, ◌||◌, List, [], ◌∷◌, map, length, Option, Some, None, slice_get, Ok, refl, sym, ap, subst, ◌∙◌, arith}
use Rattle.std.specs.Option.{option_map}
use Rattle.std.proofs.lemmas.Bool.Decides.{nat_tests}
use Rattle.pst_base.specs.declared.names.Kind.{Kind}
use Rattle.pst_base.specs.declared.names.Kind.TheVariants as kinds
use Rattle.pst_grammar.specs.Syntax as tree
use Rattle.pst_program.specs.Syntax as program
use Rattle.pst_program.specs.Typed as typed
use Rattle.pst_program.specs.Procedures.{MayWrite}
use Rattle.pst_typing.specs.declared.fault.TypeFault.TheVariants.{Mismatch}
use Rattle.pst_typing.specs.Names.{Scope, Setting, Signature, Variable, IsLocal, IsRoot, named, kind_of, is_known, variable}
use Rattle.pst_typing.specs.Expressions.{Int, Truth, same_sort, sort_of, object, plain_field, array_field, judged, fitted, of_sort}
use Rattle.pst_typing.specs.Statements.{assigned, stored, element_stored, written, made, arguments, received, called, returned, statement, block}
use Rattle.pst_typing.proofs.Passed.{passed, first_passed, found_passed, same_ok, of_ok}
use Rattle.pst_typing.proofs.Sorts.{Sound, number_is, sort_for_kind, same_sort_is, LocalsHave, GoodVariable, good_object, good_variable, good_plain, good_array, good_judged, good_fitted, good_of_sort}

-- each parameter is of a declared type
abbrev pub KnownEach : Scope → List tree.LocalText → Type 0
KnownEach scope [] = Unit {0}
KnownEach scope (l ∷ ls) = (is_known scope l.kind ≡ true) × KnownEach scope ls

abbrev pub KnownResult : Scope → Option tree.TypeWord → Type 0
KnownResult scope None = Unit {0}
KnownResult scope (Some kind) = is_known scope kind ≡ true

-- a procedure of the program is as its declaration says
pub record Callee (r : program.Routines) (scope : Scope) (s : Signature) : Type 0 where
  pub callee : program.Procedure
  pub at : slice_get r.procedures s.number.0 ≡ Some callee
  pub query : callee.query ≡ s.query
  pub parameters : typed.parameters_of callee ≡ map (λ (l : tree.LocalText). kind_of scope l.kind) s.parameters
  pub known : KnownEach scope s.parameters
  pub result : callee.result ≡ option_map (kind_of scope) s.result

-- a procedure of the program, and the setting of its statements
pub record IsSettingOf (r : program.Routines) (p : program.Procedure) (setting : Setting) : Type 0 where
  pub sound : Sound setting.scope r.shape
  pub have : LocalsHave r.shape setting p.kinds
  pub query : p.query ≡ setting.query
  pub result : p.result ≡ option_map (kind_of setting.scope) setting.result
  pub result_known : KnownResult setting.scope setting.result
  pub calls : (x : List ℕ) (s : Signature) → named x setting.scope.procedures ≡ Some s → Callee r setting.scope s

fits_is : (o : Option Kind) (s : Option typed.Sort) (k : Kind) → o ≡ Some k → s ≡ Some (typed.Of k) → typed.Fits o s
fits_is o s k e h = subst (λ (x : Option Kind). typed.Fits x s) (sym e) h

no_query : (b : Bool) → not b ≡ true → b ≡ false
no_query true e = cc
no_query false e = refl

queries_call : (b c : Bool) → (not b || c) ≡ true → b ≡ true → c ≡ true
queries_call true c e q = e
queries_call false c e q = cc

same_kinds : (scope : Scope) (a b : tree.TypeWord) → same_sort (sort_of a) (sort_of b) ≡ true → kind_of scope a ≡ kind_of scope b
same_kinds scope a b e = of_is _ _ (sym (sort_for_kind scope a) ∙ same_sort_is scope (sort_of a) (sort_of b) e ∙ sort_for_kind scope b)
  where
    of_is : (j k : Kind) → typed.Of j ≡ typed.Of k → j ≡ k
    of_is j k e = cc

lengths : (m n : ℕ) → (m == n) ≡ true → m ≡ n
lengths m n e = grind (arith, nat_tests)

module _ (r : program.Routines) (p : program.Procedure) (setting : Setting) (stands : IsSettingOf r p setting) where
  may_write : not setting.query ≡ true → MayWrite (typed.signature p)
  may_write e = stands.query ∙ no_query setting.query e

  good_assigned : (line : ℕ) (v : Variable) (e : tree.Expr) (a : program.Action) → GoodVariable r.shape setting p.kinds v → assigned setting line v e ≡ Ok a → typed.IsTypedAction r p a
  good_assigned line (IsLocal l) e a g is =
      let q = first_passed (fitted setting line l.kind e) _ a is in
      of_ok (λ (x : program.Action). typed.IsTypedAction r p x) (program.Set l.number q.0) a
      (fits_is _ _ (kind_of setting.scope l.kind) g.0 (good_fitted r.shape setting p.kinds stands.sound stands.have line l.kind e q.0 g.1 q.1.0)) q.1.1
  good_assigned line (IsRoot s) e a g is =
      let w = passed (not setting.query) _ _ a is in
      let q = first_passed (fitted setting line s.kind e) _ a w.1 in
      of_ok (λ (x : program.Action). typed.IsTypedAction r p x) (program.SetRoot s.slot q.0) a
      (may_write w.0, fits_is _ _ (kind_of setting.scope s.kind) g.0 (good_fitted r.shape setting p.kinds stands.sound stands.have line s.kind e q.0 g.1 q.1.0)) q.1.1

  good_stored : (line : ℕ) (o : tree.Expr) (f : List ℕ) (e : tree.Expr) (a : program.Action) → stored setting line o f e ≡ Ok a → typed.IsTypedAction r p a
  good_stored line o f e a is =
      let j = first_passed (judged setting line o) _ a is in
      let b = first_passed (object line j.0) _ a j.1.1 in
      let s = first_passed (plain_field setting line b.0.type f) _ a b.1.1 in
      let w = passed (not setting.query) _ _ a s.1.1 in
      let q = first_passed (fitted setting line s.0.kind e) _ a w.1 in
      let g = good_object r.shape setting p.kinds line j.0 b.0 (good_judged r.shape setting p.kinds stands.sound stands.have line o j.0 j.1.0) b.1.0 in
      let at = good_plain r.shape setting p.kinds stands.sound line b.0.type f s.0 s.1.0 in
      of_ok (λ (x : program.Action). typed.IsTypedAction r p x) (program.Store b.0.pointer s.0.slot q.0) a (
        may_write w.0,
        fits_is _ _ (kind_of setting.scope s.0.kind) (ap (λ x. typed.field_of r.shape x s.0.slot) g.is ∙ at.0)
            (good_fitted r.shape setting p.kinds stands.sound stands.have line s.0.kind e q.0 at.1 q.1.0),
      ) q.1.1

  good_element_stored : (line : ℕ) (o : tree.Expr) (f : List ℕ) (i e : tree.Expr) (a : program.Action) → element_stored setting line o f i e ≡ Ok a → typed.IsTypedAction r p a
  good_element_stored line o f i e a is =
      let j = first_passed (judged setting line o) _ a is in
      let b = first_passed (object line j.0) _ a j.1.1 in
      let s = first_passed (array_field setting line b.0.type f) _ a b.1.1 in
      let w = passed (not setting.query) _ _ a s.1.1 in
      let k = first_passed (of_sort setting line Int i) _ a w.1 in
      let q = first_passed (fitted setting line s.0.kind e) _ a k.1.1 in
      let g = good_object r.shape setting p.kinds line j.0 b.0 (good_judged r.shape setting p.kinds stands.sound stands.have line o j.0 j.1.0) b.1.0 in
      let at = good_array r.shape setting p.kinds stands.sound line b.0.type f s.0 s.1.0 in
      of_ok (λ (x : program.Action). typed.IsTypedAction r p x) (program.StoreIndexed b.0.pointer s.0.slot s.0.elements k.0 q.0) a (
        may_write w.0,
        good_of_sort r.shape setting p.kinds stands.sound stands.have line Int i k.0 k.1.0,
        fits_is _ _ (kind_of setting.scope s.0.kind) (ap (λ x. typed.array_of r.shape x s.0.slot s.0.elements) g.is ∙ at.is)
            (good_fitted r.shape setting p.kinds stands.sound stands.have line s.0.kind e q.0 at.known q.1.0),
      ) q.1.1

  good_written : (line : ℕ) (to e : tree.Expr) (a : program.Action) → written setting line to e ≡ Ok a → typed.IsTypedAction r p a
  good_written line (tree.Name x) e a is =
      let v = found_passed (variable setting x) _ _ a is in
      good_assigned line v.0 e a (good_variable r.shape setting p.kinds stands.sound x v.0 stands.have v.1.0) v.1.1
  good_written line (tree.Field o f) e a is = good_stored line o f e a is
  good_written line (tree.Indexed o f i) e a is = good_element_stored line o f i e a is
  good_written line (tree.Number n) e a is = cc
  good_written line tree.Null e a is = cc
  good_written line (tree.Parens b) e a is = cc
  good_written line (tree.Negate b) e a is = cc
  good_written line (tree.Not b) e a is = cc
  good_written line (tree.Binary op b c) e a is = cc

  good_made : (line : ℕ) (x ty : List ℕ) (a : program.Action) → made setting line x ty ≡ Ok a → typed.IsTypedAction r p a
  good_made line x ty a is =
      let l = found_passed (named x setting.locals) _ _ a is in
      let t = found_passed (named ty setting.scope.types) _ _ a l.1.1 in
      let w = passed (not setting.query) _ _ a t.1.1 in
      let s = passed (same_sort (sort_of l.0.kind) (sort_of (tree.Named ty))) _ _ a w.1 in
      let h = stands.sound.types_have ty t.0 t.1.0 in
      let at : slice_get p.kinds l.0.number ≡ Some (kinds.Pointer t.0.number) =
      (stands.have x l.0 l.1.0).0 ∙ ap Some (same_kinds setting.scope l.0.kind (tree.Named ty) s.0 ∙ ap kinds.Pointer (number_is setting.scope ty t.0 t.1.0)) in
      of_ok (λ (y : program.Action). typed.IsTypedAction r p y) (program.New l.0.number t.0.number) a (may_write w.0, (h.positive, h.below), at) s.1

  good_arguments : (line : ℕ) (ps : List tree.LocalText) (es : List tree.Expr) (vs : List program.Expr) → length es ≡ length ps → KnownEach setting.scope ps → arguments setting line ps es ≡ Ok vs →
      map (typed.sort_of r.shape p.kinds) vs ≡ map (λ (k : Kind). Some (typed.Of k)) (map (λ (l : tree.LocalText). kind_of setting.scope l.kind) ps)
  good_arguments line [] [] vs same known is = ap (map (typed.sort_of r.shape p.kinds)) (sym (same_ok _ _ is))
  good_arguments line [] (e ∷ es) vs same known is = absurd (omega arith)
  good_arguments line (l ∷ ps) [] vs same known is = absurd (omega arith)
  good_arguments line (l ∷ ps) (e ∷ es) vs same known is =
      let v = first_passed (fitted setting line l.kind e) _ vs is in
      let rest = first_passed (arguments setting line ps es) _ vs v.1.1 in
      let same_rest : length es ≡ length ps = omega arith in
      ap (map (typed.sort_of r.shape p.kinds)) (sym (same_ok _ _ rest.1.1))
      ∙ (λ i. good_fitted r.shape setting p.kinds stands.sound stands.have line l.kind e v.0 known.0 v.1.0 i ∷ good_arguments line ps es rest.0 same_rest known.1 rest.1.0 i)

  good_received : (line : ℕ) (result : Option tree.TypeWord) (to : Option (List ℕ)) (into : Option ℕ) → received setting line result to ≡ Ok into
      → typed.ResultFits p.kinds into (option_map (kind_of setting.scope) result)
  good_received line result None into is = of_ok (λ (x : Option ℕ). typed.ResultFits p.kinds x (option_map (kind_of setting.scope) result)) None into tt is
  good_received line None (Some x) into is =
      let l = found_passed (named x setting.locals) _ _ into is in
      let bad = passed false (Mismatch line) (Ok (Some l.0.number)) into l.1.1 in cc
  good_received line (Some kind) (Some x) into is =
      let l = found_passed (named x setting.locals) _ _ into is in
      let g = passed (same_sort (sort_of kind) (sort_of l.0.kind)) _ _ into l.1.1 in
      of_ok (λ (y : Option ℕ). typed.ResultFits p.kinds y (Some (kind_of setting.scope kind))) (Some l.0.number) into
      ((stands.have x l.0 l.1.0).0 ∙ ap Some (sym (same_kinds setting.scope kind l.0.kind g.0))) g.1

  good_called : (line : ℕ) (s : Signature) (to : Option (List ℕ)) (es : List tree.Expr) (a : program.Action) → Callee r setting.scope s → called setting line s to es ≡ Ok a → typed.IsTypedAction r p a
  good_called line s to es a c is =
      let q = passed (not setting.query || s.query) _ _ a is in
      let n = passed (length es == length s.parameters) _ _ a q.1 in
      let vs = first_passed (arguments setting line s.parameters es) _ a n.1 in
      let into = first_passed (received setting line s.result to) _ a vs.1.1 in
      let fits : typed.CallFits r.shape p into.0 vs.0 c.callee = record {
        reads = λ (t : IsTrue p.query). c.query ∙ queries_call setting.query s.query q.0 (sym stands.query ∙ t);
        arguments_fit = good_arguments line s.parameters es vs.0 (lengths (length es) (length s.parameters) n.0) c.known vs.1.0 ∙ ap (map (λ (k : Kind). Some (typed.Of k))) (sym c.parameters);
        result_fits = subst (λ (o : Option Kind). typed.ResultFits p.kinds into.0 o) (sym c.result) (good_received line s.result to into.0 into.1.0);
      } in
      of_ok (λ (x : program.Action). typed.IsTypedAction r p x) (program.Call into.0 s.number.0 vs.0) a
      (subst (λ (o : Option program.Procedure). typed.IsCall r.shape p into.0 vs.0 o) (sym c.at) fits) into.1.1

  good_returned : (line : ℕ) (wanted : Option tree.TypeWord) (e : Option tree.Expr) (a : program.Action)
      → p.result ≡ option_map (kind_of setting.scope) wanted → KnownResult setting.scope wanted → returned setting line wanted e ≡ Ok a
      → typed.IsTypedAction r p a
  good_returned line None None a result known is = of_ok (λ (x : program.Action). typed.IsTypedAction r p x) (program.Return None) a result is
  good_returned line None (Some e) a result known is = cc
  good_returned line (Some kind) None a result known is = cc
  good_returned line (Some kind) (Some e) a result known is =
      let q = first_passed (fitted setting line kind e) _ a is in
      of_ok (λ (x : program.Action). typed.IsTypedAction r p x) (program.Return (Some q.0)) a
      (fits_is _ _ (kind_of setting.scope kind) result (good_fitted r.shape setting p.kinds stands.sound stands.have line kind e q.0 known q.1.0)) q.1.1

  mutual
    good_statement : (line : ℕ) (s : tree.Phrase) (a : program.Action) → statement setting line s ≡ Ok a → typed.IsTypedAction r p a
    good_statement line (tree.New x ty) a is = good_made line x ty a is
    good_statement line (tree.Call to x es) a is =
        let s = found_passed (named x setting.scope.procedures) _ _ a is in
        good_called line s.0 to es a (stands.calls x s.0 s.1.0) s.1.1
    good_statement line (tree.Write to e) a is = good_written line to e a is
    good_statement line (tree.Print e) a is =
        let q = first_passed (of_sort setting line Int e) _ a is in
        of_ok (λ (x : program.Action). typed.IsTypedAction r p x) (program.Print q.0) a (good_of_sort r.shape setting p.kinds stands.sound stands.have line Int e q.0 q.1.0) q.1.1
    good_statement line (tree.If e first) a is =
        let q = first_passed (of_sort setting line Truth e) _ a is in
        let b = first_passed (block setting first) _ a q.1.1 in
        of_ok (λ (x : program.Action). typed.IsTypedAction r p x) (program.If q.0 b.0) a
        (good_of_sort r.shape setting p.kinds stands.sound stands.have line Truth e q.0 q.1.0, good_block first b.0 b.1.0) b.1.1
    good_statement line (tree.Either e first other) a is =
        let q = first_passed (of_sort setting line Truth e) _ a is in
        let b = first_passed (block setting first) _ a q.1.1 in
        let c = first_passed (block setting other) _ a b.1.1 in
        of_ok (λ (x : program.Action). typed.IsTypedAction r p x) (program.Either q.0 b.0 c.0) a
        (good_of_sort r.shape setting p.kinds stands.sound stands.have line Truth e q.0 q.1.0, good_block first b.0 b.1.0, good_block other c.0 c.1.0) c.1.1
    good_statement line (tree.While e body) a is =
        let q = first_passed (of_sort setting line Truth e) _ a is in
        let b = first_passed (block setting body) _ a q.1.1 in
        of_ok (λ (x : program.Action). typed.IsTypedAction r p x) (program.While q.0 b.0) a
        (good_of_sort r.shape setting p.kinds stands.sound stands.have line Truth e q.0 q.1.0, good_block body b.0 b.1.0) b.1.1
    good_statement line (tree.Return e) a is = good_returned line setting.result e a stands.result stands.result_known is

    pub good_block : (b : tree.Phrases) (actions : program.Actions) → block setting b ≡ Ok actions → typed.IsTypedBlock r p actions
    good_block tree.Empty actions is = of_ok (λ (x : program.Actions). typed.IsTypedBlock r p x) program.Empty actions tt is
    good_block (tree.Then line s rest) actions is =
        let a = first_passed (statement setting line s) _ actions is in
        let more = first_passed (block setting rest) _ actions a.1.1 in
        of_ok (λ (x : program.Actions). typed.IsTypedBlock r p x) (program.Then line a.0 more.0) actions (good_statement line s a.0 a.1.0, good_block rest more.0 more.1.0) more.1.1

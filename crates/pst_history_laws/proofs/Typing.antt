-- The checks of typing hand lines to faults alone.
use Rattle.std.proofs.Common.{◌≡◌, ℕ, ◌+◌, Option, Some, None, Bool, true, false, List, [], ◌∷◌, ◌++◌, map, length, refl, sym, ap, ◌∙◌, subst, Result, Ok}
use Rattle.std.specs.Prelude.{not, ◌==◌, ◌&&◌, is_some, nat_lt, nat_le, bytes_eq}
use Rattle.std.specs.Option.{option_map}
use Rattle.std.proofs.lemmas.List.{length-map, map-append}
use Rattle.std.proofs.lemmas.Map.Made.{lookup-map_values}
use Rattle.pst_base.specs.declared.names.Op.{Op}
use Rattle.pst_base.specs.declared.names.Op.TheVariants.{Add, Sub, Mul, Div, Rem, Equal, NotEqual, Less, LessEqual, Greater, GreaterEqual, And, Or}
use Rattle.pst_base.specs.declared.shape.TheConstants.{MOST_ROOTS, MOST_ELEMENTS}
use Rattle.pst_grammar.specs.Syntax as tree
use Rattle.pst_program.specs.Syntax as program
use Rattle.pst_typing.specs.declared.fault.TypeFault.{TypeFault}
use Rattle.pst_typing.specs.declared.fault.TypeFault.TheVariants.{Unknown, Mismatch, QueryWrites, Duplicate, Limit, TooMany}
use Rattle.pst_typing.specs.Answers.{and_then, check, found, through}
use Rattle.pst_typing.specs.Names.{RecordType, Member, Members, no_members, with_new_member, with_field, members_from, field_line, field_name, field_kind}
use Rattle.pst_typing.specs.Names.{field_elements, is_length_of, length_in, Scope, Setting, Signature, Slot, Variable, IsLocal, IsRoot, Local, named, is_named}
use Rattle.pst_typing.specs.Names.{is_free, kind_of, is_known, field_named, variable as variable_of, nothing_declared, elements_of}
use Rattle.pst_typing.specs.Expressions.{Sort, Int, Truth, Pointer, Judged, Bare, Known, Object, Array, operand, object, plain_field, array_field, loaded}
use Rattle.pst_typing.specs.Expressions.{at_index, operation, null_beside, equality, combined, judged, fits, fitted, of_sort, same_sort, sort_of}
use Rattle.pst_typing.specs.Statements.{assigned, stored, element_stored, written, made, arguments, received, called, returned, statement, block}
use Rattle.pst_typing.specs.Declarations.{noted, limit_of, elements_with, is_new, field, with_targets, targets_of, shape_of, names_of, variable}
use Rattle.pst_typing.specs.Declarations.{is_result_known, procedure, NamedProgram, declared, root_alone}
use Rattle.pst_notation.specs.Lines.{phrase_lineless, block_lineless, field_lineless, local_lineless, item_lineless}
use Rattle.pst_history_laws.specs.Lines.{action_lineless, actions_lineless, procedure_lineless}
use Rattle.pst_history_laws.specs.Alike.{Agree, Oks, Errs, ProgramAlike}
use Rattle.pst_history_laws.specs.LawsLines.{TypingLaw}

-- ---- what is declared, without lines

abbrev signature_lineless : Signature → Signature
signature_lineless s = record { number = s.number; query = s.query; parameters = map local_lineless s.parameters; result = s.result }

abbrev scope_lineless : Scope → Scope
scope_lineless s = record { types = s.types; roots = s.roots; procedures = map (λ p. (p.0, signature_lineless p.1)) s.procedures }

abbrev setting_lineless : Setting → Setting
setting_lineless s = record { scope = scope_lineless s.scope; query = s.query; result = s.result; locals = s.locals }

-- ---- checks one after another

abbrev Same : {A : Type 0} → A → A → Type 0
Same a b = a ≡ b

and-both : {A B C D : Type 0} (R : A → B → Type 0) (S : C → D → Type 0) (x : Result A TypeFault) (y : Result B TypeFault) → Agree R x y
    → (f : A → Result C TypeFault) (g : B → Result D TypeFault) → ((a : A) (b : B) → R a b → Agree S (f a) (g b))
    → Agree S (and_then x f) (and_then y g)
and-both R S x y (Oks a b p) f g q = q a b p
and-both R S x y (Errs u v) f g q = Errs u v

and-same : {A C D : Type 0} (S : C → D → Type 0) (x y : Result A TypeFault) → Agree Same x y
    → (f : A → Result C TypeFault) (g : A → Result D TypeFault) → ((a : A) → Agree S (f a) (g a)) → Agree S (and_then x f) (and_then y g)
and-same S x y p f g q = and-both Same S x y p f g (λ a b e. subst (λ b. Agree S (f a) (g b)) e (q a))

check-both : {C D : Type 0} (S : C → D → Type 0) (b c : Bool) → b ≡ c → (f g : TypeFault) (x : Result C TypeFault) (y : Result D TypeFault) → Agree S x y → Agree S (check b f x) (check c g y)
check-both S true true e f g x y p = p
check-both S false false e f g x y p = Errs f g
check-both S true false e f g x y p = absurd (cc)
check-both S false true e f g x y p = absurd (cc)

found-both : {A C D : Type 0} (S : C → D → Type 0) (o : Option A) (f g : TypeFault) (k : A → Result C TypeFault) (l : A → Result D TypeFault)
    → ((a : A) → Agree S (k a) (l a)) → Agree S (found o f k) (found o g l)
found-both S None f g k l p = Errs f g
found-both S (Some a) f g k l p = p a

-- ---- look-ups

kind-same : (s : Scope) (k : tree.TypeWord) → kind_of s k ≡ kind_of (scope_lineless s) k
kind-same s tree.Int = refl
kind-same s (tree.Named t) = refl

known-same : (s : Scope) (k : tree.TypeWord) → is_known s k ≡ is_known (scope_lineless s) k
known-same s tree.Int = refl
known-same s (tree.Named t) = refl

-- ---- expressions

operand-same : (l k : ℕ) (s : Sort) (j : Judged) → Agree Same (operand l s j) (operand k s j)
operand-same l k s Bare = Errs _ _
operand-same l k s (Known e other) = check-both Same (same_sort other s) (same_sort other s) refl _ _ _ _ (Oks _ _ refl)

object-same : (l k : ℕ) (j : Judged) → Agree Same (object l j) (object k j)
object-same l k Bare = Errs _ _
object-same l k (Known e Int) = Errs _ _
object-same l k (Known e Truth) = Errs _ _
object-same l k (Known e (Pointer t)) = Oks _ _ refl

operation-same : (l k : ℕ) (op : Op) (s r : Sort) (a b : Judged) → Agree Same (operation l op s r a b) (operation k op s r a b)
operation-same l k op s r a b = and-same Same _ _ (operand-same l k s a) _ _ (λ x. and-same Same _ _ (operand-same l k s b) _ _ (λ y. Oks _ _ refl))

module _ (st : Setting) where
  abbrev st' : Setting
  st' = setting_lineless st

  plain-same : (l k : ℕ) (t x : List ℕ) → Agree Same (plain_field st l t x) (plain_field st' k t x)
  plain-same l k t x = found-both Same (field_named st.scope t x) _ _ _ _ (λ f. check-both Same _ _ refl _ _ _ _ (Oks _ _ refl))

  array-same : (l k : ℕ) (t x : List ℕ) → Agree Same (array_field st l t x) (array_field st' k t x)
  array-same l k t x = found-both Same (field_named st.scope t x) _ _ _ _ (λ f. found-both Same f.elements _ _ _ _ (λ n. Oks _ _ refl))

  null-same : (l k : ℕ) (e : tree.Expr) (s : Sort) → Agree Same (null_beside st l e s) (null_beside st' k e s)
  null-same l k e Int = Errs _ _
  null-same l k e Truth = Errs _ _
  null-same l k e (Pointer t) = Oks _ _ refl

  equality-same : (l k : ℕ) (op : Op) (a b : tree.Expr) (x y : Judged) → Agree Same (equality st l op a b x y) (equality st' k op a b x y)
  equality-same l k op a b Bare Bare = Errs _ _
  equality-same l k op a b Bare (Known r s) = and-same Same _ _ (null-same l k a s) _ _ (λ v. Oks _ _ refl)
  equality-same l k op a b (Known x s) Bare = and-same Same _ _ (null-same l k b s) _ _ (λ v. Oks _ _ refl)
  equality-same l k op a b (Known x s) (Known y r) = check-both Same _ _ refl _ _ _ _ (Oks _ _ refl)

  combined-same : (l k : ℕ) (op : Op) (a b : tree.Expr) (x y : Judged) → Agree Same (combined st l op a b x y) (combined st' k op a b x y)
  combined-same l k Add a b x y = operation-same l k Add Int Int x y
  combined-same l k Sub a b x y = operation-same l k Sub Int Int x y
  combined-same l k Mul a b x y = operation-same l k Mul Int Int x y
  combined-same l k Div a b x y = operation-same l k Div Int Int x y
  combined-same l k Rem a b x y = operation-same l k Rem Int Int x y
  combined-same l k Equal a b x y = equality-same l k Equal a b x y
  combined-same l k NotEqual a b x y = equality-same l k NotEqual a b x y
  combined-same l k Less a b x y = operation-same l k Less Int Truth x y
  combined-same l k LessEqual a b x y = operation-same l k LessEqual Int Truth x y
  combined-same l k Greater a b x y = operation-same l k Greater Int Truth x y
  combined-same l k GreaterEqual a b x y = operation-same l k GreaterEqual Int Truth x y
  combined-same l k And a b x y = operation-same l k And Truth Truth x y
  combined-same l k Or a b x y = operation-same l k Or Truth Truth x y

  loaded-same : (o : Object) (f : Slot) → loaded st o f ≡ loaded st' o f
  loaded-same o f = ap (λ k. Known (program.Load o.pointer f.slot k) (sort_of f.kind)) (kind-same st.scope f.kind)

  index-same : (o : Object) (a : Array) (i : program.Expr) → at_index st o a i ≡ at_index st' o a i
  index-same o a i = ap (λ k. Known (program.LoadIndexed o.pointer a.slot a.elements i k) (sort_of a.kind)) (kind-same st.scope a.kind)

  judged-same : (e : tree.Expr) (l k : ℕ) → Agree Same (judged st l e) (judged st' k e)
  judged-same (tree.Number n) l k = Oks _ _ refl
  judged-same tree.Null l k = Oks _ _ refl
  judged-same (tree.Name x) l k = found-both Same (variable_of st x) _ _ _ _ (λ v. Oks _ _ refl)
  judged-same (tree.Parens e) l k = and-same Same _ _ (judged-same e l k) _ _ (λ j. Oks _ _ refl)
  judged-same (tree.Field e f) l k =
      and-same Same _ _ (judged-same e l k) _ _ (λ j. and-same Same _ _ (object-same l k j) _ _ (λ o. and-same Same _ _ (plain-same l k o.type f) _ _ (λ s. Oks _ _ (loaded-same o s))))
  judged-same (tree.Indexed e f i) l k =
      and-same Same _ _ (judged-same e l k) _ _ (λ j. and-same Same _ _ (object-same l k j) _ _
      (λ o. and-same Same _ _ (array-same l k o.type f) _ _
      (λ a. and-same Same _ _ (judged-same i l k) _ _ (λ x. and-same Same _ _ (operand-same l k Int x) _ _ (λ i. Oks _ _ (index-same o a i))))))
  judged-same (tree.Negate e) l k = and-same Same _ _ (judged-same e l k) _ _ (λ j. and-same Same _ _ (operand-same l k Int j) _ _ (λ v. Oks _ _ refl))
  judged-same (tree.Not e) l k = and-same Same _ _ (judged-same e l k) _ _ (λ j. and-same Same _ _ (operand-same l k Truth j) _ _ (λ v. Oks _ _ refl))
  judged-same (tree.Binary op a b) l k = and-same Same _ _ (judged-same a l k) _ _ (λ x. and-same Same _ _ (judged-same b l k) _ _ (λ y. combined-same l k op a b x y))

  fits-same : (l k : ℕ) (w : tree.TypeWord) (e : tree.Expr) (j : Judged) → Agree Same (fits st l w e j) (fits st' k w e j)
  fits-same l k tree.Int e Bare = Errs _ _
  fits-same l k (tree.Named t) e Bare = Oks _ _ refl
  fits-same l k tree.Int e (Known v s) = check-both Same _ _ refl _ _ _ _ (Oks _ _ refl)
  fits-same l k (tree.Named t) e (Known v s) = check-both Same _ _ refl _ _ _ _ (Oks _ _ refl)

  fitted-same : (l k : ℕ) (w : tree.TypeWord) (e : tree.Expr) → Agree Same (fitted st l w e) (fitted st' k w e)
  fitted-same l k w e = and-same Same _ _ (judged-same e l k) _ _ (λ j. fits-same l k w e j)

  sort-same : (l k : ℕ) (s : Sort) (e : tree.Expr) → Agree Same (of_sort st l s e) (of_sort st' k s e)
  sort-same l k s e = and-same Same _ _ (judged-same e l k) _ _ (λ j. operand-same l k s j)

  -- ---- statements

  abbrev Action : program.Action → program.Action → Type 0
  Action a b = action_lineless a ≡ action_lineless b

  abbrev Block : program.Actions → program.Actions → Type 0
  Block a b = actions_lineless a ≡ actions_lineless b

  assigned-same : (l k : ℕ) (v : Variable) (e : tree.Expr) → Agree Action (assigned st l v e) (assigned st' k v e)
  assigned-same l k (IsLocal x) e = and-same Action _ _ (fitted-same l k x.kind e) _ _ (λ v. Oks _ _ refl)
  assigned-same l k (IsRoot x) e = check-both Action _ _ refl _ _ _ _ (and-same Action _ _ (fitted-same l k x.kind e) _ _ (λ v. Oks _ _ refl))

  stored-same : (l k : ℕ) (o : tree.Expr) (f : List ℕ) (e : tree.Expr) → Agree Action (stored st l o f e) (stored st' k o f e)
  stored-same l k o f e =
      and-same Action _ _ (judged-same o l k) _ _ (λ j. and-same Action _ _ (object-same l k j) _ _ (λ o. and-same Action _ _ (plain-same l k o.type f) _ _ (λ x.
      check-both Action _ _ refl _ _ _ _ (and-same Action _ _ (fitted-same l k x.kind e) _ _ (λ v. Oks _ _ refl)))))

  element-same : (l k : ℕ) (o : tree.Expr) (f : List ℕ) (i e : tree.Expr) → Agree Action (element_stored st l o f i e) (element_stored st' k o f i e)
  element-same l k o f i e =
      and-same Action _ _ (judged-same o l k) _ _ (λ j. and-same Action _ _ (object-same l k j) _ _ (λ o. and-same Action _ _ (array-same l k o.type f) _ _ (λ x.
      check-both Action _ _ refl _ _ _ _ (and-same Action _ _ (sort-same l k Int i) _ _ (λ y. and-same Action _ _ (fitted-same l k x.kind e) _ _ (λ v. Oks _ _ refl))))))

  written-same : (l k : ℕ) (to e : tree.Expr) → Agree Action (written st l to e) (written st' k to e)
  written-same l k (tree.Name x) e = found-both Action (variable_of st x) _ _ _ _ (λ v. assigned-same l k v e)
  written-same l k (tree.Field o f) e = stored-same l k o f e
  written-same l k (tree.Indexed o f i) e = element-same l k o f i e
  written-same l k (tree.Number n) e = Errs _ _
  written-same l k tree.Null e = Errs _ _
  written-same l k (tree.Parens p) e = Errs _ _
  written-same l k (tree.Negate p) e = Errs _ _
  written-same l k (tree.Not p) e = Errs _ _
  written-same l k (tree.Binary op a b) e = Errs _ _

  new-same : (l k : ℕ) (y : Local) (ty : List ℕ) (t : RecordType)
      → Agree Action (check (not st.query) (QueryWrites l) (check (same_sort (sort_of y.kind) (sort_of (tree.Named ty))) (Mismatch l) (Ok (program.New y.number t.number))))
      (check (not st.query) (QueryWrites k) (check (same_sort (sort_of y.kind) (sort_of (tree.Named ty))) (Mismatch k) (Ok (program.New y.number t.number))))
  new-same l k y ty t =
      check-both Action (not st.query) (not st.query) refl (QueryWrites l) (QueryWrites k) _ _
      (check-both Action (same_sort (sort_of y.kind) (sort_of (tree.Named ty))) (same_sort (sort_of y.kind) (sort_of (tree.Named ty))) refl
      (Mismatch l) (Mismatch k) (Ok (program.New y.number t.number)) (Ok (program.New y.number t.number)) (Oks _ _ refl))

  made-same : (l k : ℕ) (x ty : List ℕ) → Agree Action (made st l x ty) (made st' k x ty)
  made-same l k x ty = found-both Action (named x st.locals) _ _ _ _ (λ y. found-both Action (named ty st.scope.types) _ _ _ _ (λ t. new-same l k y ty t))

  arguments-same : (l k : ℕ) (ps : List tree.LocalText) (es : List tree.Expr) → Agree Same (arguments st l ps es) (arguments st' k (map local_lineless ps) es)
  arguments-same l k [] es = Oks _ _ refl
  arguments-same l k (p ∷ ps) [] = Oks _ _ refl
  arguments-same l k (p ∷ ps) (e ∷ es) = and-same Same _ _ (fitted-same l k p.kind e) _ _ (λ v. and-same Same _ _ (arguments-same l k ps es) _ _ (λ vs. Oks _ _ refl))

  received-same : (l k : ℕ) (r : Option tree.TypeWord) (to : Option (List ℕ)) → Agree Same (received st l r to) (received st' k r to)
  received-same l k r None = Oks _ _ refl
  received-same l k r (Some x) = found-both Same (named x st.locals) _ _ _ _ (λ y. check-both Same _ _ refl _ _ _ _ (Oks _ _ refl))

  called-same : (l k : ℕ) (s : Signature) (to : Option (List ℕ)) (es : List tree.Expr) → Agree Action (called st l s to es) (called st' k (signature_lineless s) to es)
  called-same l k s to es =
      check-both Action _ _ refl _ _ _ _ (check-both Action _ _ (ap (λ n. length es == n) (sym (length-map s.parameters local_lineless))) _ _ _ _ (
      and-same Action _ _ (arguments-same l k s.parameters es) _ _ (λ vs. and-same Action _ _ (received-same l k s.result to) _ _ (λ i. Oks _ _ refl))))

  returned-same : (l k : ℕ) (r : Option tree.TypeWord) (e : Option tree.Expr) → Agree Action (returned st l r e) (returned st' k r e)
  returned-same l k None None = Oks _ _ refl
  returned-same l k None (Some e) = Errs _ _
  returned-same l k (Some w) None = Errs _ _
  returned-same l k (Some w) (Some e) = and-same Action _ _ (fitted-same l k w e) _ _ (λ v. Oks _ _ refl)

  -- the signature of a procedure, and what is said of it
  sign-both : (l k : ℕ) (p : List ℕ) (go : Signature → Result program.Action TypeFault) (go' : Signature → Result program.Action TypeFault)
      (f g : TypeFault) → ((s : Signature) → Agree Action (go s) (go' (signature_lineless s)))
      → Agree Action (found (named p st.scope.procedures) f go) (found (named p st'.scope.procedures) g go')
  sign-both l k p go go' f g q = subst (λ o. Agree Action (found (named p st.scope.procedures) f go) (found o g go'))
      (sym (lookup-map_values signature_lineless (bytes_eq p) st.scope.procedures)) (on (named p st.scope.procedures))
    where
      on : (o : Option Signature) → Agree Action (found o f go) (found (option_map signature_lineless o) g go')
      on None = Errs _ _
      on (Some s) = q s

  mutual
    statement-same : (a : tree.Phrase) (l k : ℕ) → Agree Action (statement st l a) (statement st' k (phrase_lineless a))
    statement-same (tree.New x ty) l k = made-same l k x ty
    statement-same (tree.Call to p es) l k = sign-both l k p _ _ _ _ (λ s. called-same l k s to es)
    statement-same (tree.Write to e) l k = written-same l k to e
    statement-same (tree.Print e) l k = and-same Action _ _ (sort-same l k Int e) _ _ (λ v. Oks _ _ refl)
    statement-same (tree.If e first) l k = and-same Action _ _ (sort-same l k Truth e) _ _ (λ c. and-both Block Action _ _ (block-same first) _ _ (λ x y q. Oks _ _ (ap (program.If c) q)))
    statement-same (tree.Either e first other) l k =
        and-same Action _ _ (sort-same l k Truth e) _ _ (λ c. and-both Block Action _ _ (block-same first) _ _
        (λ x y q. and-both Block Action _ _ (block-same other) _ _
        (λ z w r. Oks _ _ (ap (λ v. program.Either c v (actions_lineless z)) q ∙ ap (program.Either c (actions_lineless y)) r))))
    statement-same (tree.While e body) l k = and-same Action _ _ (sort-same l k Truth e) _ _ (λ c. and-both Block Action _ _ (block-same body) _ _ (λ x y q. Oks _ _ (ap (program.While c) q)))
    statement-same (tree.Return e) l k = returned-same l k st.result e

    block-same : (b : tree.Phrases) → Agree Block (block st b) (block st' (block_lineless b))
    block-same tree.Empty = Oks _ _ refl
    block-same (tree.Then line a rest) = and-both Action Block _ _ (statement-same a line 0) _ _
        (λ x y q. and-both Block Block _ _ (block-same rest) _ _
        (λ z w r. Oks _ _ (ap (λ v. program.Then 0 v (actions_lineless z)) q ∙ ap (program.Then 0 (action_lineless y)) r)))

-- ---- declarations

-- the names after a declaration
abbrev Noted : Scope → Scope → Type 0
Noted a b = b ≡ scope_lineless a

named-mapped : (x : List ℕ) (ps : List (List ℕ × Signature)) → is_named x (map (λ p. (p.0, signature_lineless p.1)) ps) ≡ is_named x ps
named-mapped x ps = ap is_some (lookup-map_values signature_lineless (bytes_eq x) ps) ∙ on (named x ps)
  where
    on : (o : Option Signature) → is_some (option_map signature_lineless o) ≡ is_some o
    on None = refl
    on (Some s) = refl

free-same : (s : Scope) (x : List ℕ) → is_free s x ≡ is_free (scope_lineless s) x
free-same s x = ap (λ b. not (is_named x s.types) && (not (is_named x s.roots.list) && not b)) (sym (named-mapped x s.procedures))

with-same : (m : Members) (f : tree.FieldText) → with_new_member m (field_lineless f) ≡ with_new_member m f
with-same m (tree.Val line x n) = refl
with-same m (tree.Ptr line x t n) = refl

members-same : (m : Members) (fs : List tree.FieldText) → members_from m (map field_lineless fs) ≡ members_from m fs
members-same m [] = refl
members-same m (f ∷ fs) = ap (λ n. members_from n (map field_lineless fs)) (with-same m f) ∙ members-same (with_new_member m f) fs

noted-same : (s : Scope) (i : tree.Item) → Agree Noted (noted s i) (noted (scope_lineless s) (item_lineless i))
noted-same s (tree.Record line x limit fields) =
    check-both Noted (nat_lt (length s.types) 64) (nat_lt (length s.types) 64) refl (TooMany line) (TooMany 0) _ _ (
    check-both Noted (is_free s x) (is_free (scope_lineless s) x) (free-same s x) (Duplicate line) (Duplicate 0) _ _ (Oks _ _
    (ap (λ m. record {
      types = s.types ++ (x, record { number = record { 0 = length s.types + 1 }; members = m }) ∷ [];
      roots = s.roots;
      procedures =
          map (λ p. (p.0, signature_lineless p.1)) s.procedures;
    }) (members-same no_members fields))))
noted-same s (tree.Root line x kind) =
    check-both Noted (nat_lt (length s.roots.list) MOST_ROOTS) (nat_lt (length s.roots.list) MOST_ROOTS) refl (TooMany line) (TooMany 0) _ _ (
    check-both Noted (is_free s x) (is_free (scope_lineless s) x) (free-same s x) (Duplicate line) (Duplicate 0) _ _ (Oks _ _ refl))
noted-same s (tree.Procedure p) =
    let f : List ℕ × Signature → List ℕ × Signature = λ p. (p.0, signature_lineless p.1) in
    let many : length (map f s.procedures) ≡ length s.procedures = length-map s.procedures f in
    check-both Noted (nat_lt (length s.procedures) 256) (nat_lt (length (map f s.procedures)) 256) (ap (λ n. nat_lt n 256) (sym many)) (TooMany p.line) (TooMany 0) _ _ (
    check-both Noted (is_free s p.name) (is_free (scope_lineless s) p.name) (free-same s p.name) (Duplicate p.line) (Duplicate 0) _ _ (Oks _ _
    (ap (λ n. record {
      types = s.types;
      roots = s.roots;
      procedures =
          map f s.procedures ++ (
            p.name,
            record {
              number = record { 0 = n };
              query = p.query;
              parameters = map local_lineless p.parameters;
              result =
                  p.result;
            },
          ) ∷ [];
    }) many
    ∙ ap (λ ps. record { types = s.types; roots = s.roots; procedures = ps })
    (sym (map-append f s.procedures ((
      p.name,
      record {
        number = record { 0 = length s.procedures };
        query = p.query;
        parameters =
            p.parameters;
        result = p.result;
      },
    ) ∷ []))))))

through-both : {S T A : Type 0} (R : S → T → Type 0) (judge : S → A → Result S TypeFault) (judge' : T → A → Result T TypeFault) (f : A → A)
    → ((s : S) (t : T) (a : A) → R s t → Agree R (judge s a) (judge' t (f a))) → (xs : List A) (s : S) (t : T) → R s t
    → Agree R (through judge s xs) (through judge' t (map f xs))
through-both R judge judge' f q [] s t r = Oks s t r
through-both R judge judge' f q (x ∷ xs) s t r = and-both R R _ _ (q s t x r) _ _ (λ a b p. through-both R judge judge' f q xs a b p)

module _ (s : Scope) where
  abbrev s' : Scope
  s' = scope_lineless s

  field-same : (m : Members) (f : tree.FieldText) → Agree Same (field s m f) (field s' m (field_lineless f))
  field-same m f =
      let n = field_lineless f in
      let g = with_field m f in
      check-both Same (nat_lt (length m.list) 16) (nat_lt (length m.list) 16) refl (TooMany (field_line f)) (TooMany (field_line n)) _ _ (
      check-both Same (not (is_named (field_name f) m.list)) (not (is_named (field_name n) m.list)) (ap (λ x. not (is_named x m.list)) (name-same f))
      (Duplicate (field_line f)) (Duplicate (field_line n)) _ _ (
      check-both Same (is_length_of (field_elements f)) (is_length_of (field_elements n)) (ap is_length_of (elements-same f)) (Limit (field_line f)) (Limit (field_line n)) _ _ (
      check-both Same (nat_le (elements_with m f) MOST_ELEMENTS) (nat_le (elements_with m n) MOST_ELEMENTS)
      (ap (λ e. nat_le (m.values + m.pointers + elements_of (length_in e)) MOST_ELEMENTS) (elements-same f)) (TooMany (field_line f))
      (TooMany (field_line n)) _ _ (
      check-both Same (is_known s (field_kind f)) (is_known s' (field_kind n)) (known-same s (field_kind f) ∙ ap (is_known s') (word-same f))
      (Unknown (field_line f)) (Unknown (field_line n)) (Ok (with_field m f)) (Ok (with_field m n)) (Oks _ _ (field-kept f))))))
    where
      name-same : (f : tree.FieldText) → field_name f ≡ field_name (field_lineless f)
      name-same (tree.Val line x n) = refl
      name-same (tree.Ptr line x t n) = refl

      elements-same : (f : tree.FieldText) → field_elements f ≡ field_elements (field_lineless f)
      elements-same (tree.Val line x n) = refl
      elements-same (tree.Ptr line x t n) = refl

      word-same : (f : tree.FieldText) → field_kind f ≡ field_kind (field_lineless f)
      word-same (tree.Val line x n) = refl
      word-same (tree.Ptr line x t n) = refl

      field-kept : (f : tree.FieldText) → with_field m f ≡ with_field m (field_lineless f)
      field-kept (tree.Val line x n) = refl
      field-kept (tree.Ptr line x t n) = refl

  variable-same : (most : ℕ) (before : List (List ℕ × Local)) (l : tree.LocalText) → Agree Same (variable s most before l) (variable s' most before (local_lineless l))
  variable-same most before l =
      let one : List (List ℕ × Local) = before ++ (l.name, record { number = length before; kind = l.kind }) ∷ [] in
      check-both Same (nat_lt (length before) most) (nat_lt (length before) most) refl (TooMany l.line) (TooMany 0) _ _ (
      check-both Same (is_new s before l.name) (is_new s' before l.name) refl (Duplicate l.line) (Duplicate 0) _ _ (
      check-both Same (is_known s l.kind) (is_known s' l.kind) (known-same s l.kind) (Unknown l.line) (Unknown 0) (Ok one) (Ok one) (Oks one one refl)))

  variables-same : (most : ℕ) (ls : List tree.LocalText) (before : List (List ℕ × Local)) → Agree Same (through (variable s most) before ls) (through (variable s' most) before (map local_lineless ls))
  variables-same most ls before = through-both Same (variable s most) (variable s' most) local_lineless
      (λ a b l e. subst (λ b. Agree Same (variable s most a l) (variable s' most b (local_lineless l))) e (variable-same most a l)) ls before before refl

  result-same : (r : Option tree.TypeWord) → is_result_known s r ≡ is_result_known s' r
  result-same None = refl
  result-same (Some w) = known-same s w

  result-kind : (r : Option tree.TypeWord) → option_map (kind_of s) r ≡ option_map (kind_of s') r
  result-kind None = refl
  result-kind (Some w) = ap Some (kind-same s w)

  kinds-same : (vs : List (List ℕ × Local)) → map (λ v. kind_of s v.1.kind) vs ≡ map (λ v. kind_of s' v.1.kind) vs
  kinds-same [] = refl
  kinds-same (v ∷ vs) = ap (λ k. k ∷ map (λ v. kind_of s v.1.kind) vs) (kind-same s v.1.kind) ∙ ap (λ ks. kind_of s' v.1.kind ∷ ks) (kinds-same vs)

  abbrev Proc : program.Procedure → program.Procedure → Type 0
  Proc a b = procedure_lineless a ≡ procedure_lineless b

  procedure-same : (p : tree.ProcedureText) (q : tree.ProcedureText)
      → q ≡ record {
        line = 0;
        query = p.query;
        name = p.name;
        parameters = map local_lineless p.parameters;
        result = p.result;
        locals =
            map local_lineless p.locals;
        body = block_lineless p.body;
      } → Agree Proc (procedure s p) (procedure s' q)
  procedure-same p q e = subst (λ q. Agree Proc (procedure s p) (procedure s' q)) (sym e)
      (and-same Proc _ _ (variables-same 8 p.parameters []) _ _ (λ ps. check-both Proc _ _ (result-same p.result) _ _ _ _ (
      and-same Proc _ _ (variables-same (length ps + 64) p.locals ps) _ _ (λ vs.
      and-both (λ a b. actions_lineless a ≡ actions_lineless b) Proc _ _ (block-same (record { scope = s; query = p.query; result = p.result; locals = vs }) p.body) _ _ (λ a b r.
      Oks _ _ (λ i. record { name = p.name; query = p.query; arguments = length ps; result = result-kind p.result i; kinds = kinds-same vs i; body = r i }))))))

  targets-same : (ms : List (List ℕ × Member)) → targets_of s ms ≡ targets_of s' ms
  targets-same [] = refl
  targets-same (m ∷ ms) = on m.1.kind ∙ ap (with_targets s' m.1.kind (elements_of m.1.elements)) (targets-same ms)
    where
      on : (k : tree.TypeWord) → with_targets s k (elements_of m.1.elements) (targets_of s ms) ≡ with_targets s' k (elements_of m.1.elements) (targets_of s ms)
      on tree.Int = refl
      on (tree.Named t) = refl

  shape-same : (limit : ℕ) (m : Members) → shape_of s limit m ≡ shape_of s' limit m
  shape-same limit m = ap (λ ts. record { values = m.values; targets = ts; limit = limit }) (targets-same m.list)

  declared-same : (a b : NamedProgram) (i : tree.Item) → ProgramAlike a b → Agree ProgramAlike (declared s a i) (declared s' b (item_lineless i))
  declared-same a b (tree.Record line x limit fields) r =
      found-both ProgramAlike (limit_of limit) _ _ _ _ (λ n.
      and-same ProgramAlike _ _ (through-both Same (field s) (field s') field_lineless
      (λ m m' f e. subst (λ m'. Agree Same (field s m f) (field s' m' (field_lineless f))) e (field-same m f)) fields no_members no_members refl) _ _ (λ m.
      Oks _ _ (record {
        shape = ap (λ z. z ++ shape_of s n m ∷ []) r.shape ∙ ap (λ t. b.shape ++ t ∷ []) (shape-same n m);
        names = ap (λ z. z ++ names_of x m ∷ []) r.names;
        procedures = r.procedures;
      })))
  declared-same a b (tree.Root line x kind) r = check-both ProgramAlike _ _ (known-same s kind) _ _ _ _ (Oks _ _ r)
  declared-same a b (tree.Procedure p) r =
      and-both Proc ProgramAlike _ _ (procedure-same p _ refl) _ _ (λ x y q. Oks _ _ (record {
        shape = r.shape;
        names = r.names;
        procedures = map-append procedure_lineless a.procedures (x ∷ []) ∙ ap (λ z. z ++ procedure_lineless x ∷ []) r.procedures
            ∙ ap (λ z. map procedure_lineless b.procedures ++ z ∷ []) q ∙ sym (map-append procedure_lineless b.procedures (y ∷ []));
      }))

  root-same : ProgramAlike (root_alone s) (root_alone s')
  root-same = record { shape = ap (λ t. t ∷ []) (shape-same 1 s.roots); names = refl; procedures = refl }

pub typing_law : TypingLaw
typing_law items =
    and-both Noted ProgramAlike _ _ (through-both Noted noted noted item_lineless
    (λ s t i e. subst (λ t. Agree Noted (noted s i) (noted t (item_lineless i))) (sym e) (noted-same s i)) items nothing_declared nothing_declared refl) _ _
    (λ s t e. subst (λ t. Agree ProgramAlike (through (declared s) (root_alone s) items) (through (declared t) (root_alone t) (map item_lineless items))) (sym e)
    (through-both ProgramAlike (declared s) (declared (scope_lineless s)) item_lineless (λ a b i r. declared-same s a b i r) items (root_alone s) (root_alone (scope_lineless s)) (root-same s)))

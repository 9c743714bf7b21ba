-- Expressions that are accepted are well typed.
use Rattle.std.proofs.Common.{◌≡◌, ℕ, ◌+◌, ◌<◌, ◌≤◌, true, not, ◌&&◌, is_some, nat_lt, List, length, Option, Some, None, slice_get, Ok, unwrap_or, refl, sym, ap, subst, ◌∙◌, arith}
use Rattle.std.specs.Option.{option_map, option_and_then, option_eq}
use Rattle.std.proofs.lemmas.Bool.{lt-ltb}
use Rattle.std.proofs.lemmas.Slice.Eq.{bytes_eq-Decides}
use Rattle.pst_base.specs.declared.names.Op.{Op}
use Rattle.pst_base.specs.declared.names.Op.TheVariants.{Add, Sub, Mul, Div, Rem, Equal, NotEqual, Less, LessEqual, Greater, GreaterEqual, And, Or}
use Rattle.pst_base.specs.declared.names.TypeNo.{TypeNo}
use Rattle.pst_base.specs.declared.names.Kind.{Kind}
use Rattle.pst_base.specs.declared.names.Kind.TheVariants as kinds
use Rattle.pst_base.specs.declared.shape.TypeShape.{TypeShape}
use Rattle.pst_base.specs.declared.shape.TheConstants.{MOST_ROOTS}
use Rattle.pst_base.specs.Shape as shape
use Rattle.pst_grammar.specs.Syntax as tree
use Rattle.pst_program.specs.Syntax as program
use Rattle.pst_program.specs.Typed as typed
use Rattle.pst_program.specs.Meaning.{is_target}
use Rattle.pst_typing.specs.Names.{Scope, Slot, Local, Setting, RecordType, Variable, IsLocal, IsRoot, named, is_named, slot_in, number_of, kind_of, is_known, field_named, local_or, variable}
use Rattle.pst_typing.specs.Declarations.{shape_of}
use Rattle.pst_typing.specs.Expressions.{Sort, Int, Truth, Pointer, same_sort, sort_of, Judged, Bare, Known, in_parens, null_of, operand, Object, object, Array}
use Rattle.pst_typing.specs.Expressions.{plain_field, array_field, named_value, loaded, field_loaded, at_index, element_loaded, operation, null_beside}
use Rattle.pst_typing.specs.Expressions.{can_equal, equality, combined, judged, fits, fitted, of_sort}
use Rattle.pst_typing.proofs.Passed.{passed, first_passed, found_passed, same_ok, of_ok, some_of}
use Rattle.pst_typing.proofs.Laid.{IsLaid, HasFew, AllKnown, same_kind_refl, slot_fits, array_fits, slot_known}

-- ---- look-ups in look-ups

bound_some : {A B : Type 0} (g : A → Option B) (o : Option A) (b : B) → option_and_then g o ≡ Some b → (a : A) × ((o ≡ Some a) × (g a ≡ Some b))
bound_some g None b e = cc
bound_some g (Some a) b e = (a, (refl, e))

-- ---- the declared names and the shape

-- a record type is an entry of the shape, with its fields
pub record HasShape (scope : Scope) (types : List TypeShape) (r : RecordType) : Type 0 where
  pub positive : 0 < r.number.0
  pub below : r.number.0 < length types
  pub limit : ℕ
  pub is : shape.type_at types r.number ≡ shape_of scope limit r.members
  pub laid : IsLaid scope r.members
  pub few : HasFew r.members
  pub known : AllKnown scope r.members.list

pub record Sound (scope : Scope) (types : List TypeShape) : Type 0 where
  pub types_have : (t : List ℕ) (r : RecordType) → named t scope.types ≡ Some r → HasShape scope types r
  pub root_is : shape.type_at types shape.root_type ≡ shape_of scope 1 scope.roots
  pub root_laid : IsLaid scope scope.roots
  pub root_few : scope.roots.values + scope.roots.pointers ≤ MOST_ROOTS
  pub root_known : AllKnown scope scope.roots.list

pub number_is : (scope : Scope) (t : List ℕ) (r : RecordType) → named t scope.types ≡ Some r → number_of scope t ≡ r.number
number_is scope t r e = ap (λ o. unwrap_or (option_map (λ (r : RecordType). r.number) o) shape.root_type) e

pub known_target : (scope : Scope) (types : List TypeShape) (t : List ℕ) → Sound scope types → is_named t scope.types ≡ true → shape.IsTarget types (number_of scope t)
known_target scope types t sound known =
    let p = some_of (named t scope.types) known in
    let h = sound.types_have t p.0 p.1 in
    subst (λ (n : TypeNo). shape.IsTarget types n) (sym (number_is scope t p.0 p.1)) (h.positive, h.below)

both_below : (n m : ℕ) → 0 < n → n < m → (nat_lt 0 n && nat_lt n m) ≡ true
both_below n m p q = ap (λ b. b && nat_lt n m) (lt-ltb 0 n p) ∙ lt-ltb n m q

-- ---- kinds

-- what a sort is, where types have numbers
abbrev pub sort_for : Scope → Sort → typed.Sort
sort_for scope Int = typed.Of kinds.Int
sort_for scope Truth = typed.Truth
sort_for scope (Pointer t) = typed.Of (kinds.Pointer (number_of scope t))

pub sort_for_kind : (scope : Scope) (kind : tree.TypeWord) → sort_for scope (sort_of kind) ≡ typed.Of (kind_of scope kind)
sort_for_kind scope tree.Int = refl
sort_for_kind scope (tree.Named t) = refl

abbrev pub KnownSort : Scope → Sort → Type 0
KnownSort scope Int = Unit {0}
KnownSort scope Truth = Unit {0}
KnownSort scope (Pointer t) = is_named t scope.types ≡ true

pub known_sort : (scope : Scope) (kind : tree.TypeWord) → is_known scope kind ≡ true → KnownSort scope (sort_of kind)
known_sort scope tree.Int known = tt
known_sort scope (tree.Named t) known = known

pub same_sort_is : (scope : Scope) (a b : Sort) → same_sort a b ≡ true → sort_for scope a ≡ sort_for scope b
same_sort_is scope Int Int e = refl
same_sort_is scope Int Truth e = cc
same_sort_is scope Int (Pointer t) e = cc
same_sort_is scope Truth Int e = cc
same_sort_is scope Truth Truth e = refl
same_sort_is scope Truth (Pointer t) e = cc
same_sort_is scope (Pointer s) Int e = cc
same_sort_is scope (Pointer s) Truth e = cc
same_sort_is scope (Pointer s) (Pointer t) e = ap (λ x. typed.Of (kinds.Pointer (number_of scope x))) ((bytes_eq-Decides s t).0 e)

-- two operands of an equality hold one kind
can_equal_kind : (scope : Scope) (a b : Sort) → can_equal a b ≡ true → (k : Kind) × ((sort_for scope a ≡ typed.Of k) × (sort_for scope b ≡ typed.Of k))
can_equal_kind scope Int b e = (kinds.Int, (refl, sym (same_sort_is scope Int b e)))
can_equal_kind scope Truth b e = cc
can_equal_kind scope (Pointer s) b e = (kinds.Pointer (number_of scope s), (refl, sym (same_sort_is scope (Pointer s) b e)))

compared_same : (k : Kind) → typed.compared (Some (typed.Of k)) (Some (typed.Of k)) ≡ Some typed.Truth
compared_same k = ap (λ b. typed.given b typed.Truth) (same_kind_refl k)

-- ---- expressions

module _ (types : List TypeShape) (setting : Setting) (ks : List Kind) where
  -- each parameter and local has its kind
  abbrev pub LocalsHave : Type 0
  LocalsHave = (x : List ℕ) (l : Local) → named x setting.locals ≡ Some l → (slice_get ks l.number ≡ Some (kind_of setting.scope l.kind)) × (is_known setting.scope l.kind ≡ true)

  -- an expression has the sort, and its type is declared
  pub record IsGood (v : program.Expr) (sort : Sort) : Type 0 where
    pub is : typed.sort_of types ks v ≡ Some (sort_for setting.scope sort)
    pub known : KnownSort setting.scope sort

  abbrev pub GoodJudged : Judged → Type 0
  GoodJudged Bare = Unit {0}
  GoodJudged (Known v sort) = IsGood v sort

  abbrev pub GoodVariable : Variable → Type 0
  GoodVariable (IsLocal l) = (slice_get ks l.number ≡ Some (kind_of setting.scope l.kind)) × (is_known setting.scope l.kind ≡ true)
  GoodVariable (IsRoot s) = (typed.root_kind types s.slot ≡ Some (kind_of setting.scope s.kind)) × (is_known setting.scope s.kind ≡ true)

  kind_given : (kind : tree.TypeWord) (o : Option Kind) → o ≡ Some (kind_of setting.scope kind) → option_map typed.Of o ≡ Some (sort_for setting.scope (sort_of kind))
  kind_given kind o e = ap (option_map typed.Of) e ∙ ap Some (sym (sort_for_kind setting.scope kind))

  good_value : (v : Variable) → GoodVariable v → GoodJudged (named_value v)
  good_value (IsLocal l) g = record { is = kind_given l.kind (slice_get ks l.number) g.0; known = known_sort setting.scope l.kind g.1 }
  good_value (IsRoot s) g = record { is = kind_given s.kind (typed.root_kind types s.slot) g.0; known = known_sort setting.scope s.kind g.1 }

  good_parens : (j : Judged) → GoodJudged j → GoodJudged (in_parens j)
  good_parens Bare g = tt
  good_parens (Known e sort) g = record { is = g.is; known = g.known }

  good_null : (ty : TypeNo) (e : tree.Expr) → is_target types ty ≡ true → typed.sort_of types ks (null_of ty e) ≡ Some (typed.Of (kinds.Pointer ty))
  good_null ty (tree.Parens e) t = good_null ty e t
  good_null ty (tree.Number n) t = ap (λ b. typed.given b (typed.Of (kinds.Pointer ty))) t
  good_null ty tree.Null t = ap (λ b. typed.given b (typed.Of (kinds.Pointer ty))) t
  good_null ty (tree.Name x) t = ap (λ b. typed.given b (typed.Of (kinds.Pointer ty))) t
  good_null ty (tree.Field e f) t = ap (λ b. typed.given b (typed.Of (kinds.Pointer ty))) t
  good_null ty (tree.Indexed e f i) t = ap (λ b. typed.given b (typed.Of (kinds.Pointer ty))) t
  good_null ty (tree.Negate e) t = ap (λ b. typed.given b (typed.Of (kinds.Pointer ty))) t
  good_null ty (tree.Not e) t = ap (λ b. typed.given b (typed.Of (kinds.Pointer ty))) t
  good_null ty (tree.Binary op a b) t = ap (λ b. typed.given b (typed.Of (kinds.Pointer ty))) t

  pub good_operand : (line : ℕ) (sort : Sort) (j : Judged) (v : program.Expr) → GoodJudged j → operand line sort j ≡ Ok v → typed.sort_of types ks v ≡ Some (sort_for setting.scope sort)
  good_operand line sort Bare v g e = cc
  good_operand line sort (Known w other) v g e =
      let p = passed (same_sort other sort) _ _ v e in
      of_ok (λ (x : program.Expr). typed.sort_of types ks x ≡ Some (sort_for setting.scope sort)) w v (g.is ∙ ap Some (same_sort_is setting.scope other sort p.0)) p.1

  -- an object is a pointer to records of a declared type
  pub record GoodObject (o : Object) : Type 0 where
    pub is : typed.sort_of types ks o.pointer ≡ Some (typed.Of (kinds.Pointer (number_of setting.scope o.type)))

  pub good_object : (line : ℕ) (j : Judged) (o : Object) → GoodJudged j → object line j ≡ Ok o → GoodObject o
  good_object line Bare o g e = cc
  good_object line (Known v Int) o g e = cc
  good_object line (Known v Truth) o g e = cc
  good_object line (Known v (Pointer t)) o g e = of_ok GoodObject (record { pointer = v; type = t }) o (record { is = g.is }) e

  module _ (sound : Sound setting.scope types) where
    pub good_variable : (x : List ℕ) (v : Variable) → LocalsHave → variable setting x ≡ Some v → GoodVariable v
    good_variable x v have e = by_parts (named x setting.locals) (slot_in setting.scope.roots x) refl refl e
      where
        by_parts : (o : Option Local) (r : Option Slot) → named x setting.locals ≡ o → slot_in setting.scope.roots x ≡ r → local_or o r ≡ Some v → GoodVariable v
        by_parts (Some l) r is_l is_r e = let same : IsLocal l ≡ v = cc in subst (λ (w : Variable). GoodVariable w) same (have x l is_l)
        by_parts None (Some s) is_l is_r e =
            let same : IsRoot s ≡ v = cc in
            let few : HasFew setting.scope.roots = omega (arith, sound.root_few) in
            let at : typed.root_kind types s.slot ≡ Some (kind_of setting.scope s.kind) = ap (λ t. shape.field_kind t s.slot) sound.root_is
            ∙ slot_fits setting.scope setting.scope.roots 1 x s sound.root_laid few is_r in
            subst (λ (w : Variable). GoodVariable w) same (at, slot_known setting.scope setting.scope.roots x s sound.root_known is_r)
        by_parts None None is_l is_r e = cc

    -- a field of a declared type
    good_field : (t f : List ℕ) (s : Slot) → field_named setting.scope t f ≡ Some s
        → (shape.field_kind (shape.type_at types (number_of setting.scope t)) s.slot ≡ Some (kind_of setting.scope s.kind))
        × (is_known setting.scope s.kind ≡ true)
    good_field t f s e =
        let p = bound_some (λ (r : RecordType). slot_in r.members f) (named t setting.scope.types) s e in
        let h = sound.types_have t p.0 p.1.0 in (
          ap (λ n. shape.field_kind (shape.type_at types n) s.slot) (number_is setting.scope t p.0 p.1.0) ∙ ap (λ u. shape.field_kind u s.slot) h.is
              ∙ slot_fits setting.scope p.0.members h.limit f s h.laid h.few p.1.1,
          slot_known setting.scope p.0.members f s h.known p.1.1,
        )

    pub good_plain : (line : ℕ) (t f : List ℕ) (s : Slot) → plain_field setting line t f ≡ Ok s
        → (shape.field_kind (shape.type_at types (number_of setting.scope t)) s.slot ≡ Some (kind_of setting.scope s.kind))
        × (is_known setting.scope s.kind ≡ true)
    good_plain line t f s e =
        let p = found_passed (field_named setting.scope t f) _ _ s e in
        let q = passed (not (is_some p.0.elements)) _ _ s p.1.1 in
        good_field t f s (p.1.0 ∙ ap Some (same_ok p.0 s q.1))

    -- an array of a declared type
    pub record GoodArray (t : List ℕ) (a : Array) : Type 0 where
      pub is : typed.array_kind (shape.type_at types (number_of setting.scope t)) a.slot a.elements ≡ Some (kind_of setting.scope a.kind)
      pub known : is_known setting.scope a.kind ≡ true

    array_here : (t f : List ℕ) (s : Slot) (n : ℕ) → field_named setting.scope t f ≡ Some s → s.elements ≡ Some n → GoodArray t (record { slot = s.slot; elements = n; kind = s.kind })
    array_here t f s n e many =
        let p = bound_some (λ (r : RecordType). slot_in r.members f) (named t setting.scope.types) s e in
        let h = sound.types_have t p.0 p.1.0 in
        record {
          is = ap (λ i. typed.array_kind (shape.type_at types i) s.slot n) (number_is setting.scope t p.0 p.1.0)
              ∙ ap (λ u. typed.array_kind u s.slot n) h.is ∙ array_fits setting.scope p.0.members h.limit f s n h.laid h.few p.1.1 many;
          known = slot_known setting.scope p.0.members f s h.known p.1.1;
        }

    pub good_array : (line : ℕ) (t f : List ℕ) (a : Array) → array_field setting line t f ≡ Ok a → GoodArray t a
    good_array line t f a e =
        let p = found_passed (field_named setting.scope t f) _ _ a e in
        let n = found_passed p.0.elements _ _ a p.1.1 in
        of_ok (λ (x : Array). GoodArray t x) (record { slot = p.0.slot; elements = n.0; kind = p.0.kind }) a (array_here t f p.0 n.0 p.1.0 n.1.0) n.1.1

    good_loaded : (line : ℕ) (o : Object) (f : List ℕ) (j : Judged) → GoodObject o → field_loaded setting line o f ≡ Ok j → GoodJudged j
    good_loaded line o f j g e =
        let s = first_passed (plain_field setting line o.type f) _ j e in
        let k = kind_of setting.scope s.0.kind in
        let q = good_plain line o.type f s.0 s.1.0 in
        of_ok (λ (x : Judged). GoodJudged x) (loaded setting o s.0) j (record {
          is = ap (λ x. typed.given (option_eq typed.same_kind (typed.field_of types x s.0.slot) (Some k)) (typed.Of k)) g.is
              ∙ ap (λ x. typed.given (option_eq typed.same_kind x (Some k)) (typed.Of k)) q.0
              ∙ ap (λ b. typed.given b (typed.Of k)) (same_kind_refl k) ∙ ap Some (sym (sort_for_kind setting.scope s.0.kind));
          known = known_sort setting.scope s.0.kind q.1;
        }) s.1.1

    good_element : (line : ℕ) (o : Object) (a : Array) (i j : Judged) → GoodObject o → GoodArray o.type a → GoodJudged i → element_loaded setting line o a i ≡ Ok j → GoodJudged j
    good_element line o a i j g array good e =
        let v = first_passed (operand line Int i) _ j e in
        let k = kind_of setting.scope a.kind in
        let index = good_operand line Int i v.0 good v.1.0 in
        of_ok (λ (x : Judged). GoodJudged x) (at_index setting o a v.0) j (record {
          is = ap (λ x. typed.given (typed.is_sort (typed.Of kinds.Int) x && option_eq typed.same_kind
              (typed.array_of types (typed.sort_of types ks o.pointer) a.slot a.elements) (Some k)) (typed.Of k)) index
              ∙ ap (λ x. typed.given (option_eq typed.same_kind (typed.array_of types x a.slot a.elements) (Some k)) (typed.Of k)) g.is
              ∙ ap (λ x. typed.given (option_eq typed.same_kind x (Some k)) (typed.Of k)) array.is
              ∙ ap (λ b. typed.given b (typed.Of k)) (same_kind_refl k) ∙ ap Some (sym (sort_for_kind setting.scope a.kind));
          known = known_sort setting.scope a.kind array.known;
        }) v.1.1

    -- ---- operators

    good_operation : (line : ℕ) (op : Op) (s gives : Sort) (l r j : Judged) → KnownSort setting.scope gives
        → typed.binary_sort op (Some (sort_for setting.scope s)) (Some (sort_for setting.scope s)) ≡ Some (sort_for setting.scope gives) →
        GoodJudged l → GoodJudged r → operation line op s gives l r ≡ Ok j → GoodJudged j
    good_operation line op s gives l r j known is gl gr e =
        let p = first_passed (operand line s l) _ j e in
        let q = first_passed (operand line s r) _ j p.1.1 in
        let a = good_operand line s l p.0 gl p.1.0 in
        let b = good_operand line s r q.0 gr q.1.0 in
        of_ok (λ (x : Judged). GoodJudged x) (Known (program.Binary op p.0 q.0) gives) j (record { is = (λ i. typed.binary_sort op (a i) (b i)) ∙ is; known = known }) q.1.1

    good_equal : (op : Op) (v w : program.Expr) (k : Kind) → ((x y : Option typed.Sort) → typed.binary_sort op x y ≡ typed.compared x y)
        → typed.sort_of types ks v ≡ Some (typed.Of k) → typed.sort_of types ks w ≡ Some (typed.Of k) →
        GoodJudged (Known (program.Binary op v w) Truth)
    good_equal op v w k is a b = record { is = is _ _ ∙ (λ i. typed.compared (a i) (b i)) ∙ compared_same k; known = tt }

    good_beside : (line : ℕ) (e : tree.Expr) (sort : Sort) (v : program.Expr) → KnownSort setting.scope sort → null_beside setting line e sort ≡ Ok v →
        (k : Kind) × ((sort_for setting.scope sort ≡ typed.Of k) × (typed.sort_of types ks v ≡ Some (typed.Of k)))
    good_beside line e Int v known is = cc
    good_beside line e Truth v known is = cc
    good_beside line e (Pointer t) v known is =
        let ty = number_of setting.scope t in
        let target = known_target setting.scope types t sound known in (
          kinds.Pointer ty,
          (
            refl,
            of_ok (λ (x : program.Expr). typed.sort_of types ks x ≡ Some (typed.Of (kinds.Pointer ty))) (null_of ty e) v
                (good_null ty e (both_below ty.0 (length types) target.0 target.1)) is,
          ),
        )

    good_equality : (line : ℕ) (op : Op) (a b : tree.Expr) (l r j : Judged)
        → ((x y : Option typed.Sort) → typed.binary_sort op x y ≡ typed.compared x y) → GoodJudged l → GoodJudged r
        → equality setting line op a b l r ≡ Ok j → GoodJudged j
    good_equality line op a b Bare Bare j is gl gr e = cc
    good_equality line op a b Bare (Known r sort) j is gl gr e =
        let p = first_passed (null_beside setting line a sort) _ j e in
        let k = good_beside line a sort p.0 gr.known p.1.0 in
        of_ok (λ (x : Judged). GoodJudged x) (Known (program.Binary op p.0 r) Truth) j (good_equal op p.0 r k.0 is k.1.1 (gr.is ∙ ap Some k.1.0)) p.1.1
    good_equality line op a b (Known l sort) Bare j is gl gr e =
        let p = first_passed (null_beside setting line b sort) _ j e in
        let k = good_beside line b sort p.0 gl.known p.1.0 in
        of_ok (λ (x : Judged). GoodJudged x) (Known (program.Binary op l p.0) Truth) j (good_equal op l p.0 k.0 is (gl.is ∙ ap Some k.1.0) k.1.1) p.1.1
    good_equality line op a b (Known l sort) (Known r other) j is gl gr e =
        let p = passed (can_equal sort other) _ _ j e in
        let k = can_equal_kind setting.scope sort other p.0 in
        of_ok (λ (x : Judged). GoodJudged x) (Known (program.Binary op l r) Truth) j (good_equal op l r k.0 is (gl.is ∙ ap Some k.1.0) (gr.is ∙ ap Some k.1.1)) p.1

    good_combined : (line : ℕ) (op : Op) (a b : tree.Expr) (l r j : Judged) → GoodJudged l → GoodJudged r → combined setting line op a b l r ≡ Ok j → GoodJudged j
    good_combined line Add a b l r j gl gr e = good_operation line Add Int Int l r j tt refl gl gr e
    good_combined line Sub a b l r j gl gr e = good_operation line Sub Int Int l r j tt refl gl gr e
    good_combined line Mul a b l r j gl gr e = good_operation line Mul Int Int l r j tt refl gl gr e
    good_combined line Div a b l r j gl gr e = good_operation line Div Int Int l r j tt refl gl gr e
    good_combined line Rem a b l r j gl gr e = good_operation line Rem Int Int l r j tt refl gl gr e
    good_combined line Equal a b l r j gl gr e = good_equality line Equal a b l r j (λ x y. refl) gl gr e
    good_combined line NotEqual a b l r j gl gr e = good_equality line NotEqual a b l r j (λ x y. refl) gl gr e
    good_combined line Less a b l r j gl gr e = good_operation line Less Int Truth l r j tt refl gl gr e
    good_combined line LessEqual a b l r j gl gr e = good_operation line LessEqual Int Truth l r j tt refl gl gr e
    good_combined line Greater a b l r j gl gr e = good_operation line Greater Int Truth l r j tt refl gl gr e
    good_combined line GreaterEqual a b l r j gl gr e = good_operation line GreaterEqual Int Truth l r j tt refl gl gr e
    good_combined line And a b l r j gl gr e = good_operation line And Truth Truth l r j tt refl gl gr e
    good_combined line Or a b l r j gl gr e = good_operation line Or Truth Truth l r j tt refl gl gr e

    -- ---- whole expressions

    module _ (have : LocalsHave) where
      pub good_judged : (line : ℕ) (e : tree.Expr) (j : Judged) → judged setting line e ≡ Ok j → GoodJudged j
      good_judged line (tree.Number n) j e = of_ok (λ (x : Judged). GoodJudged x) (Known (program.Number n) Int) j (record { is = refl; known = tt }) e
      good_judged line tree.Null j e = of_ok (λ (x : Judged). GoodJudged x) Bare j tt e
      good_judged line (tree.Name x) j e =
          let p = found_passed (variable setting x) _ _ j e in
          of_ok (λ (y : Judged). GoodJudged y) (named_value p.0) j (good_value p.0 (good_variable x p.0 have p.1.0)) p.1.1
      good_judged line (tree.Parens inner) j e =
          let p = first_passed (judged setting line inner) _ j e in
          of_ok (λ (y : Judged). GoodJudged y) (in_parens p.0) j (good_parens p.0 (good_judged line inner p.0 p.1.0)) p.1.1
      good_judged line (tree.Field inner f) j e =
          let p = first_passed (judged setting line inner) _ j e in
          let o = first_passed (object line p.0) _ j p.1.1 in
          good_loaded line o.0 f j (good_object line p.0 o.0 (good_judged line inner p.0 p.1.0) o.1.0) o.1.1
      good_judged line (tree.Indexed inner f index) j e =
          let p = first_passed (judged setting line inner) _ j e in
          let o = first_passed (object line p.0) _ j p.1.1 in
          let a = first_passed (array_field setting line o.0.type f) _ j o.1.1 in
          let i = first_passed (judged setting line index) _ j a.1.1 in
          good_element line o.0 a.0 i.0 j (good_object line p.0 o.0 (good_judged line inner p.0 p.1.0) o.1.0) (good_array line o.0.type f a.0 a.1.0) (good_judged line index i.0 i.1.0) i.1.1
      good_judged line (tree.Negate inner) j e =
          let p = first_passed (judged setting line inner) _ j e in
          let v = first_passed (operand line Int p.0) _ j p.1.1 in
          let g = good_operand line Int p.0 v.0 (good_judged line inner p.0 p.1.0) v.1.0 in
          of_ok (λ (y : Judged). GoodJudged y) (Known (program.Negate v.0) Int) j
          (record { is = ap (λ x. typed.given (typed.is_sort (typed.Of kinds.Int) x) (typed.Of kinds.Int)) g; known = tt }) v.1.1
      good_judged line (tree.Not inner) j e =
          let p = first_passed (judged setting line inner) _ j e in
          let v = first_passed (operand line Truth p.0) _ j p.1.1 in
          let g = good_operand line Truth p.0 v.0 (good_judged line inner p.0 p.1.0) v.1.0 in
          of_ok (λ (y : Judged). GoodJudged y) (Known (program.Not v.0) Truth) j (record { is = ap (λ x. typed.given (typed.is_sort typed.Truth x) typed.Truth) g; known = tt }) v.1.1
      good_judged line (tree.Binary op a b) j e =
          let p = first_passed (judged setting line a) _ j e in
          let q = first_passed (judged setting line b) _ j p.1.1 in
          good_combined line op a b p.0 q.0 j (good_judged line a p.0 p.1.0) (good_judged line b q.0 q.1.0) q.1.1

      good_fits : (line : ℕ) (kind : tree.TypeWord) (e : tree.Expr) (j : Judged) (v : program.Expr) → is_known setting.scope kind ≡ true
          → GoodJudged j → fits setting line kind e j ≡ Ok v → typed.sort_of types ks v ≡ Some (typed.Of (kind_of setting.scope kind))
      good_fits line tree.Int e Bare v known g is = cc
      good_fits line (tree.Named t) e Bare v known g is =
          let ty = number_of setting.scope t in
          let target = known_target setting.scope types t sound known in
          of_ok (λ (x : program.Expr). typed.sort_of types ks x ≡ Some (typed.Of (kinds.Pointer ty))) (null_of ty e) v (good_null ty e (both_below ty.0 (length types) target.0 target.1)) is
      good_fits line tree.Int e (Known w sort) v known g is = good_operand line Int (Known w sort) v g is
      good_fits line (tree.Named t) e (Known w sort) v known g is = good_operand line (Pointer t) (Known w sort) v g is

      -- an expression that fits a declared type has its kind
      pub good_fitted : (line : ℕ) (kind : tree.TypeWord) (e : tree.Expr) (v : program.Expr) → is_known setting.scope kind ≡ true
          → fitted setting line kind e ≡ Ok v → typed.sort_of types ks v ≡ Some (typed.Of (kind_of setting.scope kind))
      good_fitted line kind e v known is =
          let p = first_passed (judged setting line e) (fits setting line kind e) v is in
          good_fits line kind e p.0 v known (good_judged line e p.0 p.1.0) p.1.1

      pub good_of_sort : (line : ℕ) (sort : Sort) (e : tree.Expr) (v : program.Expr) → of_sort setting line sort e ≡ Ok v → typed.sort_of types ks v ≡ Some (sort_for setting.scope sort)
      good_of_sort line sort e v is =
          let p = first_passed (judged setting line e) (operand line sort) v is in
          good_operand line sort p.0 v (good_judged line e p.0 p.1.0) p.1.1

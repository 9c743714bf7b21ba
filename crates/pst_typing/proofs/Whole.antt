-- Programs that are accepted are well typed.
use Rattle.std.proofs.Common.{◌≡◌, ℕ, ◌+◌, ◌<◌, ◌≤◌, nat_lt, nat_le, Bool, true, false, not, cond, ◌&&◌, is_some, List, [], ◌∷◌, ◌++◌, length, Option, Some}
use Rattle.std.proofs.Common.{None, unwrap_or, slice_get, ℤ, pos, negsuc, Result, Ok, refl, sym, ap, subst, ◌∙◌, arith, suc, zero, length-append, bytes_eq}
use Rattle.std.proofs.lemmas.Bool.{ltb-true, leb-true}
use Rattle.std.proofs.lemmas.Slice.Eq.{bytes_eq-Decides}
use Rattle.pst_base.specs.declared.shape.TypeShape.{TypeShape}
use Rattle.pst_base.specs.declared.shape.TheConstants.{MOST_ROOTS, MOST_IN_DEGREE, MOST_ELEMENTS}
use Rattle.pst_grammar.specs.Syntax as tree
use Rattle.pst_grammar.specs.Depth as depth
use Rattle.pst_program.specs.Syntax as program
use Rattle.pst_program.specs.Typed.{is_length}
use Rattle.pst_typing.specs.declared.fault.TypeFault.{TypeFault}
use Rattle.pst_typing.specs.declared.fault.TypeFault.TheVariants as fault
use Rattle.pst_typing.specs.Answers.{check, through}
use Rattle.pst_typing.specs.Names.{Members, no_members, with_member, with_field, with_new_member, members_from, array_length, is_length_of, length_in}
use Rattle.pst_typing.specs.Names.{elements_of, Scope, nothing_declared, is_free, RecordType, Signature, named, is_named, is_known, field_line, field_name}
use Rattle.pst_typing.specs.Names.{field_kind, field_elements}
use Rattle.pst_typing.specs.Declarations.{noted, limit_of, elements_with, field, shape_of, names_of, procedure, NamedProgram, declared, root_alone}
use Rattle.pst_typing.proofs.Passed.{passed, first_passed, found_passed, same_ok, of_ok, both_true, free_parts}
use Rattle.pst_typing.proofs.Laid.{IsLaid, LengthFits, HasFew, AllKnown, small, laid_none, laid_more, known_more}

-- ---- fields

not_named : (b : Bool) → not b ≡ true → b ≡ false
not_named true e = cc
not_named false e = refl

-- the fields of a record type, as the first walk has them
record Fields (scope : Scope) (m : Members) (fs : List tree.FieldText) (n : Members) : Type 0 where
  pub same : members_from m fs ≡ n
  pub laid : IsLaid scope n
  pub known : AllKnown scope n.list
  pub few : HasFew n

known_member : (scope : Scope) (m : Members) (x : List ℕ) (kind : tree.TypeWord) (elements : Option ℕ) → AllKnown scope m.list
    → is_known scope kind ≡ true → AllKnown scope (with_member m x kind elements).list
known_member scope m x tree.Int elements all known = known_more scope m.list x _ all known
known_member scope m x (tree.Named t) elements all known = known_more scope m.list x _ all known

longer : (m : Members) (x : List ℕ) (kind : tree.TypeWord) (elements : Option ℕ) → length (with_member m x kind elements).list ≡ length m.list + 1
longer m x tree.Int elements = length-append m.list _
longer m x (tree.Named t) elements = length-append m.list _

-- one more field adds its elements
total_more : (m : Members) (x : List ℕ) (kind : tree.TypeWord) (elements : Option ℕ) → m.values + m.pointers + elements_of elements ≤ MOST_ELEMENTS →
    let n = with_member m x kind elements in n.values + n.pointers ≡ m.values + m.pointers + elements_of elements
total_more m x tree.Int elements few =
    let fits : m.values + elements_of elements ≤ 65535 = omega (arith, few) in
    let same = small (m.values + elements_of elements) fits in omega (arith, same)
total_more m x (tree.Named t) elements few =
    let fits : m.pointers + elements_of elements ≤ 65535 = omega (arith, few) in
    let same = small (m.pointers + elements_of elements) fits in omega (arith, same)

written_fits : (n : ℤ) → is_some (array_length n) ≡ true → is_length (unwrap_or (array_length n) 1) ≡ true
written_fits (negsuc n) e = cc
written_fits (pos n) e = by_test (is_length n) refl e
  where
    by_test : (b : Bool) → is_length n ≡ b → is_some (cond b (Some n) None) ≡ true → is_length (unwrap_or (cond b (Some n) None) 1) ≡ true
    by_test true is e = is
    by_test false is e = cc

length_fits : (n : Option ℤ) → is_length_of n ≡ true → LengthFits (length_in n)
length_fits None e = tt
length_fits (Some n) e = written_fits n e

-- a field that was judged
pub record FieldPassed (scope : Scope) (m : Members) (f : tree.FieldText) (n : Members) : Type 0 where
  pub new : not (is_named (field_name f) m.list) ≡ true
  pub long : is_length_of (field_elements f) ≡ true
  pub few : elements_with m f ≤ MOST_ELEMENTS
  pub known : is_known scope (field_kind f) ≡ true
  pub is : with_field m f ≡ n

pub field_passed : (scope : Scope) (m : Members) (f : tree.FieldText) (n : Members) → field scope m f ≡ Ok n → FieldPassed scope m f n
field_passed scope m f n e =
    let one : Result Members TypeFault = Ok (with_field m f) in
    let known_one = check (is_known scope (field_kind f)) (fault.Unknown (field_line f)) one in
    let few_one = check (nat_le (elements_with m f) MOST_ELEMENTS) (fault.TooMany (field_line f)) known_one in
    let long_one = check (is_length_of (field_elements f)) (fault.Limit (field_line f)) few_one in
    let p = passed (nat_lt (length m.list) 16) (fault.TooMany (field_line f)) _ n e in
    let q = passed (not (is_named (field_name f) m.list)) (fault.Duplicate (field_line f)) long_one n p.1 in
    let l = passed (is_length_of (field_elements f)) (fault.Limit (field_line f)) few_one n q.1 in
    let t = passed (nat_le (elements_with m f) MOST_ELEMENTS) (fault.TooMany (field_line f)) known_one n l.1 in
    let r = passed (is_known scope (field_kind f)) (fault.Unknown (field_line f)) one n t.1 in
    record { new = q.0; long = l.0; few = leb-true (elements_with m f) MOST_ELEMENTS t.0; known = r.0; is = same_ok _ _ r.1 }

fields : (scope : Scope) (fs : List tree.FieldText) (m n : Members) → IsLaid scope m → AllKnown scope m.list → HasFew m → through (field scope) m fs ≡ Ok n → Fields scope m fs n
fields scope [] m n laid known few e =
    let same = same_ok m n e in
    subst (λ (k : Members). Fields scope m [] k) same (record { same = refl; laid = laid; known = known; few = few })
fields scope (f ∷ fs) m n laid known few e =
    let s = first_passed (field scope m f) (λ now. through (field scope) now fs) n e in
    let p = field_passed scope m f s.0 s.1.0 in
    let elements = length_in (field_elements f) in
    let laid_now = subst (λ (k : Members). IsLaid scope k) p.is (laid_more scope m (field_name f) (field_kind f) elements laid (length_fits (field_elements f) p.long) p.few) in
    let known_now = subst (λ (k : Members). AllKnown scope k.list) p.is (known_member scope m (field_name f) (field_kind f) elements known p.known) in
    let total = total_more m (field_name f) (field_kind f) elements p.few in
    let one_more : HasFew (with_field m f) = omega (arith, total, p.few) in
    let few_now = subst (λ (k : Members). HasFew k) p.is one_more in
    let rest = fields scope fs s.0 n laid_now known_now few_now s.1.1 in
    let new : with_new_member m f ≡ s.0 = ap (λ b. cond b m (with_field m f)) (not_named _ p.new) ∙ p.is in
    record { same = ap (λ k. members_from k fs) new ∙ rest.same; laid = rest.laid; known = rest.known; few = rest.few }

if_some : (b : Bool) (n m : ℕ) → cond b (Some n) None ≡ Some m → (b ≡ true) × (n ≡ m)
if_some true n m e = (refl, cc)
if_some false n m e = cc

limits : (l : ℤ) (n : ℕ) → limit_of l ≡ Some n → (1 ≤ n) × (n ≤ MOST_IN_DEGREE)
limits (pos k) n e =
    let p = if_some (nat_lt 0 k && nat_le k MOST_IN_DEGREE) k n e in
    let q = both_true (nat_lt 0 k) (nat_le k MOST_IN_DEGREE) p.0 in
    let a = ltb-true 0 k q.0 in
    let b = leb-true k MOST_IN_DEGREE q.1 in
    (omega (arith, p.1), omega (arith, p.1))
limits (negsuc k) n e = cc

-- ---- entries of the shape

pub record IsEntry (scope : Scope) (k : ℕ) (r : RecordType) (s : TypeShape) : Type 0 where
  pub number : r.number.0 ≡ k
  pub limit : ℕ
  pub least : 1 ≤ limit
  pub most : limit ≤ MOST_IN_DEGREE
  pub is : s ≡ shape_of scope limit r.members
  pub laid : IsLaid scope r.members
  pub few : HasFew r.members
  pub known : AllKnown scope r.members.list

-- the record types and the entries of the shape from a number on
abbrev pub Entries : Scope → ℕ → List (List ℕ × RecordType) → List TypeShape → Type 0
Entries scope k [] [] = Unit {0}
Entries scope k [] (s ∷ ss) = ⊥
Entries scope k (t ∷ ts) [] = ⊥
Entries scope k (t ∷ ts) (s ∷ ss) = IsEntry scope k t.1 s × Entries scope (suc k) ts ss

entry_more : (scope : Scope) (k n : ℕ) (ts : List (List ℕ × RecordType)) (ss : List TypeShape) (x : List ℕ) (r : RecordType) (s : TypeShape)
    → Entries scope k ts ss → n ≡ k + length ts → IsEntry scope n r s → Entries scope k (ts ++ (x, r) ∷ []) (ss ++ s ∷ [])
entry_more scope k n [] [] x r s all at e = let same : n ≡ k = omega (arith, at) in (subst (λ (m : ℕ). IsEntry scope m r s) same e, tt)
entry_more scope k n [] (u ∷ ss) x r s all at e = absurd all
entry_more scope k n (t ∷ ts) [] x r s all at e = absurd all
entry_more scope k n (t ∷ ts) (u ∷ ss) x r s all at e = let next : n ≡ suc k + length ts = omega (arith, at) in (all.0, entry_more scope (suc k) n ts ss x r s all.1 next e)

pub entries_length : (scope : Scope) (k : ℕ) (ts : List (List ℕ × RecordType)) (ss : List TypeShape) → Entries scope k ts ss → length ss ≡ length ts
entries_length scope k [] [] all = refl
entries_length scope k [] (s ∷ ss) all = absurd all
entries_length scope k (t ∷ ts) [] all = absurd all
entries_length scope k (t ∷ ts) (s ∷ ss) all = ap suc (entries_length scope (suc k) ts ss all.1)

-- the entry at an index
pub entry_at : (scope : Scope) (k i : ℕ) (ts : List (List ℕ × RecordType)) (ss : List TypeShape) → Entries scope k ts ss → i < length ss
    → (r : RecordType) × ((s : TypeShape) × ((slice_get ss i ≡ Some s) × IsEntry scope (k + i) r s))
entry_at scope k i [] [] all below = absurd (omega arith)
entry_at scope k i [] (s ∷ ss) all below = absurd all
entry_at scope k i (t ∷ ts) [] all below = absurd all
entry_at scope k zero (t ∷ ts) (s ∷ ss) all below = let same : k ≡ k + 0 = omega arith in (t.1, (s, (refl, subst (λ (m : ℕ). IsEntry scope m t.1 s) same all.0)))
entry_at scope k (suc i) (t ∷ ts) (s ∷ ss) all below =
    let inside : i < length ss = omega arith in
    let p = entry_at scope (suc k) i ts ss all.1 inside in
    let same : suc k + i ≡ k + suc i = omega arith in
    (p.0, (p.1.0, (p.1.1.0, subst (λ (m : ℕ). IsEntry scope m p.0 p.1.0) same p.1.1.1)))

pub record Entry (scope : Scope) (k : ℕ) (ss : List TypeShape) (r : RecordType) : Type 0 where
  pub index : ℕ
  pub type : TypeShape
  pub at : slice_get ss index ≡ Some type
  pub is : IsEntry scope (k + index) r type

next_entry : (scope : Scope) (k : ℕ) (s : TypeShape) (ss : List TypeShape) (r : RecordType) → Entry scope (suc k) ss r → Entry scope k (s ∷ ss) r
next_entry scope k s ss r e = let same : suc k + e.index ≡ k + suc e.index = omega arith in
    record { index = suc e.index; type = e.type; at = e.at; is = subst (λ (m : ℕ). IsEntry scope m r e.type) same e.is }

entry_head : (scope : Scope) (k : ℕ) (b : Bool) (t r : RecordType) (rest : Option RecordType) (s : TypeShape) (ss : List TypeShape)
    → IsEntry scope k t s → (rest ≡ Some r → Entry scope (suc k) ss r) → cond b (Some t) rest ≡ Some r → Entry scope k (s ∷ ss) r
entry_head scope k true t r rest s ss here go e =
    let same : t ≡ r = cc in
    let at : k ≡ k + 0 = omega arith in
    record { index = 0; type = s; at = refl; is = subst (λ (m : ℕ). IsEntry scope m r s) at (subst (λ (u : RecordType). IsEntry scope k u s) same here) }
entry_head scope k false t r rest s ss here go e = next_entry scope k s ss r (go e)

-- the entry of a record type by its name
pub entry_named : (scope : Scope) (k : ℕ) (ts : List (List ℕ × RecordType)) (ss : List TypeShape) (x : List ℕ) (r : RecordType) → Entries scope k ts ss → named x ts ≡ Some r → Entry scope k ss r
entry_named scope k [] ss x r all e = cc
entry_named scope k (t ∷ ts) [] x r all e = absurd all
entry_named scope k (t ∷ ts) (s ∷ ss) x r all e = entry_head scope k (bytes_eq x t.0) t.1 r (named x ts) s ss all.0 (entry_named scope (suc k) ts ss x r all.1) e

-- ---- procedures of the program

-- a procedure is as its text says
pub record IsRoutine (scope : Scope) (k : ℕ) (x : List ℕ) (s : Signature) (q : program.Procedure) : Type 0 where
  pub text : tree.ProcedureText
  pub name : x ≡ text.name
  pub signature : s ≡ record { number = record { 0 = k }; query = text.query; parameters = text.parameters; result = text.result }
  pub made : procedure scope text ≡ Ok q
  pub height : depth.phrases_height text.body ≤ 63
  pub nesting : depth.phrases_nesting text.body ≤ 15

abbrev pub Routines : Scope → ℕ → List (List ℕ × Signature) → List program.Procedure → Type 0
Routines scope k [] [] = Unit {0}
Routines scope k [] (q ∷ qs) = ⊥
Routines scope k (s ∷ ss) [] = ⊥
Routines scope k (s ∷ ss) (q ∷ qs) = IsRoutine scope k s.0 s.1 q × Routines scope (suc k) ss qs

routine_more : (scope : Scope) (k n : ℕ) (ss : List (List ℕ × Signature)) (qs : List program.Procedure) (x : List ℕ) (s : Signature)
    (q : program.Procedure) → Routines scope k ss qs → n ≡ k + length ss → IsRoutine scope n x s q → Routines scope k (ss ++ (x, s) ∷ []) (qs ++ q ∷ [])
routine_more scope k n [] [] x s q all at e = let same : n ≡ k = omega (arith, at) in (subst (λ (m : ℕ). IsRoutine scope m x s q) same e, tt)
routine_more scope k n [] (u ∷ qs) x s q all at e = absurd all
routine_more scope k n (t ∷ ss) [] x s q all at e = absurd all
routine_more scope k n (t ∷ ss) (u ∷ qs) x s q all at e = let next : n ≡ suc k + length ss = omega (arith, at) in (all.0, routine_more scope (suc k) n ss qs x s q all.1 next e)

pub routines_length : (scope : Scope) (k : ℕ) (ss : List (List ℕ × Signature)) (qs : List program.Procedure) → Routines scope k ss qs → length qs ≡ length ss
routines_length scope k [] [] all = refl
routines_length scope k [] (q ∷ qs) all = absurd all
routines_length scope k (s ∷ ss) [] all = absurd all
routines_length scope k (s ∷ ss) (q ∷ qs) all = ap suc (routines_length scope (suc k) ss qs all.1)

-- the procedure at an index
pub record RoutineAt (scope : Scope) (k i : ℕ) (ss : List (List ℕ × Signature)) (q : program.Procedure) : Type 0 where
  pub name : List ℕ
  pub signature : Signature
  pub at : slice_get ss i ≡ Some (name, signature)
  pub is : IsRoutine scope (k + i) name signature q

pub routine_at : (scope : Scope) (k i : ℕ) (ss : List (List ℕ × Signature)) (qs : List program.Procedure) (q : program.Procedure)
    → Routines scope k ss qs → slice_get qs i ≡ Some q → RoutineAt scope k i ss q
routine_at scope k i [] [] q all e = cc
routine_at scope k i [] (u ∷ qs) q all e = absurd all
routine_at scope k i (s ∷ ss) [] q all e = absurd all
routine_at scope k zero (s ∷ ss) (u ∷ qs) q all e =
    let same : u ≡ q = cc in
    let at : k ≡ k + 0 = omega arith in
    record { name = s.0; signature = s.1; at = refl; is = subst (λ (m : ℕ). IsRoutine scope m s.0 s.1 q) at (subst (λ (p : program.Procedure). IsRoutine scope k s.0 s.1 p) same all.0) }
routine_at scope k (suc i) (s ∷ ss) (u ∷ qs) q all e =
    let p = routine_at scope (suc k) i ss qs q all.1 e in
    let same : suc k + i ≡ k + suc i = omega arith in
    record { name = p.name; signature = p.signature; at = p.at; is = subst (λ (m : ℕ). IsRoutine scope m p.name p.signature q) same p.is }

pub record Routine (scope : Scope) (k : ℕ) (qs : List program.Procedure) (s : Signature) : Type 0 where
  pub index : ℕ
  pub name : List ℕ
  pub procedure : program.Procedure
  pub at : slice_get qs index ≡ Some procedure
  pub is : IsRoutine scope (k + index) name s procedure

routine_head : (scope : Scope) (k : ℕ) (b : Bool) (x : List ℕ) (t s : Signature) (rest : Option Signature) (q : program.Procedure)
    (qs : List program.Procedure) → IsRoutine scope k x t q → (rest ≡ Some s → Routine scope (suc k) qs s) → cond b (Some t) rest ≡ Some s
    → Routine scope k (q ∷ qs) s
routine_head scope k true x t s rest q qs here go e =
    let same : t ≡ s = cc in
    let at : k ≡ k + 0 = omega arith in
    record { index = 0; name = x; procedure = q; at = refl; is = subst (λ (m : ℕ). IsRoutine scope m x s q) at (subst (λ (u : Signature). IsRoutine scope k x u q) same here) }
routine_head scope k false x t s rest q qs here go e =
    let p = go e in
    let same : suc k + p.index ≡ k + suc p.index = omega arith in
    record { index = suc p.index; name = p.name; procedure = p.procedure; at = p.at; is = subst (λ (m : ℕ). IsRoutine scope m p.name s p.procedure) same p.is }

pub routine_named : (scope : Scope) (k : ℕ) (ss : List (List ℕ × Signature)) (qs : List program.Procedure) (x : List ℕ) (s : Signature)
    → Routines scope k ss qs → named x ss ≡ Some s → Routine scope k qs s
routine_named scope k [] qs x s all e = cc
routine_named scope k (t ∷ ss) [] x s all e = absurd all
routine_named scope k (t ∷ ss) (q ∷ qs) x s all e = routine_head scope k (bytes_eq x t.0) t.0 t.1 s (named x ss) q qs all.0 (routine_named scope (suc k) ss qs x s all.1) e

-- ---- names that differ

abbrev pub Apart : List (List ℕ × Signature) → Type 0
Apart [] = Unit {0}
Apart (s ∷ ss) = (is_named s.0 ss ≡ false) × Apart ss

absent_parts : {A : Type 0} (b : Bool) (a : A) (rest : Option A) → is_some (cond b (Some a) rest) ≡ false → (b ≡ false) × (is_some rest ≡ false)
absent_parts true a rest e = cc
absent_parts false a rest e = (refl, e)

absent_cond : {A : Type 0} (b : Bool) (a : A) (rest : Option A) → b ≡ false → is_some rest ≡ false → is_some (cond b (Some a) rest) ≡ false
absent_cond true a rest e f = cc
absent_cond false a rest e f = f

other_way : (b c : Bool) (x y : List ℕ) → b ≡ bytes_eq x y → c ≡ bytes_eq y x → b ≡ false → c ≡ false
other_way b false x y p q e = refl
other_way b true x y p q e =
    let same : y ≡ x = (bytes_eq-Decides y x).0 (sym q) in
    let yes : bytes_eq x y ≡ true = (bytes_eq-Decides x y).1 (sym same) in cc

absent_more : (x y : List ℕ) (s : Signature) (ss : List (List ℕ × Signature)) → is_named y ss ≡ false → bytes_eq y x ≡ false → is_named y (ss ++ (x, s) ∷ []) ≡ false
absent_more x y s [] e f = absent_cond (bytes_eq y x) s None f refl
absent_more x y s (t ∷ ss) e f =
    let p = absent_parts (bytes_eq y t.0) t.1 (named y ss) e in
    absent_cond (bytes_eq y t.0) t.1 (named y (ss ++ (x, s) ∷ [])) p.0 (absent_more x y s ss p.1 f)

apart_more : (ss : List (List ℕ × Signature)) (x : List ℕ) (s : Signature) → Apart ss → is_named x ss ≡ false → Apart (ss ++ (x, s) ∷ [])
apart_more [] x s apart e = (refl, tt)
apart_more (t ∷ ss) x s apart e =
    let p = absent_parts (bytes_eq x t.0) t.1 (named x ss) e in
    (absent_more x t.0 s ss apart.0 (other_way (bytes_eq x t.0) (bytes_eq t.0 x) x t.0 refl refl p.0), apart_more ss x s apart.1 p.1)

present : (ss : List (List ℕ × Signature)) (j : ℕ) (x y : List ℕ) (s : Signature) → slice_get ss j ≡ Some (y, s) → x ≡ y → is_named x ss ≡ false → ⊥
present [] j x y s e same absent = cc
present (t ∷ ss) zero x y s e same absent =
    let p = absent_parts (bytes_eq x t.0) t.1 (named x ss) absent in
    let head : t ≡ (y, s) = cc in
    let yes : bytes_eq x t.0 ≡ true = (bytes_eq-Decides x t.0).1 (same ∙ sym (ap (λ (u : List ℕ × Signature). u.0) head)) in cc
present (t ∷ ss) (suc j) x y s e same absent = present ss j x y s e same (absent_parts (bytes_eq x t.0) t.1 (named x ss) absent).1

pub one_index : (ss : List (List ℕ × Signature)) (i j : ℕ) (x y : List ℕ) (s t : Signature) → Apart ss → slice_get ss i ≡ Some (x, s) → slice_get ss j ≡ Some (y, t) → x ≡ y → i ≡ j
one_index [] i j x y s t apart e f same = cc
one_index (u ∷ ss) zero zero x y s t apart e f same = refl
one_index (u ∷ ss) zero (suc j) x y s t apart e f same = let head : u ≡ (x, s) = cc in absurd (present ss j u.0 y t f (ap (λ (v : List ℕ × Signature). v.0) head ∙ same) apart.0)
one_index (u ∷ ss) (suc i) zero x y s t apart e f same = let head : u ≡ (y, t) = cc in absurd (present ss i u.0 x s e (ap (λ (v : List ℕ × Signature). v.0) head ∙ sym same) apart.0)
one_index (u ∷ ss) (suc i) (suc j) x y s t apart e f same = ap suc (one_index ss i j x y s t apart.1 e f same)

-- ---- both walks

-- what was noted and what was judged go together; the second walk knows the names of the whole program
pub record Together (scope : Scope) (s : Scope) (b : NamedProgram) : Type 0 where
  pub shapes : List TypeShape
  pub is : b.shape ≡ shape_of scope 1 scope.roots ∷ shapes
  pub entries : Entries scope 1 s.types shapes
  pub routines : Routines scope 0 s.procedures b.procedures
  pub few_types : length s.types ≤ 64
  pub few_procedures : length s.procedures ≤ 256
  pub few_roots : length s.roots.list ≤ MOST_ROOTS
  pub one_each : s.roots.values + s.roots.pointers ≤ length s.roots.list
  pub laid : IsLaid scope s.roots
  pub known : AllKnown scope s.roots.list
  pub apart : Apart s.procedures

pub start : (scope : Scope) → Together scope nothing_declared (root_alone scope)
start scope = record {
  shapes = [];
  is = refl;
  entries = tt;
  routines = tt;
  few_types = omega arith;
  few_procedures = omega arith;
  few_roots = omega arith;
  one_each = omega arith;
  laid = laid_none scope;
  known = tt;
  apart = tt;
}

record_together : (scope s t : Scope) (b c : NamedProgram) (line : ℕ) (x : List ℕ) (l : ℤ) (fs : List tree.FieldText) → Together scope s b
    → noted s (tree.Record line x l fs) ≡ Ok t → declared scope b (tree.Record line x l fs) ≡ Ok c → Together scope t c
record_together scope s t b c line x l fs g e f =
    let r : RecordType = record { number = record { 0 = length s.types + 1 }; members = members_from no_members fs } in
    let new : Scope = record s { types = s.types ++ (x, r) ∷ [] } in
    let one : Result Scope TypeFault = Ok new in
    let p = passed (nat_lt (length s.types) 64) (fault.TooMany line) (check (is_free s x) (fault.Duplicate line) one) t e in
    let q = passed (is_free s x) (fault.Duplicate line) one t p.1 in
    let n = found_passed (limit_of l) (fault.Limit line) _ c f in
    let m = first_passed (through (field scope) no_members fs) _ c n.1.1 in
    let d = fields scope fs no_members m.0 (laid_none scope) tt (omega arith) m.1.0 in
    let bounds = limits l n.0 n.1.0 in
    let below = ltb-true (length s.types) 64 p.0 in
    let more : length new.types ≡ length s.types + 1 = length-append s.types _ in
    let entry : IsEntry scope (length s.types + 1) r (shape_of scope n.0 m.0) = record {
      number = refl;
      limit = n.0;
      least = bounds.0;
      most = bounds.1;
      is = ap (shape_of scope n.0) (sym d.same);
      laid = subst (λ (k : Members). IsLaid scope k) (sym d.same) d.laid;
      few = subst (λ (k : Members). HasFew k) (sym d.same) d.few;
      known = subst (λ (k : Members). AllKnown scope k.list) (sym d.same) d.known;
    } in
    let at : length s.types + 1 ≡ 1 + length s.types = omega arith in
    let made : NamedProgram = record b { shape = b.shape ++ shape_of scope n.0 m.0 ∷ []; names = b.names ++ names_of x m.0 ∷ [] } in
    let whole : Together scope new made = record {
      shapes = g.shapes ++ shape_of scope n.0 m.0 ∷ [];
      is = ap (λ ss. ss ++ shape_of scope n.0 m.0 ∷ []) g.is;
      entries = entry_more scope 1 (length s.types + 1) s.types g.shapes x r (shape_of scope n.0 m.0) g.entries at entry;
      routines = g.routines;
      few_types = omega (arith, more, below);
      few_procedures = g.few_procedures;
      few_roots = g.few_roots;
      one_each = g.one_each;
      laid = g.laid;
      known = g.known;
      apart = g.apart;
    } in
    subst (λ (u : Scope). Together scope u c) (same_ok _ _ q.1) (of_ok (λ (k : NamedProgram). Together scope new k) made c whole m.1.1)

root_together : (scope s t : Scope) (b c : NamedProgram) (line : ℕ) (x : List ℕ) (kind : tree.TypeWord) → Together scope s b
    → noted s (tree.Root line x kind) ≡ Ok t → declared scope b (tree.Root line x kind) ≡ Ok c → Together scope t c
root_together scope s t b c line x kind g e f =
    let new : Scope = record s { roots = with_member s.roots x kind None } in
    let one : Result Scope TypeFault = Ok new in
    let p = passed (nat_lt (length s.roots.list) MOST_ROOTS) (fault.TooMany line) (check (is_free s x) (fault.Duplicate line) one) t e in
    let q = passed (is_free s x) (fault.Duplicate line) one t p.1 in
    let k = passed (is_known scope kind) (fault.Unknown line) (Ok b) c f in
    let below = ltb-true (length s.roots.list) MOST_ROOTS p.0 in
    let each = g.one_each in
    let fits : s.roots.values + s.roots.pointers + 1 ≤ MOST_ELEMENTS = omega (arith, below, each) in
    let total = total_more s.roots x kind None fits in
    let long = longer s.roots x kind None in
    let whole : Together scope new b = record {
      shapes = g.shapes;
      is = g.is;
      entries = g.entries;
      routines = g.routines;
      few_types = g.few_types;
      few_procedures = g.few_procedures;
      few_roots = omega (arith, long, below);
      one_each = omega (arith, total, long, each);
      laid = laid_more scope s.roots x kind None g.laid tt fits;
      known = known_member scope s.roots x kind None g.known k.0;
      apart = g.apart;
    } in
    subst (λ (u : Scope). Together scope u c) (same_ok _ _ q.1) (of_ok (λ (j : NamedProgram). Together scope new j) b c whole k.1)

procedure_together : (scope s t : Scope) (b c : NamedProgram) (text : tree.ProcedureText) → depth.phrases_height text.body ≤ 63
    → depth.phrases_nesting text.body ≤ 15 → Together scope s b → noted s (tree.Procedure text) ≡ Ok t → declared scope b (tree.Procedure text) ≡ Ok c
    → Together scope t c
procedure_together scope s t b c text high deep g e f =
    let sign : Signature = record { number = record { 0 = length s.procedures }; query = text.query; parameters = text.parameters; result = text.result } in
    let new : Scope = record s { procedures = s.procedures ++ (text.name, sign) ∷ [] } in
    let one : Result Scope TypeFault = Ok new in
    let p = passed (nat_lt (length s.procedures) 256) (fault.TooMany text.line) (check (is_free s text.name) (fault.Duplicate text.line) one) t e in
    let q = passed (is_free s text.name) (fault.Duplicate text.line) one t p.1 in
    let m = first_passed (procedure scope text) _ c f in
    let below = ltb-true (length s.procedures) 256 p.0 in
    let more : length new.procedures ≡ length s.procedures + 1 = length-append s.procedures _ in
    let made : NamedProgram = record b { procedures = b.procedures ++ m.0 ∷ [] } in
    let at : length s.procedures ≡ 0 + length s.procedures = omega arith in
    let whole : Together scope new made = record {
      shapes = g.shapes;
      is = g.is;
      entries = g.entries;
      routines = routine_more scope 0 (length s.procedures) s.procedures b.procedures text.name sign m.0 g.routines at
          (record { text = text; name = refl; signature = refl; made = m.1.0; height = high; nesting = deep });
      few_types = g.few_types;
      few_procedures = omega (arith, more, below);
      few_roots = g.few_roots;
      one_each = g.one_each;
      laid = g.laid;
      known = g.known;
      apart = apart_more s.procedures text.name sign g.apart (free_parts s text.name q.0).2;
    } in
    subst (λ (u : Scope). Together scope u c) (same_ok _ _ q.1) (of_ok (λ (k : NamedProgram). Together scope new k) made c whole m.1.1)

item_together : (scope s t : Scope) (b c : NamedProgram) (item : tree.Item) → depth.item_height item ≤ 63 → depth.item_nesting item ≤ 15
    → Together scope s b → noted s item ≡ Ok t → declared scope b item ≡ Ok c → Together scope t c
item_together scope s t b c (tree.Record line x l fs) high deep g e f = record_together scope s t b c line x l fs g e f
item_together scope s t b c (tree.Root line x kind) high deep g e f = root_together scope s t b c line x kind g e f
item_together scope s t b c (tree.Procedure text) high deep g e f = procedure_together scope s t b c text high deep g e f

pub together : (scope : Scope) (items : List tree.Item) (s t : Scope) (b c : NamedProgram) → depth.greatest depth.item_height items ≤ 63
    → depth.greatest depth.item_nesting items ≤ 15 → Together scope s b →
    through noted s items ≡ Ok t → through (declared scope) b items ≡ Ok c → Together scope t c
together scope [] s t b c high deep g e f = subst (λ (u : Scope). Together scope u c) (same_ok _ _ e) (subst (λ (k : NamedProgram). Together scope s k) (same_ok _ _ f) g)
together scope (item ∷ items) s t b c high deep g e f =
    let p = first_passed (noted s item) (λ now. through noted now items) t e in
    let q = first_passed (declared scope b item) (λ now. through (declared scope) now items) c f in
    let h : depth.item_height item ≤ 63 = omega arith in
    let d : depth.item_nesting item ≤ 15 = omega arith in
    let hs : depth.greatest depth.item_height items ≤ 63 = omega arith in
    let ds : depth.greatest depth.item_nesting items ≤ 15 = omega arith in
    together scope items p.0 t q.0 c hs ds (item_together scope s p.0 b q.0 item h d g p.1.0 q.1.0) p.1.1 q.1.1

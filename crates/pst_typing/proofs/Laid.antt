-- Where the fields of a record type lie.
use Rattle.std.proofs.Common.{◌≡◌, ◌⊎◌, inl, inr, ⊎_elim, ℕ, ◌+◌, ◌-◌, ◌<◌, ◌≤◌, Bool, true, false, ◌&&◌, cond, if◌then◌else◌, nat_lt, nat_le, nat_eq, List, []}
use Rattle.std.proofs.Common.{◌∷◌, ◌++◌, length, replicate, Option, Some, None, slice_get, refl, sym, ap, subst, ◌∙◌, suc, zero, arith, bytes_eq, length-append}
use Rattle.std.proofs.Common.{append_assoc, eq-eqb}
use Rattle.std.specs.Option.{option_map, option_and_then, option_eq}
use Rattle.std.proofs.Math.Nat.{min-eq_left}
use Rattle.std.proofs.lemmas.Bool.{lt-ltb, ltb-true}
use Rattle.std.proofs.lemmas.Bool.Decides.{nat_tests}
use Rattle.std.proofs.lemmas.List.{append-nil, length-replicate}
use Rattle.std.proofs.lemmas.Option.{slice_get_within}
use Rattle.pst_base.specs.declared.names.TypeNo.{TypeNo}
use Rattle.pst_base.specs.declared.names.Kind.{Kind}
use Rattle.pst_base.specs.declared.names.Kind.TheVariants as kinds
use Rattle.pst_base.specs.declared.shape.TypeShape.{TypeShape}
use Rattle.pst_base.specs.declared.shape.TheConstants.{MOST_ELEMENTS, LONGEST_ARRAY}
use Rattle.pst_base.specs.Shape as shape
use Rattle.pst_grammar.specs.Syntax.{TypeWord, Int, Named}
use Rattle.pst_program.specs.Typed as typed
use Rattle.pst_typing.specs.Names.{Member, Members, no_members, with_member, Scope, Slot, named, bounded, elements_of, slot_among, slot_of, slot_in, number_of, kind_of, is_known}
use Rattle.pst_typing.specs.Declarations.{with_targets, targets_of, shape_of}
use Rattle.pst_typing.proofs.Passed.{both_true}

-- ---- lists

pub get_front : {A : Type 0} (xs ys : List A) (i : ℕ) (x : A) → slice_get xs i ≡ Some x → slice_get (xs ++ ys) i ≡ Some x
get_front [] ys i x e = cc
get_front (a ∷ xs) ys zero x e = e
get_front (a ∷ xs) ys (suc i) x e = get_front xs ys i x e

at_seam : {A : Type 0} (xs : List A) (x : A) → slice_get (xs ++ x ∷ []) (length xs) ≡ Some x
at_seam [] x = refl
at_seam (a ∷ xs) x = at_seam xs x

pub get_last : {A : Type 0} (xs : List A) (i : ℕ) (x : A) → i ≡ length xs → slice_get (xs ++ x ∷ []) i ≡ Some x
get_last xs i x e = ap (slice_get (xs ++ x ∷ [])) e ∙ at_seam xs x

-- an item of what stands behind a list
get_behind : {A : Type 0} (xs ys : List A) (i k : ℕ) → i ≡ length xs → slice_get (xs ++ ys) (i + k) ≡ slice_get ys k
get_behind [] ys i k e = let same : i + k ≡ k = omega (arith, e) in ap (slice_get ys) same
get_behind (a ∷ xs) ys i k e =
    let same : i + k ≡ suc (length xs + k) = omega (arith, e) in
    ap (slice_get (a ∷ (xs ++ ys))) same ∙ get_behind xs ys (length xs) k refl

get_repeated : {A : Type 0} (n : ℕ) (a : A) (rest : List A) (k : ℕ) → k < n → slice_get (replicate n a ++ rest) k ≡ Some a
get_repeated zero a rest k below = absurd (omega arith)
get_repeated (suc n) a rest zero below = refl
get_repeated (suc n) a rest (suc k) below = let inside : k < n = omega arith in get_repeated n a rest k inside

last_of : {A : Type 0} (t : Bool) (a b : A) → cond t (Some a) None ≡ Some b → b ≡ a
last_of true a b e = cc
last_of false a b e = cc

head_or : {A Q : Type 0} (t : Bool) (v : A) (rest more : Option A) (b : A) → (more ≡ Some b → (rest ≡ Some b) ⊎ Q) → cond t (Some v) more ≡ Some b → (cond t (Some v) rest ≡ Some b) ⊎ Q
head_or true v rest more b go e = inl e
head_or false v rest more b go e = go e

-- a name that is found after one more entry
pub named_last : {A : Type 0} (f x : List ℕ) (l : List (List ℕ × A)) (a b : A) → named f (l ++ (x, a) ∷ []) ≡ Some b → (named f l ≡ Some b) ⊎ (b ≡ a)
named_last f x [] a b e = inr (last_of (bytes_eq f x) a b e)
named_last f x (h ∷ l) a b e = head_or (bytes_eq f h.0) h.1 (named f l) (named f (l ++ (x, a) ∷ [])) b (named_last f x l a b) e

-- ---- targets

target_more : (scope : Scope) (kind : TypeWord) (n : ℕ) (xs ys : List TypeNo) → with_targets scope kind n (xs ++ ys) ≡ with_targets scope kind n xs ++ ys
target_more scope Int n xs ys = refl
target_more scope (Named t) n xs ys = sym (append_assoc (replicate n (number_of scope t)) xs ys)

pub targets_more : (scope : Scope) (l k : List (List ℕ × Member)) → targets_of scope (l ++ k) ≡ targets_of scope l ++ targets_of scope k
targets_more scope [] k = refl
targets_more scope (m ∷ l) k =
    ap (with_targets scope m.1.kind (elements_of m.1.elements)) (targets_more scope l k) ∙ target_more scope m.1.kind (elements_of m.1.elements) (targets_of scope l) (targets_of scope k)

-- every field is int or a pointer to a declared type
abbrev pub AllKnown : Scope → List (List ℕ × Member) → Type 0
AllKnown scope [] = Unit {0}
AllKnown scope (m ∷ ms) = (is_known scope m.1.kind ≡ true) × AllKnown scope ms

pub known_more : (scope : Scope) (l : List (List ℕ × Member)) (x : List ℕ) (m : Member) → AllKnown scope l → is_known scope m.kind ≡ true → AllKnown scope (l ++ (x, m) ∷ [])
known_more scope [] x m all known = (known, tt)
known_more scope (h ∷ l) x m all known = (all.0, known_more scope l x m all.1 known)

known_head : {A : Type 0} (t : Bool) (v : A) (rest : Option A) (b : A) (P : A → Type 0) → P v → (rest ≡ Some b → P b) → cond t (Some v) rest ≡ Some b → P b
known_head true v rest b P here go e = let same : v ≡ b = cc in subst P same here
known_head false v rest b P here go e = go e

pub known_named : (scope : Scope) (l : List (List ℕ × Member)) (f : List ℕ) (m : Member) → AllKnown scope l → named f l ≡ Some m → is_known scope m.kind ≡ true
known_named scope [] f m all e = cc
known_named scope (h ∷ l) f m all e = known_head (bytes_eq f h.0) h.1 (named f l) m (λ (k : Member). is_known scope k.kind ≡ true) all.0 (known_named scope l f m all.1) e

-- ---- ranks

-- a number of elements that a field can have
abbrev pub LengthFits : Option ℕ → Type 0
LengthFits None = Unit {0}
LengthFits (Some n) = typed.is_length n ≡ true

some_elements : (n : Option ℕ) → LengthFits n → 0 < elements_of n
some_elements None fits = omega arith
some_elements (Some n) fits = ltb-true 0 n (both_true (nat_lt 0 n) (nat_le n LONGEST_ARRAY) fits).0

-- where the elements of a field of a sort lie
abbrev pub PlacedBy : Scope → Members → TypeWord → (rank elements : ℕ) → Type 0
PlacedBy scope m Int rank n = rank + n ≤ m.values
PlacedBy scope m (Named t) rank n = (k : ℕ) → k < n → slice_get (targets_of scope m.list) (rank + k) ≡ Some (number_of scope t)

pub record IsPlaced (scope : Scope) (m : Members) (member : Member) : Type 0 where
  pub fits : LengthFits member.elements
  pub lies : PlacedBy scope m member.kind member.rank (elements_of member.elements)

pub record IsLaid (scope : Scope) (m : Members) : Type 0 where
  pub pointers : m.pointers ≡ length (targets_of scope m.list)
  pub placed : (f : List ℕ) (member : Member) → named f m.list ≡ Some member → IsPlaced scope m member

-- no more elements than a record type can have
abbrev pub HasFew : Members → Type 0
HasFew m = m.values + m.pointers ≤ MOST_ELEMENTS

pub laid_none : (scope : Scope) → IsLaid scope no_members
laid_none scope = record { pointers = refl; placed = λ f member e. cc }

pub small : (n : ℕ) → n ≤ 65535 → bounded n ≡ n
small n few = min-eq_left few

lies_more : (scope : Scope) (m n : Members) (more : List TypeNo) (kind : TypeWord) (rank elements : ℕ) → m.values ≤ n.values
    → targets_of scope n.list ≡ targets_of scope m.list ++ more → PlacedBy scope m kind rank elements → PlacedBy scope n kind rank elements
lies_more scope m n more Int rank elements up same p = omega arith
lies_more scope m n more (Named t) rank elements up same p = λ k below. ap (λ l. slice_get l (rank + k)) same ∙ get_front (targets_of scope m.list) more (rank + k) (number_of scope t) (p k below)

placed_more : (scope : Scope) (m n : Members) (more : List TypeNo) (member : Member) → m.values ≤ n.values
    → targets_of scope n.list ≡ targets_of scope m.list ++ more → IsPlaced scope m member → IsPlaced scope n member
placed_more scope m n more member up same p = record { fits = p.fits; lies = lies_more scope m n more member.kind member.rank (elements_of member.elements) up same p.lies }

-- with one more field all lie where they should, if the new one does
all_placed : (scope : Scope) (m n : Members) (more : List TypeNo) (x : List ℕ) (new : Member) → n.list ≡ m.list ++ (x, new) ∷ [] → m.values ≤ n.values
    → targets_of scope n.list ≡ targets_of scope m.list ++ more → IsLaid scope m → IsPlaced scope n new →
    (f : List ℕ) (member : Member) → named f n.list ≡ Some member → IsPlaced scope n member
all_placed scope m n more x new is up same laid here f member e =
    ⊎_elim (λ (old : named f m.list ≡ Some member). placed_more scope m n more member up same (laid.placed f member old))
    (λ (last : member ≡ new). subst (λ (k : Member). IsPlaced scope n k) (sym last) here)
    (named_last f x m.list new member (sym (ap (named f) is) ∙ e))

pub laid_more : (scope : Scope) (m : Members) (x : List ℕ) (kind : TypeWord) (elements : Option ℕ) → IsLaid scope m → LengthFits elements
    → m.values + m.pointers + elements_of elements ≤ MOST_ELEMENTS → IsLaid scope (with_member m x kind elements)
laid_more scope m x Int elements laid fits few =
    let n : Members = with_member m x Int elements in
    let new : Member = record { rank = m.values; kind = Int; elements = elements } in
    let values_fit : m.values + elements_of elements ≤ 65535 = omega (arith, few) in
    let values : n.values ≡ m.values + elements_of elements = small (m.values + elements_of elements) values_fit in
    let targets : targets_of scope n.list ≡ targets_of scope m.list ++ [] = targets_more scope m.list ((x, new) ∷ []) in
    let up : m.values ≤ n.values = omega (arith, values) in
    let inside : m.values + elements_of elements ≤ n.values = omega (arith, values) in
    record {
      pointers = laid.pointers ∙ ap length (sym (targets ∙ append-nil (targets_of scope m.list)));
      placed = all_placed scope m n [] x new refl up targets laid (record { fits = fits; lies = inside });
    }
laid_more scope m x (Named t) elements laid fits few =
    let n : Members = with_member m x (Named t) elements in
    let new : Member = record { rank = m.pointers; kind = Named t; elements = elements } in
    let ty = number_of scope t in
    let more : List TypeNo = replicate (elements_of elements) ty ++ [] in
    let pointers_fit : m.pointers + elements_of elements ≤ 65535 = omega (arith, few) in
    let pointers : n.pointers ≡ m.pointers + elements_of elements = small (m.pointers + elements_of elements) pointers_fit in
    let targets : targets_of scope n.list ≡ targets_of scope m.list ++ more = targets_more scope m.list ((x, new) ∷ []) in
    let added : length more ≡ elements_of elements = ap length (append-nil (replicate (elements_of elements) ty)) ∙ length-replicate (elements_of elements) ty in
    let longer : length (targets_of scope n.list) ≡ length (targets_of scope m.list) + length more = ap length targets ∙ length-append (targets_of scope m.list) more in
    let up : m.values ≤ n.values = omega arith in
    let lies : PlacedBy scope n (Named t) m.pointers (elements_of elements) = λ k below.
    ap (λ l. slice_get l (m.pointers + k)) targets ∙ get_behind (targets_of scope m.list) more m.pointers k laid.pointers ∙ get_repeated (elements_of elements) ty [] k below in
    record {
      pointers = omega (arith, laid.pointers, pointers, longer, added);
      placed = all_placed scope m n more x new refl up targets laid (record { fits = fits; lies = lies });
    }

-- ---- slots

in_values : (slot values : ℕ) (rest : Option Kind) → slot < values → (if nat_lt slot values then Some kinds.Int else rest) ≡ Some kinds.Int
in_values slot values rest below = ap (λ b. cond b (Some kinds.Int) rest) (lt-ltb slot values below)

past_values : (slot values rank : ℕ) (targets : List TypeNo) (ty : TypeNo) → slot ≡ values + rank → slice_get targets rank ≡ Some ty →
    (if nat_lt slot values then Some kinds.Int else option_map kinds.Pointer (slice_get targets (slot - values))) ≡ Some (kinds.Pointer ty)
past_values slot values rank targets ty is at =
    let past : nat_lt slot values ≡ false = grind (arith, nat_tests) in
    let left : slot - values ≡ rank = omega (arith, is) in
    ap (λ b. cond b (Some kinds.Int) (option_map kinds.Pointer (slice_get targets (slot - values)))) past
    ∙ ap (λ k. option_map kinds.Pointer (slice_get targets k)) left ∙ ap (option_map kinds.Pointer) at

-- what an element holds
element_kind : (scope : Scope) (m : Members) (limit : ℕ) (kind : TypeWord) (rank elements k : ℕ) → IsLaid scope m → HasFew m → PlacedBy scope m kind rank elements → k < elements →
    shape.field_kind (shape_of scope limit m) (slot_among m kind rank + k) ≡ Some (kind_of scope kind)
element_kind scope m limit Int rank elements k laid few p below = let inside : rank + k < m.values = omega (arith, below, p) in in_values (rank + k) m.values _ inside
element_kind scope m limit (Named t) rank elements k laid few p below =
    let at = p k below in
    let inside : rank + k < length (targets_of scope m.list) = slice_get_within (targets_of scope m.list) (rank + k) (number_of scope t) at in
    let fits : m.values + rank ≤ 65535 = omega (arith, few, laid.pointers, inside) in
    let first = small (m.values + rank) fits in
    let same : bounded (m.values + rank) + k ≡ m.values + (rank + k) = omega (arith, first) in
    past_values (bounded (m.values + rank) + k) m.values (rank + k) (targets_of scope m.list) (number_of scope t) same at

-- ---- kinds and arrays

nat_same : (n : ℕ) → nat_eq n n ≡ true
nat_same n = eq-eqb n n refl

pub same_kind_refl : (k : Kind) → typed.same_kind k k ≡ true
same_kind_refl kinds.Int = refl
same_kind_refl (kinds.Pointer ty) = nat_same ty.0

all_held : (t : TypeShape) (kind : Kind) (slot n : ℕ) → ((k : ℕ) → k < n → shape.field_kind t (slot + k) ≡ Some kind) → typed.all_hold t kind slot n ≡ true
all_held t kind slot zero has = refl
all_held t kind slot (suc n) has =
    let rest = all_held t kind slot n (λ k below. let further : k < suc n = omega (arith, below) in has k further) in
    let below : n < suc n = omega arith in
    ap (λ b. b && option_eq typed.same_kind (shape.field_kind t (slot + n)) (Some kind)) rest ∙ ap (λ o. option_eq typed.same_kind o (Some kind)) (has n below) ∙ same_kind_refl kind

array_is : (t : TypeShape) (kind : Kind) (slot n : ℕ) → typed.is_length n ≡ true → shape.field_kind t slot ≡ Some kind
    → ((k : ℕ) → k < n → shape.field_kind t (slot + k) ≡ Some kind) → typed.array_kind t slot n ≡ Some kind
array_is t kind slot n long first has =
    ap (option_and_then (λ k. if typed.is_length n && typed.all_hold t k slot n then Some k else None)) first
    ∙ ap (λ b. if b && typed.all_hold t kind slot n then Some kind else None) long
    ∙ ap (λ b. if b then Some kind else None) (all_held t kind slot n has)

found_slot : {A B : Type 0} (f : A → B) (o : Option A) (s : B) → option_map f o ≡ Some s → (a : A) × ((o ≡ Some a) × (s ≡ f a))
found_slot f None s e = cc
found_slot f (Some a) s e = (a, (refl, cc))

abbrev pub slot_seen : Members → Member → Slot
slot_seen m member = record { slot = slot_of m member; kind = member.kind; elements = member.elements }

elements_at : (scope : Scope) (m : Members) (limit : ℕ) (member : Member) → IsLaid scope m → HasFew m → IsPlaced scope m member → (k : ℕ) → k < elements_of member.elements →
    shape.field_kind (shape_of scope limit m) (slot_of m member + k) ≡ Some (kind_of scope member.kind)
elements_at scope m limit member laid few p k below = element_kind scope m limit member.kind member.rank (elements_of member.elements) k laid few p.lies below

first_at : (scope : Scope) (m : Members) (limit : ℕ) (member : Member) → IsLaid scope m → HasFew m → IsPlaced scope m member
    → shape.field_kind (shape_of scope limit m) (slot_of m member) ≡ Some (kind_of scope member.kind)
first_at scope m limit member laid few p =
    let same : slot_of m member ≡ slot_of m member + 0 = omega arith in
    ap (shape.field_kind (shape_of scope limit m)) same ∙ elements_at scope m limit member laid few p 0 (some_elements member.elements p.fits)

-- a field that is found has its kind at its slot
pub slot_fits : (scope : Scope) (m : Members) (limit : ℕ) (f : List ℕ) (s : Slot) → IsLaid scope m → HasFew m → slot_in m f ≡ Some s
    → shape.field_kind (shape_of scope limit m) s.slot ≡ Some (kind_of scope s.kind)
slot_fits scope m limit f s laid few e =
    let p = found_slot (slot_seen m) (named f m.list) s e in
    let k = first_at scope m limit p.0 laid few (laid.placed f p.0 p.1.0) in
    subst (λ (s : Slot). shape.field_kind (shape_of scope limit m) s.slot ≡ Some (kind_of scope s.kind)) (sym p.1.1) k

array_at : (scope : Scope) (m : Members) (limit : ℕ) (rank : ℕ) (kind : TypeWord) (elements : Option ℕ) (n : ℕ) → elements ≡ Some n → IsLaid scope m
    → HasFew m → (let member : Member = record { rank = rank; kind = kind; elements = elements } in IsPlaced scope m member) →
    typed.array_kind (shape_of scope limit m) (slot_among m kind rank) n ≡ Some (kind_of scope kind)
array_at scope m limit rank kind None n e laid few p = cc
array_at scope m limit rank kind (Some k) n e laid few p =
    let same : k ≡ n = cc in
    let member : Member = record { rank = rank; kind = kind; elements = Some k } in
    subst (λ (i : ℕ). typed.array_kind (shape_of scope limit m) (slot_among m kind rank) i ≡ Some (kind_of scope kind)) same
    (array_is (shape_of scope limit m) (kind_of scope kind) (slot_among m kind rank) k p.fits (first_at scope m limit member laid few p) (elements_at scope m limit member laid few p))

-- an array that is found has its kind at each slot
pub array_fits : (scope : Scope) (m : Members) (limit : ℕ) (f : List ℕ) (s : Slot) (n : ℕ) → IsLaid scope m → HasFew m → slot_in m f ≡ Some s
    → s.elements ≡ Some n → typed.array_kind (shape_of scope limit m) s.slot n ≡ Some (kind_of scope s.kind)
array_fits scope m limit f s n laid few e many =
    let p = found_slot (slot_seen m) (named f m.list) s e in
    let here : p.0.elements ≡ Some n = sym (ap (λ (s : Slot). s.elements) p.1.1) ∙ many in
    let k = array_at scope m limit p.0.rank p.0.kind p.0.elements n here laid few (laid.placed f p.0 p.1.0) in
    subst (λ (s : Slot). typed.array_kind (shape_of scope limit m) s.slot n ≡ Some (kind_of scope s.kind)) (sym p.1.1) k

pub slot_known : (scope : Scope) (m : Members) (f : List ℕ) (s : Slot) → AllKnown scope m.list → slot_in m f ≡ Some s → is_known scope s.kind ≡ true
slot_known scope m f s known e =
    let p = found_slot (slot_seen m) (named f m.list) s e in
    subst (λ (s : Slot). is_known scope s.kind ≡ true) (sym p.1.1) (known_named scope m.list f p.0 known p.1.0)

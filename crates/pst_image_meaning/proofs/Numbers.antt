-- Numbers of contents, and contents of numbers.
use Rattle.std.proofs.Common.{◌≡◌, ℕ, zero, suc, ◌+◌, ◌-◌, ◌/◌, ◌%◌, ◌<◌, ◌≤◌, Bool, cond, Option, Some, None, refl, ap, ap₂, ◌∙◌, ⊎_elim, arith}
use Rattle.std.specs.Prelude.{slice_get, ⊤}
use Rattle.std.specs.Int.{w64}
use Rattle.std.specs.Option.{option_map}
use Rattle.std.proofs.lemmas.Bool.{le-ltb, lt-ltb}
use Rattle.std.proofs.lemmas.Int.{of_z-to_z, to_z-of_z}
use Rattle.std.proofs.lemmas.Option.{slice_get-get_or, slice_get_past}
use Rattle.pst_base.specs.declared.names.Kind.{Kind}
use Rattle.pst_base.specs.declared.names.Kind.TheVariants.{Int, Pointer}
use Rattle.pst_base.specs.declared.names.NodeId.{NodeId}
use Rattle.pst_base.specs.declared.names.SlotNo.{SlotNo}
use Rattle.pst_base.specs.declared.names.TypeNo.{TypeNo}
use Rattle.pst_base.specs.declared.shape.TypeShape.{TypeShape}
use Rattle.pst_base.specs.Shape.{type_at, field_kind, element_count, root_type}
use Rattle.pst_rows.specs.declared.content.Content.{Content}
use Rattle.pst_rows.specs.declared.content.Content.TheVariants.{Number, Null, Free, Target as TargetOf, From as FromOf}
use Rattle.pst_mirror.specs.Kinds.{HasKind as IsOfKind}
use Rattle.pst_store_meaning.specs.Store.{width}
use Rattle.pst_image_rules.specs.Nodes.{entry, HasKind}
use Rattle.pst_image_meaning.specs.Parts.{content_number}
use Rattle.pst_image_meaning.specs.Denoted.{pointer_content, entry_content, kind_content, content_of, IsShortContent}
use Rattle.pst_image_meaning.specs.Laws.{NumbersBackLaw}

-- ---- kinds of slots

pub value_kind : (t : TypeShape) (g : ℕ) → g < t.values → field_kind t g ≡ Some Int
value_kind t g l = ap (λ (b : Bool). cond b (Some Int) (option_map Pointer (slice_get t.targets (g - t.values)))) (lt-ltb g t.values l)

pub behind_values : (t : TypeShape) (g : ℕ) → t.values ≤ g → field_kind t g ≡ option_map Pointer (slice_get t.targets (g - t.values))
behind_values t g l = ap (λ (b : Bool). cond b (Some Int) (option_map Pointer (slice_get t.targets (g - t.values)))) (le-ltb g t.values l)

pub pointer_kind : (t : TypeShape) (g : ℕ) → t.values ≤ g → g < element_count t → (ty : TypeNo) × (field_kind t g ≡ Some (Pointer ty))
pointer_kind t g low high = (
  _,
  behind_values t g low ∙ ap (λ (o : Option TypeNo). option_map Pointer o) (slice_get-get_or t.targets (g - t.values) root_type (omega (arith, low, high))),
)

pub inverse_kind : (t : TypeShape) (g : ℕ) → element_count t ≤ g → field_kind t g ≡ None
inverse_kind t g low = behind_values t g (omega (arith, low)) ∙ ap (λ (o : Option TypeNo). option_map Pointer o) (slice_get_past t.targets (g - t.values) (omega (arith, low)))

-- ---- numbers back

pointer_back : (n : ℕ) → content_number (pointer_content n) ≡ n
pointer_back zero = refl
pointer_back (suc y) = refl

entry_back : (n x f : ℕ) → n ≡ entry x f → f < 128 → content_number (entry_content n) ≡ n
entry_back zero x f e l = refl
entry_back (suc m) x f e l = omega (arith, e, l)

pub numbers_back : NumbersBackLaw
numbers_back shape ks ty g n small fits = by (field_kind (type_at shape ty) g) fits
  where
    by : (o : Option Kind) → HasKind shape ks ty o n → content_number (kind_content o n) ≡ n
    by (Some Int) k = of_z-to_z w64 n small
    by (Some (Pointer u)) k = pointer_back n
    by None k = ⊎_elim (λ (e : n ≡ 0). none n e) (λ x. entry_back n x.0 x.1 x.2 x.3) k
      where
        none : (n : ℕ) → n ≡ 0 → content_number (entry_content n) ≡ n
        none zero e = refl
        none (suc m) e = absurd (omega (arith, e))

-- ---- contents back

-- the slot of an entry is below 128
abbrev pub HasSmallField : Content → Type 0
HasSmallField (Number z) = ⊤
HasSmallField Null = ⊤
HasSmallField (TargetOf y) = ⊤
HasSmallField Free = ⊤
HasSmallField (FromOf x f) = f.0 < 128

pub entry_is : (n : ℕ) (x : NodeId) (f : SlotNo) → n ≡ entry x.0 f.0 → f.0 < 128 → entry_content n ≡ FromOf x f
entry_is zero x f e l = absurd (omega (arith, e))
entry_is (suc m) x f e l =
    let node : suc m / 128 - 1 ≡ x.0 = omega (arith, e, l) in
    let slot : suc m % 128 ≡ f.0 = omega (arith, e, l) in
    ap₂ (λ (a b : ℕ). FromOf (record { 0 = a }) (record { 0 = b })) node slot

pub content_back : (t : TypeShape) (ty : ℕ → TypeNo) (g : ℕ) (c : Content) → g < width t → IsOfKind t ty g c → IsShortContent c → HasSmallField c → content_of t g (content_number c) ≡ c
content_back t ty g (Number z) l k short few = ap (λ (o : Option Kind). kind_content o (content_number (Number z))) (value_kind t g k) ∙ ap Number (to_z-of_z w64 z short)
content_back t ty g Null l k short few = ⊎_elim
    (λ (below : g < element_count t). ap (λ (o : Option Kind). kind_content o 0) (pointer_kind t g k.0 below).1)
    (λ (past : element_count t + t.limit ≤ g). absurd (omega (arith, l, past)))
    k.1
content_back t ty g (TargetOf y) l k short few = ap (λ (o : Option Kind). kind_content o (suc y.0)) k
content_back t ty g Free l k short few = ap (λ (o : Option Kind). kind_content o 0) (inverse_kind t g k.from)
content_back t ty g (FromOf x f) l k short few = ap (λ (o : Option Kind). kind_content o (entry x.0 f.0)) (inverse_kind t g k.from) ∙ entry_is (entry x.0 f.0) x f refl few

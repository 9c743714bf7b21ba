-- A field that is added.
use Rattle.std.proofs.Common.{◌≡◌, ℕ, ◌+◌, ◌<◌, false, Option, List, [], ◌∷◌, ◌++◌, map, length, drop, get_or, refl, sym, ap, subst, ◌∙◌, add-one, append_assoc, arith, Bor, bytes_eq}
use Rattle.std.proofs.lemmas.List.{length-map}
use Rattle.std.proofs.Math.Seq.{drop-cons}
use Rattle.std.proofs.Math.ListN.{get_or-map}
use Rattle.pst_base.specs.declared.names.SlotNo.{SlotNo}
use Rattle.indexmap.specs.IndexMap.{insert_entry}
use Rattle.pst_program.specs.declared.program.FieldName.{FieldName}
use Rattle.pst_types_scope.specs.declared.names.Word.{Word}
use Rattle.pst_types_scope.specs.declared.names.Word.TheVariants as word
use Rattle.pst_types_scope.specs.declared.names.Member.{Member}
use Rattle.pst_types_scope.specs.declared.names.Members.{Members}
use Rattle.pst_typing.specs.Names as names
use Rattle.pst_types_scope.specs.View.{kind_word, member_of, members_of, entries_of}
use Rattle.pst_types_scope.proofs.Lookups.{inserted}

pub value_added : (m : Members) (x : Bor (List ℕ)) (w : Word) (k : Option ℕ) (n : ℕ) (es : List (Bor (List ℕ) × Member)) → w ≡ word.Int → n ≡ names.bounded (m.values + names.elements_of k) →
    names.is_named x.now (members_of m).list ≡ false → es ≡ insert_entry (λ a b. bytes_eq a.now b.now) m.list.entries x (record { rank = m.values; kind = w; elements = k }) →
    let after : names.Members = record { values = n; pointers = m.pointers; list = entries_of member_of es } in after ≡ names.with_member (members_of m) x.now (kind_word w) k
value_added m x w k n es is_int counted free e =
    let f = ap (entries_of member_of) e ∙ inserted member_of m.list.entries x (record { rank = m.values; kind = w; elements = k }) free in
    let P : Word → Type 0 = λ v. let before : names.Members =
    record {
      values = names.bounded (m.values + names.elements_of k);
      pointers = m.pointers;
      list =
          (members_of m).list ++ (x.now, record { rank = m.values; kind = kind_word v; elements = k }) ∷ [];
    } in
    before ≡ names.with_member (members_of m) x.now (kind_word v) k in
    (λ i. record { values = counted i; pointers = m.pointers; list = f i }) ∙ subst P (sym is_int) refl

pub pointer_added : (m : Members) (x : Bor (List ℕ)) (w : Word) (t : Bor (List ℕ)) (k : Option ℕ) (n : ℕ) (es : List (Bor (List ℕ) × Member))
    → w ≡ word.Named t → n ≡ names.bounded (m.pointers + names.elements_of k) →
    names.is_named x.now (members_of m).list ≡ false → es ≡ insert_entry (λ a b. bytes_eq a.now b.now) m.list.entries x (record { rank = m.pointers; kind = w; elements = k }) →
    let after : names.Members = record { values = m.values; pointers = n; list = entries_of member_of es } in after ≡ names.with_member (members_of m) x.now (kind_word w) k
pointer_added m x w t k n es is_named counted free e =
    let f = ap (entries_of member_of) e ∙ inserted member_of m.list.entries x (record { rank = m.pointers; kind = w; elements = k }) free in
    let P : Word → Type 0 = λ v. let before : names.Members =
    record {
      values = m.values;
      pointers = names.bounded (m.pointers + names.elements_of k);
      list =
          (members_of m).list ++ (x.now, record { rank = m.pointers; kind = kind_word v; elements = k }) ∷ [];
    } in
    before ≡ names.with_member (members_of m) x.now (kind_word v) k in
    (λ i. record { values = m.values; pointers = counted i; list = f i }) ∙ subst P (sym is_named) refl

-- the names and slots of fields
abbrev pub field_names : names.Members → List (Bor (List ℕ) × Member) → List FieldName
field_names m es = map (λ f. record { name = f.0; slot = record { 0 = names.slot_of m f.1 }; elements = f.1.elements }) (entries_of member_of es)

same_slot : (m : names.Members) (ks : List (Bor (List ℕ))) (vs : List Member) (es : List (Bor (List ℕ) × Member)) (i : ℕ) (dk : Bor (List ℕ))
    (dv : Member) (f : FieldName) (slot : SlotNo) → ks ≡ map (λ e. e.0) es → vs ≡ map (λ e. e.1) es →
    f.name ≡ (get_or ks i dk).now → f.slot ≡ slot → f.elements ≡ (get_or vs i dv).elements → slot.0 ≡ names.slot_of m (member_of (get_or vs i dv)) →
    let e = get_or es i (dk, dv) in let g : FieldName = record { name = e.0.now; slot = record { 0 = names.slot_of m (member_of e.1) }; elements = e.1.elements } in f ≡ g
same_slot m ks vs es i dk dv f slot keys values named at many numbered =
    let k : get_or ks i dk ≡ (get_or es i (dk, dv)).0 = ap (λ l. get_or l i dk) keys ∙ get_or-map (λ (e : Bor (List ℕ) × Member). e.0) es i (dk, dv) in
    let v : get_or vs i dv ≡ (get_or es i (dk, dv)).1 = ap (λ l. get_or l i dv) values ∙ get_or-map (λ (e : Bor (List ℕ) × Member). e.1) es i (dk, dv) in
    let n = named ∙ ap (λ b. b.now) k in
    let s = ap (λ t. t.0) at ∙ numbered ∙ ap (λ w. names.slot_of m (member_of w)) v in
    let l = many ∙ ap (λ (w : Member). w.elements) v in
    λ j. record { name = n j; slot = record { 0 = s j }; elements = l j }

-- one more field's name is made
pub names_on : (m : names.Members) (ks : List (Bor (List ℕ))) (vs : List Member) (es : List (Bor (List ℕ) × Member)) (i : ℕ) (dk : Bor (List ℕ))
    (dv : Member) (f : FieldName) (slot : SlotNo) (done after all : List FieldName) → ks ≡ map (λ e. e.0) es → vs ≡ map (λ e. e.1) es →
    i < length ks → f.name ≡ (get_or ks i dk).now → f.slot ≡ slot → f.elements ≡ (get_or vs i dv).elements
    → slot.0 ≡ names.slot_of m (member_of (get_or vs i dv)) → after ≡ done ++ f ∷ [] → done ++ field_names m (drop i es) ≡ all
    → after ++ field_names m (drop (i + 1) es) ≡ all
names_on m ks vs es i dk dv f slot done after all keys values below named at many numbered more before =
    let same = same_slot m ks vs es i dk dv f slot keys values named at many numbered in
    let short : length ks ≡ length es = ap length keys ∙ length-map es (λ (e : Bor (List ℕ) × Member). e.0) in
    let inside : i < length es = omega (arith, short) in
    let next : drop i es ≡ get_or es i (dk, dv) ∷ drop (i + 1) es = drop-cons es i (dk, dv) inside ∙ ap (λ k. get_or es i (dk, dv) ∷ drop k es) (sym (add-one i)) in
    ap (λ l. l ++ field_names m (drop (i + 1) es)) more ∙ append_assoc done (f ∷ []) (field_names m (drop (i + 1) es))
    ∙ ap (λ g. done ++ (g ∷ field_names m (drop (i + 1) es))) same ∙ sym (ap (λ l. done ++ field_names m l) next) ∙ before

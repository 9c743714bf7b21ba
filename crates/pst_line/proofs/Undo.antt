-- Putting back what was in a field.
use Rattle.std.proofs.Common.{◌≡◌, ◌≢◌, ℕ, zero, suc, ◌-◌, ◌<◌, true, false, cond, List, [], ◌∷◌, length, get_or, Option, Some, None, pos, refl, sym, ap, ◌∙◌, subst, ⊎_elim, arith}
use Rattle.std.proofs.Math.ListN.{set}
use Rattle.std.proofs.lemmas.Bool.{cases_Bool}
use Rattle.std.specs.FinMap.{get}
use Rattle.pst_base.proofs.Showing.{same_heap}
use Rattle.pst_base.specs.declared.names.Name.{Name}
use Rattle.pst_base.specs.Name.{name_eq}
use Rattle.pst_base.specs.Heap.{Rec, Heap, IsWellFormed, with_record, with_value, with_pointer, value_at, pointer_at, value_set, pointer_set, changed, new_record}
use Rattle.pst_base.proofs.NameLemmas.{name_eq-true, name_eq-same}
use Rattle.pst_base.proofs.Degrees.{get-with_record, with_value-at, with_pointer-at}
use Rattle.pst_line.specs.Undo.{put_back, LeadsBack, ValueBackLaw, PointerBackLaw, EntryLaw, RecordBackLaw}
use Rattle.pst_line_nodes.specs.declared.content.Content.{Content}
use Rattle.pst_line_nodes.specs.declared.content.Content.TheVariants.{Number, Null, Target as TargetOf}
use Rattle.pst_base.proofs.WellFormed.{IsWellFormed-with_new}

set-back : {A : Type 0} (xs : List A) (k : ℕ) (a d : A) → k < length xs → set (set xs k a) k (get_or xs k d) ≡ xs
set-back [] k a d l = absurd (omega arith)
set-back (x ∷ xs) zero a d l = refl
set-back (x ∷ xs) (suc k) a d l = ap (λ ys. x ∷ ys) (set-back xs k a d (omega arith))

-- one record in the place of another one
pub put-twice : (h : Heap) (n : Name) (r s : Rec) → with_record (with_record h n s) n r ≡ with_record h n r
put-twice h n r s = same_heap _ _ (λ q. get-with_record (with_record h n s) n r q ∙ ⊎_elim
    (λ (t : name_eq q n ≡ true). ap (λ b. cond b (Some r) (get (with_record h n s) q)) t ∙ sym (get-with_record h n r q ∙ ap (λ b. cond b (Some r) (get h q)) t))
    (λ (t : name_eq q n ≡ false). ap (λ b. cond b (Some r) (get (with_record h n s) q)) t ∙ get-with_record h n s q ∙ ap (λ b. cond b (Some s) (get h q)) t ∙ sym (get-with_record h n r q ∙ ap (λ b. cond b (Some r) (get h q)) t))
    (cases_Bool (name_eq q n)))

-- a record that is put in the place of another one, and taken back
put-back : (h : Heap) (n : Name) (r s : Rec) → get h n ≡ Some r → with_record (with_record h n s) n r ≡ h
put-back h n r s e = same_heap _ _ (λ q. get-with_record (with_record h n s) n r q ∙ ⊎_elim
    (λ (t : name_eq q n ≡ true). ap (λ b. cond b (Some r) (get (with_record h n s) q)) t ∙ sym e ∙ ap (get h) (sym (name_eq-true q n t)))
    (λ (t : name_eq q n ≡ false). ap (λ b. cond b (Some r) (get (with_record h n s) q)) t ∙ get-with_record h n s q ∙ ap (λ b. cond b (Some s) (get h q)) t)
    (cases_Bool (name_eq q n)))

pub there : (h : Heap) (n : Name) (s : Rec) → get (with_record h n s) n ≡ Some s
there h n s = get-with_record h n s n ∙ ap (λ b. cond b (Some s) (get h n)) (name_eq-same n)

pub value_back_law : ValueBackLaw
value_back_law h n slot v r e i =
    let s : Rec = value_set r slot v in
    let back : value_set (value_set r slot v) slot (value_at r slot) ≡ r = λ i'. record { ty = r.ty; values = set-back r.values slot v (pos 0) i.below i'; pointers = r.pointers } in
    ap (λ g. with_value g n slot (value_at r slot)) (with_value-at h n slot v r e)
    ∙ with_value-at (with_record h n (value_set r slot v)) n slot (value_at r slot) (value_set r slot v) (there h n (value_set r slot v))
    ∙ ap (with_record (with_record h n (value_set r slot v)) n) back
    ∙ put-back h n r (value_set r slot v) e

pub pointer_back_law : PointerBackLaw
pointer_back_law h n slot p r e i =
    let k : ℕ = slot - length r.values in
    let back : pointer_set (pointer_set r slot p) slot (pointer_at r slot) ≡ r = λ i'. record { ty = r.ty; values = r.values; pointers = set-back r.pointers (slot - length r.values) p None (omega (arith, i.from, i.below)) i' } in
    ap (λ g. with_pointer g n slot (pointer_at r slot)) (with_pointer-at h n slot p r e)
    ∙ with_pointer-at (with_record h n (pointer_set r slot p)) n slot (pointer_at r slot) (pointer_set r slot p) (there h n (pointer_set r slot p))
    ∙ ap (with_record (with_record h n (pointer_set r slot p)) n) back
    ∙ put-back h n r (pointer_set r slot p) e

pub entry_law : EntryLaw
entry_law shape name base h new m ms formed back leads = (subst (IsWellFormed shape) (sym back) formed, subst (LeadsBack shape name base ms) (sym back) leads)

-- ---- a new record

-- what is put back into a record
abbrev pub back_in : (ℕ → Name) → ℕ → Content → Rec → Rec
back_in name slot (Number v) r = value_set r slot v
back_in name slot Null r = pointer_set r slot None
back_in name slot (TargetOf y) r = pointer_set r slot (Some (name y.0))

pub back_is : (name : ℕ → Name) (h : Heap) (n : Name) (slot : ℕ) (c : Content) → put_back name h n slot c ≡ changed (back_in name slot c) h n (get h n)
back_is name h n slot (Number v) = refl
back_is name h n slot Null = refl
back_is name h n slot (TargetOf y) = refl

pub off_name : (q n : Name) → n ≢ q → name_eq q n ≡ false
off_name q n ne = ⊎_elim (λ (t : name_eq q n ≡ true). absurd (ne (sym (name_eq-true q n t)))) (λ (t : name_eq q n ≡ false). t) (cases_Bool (name_eq q n))

pub get_changed : (f : Rec → Rec) (h : Heap) (n q : Name) (o : Option Rec) → n ≢ q → get (changed f h n o) q ≡ get h q
get_changed f h n q None ne = refl
get_changed f h n q (Some r) ne = get-with_record h n (f r) q ∙ ap (λ b. cond b (Some (f r)) (get h q)) (off_name q n ne)

-- two records of different names may be put in either order
swap : (h : Heap) (n q : Name) (r s : Rec) → n ≢ q → with_record (with_record h q s) n r ≡ with_record (with_record h n r) q s
swap h n q r s ne = same_heap _ _ (λ k. get-with_record (with_record h q s) n r k ∙ ap (cond (name_eq k n) (Some r)) (get-with_record h q s k)
    ∙ ⊎_elim
    (λ (t : name_eq k n ≡ true).
    let off : name_eq k q ≡ false = ap (λ j. name_eq j q) (name_eq-true k n t) ∙ off_name n q (λ e. ne (sym e)) in
    ap (λ b. cond b (Some r) (cond (name_eq k q) (Some s) (get h k))) t ∙ sym (ap (λ b. cond b (Some s) (cond (name_eq k n) (Some r) (get h k))) off ∙ ap (λ b. cond b (Some r) (get h k)) t))
    (λ (t : name_eq k n ≡ false).
    ap (λ b. cond b (Some r) (cond (name_eq k q) (Some s) (get h k))) t ∙ sym (ap (λ b. cond (name_eq k q) (Some s) (cond b (Some r) (get h k))) t))
    (cases_Bool (name_eq k n))
    ∙ sym (get-with_record (with_record h n r) q s k ∙ ap (cond (name_eq k q) (Some s)) (get-with_record h n r k)))

pub changed_swap : (f : Rec → Rec) (h : Heap) (n q : Name) (s : Rec) (o : Option Rec) → n ≢ q → changed f (with_record h q s) n o ≡ with_record (changed f h n o) q s
changed_swap f h n q s None ne = refl
changed_swap f h n q s (Some r) ne = swap h n q (f r) s ne

back_swap : (name : ℕ → Name) (h : Heap) (n q : Name) (slot : ℕ) (c : Content) (s : Rec) → n ≢ q → put_back name (with_record h q s) n slot c ≡ with_record (put_back name h n slot c) q s
back_swap name h n q slot c s ne =
    back_is name (with_record h q s) n slot c
    ∙ ap (changed (back_in name slot c) (with_record h q s) n) (get-with_record h q s n ∙ ap (λ b. cond b (Some s) (get h n)) (off_name n q (λ e. ne (sym e))))
    ∙ changed_swap (back_in name slot c) h n q s (get h n) ne
    ∙ ap (λ g. with_record g q s) (sym (back_is name h n slot c))

pub record_back_law : RecordBackLaw
record_back_law shape name base h [] q ty above below none others leads = ap (λ g. with_record g q (new_record shape ty)) leads
record_back_law shape name base h (m ∷ ms) q ty above below none others leads =
    let e : put_back name (with_record h q (new_record shape ty)) m.name m.slot m.content ≡ with_record (put_back name h m.name m.slot m.content) q (new_record shape ty) = back_swap name h m.name q m.slot m.content (new_record shape ty) others.0 in
    let still : get (put_back name h m.name m.slot m.content) q ≡ None = ap (λ g. get g q) (back_is name h m.name m.slot m.content) ∙ get_changed (back_in name m.slot m.content) h m.name q (get h m.name) others.0 ∙ none in (
      subst (IsWellFormed shape) (sym e) (IsWellFormed-with_new shape (put_back name h m.name m.slot m.content) q ty leads.0 still above below),
      subst (LeadsBack shape name (with_record base q (new_record shape ty)) ms) (sym e) (record_back_law shape name base (put_back name h m.name m.slot m.content) ms q ty above below still others.1 leads.1),
    )

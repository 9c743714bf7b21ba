-- The in-degree of a record in the heap at a position is the number of entries in the node that lives there.
use Rattle.std.proofs.Common.{◌≡◌, ℕ, ◌+◌, ◌<◌, true, false, cond, List, length, refl, sym, ap, ◌∙◌, subst, ⊎_elim, arith}
use Rattle.std.proofs.lemmas.Bool.{cases_eq, cases_Bool, eq-eqb, ne_eqb, false_from_ne_true}
use Rattle.pst_base.proofs.Below.{sum_below-same, sum_below-split, sum_below-zero}
use Rattle.pst_base.proofs.Showing.{held_by-sum, shown_degree, sum_listed}
use Rattle.pst_base.specs.Below.{listed, one_if, sum_below}
use Rattle.pst_base.specs.declared.shape.TypeShape.{TypeShape}
use Rattle.pst_base.specs.Shape.{type_at, element_count}
use Rattle.pst_base.specs.Name.{same_name}
use Rattle.pst_base.specs.Heap.{holding, held_by, in_degree}
use Rattle.pst_base.proofs.NameLemmas.{same_name-true, same_name-same}
use Rattle.pst_rows.specs.declared.content.Content.{Content}
use Rattle.pst_rows.specs.declared.content.Content.TheVariants.{Number, Null, Free, Target as TargetOf, From as FromOf}
use Rattle.pst_mirror.specs.Contents.{Target}
use Rattle.pst_mirror.specs.Degree.{leads_to, is_entry, AreWithin}
use Rattle.pst_mirror.proofs.DegreeLemmas.{degree_law}
use Rattle.pst_mirror.proofs.LivesLemmas.{unique_law}
use Rattle.pst_store_meaning.specs.Arena.{Arena, showing, lives_of, IsIn, is_in, IsArena, IsDrawn, heap_at, record_at, denoted}
use Rattle.pst_mirror.specs.Kinds.{HasKind, IsInverse}
use Rattle.pst_store_meaning.proofs.HeapLaws.{is_in-true, apart}
use Rattle.pst_store_meaning.proofs.RecordLaws.{alive, target_alive}
use Rattle.pst_store_meaning.proofs.Written.{pointer_field, no_target}

module _ (shape : List TypeShape) (end : ℕ) (w : Arena) (n : ℕ) (a : IsArena shape end w) (d : IsDrawn w) (y : ℕ) (h : IsIn w y n) where
  abbrev width : ℕ → ℕ
  width i = element_count (type_at shape (w.ty i))

  pub holding_is : (c : Content) → ((z : ℕ) → c ≡ Target z → IsIn w z n) → holding (w.name y) (denoted w.name c) ≡ one_if (leads_to y c)
  holding_is (Number k) t = refl
  holding_is Null t = refl
  holding_is (TargetOf znode) t = let z : ℕ = znode.0 in ⊎_elim
      (λ (e : z ≡ y). rw (eq-eqb z y e, ap (λ k. same_name (w.name k) (w.name y)) e, same_name-same (w.name y)) refl)
      (λ (e : z ≡ y → ⊥).
      let off : same_name (w.name z) (w.name y) ≡ false = false_from_ne_true (same_name (w.name z) (w.name y))
      (λ s. e (unique_law (lives_of w) z y n a.chained (t z refl) h (same_name-true (w.name z) (w.name y) s))) in
      rw (ne_eqb z y e, off) refl)
      (cases_eq z y)
  holding_is Free t = refl
  holding_is (FromOf xnode fslot) t = let x : ℕ = xnode.0 in let f : ℕ = fslot.0 in refl

  not_led : (i g : ℕ) → IsIn w i n → g < (type_at shape (w.ty i)).values → one_if (leads_to y (w.chart.holds i g n)) ≡ 0
  not_led i g l s = led (w.chart.holds i g n) (a.kinds i g n l)
    where
      led : (c : Content) → HasKind (type_at shape (w.ty i)) w.ty g c → one_if (leads_to y c) ≡ 0
      led (Number k) m = refl
      led Null m = refl
      led (TargetOf znode) m = let z : ℕ = znode.0 in absurd (no_target (type_at shape (w.ty i)) w.ty g z m s)
      led Free m = refl
      led (FromOf xnode fslot) m = let x : ℕ = xnode.0 in let f : ℕ = fslot.0 in refl

  node_part : (i : ℕ) → cond (is_in w i n) (held_by (w.name y) (record_at shape w i n)) 0 ≡ sum_below (width i) (λ f. one_if (leads_to y (w.chart.holds i f n)))
  node_part i = ⊎_elim
      (λ (t : is_in w i n ≡ true).
      let l = is_in-true w i n t in
      let v : ℕ = (type_at shape (w.ty i)).values in
      let m : ℕ = length (type_at shape (w.ty i)).targets in
      let sums : held_by (w.name y) (record_at shape w i n) ≡ sum_below (length (type_at shape (w.ty i)).targets) (λ k. one_if (leads_to y (w.chart.holds i ((type_at shape (w.ty i)).values + k) n))) =
      held_by-sum (w.name y) (listed (length (type_at shape (w.ty i)).targets) (λ k. denoted w.name (w.chart.holds i ((type_at shape (w.ty i)).values + k) n)))
      ∙ sum_listed (w.name y) (length (type_at shape (w.ty i)).targets) (λ k. denoted w.name (w.chart.holds i ((type_at shape (w.ty i)).values + k) n))
      ∙ sum_below-same (length (type_at shape (w.ty i)).targets)
      (λ k. holding (w.name y) (denoted w.name (w.chart.holds i ((type_at shape (w.ty i)).values + k) n)))
      (λ k. one_if (leads_to y (w.chart.holds i ((type_at shape (w.ty i)).values + k) n)))
      (λ k p. holding_is (w.chart.holds i ((type_at shape (w.ty i)).values + k) n) (λ z s. target_alive w i ((type_at shape (w.ty i)).values + k) n z d a.mirrored s)) in
      let none : sum_below (type_at shape (w.ty i)).values (λ f. one_if (leads_to y (w.chart.holds i f n))) ≡ 0 =
      sum_below-zero (type_at shape (w.ty i)).values (λ f. one_if (leads_to y (w.chart.holds i f n))) (λ g s. not_led i g l s) in
      rw t (omega (arith, sums, none, sum_below-split (type_at shape (w.ty i)).values (length (type_at shape (w.ty i)).targets) (λ f. one_if (leads_to y (w.chart.holds i f n))))))
      (λ (t : is_in w i n ≡ false). rw t (sym (sum_below-zero (width i) (λ f. one_if (leads_to y (w.chart.holds i f n))) (λ f s. ap (λ c. one_if (leads_to y c)) (d.outside i f n t)))))
      (cases_Bool (is_in w i n))

  abbrev first : ℕ
  first = element_count (type_at shape (w.ty y))

  abbrev limit : ℕ
  limit = (type_at shape (w.ty y)).limit

  within : AreWithin w.chart w.count width y (first + limit) n
  within = record {
    node = λ x f p. (alive w x f n d (λ none. let k : Target y ≡ Null = sym p ∙ none in cc)).there;
    field = λ x f p.
        let l = alive w x f n d (λ none. let k : Target y ≡ Null = sym p ∙ none in cc) in
        (pointer_field (type_at shape (w.ty x)) f (w.ty y) (subst (λ (c : Content). HasKind (type_at shape (w.ty x)) w.ty f c) p (a.kinds x f n l))).1;
    slot = λ s x f p. let k : IsInverse (type_at shape (w.ty y)) s = subst (λ (c : Content). HasKind (type_at shape (w.ty y)) w.ty s c) p (a.kinds y s n h) in k.below;
  }

  no_entry : (s : ℕ) → s < first → one_if (is_entry (w.chart.holds y s n)) ≡ 0
  no_entry s l = empty_of (w.chart.holds y s n) (a.kinds y s n h)
    where
      empty_of : (c : Content) → HasKind (type_at shape (w.ty y)) w.ty s c → one_if (is_entry c) ≡ 0
      empty_of (Number k) m = refl
      empty_of Null m = refl
      empty_of (TargetOf znode) m = let z : ℕ = znode.0 in refl
      empty_of Free m = refl
      empty_of (FromOf xnode fslot) m = let x : ℕ = xnode.0 in let f : ℕ = fslot.0 in absurd (omega (arith, m.from))

  -- the in-degree is the number of inverse slots that hold an entry
  pub degree_is : in_degree (heap_at shape w n) (w.name y) ≡ sum_below limit (λ u. one_if (is_entry (w.chart.holds y (first + u) n)))
  degree_is =
      shown_degree (showing shape w n) (apart shape w n a.chained) (w.name y)
      ∙ sum_below-same w.count (λ i. cond (is_in w i n) (held_by (w.name y) (record_at shape w i n)) 0) (λ i. sum_below (width i) (λ f. one_if (leads_to y (w.chart.holds i f n)))) (λ i l. node_part i)
      ∙ degree_law w.chart w.count width y (first + limit) n a.mirrored within
      ∙ omega (arith, sum_below-split first limit (λ s. one_if (is_entry (w.chart.holds y s n))), sum_below-zero first (λ s. one_if (is_entry (w.chart.holds y s n))) no_entry)

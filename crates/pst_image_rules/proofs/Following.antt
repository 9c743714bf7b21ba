-- Where the segment of a slot ends.
use Rattle.std.proofs.Common.{◌≡◌, ◌≢◌, ℕ, zero, suc, ◌+◌, ◌-◌, ◌<◌, ◌≤◌, Bool, true, false, cond, List, [], ◌∷◌, length, get_or, Option, Some, None, unwrap_or}
use Rattle.std.proofs.Common.{refl, sym, ap, subst, ◌∙◌, arith, ◌⊎◌, inl, inr}
use Rattle.std.specs.Option.{option_map}
use Rattle.std.proofs.lemmas.Bool.{cases_eq, cases_lt}
use Rattle.std.proofs.lemmas.Bool.Decides.{nat_tests}
use Rattle.pst_base.specs.declared.shape.TypeShape.{TypeShape}
use Rattle.pst_image_form.specs.declared.parts.StampPart.{StampPart}
use Rattle.pst_image_form.specs.declared.parts.NodePart.{NodePart}
use Rattle.pst_image_rules.specs.Nodes.{no_stamp, node_at, stamp_of, IsAfter, IsNode}
use Rattle.pst_image_rules.specs.Segments.{first, is_at, is_behind, begins, ends, IsSorted}
use Rattle.pst_image_rules.specs.Laws.{IsSegment, SegmentsFollow}
use Rattle.pst_image_rules.proofs.Order.{first_there, first_none, all_on, begins_later, at_slot, at_place, never}

-- either none passes a test, or there is a first one that does
record IsFirst (test : StampPart → Bool) (ss : List StampPart) : Type 0 where
  index : ℕ
  there : index < length ss
  passes : test (get_or ss index no_stamp) ≡ true
  found : first test ss ≡ Some (get_or ss index no_stamp)
  earlier : (j : ℕ) → j < index → test (get_or ss j no_stamp) ≡ false

none_or_first : (test : StampPart → Bool) (ss : List StampPart) → ((first test ss ≡ None) × ((j : ℕ) → j < length ss → test (get_or ss j no_stamp) ≡ false)) ⊎ IsFirst test ss
none_or_first test [] = inl (refl, λ j lt. absurd (omega arith))
none_or_first test (s ∷ ss) = by (test s) refl (none_or_first test ss)
  where
    by : (b : Bool) → test s ≡ b → ((first test ss ≡ None) × ((j : ℕ) → j < length ss → test (get_or ss j no_stamp) ≡ false)) ⊎ IsFirst test ss
        → ((first test (s ∷ ss) ≡ None) × ((j : ℕ) → j < suc (length ss) → test (get_or (s ∷ ss) j no_stamp) ≡ false)) ⊎ IsFirst test (s ∷ ss)
    by true is more = inr (record { index = 0; there = omega arith; passes = is; found = ap (λ (b : Bool). cond b (Some s) (first test ss)) is; earlier = λ j lt. absurd (omega arith) })
    by false is (inl none) = inl (ap (λ (b : Bool). cond b (Some s) (first test ss)) is ∙ none.0, all)
      where
        all : (j : ℕ) → j < suc (length ss) → test (get_or (s ∷ ss) j no_stamp) ≡ false
        all zero lt = is
        all (suc j) lt = none.1 j (omega arith)
    by false is (inr f) = inr (record {
      index = suc f.index;
      there = omega (arith, f.there);
      passes = f.passes;
      found =
          ap (λ (b : Bool). cond b (Some s) (first test ss)) is ∙ f.found;
      earlier = before;
    })
      where
        before : (j : ℕ) → j < suc f.index → test (get_or (s ∷ ss) j no_stamp) ≡ false
        before zero lt = is
        before (suc j) lt = f.earlier j (omega arith)

behind_place : (g a : ℕ) (s : StampPart) → is_behind g a s ≡ true → a < s.place
behind_place g a s e = grind (arith, nat_tests)

behind_slot : (g a : ℕ) (s : StampPart) → is_behind g a s ≡ true → s.slot.0 ≡ g
behind_slot g a s e = grind (arith, nat_tests)

at_is_behind : (g a n : ℕ) (s : StampPart) → is_at g n s ≡ true → a < n → is_behind g a s ≡ true
at_is_behind g a n s e lt = grind (arith, nat_tests)

is_at_itself : (g : ℕ) (s : StampPart) → s.slot.0 ≡ g → is_at g s.place s ≡ true
is_at_itself g s e = grind (arith, nat_tests)

clash : (b : Bool) → b ≡ true → b ≡ false → ⊥
clash b t f = let e : false ≡ true = sym f ∙ t in never e

some_none : {A : Type 0} (x : A) → Some x ≡ None → ⊥
some_none x e = absurd cc

-- places of one slot rise
rises : (k : NodePart) → IsSorted k → (i n : ℕ) → i + suc n < length k.stamps → (stamp_of k i).slot.0 ≡ (stamp_of k (i + suc n)).slot.0 → (stamp_of k i).place < (stamp_of k (i + suc n)).place
rises k sorted i n lt same =
    let behind : (i + 1) + n ≡ i + suc n = omega arith in
    by (subst (λ (m : ℕ). IsAfter (stamp_of k i) (stamp_of k m)) behind (all_on k (IsAfter (stamp_of k i)) sorted pass (i + 1) n (omega arith) (sorted.each i (omega arith))))
  where
    pass : (s t : StampPart) → IsAfter s t → IsAfter (stamp_of k i) s → IsAfter (stamp_of k i) t
    pass s t (inl x) (inl y) = inl (omega arith)
    pass s t (inl x) (inr y) = inl (omega (arith, y.0))
    pass s t (inr x) (inl y) = inl (omega (arith, x.0))
    pass s t (inr x) (inr y) = inr (y.0 ∙ x.0, omega (arith, x.1, y.1))

    by : IsAfter (stamp_of k i) (stamp_of k (i + suc n)) → (stamp_of k i).place < (stamp_of k (i + suc n)).place
    by (inl x) = absurd (omega (arith, same))
    by (inr x) = x.1

-- where it begins
begins_low : (shape : List TypeShape) (places : ℕ) (ks : List NodePart) (k : NodePart) (g a c : ℕ) → IsNode shape places ks k → begins k g a ≡ Some c → k.lo ≤ a × a < k.hi
begins_low shape places ks k g a c node e = by (cases_eq a k.lo)
  where
    found : (o : Option StampPart) → option_map (λ s. s.content) o ≡ Some c → (s : StampPart) × (o ≡ Some s)
    found None h = absurd cc
    found (Some s) h = (s, refl)

    by : (a ≡ k.lo) ⊎ (a ≢ k.lo) → k.lo ≤ a × a < k.hi
    by (inl is) = (omega arith, omega (arith, node.life))
    by (inr not) =
        let f = found (first (is_at g a) k.stamps) (sym (begins_later k g a not) ∙ e) in
        let at = first_there (is_at g a) k.stamps f.0 f.1 in
        let place : (stamp_of k at.0).place ≡ a = ap (λ (s : StampPart). s.place) at.2 ∙ at_place g a f.0 at.3 in
        let inside = node.stamps at.0 at.1 in
        (omega (arith, inside.after, place), omega (arith, inside.before, place))

-- nothing begins where nothing is stamped
none_begins : (k : NodePart) (g n : ℕ) → n ≢ k.lo → first (is_at g n) k.stamps ≡ None → begins k g n ≡ None
none_begins k g n not none = begins_later k g n not ∙ ap (λ (o : Option StampPart). option_map (λ s. s.content) o) none

follows : (shape : List TypeShape) (places : ℕ) (ks : List NodePart) (k : NodePart) (g a c : ℕ) → IsNode shape places ks k → begins k g a ≡ Some c → IsSegment k g a
follows shape places ks k g a c node e = by (none_or_first (is_behind g a) k.stamps)
  where
    low : k.lo ≤ a × a < k.hi
    low = begins_low shape places ks k g a c node e

    sorted : IsSorted k
    sorted = record { each = node.sorted }

    end_of : Option StampPart → ℕ
    end_of o = unwrap_or (option_map (λ s. s.place) o) k.hi

    by : ((first (is_behind g a) k.stamps ≡ None) × ((j : ℕ) → j < length k.stamps → is_behind g a (get_or k.stamps j no_stamp) ≡ false)) ⊎ IsFirst (is_behind g a) k.stamps → IsSegment k g a
    by (inl none) =
        let end : ends k g a ≡ k.hi = ap (λ (o : Option StampPart). unwrap_or (option_map (λ s. s.place) o) k.hi) none.0 in
        record {
          low = low.0;
          some = omega (arith, end, low.1);
          high = omega (arith, end);
          next = inl end;
          whole = λ n more less. none_begins k g n (λ is. absurd (omega (arith, is, low.0, more))) (first_none (is_at g n) k.stamps (λ j lt. free n more j lt (is_at g n (stamp_of k j)) refl));
        }
      where
        free : (n : ℕ) → a < n → (j : ℕ) → j < length k.stamps → (b : Bool) → is_at g n (stamp_of k j) ≡ b → is_at g n (stamp_of k j) ≡ false
        free n more j lt false is = is
        free n more j lt true is = absurd (clash (is_behind g a (stamp_of k j)) (at_is_behind g a n (stamp_of k j) is more) (none.1 j lt))
    by (inr f) =
        let end : ends k g a ≡ (stamp_of k f.index).place = ap (λ (o : Option StampPart). unwrap_or (option_map (λ s. s.place) o) k.hi) f.found in
        let inside = node.stamps f.index f.there in
        record {
          low = low.0;
          some = omega (arith, end, behind_place g a (stamp_of k f.index) f.passes);
          high = omega (arith, end, inside.before);
          next = inr (subst (λ (n : ℕ). (c : ℕ) × (begins k g n ≡ Some c)) (sym end) (begun (none_or_first (is_at g (stamp_of k f.index).place) k.stamps)));
          whole = λ n more less. none_begins k g n (λ is. absurd (omega (arith, is, low.0, more)))
              (first_none (is_at g n) k.stamps (λ j lt. free n more (omega (arith, end, less)) j lt (is_at g n (stamp_of k j)) refl));
        }
      where
        here : is_at g (stamp_of k f.index).place (stamp_of k f.index) ≡ true
        here = is_at_itself g (stamp_of k f.index) (behind_slot g a (stamp_of k f.index) f.passes)

        begun : ((first (is_at g (stamp_of k f.index).place) k.stamps ≡ None)
            × ((j : ℕ) → j < length k.stamps → is_at g (stamp_of k f.index).place (get_or k.stamps j no_stamp) ≡ false))
            ⊎ IsFirst (is_at g (stamp_of k f.index).place) k.stamps
            → (c : ℕ) × (begins k g (stamp_of k f.index).place ≡ Some c)
        begun (inl none) = absurd (clash (is_at g (stamp_of k f.index).place (stamp_of k f.index)) here (none.1 f.index f.there))
        begun (inr s) = (
          (stamp_of k s.index).content,
          begins_later k g (stamp_of k f.index).place (λ is. absurd (omega (arith, is, (node.stamps f.index f.there).after))) ∙ ap (λ (o : Option StampPart). option_map (λ s. s.content) o) s.found,
        )

        free : (n : ℕ) → a < n → n < (stamp_of k f.index).place → (j : ℕ) → j < length k.stamps → (b : Bool) → is_at g n (stamp_of k j) ≡ b → is_at g n (stamp_of k j) ≡ false
        free n more less j lt false is = is
        free n more less j lt true is = absurd (order (cases_lt j f.index))
          where
            place : (stamp_of k j).place ≡ n
            place = at_place g n (stamp_of k j) is

            order : (j < f.index) ⊎ (f.index ≤ j) → ⊥
            order (inl before) = clash (is_behind g a (stamp_of k j)) (at_is_behind g a n (stamp_of k j) is more) (f.earlier j before)
            order (inr le) = step (cases_eq f.index j)
              where
                step : (f.index ≡ j) ⊎ (f.index ≢ j) → ⊥
                step (inl same) = omega (arith, ap (λ (m : ℕ). (stamp_of k m).place) same, place, less)
                step (inr not) =
                    let gap : f.index + suc (j - f.index - 1) ≡ j = omega arith in
                    let one_slot : (stamp_of k f.index).slot.0 ≡ (stamp_of k (f.index + suc (j - f.index - 1))).slot.0 =
                    behind_slot g a (stamp_of k f.index) f.passes
                    ∙ (sym (at_slot g n (stamp_of k j) is) ∙ ap (λ (m : ℕ). (stamp_of k m).slot.0) (sym gap)) in
                    omega (arith, rises k sorted f.index (j - f.index - 1) (omega arith) one_slot, ap (λ (m : ℕ). (stamp_of k m).place) gap, place, less)

pub segments_follow : SegmentsFollow
segments_follow shape ks i g a c typed lt e = follows shape typed.0 ks (node_at ks i) g a c (typed.1 i lt) e

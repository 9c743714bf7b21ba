-- What the writes to a file at rest leave of its groups.
use Rattle.std.proofs.Common.{◌≡◌, ◌⊎◌, inl, inr, ⊎_elim, ℕ, ◌+◌, ◌-◌, ◌<◌, ◌≤◌, List, [], ◌++◌, length, take, drop, slice_index, refl, sym, ◌∙◌, ap, subst, arith}
use Rattle.std.proofs.lemmas.Bool.{cases_lt}
use Rattle.std.proofs.lemmas.List.{append-nil, append_assoc, append_cancel_left, length-take, length-drop, length-append, get_or-take, get_or-drop, get_or_past, take-append-drop, take_at, drop_at, drop-drop, ext_get_or}
use Rattle.sqlite_disk.specs.Disk.{Holds, Torn, Mixed, Follows, Only}
use Rattle.sqlite_disk.proofs.EventLemmas.{Mixed-refl}
use Rattle.pst_kept_text.specs.Text.{whole, behind, IsGroup, IsTornEnd}
use Rattle.pst_kept_text.specs.Written.{groups_in, IsAtRest, Adds, AddsOrNot}
use Rattle.pst_kept_text.proofs.TextLemmas.{AreFirst, whole-append, whole-whole, whole_none, whole_faint, first_of_none, all_or_none, end_last, torn_zero}

-- two files with the same bytes below `end`
pub record Alike (end : ℕ) (f c : List ℕ) : Type 0 where
  pub old_reaches : end ≤ length f
  pub new_reaches : end ≤ length c
  pub same : (i : ℕ) → i < end → slice_index c i ≡ slice_index f i

same_front : (n end : ℕ) (f c : List ℕ) → n ≤ end → Alike end f c → take n c ≡ take n f
same_front n end f c low h = ext_get_or 0 (take n c) (take n f) (omega (arith, length-take n c, length-take n f, h.old_reaches, h.new_reaches)) (λ i below.
    let small : i < n = omega (arith, length-take n c) in
    get_or-take n c i 0 small ∙ h.same i (omega arith) ∙ sym (get_or-take n f i 0 small))

same_mid : (base end : ℕ) (f c : List ℕ) → base ≤ end → Alike end f c → take (end - base) (drop base c) ≡ take (end - base) (drop base f)
same_mid base end f c low h =
    let n = end - base in
    ext_get_or 0 (take n (drop base c)) (take n (drop base f)) (omega (arith, length-take n (drop base c), length-take n (drop base f), length-drop base c, length-drop base f, h.old_reaches, h.new_reaches)) (λ i below.
    let small : i < n = omega (arith, length-take n (drop base c)) in
    get_or-take n (drop base c) i 0 small ∙ get_or-drop base c i 0 ∙ h.same (base + i) (omega arith) ∙ sym (get_or-drop base f i 0) ∙ sym (get_or-take n (drop base f) i 0 small))

-- the text of a file whose whole lines end at `end` begins with them
split_text : (base end : ℕ) (f c : List ℕ) → base ≤ end → Alike end f c → groups_in base f ≡ take (end - base) (drop base f) → drop base c ≡ groups_in base f ++ drop end c
split_text base end f c low h text =
    let there : base + (end - base) ≡ end = omega arith in
    let back : drop (end - base) (drop base c) ≡ drop end c = drop-drop (end - base) base c ∙ ap (λ (n : ℕ). drop n c) there in
    sym (take-append-drop (end - base) (drop base c)) ∙ ap (λ (l : List ℕ). l ++ drop (end - base) (drop base c)) (same_mid base end f c low h ∙ sym text) ∙ ap (λ (l : List ℕ). groups_in base f ++ l) back

-- what stands behind the whole groups of a text that begins with these
behind_split : (front tail more : List ℕ) → whole front ≡ front → whole tail ≡ more → behind (front ++ tail) ≡ drop (length more) tail
behind_split front tail more are is =
    let all : whole (front ++ tail) ≡ front ++ more = whole-append front tail are ∙ ap (λ (l : List ℕ). front ++ l) is in
    let long : length (whole (front ++ tail)) ≡ length front + length more = omega (arith, ap length all, length-append front more) in
    ap (λ (n : ℕ). drop n (front ++ tail)) long ∙ sym (drop-drop (length more) (length front) (front ++ tail)) ∙ ap (λ (l : List ℕ). drop (length more) l) (drop_at front tail (length front) refl)

adds_from : (base end : ℕ) (f c more : List ℕ) → base ≤ end → Alike end f c → groups_in base f ≡ take (end - base) (drop base f) → whole (drop end c) ≡ more
    → IsTornEnd (drop (length more) (drop end c)) → Adds base f more c
adds_from base end f c more low h text is torn_end =
    let split = split_text base end f c low h text in
    let are = whole-whole (drop base f) in
    record {
      front = same_front base end f c low h;
      stands = ap whole split ∙ whole-append (groups_in base f) (drop end c) are ∙ ap (λ (l : List ℕ). groups_in base f ++ l) is;
      torn_end = subst IsTornEnd (sym (ap behind split ∙ behind_split (groups_in base f) (drop end c) more are is)) torn_end;
    }

begins_zero : (end : ℕ) (c : List ℕ) → slice_index c end ≡ 0 → whole (drop end c) ≡ []
begins_zero end c h = let here : end + 0 ≡ end = omega arith in whole_none (drop end c) (get_or-drop end c 0 0 ∙ ap (slice_index c) here ∙ h)

-- a file with a zero there has one behind its groups
torn_at : (end n : ℕ) (c : List ℕ) → end + n < length c → slice_index c (end + n) ≡ 0 → IsTornEnd (drop n (drop end c))
torn_at end n c inside is =
    let there : end + (n + 0) ≡ end + n = omega arith in
    torn_zero (drop n (drop end c)) (omega (arith, length-drop n (drop end c), length-drop end c)) (get_or-drop n (drop end c) 0 0 ∙ get_or-drop end c (n + 0) 0 ∙ ap (slice_index c) there ∙ is)

-- what stands behind the groups that end there
pub behind_at : (base end : ℕ) (f : List ℕ) → base ≤ end → end ≤ length f → groups_in base f ≡ take (end - base) (drop base f) → behind (drop base f) ≡ drop end f
behind_at base end f begins inside text =
    let long : length (groups_in base f) ≡ end - base = omega (arith, ap length text, length-take (end - base) (drop base f), length-drop base f) in
    let there : base + (end - base) ≡ end = omega arith in
    ap (λ (n : ℕ). drop n (drop base f)) long ∙ drop-drop (end - base) base f ∙ ap (λ (n : ℕ). drop n f) there

-- one step after another
pub adds_after : (base : ℕ) (f m lines c : List ℕ) → Adds base f [] m → Adds base m lines c → Adds base f lines c
adds_after base f m lines c one two = record {
  front = two.front ∙ one.front;
  stands = two.stands ∙ ap (λ (l : List ℕ). l ++ lines) (one.stands ∙ append-nil (groups_in base f));
  torn_end = two.torn_end;
}

pub adds_or_after : (base : ℕ) (f m lines c : List ℕ) → Adds base f [] m → AddsOrNot base m lines c → AddsOrNot base f lines c
adds_or_after base f m lines c one (inl two) = inl (adds_after base f m [] c one two)
adds_or_after base f m lines c one (inr two) = inr (adds_after base f m lines c one two)

module _ (base end room : ℕ) (f : List ℕ) (begins : base ≤ end) (has_room : end < room) (rest : IsAtRest base end room f) where
  far : (n : ℕ) (c : List ℕ) → Torn room n f c → Alike end f c
  far n c torn = record {
    old_reaches = omega (arith, rest.size);
    new_reaches = omega (arith, rest.size, torn.no_shorter);
    same = λ i low. torn.below i (omega (arith, rest.size)) (omega arith);
  }

  zero_there : (n : ℕ) (c : List ℕ) → Torn room n f c → slice_index c end ≡ 0
  zero_there n c torn = torn.below end (omega (arith, rest.size)) has_room ∙ rest.zeros end (omega arith)

  -- nothing that is written from `room` on counts
  pub beyond : (n : ℕ) (c : List ℕ) → Torn room n f c → Adds base f [] c
  beyond n c torn = adds_from base end f c [] begins (far n c torn) rest.text (begins_zero end c (zero_there n c torn)) (torn_at end 0 c (omega (arith, rest.size, torn.no_shorter)) (ap (slice_index c) (omega arith) ∙ zero_there n c torn))

  -- a file at rest as it is
  pub adds_nothing : Adds base f [] f
  adds_nothing = record {
    front = refl;
    stands = sym (append-nil (groups_in base f));
    torn_end = subst IsTornEnd (sym (behind_at base end f begins (omega (arith, rest.size)) rest.text)) (torn_at end 0 f (omega (arith, rest.size)) (rest.zeros (end + 0) (omega arith)));
  }

  pub adds_only : (leaves : List ℕ → Type 0) → Only f leaves → (c : List ℕ) → leaves c → Adds base f [] c
  adds_only leaves only c now = subst (λ (d : List ℕ). Adds base f [] d) (sym (only c now)) adds_nothing

  -- the zeros reach further
  pub widened : (zeros c : List ℕ) → ((i : ℕ) → slice_index zeros i ≡ 0) → Torn room (length zeros) f c → Holds c room zeros → IsAtRest base end (room + length zeros) c
  widened zeros c none torn holds = record {
    size = omega (arith, holds.within, torn.no_longer, rest.size);
    text = (beyond (length zeros) c torn).stands ∙ append-nil (groups_in base f) ∙ rest.text ∙ sym (same_mid base end f c begins (far (length zeros) c torn));
    zeros = λ i from. elim (cases_lt i room) [
      | inl low ↦ torn.below i (omega (arith, rest.size)) low ∙ rest.zeros i from
      | inr high ↦
          let here : room + (i - room) ≡ i = omega arith in
          elim (cases_lt (i - room) (length zeros)) [
            | inl inside ↦ ap (slice_index c) (sym here) ∙ holds.each (i - room) inside ∙ none (i - room)
            | inr past ↦ get_or_past c i 0 (omega (arith, torn.no_longer, rest.size))
          ]
    ];
  }

  module _ (lines : List ℕ) (fits : end + length lines < room) where
    near : (c : List ℕ) → Torn end (length lines) f c → Alike end f c
    near c torn = record {
      old_reaches = omega (arith, rest.size);
      new_reaches = omega (arith, rest.size, torn.no_shorter);
      same = λ i low. torn.below i (omega (arith, rest.size)) low;
    }

    behind_lines : (c : List ℕ) (i : ℕ) → Torn end (length lines) f c → length lines ≤ i → slice_index c (end + i) ≡ 0
    behind_lines c i torn high = elim (cases_lt (end + i) (length f)) [
      | inl low ↦ torn.above (end + i) low (omega arith) ∙ rest.zeros (end + i) (omega arith)
      | inr past ↦ get_or_past c (end + i) 0 (omega (arith, torn.no_longer, rest.size))
    ]

    -- a crash during the write leaves all of the group or nothing
    pub appending : IsGroup lines → (c : List ℕ) → Mixed end lines f c → AddsOrNot base f lines c
    appending group c mixed =
        let tail = drop end c in
        let each : (i : ℕ) → i < length lines → (slice_index tail i ≡ 0) ⊎ (slice_index tail i ≡ slice_index lines i) = λ i low.
        ⊎_elim (λ was. inl (get_or-drop end c i 0 ∙ was ∙ rest.zeros (end + i) (omega arith))) (λ put. inr (get_or-drop end c i 0 ∙ put)) (mixed.each i low (omega (arith, rest.size))) in
        let past : (i : ℕ) → length lines ≤ i → slice_index tail i ≡ 0 = λ i high. get_or-drop end c i 0 ∙ behind_lines c i mixed.torn high in
        let n = length lines in
        let long : n < length tail = omega (arith, length-drop end c, mixed.torn.no_shorter, rest.size) in
        ⊎_elim
        (λ (none : whole tail ≡ []). inl (adds_from base end f c [] begins (near c mixed.torn) rest.text none (record { zero_at = n; inside = long; is_zero = past n (omega arith); last = inr (end_last lines tail group each past) })))
        (λ (all : whole tail ≡ lines). inr (adds_from base end f c lines begins (near c mixed.torn) rest.text all (torn_at end n c (omega (arith, length-drop end c)) (behind_lines c n mixed.torn (omega arith)))))
        (all_or_none lines (whole tail) group (whole_faint lines tail each past))

    -- the lines are there
    pub appended : whole lines ≡ lines → (c : List ℕ) → Torn end (length lines) f c → Holds c end lines → Adds base f lines c × IsAtRest base (end + length lines) room c
    appended are c torn holds =
        let n = length lines in
        let tail = drop end c in
        let front : take n tail ≡ lines = ext_get_or 0 (take n tail) lines (omega (arith, length-take n tail, length-drop end c, holds.within)) (λ i below.
        let low : i < n = omega (arith, length-take n tail) in
        get_or-take n tail i 0 low ∙ get_or-drop end c i 0 ∙ holds.each i low) in
        let split : tail ≡ lines ++ drop n tail = sym (take-append-drop n tail) ∙ ap (λ (l : List ℕ). l ++ drop n tail) front in
        let none : whole (drop n tail) ≡ [] = whole_none (drop n tail) (get_or-drop n tail 0 0 ∙ get_or-drop end c (n + 0) 0 ∙ behind_lines c (n + 0) torn (omega arith)) in
        let is : whole tail ≡ lines = ap whole split ∙ whole-append lines (drop n tail) are ∙ ap (λ (l : List ℕ). lines ++ l) none ∙ append-nil lines in
        let added : Adds base f lines c = adds_from base end f c lines begins (near c torn) rest.text is (torn_at end n c (omega (arith, holds.within, torn.no_shorter, rest.size)) (behind_lines c n torn (omega arith))) in
        let old = groups_in base f in
        let both : drop base c ≡ (old ++ lines) ++ drop n tail = split_text base end f c begins (near c torn) rest.text ∙ ap (λ (l : List ℕ). old ++ l) split ∙ sym (append_assoc old lines (drop n tail)) in
        let long : length (old ++ lines) ≡ end + n - base = omega (arith, length-append old lines, ap length rest.text, length-take (end - base) (drop base f), length-drop base f, rest.size) in
        let text : take (end + n - base) (drop base c) ≡ old ++ lines = ap (λ (l : List ℕ). take (end + n - base) l) both ∙ take_at (old ++ lines) (drop n tail) (end + n - base) long in (
          added,
          record {
            size = omega (arith, torn.no_shorter, torn.no_longer, rest.size);
            text = added.stands ∙ sym text;
            zeros = λ i from. let at : end + (i - end) ≡ i = omega arith in ap (slice_index c) (sym at) ∙ behind_lines c (i - end) torn (omega arith);
          },
        )

-- zeros over what stands for nothing
module _ (base end : ℕ) (f : List ℕ) (begins : base ≤ end) (inside : end < length f) (text : groups_in base f ≡ take (end - base) (drop base f)) (zeros : List ℕ) (are : (i : ℕ) → slice_index zeros i ≡ 0) (long : end + length zeros ≡ length f) (torn_old : IsTornEnd (behind (drop base f))) where
  close : (c : List ℕ) → Torn end (length zeros) f c → Alike end f c
  close c torn = record { old_reaches = omega arith; new_reaches = omega (arith, torn.no_shorter); same = λ i low. torn.below i (omega arith) low }

  rest_old : IsTornEnd (drop end f)
  rest_old = subst IsTornEnd (behind_at base end f begins (omega arith) text) torn_old

  nothing : whole (drop end f) ≡ []
  nothing =
      let split : drop base f ≡ groups_in base f ++ drop end f = split_text base end f f begins (record { old_reaches = omega arith; new_reaches = omega arith; same = λ i low. refl }) text in
      let is : groups_in base f ≡ groups_in base f ++ whole (drop end f) = ap whole split ∙ whole-append (groups_in base f) (drop end f) (whole-whole (drop base f)) in
      append_cancel_left (groups_in base f) (whole (drop end f)) [] (sym is ∙ sym (append-nil (groups_in base f)))

  -- a byte that was cleared in part is what it was or zero
  part : (c : List ℕ) → Mixed end zeros f c → (i : ℕ) → i < length (drop end f) → (slice_index (drop end c) i ≡ 0) ⊎ (slice_index (drop end c) i ≡ slice_index (drop end f) i)
  part c mixed i low =
      let size : length (drop end f) ≡ length zeros = omega (arith, length-drop end f) in
      ⊎_elim (λ was. inr (get_or-drop end c i 0 ∙ was ∙ sym (get_or-drop end f i 0))) (λ put. inl (get_or-drop end c i 0 ∙ put ∙ are i)) (mixed.each i (omega arith) (omega arith))

  past_end : (c : List ℕ) → Mixed end zeros f c → (i : ℕ) → length (drop end f) ≤ i → slice_index (drop end c) i ≡ 0
  past_end c mixed i high = get_or_past (drop end c) i 0 (omega (arith, length-drop end f, length-drop end c, mixed.torn.no_longer))

  torn_still : (c : List ℕ) → Mixed end zeros f c → IsTornEnd (drop end c)
  torn_still c mixed =
      let tail = drop end c in
      let old = drop end f in
      let stays : (i : ℕ) → slice_index old i ≡ 0 → slice_index tail i ≡ 0 = λ i none. elim (cases_lt i (length old)) [
        | inl low ↦ ⊎_elim (λ is. is) (λ same. same ∙ none) (part c mixed i low)
        | inr high ↦ past_end c mixed i high
      ] in
      record {
        zero_at = rest_old.zero_at;
        inside = omega (arith, rest_old.inside, length-drop end f, length-drop end c, mixed.torn.no_shorter);
        is_zero = stays rest_old.zero_at rest_old.is_zero;
        last = ⊎_elim (λ first. inl (stays 0 first)) (λ ends. inr (λ i j low is. stays j (ends i j low (was_end tail old i (part_at c mixed i) is)))) rest_old.last;
      }
    where
      part_at : (c : List ℕ) → Mixed end zeros f c → (i : ℕ) → (slice_index (drop end c) i ≡ 0) ⊎ (slice_index (drop end c) i ≡ slice_index (drop end f) i)
      part_at c mixed i = elim (cases_lt i (length (drop end f))) [ inl low ↦ part c mixed i low | inr high ↦ inl (past_end c mixed i high) ]

      was_end : (tail old : List ℕ) (i : ℕ) → (slice_index tail i ≡ 0) ⊎ (slice_index tail i ≡ slice_index old i) → slice_index tail i ≡ 30 → slice_index old i ≡ 30
      was_end tail old i (inl none) is = absurd (omega (arith, none, is))
      was_end tail old i (inr same) is = sym same ∙ is

  pub clearing : (c : List ℕ) → Mixed end zeros f c → Adds base f [] c
  clearing c mixed =
      let first : AreFirst (drop end f) (whole (drop end c)) = whole_faint (drop end f) (drop end c) (part c mixed) (past_end c mixed) in
      adds_from base end f c [] begins (close c mixed.torn) text (first_of_none (drop end f) (whole (drop end c)) nothing first) (torn_still c mixed)

  pub cleared : (c : List ℕ) → Mixed end zeros f c → Holds c end zeros → IsAtRest base end (length f) c
  cleared c mixed holds = record {
    size = omega (arith, mixed.torn.no_shorter, mixed.torn.no_longer);
    text = (clearing c mixed).stands ∙ append-nil (groups_in base f) ∙ text ∙ sym (same_mid base end f c begins (close c mixed.torn));
    zeros = λ i from. elim (cases_lt (i - end) (length zeros)) [
      | inl low ↦ let at : end + (i - end) ≡ i = omega arith in ap (slice_index c) (sym at) ∙ holds.each (i - end) low ∙ are (i - end)
      | inr high ↦ get_or_past c i 0 (omega (arith, mixed.torn.no_longer))
    ];
  }

-- what a write leaves
pub mixed_only : (at : ℕ) (bytes f : List ℕ) (leaves : List ℕ → Type 0) → Only f leaves → (c : List ℕ) → leaves c → Mixed at bytes f c
mixed_only at bytes f leaves only c now = subst (λ (d : List ℕ). Mixed at bytes f d) (sym (only c now)) (Mixed-refl at bytes f)

pub mixed_leaves : (at : ℕ) (bytes f : List ℕ) (old new : List ℕ → Type 0) → Only f old → Follows (Mixed at bytes) old new → (c : List ℕ) → new c → Mixed at bytes f c
mixed_leaves at bytes f old new only follows c now =
    let from = follows c now in
    let is : from.0 ≡ f = only from.0 from.1 in
    subst (λ (d : List ℕ). Mixed at bytes d c) is from.2

-- what the calls of `append` leave
module _ (base base' end room : ℕ) (f m lines : List ℕ) (same : base' ≡ base) (begins : base' ≤ end) (fits : end + length lines < room) (rest : IsAtRest base' end room m) (one : Adds base f [] m) where
  here : IsAtRest base end room m
  here = subst (λ (b : ℕ). IsAtRest b end room m) same rest

  pub write_leaves : IsGroup lines → (c : List ℕ) → Mixed end lines m c → AddsOrNot base f lines c
  write_leaves group c mixed = adds_or_after base f m lines c one (appending base end room m (omega arith) (omega arith) here lines fits group c mixed)

  pub write_done : whole lines ≡ lines → (c : List ℕ) → Torn end (length lines) m c → Holds c end lines → Adds base f lines c × IsAtRest base' (end + length lines) room c
  write_done are c torn holds =
      let both = appended base end room m (omega arith) (omega arith) here lines fits are c torn holds in
      (adds_after base f m lines c one both.0, subst (λ (b : ℕ). IsAtRest b (end + length lines) room c) (sym same) both.1)

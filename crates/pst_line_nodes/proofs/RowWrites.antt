-- What each write of a field does to a node.
use Rattle.std.proofs.Common.{◌≡◌, ◌≢◌, ℕ, zero, suc, ◌<◌, cond, List, [], ◌∷◌, ◌++◌, length, get_or, eqb, refl, sym, ap, ◌∙◌, subst, arith, inl, inr, length-set, Option, Some, None, Bool, true, false, not, IsTrue}
use Rattle.std.specs.Prelude.{IfSome, IfNone}
use Rattle.std.specs.Option.{is_some}
use Rattle.std.proofs.Math.ListN.{set}
use Rattle.std.proofs.lemmas.Bool.{eq-eqb, ne_eqb}
use Rattle.pst_line_nodes.specs.declared.content.Content.{Content}
use Rattle.pst_line_nodes.specs.declared.content.Content.TheVariants.{Null}
use Rattle.pst_line_nodes.specs.declared.content.StampedContent.{StampedContent}
use Rattle.pst_line_nodes.specs.Contents.{stamped_from}
use Rattle.pst_line_nodes.specs.Seen.{Seen}
use Rattle.pst_line_nodes.specs.Rows.{is_for, held, since_in, holds, since, base_of, AreRising, IsRow, IsSameHead, IsRowSet, IsPut, IsStampAt, IsUnstamped, with_content}
use Rattle.pst_line_nodes.proofs.RowLemmas.{for_true, for_other, for_late, held-push, since-push, since_unstamped, rising-pushed, length-push, set-with_content, length-with_content, rising-with_content, since-with_content, with_content-late, with_content-early, with_content-others, since-stamped, rising_empty}

pub replaced_items : (xs : List StampedContent) (i : ℕ) (e : StampedContent) (c : Content) → i < length xs → e ≡ get_or xs i e → set xs i (record { slot = e.slot; from = e.from; content = c }) ≡ with_content xs i c
replaced_items xs i e c l is = ap (λ (k : StampedContent). set xs i (record { slot = k.slot; from = k.from; content = c })) is ∙ set-with_content xs i e c l

module _ (old new : Seen) (slot t : ℕ) (c : Content) (row : IsRow t old) (head : IsSameHead old new) where
  -- a stamp is pushed
  module _ (before : old.first < t) (none : IsUnstamped old.stamped slot t) (base : new.base ≡ old.base) (pushed : new.stamped ≡ old.stamped ++ stamped_from slot t c ∷ []) where
    holds_pushed : (g n : ℕ) → holds new g n ≡ cond (is_for g n (stamped_from slot t c)) c (holds old g n)
    holds_pushed g n = ap (λ b. held new.stamped g n (get_or b g Null)) base ∙ ap (λ xs. held xs g n (base_of old g)) pushed ∙ held-push old.stamped (stamped_from slot t c) g n (base_of old g)

    since_pushed : (g : ℕ) → since new g ≡ cond (eqb slot g) t (since old g)
    since_pushed g = ap (since_in new.stamped g) head.first ∙ ap (λ xs. since_in xs g old.first) pushed ∙ since-push old.stamped (stamped_from slot t c) g old.first

    pub pushed_set : IsRowSet old new slot t c
    pushed_set = record {
      head = head;
      late = λ n l. holds_pushed slot n ∙ ap (λ b. cond b c (holds old slot n)) (for_true slot n (stamped_from slot t c) refl l);
      early = λ n b l. holds_pushed slot n ∙ ap (λ b. cond b c (holds old slot n)) (for_late slot n (stamped_from slot t c) l);
      others = λ g n ne. holds_pushed g n ∙ ap (λ b. cond b c (holds old g n)) (for_other g n (stamped_from slot t c) (λ p. ne (sym p)));
      since_is = since_pushed slot ∙ ap (λ b. cond b t (since old slot)) (eq-eqb slot slot refl);
      others_since = λ g ne. since_pushed g ∙ ap (λ b. cond b t (since old g)) (ne_eqb slot g (λ p. ne (sym p)));
      replaced = λ e. absurd (since_unstamped old.stamped slot old.first t before none e);
      stamped = λ e. ap length pushed ∙ length-push old.stamped (stamped_from slot t c);
    }

    pub pushed_row : IsRow t new
    pushed_row = record {
      first = omega (arith, row.first, head.first);
      rising = subst (λ (m : ℕ). AreRising m t new.stamped) (sym head.first) (subst (AreRising old.first t) (sym pushed) (rising-pushed old.first t old.stamped (stamped_from slot t c) row.rising before refl none));
    }

  -- the content of a stamp is replaced
  module _ (i : ℕ) (at : IsStampAt old.stamped i slot t) (base : new.base ≡ old.base) (changed : new.stamped ≡ with_content old.stamped i c) where
    holds_changed : (g n : ℕ) → holds new g n ≡ held (with_content old.stamped i c) g n (base_of old g)
    holds_changed g n = ap (λ b. held new.stamped g n (get_or b g Null)) base ∙ ap (λ xs. held xs g n (base_of old g)) changed

    since_changed : (g : ℕ) → since new g ≡ since old g
    since_changed g = ap (since_in new.stamped g) head.first ∙ ap (λ xs. since_in xs g old.first) changed ∙ since-with_content old.stamped i c g old.first

    was_since : since old slot ≡ t
    was_since = since-stamped old.first t old.stamped i slot old.first row.rising at

    pub changed_set : IsRowSet old new slot t c
    changed_set = record {
      head = head;
      late = λ n l. holds_changed slot n ∙ with_content-late old.first t old.stamped i slot c n (base_of old slot) row.rising at l;
      early = λ n b l. holds_changed slot n ∙ with_content-early old.first t old.stamped i slot c n (base_of old slot) at l;
      others = λ g n ne. holds_changed g n ∙ with_content-others old.first t old.stamped i slot c g n (base_of old g) at ne;
      since_is = since_changed slot ∙ was_since;
      others_since = λ g ne. since_changed g;
      replaced = λ e. ap length changed ∙ length-with_content old.stamped i c;
      stamped = λ e. absurd (e was_since);
    }

    pub changed_row : IsRow t new
    changed_row = record {
      first = omega (arith, row.first, head.first);
      rising = subst (λ (m : ℕ). AreRising m t new.stamped) (sym head.first) (subst (AreRising old.first t) (sym changed) (rising-with_content old.first t old.stamped i c row.rising));
    }

  -- the base is replaced, in a node that begins at the newest stamp
  module _ (begins : old.first ≡ t) (below : slot < length old.base) (base : new.base ≡ set old.base slot c) (same : new.stamped ≡ old.stamped) where
    no_stamps : old.stamped ≡ []
    no_stamps = rising_empty t old.stamped (subst (λ (m : ℕ). AreRising m t old.stamped) begins row.rising)

    holds_base : (g n : ℕ) → holds new g n ≡ get_or (set old.base slot c) g Null
    holds_base g n = ap (λ xs. held xs g n (base_of new g)) (same ∙ no_stamps) ∙ ap (λ b. get_or b g Null) base

    was_base : (g n : ℕ) → holds old g n ≡ get_or old.base g Null
    was_base g n = ap (λ xs. held xs g n (base_of old g)) no_stamps

    get-set : (xs : List Content) (k : ℕ) → k < length xs → get_or (set xs k c) k Null ≡ c
    get-set [] k l = absurd (omega arith)
    get-set (x ∷ xs) zero l = refl
    get-set (x ∷ xs) (suc k) l = get-set xs k (omega arith)

    get-set-other : (xs : List Content) (k g : ℕ) → g ≢ k → get_or (set xs k c) g Null ≡ get_or xs g Null
    get-set-other [] k g ne = refl
    get-set-other (x ∷ xs) zero zero ne = absurd (ne refl)
    get-set-other (x ∷ xs) zero (suc g) ne = refl
    get-set-other (x ∷ xs) (suc k) zero ne = refl
    get-set-other (x ∷ xs) (suc k) (suc g) ne = get-set-other xs k g (λ p. ne (ap suc p))

    since_new : (g : ℕ) → since new g ≡ t
    since_new g = ap (λ xs. since_in xs g new.first) (same ∙ no_stamps) ∙ head.first ∙ begins

    since_old : (g : ℕ) → since old g ≡ t
    since_old g = ap (λ xs. since_in xs g old.first) no_stamps ∙ begins

    pub based_set : IsRowSet old new slot t c
    based_set = record {
      head = head;
      late = λ n l. holds_base slot n ∙ get-set old.base slot below;
      early = λ n b l. absurd (omega (arith, begins));
      others = λ g n ne. holds_base g n ∙ get-set-other old.base slot g ne ∙ sym (was_base g n);
      since_is = since_new slot;
      others_since = λ g ne. since_new g ∙ sym (since_old g);
      replaced = λ e. ap length same;
      stamped = λ e. absurd (e (since_old slot));
    }

    pub based_row : IsRow t new
    based_row = record {
      first = omega (arith, row.first, head.first);
      rising = subst (λ (m : ℕ). AreRising m t new.stamped) (sym head.first) (subst (AreRising old.first t) (sym same) row.rising);
    }

-- a content is stamped in a node that began before
pub put_set : (old : Seen) (xs : List StampedContent) (slot t : ℕ) (c : Content) → IsRow t old → old.first < t → IsPut old.stamped xs slot t c → IsRowSet old (record old { stamped = xs }) slot t c × IsRow t (record old { stamped = xs })
put_set old xs slot t c row before p = elim p.cases [
  | inl h ↦ (
    changed_set old (record old { stamped = xs }) slot t c row (record { name = refl; ty = refl; home = refl; first = refl; later = refl; inverse = refl; width = refl }) h.0 h.1 refl h.2,
    changed_row old (record old { stamped = xs }) slot t c row (record { name = refl; ty = refl; home = refl; first = refl; later = refl; inverse = refl; width = refl }) h.0 h.1 refl h.2,
  )
  | inr h ↦ (
    pushed_set old (record old { stamped = xs }) slot t c row (record { name = refl; ty = refl; home = refl; first = refl; later = refl; inverse = refl; width = refl }) before h.0 refl h.1,
    pushed_row old (record old { stamped = xs }) slot t c row (record { name = refl; ty = refl; home = refl; first = refl; later = refl; inverse = refl; width = refl }) before h.0 refl h.1,
  )
]

-- the base of a node that begins there is replaced
pub base_set : (old : Seen) (slot t : ℕ) (c : Content) → IsRow t old → old.first ≡ t → slot < length old.base → IsRowSet old (record old { base = set old.base slot c }) slot t c × IsRow t (record old { base = set old.base slot c })
base_set old slot t c row begins below = (
  based_set old (record old { base = set old.base slot c }) slot t c row (record { name = refl; ty = refl; home = refl; first = refl; later = refl; inverse = refl; width = length-set old.base slot c }) begins below refl refl,
  based_row old (record old { base = set old.base slot c }) slot t c row (record { name = refl; ty = refl; home = refl; first = refl; later = refl; inverse = refl; width = length-set old.base slot c }) begins below refl refl,
)

-- so it is where the node is seen as another value
pub put_set_as : (old q : Seen) (xs : List StampedContent) (slot t : ℕ) (c : Content) → old ≡ q → IsRow t q → old.first ≢ t → IsPut old.stamped xs slot t c → IsRowSet q (record old { stamped = xs }) slot t c × IsRow t (record old { stamped = xs })
put_set_as old q xs slot t c is row other p =
    let r : IsRow t old = subst (IsRow t) (sym is) row in
    let d = put_set old xs slot t c r (omega (arith, r.first, other)) p in
    (subst (λ (p : Seen). IsRowSet p (record old { stamped = xs }) slot t c) is d.0, d.1)

pub base_set_as : (old q : Seen) (slot t : ℕ) (c : Content) → old ≡ q → IsRow t q → old.first ≡ t → slot < length q.base → IsRowSet q (record old { base = set old.base slot c }) slot t c × IsRow t (record old { base = set old.base slot c })
base_set_as old q slot t c is row begins below =
    let d = base_set old slot t c (subst (IsRow t) (sym is) row) begins (subst (λ (p : Seen). slot < length p.base) (sym is) below) in
    (subst (λ (p : Seen). IsRowSet p (record old { base = set old.base slot c }) slot t c) is d.0, d.1)

-- where a content was written at the newest stamp, there is a stamp to be replaced
pub unstamped_since : (old q : Seen) (slot t : ℕ) → old ≡ q → IsRow t q → old.first ≢ t → IsUnstamped old.stamped slot t → since q slot ≢ t
unstamped_since old q slot t is row other none e =
    let r : IsRow t old = subst (IsRow t) (sym is) row in
    since_unstamped old.stamped slot old.first t (omega (arith, r.first, other)) none (ap (λ (p : Seen). since p slot) is ∙ e)

-- a node with stamped values began before the newest stamp
pub began_before : (n : Seen) (t : ℕ) → IsRow t n → 0 < length n.stamped → n.first < t
began_before n t row more = elim n.stamped as (λ (xs : List StampedContent). AreRising n.first t xs → 0 < length xs → n.first < t) [
  | [] ↦ λ r m. absurd (omega arith)
  | x ∷ xs ↦ λ r m. omega (arith, r.0, r.1)
] row.rising more

-- the newest content of a slot is in force from the newest stamp on exactly where that stamp is there, or the node begins then
pub since_full : (n : Seen) (slot t limit : ℕ) → IsRow t n → limit < length n.stamped → IsUnstamped n.stamped slot t → since n slot ≢ t
since_full n slot t limit row more none e =
    let before : n.first < t = began_before n t row (omega (arith, more)) in
    since_unstamped n.stamped slot n.first t before none e

pub since_there : (n : Seen) (slot t i : ℕ) → IsRow t n → IsStampAt n.stamped i slot t → since n slot ≡ t
since_there n slot t i row at = since-stamped n.first t n.stamped i slot n.first row.rising at

true_by_not : (b : Bool) → false ≡ not b → b ≡ true
true_by_not true e = refl
true_by_not false e = absurd (cc)

pub full_is : (n q : Seen) (slot t limit : ℕ) (xs : List StampedContent) (r : Option ℕ) (b : Bool) → n ≡ q → xs ≡ n.stamped → IsRow t q → limit < length xs → IfSome r (λ i. IsStampAt xs i slot t) → IfNone r (IsUnstamped xs slot t) → is_some r ≡ not b
    → (IsTrue b → (limit < length q.stamped) × (since q slot ≢ t)) × ((limit < length q.stamped) × (since q slot ≢ t) → IsTrue b)
full_is n q slot t limit xs r b is same row more some none e =
    let own : xs ≡ q.stamped = same ∙ ap (λ (p : Seen). p.stamped) is in
    let many : limit < length q.stamped = subst (λ (ys : List StampedContent). limit < length ys) own more in
    elim r as (λ (o : Option ℕ). IfSome o (λ i. IsStampAt xs i slot t) → IfNone o (IsUnstamped xs slot t) → is_some o ≡ not b → (IsTrue b → (limit < length q.stamped) × (since q slot ≢ t)) × ((limit < length q.stamped) × (since q slot ≢ t) → IsTrue b)) [
      | None ↦ λ s u f. (λ h. (many, since_full q slot t limit row many (subst (λ (ys : List StampedContent). IsUnstamped ys slot t) own u)), λ h. true_by_not b f)
      | Some i ↦ λ s u f. (λ h. absurd (cc), λ h. absurd (h.1 (since_there q slot t i row (subst (λ (ys : List StampedContent). IsStampAt ys i slot t) own s))))
    ] some none e

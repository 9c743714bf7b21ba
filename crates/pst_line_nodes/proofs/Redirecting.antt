-- The cascade, step by step.
use Rattle.std.proofs.Common.{◌≡◌, ◌≢◌, ℕ, ◌+◌, ◌<◌, ◌≤◌, Bool, true, List, length, Some, None, Option, refl, sym, ap, ◌∙◌, subst, ◌⊎◌, inl, inr, ⊎_elim, arith}
use Rattle.std.proofs.lemmas.Bool.{cases_lt, cases_eq}
use Rattle.std.specs.Prelude.{slice_get}
use Rattle.pst_base.specs.declared.names.TypeNo.{TypeNo}
use Rattle.pst_base.specs.declared.shape.TypeShape.{TypeShape}
use Rattle.pst_base.specs.Shape.{type_at, element_count, root_type}
use Rattle.pst_line_nodes.specs.declared.content.Content.{Content}
use Rattle.pst_line_nodes.specs.Contents.{Target}
use Rattle.pst_line_nodes.specs.Seen.{Seen}
use Rattle.pst_line_nodes.specs.Line.{Line, Covers, IsNewest, IsLine, IsQuiet, HasKind, newest, onward, most}
use Rattle.pst_line_nodes.specs.Changes.{IsCopied, IsRedirected, redirected}
use Rattle.pst_line_nodes.specs.Nodes.{line_of, AreKept, HasSlot, IsFieldSet}
use Rattle.pst_line_nodes.specs.Copying.{node_at}
use Rattle.pst_line_nodes.specs.Carried.{IsRedirecting, IsFullFor, IsCarried, IsSince, HasRoomFor}
use Rattle.pst_line_nodes.proofs.Contents.{one_target}
use Rattle.pst_line_nodes.proofs.Same.{same_field, pointer_field}
use Rattle.pst_line_nodes.proofs.Copy.{moved-some, redirected-target, last_covers, covers_last}
use Rattle.pst_line_nodes.proofs.HeapLaws.{unique}
use Rattle.pst_line_nodes.proofs.Copying.{onto, of-get, kept_at}
use Rattle.pst_line_nodes.proofs.NodeLemmas.{of_node-at}
use Rattle.pst_line_nodes.proofs.RowWrites.{began_before}
use Rattle.pst_line_nodes.proofs.Carrying.{carried_redirected}

-- which records are made does not matter
pub redirecting_as : (a b : ℕ → Bool) (nodes : List Seen) (t z s : ℕ) → IsRedirecting (line_of a nodes) t z s → IsRedirecting (line_of b nodes) t z s
redirecting_as a b nodes t z s r = record { copies = r.copies; still = λ i g y c n. r.still i g y c (record { there = n.there; last = n.last }); done = r.done }

-- the pointer that an entry of a copy stands for
pub record IsPartner (w : Line) (t z x f : ℕ) : Type 0 where
  pub newest_is : IsNewest w x
  pub held : ℕ
  pub holds : w.holds x f t ≡ Target held
  pub onto : newest w held ≡ z

module _ (shape : List TypeShape) (t : ℕ) (w : Line) (l : IsLine shape t w) (z s : ℕ) (r : IsRedirecting w t z s) (there : z < w.count) where
  pub newest_z : IsNewest w z
  newest_z = record { there = there; last = (r.copies z (omega arith) there).0 }

  pub partner : (u x f : ℕ) → w.entry z u ≡ Some (x, f) → IsPartner w t z x f
  partner u x f e = let b = l.matched.back z u x f newest_z e in record { newest_is = b.0; held = b.1.0; holds = b.1.1; onto = b.1.2 }

  -- a pointer that is not on z itself is on the node of which z is the copy
  pub copied_from : (x f : ℕ) (p : IsPartner w t z x f) → w.holds x f t ≢ Target z → w.later p.held ≡ Some z
  copied_from x f p other = elim (w.later p.held) as (λ (j : Option ℕ). onward j p.held ≡ z → j ≡ Some z) [
    | None ↦ λ e. absurd (other (p.holds ∙ ap Target e))
    | Some j ↦ λ e. ap Some e
  ] p.onto

  own : (y : ℕ) → Target z ≡ Target y → w.later y ≡ None
  own y e = let same : z ≡ y = one_target z y e in ap w.later (sym same) ∙ newest_z.last

  up_to : (P : ℕ → Type 0) (u : ℕ) → u < s + 1 → (u < s → P u) → P s → P u
  up_to P u m low here = ⊎_elim (λ (p : u < s). low p) (λ (p : s ≤ u). let same : s ≡ u = omega arith in subst P same here) (cases_lt u s)

  pub skip_none : w.entry z s ≡ None → IsRedirecting w t z (s + 1)
  skip_none e = record {
    copies = r.copies;
    still = r.still;
    done = λ u i g y m en h. up_to (λ (u : ℕ). w.entry z u ≡ Some (i, g) → w.later y ≡ None) u m (λ p en. r.done u i g y p en h) (λ en. absurd (let no : None ≡ Some (i, g) = sym e ∙ en in cc)) en;
  }

  field_is : (x f i g : ℕ) → ◌≡◌ {A = Option (ℕ × ℕ)} (Some (x, f)) (Some (i, g)) → (i ≡ x) × (g ≡ f)
  field_is x f i g e =
      let a : ℕ × ℕ = (x, f) in
      let b : ℕ × ℕ = (i, g) in
      let same : a ≡ b = cc in (ap (λ (p : ℕ × ℕ). p.0) (sym same), ap (λ (p : ℕ × ℕ). p.1) (sym same))

  module _ (x f : ℕ) (e : w.entry z s ≡ Some (x, f)) where
    pub skip_held : w.holds x f t ≡ Target z → IsRedirecting w t z (s + 1)
    skip_held held = record {
      copies = r.copies;
      still = r.still;
      done = λ u i g y m en h. up_to (λ (u : ℕ). w.entry z u ≡ Some (i, g) → w.later y ≡ None) u m (λ p en. r.done u i g y p en h)
          (λ en. let k = field_is x f i g (sym e ∙ en) in own y (sym held ∙ ap (λ (i : ℕ). w.holds i f t) (sym k.0) ∙ ap (λ (g : ℕ). w.holds i g t) (sym k.1) ∙ h)) en;
    }

    -- a pointer is redirected
    pub step_redirected : (new : Line) (y k : ℕ) → IsRedirected w new x f t y z k → IsRedirecting new t z (s + 1)
    step_redirected new y k d =
        let o = d.set.nodes in
        record {
          copies = λ i m n. let p = r.copies i m (omega (arith, n, o.count)) in (o.later i ∙ p.0, o.first i ∙ p.1);
          still = λ i g q j n h e. elim (same_field i g x f) [
            | inl p ↦ absurd (let a = own q (sym (held_now p.0 p.1) ∙ h) in let no : None ≡ Some j = sym a ∙ sym (o.later q) ∙ e in cc)
            | inr ne ↦ r.still i g q j (record { there = omega (arith, n.there, o.count); last = sym (o.later i) ∙ n.last }) (sym (d.set.others i g t ne) ∙ h) (sym (o.later q) ∙ e)
          ];
          done = λ u i g q m en h. o.later q ∙ elim (same_field i g x f) [
            | inl p ↦ own q (sym (held_now p.0 p.1) ∙ h)
            | inr ne ↦ up_to (λ (u : ℕ). w.entry z u ≡ Some (i, g) → w.later q ≡ None) u m
                (λ p en. r.done u i g q p en (sym (d.set.others i g t ne) ∙ h))
                (λ en. let k = field_is x f i g (sym e ∙ en) in absurd (ne k.0 k.1))
                (sym (d.entry z u) ∙ en)
          ];
        }
      where
        held_now : {i g : ℕ} → i ≡ x → g ≡ f → new.holds i g t ≡ Target z
        held_now {i} {g} p q = ap (λ (i : ℕ). new.holds i g t) p ∙ ap (λ (g : ℕ). new.holds x g t) q ∙ d.set.here

    -- the node that has the pointer is copied
    pub step_copied : (new : Line) → IsCopied w new x t → IsRedirecting new t z (s + 1)
    step_copied new d = record {
      copies = λ i m n. ⊎_elim
          (λ (p : i < w.count). let k = r.copies i m p in (d.later i p (young i m p) ∙ k.0, d.first i p ∙ k.1))
          (λ (p : w.count ≤ i). let is : i ≡ w.count = omega (arith, n, d.count) in (ap new.later is ∙ d.later_z, ap new.first is ∙ d.first_z))
          (cases_lt i w.count);
      still = λ i g q j n h e. ⊎_elim
          (λ (p : i < w.count).
          let ne = last_other i p n in
          let n' : IsNewest w i = record { there = p; last = sym (d.later i p ne) ∙ n.last } in
          let h' : w.holds i g t ≡ Target q = sym (d.holds i g t p) ∙ h in
          ⊎_elim
          (λ (b : q ≡ x). let is : Some w.count ≡ Some j = sym d.later_x ∙ ap new.later (sym b) ∙ e in let same : w.count ≡ j = cc in omega (arith, there))
          (λ (b : q ≡ x → ⊥). r.still i g q j n' h' (sym (d.later q (l.newest i g q n' h').0 b) ∙ e))
          (cases_eq q x))
          (λ (p : w.count ≤ i).
          let is : i ≡ w.count = omega (arith, n.there, d.count) in
          absurd (no_stale_copy g q j (ap (λ (i : ℕ). new.holds i g t) (sym is) ∙ h) e))
          (cases_lt i w.count);
      done = λ u i g q m en h.
          let o = moved-some x w.count i g (w.entry z u) (sym (d.entry z u there (young z (omega arith) there)) ∙ en) in
          elim o.2 [
            | inl p ↦ copy_done u g q (o.1 ∙ ap (λ (k : ℕ). Some (k, g)) p.0) (ap (λ (i : ℕ). new.holds i g t) (sym p.1) ∙ h)
            | inr p ↦ other_done u i g q m (o.1 ∙ ap (λ (k : ℕ). Some (k, g)) (sym p.1)) (λ (k : i ≡ x). p.0 (sym p.1 ∙ k)) h
          ];
    }
      where
        young : (i : ℕ) → z ≤ i → i < w.count → i ≢ x
        young i m n is = let k = r.copies i m n in absurd (omega (arith, k.1, ap w.first is, d.before))

        last_other : (i : ℕ) → i < w.count → IsNewest new i → i ≢ x
        last_other i m n p = let no : None ≡ Some w.count = sym n.last ∙ ap new.later p ∙ d.later_x in absurd (cc)

        -- what the copy holds is on the newest node
        redirected_last : (g q j : ℕ) (c : Content) → w.holds x g t ≡ c → redirected w x w.count c ≡ Target q → new.later q ≡ Some j → ⊥
        redirected_last g q j c e h k = elim (holds_cases c q h) [
          | inl p ↦ (let no : None ≡ Some j = sym d.later_z ∙ ap new.later (sym p) ∙ k in absurd (cc))
          | inr p ↦
              let v = l.newest x g p.0 d.newest (e ∙ p.1) in
              let last : w.later q ≡ None = ap w.later p.3 ∙ v.1.last in
              let there : q < w.count = omega (arith, v.1.there, p.3) in
              ⊎_elim
              (λ (b : q ≡ x). absurd (p.2 (onto_x g p.0 (e ∙ p.1) (sym p.3 ∙ b))))
              (λ (b : q ≡ x → ⊥). let no : None ≡ Some j = sym last ∙ sym (d.later q there b) ∙ k in absurd (cc))
              (cases_eq q x)
        ]
          where
            holds_cases : (c : Content) (q : ℕ) → redirected w x w.count c ≡ Target q → (q ≡ w.count) ⊎ ((p : ℕ) × (c ≡ Target p) × (p ≢ x) × (q ≡ newest w p))
            holds_cases c q h = elim (redirected-target w x w.count q c h) [ inl a ↦ inl a.1 | inr a ↦ inr (a.0, a.1, a.2, a.3) ]

            onto_x : (g p : ℕ) → w.holds x g t ≡ Target p → newest w p ≡ x → p ≡ x
            onto_x g p h is = onto shape t w x x g p l d.before d.newest h is

        no_stale_copy : (g q j : ℕ) → new.holds w.count g t ≡ Target q → new.later q ≡ Some j → ⊥
        no_stale_copy g q j h k = redirected_last g q j (w.holds x g t) refl (sym (d.holds_z g t) ∙ h) k

        copy_done : (u g q : ℕ) → w.entry z u ≡ Some (x, g) → new.holds w.count g t ≡ Target q → new.later q ≡ None
        copy_done u g q en h = elim (new.later q) as (λ (j : Option ℕ). new.later q ≡ j → j ≡ None) [
          | None ↦ λ e. refl
          | Some j ↦ λ e. absurd (no_stale_copy g q j h e)
        ] refl

        other_done : (u i g q : ℕ) → u < s + 1 → w.entry z u ≡ Some (i, g) → i ≢ x → new.holds i g t ≡ Target q → new.later q ≡ None
        other_done u i g q m en ne h =
            let p = partner u i g en in
            let h' : w.holds i g t ≡ Target q = sym (d.holds i g t p.newest_is.there) ∙ h in
            let last : w.later q ≡ None = up_to (λ (u : ℕ). w.entry z u ≡ Some (i, g) → w.later q ≡ None) u m (λ b en. r.done u i g q b en h') (λ en. let k = field_is x f i g (sym e ∙ en) in absurd (ne k.0)) en in
            let q_there = (l.newest i g q p.newest_is h').0 in
            ⊎_elim
            (λ (b : q ≡ x).
            let both : Target p.held ≡ Target q = sym p.holds ∙ h' in
            let same : p.held ≡ q = one_target p.held q both in
            absurd (young z (omega arith) there (sym p.onto ∙ ap (newest w) same ∙ ap (λ j. onward j q) last ∙ b)))
            (λ (b : q ≡ x → ⊥). d.later q q_there b ∙ last)
            (cases_eq q x)

  -- all inverse slots of z are done
  pub step_next : (type_at shape (w.ty z)).limit ≤ s → IsRedirecting w t (z + 1) 0
  step_next full = record {
    copies = λ i m n. r.copies i (omega arith) n;
    still = λ i g y c n h e. ⊎_elim
        (λ (p : z < c). omega arith)
        (λ (p : c ≤ z).
        let more = r.still i g y c n h e in
        let same : c ≡ z = omega arith in
        let a = l.matched.found i g y n h in
        let v = l.newest i g y n h in
        let next = l.chained.next y c v.0 e in
        let kin = l.chained.same c y next.0 v.0 next.1 in
        let limits : (type_at shape (w.ty y)).limit ≡ (type_at shape (w.ty z)).limit = ap (λ (u : TypeNo). (type_at shape u).limit) (sym kin.1 ∙ ap w.ty same) in
        let entry : w.entry z a.0 ≡ Some (i, g) = ap (λ (k : ℕ). w.entry k a.0) (sym (ap (λ j. onward j y) e ∙ same)) ∙ a.2 in
        absurd (let no : None ≡ Some c = sym (r.done a.0 i g y (omega (arith, a.1, limits)) entry h) ∙ e in cc))
        (cases_lt z c);
    done = λ u i g y m en h. absurd (omega arith);
  }

-- there is no copy more
pub all_done : (shape : List TypeShape) (t : ℕ) (w : Line) (z : ℕ) → IsLine shape t w → IsRedirecting w t z 0 → w.count ≤ z → IsQuiet w t
all_done shape t w z l r m = record {
  none = λ i g y n h. elim (w.later y) as (λ (j : Option ℕ). w.later y ≡ j → j ≡ None) [
    | None ↦ λ e. refl
    | Some c ↦ λ e. absurd (let v = l.chained.next y c (l.newest i g y n h).0 e in omega (arith, r.still i g y c n h e, v.0))
  ] refl;
}

-- a node was copied where no pointer was to be redirected
pub begin_at : (shape : List TypeShape) (t : ℕ) (old new : Line) (x : ℕ) → IsLine shape t old → IsLine shape t new → IsQuiet old t → IsCopied old new x t → IsRedirecting new t old.count 0
begin_at shape t old new x l k quiet d = record {
  copies = λ i m n. let is : i ≡ old.count = omega (arith, n, d.count) in (ap new.later is ∙ d.later_z, ap new.first is ∙ d.first_z);
  still = λ i g y c n h e.
      let v = k.newest i g y n h in
      let next = k.chained.next y c v.0 e in
      let first : new.first c ≡ t = v.2 c e in
      ⊎_elim
      (λ (p : y < old.count). ⊎_elim
      (λ (b : y ≡ x). let is : Some old.count ≡ Some c = sym d.later_x ∙ ap new.later (sym b) ∙ e in let same : old.count ≡ c = cc in omega arith)
      (λ (b : y ≡ x → ⊥).
      let was : old.later y ≡ Some c = sym (d.later y p b) ∙ e in
      ⊎_elim
      (λ (m : i < old.count).
      let ne : i ≢ x = λ q. (let no : None ≡ Some old.count = sym n.last ∙ ap new.later q ∙ d.later_x in absurd (cc)) in
      let n' : IsNewest old i = record { there = m; last = sym (d.later i m ne) ∙ n.last } in
      absurd (let no : None ≡ Some c = sym (quiet.none i g y n' (sym (d.holds i g t m) ∙ h)) ∙ was in cc))
      (λ (m : old.count ≤ i).
      let is : i ≡ old.count = omega (arith, n.there, d.count) in
      let held : redirected old x old.count (old.holds x g t) ≡ Target y = sym (d.holds_z g t) ∙ ap (λ (i : ℕ). new.holds i g t) (sym is) ∙ h in
      elim (redirected-target old x old.count y (old.holds x g t) held) [
        | inl a ↦ omega (arith, a.1, p)
        | inr a ↦
            let o = l.newest x g a.0 d.newest a.1 in
            absurd (let no : None ≡ Some c = sym o.1.last ∙ ap old.later (sym a.3) ∙ was in cc)
      ])
      (cases_lt i old.count))
      (cases_eq y x))
      (λ (p : old.count ≤ y).
      let is : y ≡ old.count = omega (arith, v.0, d.count) in
      absurd (let no : None ≡ Some c = sym d.later_z ∙ ap new.later (sym is) ∙ e in cc))
      (cases_lt y old.count);
  done = λ u i g y m en h. absurd (omega arith);
}

-- ---- from nodes

module _ (shape : List TypeShape) (t : ℕ) (nodes : List Seen) (made : ℕ → Bool) (l : IsLine shape t (line_of made nodes)) (k : AreKept shape t nodes) (z s x f : ℕ) (r : IsRedirecting (line_of (λ i. true) nodes) t z s) (there : z < length nodes)
    (e : (line_of (λ i. true) nodes).entry z s ≡ Some (x, f)) where
  own_r : IsRedirecting (line_of made nodes) t z s
  own_r = redirecting_as (λ i. true) made nodes t z s r

  of : IsPartner (line_of made nodes) t z x f
  of = partner shape t (line_of made nodes) l z s own_r there s x f e

  pub x_newest : IsNewest (line_of (λ i. true) nodes) x
  x_newest = record { there = of.newest_is.there; last = of.newest_is.last }

  pub x_slot : HasSlot nodes x f
  x_slot n at =
      let w : Line = line_of made nodes in
      let kind : HasKind (type_at shape (w.ty x)) w.ty f (Target of.held) = subst (HasKind (type_at shape (w.ty x)) w.ty f) of.holds (l.kinds x f t (omega arith) (last_covers shape t w x l of.newest_is)) in
      let type_is : w.ty x ≡ n.ty = of_node-at (λ n. n.ty) root_type nodes x n at in
      let more : f < element_count (type_at shape (w.ty x)) = (pointer_field (type_at shape (w.ty x)) f (w.ty of.held) kind).1 in
      omega (arith, subst (λ (u : TypeNo). f < element_count (type_at shape u)) type_is more, (k.each x n at).width)

  pub x_before : IsFullFor shape (line_of (λ i. true) nodes) x f t → (line_of (λ i. true) nodes).first x < t
  x_before full =
      let n : Seen = node_at nodes x in
      let before = began_before n t (kept_at shape t nodes x k of.newest_is.there).row (omega (arith, full.most_are, of-get (λ n. length n.stamped) nodes x)) in
      omega (arith, before, of-get (λ n. n.first) nodes x)

  pub done_held : (line_of (λ i. true) nodes).holds x f t ≡ Target z → IsRedirecting (line_of (λ i. true) nodes) t z (s + 1)
  done_held held = redirecting_as made (λ i. true) nodes t z (s + 1) (skip_held shape t (line_of made nodes) l z s own_r there x f e held)

  pub done_copied : (new : List Seen) → IsCopied (line_of made nodes) (line_of made new) x t → IsRedirecting (line_of (λ i. true) new) t z (s + 1)
  done_copied new d = redirecting_as made (λ i. true) new t z (s + 1) (step_copied shape t (line_of made nodes) l z s own_r there x f e (line_of made new) d)

  redirected_set : (mark : ℕ → Bool) (new : List Seen) → (line_of (λ i. true) nodes).holds x f t ≢ Target z → (d : IsFieldSet (line_of mark nodes) (line_of mark new) x f t (Target z)) → IsRedirected (line_of mark nodes) (line_of mark new) x f t of.held z d.more
  redirected_set mark new other d = record { set = d.set; held = of.holds; copied = copied_from shape t (line_of made nodes) l z s own_r there x f of other; entry = d.entry }

  pub done_set : (new : List Seen) → (line_of (λ i. true) nodes).holds x f t ≢ Target z → IsFieldSet (line_of made nodes) (line_of made new) x f t (Target z) → IsRedirecting (line_of (λ i. true) new) t z (s + 1)
  done_set new other d = redirecting_as made (λ i. true) new t z (s + 1) (step_redirected shape t (line_of made nodes) l z s own_r there x f e (line_of made new) of.held d.more (redirected_set made new other d))

  pub carried_set : (mark : ℕ → Bool) (new : List Seen) → IsLine shape t (line_of mark nodes) → (IsFullFor shape (line_of (λ i. true) nodes) x f t → ⊥) → (line_of (λ i. true) nodes).holds x f t ≢ Target z → IsFieldSet (line_of mark nodes) (line_of mark new) x f t (Target z)
      → IsCarried shape t (line_of mark nodes) (line_of mark new)
  carried_set mark new lm room other d = carried_redirected shape t (line_of mark nodes) (line_of mark new) x f of.held z d.more lm (record { there = of.newest_is.there; last = of.newest_is.last }) (redirected_set mark new other d)
      (⊎_elim
      (λ (p : (line_of mark nodes).stamped x < most (type_at shape ((line_of mark nodes).ty x))). inr p)
      (λ (p : most (type_at shape ((line_of mark nodes).ty x)) ≤ (line_of mark nodes).stamped x). ⊎_elim
      (λ (q : (line_of mark nodes).since x f ≡ t). inl (d.replaced q))
      (λ (q : (line_of mark nodes).since x f ≡ t → ⊥). absurd (room (record { most_are = p; before = q })))
      (cases_eq ((line_of mark nodes).since x f) t))
      (cases_lt ((line_of mark nodes).stamped x) (most (type_at shape ((line_of mark nodes).ty x)))))

-- ---- all slots of a copy

module _ (shape : List TypeShape) (t : ℕ) (old now : List Seen) (made : ℕ → Bool) (z s : ℕ) (n : Seen) (k : AreKept shape t old) where
  pub limit_of : z < length old → slice_get old z ≡ Some n → (line_of (λ i. true) old).later z ≡ None → IsCarried shape t (line_of made old) (line_of made now) → length n.inverse ≡ (type_at shape ((line_of made now).ty z)).limit
  limit_of there at last d = (k.each z n at).slots (sym (of_node-at (λ n. n.later) None old z n at) ∙ last) ∙ ap (λ (u : TypeNo). (type_at shape u).limit) (sym (d.went.nodes.ty z there ∙ of_node-at (λ n. n.ty) root_type old z n at))

  pub slots_done : z < length old → slice_get old z ≡ Some n → (line_of (λ i. true) old).later z ≡ None → IsCarried shape t (line_of made old) (line_of made now) → IsRedirecting (line_of (λ i. true) now) t z s → length n.inverse ≤ s → IsRedirecting (line_of (λ i. true) now) t (z + 1) 0
  slots_done there at last d r full = redirecting_as made (λ i. true) now t (z + 1) 0 (step_next shape t (line_of made now) d.line z s (redirecting_as (λ i. true) made now t z s r) (omega (arith, there, d.went.nodes.count)) (omega (arith, full, limit_of there at last d)))

  pub slot_below : AreKept shape t now → z < length old → slice_get old z ≡ Some n → (line_of (λ i. true) old).later z ≡ None → IsCarried shape t (line_of made old) (line_of made now) → IsRedirecting (line_of (λ i. true) now) t z s → s < length n.inverse → s < length (node_at now z).inverse
  slot_below k2 there at last d r less =
      let low : z < length now = omega (arith, there, d.went.nodes.count) in
      let slots = (kept_at shape t now z k2 low).slots (sym (of-get (λ n. n.later) now z) ∙ (r.copies z (omega arith) low).0) in
      let types = ap (λ (u : TypeNo). (type_at shape u).limit) (of-get (λ n. n.ty) now z) in
      omega (arith, less, limit_of there at last d, slots, types)

-- ---- room for a write

-- a node with too many stamped values began before
pub full_before : (shape : List TypeShape) (t : ℕ) (nodes : List Seen) (x f : ℕ) → AreKept shape t nodes → x < length nodes → IsFullFor shape (line_of (λ i. true) nodes) x f t → (line_of (λ i. true) nodes).first x < t
full_before shape t nodes x f k there full =
    let n : Seen = node_at nodes x in
    let before = began_before n t (kept_at shape t nodes x k there).row (omega (arith, full.most_are, of-get (λ n. length n.stamped) nodes x)) in
    omega (arith, before, of-get (λ n. n.first) nodes x)

-- what a copy holds was written there
copied_since : (shape : List TypeShape) (t : ℕ) (old new : Line) (x g : ℕ) → IsLine shape t old → IsCopied old new x t → IsSince new (old.home x) g t
copied_since shape t old new x g l d = λ j n e. ⊎_elim
    (λ (m : j < old.count).
    let ne : j ≢ x = λ p. (let no : None ≡ Some old.count = sym n.last ∙ ap new.later p ∙ d.later_x in absurd (cc)) in
    let n' : IsNewest old j = record { there = m; last = sym (d.later j m ne) ∙ n.last } in
    absurd (ne (unique old j x t l.chained (last_covers shape t old j l n') (last_covers shape t old x l d.newest) (sym (d.home j m) ∙ e))))
    (λ (m : old.count ≤ j). let is : j ≡ old.count = omega (arith, n.there, d.count) in ap (λ (j : ℕ). new.since j g) is ∙ d.since_z g)
    (cases_lt j old.count)

module _ (shape : List TypeShape) (t : ℕ) (old mid new : List Seen) (made : ℕ → Bool) (x f z : ℕ) (l : IsLine shape t (line_of made old)) (d : IsCopied (line_of made old) (line_of made mid) x t) (s : IsCarried shape t (line_of made mid) (line_of made new)) where
  -- the node that covers t now
  pub room_in : Covers (line_of made new) z t → (line_of made new).home z ≡ (line_of made new).home x → HasRoomFor shape (line_of (λ i. true) new) x f t z
  room_in covers home =
      let last = covers_last shape t (line_of made new) z s.line covers in
      let up : x < length mid = omega (arith, d.newest.there, d.count) in
      record {
        newest = record { there = last.there; last = last.last };
        home = home;
        room = inl (s.went.nodes.since ((line_of made old).home x) f (copied_since shape t (line_of made old) (line_of made mid) x f l d) z last (home ∙ s.went.nodes.home x up ∙ d.home x d.newest.there));
      }

pub room_here : (shape : List TypeShape) (t : ℕ) (nodes : List Seen) (x f : ℕ) → IsNewest (line_of (λ i. true) nodes) x → (IsFullFor shape (line_of (λ i. true) nodes) x f t → ⊥) → HasRoomFor shape (line_of (λ i. true) nodes) x f t x
room_here shape t nodes x f n free =
    let w : Line = line_of (λ i. true) nodes in
    record {
      newest = n;
      home = refl;
      room = ⊎_elim
          (λ (p : w.stamped x < most (type_at shape (w.ty x))). inr p)
          (λ (p : most (type_at shape (w.ty x)) ≤ w.stamped x). ⊎_elim
          (λ (q : w.since x f ≡ t). inl q)
          (λ (q : w.since x f ≡ t → ⊥). absurd (free (record { most_are = p; before = q })))
          (cases_eq (w.since x f) t))
          (cases_lt (w.stamped x) (most (type_at shape (w.ty x))));
    }

-- From nodes to the line, where a node is copied.
use Rattle.std.proofs.Common.{◌≡◌, ◌≢◌, ℕ, zero, suc, ◌<◌, ◌≤◌, Bool, true, List, [], ◌∷◌, ◌++◌, length, map, get_or, Option, Some, None, refl, sym, ap, ◌∙◌, subst, ◌⊎◌, inl, inr, ⊎_elim, arith, length-set}
use Rattle.std.proofs.Math.ListN.{set}
use Rattle.std.proofs.lemmas.Bool.{cases_eq, cases_lt}
use Rattle.std.proofs.lemmas.List.{get_or-set_same, get_or-set_other, get_or_append_left, length-map}
use Rattle.std.proofs.Math.Seq.{get_or-append_seam}
use Rattle.std.proofs.lemmas.Option.{get_or_from_slice_get, slice_get-get_or, slice_get_within}
use Rattle.pst_base.specs.declared.names.TypeNo.{TypeNo}
use Rattle.pst_base.specs.declared.shape.TypeShape.{TypeShape}
use Rattle.pst_base.specs.Shape.{type_at, element_count}
use Rattle.pst_line_nodes.specs.declared.content.Content.{Content}
use Rattle.pst_line_nodes.specs.declared.content.Content.TheVariants.{Number, Null, Target as TargetOf}
use Rattle.pst_line_nodes.specs.Contents.{Target}
use Rattle.pst_line_nodes.specs.declared.content.Entry.{Entry}
use Rattle.pst_line_nodes.specs.Seen.{Seen}
use Rattle.pst_line_nodes.specs.Line.{Line, IsNewest, IsLine, HasKind, newest, onward}
use Rattle.pst_line_nodes.specs.Rows.{holds, since, base_of}
use Rattle.pst_line_nodes.specs.Nodes.{of_node, entry_of, pair_of, line_of, IsKept, AreKept}
use Rattle.pst_line_nodes.specs.Changes.{IsCopied, redirected, moved}
use Rattle.pst_line_nodes.specs.Copying.{no_node, no_entry, node_at, AreContents, copy_of, IsHandedOver, bare, AreRenamed, IsTargetBelow}
use Rattle.pst_line_nodes.proofs.Lists.{get_or-map}
use Rattle.pst_line_nodes.proofs.Same.{pointer_field}
use Rattle.pst_line_nodes.proofs.Copy.{last_covers, redirected-x, redirected-other, redirected-target, moved-other}

-- ---- nodes by number

pub of-get : {A : Type 0} (f : Seen → A) (xs : List Seen) (i : ℕ) → of_node f (f no_node) xs i ≡ f (node_at xs i)
of-get f [] i = refl
of-get f (x ∷ xs) zero = refl
of-get f (x ∷ xs) (suc i) = of-get f xs i

pub bare-at : (xs ys : List Seen) (i : ℕ) → map bare xs ≡ map bare ys → bare (node_at xs i) ≡ bare (node_at ys i)
bare-at xs ys i e = sym (get_or-map bare xs i no_node no_node refl) ∙ ap (λ (zs : List Seen). get_or zs i no_node) e ∙ get_or-map bare ys i no_node no_node refl

none_of_map : {X Y : Type 0} (f : X → Y) (xs : List X) → map f xs ≡ [] → xs ≡ []
none_of_map f [] e = refl
none_of_map f (x ∷ xs) e = absurd (cc)

-- a node keeps what it keeps whatever its entries are
pub kept_bare : (shape : List TypeShape) (t : ℕ) (n m : Seen) → bare n ≡ bare m → IsKept shape t m → IsKept shape t n
kept_bare shape t n m e k =
    let from : IsKept shape t (bare m) = record {
      row = record { first = k.row.first; rising = k.row.rising };
      width = k.width;
      slots = λ l. length-map m.inverse no_entry ∙ k.slots l;
      bare = λ j l. ap (map no_entry) (k.bare j l);
    } in
    let to : IsKept shape t (bare n) = subst (IsKept shape t) (sym e) from in
    record {
      row = record { first = to.row.first; rising = to.row.rising };
      width = to.width;
      slots = λ l. sym (length-map n.inverse no_entry) ∙ to.slots l;
      bare = λ j l. none_of_map no_entry n.inverse (to.bare j l);
    }

pub kept_at : (shape : List TypeShape) (t : ℕ) (nodes : List Seen) (i : ℕ) → AreKept shape t nodes → i < length nodes → IsKept shape t (node_at nodes i)
kept_at shape t nodes i k m = k.each i (node_at nodes i) (slice_get-get_or nodes i no_node m)

pub kept_from : (shape : List TypeShape) (t : ℕ) (nodes : List Seen) → ((i : ℕ) → i < length nodes → IsKept shape t (node_at nodes i)) → AreKept shape t nodes
kept_from shape t nodes h = record { each = λ i n e. subst (IsKept shape t) (get_or_from_slice_get nodes i n no_node e) (h i (slice_get_within nodes i n e)) }

pub kept_same : (shape : List TypeShape) (t : ℕ) (old new : List Seen) → map bare new ≡ map bare old → AreKept shape t old → AreKept shape t new
kept_same shape t old new e k = kept_from shape t new (λ i m.
    let count : length new ≡ length old = sym (length-map new bare) ∙ ap length e ∙ length-map old bare in
    kept_bare shape t (node_at new i) (node_at old i) (bare-at new old i e) (kept_at shape t old i k (omega (arith, count))))

-- ---- pointers to a node that began before

-- a pointer that is to hold x holds x itself
pub onto : (shape : List TypeShape) (t : ℕ) (w : Line) (x i g q : ℕ) → IsLine shape t w → w.first x < t → IsNewest w i → w.holds i g t ≡ Target q → newest w q ≡ x → q ≡ x
onto shape t w x i g q l before n e is =
    let v = l.newest i g q n e in
    elim (w.later q) as (λ (j : Option ℕ). w.later q ≡ j → onward j q ≡ x → q ≡ x) [
      | None ↦ λ h p. p
      | Some k ↦ λ h p. absurd (let f : w.first k ≡ t = v.2 k h in let fx : w.first k ≡ w.first x = ap w.first p in omega (arith, before))
    ] refl is

-- ---- the copy comes in

module _ (old mid : List Seen) (x t : ℕ) (contents : List Content) (there : x < length old) (h : IsHandedOver old mid x (length old) t contents) where
  abbrev z : ℕ
  z = length old

  abbrev left : Seen
  left = record (node_at old x) { later = Some z; inverse = [] }

  abbrev copy : Seen
  copy = copy_of (node_at old x) t contents

  set_length : length (set old x left) ≡ z
  set_length = length-set old x left

  pub mid_count : length mid ≡ suc z
  mid_count = ap length h.nodes ∙ pushed (set old x left) ∙ ap suc set_length
    where
      pushed : (xs : List Seen) → length (xs ++ copy ∷ []) ≡ suc (length xs)
      pushed [] = refl
      pushed (y ∷ ys) = ap suc (pushed ys)

  pub mid_x : node_at mid x ≡ left
  mid_x = ap (λ (xs : List Seen). get_or xs x no_node) h.nodes ∙ get_or_append_left (set old x left) (copy ∷ []) no_node x (omega (arith, set_length, there)) ∙ get_or-set_same old x left no_node there

  pub mid_other : (i : ℕ) → i < z → i ≢ x → node_at mid i ≡ node_at old i
  mid_other i m ne = ap (λ (xs : List Seen). get_or xs i no_node) h.nodes ∙ get_or_append_left (set old x left) (copy ∷ []) no_node i (omega (arith, set_length, m)) ∙ get_or-set_other old x i left no_node ne

  pub mid_z : node_at mid z ≡ copy
  mid_z = ap (λ (xs : List Seen). get_or xs z no_node) h.nodes ∙ ap (get_or_in (set old x left ++ copy ∷ [])) (sym set_length) ∙ get_or-append_seam (set old x left) copy [] no_node
    where
      get_or_in : List Seen → ℕ → Seen
      get_or_in xs i = get_or xs i no_node

  module _ (shape : List TypeShape) (made : ℕ → Bool) (k : AreKept shape t old) (l : IsLine shape t (line_of made old)) (newest_x : IsNewest (line_of (λ i. true) old) x)
      (before : (line_of (λ i. true) old).first x < t) (c : AreContents old x (length old) t contents) where
    abbrev w : Line
    w = line_of made old

    nx : IsNewest w x
    nx = record { there = newest_x.there; last = newest_x.last }

    kept_x : IsKept shape t (node_at old x)
    kept_x = kept_at shape t old x k there

    -- a field that holds a pointer is one of the type's
    below : (g q : ℕ) → w.holds x g t ≡ Target q → g < length contents
    below g q e =
        let kind : HasKind (type_at shape (w.ty x)) w.ty g (Target q) = subst (HasKind (type_at shape (w.ty x)) w.ty g) e (l.kinds x g t (omega arith) (last_covers shape t w x l nx)) in
        let type_is : w.ty x ≡ (node_at old x).ty = of-get (λ n. n.ty) old x in
        let more : g < element_count (type_at shape (w.ty x)) = (pointer_field (type_at shape (w.ty x)) g (w.ty q) kind).1 in
        omega (arith, subst (λ (u : TypeNo). g < element_count (type_at shape u)) type_is more, c.width, kept_x.width)

    -- what is held beyond the type's fields is null
    beyond : (g : ℕ) (d : Content) → w.holds x g t ≡ d → length contents ≤ g → d ≡ Null
    beyond g (Number v) e m =
        let kind : HasKind (type_at shape (w.ty x)) w.ty g (Number v) = subst (HasKind (type_at shape (w.ty x)) w.ty g) e (l.kinds x g t (omega arith) (last_covers shape t w x l nx)) in
        let type_is : w.ty x ≡ (node_at old x).ty = of-get (λ n. n.ty) old x in
        absurd (omega (arith, subst (λ (u : TypeNo). g < (type_at shape u).values) type_is kind, c.width, kept_x.width))
    beyond g Null e m = refl
    beyond g (TargetOf q) e m = absurd (let b = below g q.0 e in omega arith)

    holds_copy : (g : ℕ) → get_or contents g Null ≡ redirected w x z (w.holds x g t)
    holds_copy g = ⊎_elim
        (λ (m : g < length contents). c.each g m)
        (λ (m : length contents ≤ g). beyond_list contents g m ∙ sym (ap (redirected w x z) (beyond g (w.holds x g t) refl m)))
        (cases_lt g (length contents))
      where
        beyond_list : (xs : List Content) (g : ℕ) → length xs ≤ g → get_or xs g Null ≡ Null
        beyond_list [] g m = refl
        beyond_list (y ∷ ys) zero m = absurd (omega arith)
        beyond_list (y ∷ ys) (suc g) m = beyond_list ys g (omega arith)

    -- what the copy holds is there
    pub targets : (g y : ℕ) → base_of (node_at mid z) g ≡ Target y → y < length mid
    targets g y e =
        let held : redirected w x z (w.holds x g t) ≡ Target y = sym (holds_copy g) ∙ ap (λ (n : Seen). get_or n.base g Null) (sym mid_z) ∙ e in
        elim (redirected-target w x z y (w.holds x g t) held) [
          | inl p ↦ omega (arith, p.1, mid_count)
          | inr p ↦ let v = l.newest x g p.0 nx p.1 in omega (arith, v.1.there, p.3, mid_count)
        ]

    module _ (new : List Seen) (r : AreRenamed mid new x (length old) (IsTargetBelow (node_at mid (length old)) (length (node_at mid (length old)).base))) where
      part : {A : Type 0} (f : Seen → A) → ((n : Seen) → f (bare n) ≡ f n) → (i : ℕ) → f (node_at new i) ≡ f (node_at mid i)
      part f b i = sym (b (node_at new i)) ∙ ap f (bare-at new mid i r.same) ∙ b (node_at mid i)

      field : {A : Type 0} (f : Seen → A) → ((n : Seen) → f (bare n) ≡ f n) → f left ≡ f (node_at old x) → (i : ℕ) → i < z → of_node f (f no_node) new i ≡ of_node f (f no_node) old i
      field f b s i m = of-get f new i ∙ part f b i ∙ ⊎_elim
          (λ (p : i ≡ x). ap (λ (i : ℕ). f (node_at mid i)) p ∙ ap f mid_x ∙ s ∙ ap (λ (i : ℕ). f (node_at old i)) (sym p))
          (λ (p : i ≡ x → ⊥). ap f (mid_other i m p))
          (cases_eq i x) ∙ sym (of-get f old i)

      field_z : {A : Type 0} (f : Seen → A) → ((n : Seen) → f (bare n) ≡ f n) → of_node f (f no_node) new z ≡ f copy
      field_z f b = of-get f new z ∙ part f b z ∙ ap f mid_z

      pub copied_count : length new ≡ suc z
      copied_count = sym (length-map new bare) ∙ ap length r.same ∙ length-map mid bare ∙ mid_count

      -- where an entry is of x, the copy holds the node that has it
      touch : (y s g i : ℕ) → IsNewest w y → w.entry y s ≡ Some (x, g) → ((y ≡ x) × (i ≡ z)) ⊎ ((y ≢ x) × (i ≡ y)) → IsTargetBelow (node_at mid z) (length (node_at mid z).base) i
      touch y s g i n e goes =
          let b = l.matched.back y s x g n e in
          let q = b.1.0 in
          let same : (node_at mid z).base ≡ contents = ap (λ (n : Seen). n.base) mid_z in
          let held : redirected w x z (Target q) ≡ Target i = elim goes [
            | inl p ↦ ap (λ (q : ℕ). redirected w x z (Target q)) (onto shape t w x x g q l before nx b.1.1 (b.1.2 ∙ p.0)) ∙ redirected-x w x z ∙ ap Target (sym p.1)
            | inr p ↦ redirected-other w x z q (λ (is : q ≡ x). p.0 (sym b.1.2 ∙ ap (newest w) is ∙ ap (λ j. onward j x) nx.last)) ∙ ap Target (b.1.2 ∙ sym p.1)
          ] in
          record {
            field = g;
            below = subst (λ (xs : List Content). g < length xs) (sym same) (below g q b.1.1);
            holds = ap (λ (xs : List Content). get_or xs g Null) same ∙ holds_copy g ∙ ap (redirected w x z) b.1.1 ∙ held;
          }

      entry_moved : (y s i : ℕ) → IsNewest w y → ((y ≡ x) × (i ≡ z)) ⊎ ((y ≢ x) × (i ≡ y)) → entry_of (node_at mid i) s ≡ w.entry y s → entry_of (node_at new i) s ≡ moved x z (w.entry y s)
      entry_moved y s i n goes same = elim (w.entry y s) as (λ (o : Option (ℕ × ℕ)). w.entry y s ≡ o → entry_of (node_at mid i) s ≡ o → entry_of (node_at new i) s ≡ moved x z o) [
        | None ↦ λ e f. elim (r.others i s) [ inl a ↦ a ∙ ap (moved x z) f | inr a ↦ a ∙ f ]
        | Some o ↦ λ e f. ⊎_elim
            (λ (p : o.0 ≡ x).
            let entry : w.entry y s ≡ Some (x, o.1) = e ∙ ap (λ (k : ℕ). Some (k, o.1)) p in
            r.touched i s (touch y s o.1 i n entry goes) ∙ ap (moved x z) f)
            (λ (p : o.0 ≡ x → ⊥). elim (r.others i s) [ inl a ↦ a ∙ ap (moved x z) f | inr a ↦ a ∙ f ∙ sym (moved-other x z o.0 o.1 p) ])
            (cases_eq o.0 x)
      ] refl same

      -- an older node has no entries
      old_entry : (y s : ℕ) → y < z → y ≢ x → entry_of (node_at new y) s ≡ moved x z (w.entry y s)
      old_entry y s m ne = elim (w.later y) as (λ (j : Option ℕ). w.later y ≡ j → entry_of (node_at new y) s ≡ moved x z (w.entry y s)) [
        | None ↦ λ e. entry_moved y s y (record { there = m; last = e }) (inr (ne, refl)) (ap (λ (n : Seen). entry_of n s) (mid_other y m ne) ∙ sym (of-get (λ n. entry_of n s) old y))
        | Some j ↦ λ e.
            let none : (node_at old y).inverse ≡ [] = (kept_at shape t old y k m).bare j (sym (of-get (λ n. n.later) old y) ∙ e) in
            let was : w.entry y s ≡ None = of-get (λ n. entry_of n s) old y ∙ ap (λ (es : List (Option Entry)). pair_of (get_or es s None)) none in
            let mid_is : entry_of (node_at mid y) s ≡ None = ap (λ (n : Seen). entry_of n s) (mid_other y m ne) ∙ sym (of-get (λ n. entry_of n s) old y) ∙ was in
            elim (r.others y s) [ inl a ↦ a ∙ ap (moved x z) (mid_is ∙ sym was) | inr a ↦ a ∙ mid_is ∙ sym (ap (moved x z) was) ]
      ] refl

      pub copied : (mark : ℕ → Bool) → IsCopied (line_of mark old) (line_of mark new) x t
      copied mark = record {
        newest = record { there = newest_x.there; last = newest_x.last };
        before = before;
        count = copied_count;
        home = λ i m. field (λ n. n.home) (λ n. refl) refl i m;
        name = λ i m. field (λ n. n.name) (λ n. refl) refl i m;
        ty = λ i m. field (λ n. n.ty) (λ n. refl) refl i m;
        made = λ i m. ap mark (field (λ n. n.home) (λ n. refl) refl i m);
        first = λ i m. field (λ n. n.first) (λ n. refl) refl i m;
        later = λ i m ne. of-get (λ n. n.later) new i ∙ part (λ n. n.later) (λ n. refl) i ∙ ap (λ (n : Seen). n.later) (mid_other i m ne) ∙ sym (of-get (λ n. n.later) old i);
        later_x = of-get (λ n. n.later) new x ∙ part (λ n. n.later) (λ n. refl) x ∙ ap (λ (n : Seen). n.later) mid_x;
        stamped = λ i m. field (λ n. length n.stamped) (λ n. refl) refl i m;
        holds = λ i g n m. field (λ d. holds d g n) (λ d. refl) refl i m;
        since = λ i g m. field (λ d. since d g) (λ d. refl) refl i m;
        entry = λ y s m ne. of-get (λ d. entry_of d s) new y ∙ old_entry y s m ne;
        home_z = field_z (λ n. n.home) (λ n. refl) ∙ sym (of-get (λ n. n.home) old x);
        name_z = field_z (λ n. n.name) (λ n. refl) ∙ sym (of-get (λ n. n.name) old x);
        ty_z = field_z (λ n. n.ty) (λ n. refl) ∙ sym (of-get (λ n. n.ty) old x);
        made_z = ap mark (field_z (λ n. n.home) (λ n. refl) ∙ sym (of-get (λ n. n.home) old x));
        first_z = field_z (λ n. n.first) (λ n. refl);
        later_z = field_z (λ n. n.later) (λ n. refl);
        stamped_z = field_z (λ n. length n.stamped) (λ n. refl);
        holds_z = λ g n. field_z (λ d. holds d g n) (λ d. refl) ∙ holds_copy g;
        since_z = λ g. field_z (λ d. since d g) (λ d. refl);
        entry_z = λ s. of-get (λ d. entry_of d s) new z ∙ entry_moved x s z nx (inl (refl, refl)) (ap (λ (n : Seen). entry_of n s) mid_z ∙ sym (of-get (λ d. entry_of d s) old x));
      }

      pub copied_kept : (shape : List TypeShape) → AreKept shape t old → (line_of (λ i. true) old).later x ≡ None → (line_of (λ i. true) old).first x < t → AreContents old x (length old) t contents → AreKept shape t new
      copied_kept shape k last before c = kept_same shape t mid new r.same (kept_from shape t mid (λ i m.
          let b : IsKept shape t (node_at old x) = kept_at shape t old x k there in
          ⊎_elim
          (λ (p : i ≡ z). subst (IsKept shape t) (sym (ap (node_at mid) p ∙ mid_z)) (record {
            row = record { first = omega arith; rising = tt };
            width = c.width ∙ b.width;
            slots = λ e. b.slots (sym (of-get (λ n. n.later) old x) ∙ last);
            bare = λ j e. absurd (cc);
          }))
          (λ (p : i ≡ z → ⊥).
          ⊎_elim
          (λ (q : i ≡ x). subst (IsKept shape t) (sym (ap (node_at mid) q ∙ mid_x)) (record {
            row = record { first = b.row.first; rising = b.row.rising };
            width = b.width;
            slots = λ e. absurd (cc);
            bare = λ j e. refl;
          }))
          (λ (q : i ≡ x → ⊥). let low : i < z = omega (arith, m, mid_count, p) in subst (IsKept shape t) (sym (mid_other i low q)) (kept_at shape t old i k low))
          (cases_eq i x))
          (cases_eq i z)))

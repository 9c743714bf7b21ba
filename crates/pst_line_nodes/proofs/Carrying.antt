-- Copies and redirections, one after another.
use Rattle.std.proofs.Common.{◌≡◌, ℕ, ◌+◌, ◌<◌, ◌≤◌, List, Some, None, refl, sym, ap, ◌∙◌, ◌⊎◌, inl, inr, ⊎_elim, arith}
use Rattle.std.proofs.lemmas.Bool.{cases_lt, cases_eq}
use Rattle.pst_base.specs.declared.names.TypeNo.{TypeNo}
use Rattle.pst_base.specs.declared.shape.TypeShape.{TypeShape}
use Rattle.pst_base.specs.Shape.{type_at}
use Rattle.pst_line_nodes.specs.declared.content.Content.{Content}
use Rattle.pst_line_nodes.specs.Line.{Line, IsNewest, IsLine, most}
use Rattle.pst_line_nodes.specs.Changes.{IsSet, IsCopied, IsRedirected}
use Rattle.pst_line_nodes.specs.Carried.{Went, IsCarried}
use Rattle.pst_line_nodes.proofs.Same.{same_field}
use Rattle.pst_line_nodes.proofs.Writes.{redirect_law}
use Rattle.pst_line_nodes.proofs.Copy.{copy_law}

-- ---- nodes stay what they are

pub went_set : (old new : Line) (x f t k : ℕ) (c : Content) → IsSet old new x f t c k → Went old new t
went_set old new x f t k c d = record {
  nodes = record {
    count = omega (arith, d.nodes.count);
    home = λ i m. d.nodes.home i;
    name = λ i m. d.nodes.name i;
    ty = λ i m. d.nodes.ty i;
    first = λ i m. d.nodes.first i;
    since = λ h g s j n e. elim (same_field j g x f) [
      | inl p ↦ ap (λ i. new.since i g) p.0 ∙ ap (new.since x) p.1 ∙ d.since
      | inr ne ↦ d.other_since j g ne ∙ s j (record { there = omega (arith, n.there, d.nodes.count); last = sym (d.nodes.later j) ∙ n.last }) (sym (d.nodes.home j) ∙ e)
    ];
  };
  copied = λ i m n. absurd (omega (arith, d.nodes.count));
}

pub went_copied : (old new : Line) (x t : ℕ) → IsCopied old new x t → Went old new t
went_copied old new x t d = record {
  nodes = record {
    count = omega (arith, d.count);
    home = d.home;
    name = d.name;
    ty = d.ty;
    first = d.first;
    since = λ h g s j n e. ⊎_elim
        (λ (m : j < old.count). ⊎_elim
        (λ (p : j ≡ x). absurd (let no : None ≡ Some old.count = sym n.last ∙ ap new.later p ∙ d.later_x in cc))
        (λ (ne : j ≡ x → ⊥). d.since j g m ∙ s j (record { there = m; last = sym (d.later j m ne) ∙ n.last }) (sym (d.home j m) ∙ e))
        (cases_eq j x))
        (λ (m : old.count ≤ j). let z : j ≡ old.count = omega (arith, d.count, n.there) in ap (λ i. new.since i g) z ∙ d.since_z g)
        (cases_lt j old.count);
  };
  copied = λ i m n. let z : i ≡ old.count = omega (arith, d.count) in record { from = x; there = d.newest.there; home = ap new.home z ∙ d.home_z; before = d.before };
}

pub went_trans : (a b c : Line) (t : ℕ) → Went a b t → Went b c t → Went a c t
went_trans a b c t one two =
    let p = one.nodes in
    let q = two.nodes in
    record {
      nodes = record {
        count = omega (arith, p.count, q.count);
        home = λ i m. q.home i (omega (arith, p.count)) ∙ p.home i m;
        name = λ i m. q.name i (omega (arith, p.count)) ∙ p.name i m;
        ty = λ i m. q.ty i (omega (arith, p.count)) ∙ p.ty i m;
        first = λ i m. q.first i (omega (arith, p.count)) ∙ p.first i m;
        since = λ h g s. q.since h g (p.since h g s);
      };
      copied = λ i m n. ⊎_elim
          (λ (l : i < b.count). let o = one.copied i m l in record { from = o.from; there = o.there; home = q.home i l ∙ o.home; before = o.before })
          (λ (l : b.count ≤ i).
          let o = two.copied i l n in
          ⊎_elim
          (λ (k : o.from < a.count). record { from = o.from; there = k; home = o.home ∙ p.home o.from k; before = omega (arith, o.before, p.first o.from k) })
          (λ (k : a.count ≤ o.from). let e = one.copied o.from k o.there in record { from = e.from; there = e.there; home = o.home ∙ e.home; before = e.before })
          (cases_lt o.from a.count))
          (cases_lt i b.count);
    }

-- ---- no heap changes

pub carried_itself : (shape : List TypeShape) (t : ℕ) (w : Line) → IsLine shape t w → IsCarried shape t w w
carried_itself shape t w l = record {
  line = l;
  stay = record { heaps = λ n m. refl; live = λ i n m h. (h, refl) };
  heap = refl;
  within = omega arith;
  went = record {
    nodes = record { count = omega arith; home = λ i m. refl; name = λ i m. refl; ty = λ i m. refl; first = λ i m. refl; since = λ h g s. s };
    copied = λ i m n. absurd (omega arith);
  };
  small = λ s. s;
}

pub carried_trans : (shape : List TypeShape) (t : ℕ) (a b c : Line) → IsCarried shape t a b → IsCarried shape t b c → IsCarried shape t a c
carried_trans shape t a b c one two = record {
  line = two.line;
  stay = record {
    heaps = λ n m. two.stay.heaps n m ∙ one.stay.heaps n m;
    live = λ i n m h. let p = one.stay.live i n m h in let q = two.stay.live i n m p.0 in (q.0, q.1 ∙ p.1);
  };
  heap = two.heap ∙ one.heap;
  within = omega (arith, one.within, two.within);
  went = went_trans a b c t one.went two.went;
  small = λ s. two.small (one.small s);
}

pub carried_copied : (shape : List TypeShape) (t : ℕ) (old new : Line) (x : ℕ) → IsLine shape t old → IsCopied old new x t → most (type_at shape (old.ty x)) ≤ old.stamped x → IsCarried shape t old new
carried_copied shape t old new x l d full =
    let a = copy_law shape old new x t l d full in
    record {
      line = a.0;
      stay = a.1;
      heap = a.2;
      within = a.3;
      went = went_copied old new x t d;
      small = λ s i m. ⊎_elim
          (λ (p : i < old.count). omega (arith, s i p, d.stamped i p, ap (λ (u : TypeNo). most (type_at shape u)) (d.ty i p)))
          (λ (p : old.count ≤ i). let is : i ≡ old.count = omega (arith, d.count) in omega (arith, ap new.stamped is, d.stamped_z))
          (cases_lt i old.count);
    }

pub carried_redirected : (shape : List TypeShape) (t : ℕ) (old new : Line) (x f y z k : ℕ) → IsLine shape t old → IsNewest old x → IsRedirected old new x f t y z k → (k ≡ 0) ⊎ (old.stamped x < most (type_at shape (old.ty x))) → IsCarried shape t old new
carried_redirected shape t old new x f y z k l n d room =
    let a = redirect_law shape old new x f t y z k l n d in
    record {
      line = a.0;
      stay = a.1;
      heap = a.2;
      within = a.3;
      went = went_set old new x f t k _ d.set;
      small = λ s i m.
          let there : i < old.count = omega (arith, d.set.nodes.count) in
          let type_is = ap (λ (u : TypeNo). most (type_at shape u)) (d.set.nodes.ty i) in
          ⊎_elim
          (λ (p : i ≡ x).
          let was : old.stamped i ≡ old.stamped x = ap old.stamped p in
          let now : new.stamped i ≡ old.stamped x + k = ap new.stamped p ∙ d.set.stamped in
          let same : most (type_at shape (old.ty i)) ≡ most (type_at shape (old.ty x)) = ap (λ (i : ℕ). most (type_at shape (old.ty i))) p in
          elim room [
            | inl none ↦ omega (arith, s i there, was, now, type_is)
            | inr less ↦ omega (arith, now, type_is, same, d.set.most)
          ])
          (λ (p : i ≡ x → ⊥). omega (arith, s i there, d.set.other_stamped i p, type_is))
          (cases_eq i x);
    }

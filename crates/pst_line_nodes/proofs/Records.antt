-- The node of a new record comes in.
use Rattle.std.proofs.Common.{◌≡◌, ℕ, zero, suc, ◌<◌, ◌≤◌, Bool, true, List, [], ◌∷◌, ◌++◌, length, get_or, replicate, Option, Some, None, refl, sym, ap, ◌∙◌, subst, ⊎_elim, arith}
use Rattle.std.proofs.lemmas.Bool.{cases_lt}
use Rattle.std.proofs.lemmas.List.{get_or_append_left, length-replicate}
use Rattle.std.proofs.Math.Seq.{get_or-append_seam}
use Rattle.pst_base.specs.declared.names.Name.{Name}
use Rattle.pst_base.specs.declared.names.TypeNo.{TypeNo}
use Rattle.pst_base.specs.declared.shape.TypeShape.{TypeShape}
use Rattle.pst_base.specs.Shape.{type_at, element_count}
use Rattle.pst_line_nodes.specs.declared.content.StampedContent.{StampedContent}
use Rattle.pst_line_nodes.specs.declared.content.Entry.{Entry}
use Rattle.pst_line_nodes.specs.Seen.{Seen}
use Rattle.pst_line_nodes.specs.Rows.{holds, since, held, since_in, base_of, AreRising}
use Rattle.pst_line_nodes.specs.Nodes.{of_node, entry_of, pair_of, line_of, IsKept, AreKept}
use Rattle.pst_line_nodes.specs.Changes.{IsMade}
use Rattle.pst_line_nodes.specs.Copying.{no_node, node_at}
use Rattle.pst_line_nodes.specs.Making.{IsNewNode}
use Rattle.pst_line_nodes.proofs.Copying.{of-get, kept_at, kept_from}

module _ (shape : List TypeShape) (old new : List Seen) (n : Seen) (name : Name) (ty : TypeNo) (t : ℕ) (is : new ≡ old ++ n ∷ []) (d : IsNewNode (type_at shape ty) name ty (length old) t n) where
  abbrev z : ℕ
  z = length old

  pub new_count : length new ≡ suc z
  new_count = ap length is ∙ pushed old
    where
      pushed : (xs : List Seen) → length (xs ++ n ∷ []) ≡ suc (length xs)
      pushed [] = refl
      pushed (y ∷ ys) = ap suc (pushed ys)

  at_z : node_at new z ≡ n
  at_z = ap (λ (xs : List Seen). get_or xs z no_node) is ∙ get_or-append_seam old n [] no_node

  at_other : (i : ℕ) → i < z → node_at new i ≡ node_at old i
  at_other i m = ap (λ (xs : List Seen). get_or xs i no_node) is ∙ get_or_append_left old (n ∷ []) no_node i m

  field : {A : Type 0} (f : Seen → A) (i : ℕ) → i < z → of_node f (f no_node) new i ≡ of_node f (f no_node) old i
  field f i m = of-get f new i ∙ ap f (at_other i m) ∙ sym (of-get f old i)

  field_z : {A : Type 0} (f : Seen → A) → of_node f (f no_node) new z ≡ f n
  field_z f = of-get f new z ∙ ap f at_z

  pub made_one : (made : ℕ → Bool) → made z ≡ true → IsMade shape (line_of made old) (line_of made new) name ty t
  made_one made now = record {
    count = new_count;
    home = λ i m. field (λ n. n.home) i m;
    name = λ i m. field (λ n. n.name) i m;
    ty = λ i m. field (λ n. n.ty) i m;
    made = λ i m. ap made (field (λ n. n.home) i m);
    first = λ i m. field (λ n. n.first) i m;
    later = λ i m. field (λ n. n.later) i m;
    stamped = λ i m. field (λ n. length n.stamped) i m;
    holds = λ i g k m. field (λ n. holds n g k) i m;
    since = λ i g m. field (λ n. since n g) i m;
    entry = λ y s m. field (λ n. entry_of n s) y m;
    home_z = field_z (λ n. n.home) ∙ d.home;
    name_z = field_z (λ n. n.name) ∙ d.name_is;
    ty_z = field_z (λ n. n.ty) ∙ d.ty_is;
    made_z = ap made (field_z (λ n. n.home) ∙ d.home) ∙ now;
    first_z = field_z (λ n. n.first) ∙ d.first;
    later_z = field_z (λ n. n.later) ∙ d.later;
    stamped_z = field_z (λ n. length n.stamped) ∙ ap length d.stamped;
    holds_z = λ g k. field_z (λ n. holds n g k) ∙ ap (λ (xs : List StampedContent). held xs g k (base_of n g)) d.stamped ∙ d.base.each g;
    since_z = λ g. field_z (λ n. since n g) ∙ ap (λ (xs : List StampedContent). since_in xs g n.first) d.stamped ∙ d.first;
    entry_z = λ s. field_z (λ n. entry_of n s) ∙ ap (λ (es : List (Option Entry)). pair_of (get_or es s None)) d.inverse ∙ ap pair_of (none_at (type_at shape ty).limit s);
  }
    where
      none_at : (k s : ℕ) → get_or (replicate {A = Option Entry} k None) s None ≡ None
      none_at zero s = refl
      none_at (suc k) zero = refl
      none_at (suc k) (suc s) = none_at k s

  pub made_kept : AreKept shape t old → AreKept shape t new
  made_kept k = kept_from shape t new (λ i m. ⊎_elim
      (λ (p : i < z). subst (IsKept shape t) (sym (at_other i p)) (kept_at shape t old i k p))
      (λ (p : z ≤ i).
      let same : i ≡ z = omega (arith, m, new_count) in
      subst (IsKept shape t) (sym (ap (node_at new) same ∙ at_z)) (record {
        row = record { first = omega (arith, d.first); rising = subst (AreRising n.first t) (sym d.stamped) tt };
        width = d.base.width ∙ ap (λ (u : TypeNo). element_count (type_at shape u)) (sym d.ty_is);
        slots = λ e. ap length d.inverse ∙ length-replicate (type_at shape ty).limit None ∙ ap (λ (u : TypeNo). (type_at shape u).limit) (sym d.ty_is);
        bare = λ j e. absurd (let no : None ≡ Some j = sym d.later ∙ e in cc);
      }))
      (cases_lt i z))

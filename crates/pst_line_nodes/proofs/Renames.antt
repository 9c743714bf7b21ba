-- The entries of a copied node become entries of its copy.
use Rattle.std.proofs.Common.{◌≡◌, ◌≢◌, ℕ, ◌+◌, ◌<◌, ◌≤◌, Bool, true, false, cond, eqb, List, [], ◌∷◌, length, map, get_or, Option, Some, None, refl, sym, ap, ◌∙◌, inl, inr, ⊎_elim, arith}
use Rattle.std.proofs.Math.ListN.{set}
use Rattle.std.proofs.Math.Seq.{map-set_same}
use Rattle.std.proofs.lemmas.Bool.{cases_eq, cases_lt}
use Rattle.std.proofs.lemmas.List.{get_or-set_same, get_or-set_other, length-map}
use Rattle.pst_line_nodes.specs.declared.content.Content.{Content}
use Rattle.pst_line_nodes.specs.Contents.{Target}
use Rattle.pst_line_nodes.specs.declared.content.Entry.{Entry}
use Rattle.pst_line_nodes.specs.Seen.{Seen}
use Rattle.pst_line_nodes.specs.Rows.{base_of}
use Rattle.pst_line_nodes.specs.Nodes.{entry_of, pair_of, entry_renamed}
use Rattle.pst_line_nodes.specs.Changes.{moved}
use Rattle.pst_line_nodes.specs.Copying.{no_node, no_entry, node_at, bare, AreRenamed, IsTargetBelow}
use Rattle.pst_line_nodes.proofs.Contents.{one_target}
use Rattle.pst_line_nodes.proofs.Lists.{get_or-any, get_or-map}
use Rattle.pst_line_nodes.proofs.Copy.{moved-x, moved-other}
use Rattle.pst_line_nodes.proofs.Copying.{bare-at}

pub count_kept : (old new : List Seen) → map bare new ≡ map bare old → length new ≡ length old
count_kept old new e = sym (length-map new bare) ∙ ap length e ∙ length-map old bare

pub base_kept : (old new : List Seen) (i : ℕ) → map bare new ≡ map bare old → (node_at new i).base ≡ (node_at old i).base
base_kept old new i e = ap (λ (n : Seen). n.base) (bare-at new old i e)

none_map : (f : Option Entry → Option Entry) (es : List (Option Entry)) → map no_entry (map f es) ≡ map no_entry es
none_map f [] = refl
none_map f (e ∷ es) = ap (λ (ds : List (Option Entry)). None ∷ ds) (none_map f es)

-- a node whose entries are changed one by one is otherwise what it was
pub bare-map : (f : Option Entry → Option Entry) (n : Seen) → bare (record n { inverse = map f n.inverse }) ≡ bare n
bare-map f n = ap (λ (es : List (Option Entry)). record n { inverse = es }) (none_map f n.inverse)

pub bare-set : (f : Option Entry → Option Entry) (old xs : List Seen) (y : ℕ) (n m : Seen) → xs ≡ old → y < length old → n ≡ get_or xs y n → m ≡ record n { inverse = map f n.inverse } → map bare (set xs y m) ≡ map bare old
bare-set f old xs y n m is there at made = map-set_same bare xs y m n (ap bare made ∙ bare-map f n ∙ ap bare at) ∙ ap (map bare) is

pub set_there : (f : Option Entry → Option Entry) (old xs : List Seen) (y s : ℕ) (n m : Seen) → f None ≡ None → xs ≡ old → y < length old → n ≡ get_or xs y n → m ≡ record n { inverse = map f n.inverse } → get_or (node_at (set xs y m) y).inverse s None ≡ f (get_or (node_at old y).inverse s None)
set_there f old xs y s n m none is there at made =
    let own : n ≡ node_at old y = at ∙ ap (λ (zs : List Seen). get_or zs y n) is ∙ get_or-any old y n no_node there in
    let within : y < length xs = omega (arith, there, ap length is) in
    ap (λ (d : Seen). get_or d.inverse s None) (get_or-set_same xs y m no_node within ∙ made) ∙ get_or-map f n.inverse s None None none ∙ ap (λ (d : Seen). f (get_or d.inverse s None)) own

pub set_elsewhere : (old xs : List Seen) (y i : ℕ) (m : Seen) → xs ≡ old → i ≢ y → node_at (set xs y m) i ≡ node_at old i
set_elsewhere old xs y i m is ne = get_or-set_other xs y i m no_node ne ∙ ap (λ (zs : List Seen). get_or zs i no_node) is

pair_renamed : (x z : ℕ) (e : Option Entry) → pair_of (entry_renamed x z e) ≡ moved x z (pair_of e)
pair_renamed x z None = refl
pair_renamed x z (Some e) = elim (eqb e.node.0 x) as (λ (b : Bool). pair_of (cond b (Some (record { node = record { 0 = z }; slot = e.slot })) (Some e)) ≡ cond b (Some (z, e.slot.0)) (Some (e.node.0, e.slot.0))) [ true ↦ refl | false ↦ refl ]

-- the entries of one node are renamed
pub renamed_one : (old xs : List Seen) (y x z : ℕ) (n m : Seen) (content : Content) → xs ≡ old → y < length old → n ≡ get_or xs y n → m ≡ record n { inverse = map (entry_renamed x z) n.inverse } → content ≡ Target y → AreRenamed old (set xs y m) x z (λ i. content ≡ Target i)
renamed_one old xs y x z n m content is there at made held = record {
  same = bare-set (entry_renamed x z) old xs y n m is there at made;
  touched = λ i s e.
      let both : Target y ≡ Target i = sym held ∙ e in
      let same : y ≡ i = one_target y i both in
      ap (λ (i : ℕ). entry_of (node_at (set xs y m) i) s) (sym same) ∙ own s ∙ ap (λ (i : ℕ). moved x z (entry_of (node_at old i) s)) same;
  others = λ i s. ⊎_elim
      (λ (p : i ≡ y). inl (ap (λ (i : ℕ). entry_of (node_at (set xs y m) i) s) p ∙ own s ∙ ap (λ (i : ℕ). moved x z (entry_of (node_at old i) s)) (sym p)))
      (λ (p : i ≡ y → ⊥). inr (ap (λ (d : Seen). entry_of d s) (set_elsewhere old xs y i m is p)))
      (cases_eq i y);
}
  where
    own : (s : ℕ) → entry_of (node_at (set xs y m) y) s ≡ moved x z (entry_of (node_at old y) s)
    own s = ap pair_of (set_there (entry_renamed x z) old xs y s n m refl is there at made) ∙ pair_renamed x z (get_or (node_at old y).inverse s None)

idle : (x z : ℕ) (e : Option (ℕ × ℕ)) → z ≢ x → moved x z (moved x z e) ≡ moved x z e
idle x z None ne = refl
idle x z (Some e) ne = ⊎_elim
    (λ (p : e.0 ≡ x). let is : moved x z (Some e) ≡ Some (z, e.1) = ap (λ (k : ℕ). moved x z (Some (k, e.1))) p ∙ moved-x x z e.1 in ap (moved x z) is ∙ moved-other x z z e.1 ne ∙ sym is)
    (λ (p : e.0 ≡ x → ⊥). ap (moved x z) (moved-other x z e.0 e.1 p))
    (cases_eq e.0 x)

-- one node more
pub renamed_more : (a b c : List Seen) (x z : ℕ) (content : Content) (n : Seen) (k : ℕ) → z ≢ x → AreRenamed a b x z (IsTargetBelow n k) → AreRenamed b c x z (λ i. content ≡ Target i) → content ≡ base_of n k → AreRenamed a c x z (IsTargetBelow n (k + 1))
renamed_more a b c x z content n k ne one two is = record {
  same = two.same ∙ one.same;
  touched = λ i s h. ⊎_elim
      (λ (m : h.field < k). then_maybe i s (one.touched i s (record { field = h.field; below = m; holds = h.holds })))
      (λ (m : k ≤ h.field).
      let at : k ≡ h.field = omega (arith, h.below) in
      let now = two.touched i s (is ∙ ap (base_of n) at ∙ h.holds) in
      elim (one.others i s) [ inl e ↦ now ∙ ap (moved x z) e ∙ idle x z (entry_of (node_at a i) s) ne | inr e ↦ now ∙ ap (moved x z) e ])
      (cases_lt h.field k);
  others = λ i s. elim (one.others i s) [
    | inl e ↦ inl (then_maybe i s e)
    | inr e ↦ elim (two.others i s) [ inl f ↦ inl (f ∙ ap (moved x z) e) | inr f ↦ inr (f ∙ e) ]
  ];
}
  where
    then_maybe : (i s : ℕ) → entry_of (node_at b i) s ≡ moved x z (entry_of (node_at a i) s) → entry_of (node_at c i) s ≡ moved x z (entry_of (node_at a i) s)
    then_maybe i s e = elim (two.others i s) [ inl f ↦ f ∙ ap (moved x z) e ∙ idle x z (entry_of (node_at a i) s) ne | inr f ↦ f ∙ e ]

pub renamed_all : (a b : List Seen) (x z : ℕ) (n : Seen) (k m : ℕ) → m ≤ k → AreRenamed a b x z (IsTargetBelow n k) → AreRenamed a b x z (IsTargetBelow n m)
renamed_all a b x z n k m le r = record { same = r.same; touched = λ i s h. r.touched i s (record { field = h.field; below = omega (arith, h.below); holds = h.holds }); others = r.others }

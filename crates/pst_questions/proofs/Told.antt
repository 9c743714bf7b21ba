-- Heaps with equal lines are renamed into one another.
use Rattle.std.proofs.Common.{◌≡◌, ℕ, suc, List, [], ◌∷◌, map, length, get_or, Option, Some, None, refl, sym, ap, ◌∙◌, arith}
use Rattle.std.specs.Prelude.{slice_get}
use Rattle.std.specs.Option.{option_map}
use Rattle.std.specs.FinMap.{get}
use Rattle.std.proofs.lemmas.List.{length-map}
use Rattle.std.proofs.lemmas.Option.{slice_get-map, slice_get_within, slice_get-get_or, get_or_from_slice_get}
use Rattle.pst_base.specs.declared.names.Name.{Name}
use Rattle.pst_base.specs.declared.shape.TypeShape.{TypeShape}
use Rattle.pst_base.specs.Name.{root_name}
use Rattle.pst_base.specs.Heap.{Rec, Heap, IsWellFormed}
use Rattle.pst_questions.specs.Paths.{AreNumbered}
use Rattle.pst_questions.specs.Dump.{Line, number_in, line_of, lines_of}
use Rattle.pst_questions.specs.Renaming.{IsReached, renamed, IsRenaming}
use Rattle.pst_questions.proofs.Reached.{reached_listed, number_reached, one_place, root_first, reached_pointer, reached_found}

-- the record that has the same number in the other list
abbrev pub counterpart : (names others : List Name) → Name → Name
counterpart names others n = get_or others (number_in names n) root_name

-- a target with the same number
one_target : (names others : List Name) (p q : Option Name) → option_map (number_in names) p ≡ option_map (number_in others) q
    → ((m : Name) → q ≡ Some m → slice_get others (number_in others m) ≡ Some m) → q ≡ option_map (counterpart names others) p
one_target names others None None e listed = refl
one_target names others None (Some m) e listed = absurd (cc)
one_target names others (Some n) None e listed = absurd (cc)
one_target names others (Some n) (Some m) e listed =
    let same : number_in names n ≡ number_in others m = cc in
    ap Some (sym (ap (λ k. get_or others k root_name) same ∙ get_or_from_slice_get others (number_in others m) m root_name (listed m refl)))

-- targets with equal numbers
same_targets : (names others : List Name) (ps qs : List (Option Name))
    → map (option_map (number_in names)) ps ≡ map (option_map (number_in others)) qs
    → ((k : ℕ) (m : Name) → get_or qs k None ≡ Some m → slice_get others (number_in others m) ≡ Some m)
    → qs ≡ map (option_map (counterpart names others)) ps
same_targets names others [] [] e listed = refl
same_targets names others [] (q ∷ qs) e listed = absurd (cc)
same_targets names others (p ∷ ps) [] e listed = absurd (cc)
same_targets names others (p ∷ ps) (q ∷ qs) e listed =
    let first = one_target names others p q (let s : option_map (number_in names) p ≡ option_map (number_in others) q = cc in s) (λ m is. listed 0 m is) in
    let rest = same_targets names others ps qs (let s : map (option_map (number_in names)) ps ≡ map (option_map (number_in others)) qs = cc in s) (λ k m is. listed (suc k) m is) in
    λ i. first i ∷ rest i

same_record : (names others : List Name) (r q : Rec) → line_of names (Some r) ≡ line_of others (Some q)
    → ((k : ℕ) (m : Name) → get_or q.pointers k None ≡ Some m → slice_get others (number_in others m) ≡ Some m) → q ≡ renamed (counterpart names others) r
same_record names others r q e listed =
    let pointers = same_targets names others r.pointers q.pointers (ap (λ (l : Line). l.targets) e) listed in
    let ty : q.ty ≡ r.ty = sym (ap (λ (l : Line). l.ty) e) in
    let values : q.values ≡ r.values = sym (ap (λ (l : Line). l.values) e) in
    λ i. record { ty = ty i; values = values i; pointers = pointers i }

-- items at one place of two lists that are equal once they are mapped
same_at : {X Y Z : Type 0} (f : X → Z) (g : Y → Z) (xs : List X) (ys : List Y) (i : ℕ) (x : X) (y : Y) → map f xs ≡ map g ys → slice_get xs i ≡ Some x → slice_get ys i ≡ Some y → f x ≡ g y
same_at f g xs ys i x y e at_x at_y =
    let left = slice_get-map f xs i ∙ ap (option_map f) at_x in
    let right = slice_get-map g ys i ∙ ap (option_map g) at_y in
    let both : Some (f x) ≡ Some (g y) = sym left ∙ ap (λ l. slice_get l i) e ∙ right in
    cc

module _ (shape : List TypeShape) (h g : Heap) (names others : List Name) (w : IsWellFormed shape h) (v : IsWellFormed shape g)
    (a : AreNumbered h names) (b : AreNumbered g others) (e : lines_of h names ≡ lines_of g others) where
  same_length : length names ≡ length others
  same_length = sym (length-map names (λ n. line_of names (get h n))) ∙ ap length e ∙ length-map others (λ n. line_of others (get g n))

  -- a reached record and its counterpart stand at one place
  beside : (n : Name) → IsReached h n → slice_get others (number_in names n) ≡ Some (counterpart names others n)
  beside n r =
      let within = slice_get_within names (number_in names n) n (number_reached h names n a r) in
      slice_get-get_or others (number_in names n) root_name (let same = same_length in omega arith)

  there : (n : Name) → IsReached h n → IsReached g (counterpart names others n)
  there n r = reached_listed g others (number_in names n) (counterpart names others n) b (beside n r)

  records_same : (n : Name) → IsReached h n → get g (counterpart names others n) ≡ option_map (renamed (counterpart names others)) (get h n)
  records_same n r =
      let f = reached_found shape h n w r in
      let k = reached_found shape g (counterpart names others n) v (there n r) in
      let line = same_at (λ n. line_of names (get h n)) (λ n. line_of others (get g n)) names others (number_in names n) n (counterpart names others n) e (number_reached h names n a r) (beside n r) in
      let line' : line_of names (Some f.rec) ≡ line_of others (Some k.rec) = sym (ap (line_of names) f.at) ∙ line ∙ ap (line_of others) k.at in
      k.at ∙ ap Some (same_record names others f.rec k.rec line' (λ i m is. number_reached g others m b (reached_pointer g (counterpart names others n) m k.rec i (there n r) k.at is)))
      ∙ sym (ap (option_map (renamed (counterpart names others))) f.at)

  root_kept : counterpart names others root_name ≡ root_name
  root_kept =
      let zero_is : number_in names root_name ≡ 0 = one_place h names (number_in names root_name) 0 root_name a (number_reached h names root_name a ([], refl)) (root_first h names a) in
      ap (λ k. get_or others k root_name) zero_is ∙ get_or_from_slice_get others 0 root_name root_name (root_first g others b)

  -- the record at the place of one that is reached there
  record Original (m : Name) : Type 0 where
    name : Name
    reached : IsReached h name
    is : counterpart names others name ≡ m

  original : (m : Name) → IsReached g m → Original m
  original m r =
      let at = number_reached g others m b r in
      let within = slice_get_within others (number_in others m) m at in
      let n = get_or names (number_in others m) root_name in
      let at' : slice_get names (number_in others m) ≡ Some n = slice_get-get_or names (number_in others m) root_name (let same = same_length in omega arith) in
      let reached = reached_listed h names (number_in others m) n a at' in
      let place_is : number_in names n ≡ number_in others m = one_place h names (number_in names n) (number_in others m) n a (number_reached h names n a reached) at' in
      record { name = n; reached = reached; is = ap (λ k. get_or others k root_name) place_is ∙ get_or_from_slice_get others (number_in others m) m root_name at }

  apart : (x y : Name) → IsReached h x → IsReached h y → counterpart names others x ≡ counterpart names others y → x ≡ y
  apart x y rx ry same =
      let place_is : number_in names x ≡ number_in names y = one_place g others (number_in names x) (number_in names y) (counterpart names others y) b (beside x rx ∙ ap Some same) (beside y ry) in
      let both : Some x ≡ Some y = sym (number_reached h names x a rx) ∙ ap (slice_get names) place_is ∙ number_reached h names y a ry in
      cc

  pub IsRenaming-told : IsRenaming h g (counterpart names others)
  IsRenaming-told = record {
    root = root_kept;
    reached = there;
    onto = λ m r. (let o = original m r in (o.name, o.reached, o.is));
    one_to_one = apart;
    records = records_same;
  }

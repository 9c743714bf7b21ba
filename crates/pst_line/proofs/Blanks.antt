-- Contents that are put into fields in one order or another, and what an undo does that lets pointers go first.
use Rattle.std.proofs.Common.{◌≡◌, ◌≢◌, ℕ, ◌+◌, ◌-◌, ◌<◌, ◌≤◌, ◌++◌, true, false, List, [], ◌∷◌, map, length, Option, Some, None, ℤ, refl, sym, ap, ◌∙◌, subst, ◌⊎◌, inl, inr, ⊎_elim, arith}
use Rattle.std.proofs.lemmas.Bool.{cases_eq, cases_Bool, false≢true}
use Rattle.std.proofs.lemmas.List.{set-set, set_comm, length-set}
use Rattle.std.specs.Prelude.{⊤, slice_set}
use Rattle.std.specs.Option.{option_map}
use Rattle.std.specs.FinMap.{get}
use Rattle.pst_base.specs.declared.names.Name.{Name}
use Rattle.pst_base.specs.declared.shape.TypeShape.{TypeShape}
use Rattle.pst_base.specs.Name.{name_eq}
use Rattle.pst_base.specs.Heap.{Rec, Heap, IsWellFormed, with_record, value_set, pointer_set, changed}
use Rattle.pst_base.proofs.NameLemmas.{name_eq-true, name_eq-same}
use Rattle.pst_base.proofs.WellFormed.{IsWellFormed-with_value, IsWellFormed-with_pointer}
use Rattle.pst_line_nodes.specs.declared.content.Content.{Content}
use Rattle.pst_line_nodes.specs.declared.content.Content.TheVariants.{Number, Null, Target as TargetOf}
use Rattle.pst_line_nodes.specs.Contents.{Target}
use Rattle.pst_line.specs.Undo.{Mark, put_back, blank, LeadsBack}
use Rattle.pst_line.proofs.Undo.{back_in, back_is, get_changed, changed_swap, put-twice, there}

-- ---- where a content fits a record

-- how many numbers and how many pointers a record has
abbrev pub widths_of : Rec → ℕ × ℕ
widths_of r = (length r.values, length r.pointers)

-- a content is of the kind of a slot
abbrev pub IsIn : Content → ℕ → ℕ × ℕ → Type 0
IsIn (Number v) g w = g < w.0
IsIn Null g w = (w.0 ≤ g) × (g < w.0 + w.1)
IsIn (TargetOf y) g w = (w.0 ≤ g) × (g < w.0 + w.1)

abbrev pub IsInSome : Content → ℕ → Option (ℕ × ℕ) → Type 0
IsInSome c g None = ⊤
IsInSome c g (Some w) = IsIn c g w

abbrev pub widths : Heap → Name → Option (ℕ × ℕ)
widths h n = option_map widths_of (get h n)

-- the content of a mark is of the kind of its field, if there is such a record
abbrev pub Suits : Heap → Mark → Type 0
Suits h m = IsInSome m.content m.slot (widths h m.name)

abbrev pub put : (ℕ → Name) → Heap → Mark → Heap
put name h m = put_back name h m.name m.slot m.content

-- each suits the heap
abbrev pub AllSuit : Heap → List Mark → Type 0
AllSuit h [] = ⊤
AllSuit h (m ∷ ms) = Suits h m × AllSuit h ms

-- some mark is of the field, or none is
abbrev pub AreAmong : Mark → List Mark → Type 0
AreAmong v [] = ⊥
AreAmong v (m ∷ ms) = ((v.name ≡ m.name) × (v.slot ≡ m.slot)) ⊎ AreAmong v ms

abbrev pub AreApart : Mark → List Mark → Type 0
AreApart v [] = ⊤
AreApart v (m ∷ ms) = (v.name ≡ m.name → v.slot ≡ m.slot → ⊥) × AreApart v ms

-- the mark with which a pointer is let go
abbrev pub blank_mark : Mark → Mark
blank_mark m = record m { content = blank m.content }

abbrev pub blanks : List Mark → List Mark
blanks ms = map blank_mark ms

differ : (n q : Name) → name_eq n q ≡ false → n ≢ q
differ n q t e = let same = name_eq-same n in false≢true (sym t ∙ ap (name_eq n) (sym e) ∙ same)

module _ (name : ℕ → Name) where
  widths_back : (c : Content) (g : ℕ) (r : Rec) → widths_of (back_in name g c r) ≡ widths_of r
  widths_back (Number v) g r = ap (λ n. (n, length r.pointers)) (length-set r.values g v)
  widths_back Null g r = ap (λ n. (length r.values, n)) (length-set r.pointers (g - length r.values) None)
  widths_back (TargetOf y) g r = ap (λ n. (length r.values, n)) (length-set r.pointers (g - length r.values) (Some (name y.0)))

  -- ---- contents of a record

  -- a content replaces another one
  over : (c d : Content) (g : ℕ) (r : Rec) → IsIn c g (widths_of r) → IsIn d g (widths_of r) → back_in name g d (back_in name g c r) ≡ back_in name g d r
  over (Number v) (Number u) g r a b = λ i. record { ty = r.ty; values = set-set r.values g v u i; pointers = r.pointers }
  over (Number v) Null g r a b = absurd (omega (arith, a, b.0))
  over (Number v) (TargetOf z) g r a b = absurd (omega (arith, a, b.0))
  over Null (Number u) g r a b = absurd (omega (arith, b, a.0))
  over (TargetOf y) (Number u) g r a b = absurd (omega (arith, b, a.0))
  over Null Null g r a b = λ i. record { ty = r.ty; values = r.values; pointers = set-set r.pointers (g - length r.values) None None i }
  over Null (TargetOf z) g r a b = λ i. record { ty = r.ty; values = r.values; pointers = set-set r.pointers (g - length r.values) None (Some (name z.0)) i }
  over (TargetOf y) Null g r a b = λ i. record { ty = r.ty; values = r.values; pointers = set-set r.pointers (g - length r.values) (Some (name y.0)) None i }
  over (TargetOf y) (TargetOf z) g r a b = λ i. record { ty = r.ty; values = r.values; pointers = set-set r.pointers (g - length r.values) (Some (name y.0)) (Some (name z.0)) i }

  -- contents of two fields may be put in either order
  two_values : (r : Rec) (f g : ℕ) (v u : ℤ) → f ≢ g → value_set (value_set r f v) g u ≡ value_set (value_set r g u) f v
  two_values r f g v u ne = λ i. record { ty = r.ty; values = set_comm r.values f g v u ne i; pointers = r.pointers }

  two_pointers : (r : Rec) (f g : ℕ) (p q : Option Name) → length r.values ≤ f → length r.values ≤ g → f ≢ g → pointer_set (pointer_set r f p) g q ≡ pointer_set (pointer_set r g q) f p
  two_pointers r f g p q a b ne = λ i. record { ty = r.ty; values = r.values; pointers = set_comm r.pointers (f - length r.values) (g - length r.values) p q (λ e. ne (omega (arith, e, a, b))) i }

  one_each : (r : Rec) (f g : ℕ) (v : ℤ) (p : Option Name) → pointer_set (value_set r f v) g p ≡ value_set (pointer_set r g p) f v
  one_each r f g v p = ap (λ n. record { ty = r.ty; values = slice_set r.values f v; pointers = slice_set r.pointers (g - n) p }) (length-set r.values f v)

  either : (c d : Content) (f g : ℕ) (r : Rec) → IsIn c f (widths_of r) → IsIn d g (widths_of r) → f ≢ g → back_in name g d (back_in name f c r) ≡ back_in name f c (back_in name g d r)
  either (Number v) (Number u) f g r a b ne = two_values r f g v u ne
  either (Number v) Null f g r a b ne = one_each r f g v None
  either (Number v) (TargetOf z) f g r a b ne = one_each r f g v (Some (name z.0))
  either Null (Number u) f g r a b ne = sym (one_each r g f u None)
  either (TargetOf y) (Number u) f g r a b ne = sym (one_each r g f u (Some (name y.0)))
  either Null Null f g r a b ne = two_pointers r f g None None a.0 b.0 ne
  either Null (TargetOf z) f g r a b ne = two_pointers r f g None (Some (name z.0)) a.0 b.0 ne
  either (TargetOf y) Null f g r a b ne = two_pointers r f g (Some (name y.0)) None a.0 b.0 ne
  either (TargetOf y) (TargetOf z) f g r a b ne = two_pointers r f g (Some (name y.0)) (Some (name z.0)) a.0 b.0 ne

  -- ---- contents of a heap

  abbrev alter : (Rec → Rec) → Heap → Name → Heap
  alter f h n = changed f h n (get h n)

  -- two changes of one record
  twice : (f g k : Rec → Rec) (h : Heap) (n : Name) (o : Option Rec) → get h n ≡ o → ((r : Rec) → o ≡ Some r → f (g r) ≡ k r) → alter f (changed g h n o) n ≡ changed k h n o
  twice f g k h n None e same = ap (changed f h n) e
  twice f g k h n (Some r) e same = ap (changed f (with_record h n (g r)) n) (there h n (g r)) ∙ put-twice h n (f (g r)) (g r) ∙ ap (with_record h n) (same r refl)

  -- changes of two records
  apart : (f g : Rec → Rec) (h : Heap) (n q : Name) (o : Option Rec) → n ≢ q → get h q ≡ o → alter f (changed g h q o) n ≡ changed g (alter f h n) q o
  apart f g h n q None ne e = refl
  apart f g h n q (Some s) ne e = ap (changed f (with_record h q (g s)) n) (other h n q (g s) ne) ∙ changed_swap f h n q (g s) (get h n) ne
    where
      other : (h : Heap) (n q : Name) (s : Rec) → n ≢ q → get (with_record h q s) n ≡ get h n
      other h n q s ne = get_changed (λ r. s) h q n (Some s) (λ e. ne (sym e))

  get_alter : (f : Rec → Rec) (h : Heap) (n : Name) (o : Option Rec) → get h n ≡ o → get (changed f h n o) n ≡ option_map f o
  get_alter f h n None e = e
  get_alter f h n (Some r) e = there h n (f r)

  map_widths : (c : Content) (g : ℕ) (o : Option Rec) → option_map widths_of (option_map (back_in name g c) o) ≡ option_map widths_of o
  map_widths c g None = refl
  map_widths c g (Some r) = ap Some (widths_back c g r)

  put_is : (h : Heap) (m : Mark) → put name h m ≡ alter (back_in name m.slot m.content) h m.name
  put_is h m = back_is name h m.name m.slot m.content

  -- a content changes no record's widths
  pub widths_put : (h : Heap) (m : Mark) (q : Name) → widths (put name h m) q ≡ widths h q
  widths_put h m q = ap (λ k. widths k q) (put_is h m) ∙ ⊎_elim
      (λ (t : name_eq m.name q ≡ true).
      subst (λ (q : Name). widths (alter (back_in name m.slot m.content) h m.name) q ≡ widths h q) (name_eq-true m.name q t)
      (ap (option_map widths_of) (get_alter (back_in name m.slot m.content) h m.name (get h m.name) refl) ∙ map_widths m.content m.slot (get h m.name)))
      (λ (t : name_eq m.name q ≡ false). ap (option_map widths_of) (get_changed (back_in name m.slot m.content) h m.name q (get h m.name) (λ e. differ m.name q t e)))
      (cases_Bool (name_eq m.name q))

  pub suits_put : (h : Heap) (m k : Mark) → Suits h k → Suits (put name h m) k
  suits_put h m k s = subst (IsInSome k.content k.slot) (sym (widths_put h m k.name)) s

  at_rec : (h : Heap) (c : Content) (g : ℕ) (n : Name) (r : Rec) → get h n ≡ Some r → IsInSome c g (widths h n) → IsIn c g (widths_of r)
  at_rec h c g n r e s = subst (λ (o : Option Rec). IsInSome c g (option_map widths_of o)) e s

  -- one mark is put over another one of the same field
  pub put_over : (h : Heap) (m k : Mark) → k.name ≡ m.name → k.slot ≡ m.slot → Suits h m → Suits h k → put name (put name h m) k ≡ put name h k
  put_over h m k e f a b =
      ap (λ x. put name x k) (put_is h m) ∙ put_is (alter (back_in name m.slot m.content) h m.name) k
      ∙ ap (alter (back_in name k.slot k.content) (alter (back_in name m.slot m.content) h m.name)) e
      ∙ twice (back_in name k.slot k.content) (back_in name m.slot m.content) (back_in name k.slot k.content) h m.name (get h m.name) refl
      (λ r q.
      ap (λ g. back_in name k.slot k.content (back_in name g m.content r)) (sym f)
      ∙ over m.content k.content k.slot r (subst (λ (g : ℕ). IsIn m.content g (widths_of r)) (sym f) (at_rec h m.content m.slot m.name r q a))
      (at_rec h k.content k.slot m.name r q (subst (λ (n : Name). IsInSome k.content k.slot (widths h n)) e b)))
      ∙ sym (put_is h k ∙ ap (alter (back_in name k.slot k.content) h) e)

  -- marks of two fields may be put in either order
  pub put_either : (h : Heap) (m k : Mark) → (m.name ≡ k.name → m.slot ≡ k.slot → ⊥) → Suits h m → Suits h k → put name (put name h m) k ≡ put name (put name h k) m
  put_either h m k ne a b = ⊎_elim
      (λ (t : name_eq m.name k.name ≡ true). same_name (name_eq-true m.name k.name t))
      (λ (t : name_eq m.name k.name ≡ false). other_name (λ e. differ m.name k.name t e))
      (cases_Bool (name_eq m.name k.name))
    where
      f : Rec → Rec
      f = back_in name m.slot m.content

      g : Rec → Rec
      g = back_in name k.slot k.content

      both : put name (put name h m) k ≡ alter g (alter f h m.name) k.name
      both = ap (λ x. put name x k) (put_is h m) ∙ put_is (alter f h m.name) k

      turned : put name (put name h k) m ≡ alter f (alter g h k.name) m.name
      turned = ap (λ x. put name x m) (put_is h k) ∙ put_is (alter g h k.name) m

      same_name : m.name ≡ k.name → put name (put name h m) k ≡ put name (put name h k) m
      same_name e =
          both ∙ ap (alter g (alter f h m.name)) (sym e) ∙ twice g f (λ r. g (f r)) h m.name (get h m.name) refl (λ r q. refl)
          ∙ sym (turned ∙ ap (λ n. alter f (alter g h n) m.name) (sym e)
          ∙ twice f g (λ r. g (f r)) h m.name (get h m.name) refl (λ r q. sym (either m.content k.content m.slot k.slot r (at_rec h m.content m.slot m.name r q a)
          (at_rec h k.content k.slot m.name r q (subst (λ (n : Name). IsInSome k.content k.slot (widths h n)) (sym e) b)) (ne e))))

      other_name : m.name ≢ k.name → put name (put name h m) k ≡ put name (put name h k) m
      other_name d = both ∙ apart g f h k.name m.name (get h m.name) (λ e. d (sym e)) refl ∙ lift (get (alter g h k.name) m.name) (get_changed g h k.name m.name (get h k.name) (λ e. d (sym e))) ∙ sym turned
        where
          lift : (o : Option Rec) → o ≡ get h m.name → changed f (alter g h k.name) m.name (get h m.name) ≡ changed f (alter g h k.name) m.name o
          lift o e = ap (changed f (alter g h k.name) m.name) (sym e)

  -- ---- one mark after another

  abbrev pub puts : Heap → List Mark → Heap
  puts h [] = h
  puts h (m ∷ ms) = puts (put name h m) ms

  pub all_suit_put : (h : Heap) (m : Mark) (ms : List Mark) → AllSuit h ms → AllSuit (put name h m) ms
  all_suit_put h m [] s = tt
  all_suit_put h m (k ∷ ms) s = (suits_put h m k s.0, all_suit_put h m ms s.1)

  pub suits_puts : (h : Heap) (m : Mark) (ms : List Mark) → Suits h m → Suits (puts h ms) m
  suits_puts h m [] s = s
  suits_puts h m (k ∷ ms) s = suits_puts (put name h k) m ms (suits_put h k m s)

  -- what is put into a field that others put something into is lost
  pub puts_over : (h : Heap) (v : Mark) (ms : List Mark) → AreAmong v ms → Suits h v → AllSuit h ms → puts (put name h v) ms ≡ puts h ms
  puts_over h v [] a s k = absurd a
  puts_over h v (m ∷ ms) a s k =
      let past : (v.name ≡ m.name → v.slot ≡ m.slot → ⊥) → puts (put name (put name h v) m) ms ≡ puts (put name h m) ms = λ ne.
      ap (λ x. puts x ms) (put_either h v m ne s k.0)
      ∙ puts_over (put name h m) v ms (elim a [ inl e ↦ absurd (ne e.0 e.1) | inr b ↦ b ]) (suits_put h m v s) (all_suit_put h m ms k.1) in
      ⊎_elim
      (λ (t : name_eq v.name m.name ≡ true). ⊎_elim
      (λ (e : v.slot ≡ m.slot). ap (λ x. puts x ms) (put_over h v m (sym (name_eq-true v.name m.name t)) (sym e) s k.0))
      (λ (d : v.slot ≡ m.slot → ⊥). past (λ n g. d g))
      (cases_eq v.slot m.slot))
      (λ (t : name_eq v.name m.name ≡ false). past (λ n g. differ v.name m.name t n))
      (cases_Bool (name_eq v.name m.name))

  -- what is put into another field may be put last
  pub puts_past : (h : Heap) (v : Mark) (ms : List Mark) → AreApart v ms → Suits h v → AllSuit h ms → puts (put name h v) ms ≡ put name (puts h ms) v
  puts_past h v [] a s k = refl
  puts_past h v (m ∷ ms) a s k = ap (λ x. puts x ms) (put_either h v m a.0 s k.0) ∙ puts_past (put name h m) v ms a.1 (suits_put h m v s) (all_suit_put h m ms k.1)

  -- ---- pointers are let go

  pub suits_blank : (h : Heap) (m : Mark) → Suits h m → Suits h (blank_mark m)
  suits_blank h m s = by m.content (widths h m.name) s
    where
      by : (c : Content) (o : Option (ℕ × ℕ)) → IsInSome c m.slot o → IsInSome (blank c) m.slot o
      by c None s = tt
      by (Number v) (Some w) s = s
      by Null (Some w) s = s
      by (TargetOf y) (Some w) s = s

  pub all_suit_blanks : (h : Heap) (ms : List Mark) → AllSuit h ms → AllSuit h (blanks ms)
  all_suit_blanks h [] s = tt
  all_suit_blanks h (m ∷ ms) s = (suits_blank h m s.0, all_suit_blanks h ms s.1)

  pub among_blanks : (v : Mark) (ms : List Mark) → AreAmong v ms → AreAmong v (blanks ms)
  among_blanks v [] a = a
  among_blanks v (m ∷ ms) a = elim a [ inl e ↦ inl e | inr b ↦ inr (among_blanks v ms b) ]

  pub apart_blanks : (v : Mark) (ms : List Mark) → AreApart v ms → AreApart v (blanks ms)
  apart_blanks v [] a = tt
  apart_blanks v (m ∷ ms) a = (a.0, apart_blanks v ms a.1)

  module _ (shape : List TypeShape) where
    -- a heap stays well formed where a pointer is let go
    pub formed_blank : (h : Heap) (m : Mark) → IsWellFormed shape h → Suits h m → IsWellFormed shape (put name h (blank_mark m))
    formed_blank h m w s = by m.content (get h m.name) refl s
      where
        by : (c : Content) (o : Option Rec) → get h m.name ≡ o → IsInSome c m.slot (widths h m.name) → IsWellFormed shape (put_back name h m.name m.slot (blank c))
        by c None e s = subst (IsWellFormed shape) (sym (back_is name h m.name m.slot (blank c) ∙ ap (changed (back_in name m.slot (blank c)) h m.name) e)) w
        by (Number v) (Some r) e s = IsWellFormed-with_value shape h m.name m.slot v r w e
        by Null (Some r) e s = let i = at_rec h Null m.slot m.name r e s in IsWellFormed-with_pointer shape h m.name m.slot None r w e (record { from = i.0; below = i.1 }) (λ y q. absurd (cc))
        by (TargetOf z) (Some r) e s = let i = at_rec h (Target z.0) m.slot m.name r e s in IsWellFormed-with_pointer shape h m.name m.slot None r w e (record { from = i.0; below = i.1 }) (λ y q. absurd (cc))

    pub formed_blanks : (h : Heap) (ms : List Mark) → IsWellFormed shape h → AllSuit h ms → IsWellFormed shape (puts h (blanks ms))
    formed_blanks h [] w s = w
    formed_blanks h (m ∷ ms) w s = formed_blanks (put name h (blank_mark m)) ms (formed_blank h m w s.0) (all_suit_put h (blank_mark m) ms s.1)

    module _ (base : Heap) where
      pub leads_split : (h : Heap) (ks bs : List Mark) → LeadsBack shape name base (ks ++ bs) h → LeadsBack shape name base bs (puts h ks)
      leads_split h [] bs l = l
      leads_split h (m ∷ ks) bs l = leads_split (put name h m) ks bs l.1

      pub leads_blanks : (h : Heap) (ms bs : List Mark) → IsWellFormed shape h → AllSuit h ms → LeadsBack shape name base bs (puts h (blanks ms)) → LeadsBack shape name base (blanks ms ++ bs) h
      leads_blanks h [] bs w s l = l
      leads_blanks h (m ∷ ms) bs w s l = let f = formed_blank h m w s.0 in (f, leads_blanks (put name h (blank_mark m)) ms bs f (all_suit_put h (blank_mark m) ms s.1) l)

      -- A field is written, which had the content of v: the undo leads back to where it led. Where the field is noted already, by the
      -- entries of before; else by one more.
      module _ (h : Heap) (v : Mark) (ms : List Mark) (formed : IsWellFormed shape h) (was : IsWellFormed shape (put name h v)) (s : Suits h v) (k : AllSuit h ms)
          (leads : LeadsBack shape name base (blanks ms ++ ms) (put name h v)) where
        pub leads_again : AreAmong v ms → LeadsBack shape name base (blanks ms ++ ms) h
        leads_again a = leads_blanks h ms ms formed k
            (subst (LeadsBack shape name base ms) (puts_over h v (blanks ms) (among_blanks v ms a) s (all_suit_blanks h ms k)) (leads_split (put name h v) (blanks ms) ms leads))

        pub leads_more : AreApart v ms → LeadsBack shape name base (blanks (v ∷ ms) ++ v ∷ ms) h
        leads_more a =
            let bs : List Mark = blanks ms in
            let x : Heap = puts h bs in
            let to : puts (put name h (blank_mark v)) bs ≡ put name x (blank_mark v) = puts_past h (blank_mark v) bs (apart_blanks v ms a) (suits_blank h v s) (all_suit_blanks h ms k) in
            let here : put name (puts (put name h (blank_mark v)) bs) v ≡ puts (put name h v) bs
            = ap (λ y. put name y v) to ∙ put_over x (blank_mark v) v refl refl (suits_puts h (blank_mark v) bs (suits_blank h v s)) (suits_puts h v bs s)
            ∙ sym (puts_past h v bs (apart_blanks v ms a) s (all_suit_blanks h ms k)) in
            leads_blanks h (v ∷ ms) (v ∷ ms) formed (s, k) (
              subst (IsWellFormed shape) (sym here) (formed_blanks (put name h v) ms was (all_suit_put h v ms k)),
              subst (LeadsBack shape name base ms) (sym here) (leads_split (put name h v) bs ms leads),
            )

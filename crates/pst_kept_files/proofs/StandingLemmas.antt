-- What files stand for, and what writes leave of it.
use Rattle.std.proofs.Common.{◌≡◌, ◌≢◌, inl, inr, ℕ, suc, ◌+◌, ◌-◌, ◌<◌, ◌≤◌, ◌^◌, true, false, List, [], ◌∷◌, ◌++◌, length, take, drop, slice_index, replicate, Option, Some, None, refl, sym, ◌∙◌, ap, ap₂, subst, arith, eqb, leb}
use Rattle.std.proofs.lemmas.Bool.{cases_Bool, cases_lt, and_left, and_right, and_parts, and_from, ne_eqb, leb-true, le-leb, lt-leb, le-ltb, lt-ltb}
use Rattle.std.proofs.lemmas.List.{append-nil, append_assoc, length-append, length-take, length-replicate, get_or-replicate, take-take, drop-take, get_or-take, get_or-drop, take_at, drop_at, get_or_past}
use Rattle.std.proofs.lemmas.Nat.{from_be_bytes-to_be_bytes_8}
use Rattle.std.specs.Int.{w64, from_be_bytes, to_be_bytes}
use Rattle.sha2.specs.Sha256.{sha256}
use Rattle.sha2.proofs.Facts256.{length-sha256}
use Rattle.pst_kept_text.specs.Text.{whole, behind, IsPlain, IsGroup, IsTornEnd}
use Rattle.pst_kept_text.specs.Written.{groups_in, IsAtRest, Adds}
use Rattle.pst_kept_text.proofs.TextLemmas.{whole_none, torn_zero}
use Rattle.pst_kept_files.specs.Standing.{Standing, number, base_of, is_open, content, standing, later_of, stands, spare}
use Rattle.pst_kept_files.specs.Checks.{letters, check, sealed, IsSealed}
use Rattle.pst_kept_files.specs.Kept.{Holds, Keeps, KeepsEither}
use Rattle.pst_kept_files.proofs.CheckLemmas.{sealed_more, sealed_none, plain_sealed}
use Rattle.pst_kept_files.proofs.HeadLemmas.{number_is}

-- ---- one file

-- a file whose gate is shut, or that has no room for its head, doesn't count
pub shut_stands : (c : List ℕ) → slice_index c 0 ≢ 1 → standing c ≡ None
shut_stands c shut = let off : is_open c ≡ false = and_left (eqb (slice_index c 0) 1) (leb (base_of c) (length c)) (ne_eqb (slice_index c 0) 1 shut) in rw off refl

pub short_stands : (c : List ℕ) → length c < 49 → standing c ≡ None
short_stands c short = let off : is_open c ≡ false = and_right (eqb (slice_index c 0) 1) (leb (base_of c) (length c)) (lt-leb (base_of c) (length c) (omega arith)) in rw off refl

pub none_open : (f : List ℕ) (a : Standing) → standing f ≡ Some a → is_open f ≡ true
none_open f a h = elim (cases_Bool (is_open f)) [
  | inl opened ↦ opened
  | inr shut ↦ let none : standing f ≡ None = rw shut refl in absurd (cc (none, h))
]

pub same_content : (f : List ℕ) (a : Standing) → standing f ≡ Some a → content f ≡ a
same_content f a h =
    let opened = none_open f a h in
    let is : standing f ≡ Some (content f) = rw opened refl in
    let both : Some (content f) ≡ Some a = sym is ∙ h in
    cc both

pub base_inside : (f : List ℕ) (a : Standing) → standing f ≡ Some a → base_of f ≤ length f
base_inside f a h = leb-true (base_of f) (length f) (and_parts (eqb (slice_index f 0) 1) (leb (base_of f) (length f)) (none_open f a h)).1

-- ---- two files

pub later_none : (o : Option Standing) → later_of o None ≡ o
later_none None = refl
later_none (Some a) = refl

pub later_older : (a b : Standing) → b.generation < a.generation → later_of (Some a) (Some b) ≡ Some a
later_older a b h = rw (le-ltb a.generation b.generation (omega arith), lt-ltb b.generation a.generation h) refl

pub later_later : (a b : Standing) → a.generation < b.generation → later_of (Some a) (Some b) ≡ Some b
later_later a b h = rw (lt-ltb a.generation b.generation h) refl

later_same : (a b : Standing) → a.generation ≡ b.generation → later_of (Some a) (Some b) ≡ None
later_same a b h = rw (le-ltb a.generation b.generation (omega (arith, h)), le-ltb b.generation a.generation (omega (arith, h))) refl

-- the order of the two files means nothing
later_sym : (a b : Option Standing) → later_of a b ≡ later_of b a
later_sym None None = refl
later_sym None (Some b) = refl
later_sym (Some a) None = refl
later_sym (Some a) (Some b) = elim (cases_lt a.generation b.generation) [
  | inl before ↦ later_later a b before ∙ sym (later_older b a before)
  | inr not_before ↦ elim (cases_lt b.generation a.generation) [
    | inl behind_it ↦ later_older a b behind_it ∙ sym (later_later b a behind_it)
    | inr not_behind ↦ later_same a b (omega arith) ∙ sym (later_same b a (omega arith))
  ]
]

pub stands_sym : (one two : List ℕ) → stands one two ≡ stands two one
stands_sym one two = later_sym (standing one) (standing two)

pub keeps_sym : (one two image commands : List ℕ) → Keeps one two image commands → Keeps two one image commands
keeps_sym one two image commands k = record { it = k.it; last = k.last; stand = stands_sym two one ∙ k.stand; holds = k.holds }

pub either_sym : (one two image commands image2 commands2 : List ℕ) → KeepsEither one two image commands image2 commands2 → KeepsEither two one image commands image2 commands2
either_sym one two image commands image2 commands2 (inl k) = inl (keeps_sym one two image commands k)
either_sym one two image commands image2 commands2 (inr k) = inr (keeps_sym one two image2 commands2 k)

-- the first counts alone
pub alone : (one two : List ℕ) (a : Standing) → standing one ≡ Some a → standing two ≡ None → stands one two ≡ Some a
alone one two a counts none = ap₂ later_of counts none

-- ---- groups more

-- what a file stands for that has more groups
pub record Added (it : Standing) (more c : List ℕ) : Type 0 where
  pub now : Standing
  pub counts : standing c ≡ Some now
  pub same_generation : now.generation ≡ it.generation
  pub same_digest : now.digest ≡ it.digest
  pub same_image : now.image ≡ it.image
  pub text_is : now.text ≡ it.text ++ more
  pub torn_end : IsTornEnd now.rest
  pub same_base : (f : List ℕ) → standing f ≡ Some it → Adds (base_of f) f more c → base_of c ≡ base_of f

module _ (f c : List ℕ) (same : take (base_of f) c ≡ take (base_of f) f) where
  part : (n m : ℕ) → n + m ≤ base_of f → take m (drop n c) ≡ take m (drop n f)
  part n m low =
      let here : take (n + m) c ≡ take (n + m) f = sym (take-take (n + m) (base_of f) c low) ∙ ap (λ (l : List ℕ). take (n + m) l) same ∙ take-take (n + m) (base_of f) f low in
      sym (drop-take n m c) ∙ ap (λ (l : List ℕ). drop n l) here ∙ drop-take n m f

  pub base_same : base_of c ≡ base_of f
  base_same = ap (λ (l : List ℕ). 49 + number l) (part 9 8 (omega arith))

  gate_same : slice_index c 0 ≡ slice_index f 0
  gate_same =
      let low : 0 < base_of f = omega arith in
      sym (get_or-take (base_of f) c 0 0 low) ∙ ap (λ (l : List ℕ). slice_index l 0) same ∙ get_or-take (base_of f) f 0 0 low

  pub still_open : is_open f ≡ true → base_of f ≤ length c → is_open c ≡ true
  still_open opened reaches =
      let parts = and_parts (eqb (slice_index f 0) 1) (leb (base_of f) (length f)) opened in
      and_from (eqb (slice_index c 0) 1) (leb (base_of c) (length c)) (ap (λ (b : ℕ). eqb b 1) gate_same ∙ parts.0) (le-leb (base_of c) (length c) (omega (arith, base_same)))

  pub generation_same : number (take 8 (drop 1 c)) ≡ number (take 8 (drop 1 f))
  generation_same = ap number (part 1 8 (omega arith))

  pub digest_same : take 32 (drop 17 c) ≡ take 32 (drop 17 f)
  digest_same = part 17 32 (omega arith)

  pub image_same : take (base_of c - 49) (drop 49 c) ≡ take (base_of f - 49) (drop 49 f)
  image_same = ap (λ (n : ℕ). take (n - 49) (drop 49 c)) base_same ∙ part 49 (base_of f - 49) (omega arith)

pub added : (f c more : List ℕ) (it : Standing) → standing f ≡ Some it → Adds (base_of f) f more c → Added it more c
added f c more it counts adds =
    let opened = none_open f it counts in
    let inside = base_inside f it counts in
    let same = adds.front in
    let reaches : base_of f ≤ length c = omega (arith, ap length same, length-take (base_of f) c, length-take (base_of f) f) in
    let is = same_content f it counts in
    let at = base_same f c same in
    record {
      now = content c;
      counts = rw (still_open f c same opened reaches) refl;
      same_generation = generation_same f c same ∙ ap (λ (s : Standing). s.generation) is;
      same_digest = digest_same f c same ∙ ap (λ (s : Standing). s.digest) is;
      same_image = image_same f c same ∙ ap (λ (s : Standing). s.image) is;
      text_is = ap (λ (n : ℕ). groups_in n c) at ∙ adds.stands ∙ ap (λ (s : Standing). s.text ++ more) is;
      torn_end = subst (λ (n : ℕ). IsTornEnd (behind (drop n c))) (sym at) adds.torn_end;
      same_base = λ g _ other. base_same g c other.front;
    }

-- nothing more
pub holds_still : (it : Standing) (image commands last c : List ℕ) → Holds it image commands last → (a : Added it [] c) → Holds a.now image commands last
holds_still it image commands last c h a = record {
  image_is = a.same_image ∙ h.image_is;
  digest_is = a.same_digest ∙ h.digest_is;
  groups = subst (λ (d : List ℕ). IsSealed (letters d) a.now.text commands last) (sym a.same_digest) (subst (λ (t : List ℕ). IsSealed (letters it.digest) t commands last) (sym (a.text_is ∙ append-nil it.text)) h.groups);
  torn_end = a.torn_end;
}

-- one group more
pub holds_more : (it : Standing) (image commands last body c : List ℕ) → Holds it image commands last → IsPlain body → (a : Added it (sealed last body) c)
    → Holds a.now image (commands ++ body) (check last body)
holds_more it image commands last body c h plain a = record {
  image_is = a.same_image ∙ h.image_is;
  digest_is = a.same_digest ∙ h.digest_is;
  groups = subst (λ (d : List ℕ). IsSealed (letters d) a.now.text (commands ++ body) (check last body)) (sym a.same_digest)
      (subst (λ (t : List ℕ). IsSealed (letters it.digest) t (commands ++ body) (check last body)) (sym a.text_is) (sealed_more (letters it.digest) it.text commands last body h.groups plain));
  torn_end = a.torn_end;
}

pub group_of : (last body : List ℕ) → IsPlain body → IsGroup (sealed last body)
group_of last body plain = record { body = body ++ check last body; plain = plain_sealed last body plain; is = refl }

-- ---- a new file

length-spare : length spare ≡ 262144
unfolding spare
length-spare = length-replicate {A = ℕ} 262144 0

spare_at : (i : ℕ) → slice_index spare i ≡ 0
unfolding spare
spare_at i = elim (cases_lt i 262144) [
  | inl low ↦ get_or-replicate 262144 i 0 0 low
  | inr past ↦ get_or_past (replicate 262144 0) i 0 (omega (arith, length-replicate {A = ℕ} 262144 0))
]

-- the parts of a file, behind its gate
module _ (a b c d e : List ℕ) (na : length a ≡ 8) (nb : length b ≡ 8) (nc : length c ≡ 32) where
  abbrev parts : List ℕ
  parts = a ++ b ++ c ++ d ++ e

  n16 : length (a ++ b) ≡ 16
  n16 = omega (arith, length-append a b)

  n48 : length (a ++ b ++ c) ≡ 48
  n48 = omega (arith, n16, length-append (a ++ b) c)

  from_48 : drop 48 parts ≡ d ++ e
  from_48 = ap (λ (l : List ℕ). drop 48 l) (append_assoc (a ++ b ++ c) d e) ∙ drop_at (a ++ b ++ c) (d ++ e) 48 n48

  from_16 : drop 16 parts ≡ c ++ (d ++ e)
  from_16 = ap (λ (l : List ℕ). drop 16 l) (append_assoc (a ++ b ++ c) d e ∙ append_assoc (a ++ b) c (d ++ e)) ∙ drop_at (a ++ b) (c ++ (d ++ e)) 16 n16

  abbrev rest_8 : List ℕ
  rest_8 = b ++ (c ++ (d ++ e))

  all_8 : parts ≡ a ++ rest_8
  all_8 = append_assoc (a ++ b ++ c) d e ∙ append_assoc (a ++ b) c (d ++ e) ∙ append_assoc a b (c ++ (d ++ e))

  pub part_a : take 8 parts ≡ a
  part_a = ap (λ (l : List ℕ). take 8 l) all_8 ∙ take_at a rest_8 8 na

  pub part_b : take 8 (drop 8 parts) ≡ b
  part_b = ap (λ (l : List ℕ). take 8 (drop 8 l)) all_8 ∙ ap (λ (l : List ℕ). take 8 l) (drop_at a rest_8 8 na) ∙ take_at b (c ++ (d ++ e)) 8 nb

  pub part_c : take 32 (drop 16 parts) ≡ c
  part_c = ap (λ (l : List ℕ). take 32 l) from_16 ∙ take_at c (d ++ e) 32 nc

  pub part_d : take (length d) (drop 48 parts) ≡ d
  part_d = ap (λ (l : List ℕ). take (length d) l) from_48 ∙ take_at d e (length d) refl

  pub part_e : drop (48 + length d) parts ≡ e
  part_e = drop_at (a ++ b ++ c ++ d) e (48 + length d) (omega (arith, n48, length-append (a ++ b ++ c) d))

  pub part_size : length parts ≡ 48 + length d + length e
  part_size = omega (arith, n48, length-append (a ++ b ++ c) d, length-append (a ++ b ++ c ++ d) e)

-- a file with these parts, whose gate is open
module _ (generation : ℕ) (image : List ℕ) (small : generation < 2 ^ 64) (few : length image < 2 ^ 61) where
  abbrev g8 : List ℕ
  g8 = to_be_bytes w64 generation

  abbrev n8 : List ℕ
  n8 = to_be_bytes w64 (length image)

  abbrev behind_gate : List ℕ
  behind_gate = g8 ++ n8 ++ sha256 image ++ image ++ spare

  pub base_new : base_of (1 ∷ behind_gate) ≡ 49 + length image
  base_new = ap (λ (n : ℕ). 49 + n) (number_is (take 8 (drop 8 behind_gate)) ∙ ap (from_be_bytes w64) (part_b g8 n8 (sha256 image) image spare refl refl (length-sha256 image))
      ∙ from_be_bytes-to_be_bytes_8 (length image) (omega arith))

  size : length behind_gate ≡ 48 + length image + 262144
  size = part_size g8 n8 (sha256 image) image spare refl refl (length-sha256 image) ∙ ap (λ (n : ℕ). 48 + length image + n) length-spare

  text_new : drop (base_of (1 ∷ behind_gate)) (1 ∷ behind_gate) ≡ spare
  text_new =
      let at : base_of (1 ∷ behind_gate) ≡ suc (48 + length image) = omega (arith, base_new) in
      ap (λ (n : ℕ). drop n (1 ∷ behind_gate)) at ∙ part_e g8 n8 (sha256 image) image spare refl refl (length-sha256 image)

  no_groups : groups_in (base_of (1 ∷ behind_gate)) (1 ∷ behind_gate) ≡ []
  no_groups = ap whole text_new ∙ whole_none spare (spare_at 0)

  torn_new : IsTornEnd (behind (drop (base_of (1 ∷ behind_gate)) (1 ∷ behind_gate)))
  torn_new =
      let none : whole spare ≡ [] = whole_none spare (spare_at 0) in
      let is : behind spare ≡ spare = ap (λ (l : List ℕ). drop (length l) spare) none in
      subst (λ (t : List ℕ). IsTornEnd (behind t)) (sym text_new) (subst IsTornEnd (sym is) (torn_zero spare (omega (arith, length-spare)) (spare_at 0)))

  open_new : is_open (1 ∷ behind_gate) ≡ true
  open_new = and_from (eqb 1 1) (leb (base_of (1 ∷ behind_gate)) (length (1 ∷ behind_gate))) refl (le-leb (base_of (1 ∷ behind_gate)) (length (1 ∷ behind_gate)) (omega (arith, base_new, size)))

  pub standing_new : standing (1 ∷ behind_gate) ≡ Some (content (1 ∷ behind_gate))
  standing_new = rw open_new refl

  pub generation_new : (content (1 ∷ behind_gate)).generation ≡ generation
  generation_new = number_is (take 8 behind_gate) ∙ ap (from_be_bytes w64) (part_a g8 n8 (sha256 image) image spare refl refl (length-sha256 image)) ∙ from_be_bytes-to_be_bytes_8 generation small

  pub holds_new : Holds (content (1 ∷ behind_gate)) image [] (letters (sha256 image))
  holds_new =
      let digest : take 32 (drop 16 behind_gate) ≡ sha256 image = part_c g8 n8 (sha256 image) image spare refl refl (length-sha256 image) in
      let n : base_of (1 ∷ behind_gate) - 49 ≡ length image = omega (arith, base_new) in
      record {
        image_is = ap (λ (k : ℕ). take k (drop 48 behind_gate)) n ∙ part_d g8 n8 (sha256 image) image spare refl refl (length-sha256 image);
        digest_is = digest;
        groups = subst (λ (t : List ℕ). IsSealed (letters (take 32 (drop 16 behind_gate))) t [] (letters (sha256 image))) (sym no_groups)
            (subst (λ (k : List ℕ). IsSealed (letters k) [] [] (letters (sha256 image))) (sym digest) (sealed_none (letters (sha256 image))));
        torn_end = torn_new;
      }

  -- it is at rest
  pub rest_new : (base : ℕ) → base ≡ 49 + length image → IsAtRest base base (base + 262144) (1 ∷ behind_gate)
  rest_new base is =
      let same : base ≡ base_of (1 ∷ behind_gate) = omega (arith, base_new, is) in
      let none : base - base ≡ 0 = omega arith in
      record {
        size = omega (arith, size, is);
        text = ap (λ (k : ℕ). groups_in k (1 ∷ behind_gate)) same ∙ no_groups ∙ ap (λ (k : ℕ). take k (drop base (1 ∷ behind_gate))) (sym none);
        zeros = λ i from.
            let there : base + (i - base) ≡ i = omega arith in
            ap (slice_index (1 ∷ behind_gate)) (sym there) ∙ sym (get_or-drop base (1 ∷ behind_gate) (i - base) 0) ∙ ap (λ (k : ℕ). slice_index (drop k (1 ∷ behind_gate)) (i - base)) same
            ∙ ap (λ (t : List ℕ). slice_index t (i - base)) text_new ∙ spare_at (i - base);
      }

-- What opening finds and leaves.
use Rattle.std.proofs.Common.{◌≡◌, ◌≢◌, ◌⊎◌, inl, inr, ℕ, ◌+◌, ◌-◌, ◌≤◌, min, true, false, List, [], length, take, drop, slice_index, Option, Some, None, Result, Ok, Err, refl, sym, ◌∙◌, ap, ap₂, subst, arith}
use Rattle.std.proofs.lemmas.Bool.{cases_Bool, cases_lt, lt-ltb, le-ltb}
use Rattle.std.proofs.lemmas.List.{ext_get_or, length-take, length-drop, take_rest}
use Rattle.std.specs.Result.{IfOk}
use Rattle.sha2.specs.Sha256.{sha256}
use Rattle.pst_kept_text.specs.Text.{whole, behind, IsTornEnd}
use Rattle.pst_kept_text.specs.Written.{groups_in, Adds}
use Rattle.pst_kept_files.specs.Standing.{Standing, base_of, is_open, content, standing, later_of, stands, generation_in, role_of, IsOlder}
use Rattle.pst_kept_files.specs.Staged.{OrDoesNotCount}
use Rattle.pst_kept_files.specs.Checks.{letters, text_of, IsSealed, ArePlain}
use Rattle.pst_kept_files.specs.Kept.{Holds, Keeps, MeansBy}
use Rattle.pst_kept_files.specs.Opening.{BeginsAt, IsMisjudged, CountsOver, IsRefused}
use Rattle.pst_kept_files.specs.declared.kept.Kept.{Kept}
use Rattle.pst_kept_files.specs.declared.role.Role.{Role}
use Rattle.pst_kept_files.specs.declared.role.Role.TheVariants.{First, Second}
use Rattle.pst_kept_files.specs.declared.error.FilesError.{FilesError}
use Rattle.pst_kept_files.specs.declared.error.FilesError.TheVariants.{Disk, NotEmpty, Empty, NoneCounts, DamagedImage, DamagedGroup, DamagedEnd}
use Rattle.pst_kept_text.specs.declared.error.DiskError.TheVariants.{Failed, DoesNotMix, TooLarge, Memory}
use Rattle.pst_kept_files.proofs.StandingLemmas.{added, holds_still, alone, same_content, later_older, shut_stands, short_stands, stands_sym}

-- the image of a store that was opened
pub image_at : (x : List ℕ) (m : ℕ) → m ≡ min 49 (length x) → take (length x - m) (drop m x) ≡ drop 49 x
image_at x m is = take_rest x m ∙ ext_get_or 0 (drop m x) (drop 49 x) (omega (arith, is, length-drop m x, length-drop 49 x)) (λ i low.
    let at : m ≡ 49 = omega (arith, is, length-drop m x) in
    ap (λ (k : ℕ). slice_index (drop k x) i) at)

-- ---- one file, as it was read

module _ (bytes text digest : List ℕ) (base count : ℕ) (begins : BeginsAt bytes base) (text_is : text ≡ drop base bytes) (front : take count text ≡ whole text) (few : count ≤ length text) where
  abbrev it : Standing
  it = content bytes

  same_text : drop (base_of bytes) bytes ≡ text
  same_text = ap (λ (n : ℕ). drop n bytes) (sym begins.is) ∙ sym text_is

  groups_are : it.text ≡ take count text
  groups_are = ap whole same_text ∙ sym front

  count_is : length (whole text) ≡ count
  count_is = omega (arith, ap length front, length-take count text)

  rest_is : it.rest ≡ drop count text
  rest_is = ap behind same_text ∙ ap (λ (n : ℕ). drop n text) count_is

  image_of : it.image ≡ take (base - 49) (drop 49 bytes)
  image_of = ap (λ (n : ℕ). take (n - 49) (drop 49 bytes)) (sym begins.is)

  pub judged_holds : (commands last : List ℕ) → IsTornEnd (drop count text) → digest ≡ sha256 (take (base - 49) (drop 49 bytes)) → digest ≡ take 32 (drop 17 bytes)
      → IsSealed (letters digest) (take count text) commands last → Holds it (take (base - 49) (drop 49 bytes)) commands last
  judged_holds commands last torn is told sealed = record {
    image_is = image_of;
    digest_is = sym told ∙ is;
    groups = subst (λ (t : List ℕ). IsSealed (letters (take 32 (drop 17 bytes))) t commands last) (sym groups_are) (subst (λ (d : List ℕ). IsSealed (letters d) (take count text) commands last) told sealed);
    torn_end = subst IsTornEnd (sym rest_is) torn;
  }

  pub judged_text : groups_in base bytes ≡ take (base + count - base) (drop base bytes)
  judged_text =
      let n : count ≡ base + count - base = omega arith in
      ap whole (sym text_is) ∙ sym front ∙ ap (λ (t : List ℕ). take count t) text_is ∙ ap (λ (k : ℕ). take k (drop base bytes)) n

  pub not_torn : (IsTornEnd (drop count text) → ⊥) → IsTornEnd it.rest → ⊥
  not_torn other torn = other (subst IsTornEnd rest_is torn)

  pub not_digest : digest ≡ sha256 (take (base - 49) (drop 49 bytes)) → digest ≢ take 32 (drop 17 bytes) → it.digest ≢ sha256 it.image
  not_digest is other same = other (is ∙ sym (same ∙ ap sha256 image_of))

  pub not_sealed : digest ≡ take 32 (drop 17 bytes) → ((bodies : List (List ℕ)) → ArePlain bodies → take count text ≡ text_of (letters digest) bodies → ⊥)
      → (commands last : List ℕ) → IsSealed (letters it.digest) it.text commands last → ⊥
  not_sealed told none commands last s = none s.bodies s.plain (sym groups_are ∙ s.text_is ∙ ap (λ (d : List ℕ). text_of (letters d) s.bodies) (sym told))

-- ---- two files

counts_stand : (f o : List ℕ) (c : CountsOver f o) → stands f o ≡ Some c.it
counts_stand f o c = ap (λ (s : Option Standing). later_of s (standing o)) c.counts ∙ over c.it (standing o) c.older
  where
    over : (a : Standing) (s : Option Standing) → IsOlder a.generation s → later_of (Some a) s ≡ Some a
    over a None h = refl
    over a (Some b) h = later_older a b h

same_it : (f o : List ℕ) (c : CountsOver f o) (it : Standing) → stands f o ≡ Some it → c.it ≡ it
same_it f o c it stand = let both : Some c.it ≡ Some it = sym (counts_stand f o c) ∙ stand in cc both

not_counting : (c : List ℕ) → (slice_index c 0 ≢ 1) ⊎ (length c ≤ 1) → standing c ≡ None
not_counting c (inl shut) = shut_stands c shut
not_counting c (inr short) = short_stands c (omega arith)

-- while the other is shut
pub keeps_shut : (f o d image commands : List ℕ) → CountsOver f o → Keeps f o image commands → OrDoesNotCount o d → Keeps f d image commands
keeps_shut f o d image commands c k (inl same) = subst (λ (e : List ℕ). Keeps f e image commands) (sym same) k
keeps_shut f o d image commands c k (inr off) = record {
  it = k.it;
  last = k.last;
  stand = alone f d k.it (c.counts ∙ ap Some (same_it f o c k.it k.stand)) (not_counting d off);
  holds = k.holds;
}

-- while the file that counts is cleared
pub keeps_cleared : (f o c d image commands : List ℕ) (base : ℕ) → CountsOver f o → Keeps f o image commands → base ≡ base_of f → Adds base f [] c → standing d ≡ None → Keeps c d image commands
keeps_cleared f o c d image commands base over k is adds none =
    let here : Adds (base_of f) f [] c = subst (λ (n : ℕ). Adds n f [] c) is adds in
    let counts : standing f ≡ Some k.it = over.counts ∙ ap Some (same_it f o over k.it k.stand) in
    let a = added f c [] k.it counts here in
    record { it = a.now; last = k.last; stand = alone c d a.now a.counts none; holds = holds_still k.it image commands k.last c k.holds a }

-- what was judged is kept
pub keeps_judged : (f o image commands last : List ℕ) → CountsOver f o → standing f ≡ Some (content f) → Holds (content f) image commands last → Keeps f o image commands
keeps_judged f o image commands last over counts holds =
    let same : Some over.it ≡ Some (content f) = sym over.counts ∙ counts in
    record { it = content f; last = last; stand = counts_stand f o over ∙ same; holds = holds }

pub means_judged : (f c d image commands : List ℕ) (base : ℕ) (kept : Kept) → standing f ≡ Some (content f) → Holds (content f) image commands kept.check → base ≡ base_of f → kept.place.base ≡ base
    → kept.generation ≡ (content f).generation → Adds base f [] c → standing d ≡ None → MeansBy c d kept image commands
means_judged f c d image commands base kept counts holds is base_is generation_is adds none =
    let here : Adds (base_of f) f [] c = subst (λ (n : ℕ). Adds n f [] c) is adds in
    let a = added f c [] (content f) counts here in
    record {
      it = a.now;
      begins = base_is ∙ is ∙ sym (a.same_base f counts here);
      counts = a.counts;
      generation_is = generation_is ∙ sym a.same_generation;
      holds = holds_still (content f) image commands kept.check c holds a;
      none = none;
    }

-- what a file was refused for is what two are refused for
pub refused_of : (e : FilesError) (f o : List ℕ) → CountsOver f o → IsMisjudged e f → IsRefused e f o
refused_of (Disk TooLarge) f o over h = inl h
refused_of (Disk Memory) f o over h = tt
refused_of (Disk (Failed _)) f o over h = absurd h
refused_of (Disk DoesNotMix) f o over h = absurd h
refused_of NotEmpty f o over h = h
refused_of Empty f o over h = absurd h
refused_of NoneCounts f o over h = let bad : Some over.it ≡ None = sym over.counts ∙ h in absurd (cc bad)
refused_of DamagedImage f o over h = λ it stand.
    let is = same_content f it (over.counts ∙ ap Some (same_it f o over it stand)) in
    subst (λ (s : Standing). s.digest ≢ sha256 s.image) is h
refused_of DamagedGroup f o over h = λ it stand.
    let is = same_content f it (over.counts ∙ ap Some (same_it f o over it stand)) in
    subst (λ (s : Standing). (commands last : List ℕ) → IsSealed (letters s.digest) s.text commands last → ⊥) is h
refused_of DamagedEnd f o over h = λ it stand.
    let is = same_content f it (over.counts ∙ ap Some (same_it f o over it stand)) in
    subst (λ (s : Standing). IsTornEnd s.rest → ⊥) is h

-- ---- which of two counts

open_counts : (f : List ℕ) → is_open f ≡ true → standing f ≡ Some (content f)
open_counts f opened = rw opened refl

shut_counts : (f : List ℕ) → is_open f ≡ false → standing f ≡ None
shut_counts f shut = rw shut refl

open_generation : (f : List ℕ) → is_open f ≡ true → generation_in f ≡ Some (content f).generation
open_generation f opened = rw opened refl

shut_generation : (f : List ℕ) → is_open f ≡ false → generation_in f ≡ None
shut_generation f shut = rw shut refl

-- which one it is
abbrev pub Which : List ℕ → List ℕ → Option Role → Type 0
Which f o None = stands f o ≡ None
Which f o (Some First) = CountsOver f o
Which f o (Some Second) = CountsOver o f

both_open : (f o : List ℕ) → standing f ≡ Some (content f) → standing o ≡ Some (content o) → Which f o (role_of (Some (content f).generation) (Some (content o).generation))
both_open f o one two = elim (cases_lt (content f).generation (content o).generation) [
  | inl before ↦ rw (lt-ltb (content f).generation (content o).generation before) (record { it = content o; counts = two; older = subst (λ (s : Option Standing). IsOlder (content o).generation s) (sym one) before })
  | inr not_before ↦ elim (cases_lt (content o).generation (content f).generation) [
    | inl after ↦ rw (le-ltb (content f).generation (content o).generation not_before, lt-ltb (content o).generation (content f).generation after)
        (record { it = content f; counts = one; older = subst (λ (s : Option Standing). IsOlder (content f).generation s) (sym two) after })
    | inr not_after ↦ rw (le-ltb (content f).generation (content o).generation not_before, le-ltb (content o).generation (content f).generation not_after) (ap₂ later_of one two ∙ neither (content f) (content o) not_before not_after)
  ]
]
  where
    neither : (a b : Standing) → b.generation ≤ a.generation → a.generation ≤ b.generation → later_of (Some a) (Some b) ≡ None
    neither a b h k = rw (le-ltb a.generation b.generation h, le-ltb b.generation a.generation k) refl

pub which_counts : (f o : List ℕ) → Which f o (role_of (generation_in f) (generation_in o))
which_counts f o = elim (cases_Bool (is_open f)) [
  | inl one ↦ elim (cases_Bool (is_open o)) [
    | inl two ↦ rw (open_generation f one, open_generation o two) (both_open f o (open_counts f one) (open_counts o two))
    | inr two ↦ rw (open_generation f one, shut_generation o two) (record { it = content f; counts = open_counts f one; older = subst (λ (s : Option Standing). IsOlder (content f).generation s) (sym (shut_counts o two)) tt })
  ]
  | inr one ↦ elim (cases_Bool (is_open o)) [
    | inl two ↦ rw (shut_generation f one, open_generation o two) (record { it = content o; counts = open_counts o two; older = subst (λ (s : Option Standing). IsOlder (content o).generation s) (sym (shut_counts f one)) tt })
    | inr two ↦ rw (shut_generation f one, shut_generation o two) (ap₂ later_of (shut_counts f one) (shut_counts o two))
  ]
]

-- ---- the two files under their names

pub over_first : (f o : List ℕ) (a b : Option ℕ) → a ≡ generation_in f → b ≡ generation_in o → role_of a b ≡ Some First → CountsOver f o
over_first f o a b one two is = subst (λ (r : Option Role). Which f o r) (ap₂ role_of (sym one) (sym two) ∙ is) (which_counts f o)

pub over_second : (f o : List ℕ) (a b : Option ℕ) → a ≡ generation_in f → b ≡ generation_in o → role_of a b ≡ Some Second → CountsOver o f
over_second f o a b one two is = subst (λ (r : Option Role). Which f o r) (ap₂ role_of (sym one) (sym two) ∙ is) (which_counts f o)

pub over_none : (f o : List ℕ) (a b : Option ℕ) → a ≡ generation_in f → b ≡ generation_in o → role_of a b ≡ None → stands f o ≡ None
over_none f o a b one two is = subst (λ (r : Option Role). Which f o r) (ap₂ role_of (sym one) (sym two) ∙ is) (which_counts f o)

pub over_at : (f g o p : List ℕ) → g ≡ f → p ≡ o → CountsOver f o → CountsOver g p
over_at f g o p one two over = subst (λ (x : List ℕ). CountsOver x p) (sym one) (subst (λ (x : List ℕ). CountsOver f x) (sym two) over)

pub keeps_at : (f g o p image commands : List ℕ) → g ≡ f → p ≡ o → Keeps g p image commands → Keeps f o image commands
keeps_at f g o p image commands one two keeps = subst (λ (x : List ℕ). Keeps x o image commands) one (subst (λ (x : List ℕ). Keeps g x image commands) two keeps)

pub refused_at : (e : FilesError) (f g o p : List ℕ) → g ≡ f → p ≡ o → IsRefused e g p → IsRefused e f o
refused_at e f g o p one two refused = subst (λ (x : List ℕ). IsRefused e x o) one (subst (λ (x : List ℕ). IsRefused e g x) two refused)

pub refused_sym : (e : FilesError) (one two : List ℕ) → IsRefused e one two → IsRefused e two one
refused_sym (Disk TooLarge) one two (inl h) = inr h
refused_sym (Disk TooLarge) one two (inr h) = inl h
refused_sym (Disk Memory) one two h = tt
refused_sym (Disk (Failed _)) one two h = tt
refused_sym (Disk DoesNotMix) one two h = tt
refused_sym NotEmpty one two h = h
refused_sym Empty one two h = (h.1, h.0)
refused_sym NoneCounts one two h = stands_sym two one ∙ h
refused_sym DamagedImage one two h = λ it stand. h it (stands_sym one two ∙ stand)
refused_sym DamagedGroup one two h = λ it stand. h it (stands_sym one two ∙ stand)
refused_sym DamagedEnd one two h = λ it stand. h it (stands_sym one two ∙ stand)

pub ok_both : {X Y : Type 0} (r : Result X Y) (P Q R : X → Type 0) → ((x : X) → P x → Q x → R x) → IfOk r P → IfOk r Q → IfOk r R
ok_both (Ok x) P Q R f p q = f x p q
ok_both (Err y) P Q R f p q = tt

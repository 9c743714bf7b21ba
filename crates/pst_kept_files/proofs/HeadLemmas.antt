-- What the front of a file says.
use Rattle.std.proofs.Common.{◌≡◌, ◌≢◌, ℕ, ◌+◌, ◌-◌, ◌<◌, ◌≤◌, true, false, List, length, take, drop, slice_index, Some, None, refl, sym, ◌∙◌, ap, arith, eqb, leb}
use Rattle.std.proofs.lemmas.Bool.{and_left, and_right, and_from, ne_eqb, eq-eqb, le-leb, lt-leb}
use Rattle.std.proofs.lemmas.List.{take-take, drop-take, get_or-take, length-take, ext_get_or}
use Rattle.sqlite_disk.specs.Disk.{Holds}
use Rattle.std.specs.Int.{w64, from_be_bytes}
use Rattle.pst_kept_files.specs.Standing.{number, base_of, is_open, standing, generation_in}
use Rattle.pst_kept_files.specs.Opening.{BeginsAt}

pub number_is : (bytes : List ℕ) → number bytes ≡ from_be_bytes w64 bytes
unfolding number
number_is bytes = refl

module _ (front file : List ℕ) (is : front ≡ take 17 file) where
  part : (n m : ℕ) → n + m ≤ 17 → take m (drop n front) ≡ take m (drop n file)
  part n m low =
      let cut : take (n + m) front ≡ take (n + m) file = ap (λ (l : List ℕ). take (n + m) l) is ∙ take-take (n + m) 17 file low in
      sym (drop-take n m front) ∙ ap (λ (l : List ℕ). drop n l) cut ∙ drop-take n m file

  gate : slice_index front 0 ≡ slice_index file 0
  gate = ap (λ (l : List ℕ). slice_index l 0) is ∙ get_or-take 17 file 0 0 (omega arith)

  size_is : base_of file ≡ 49 + from_be_bytes w64 (take 8 (drop 9 front))
  size_is = ap (λ (n : ℕ). 49 + n) (number_is (take 8 (drop 9 file)) ∙ ap (from_be_bytes w64) (sym (part 9 8 (omega arith))))

  pub other_gate : slice_index front 0 ≢ 1 → None ≡ generation_in file
  other_gate other =
      let shut : is_open file ≡ false = and_left (eqb (slice_index file 0) 1) (leb (base_of file) (length file)) (ne_eqb (slice_index file 0) 1 (λ one. other (gate ∙ one))) in
      rw shut refl

  pub too_long : length file - 49 < from_be_bytes w64 (take 8 (drop 9 front)) → 49 ≤ length file → None ≡ generation_in file
  too_long long some =
      let shut : is_open file ≡ false = and_right (eqb (slice_index file 0) 1) (leb (base_of file) (length file)) (lt-leb (base_of file) (length file) (omega (arith, size_is, long))) in
      rw shut refl

  pub counts_as : slice_index front 0 ≡ 1 → from_be_bytes w64 (take 8 (drop 9 front)) ≤ length file - 49 → 49 ≤ length file
      → Some (from_be_bytes w64 (take 8 (drop 1 front))) ≡ generation_in file
  counts_as one fits some =
      let opened : is_open file ≡ true = and_from (eqb (slice_index file 0) 1) (leb (base_of file) (length file)) (eq-eqb (slice_index file 0) 1 (sym gate ∙ one)) (le-leb (base_of file) (length file) (omega (arith, size_is, fits))) in
      let told : from_be_bytes w64 (take 8 (drop 1 front)) ≡ number (take 8 (drop 1 file)) = ap (from_be_bytes w64) (part 1 8 (omega arith)) ∙ sym (number_is (take 8 (drop 1 file))) in
      rw opened (ap Some told)

-- the first bytes of a file that were read
pub front_of : (file front : List ℕ) → length front ≡ 17 → Holds file 0 front → front ≡ take 17 file
front_of file front size holds = ext_get_or 0 front (take 17 file) (omega (arith, holds.within, length-take 17 file)) (λ i low.
    let at : 0 + i ≡ i = omega arith in
    let below : i < 17 = omega arith in
    sym (holds.each i low) ∙ ap (slice_index file) at ∙ sym (get_or-take 17 file i 0 below))

-- a file that was read whole
module _ (file : List ℕ) where
  size_of : base_of file ≡ 49 + from_be_bytes w64 (take 8 (drop 9 file))
  size_of = ap (λ (n : ℕ). 49 + n) (number_is (take 8 (drop 9 file)))

  pub long_none : length file - 49 < from_be_bytes w64 (take 8 (drop 9 file)) → 49 ≤ length file → standing file ≡ None
  long_none long some =
      let shut : is_open file ≡ false = and_right (eqb (slice_index file 0) 1) (leb (base_of file) (length file)) (lt-leb (base_of file) (length file) (omega (arith, size_of, long))) in
      rw shut refl

  pub begins_at : (base : ℕ) → slice_index file 0 ≡ 1 → base ≡ 49 + from_be_bytes w64 (take 8 (drop 9 file)) → base ≤ length file → BeginsAt file base
  begins_at base one is inside =
      let opened : is_open file ≡ true = and_from (eqb (slice_index file 0) 1) (leb (base_of file) (length file)) (eq-eqb (slice_index file 0) 1 one) (le-leb (base_of file) (length file) (omega (arith, size_of, is, inside))) in
      record { counts = rw opened refl; is = omega (arith, size_of, is); head = omega (arith, is); inside = inside }

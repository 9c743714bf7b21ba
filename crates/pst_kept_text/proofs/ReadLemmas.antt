use Rattle.std.proofs.Common.{◌≡◌, inl, inr, ℕ, ◌+◌, ◌-◌, List, length, take, drop, replicate, slice_index, sym, ◌∙◌, ap, arith}
use Rattle.std.proofs.lemmas.Bool.{cases_lt}
use Rattle.std.proofs.lemmas.List.{ext_get_or, get_or-replicate, get_or_past, length-replicate}
use Rattle.sqlite_disk.specs.Disk.{Holds}
use Rattle.pst_kept_text.specs.Text.{whole}
use Rattle.pst_kept_text.specs.Written.{groups_in}

-- a buffer of a file's length that was read from its start
pub filled : (f buf : List ℕ) → length buf ≡ length f → Holds f 0 buf → buf ≡ f
filled f buf same holds = ext_get_or 0 buf f same (λ i low. let at : 0 + i ≡ i = omega arith in sym (holds.each i low) ∙ ap (slice_index f) at)

pub zero_at : (n : ℕ) (zeros : List ℕ) → zeros ≡ replicate n 0 → (i : ℕ) → slice_index zeros i ≡ 0
zero_at n zeros is i = ap (λ (l : List ℕ). slice_index l i) is ∙ at
  where
    at : slice_index (replicate n 0) i ≡ 0
    at = elim (cases_lt i n) [ inl low ↦ get_or-replicate n i 0 0 low | inr past ↦ get_or_past (replicate n 0) i 0 (omega (arith, length-replicate {A = ℕ} n 0)) ]

-- the lines that were counted in the bytes are those of the file
pub counted : (f bytes rest : List ℕ) (base n : ℕ) → bytes ≡ f → rest ≡ drop base bytes → take n rest ≡ whole rest → groups_in base f ≡ take (base + n - base) (drop base f)
counted f bytes rest base n is cut front =
    let text : rest ≡ drop base f = cut ∙ ap (λ (l : List ℕ). drop base l) is in
    let same : n ≡ base + n - base = omega arith in
    sym (ap whole text) ∙ sym front ∙ ap (λ (l : List ℕ). take n l) text ∙ ap (λ (k : ℕ). take k (drop base f)) same

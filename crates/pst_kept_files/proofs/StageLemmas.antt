-- What the writes of a whole file leave.
use Rattle.std.proofs.Common.{◌≡◌, ◌≢◌, ◌⊎◌, inl, inr, ⊎_elim, ℕ, zero, suc, ◌<◌, List, [], ◌∷◌, ◌++◌, length, slice_index, replicate, ap, subst, arith}
use Rattle.std.proofs.lemmas.List.{ext_get_or}
use Rattle.sqlite_disk.specs.Disk.{Holds, Torn, Mixed}
use Rattle.pst_kept_files.specs.Standing.{IsStage, spare, body_of}

pub not_one : (n : ℕ) → n ≡ 0 → n ≢ 1
not_one n h k = absurd (omega arith)

-- a write to the gate alone
gate_leaves : (b : ℕ) (old c : List ℕ) → 0 < length old → Mixed 0 (b ∷ []) old c → (c ≡ old) ⊎ (slice_index c 0 ≡ b)
gate_leaves b old c some mixed = ⊎_elim
    (λ was. inl (ext_get_or 0 c old (omega (arith, mixed.torn.no_shorter, mixed.torn.no_longer)) (λ i low. at i was low)))
    (λ put. inr put)
    (mixed.each 0 (omega arith) (omega arith))
  where
    at : (i : ℕ) → slice_index c 0 ≡ slice_index old 0 → i < length c → slice_index c i ≡ slice_index old i
    at zero was low = was
    at (suc i) was low = mixed.torn.above (suc i) (omega (arith, mixed.torn.no_longer)) (omega arith)

pub shut_leaves : (body old c : List ℕ) → Mixed 0 (0 ∷ []) old c → IsStage old body c
shut_leaves body [] c mixed = inr (inr (inl (omega (arith, mixed.torn.no_longer))))
shut_leaves body (x ∷ old) c mixed = ⊎_elim (λ same. inl same) (λ put. inr (inl (not_one (slice_index c 0) put))) (gate_leaves 0 (x ∷ old) c (omega arith) mixed)

same_rest : (x y : ℕ) (body c : List ℕ) → Torn 0 1 (x ∷ body) c → slice_index c 0 ≡ y → c ≡ y ∷ body
same_rest x y body c torn first = ext_get_or 0 c (y ∷ body) (omega (arith, torn.no_shorter, torn.no_longer)) at
  where
    at : (i : ℕ) → i < length c → slice_index c i ≡ slice_index (y ∷ body) i
    at zero low = first
    at (suc i) low = torn.above (suc i) (omega (arith, torn.no_longer)) (omega arith)

pub raise_leaves : (old body mid c : List ℕ) → mid ≡ 0 ∷ body → Mixed 0 (1 ∷ []) mid c → IsStage old body c
raise_leaves old body mid c is mixed' =
    let mixed : Mixed 0 (1 ∷ []) (0 ∷ body) c = subst (λ (m : List ℕ). Mixed 0 (1 ∷ []) m c) is mixed' in
    ⊎_elim
    (λ same. inr (inl (not_one (slice_index c 0) (ap (λ (l : List ℕ). slice_index l 0) same))))
    (λ put. inr (inr (inr (same_rest 0 1 body c mixed.torn put))))
    (gate_leaves 1 (0 ∷ body) c (omega arith) mixed)

pub raised : (body mid c : List ℕ) → mid ≡ 0 ∷ body → Torn 0 1 mid c → Holds c 0 (1 ∷ []) → c ≡ 1 ∷ body
raised body mid c is torn holds = same_rest 0 1 body c (subst (λ (m : List ℕ). Torn 0 1 m c) is torn) (holds.each 0 (omega arith))

pub spare_is : (head image room : List ℕ) → room ≡ replicate 262144 0 → 0 ∷ (head ++ image ++ room) ≡ 0 ∷ body_of head image
unfolding spare
spare_is head image room is = ap (λ (l : List ℕ). 0 ∷ (head ++ image ++ l)) is

-- What is so of what a row begins with and of what is stamped in it is so of what it holds.
use Rattle.std.proofs.Common.{◌≡◌, ℕ, zero, suc, Option, Some, None, Bool, true, false, ◌&&◌, cond, eqb, List, [], ◌∷◌, refl, subst}
use Rattle.std.specs.Prelude.{slice_get, unwrap_or}
use Rattle.std.proofs.lemmas.Bool.{eqb-true}
use Rattle.pst_rows.specs.declared.content.Content.{Content}
use Rattle.pst_rows.specs.declared.content.Stamp.{Stamp}
use Rattle.pst_rows.specs.Timeline.{in_force}
use Rattle.pst_rows.specs.Values.{RowValue, base_in, stamp_at, stamps_in, content_in}

-- what is stamped is the content of a stamp of the slot
stamped-is : (r : ℕ → ℕ) (es : List Stamp) (g n : ℕ) (c : Content) → stamp_at r es g n ≡ Some c → (k : ℕ) × (e : Stamp) × (slice_get es k ≡ Some e) × (e.slot.0 ≡ g) × (e.content ≡ c)
stamped-is r [] g n c x = absurd (cc)
stamped-is r (e ∷ es) g n c x = elim (eqb e.slot.0 g && eqb (r e.place.0) n) as
    (λ b. (eqb e.slot.0 g && eqb (r e.place.0) n) ≡ b → cond b (Some e.content) (stamp_at r es g n) ≡ Some c → (k : ℕ) × (f : Stamp)
    × (slice_get (e ∷ es) k ≡ Some f) × (f.slot.0 ≡ g) × (f.content ≡ c)) [
      | true ↦ λ q y. (0, e, refl, eqb-true e.slot.0 g (first (eqb e.slot.0 g) (eqb (r e.place.0) n) q), cc)
      | false ↦ λ q y. (let z = stamped-is r es g n c y in (suc z.0, z.1, z.2, z.3, z.4))
    ] refl x
  where
    first : (a b : Bool) → (a && b) ≡ true → a ≡ true
    first true b q = refl
    first false b q = q

-- what is so of each base and of each stamped value is so of what a slot holds at each position
module _ (r : ℕ → ℕ) (row : RowValue) (P : ℕ → Content → Type 0) (bases : (g : ℕ) → P g (base_in row g)) (stamps : (k : ℕ) (e : Stamp) → slice_get row.stamps k ≡ Some e → P e.slot.0 e.content) where
  forced : (g : ℕ) (o : Option Content) (before : Content) → P g before → ((c : Content) → o ≡ Some c → P g c) → P g (unwrap_or o before)
  forced g None before k s = k
  forced g (Some c) before k s = s c refl

  stamped : (g n : ℕ) (c : Content) → stamps_in r row g n ≡ Some c → P g c
  stamped g n c x = (let z = stamped-is r row.stamps g n c x in subst (P g) z.4 (subst (λ (g : ℕ). P g z.1.content) z.3 (stamps z.0 z.1 z.2)))

  pub at_all : (g n : ℕ) → P g (content_in r row g n)
  at_all g zero = forced g (stamps_in r row g 0) (base_in row g) (bases g) (stamped g 0)
  at_all g (suc n) = forced g (stamps_in r row g (suc n)) (in_force (stamps_in r row g) (base_in row g) n) (at_all g n) (stamped g (suc n))

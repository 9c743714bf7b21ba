-- The second half of a split: the partners of the new node's segments are renamed one after the other.
use Rattle.std.specs.Prelude.{◌≡◌, ◌≢◌, ℕ, Bool, true, false, ◌||◌, ◌&&◌, ◌==◌, nat_lt, nat_le, if◌then◌else◌, ◌⊎◌}
use Rattle.pst_mirror.specs.Contents.{Target, From}
use Rattle.pst_mirror.specs.Mirror.{Chart, IsMirrored, IsSteady}
use Rattle.pst_mirror.specs.Segments.{IsSegmentOf}

-- the slot g of node i is the partner of the slot h of node z at a position
abbrev pub IsPartner : Chart → ℕ → ℕ → ℕ → ℕ → ℕ → Type 0
IsPartner w z h i g m = (w.holds i g m ≡ From z h) ⊎ (w.holds z h m ≡ From i g)

-- Halfway through a split: the partners of what is done hold what they are to hold, those of the rest what they held, and all else is as it is to be.
pub record IsHalfway (before after now : Chart) (z : ℕ) (done : ℕ → ℕ → Bool) : Type 0 where
  pub others : (i g m : ℕ) → ((h : ℕ) → IsPartner after z h i g m → ⊥) → now.holds i g m ≡ after.holds i g m
  pub handled : (i g m h : ℕ) → IsPartner after z h i g m → done h m ≡ true → now.holds i g m ≡ after.holds i g m
  pub waiting : (i g m h : ℕ) → IsPartner after z h i g m → done h m ≡ false → now.holds i g m ≡ before.holds i g m

-- one more segment of z is done
abbrev pub one_more : (ℕ → ℕ → Bool) → ℕ → ℕ → ℕ → ℕ → ℕ → Bool
one_more done h a c k m = (k == h && (nat_le a m && nat_lt m c)) || done k m

-- The segment of the slot h of z from a to c has the slot t of node j as its partner, and this gets what it is to hold.
pub record IsPartnerSet (after now next : Chart) (z h a c j t : ℕ) : Type 0 where
  pub segment : IsSegmentOf after z h a c
  pub partner : IsPartner after z h j t a
  pub holds : (i g m : ℕ) → next.holds i g m ≡ (if (i == j && g == t) && (nat_le a m && nat_lt m c) then after.holds j t a else now.holds i g m)

abbrev pub PartnerLaw : Type 0
PartnerLaw = (before after now next : Chart) (z : ℕ) (done : ℕ → ℕ → Bool) (h a c j t : ℕ) → IsSteady after → IsMirrored after →
    IsHalfway before after now z done → IsPartnerSet after now next z h a c j t → IsHalfway before after next z (one_more done h a c)

-- a segment that holds neither a pointer nor an entry has no partner
abbrev pub NoPartnerLaw : Type 0
NoPartnerLaw = (before after now : Chart) (z : ℕ) (done : ℕ → ℕ → Bool) (h a c : ℕ) → IsSteady after → IsMirrored after → IsHalfway before after now z done →
    IsSegmentOf after z h a c → ((y : ℕ) → after.holds z h a ≢ Target y) → ((y f : ℕ) → after.holds z h a ≢ From y f) → IsHalfway before after now z (one_more done h a c)

-- all done: all is as it is to be
abbrev pub AllDoneLaw : Type 0
AllDoneLaw = (before after now : Chart) (z : ℕ) (done : ℕ → ℕ → Bool) → IsMirrored after → IsHalfway before after now z done → ((h m i g : ℕ) → IsPartner after z h i g m → done h m ≡ true) →
    (i g m : ℕ) → now.holds i g m ≡ after.holds i g m

-- The steps of a split: the partners are cut, the row is cut in two, the partners are renamed.
use Rattle.std.specs.Prelude.{◌≡◌, ◌≢◌, ℕ, Bool, true, false, ◌||◌, ◌&&◌, ◌==◌, nat_le, if◌then◌else◌}
use Rattle.pst_mirror.specs.Mirror.{Chart, IsMirrored, IsSteady, renamed, names, IsSplitWhole}
use Rattle.pst_mirror.specs.Charts.{HasOneEdgeMore, IsMovedApart}
use Rattle.pst_mirror.specs.Partners.{IsPartner, IsHalfway}

-- The partners, at a position, of the slots of x that are done begin a segment there, but for those in x.
pub record ArePartlyCut (old now : Chart) (x at : ℕ) (done : ℕ → Bool) : Type 0 where
  pub holds : (i g m : ℕ) → now.holds i g m ≡ old.holds i g m
  pub own : (g m : ℕ) → now.edge x g m ≡ old.edge x g m
  pub handled : (i g h : ℕ) → i ≢ x → IsPartner old x h i g at → done h ≡ true → now.edge i g at ≡ true
  pub waiting : (i g m : ℕ) → i ≢ x → ((h : ℕ) → m ≡ at → IsPartner old x h i g at → done h ≡ true → ⊥) → now.edge i g m ≡ old.edge i g m

abbrev pub one_slot_more : (ℕ → Bool) → ℕ → ℕ → Bool
one_slot_more done h k = (k == h) || done k

-- a partner is cut
abbrev pub CutPartnerLaw : Type 0
CutPartnerLaw = (old now next : Chart) (x at : ℕ) (done : ℕ → Bool) (h j t : ℕ) → IsMirrored old → ArePartlyCut old now x at done → IsPartner old x h j t at → j ≢ x →
    HasOneEdgeMore now next j t at → ArePartlyCut old next x at (one_slot_more done h)

-- a partner that begins there needs no cut, nor does one in x, and a slot without a partner has nothing to cut
abbrev pub NoCutLaw : Type 0
NoCutLaw = (old now : Chart) (x at : ℕ) (done : ℕ → Bool) (h : ℕ) → IsMirrored old → ArePartlyCut old now x at done → ((i g : ℕ) → i ≢ x → IsPartner old x h i g at → old.edge i g at ≡ true) →
    ArePartlyCut old now x at (one_slot_more done h)

-- all partners cut
pub record ArePartnersCut (old new : Chart) (x at : ℕ) : Type 0 where
  pub holds : (i g m : ℕ) → new.holds i g m ≡ old.holds i g m
  pub own : (g m : ℕ) → new.edge x g m ≡ old.edge x g m
  pub others : (i g m : ℕ) → i ≢ x → new.edge i g m ≡ ((m == at) && names x (old.holds i g m) || old.edge i g m)

abbrev pub AllCutLaw : Type 0
AllCutLaw = (old now : Chart) (x at : ℕ) (done : ℕ → Bool) → IsMirrored old → ArePartlyCut old now x at done → ((i g h : ℕ) → i ≢ x → IsPartner old x h i g at → done h ≡ true) → ArePartnersCut old now x at

-- what a chart becomes where all that names x from a position on names z
abbrev pub finished : Chart → ℕ → ℕ → ℕ → Chart
finished w x z at = record { holds = λ i g m. if nat_le at m then renamed x z (w.holds i g m) else w.holds i g m; edge = w.edge }

-- partners cut, the row cut in two, and all renamed: a whole split
abbrev pub FinishLaw : Type 0
FinishLaw = (old cut apart : Chart) (x z at : ℕ) → ArePartnersCut old cut x at → IsMovedApart cut apart x z at → IsSplitWhole old (finished apart x z at) x z at

-- the partner steps may rest on it: all is steady in the end
abbrev pub FinishedIsSteady : Type 0
FinishedIsSteady = (old cut apart : Chart) (x z at : ℕ) → ArePartnersCut old cut x at → IsMovedApart cut apart x z at → IsSteady apart → IsSteady (finished apart x z at)

-- The steps of a split: partners cut, the row cut in two, and each partner set.
pub record IsSplitBody (old cut apart new : Chart) (x z at : ℕ) : Type 0 where
  pub partners : ArePartnersCut old cut x at
  pub row : IsMovedApart cut apart x z at
  pub holds : (i g m : ℕ) → new.holds i g m ≡ (finished apart x z at).holds i g m
  pub edges : (i g m : ℕ) → new.edge i g m ≡ apart.edge i g m

abbrev pub SplitBodyLaw : Type 0
SplitBodyLaw = (old cut apart new : Chart) (x z at : ℕ) → IsSplitBody old cut apart new x z at → IsSplitWhole old new x z at

-- before the first partner is set
abbrev pub StartLaw : Type 0
StartLaw = (apart : Chart) (x z at : ℕ) → IsMirrored (finished apart x z at) → IsHalfway apart (finished apart x z at) apart z (λ h m. false)

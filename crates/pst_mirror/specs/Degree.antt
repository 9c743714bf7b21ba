-- In-degrees of records, counted by their inverse slots: as many fields lead to a node as it has entries.
use Rattle.std.specs.Prelude.{◌≡◌, ℕ, ◌+◌, ◌-◌, ◌<◌, ◌≤◌, Bool, true, false, not, ◌&&◌, ◌==◌, ◌↔◌}
use Rattle.pst_base.specs.Below.{sum_below, one_if}
use Rattle.pst_rows.specs.declared.content.Content.{Content}
use Rattle.pst_rows.specs.declared.content.Content.TheVariants.{Number, Null, Free, Target as TargetOf, From as FromOf}
use Rattle.pst_mirror.specs.Contents.{Target, From}
use Rattle.pst_mirror.specs.Mirror.{Chart, IsMirrored}

abbrev pub leads_to : ℕ → Content → Bool
leads_to y (Number n) = false
leads_to y Null = false
leads_to y (TargetOf z) = z.0 == y
leads_to y Free = false
leads_to y (FromOf z f) = false

abbrev pub is_entry : Content → Bool
is_entry (Number n) = false
is_entry Null = false
is_entry (TargetOf z) = false
is_entry Free = false
is_entry (FromOf z f) = true

-- the entry of another field than this one
abbrev pub is_other_entry : ℕ → ℕ → Content → Bool
is_other_entry x f (Number n) = false
is_other_entry x f Null = false
is_other_entry x f (TargetOf y) = false
is_other_entry x f Free = false
is_other_entry x f (FromOf z g) = not ((z.0 == x) && (g.0 == f))

-- how many pointer fields hold y at a position
abbrev pub in_degree : Chart → ℕ → (ℕ → ℕ) → ℕ → ℕ → ℕ
in_degree w nodes width y n = sum_below nodes (λ x. sum_below (width x) (λ f. one_if (leads_to y (w.holds x f n))))

-- the same with one field left out: what counts where that field is written
abbrev pub in_degree_apart : Chart → ℕ → (ℕ → ℕ) → ℕ → ℕ → ℕ → ℕ → ℕ
in_degree_apart w nodes width x f y n = in_degree w nodes width y n - one_if (leads_to y (w.holds x f n))

-- how many slots of y hold an entry there
abbrev pub entries : Chart → ℕ → ℕ → ℕ → ℕ
entries w slots y n = sum_below slots (λ s. one_if (is_entry (w.holds y s n)))

-- pointers and entries stand in nodes and slots that are there
pub record AreWithin (w : Chart) (nodes : ℕ) (width : ℕ → ℕ) (y slots n : ℕ) : Type 0 where
  pub node : (x f : ℕ) → w.holds x f n ≡ Target y → x < nodes
  pub field : (x f : ℕ) → w.holds x f n ≡ Target y → f < width x
  pub slot : (s x f : ℕ) → w.holds y s n ≡ From x f → s < slots

abbrev pub DegreeLaw : Type 0
DegreeLaw = (w : Chart) (nodes : ℕ) (width : ℕ → ℕ) (y slots n : ℕ) → IsMirrored w → AreWithin w nodes width y slots n → in_degree w nodes width y n ≡ entries w slots y n

-- the entries of y stand in its inverse slots: in `limit` slots from `first` on
pub record HasEntriesIn (w : Chart) (nodes : ℕ) (width : ℕ → ℕ) (y first limit n : ℕ) : Type 0 where
  pub within : AreWithin w nodes width y (first + limit) n
  pub behind : (s x f : ℕ) → w.holds y s n ≡ From x f → first ≤ s

-- the in-degree is never above the limit
abbrev pub LimitLaw : Type 0
LimitLaw = (w : Chart) (nodes : ℕ) (width : ℕ → ℕ) (y first limit n : ℕ) → IsMirrored w → HasEntriesIn w nodes width y first limit n → in_degree w nodes width y n ≤ limit

-- every inverse slot holds an entry exactly where the in-degree is the limit
abbrev pub FullLaw : Type 0
FullLaw = (w : Chart) (nodes : ℕ) (width : ℕ → ℕ) (y first limit n : ℕ) → IsMirrored w → HasEntriesIn w nodes width y first limit n →
    (in_degree w nodes width y n ≡ limit) ↔ ((u : ℕ) → u < limit → is_entry (w.holds y (first + u) n) ≡ true)

-- every inverse slot holds the entry of another field exactly where the in-degree apart from the field is the limit
abbrev pub FullApartLaw : Type 0
FullApartLaw = (w : Chart) (nodes : ℕ) (width : ℕ → ℕ) (x f y first limit n : ℕ) → IsMirrored w → HasEntriesIn w nodes width y first limit n →
    (in_degree_apart w nodes width x f y n ≡ limit) ↔ ((u : ℕ) → u < limit → is_other_entry x f (w.holds y (first + u) n) ≡ true)

-- The segments of a node's slots: a slot has its base from the begin of the node's life and each stamped value from its place on,
-- each up to the slot's next stamped value or the end of the life.
use Rattle.std.specs.Prelude.{◌≡◌, ℕ, ◌+◌, ◌<◌, ◌≤◌, Bool, true, false, ◌&&◌, ◌||◌, ◌==◌, nat_lt, List, [], ◌∷◌, length, get_or, Option, Some, None, unwrap_or, if◌then◌else◌}
use Rattle.std.specs.Option.{option_map}
use Rattle.pst_image_form.specs.declared.parts.StampPart.{StampPart}
use Rattle.pst_image_form.specs.declared.parts.NodePart.{NodePart}
use Rattle.pst_image_rules.specs.Nodes.{stamp_of, IsAfter}

-- the first of the stamped values that pass a test
abbrev pub first : (StampPart → Bool) → List StampPart → Option StampPart
first test [] = None
first test (s ∷ ss) = if test s then Some s else first test ss

-- stamped for the slot at the place, for the slot behind the place
abbrev pub is_at : ℕ → ℕ → StampPart → Bool
is_at g a s = (s.slot.0 == g) && (s.place == a)

abbrev pub is_behind : ℕ → ℕ → StampPart → Bool
is_behind g a s = (s.slot.0 == g) && nat_lt a s.place

-- what a slot's segment holds that begins at a place, if one begins there
abbrev pub begins : NodePart → ℕ → ℕ → Option ℕ
begins k g a = if a == k.lo then Some (get_or k.bases g 0) else option_map (λ s. s.content) (first (is_at g a) k.stamps)

-- where a slot's segment ends that begins at a place
abbrev pub ends : NodePart → ℕ → ℕ → ℕ
ends k g a = unwrap_or (option_map (λ s. s.place) (first (is_behind g a) k.stamps)) k.hi

-- the stamped values stand in order
pub record IsSorted (k : NodePart) : Type 0 where
  pub each : (i : ℕ) → i + 1 < length k.stamps → IsAfter (stamp_of k i) (stamp_of k (i + 1))

-- before the slot and the place, in the order of stamped values
abbrev pub is_before : ℕ → ℕ → StampPart → Bool
is_before g a s = nat_lt s.slot.0 g || ((s.slot.0 == g) && nat_lt s.place a)

-- so many stand before the slot and the place
pub record IsPosition (k : NodePart) (g a n : ℕ) : Type 0 where
  pub high : n ≤ length k.stamps
  pub early : (i : ℕ) → i < n → is_before g a (stamp_of k i) ≡ true
  pub late : (i : ℕ) → n ≤ i → i < length k.stamps → is_before g a (stamp_of k i) ≡ false

-- behind the slot and the place, in the order of stamped values
abbrev pub is_past : ℕ → ℕ → StampPart → Bool
is_past g a s = nat_lt g s.slot.0 || is_behind g a s

-- the stamped values from the n-th on stand behind the slot and the place, those before it do not
pub record IsNextPosition (k : NodePart) (g a n : ℕ) : Type 0 where
  pub high : n ≤ length k.stamps
  pub early : (i : ℕ) → i < n → is_behind g a (stamp_of k i) ≡ false
  pub late : (i : ℕ) → n ≤ i → i < length k.stamps → is_past g a (stamp_of k i) ≡ true

-- What a node's fields hold at each stamp.
use Rattle.std.specs.Prelude.{◌≡◌, ◌≢◌, ℕ, suc, ◌<◌, ◌≤◌, ◌⊎◌, ◌++◌, Bool, ◌&&◌, ◌==◌, nat_le, zero, List, [], ◌∷◌, length, get_or, ⊤, if◌then◌else◌}
use Rattle.pst_line_nodes.specs.declared.content.Content.{Content}
use Rattle.pst_line_nodes.specs.declared.content.Content.TheVariants.{Null}
use Rattle.pst_line_nodes.specs.declared.content.StampedContent.{StampedContent}
use Rattle.pst_line_nodes.specs.Contents.{stamped_from}
use Rattle.pst_line_nodes.specs.Seen.{Seen}

-- whether a stamp is of the slot, and in force at n
abbrev pub is_for : ℕ → ℕ → StampedContent → Bool
is_for slot n e = (e.slot.0 == slot) && nat_le e.from.0 n

-- the last stamp that is in force, or the base. (Stamps are pushed with rising numbers.)
abbrev pub held : List StampedContent → ℕ → ℕ → Content → Content
held [] slot n c = c
held (e ∷ es) slot n c = held es slot n (if is_for slot n e then e.content else c)

-- from which stamp on the newest content is in force
abbrev pub since_in : List StampedContent → ℕ → ℕ → ℕ
since_in [] slot m = m
since_in (e ∷ es) slot m = since_in es slot (if e.slot.0 == slot then e.from.0 else m)

abbrev pub base_of : Seen → ℕ → Content
base_of n slot = get_or n.base slot Null

abbrev pub holds : Seen → ℕ → ℕ → Content
holds n slot at = held n.stamped slot at (base_of n slot)

abbrev pub since : Seen → ℕ → ℕ
since n slot = since_in n.stamped slot n.first

-- the stamps of a slot rise
abbrev pub IsBefore : StampedContent → List StampedContent → Type 0
IsBefore e es = (k : ℕ) (d : StampedContent) → k < length es → (get_or es k d).slot.0 ≡ e.slot.0 → e.from.0 < (get_or es k d).from.0

-- strictly above the first stamp, and up to the newest one
abbrev pub AreRising : ℕ → ℕ → List StampedContent → Type 0
AreRising first newest [] = ⊤
AreRising first newest (e ∷ es) = (first < e.from.0) × (e.from.0 ≤ newest) × IsBefore e es × AreRising first newest es

pub record IsRow (newest : ℕ) (n : Seen) : Type 0 where
  pub first : n.first ≤ newest
  pub rising : AreRising n.first newest n.stamped

-- a stamp of this slot and number is at an index, or nowhere
pub record IsStampAt (xs : List StampedContent) (i slot from : ℕ) : Type 0 where
  pub there : i < length xs
  pub slot_is : (d : StampedContent) → (get_or xs i d).slot.0 ≡ slot
  pub from_is : (d : StampedContent) → (get_or xs i d).from.0 ≡ from

abbrev pub IsUnstamped : List StampedContent → ℕ → ℕ → Type 0
IsUnstamped xs slot from = (k : ℕ) (d : StampedContent) → k < length xs → (get_or xs k d).slot.0 ≡ slot → (get_or xs k d).from.0 ≡ from → ⊥

-- what a node is apart from what its fields hold
pub record IsSameHead (old new : Seen) : Type 0 where
  pub name : new.name ≡ old.name
  pub ty : new.ty ≡ old.ty
  pub home : new.home ≡ old.home
  pub first : new.first ≡ old.first
  pub later : new.later ≡ old.later
  pub inverse : new.inverse ≡ old.inverse
  pub width : length new.base ≡ length old.base

-- A field is written at the newest stamp: replaced where its newest segment begins there, and else stamped.
pub record IsRowSet (old new : Seen) (slot t : ℕ) (c : Content) : Type 0 where
  pub head : IsSameHead old new
  pub late : (n : ℕ) → t ≤ n → holds new slot n ≡ c
  pub early : (n : ℕ) → old.first ≤ n → n < t → holds new slot n ≡ holds old slot n
  pub others : (g n : ℕ) → g ≢ slot → holds new g n ≡ holds old g n
  pub since_is : since new slot ≡ t
  pub others_since : (g : ℕ) → g ≢ slot → since new g ≡ since old g
  pub replaced : since old slot ≡ t → length new.stamped ≡ length old.stamped
  pub stamped : since old slot ≢ t → length new.stamped ≡ suc (length old.stamped)

-- the list once the content of one stamp is replaced
abbrev pub with_content : List StampedContent → ℕ → Content → List StampedContent
with_content [] i c = []
with_content (e ∷ es) zero c = record { slot = e.slot; from = e.from; content = c } ∷ es
with_content (e ∷ es) (suc i) c = e ∷ with_content es i c

-- a content is stamped: in the place of the one that is stamped there, and else behind all
pub record IsPut (old new : List StampedContent) (slot t : ℕ) (c : Content) : Type 0 where
  pub cases : ((i : ℕ) × IsStampAt old i slot t × (new ≡ with_content old i c)) ⊎ (IsUnstamped old slot t × (new ≡ old ++ stamped_from slot t c ∷ []))

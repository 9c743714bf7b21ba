-- A row that is made of its parts: its life, the content of each slot at first, and the stamps.
use Rattle.std.specs.Prelude.{◌≡◌, ◌≢◌, ℕ, suc, ◌+◌, ◌<◌, ◌≤◌, ◌==◌, List, [], ◌∷◌, length, get_or, count_by}
use Rattle.pst_order.specs.declared.order.Pos.{Pos}
use Rattle.pst_rows.specs.declared.content.Content.{Content}
use Rattle.pst_rows.specs.declared.content.Content.TheVariants.{Null}
use Rattle.pst_rows.specs.Slots.{SlotValue as Slot}
use Rattle.pst_rows.specs.declared.content.Stamp.{Stamp}
use Rattle.pst_rows.specs.Values.{RowValue, IsValue, AreStamps, no_slot, before_slot, width_in, base_in}

-- slots with these contents, numbered from k on: the stamps of each begin behind those of all slots before it
abbrev pub slots_from : List Stamp → ℕ → List Content → List Slot
slots_from stamps k [] = []
slots_from stamps k (c ∷ cs) = record { content = c; start = before_slot stamps k } ∷ slots_from stamps (suc k) cs

-- a row of these parts
abbrev pub value_of : Pos → Pos → List Content → List Stamp → RowValue
value_of lo hi bases stamps = record { lo = lo; hi = hi; slots = slots_from stamps 0 bases; stamps = stamps }

-- what a row of these parts is: where the stamps are in order, one over the places
pub record IsOfParts (lo hi : Pos) (bases : List Content) (stamps : List Stamp) : Type 0 where
  pub width : width_in (value_of lo hi bases stamps) ≡ length bases
  pub content : (g : ℕ) → base_in (value_of lo hi bases stamps) g ≡ get_or bases g Null
  pub row : (r : ℕ → ℕ) (places : ℕ) → r lo.0 < r hi.0 → r hi.0 < places → length bases ≤ 256 →
      AreStamps r (r lo.0) (r hi.0) (length bases) stamps → IsValue r places (value_of lo hi bases stamps)

-- what a row of parts is
abbrev pub PartsHold : Type 0
PartsHold = (lo hi : Pos) (bases : List Content) (stamps : List Stamp) → IsOfParts lo hi bases stamps

-- a slot of which no stamp is counted
abbrev pub bare_slot : Content → Slot
bare_slot c = record { content = c; start = 0 }

-- no stamp of these slots is counted
pub record AreBare (slots : List Slot) : Type 0 where
  pub each : (g : ℕ) → (get_or slots g no_slot).start ≡ 0

-- the slots, with no stamp counted
pub record AreUncounted (old new : List Slot) : Type 0 where
  pub count : length new ≡ length old
  pub contents : (g : ℕ) → (get_or new g no_slot).content ≡ (get_or old g no_slot).content
  pub bare : AreBare new

-- how many of the stamps are of a slot
abbrev pub own_count : List Stamp → ℕ → ℕ
own_count stamps slot = count_by (λ e. e.slot.0 == slot) stamps

-- the slots, each with how many stamps it has in the place of where they begin
pub record AreCounted (old new : List Slot) (stamps : List Stamp) : Type 0 where
  pub count : length new ≡ length old
  pub contents : (g : ℕ) → (get_or new g no_slot).content ≡ (get_or old g no_slot).content
  pub starts : (g : ℕ) → g < length old → (get_or new g no_slot).start ≡ own_count stamps g

-- the slots, one with another start
pub record HasStart (old new : List Slot) (slot start : ℕ) : Type 0 where
  pub count : length new ≡ length old
  pub contents : (g : ℕ) → (get_or new g no_slot).content ≡ (get_or old g no_slot).content
  pub there : (get_or new slot no_slot).start ≡ start
  pub others : (g : ℕ) → g ≢ slot → (get_or new g no_slot).start ≡ (get_or old g no_slot).start

-- the slots, one with a stamp more, if it is there
pub record IsCountedOnce (old new : List Slot) (slot : ℕ) : Type 0 where
  pub count : length new ≡ length old
  pub contents : (g : ℕ) → (get_or new g no_slot).content ≡ (get_or old g no_slot).content
  pub there : slot < length old → (get_or new slot no_slot).start ≡ (get_or old slot no_slot).start + 1
  pub others : (g : ℕ) → g ≢ slot → (get_or new g no_slot).start ≡ (get_or old g no_slot).start

-- the slots, those before one with where their stamps begin, and the others with how many they have
pub record AreAddedTo (old new : List Slot) (stamps : List Stamp) (slot : ℕ) : Type 0 where
  pub count : length new ≡ length old
  pub contents : (g : ℕ) → (get_or new g no_slot).content ≡ (get_or old g no_slot).content
  pub starts : (g : ℕ) → g < slot → (get_or new g no_slot).start ≡ before_slot stamps g
  pub rest : (g : ℕ) → slot ≤ g → g < length old → (get_or new g no_slot).start ≡ own_count stamps g

use Rattle.std.proofs.Common.{◌≡◌, ℕ, zero, suc, ◌+◌, ◌<◌, ◌≤◌, List, [], ◌∷◌, length, get_or, map, refl, sym, ap, ap₂, ◌∙◌, subst, ⊎_elim, arith}
use Rattle.std.proofs.lemmas.Bool.{cases_eq, le-ltb}
use Rattle.pst_rows.specs.declared.content.Content.{Content}
use Rattle.pst_rows.specs.declared.content.Content.TheVariants.{Null}
use Rattle.pst_rows.specs.Slots.{SlotValue as Slot}
use Rattle.pst_rows.specs.declared.content.Stamp.{Stamp}
use Rattle.pst_rows.specs.Values.{no_slot, before_slot, AreStamps}
use Rattle.pst_rows.specs.Steps.{AreRecounted}
use Rattle.pst_rows.specs.Parts.{slots_from, bare_slot, AreBare, AreCounted, HasStart, AreAddedTo, PartsHold}
use Rattle.pst_rows.proofs.CountLemmas.{before_slot-cons, before_slot_step, before_slot_le}

-- the sum begins
pub added_none : (slots : List Slot) (stamps : List Stamp) → AreCounted slots slots stamps → AreAddedTo slots slots stamps 0
added_none slots stamps h = record { count = refl; contents = λ g. refl; starts = λ g l. absurd (omega arith); rest = λ g l m. h.starts g m }

pub before_none : (stamps : List Stamp) → before_slot stamps 0 ≡ 0
before_none [] = refl
before_none (x ∷ xs) = rw (before_slot-cons 0 x xs, le-ltb x.slot.0 0 (omega arith)) (omega (arith, before_none xs))

-- one slot more
pub added_more : (old mid new : List Slot) (stamps : List Stamp) (slot before : ℕ) → before ≡ before_slot stamps slot → AreAddedTo old mid stamps slot
    → HasStart mid new slot before → AreAddedTo old new stamps (slot + 1)
added_more old mid new stamps slot before e h k = record {
  count = k.count ∙ h.count;
  contents = λ g. k.contents g ∙ h.contents g;
  starts = λ g l.
      ⊎_elim
      (λ (same : g ≡ slot). ap (λ (n : ℕ). (get_or new n no_slot).start) same ∙ (k.there ∙ (e ∙ ap (before_slot stamps) (sym same))))
      (λ (other : g ≡ slot → ⊥). k.others g other ∙ h.starts g (omega (arith, other)))
      (cases_eq g slot);
  rest = λ g l m. k.others g (λ (same : g ≡ slot). omega arith) ∙ h.rest g (omega arith) m;
}

-- the sum goes on, and fits
pub record IsSumMore (stamps : List Stamp) (slot before own : ℕ) : Type 0 where
  pub next : before + own ≡ before_slot stamps (slot + 1)
  pub few : before + own ≤ length stamps

pub sum_more : (old mid : List Slot) (stamps : List Stamp) (slot before own : ℕ) → slot < length old → before ≡ before_slot stamps slot
    → AreAddedTo old mid stamps slot → own ≡ (get_or mid slot no_slot).start → IsSumMore stamps slot before own
sum_more old mid stamps slot before own l e h o =
    let s : before + own ≡ before_slot stamps (slot + 1) = omega (arith, before_slot_step stamps slot, o ∙ h.rest slot (omega arith) l) in
    record { next = s; few = omega (arith, s, before_slot_le stamps (slot + 1)) }

-- slots that hold these contents and know where their stamps begin are those of the definition
made : (stamps : List Stamp) (k : ℕ) (bases : List Content) (slots : List Slot) → length slots ≡ length bases
    → ((g : ℕ) → g < length bases → (get_or slots g no_slot).content ≡ get_or bases g Null)
    → ((g : ℕ) → g < length bases → (get_or slots g no_slot).start ≡ before_slot stamps (k + g)) → slots ≡ slots_from stamps k bases
made stamps k [] [] n c s = refl
made stamps k [] (x ∷ xs) n c s = absurd (omega arith)
made stamps k (b ∷ bs) [] n c s = absurd (omega arith)
made stamps k (b ∷ bs) (x ∷ xs) n c s =
    let first : x.start ≡ before_slot stamps k = s 0 (omega arith) ∙ ap (before_slot stamps) (omega arith) in
    let rest : xs ≡ slots_from stamps (suc k) bs = made stamps (suc k) bs xs (omega arith) (λ g l. c (suc g) (omega arith)) (λ g l. s (suc g) (omega arith) ∙ ap (before_slot stamps) (omega arith)) in
    let head : x ≡ record { content = b; start = before_slot stamps k } = ap₂ (λ (d : Content) (n : ℕ). record { content = d; start = n }) (c 0 (omega arith)) first in
    ap₂ (λ (y : Slot) (ys : List Slot). y ∷ ys) head rest

pub bare : (bases : List Content) → AreBare (map bare_slot bases)
bare bases = record { each = zero_at bases }
  where
    zero_at : (cs : List Content) (g : ℕ) → (get_or (map bare_slot cs) g no_slot).start ≡ 0
    zero_at [] g = refl
    zero_at (c ∷ cs) zero = refl
    zero_at (c ∷ cs) (suc g) = zero_at cs g

bare_content : (cs : List Content) (g : ℕ) → (get_or (map bare_slot cs) g no_slot).content ≡ get_or cs g Null
bare_content [] g = refl
bare_content (c ∷ cs) zero = refl
bare_content (c ∷ cs) (suc g) = bare_content cs g

bare_length : (cs : List Content) → length (map bare_slot cs) ≡ length cs
bare_length [] = refl
bare_length (c ∷ cs) = ap suc (bare_length cs)

-- what the steps make
pub all_made : (bases : List Content) (stamps : List Stamp) (slots added : List Slot) → slots ≡ map bare_slot bases → AreRecounted slots added stamps → added ≡ slots_from stamps 0 bases
all_made bases stamps slots added e k =
    let n : length slots ≡ length bases = ap length e ∙ bare_length bases in
    made stamps 0 bases added (k.count ∙ n)
    (λ g l. k.contents g ∙ (ap (λ (ss : List Slot). (get_or ss g no_slot).content) e ∙ bare_content bases g))
    (λ g l. k.starts g (omega (arith, k.count, n)) ∙ ap (before_slot stamps) (omega arith))

-- counted, and then added up
pub recounted : (old mid new : List Slot) (stamps : List Stamp) → AreCounted old mid stamps → AreRecounted mid new stamps → AreRecounted old new stamps
recounted old mid new stamps h k = record { count = k.count ∙ h.count; contents = λ g. k.contents g ∙ h.contents g; starts = k.starts }

from_length : (stamps : List Stamp) (k : ℕ) (bases : List Content) → length (slots_from stamps k bases) ≡ length bases
from_length stamps k [] = refl
from_length stamps k (c ∷ cs) = ap suc (from_length stamps (suc k) cs)

from_content : (stamps : List Stamp) (k : ℕ) (bases : List Content) (g : ℕ) → (get_or (slots_from stamps k bases) g no_slot).content ≡ get_or bases g Null
from_content stamps k [] g = refl
from_content stamps k (c ∷ cs) zero = refl
from_content stamps k (c ∷ cs) (suc g) = from_content stamps (suc k) cs g

from_start : (stamps : List Stamp) (k : ℕ) (bases : List Content) (g : ℕ) → g < length (slots_from stamps k bases) → (get_or (slots_from stamps k bases) g no_slot).start ≡ before_slot stamps (k + g)
from_start stamps k [] g l = absurd (omega arith)
from_start stamps k (c ∷ cs) zero l = ap (before_slot stamps) (omega arith)
from_start stamps k (c ∷ cs) (suc g) l = from_start stamps (suc k) cs g (omega arith) ∙ ap (before_slot stamps) (omega arith)

pub parts_hold : PartsHold
parts_hold lo hi bases stamps =
    let n : length (slots_from stamps 0 bases) ≡ length bases = from_length stamps 0 bases in
    record {
      width = n;
      content = from_content stamps 0 bases;
      row = λ r places life there narrow ordered. record {
        life = life;
        there = there;
        narrow = omega (arith, n);
        stamps = subst (λ (w : ℕ). AreStamps r (r lo.0) (r hi.0) w stamps) (sym n) ordered;
        starts = λ g l. from_start stamps 0 bases g l ∙ ap (before_slot stamps) (omega arith);
      };
    }

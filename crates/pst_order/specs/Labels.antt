-- The label rule: the labels of an order go once round a circle, and an insertion makes room behind its place.
use Rattle.std.specs.Prelude.{◌≡◌, ℕ, zero, suc, ◌+◌, ◌-◌, ◌*◌, ◌/◌, ◌%◌, ◌<◌, ◌≤◌, nat_lt, min, List, [], ◌∷◌, ◌++◌, length, get_or, set, take, drop, if◌then◌else◌, ⊤}
use Rattle.pst_order.specs.Places.{rank, AreBelow, AreNumbered}

-- how many labels there are: 2 ^ 62
unfoldable pub circle : ℕ
circle = 4611686018427387904

-- an order with the label of each place, by the place's number, and how many places more need no memory
pub record Labelled : Type 0 where
  pub places : List ℕ
  pub labels : List ℕ
  pub spare : ℕ

-- what two lists have room for, of which each place takes one number
abbrev pub room_for : (capacity count capacity' count' : ℕ) → ℕ
room_for capacity count capacity' count' = min (capacity - count) (capacity' - count')

-- the label of a place
abbrev pub label_of : List ℕ → ℕ → ℕ
label_of labels p = get_or labels p 0

-- the way round the circle from one label to another: the whole circle, to itself
abbrev pub ahead : ℕ → ℕ → ℕ
ahead a b = if nat_lt a b then b - a else b + circle - a

-- the way from the first place's label, from which the order is read
abbrev pub offset : List ℕ → ℕ → ℕ
offset labels p = (label_of labels p + circle - label_of labels 0) % circle

-- the places behind one, round the circle, and last itself
abbrev pub around : List ℕ → ℕ → List ℕ
around places p = drop (suc (rank places p)) places ++ take (rank places p) places ++ p ∷ []

-- the least j whose successor is further than j * j ahead of the label a; the first of the list is the j-th
abbrev pub reach : List ℕ → ℕ → List ℕ → ℕ → ℕ
reach labels a [] j = j
reach labels a (q ∷ qs) j = if nat_lt (j * j) (ahead a (label_of labels q)) then j else reach labels a qs (suc j)

-- the places get labels at even distances from a: the first the k-th of j shares of w
abbrev pub spread : List ℕ → List ℕ → ℕ → ℕ → ℕ → ℕ → List ℕ
spread labels [] a w j k = labels
spread labels (q ∷ qs) a w j k = spread (set labels q ((a + w * k / j) % circle)) qs a w j (suc k)

-- how far ahead the successor is that is reached
abbrev pub width : List ℕ → ℕ → List ℕ → ℕ
width labels a qs = ahead a (label_of labels (get_or qs (reach labels a qs 1 - 1) 0))

-- the labels with room behind p, whose successors are qs
abbrev pub with_room : List ℕ → List ℕ → ℕ → List ℕ
with_room labels qs p =
    let a : ℕ = label_of labels p in
    let j : ℕ = reach labels a qs 1 in
    spread labels (take (j - 1) qs) a (width labels a qs) j 1

-- the way from p to its successor, with room made
abbrev pub gap : List ℕ → List ℕ → ℕ → ℕ
gap labels qs p = ahead (label_of labels p) (label_of (with_room labels qs p) (get_or qs 0 0))

-- the labels with a new place behind p
abbrev pub labels_after : List ℕ → List ℕ → ℕ → List ℕ
labels_after labels qs p = with_room labels qs p ++ (label_of labels p + gap labels qs p / 2) % circle ∷ []

-- from a place on, so many places, each the next of the one before
abbrev pub walk : List ℕ → ℕ → ℕ → List ℕ
walk next zero p = []
walk next (suc n) p = p ∷ walk next n (get_or next p 0)

-- each place is the next of the one before, from p on
abbrev pub AreLinked : List ℕ → ℕ → List ℕ → Type 0
AreLinked next p [] = ⊤
AreLinked next p (q ∷ qs) = (get_or next p 0 ≡ q) × AreLinked next q qs

-- the way from p through the labels of these places
abbrev pub trip : List ℕ → ℕ → List ℕ → ℕ
trip labels p [] = 0
trip labels p (q ∷ qs) = ahead (label_of labels p) (label_of labels q) + trip labels q qs

-- the places are linked in a circle, and their labels go round once
abbrev pub IsRound : List ℕ → List ℕ → List ℕ → Type 0
IsRound next labels [] = ⊤
IsRound next labels (p ∷ ps) = AreLinked next p (ps ++ p ∷ []) × (trip labels p (ps ++ p ∷ []) ≡ circle)

-- the links and the labels hold an order, which begins with place 0
pub record IsRing (next labels : List ℕ) : Type 0 where
  pub same : length labels ≡ length next
  pub inside : AreBelow (length next) next
  pub low : AreBelow circle labels
  pub numbered : AreNumbered (walk next (length next) 0)
  pub round : IsRound next labels (walk next (length next) 0)

-- what is reached is far enough, and nothing before it is
abbrev pub LeastLaw : Type 0
LeastLaw = (labels : List ℕ) (a : ℕ) (qs : List ℕ) (k i : ℕ) → k ≤ i → i < reach labels a qs k → ahead a (label_of labels (get_or qs (i - k) 0)) ≤ i * i

-- the way ahead is the distance modulo the circle, and the whole circle where that is 0
abbrev pub AheadLaw : Type 0
AheadLaw = (a b : ℕ) → a < circle → b < circle → ((a ≡ b → ⊥) → ahead a b ≡ (b + circle - a) % circle) × (a ≡ b → ahead a b ≡ circle)

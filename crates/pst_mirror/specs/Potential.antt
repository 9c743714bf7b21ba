-- Capacity and potential: each node of more than half its capacity counts for what it has above it, so that a split, which
-- makes two of one, lowers the sum (the potential of Driscoll, Sarnak, Sleator and Tarjan).
use Rattle.std.specs.Prelude.{◌≡◌, ℕ, ◌+◌, ◌*◌, ◌-◌, ◌<◌, ◌≤◌, List, [], ◌∷◌, ◌++◌, length, set, get_or, sum_by, ⊤}
use Rattle.pst_base.specs.declared.names.TypeNo.{TypeNo}
use Rattle.pst_base.specs.declared.shape.TypeShape.{TypeShape}
use Rattle.pst_base.specs.declared.shape.TheConstants.{MOST_SLOTS}
use Rattle.pst_base.specs.Shape.{type_at, IsValid}

-- half the capacity of a type: its pointer fields and its limit
abbrev pub half : TypeShape → ℕ
half t = length t.targets + t.limit

-- how many values may be stamped in a node of a type before it is split
abbrev pub capacity : TypeShape → ℕ
capacity t = 2 * half t

-- the capacity is 2 at least, for the root record with no pointer, and twice the most slots of a node at most: 160
abbrev pub CapacityIsFew : Type 0
CapacityIsFew = (shape : List TypeShape) (ty : TypeNo) → IsValid shape → ty.0 < length shape →
    (2 ≤ capacity (type_at shape ty)) × (capacity (type_at shape ty) ≤ 2 * MOST_SLOTS)

-- what a node weighs: how many values are stamped in it, and half its capacity
pub record Load : Type 0 where
  pub stamped : ℕ
  pub half : ℕ

-- how far a node is above half its capacity
abbrev pub excess : Load → ℕ
excess l = l.stamped - l.half

abbrev pub potential : List Load → ℕ
potential ls = sum_by excess ls

abbrev pub stamped_in_all : List Load → ℕ
stamped_in_all ls = sum_by (λ l. l.stamped) ls

-- each load has what it had or more, at the same capacity
abbrev pub HasGrown : List Load → List Load → Type 0
HasGrown [] [] = ⊤
HasGrown [] (y ∷ ys) = ⊥
HasGrown (x ∷ xs) [] = ⊥
HasGrown (x ∷ xs) (y ∷ ys) = (x.half ≡ y.half) × (x.stamped ≤ y.stamped) × HasGrown xs ys

-- a node over its capacity becomes two halves, and the others have at most half a capacity more
pub record IsSplitLoad (old grown : List Load) (at : ℕ) (none whole left right : Load) : Type 0 where
  pub there : at < length old
  pub was : get_or old at none ≡ whole
  pub kept : get_or grown at none ≡ whole
  pub others : HasGrown old grown
  pub added : stamped_in_all grown ≤ stamped_in_all old + whole.half
  pub over : whole.half + whole.half < whole.stamped
  pub left_half : left.half ≡ whole.half
  pub right_half : right.half ≡ whole.half
  pub left_small : left.stamped + left.stamped ≤ whole.stamped
  pub right_small : right.stamped + right.stamped ≤ whole.stamped
  pub fewer : left.stamped + right.stamped < whole.stamped

abbrev pub PotentialFalls : Type 0
PotentialFalls = (old grown : List Load) (at : ℕ) (none whole left right : Load) → IsSplitLoad old grown at none whole left right →
    potential (set grown at left ++ right ∷ []) + 1 ≤ potential old

-- A list of places, by their numbers, and a new place in it.
use Rattle.std.specs.Prelude.{◌≡◌, ◌≢◌, ℕ, suc, ◌<◌, ◌≤◌, ◌==◌, List, [], ◌∷◌, length, if◌then◌else◌, ⊤}
use Rattle.std.specs.List.{insert}

-- where in the list a place stands, from 0: the list's length, for one that does not
abbrev pub rank : List ℕ → ℕ → ℕ
rank [] p = 0
rank (q ∷ qs) p = if q == p then 0 else suc (rank qs p)

-- the place stands in the list
pub record IsIn (ps : List ℕ) (p : ℕ) : Type 0 where
  pub there : rank ps p < length ps

-- no place stands in the list twice
abbrev pub AreDistinct : List ℕ → Type 0
AreDistinct [] = ⊤
AreDistinct (p ∷ ps) = (rank ps p ≡ length ps) × AreDistinct ps

-- a list with a new place directly behind another
pub record IsInsertedAfter (old new : List ℕ) (p z : ℕ) : Type 0 where
  pub fresh : rank old z ≡ length old
  pub list : new ≡ insert old (suc (rank old p)) z

-- each number is below n
abbrev pub AreBelow : ℕ → List ℕ → Type 0
AreBelow n [] = ⊤
AreBelow n (p ∷ ps) = (p < n) × AreBelow n ps

-- a list of distinct places whose numbers are below its length
pub record AreNumbered (ps : List ℕ) : Type 0 where
  pub some : 0 < length ps
  pub distinct : AreDistinct ps
  pub small : AreBelow (length ps) ps

-- the ranks after an insertion behind p
pub record AreRanked (old new : List ℕ) (p z : ℕ) : Type 0 where
  pub count : length new ≡ suc (length old)
  pub new_is : rank new z ≡ suc (rank old p)
  pub early : (q : ℕ) → rank old q ≤ rank old p → rank new q ≡ rank old q
  pub late : (q : ℕ) → q ≢ z → rank old p < rank old q → rank new q ≡ suc (rank old q)
  pub stays : (q : ℕ) → rank old q < length old → rank new q < length new

-- what an insertion does to the ranks
abbrev pub RanksLaw : Type 0
RanksLaw = (old new : List ℕ) (p z : ℕ) → rank old p < length old → IsInsertedAfter old new p z → AreRanked old new p z

-- an insertion keeps the order of the places that were there
abbrev pub RanksRiseLaw : Type 0
RanksRiseLaw = (old new : List ℕ) (p z : ℕ) → rank old p < length old → IsInsertedAfter old new p z → (a b : ℕ) → rank old a < rank old b → rank old b < length old → rank new a < rank new b

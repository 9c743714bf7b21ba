-- A text on a disk: groups of bytes, each with the byte 30 at its end, and zeros behind them.
use Rattle.std.specs.Prelude.{◌≡◌, ◌≢◌, ◌⊎◌, ℕ, ◌<◌, List, [], ◌∷◌, ◌++◌, length, drop, slice_index, if◌then◌else◌, ◌==◌}

-- a byte, where something follows it
abbrev pub joined : ℕ → List ℕ → List ℕ
joined b [] = []
joined b (x ∷ xs) = b ∷ x ∷ xs

-- the whole groups before the first zero byte
abbrev pub whole : List ℕ → List ℕ
whole [] = []
whole (b ∷ rest) = if b == 0 then [] else if b == 30 then b ∷ whole rest else joined b (whole rest)

-- what stands behind the whole groups
abbrev pub behind : List ℕ → List ℕ
behind text = drop (length (whole text)) text

-- no byte of it is zero or ends a group
abbrev pub IsPlain : List ℕ → Type 0
IsPlain body = (i : ℕ) → i < length body → (slice_index body i ≢ 0) × (slice_index body i ≢ 30)

-- one group
pub record IsGroup (group : List ℕ) : Type 0 where
  pub body : List ℕ
  pub plain : IsPlain body
  pub is : group ≡ body ++ 30 ∷ []

-- a byte other than zero stands behind the end of a group
pub record GoesOn (rest : List ℕ) : Type 0 where
  pub end_at : ℕ
  pub is_end : slice_index rest end_at ≡ 30
  pub later : ℕ
  pub behind_end : end_at < later
  pub some : slice_index rest later ≢ 0

-- What stands behind the whole groups may be a crash's: there is a zero, and where the first byte is none, then nothing stands behind
-- the end of a group. So a group that was cut short is told from one that was damaged while others stood behind it.
pub record IsTornEnd (rest : List ℕ) : Type 0 where
  pub zero_at : ℕ
  pub inside : zero_at < length rest
  pub is_zero : slice_index rest zero_at ≡ 0
  pub last : (slice_index rest 0 ≡ 0) ⊎ ((i j : ℕ) → i < j → slice_index rest i ≡ 30 → slice_index rest j ≡ 0)

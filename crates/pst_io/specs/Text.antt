-- The lines of a text, as tools of the shell cut it: at each line feed, which is byte 10.
use Rattle.std.specs.Prelude.{◌≡◌, ℕ, ◌<◌, ◌==◌, Bool, List, [], ◌∷◌, ◌++◌, length, take, slice_index, if◌then◌else◌}

-- a byte in front of the first line, which it begins if there is none
abbrev pub onto_first : ℕ → List (List ℕ) → List (List ℕ)
onto_first b [] = (b ∷ []) ∷ []
onto_first b (line ∷ lines) = (b ∷ line) ∷ lines

-- A line ends at a line feed. Bytes after the last one are a line too, if there are any.
abbrev pub lines_of : List ℕ → List (List ℕ)
lines_of [] = []
lines_of (b ∷ bytes) = if b == 10 then [] ∷ lines_of bytes else onto_first b (lines_of bytes)

-- a byte in front of the first line, if there is one
abbrev pub onto_whole : ℕ → List (List ℕ) → List (List ℕ)
onto_whole b [] = []
onto_whole b (line ∷ lines) = (b ∷ line) ∷ lines

-- the lines that a line feed ends
abbrev pub whole_lines : List ℕ → List (List ℕ)
whole_lines [] = []
whole_lines (b ∷ bytes) = if b == 10 then [] ∷ whole_lines bytes else onto_whole b (whole_lines bytes)

-- the bytes of a line, with its line feed if one ended it
abbrev pub line_text : List ℕ → Bool → List ℕ
line_text line fed = if fed then line ++ 10 ∷ [] else line

-- the first line feed of the bytes stands at i
pub record IsFirstFeed (i : ℕ) (bytes : List ℕ) : Type 0 where
  pub within : i < length bytes
  pub here : slice_index bytes i ≡ 10
  pub before : whole_lines (take i bytes) ≡ []

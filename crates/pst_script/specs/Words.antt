-- The words of a line of a script.
use Rattle.std.specs.Prelude.{ℕ, Bool, true, false, ◌==◌, ◌&&◌, ◌||◌, List, [], ◌∷◌, drop, filter, nat_eq, codes}
use Rattle.std.specs.List.{list_all, slice_split, starts_with}

-- a space, a tab or a carriage return
abbrev pub is_blank : ℕ → Bool
is_blank b = b == 32 || (b == 9 || b == 13)

-- a text with a byte
abbrev pub is_some_text : List ℕ → Bool
is_some_text [] = false
is_some_text (b ∷ bytes) = true

-- the words of a line: the parts between its blanks, but for the empty ones
unfoldable pub words : List ℕ → List (List ℕ)
words line = filter is_some_text (slice_split is_blank line)

-- two percent signs, and nothing behind them but blanks
abbrev pub is_separator : List ℕ → Bool
is_separator line = starts_with nat_eq line (codes "%%") && list_all is_blank (drop 2 line)

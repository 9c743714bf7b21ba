-- What a name of a program's text shows of what it keeps.
use Rattle.std.specs.Prelude.{◌≡◌, ℕ, ◌≤◌, List, length, take}
use Rattle.pst_grammar.specs.declared.identifier.Kept.{Kept}
use Rattle.pst_grammar.specs.declared.identifier.Kept.TheVariants.{Short, Long}

-- its bytes: so many of those of a short name, all of a long one
abbrev pub shown : Kept → List ℕ
shown (Short len bytes) = take len bytes
shown (Long bytes) = bytes.value.items

-- a short name has the room that it says
abbrev pub IsWhole : Kept → Type 0
IsWhole (Short len bytes) = (len ≤ 14) × (length bytes ≡ 14)
IsWhole (Long bytes) = Unit {0}

-- A table of temporary registers by rows, one for each level.
use Rattle.std.specs.Prelude.{◌≡◌, ℕ, suc, List, [], ◌∷◌, Option, Some, None, slice_index_or, if◌then◌else◌}
use Rattle.std.specs.Option.{option_map}
use Rattle.pst_base.specs.declared.names.Kind.{Kind}
use Rattle.pst_program.specs.Typed.{same_kind}
use Rattle.pst_translation.specs.declared.need.Need.{Need}
use Rattle.pst_translation.specs.Needs.{need, same_need}
use Rattle.pst_codegen_expressions.specs.declared.table.Temporary.{Temporary}

-- the index at which a table has a level and a kind
abbrev pub index_noted : List Need → (level : ℕ) → Kind → Option ℕ
index_noted [] level kind = None
index_noted (n ∷ table) level kind = if same_need n (need level kind) then Some 0 else option_map suc (index_noted table level kind)

-- the index that a row has for a kind
abbrev pub found_in : List Temporary → Kind → Option ℕ
found_in [] kind = None
found_in (p ∷ row) kind = if same_kind p.kind kind then Some p.index else found_in row kind

-- the row of a level, which is empty where there is none
abbrev pub row_at : List (List Temporary) → (level : ℕ) → List Temporary
row_at rows level = slice_index_or rows level []

-- the rows give each index of the table
abbrev pub IsIndexed : List (List Temporary) → List Need → Type 0
IsIndexed rows table = (level : ℕ) (kind : Kind) → found_in (row_at rows level) kind ≡ index_noted table level kind

-- The undo list of a run: which fields are noted, and that each is noted once.
use Rattle.std.specs.Prelude.{◌≡◌, ⊤, ℕ, Bool, false, ◌&&◌, ◌==◌, List, [], ◌∷◌, map, All, Some, None, if◌then◌else◌}
use Rattle.std.specs.List.{list_any}
use Rattle.pst_line_nodes.specs.declared.content.Content.{Content}
use Rattle.pst_line.specs.declared.place.Undo.{Undo}
use Rattle.pst_line.specs.Store.{Stored}
use Rattle.pst_line.specs.Undoing.{IsEntered}

-- the entry of a field, by the first node of its record and its slot, with what the field had
abbrev pub entry_in : (ℕ × ℕ) × Content → Undo
entry_in e = record { node = record { 0 = e.0.0 }; slot = record { 0 = e.0.1 }; content = e.1 }

abbrev pub entries_in : List ((ℕ × ℕ) × Content) → List Undo
entries_in es = map entry_in es

-- an entry is of this field
abbrev pub is_of : ℕ × ℕ → Undo → Bool
is_of k u = (k.0 == u.node.0) && (k.1 == u.slot.0)

-- some entry is of this field
abbrev pub is_noted : List Undo → ℕ × ℕ → Bool
is_noted us k = list_any (is_of k) us

-- what a field had is noted, unless the field is noted already
abbrev pub with_entry : Undo → List Undo → List Undo
with_entry u us = if is_noted us (u.node.0, u.slot.0) then us else u ∷ us

-- each field is noted once: no entry is of the field of one behind it
abbrev pub IsOnce : List Undo → Type 0
IsOnce [] = ⊤
IsOnce (u ∷ us) = (is_noted us (u.node.0, u.slot.0) ≡ false) × IsOnce us

-- What a store's undo list is: each field of a record stands in it at most once, and only one that the open run has written, so that
-- it is never longer than the fields that the run has touched are many. It is empty while no run is open.
pub record AreNoted (s : Stored) (us : List Undo) : Type 0 where
  pub once : IsOnce us
  pub written : (b : ℕ) → s.opened ≡ Some b → s.failed ≡ false → All (IsEntered s) us
  pub none : s.opened ≡ None → us ≡ []

-- Access paths of the records of a heap, and the order that their least ones give (this project's own rule).
use Rattle.std.specs.Prelude.{◌≡◌, ◌⊎◌, ℕ, ◌<◌, List, [], ◌∷◌, length, Option, Some, None, nat_lt, if◌then◌else◌}
use Rattle.std.specs.List.{AllZip, AllPairs, Contains}
use Rattle.std.specs.Option.{option_and_then}
use Rattle.std.specs.FinMap.{get}
use Rattle.pst_base.specs.declared.names.Name.{Name}
use Rattle.pst_base.specs.Name.{root_name}
use Rattle.pst_base.specs.Heap.{Rec, Heap, pointer_at}

-- the pointer slots on a way from record to record
abbrev pub Path : Type 0
Path = List ℕ

abbrev pub target_from : (slot : ℕ) → Option Rec → Option Name
target_from slot None = None
target_from slot (Some r) = if nat_lt slot (length r.values) then None else pointer_at r slot

-- the record that a slot of a record holds: none where the slot holds a number or null, or where there is no such slot
abbrev pub target_in : Heap → Name → (slot : ℕ) → Option Name
target_in h n slot = target_from slot (get h n)

-- the record that a path leads to, from where it begins, if it leads to one
abbrev pub led_from : Heap → Option Name → Path → Option Name
led_from h at [] = at
led_from h at (slot ∷ path) = led_from h (option_and_then (λ n. target_in h n slot) at) path

-- an access path of a record: it leads from the root record to that record
abbrev pub Leads : Heap → Path → Name → Type 0
Leads h path n = led_from h (Some root_name) path ≡ Some n

-- the first path comes before the second one in the lexicographic order of slots
abbrev pub IsLower : Path → Path → Type 0
IsLower [] [] = ⊥
IsLower [] (b ∷ q) = Unit {0}
IsLower (a ∷ p) [] = ⊥
IsLower (a ∷ p) (b ∷ q) = (a < b) ⊎ ((a ≡ b) × IsLower p q)

-- the order of paths: shorter ones first, and those of one length in lexicographic order
abbrev pub IsBefore : Path → Path → Type 0
IsBefore p q = (length p < length q) ⊎ ((length p ≡ length q) × IsLower p q)

-- the least access path of a record: none comes before it
pub record IsLeast (h : Heap) (n : Name) (path : Path) : Type 0 where
  pub leads : Leads h path n
  pub least : (other : Path) → Leads h other n → ¬ (IsBefore other path)

-- The records that the root record reaches, each once and no other one, in the order of their least access paths. The
-- number of a record is its place in the list.
pub record AreNumbered (h : Heap) (names : List Name) : Type 0 where
  pub paths : List Path
  pub least : AllZip (IsLeast h) names paths
  pub rising : AllPairs IsBefore paths
  pub reached : (n : Name) (path : Path) → Leads h path n → Contains names n

-- What an engine leaves beside a store: what the rules of an image ask of runs.
use Rattle.std.specs.Prelude.{◌≡◌, ◌≢◌, ◌⊎◌, ℕ, ◌*◌, ◌<◌, ◌≤◌, ◌^◌, Some, slice_get, length}
use Rattle.pst_base.specs.Name.{root_name}
use Rattle.pst_base.specs.Shape.{type_at}
use Rattle.pst_mirror.specs.Potential.{capacity}
use Rattle.pst_program.specs.Sound.{CountsWithin}
use Rattle.pst_store_meaning.specs.Store.{Node, Stored, arena}
use Rattle.pst_image_meaning.specs.Versions.{AreVersionsNested}

-- the names of nodes: run 0 for the root record alone, and the others below the next run
abbrev pub AreNamed : Stored → (next : ℕ) → Type 0
AreNamed s next = (i : ℕ) → i < length s.nodes → ((arena s).name i ≡ root_name) ⊎ (((arena s).name i).run.0 ≢ 0) × ((((arena s).name i).run.0) < next)

-- two places at most for each run, the versions, the names of nodes, and the counts
pub record IsLeftStore (s : Stored) (next : ℕ) : Type 0 where
  pub places : length s.places ≤ 2 * next
  pub versions : AreVersionsNested s next
  pub named : AreNamed s next
  pub counts : CountsWithin s.counts (2 ^ 50)

-- the number of the next run, and a budget
pub record AreNumbers (next budget : ℕ) : Type 0 where
  pub next_low : 1 ≤ next
  pub next_high : next ≤ 1048577
  pub budget_low : 1 ≤ budget
  pub budget_high : budget ≤ 1000000000

-- no node has more stamped values than its type's capacity
abbrev pub AreSmall : Stored → Type 0
AreSmall s = (i : ℕ) (n : Node) → slice_get s.nodes i ≡ Some n → length n.row.stamps ≤ capacity (type_at s.shape n.head.ty)

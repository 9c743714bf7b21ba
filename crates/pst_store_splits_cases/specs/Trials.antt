-- What the clients of the tests need of a heap whose places are forked.
use Rattle.std.specs.Prelude.{◌≡◌, ℕ, ◌+◌, ◌≤◌, Some}
use Rattle.pst_base.specs.declared.names.Kind.TheVariants.{Int}
use Rattle.pst_base.specs.Name.{root_name}
use Rattle.pst_base.specs.Heap.{kind_in}
use Rattle.pst_versions.specs.declared.versioned.TheConstants.{MOST_FORKS}
use Rattle.pst_versions.specs.State.{State, IsPublished}
use Rattle.pst_versions.specs.Client.{HasRoomFor}

-- a field of the root record holds a number at a place
pub record HoldsNumber {P R : Type 0} (s : State P R) (slot : ℕ) (p : P) : Type 0 where
  pub has : s.has p
  pub field : kind_in s.shape (s.heap p) root_name slot ≡ Some Int

-- a published place can be forked so many times, and a field of the root record that holds a number written once at each fork
pub record IsReady {P R : Type 0} (s : State P R) (from : P) (slot n : ℕ) : Type 0 where
  pub published : IsPublished s from
  pub number : HoldsNumber s slot from
  pub calls : s.fork_calls + n ≤ MOST_FORKS
  pub room : HasRoomFor s n

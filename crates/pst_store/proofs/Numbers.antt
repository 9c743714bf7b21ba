-- What a number leaves that is written.
use Rattle.std.proofs.Common.{◌≡◌, ℕ, List, ℤ, Some, sym, subst}
use Rattle.pst_base.specs.declared.names.NodeId.{NodeId}
use Rattle.pst_base.specs.declared.names.Name.{Name}
use Rattle.pst_base.specs.declared.names.Kind.TheVariants.{Int}
use Rattle.pst_versions.specs.State.{HasRoom, ValueStored, WritesStay}
use Rattle.pst_store_meaning.specs.declared.place.Place.{Place}
use Rattle.pst_store_meaning.specs.Arena.{IsIn}
use Rattle.pst_store_meaning.specs.Store.{Node, Noted, Stored, arena, begin_of, state_of, IsOpen, IsStore}
use Rattle.pst_store_meaning.specs.Steps.{with_nodes, one_number}
use Rattle.pst_store_meaning.proofs.Stepping.{value_law}
use Rattle.pst_store_arena.specs.Calls.{arena_at, IsNumberWritten, IsWritten}
use Rattle.pst_store.specs.Calls.{IsKept, kind_at}
use Rattle.pst_store.proofs.Held.{held_kept, order_same}
use Rattle.pst_store.proofs.Stores.{at_s, counted_number, read_int}

module _ (s g : Stored) (nodes : List Node) (noted : Noted) (at : Place) (r : NodeId) (x f : ℕ) (v : ℤ) (e : s ≡ g) (k : IsKept s)
    (o : (state_of g).writable at) (l : (state_of g).live at r) (kind : kind_at g at r f ≡ Some Int)
    (i : IsIn (arena s) x (begin_of s at)) (same : (arena s).name x ≡ (arena s).name r.0)
    (w : IsNumberWritten s.shape s.places s.nodes nodes x f at v) (d : IsWritten s.shape s.places nodes s.noted noted) (room : HasRoom (state_of g)) where
  abbrev pub t : Stored
  t = with_nodes s nodes noted (one_number s.counts)

  open_s : IsOpen s.forks at
  open_s = subst (λ (g : Stored). (state_of g).writable at) (sym e) o

  step : IsStore t × ValueStored (state_of s) at ((arena s).name x) f v (state_of t) × WritesStay (state_of s) (state_of t)
  step = value_law s nodes noted at x f v k.store open_s (d.rows, d.wide) w.grown w.set i (read_int s g at r f x e k.store l kind i same)

  pub written_kept : IsKept t
  written_kept = record {
    store = step.0;
    waiting = d.waiting;
    held = held_kept (arena s) (arena_at s.places nodes) s.noted noted d.roots (order_same (arena s) (arena_at s.places nodes) w.set.nodes) k.held;
    counted = counted_number s.counts k.counted (at_s s g (λ (s : Stored). HasRoom (state_of s)) e room).value_writes;
  }

  pub written_stored : ValueStored (state_of g) at ((state_of g).name r) f v (state_of t)
  written_stored = subst (λ (g : Stored). ValueStored (state_of g) at ((state_of g).name r) f v (state_of t)) e (subst (λ (n : Name). ValueStored (state_of s) at n f v (state_of t)) same step.1)

  pub written_writes : WritesStay (state_of g) (state_of t)
  written_writes = subst (λ (g : Stored). WritesStay (state_of g) (state_of t)) e step.2

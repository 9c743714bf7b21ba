-- What an engine leaves over a store.
use Rattle.std.proofs.Common.{◌≡◌, ℕ, ◌+◌, ◌<◌, ◌≤◌, ◌^◌, Option, Some, None, sym, subst, arith, IfSome}
use Rattle.std.specs.Prelude.{IsSomeAnd}
use Rattle.pst_base.specs.declared.names.NodeId.{NodeId}
use Rattle.pst_base.specs.declared.names.Counts.{Counts}
use Rattle.pst_base.specs.declared.names.RunNo.{RunNo}
use Rattle.pst_code.specs.declared.procedure.Parts.{Parts}
use Rattle.pst_program.specs.Sound.{CountsWithin}
use Rattle.pst_history.specs.Meaning.{Meaning}
use Rattle.pst_history.specs.History.{History, counts_of}
use Rattle.pst_engine_runs.specs.Runs.{machine_runs}
use Rattle.pst_engine.specs.declared.engine.Engine.{Engine}
use Rattle.pst_engine.specs.Stands.{EngineStands}
use Rattle.pst_store_meaning.specs.declared.place.Place.{Place}
use Rattle.pst_store_meaning.specs.Store.{Stored, IsStore}
use Rattle.pst_store.specs.Whole.{state_in}
use Rattle.pst_image_meaning.specs.Left.{IsLeftStore}
use Rattle.pst_image_engine.proofs.Left.{left_rules_law}

module _ {H : Type 0} (m : Meaning) (parts : Parts) (engine : Engine H NodeId Place) (h : History) where
  -- an empty store holds no version
  empty_stands : EngineStands (record { meaning = m; parts = parts }) engine (state_in None) h → ⊥
  empty_stands e = let many = e.versions.many in let base = e.sound.start.same in omega (arith, many, base)

  pub leaves : (o : Option Stored) (next : RunNo) → next ≡ engine.next_run → IfSome o IsStore
      → EngineStands (record { meaning = m; parts = parts }) engine (state_in o) h → CountsWithin (state_in o).counts (2 ^ 50)
      → IsSomeAnd o (λ s. IsLeftStore s next.0)
  leaves None next same k e few = absurd (empty_stands e)
  leaves (Some s) next same k e few =
      let counted : CountsWithin (counts_of m h) (2 ^ 50) = let Q : Counts → Type 0 = λ c. CountsWithin c (2 ^ 50) in subst Q e.counts few in
      subst (λ (n : RunNo). IsLeftStore s n.0) (sym same) (left_rules_law H m (machine_runs parts) engine.active.items.items engine.budget engine.next_run.0 s h k e counted)

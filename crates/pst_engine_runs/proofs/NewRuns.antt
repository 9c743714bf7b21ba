-- What a new run finds.
use Rattle.std.proofs.Common.{None, Option, ◌≡◌, inl, inr, ℕ, ◌<◌, List, length, refl, ap, ◌∙◌, subst, arith, slice_get, Some}
use Rattle.pst_base.specs.declared.names.RunNo.{RunNo}
use Rattle.pst_base.specs.Heap.{Heap}
use Rattle.std.specs.Prelude.{IfSome}
use Rattle.std.specs.FinMap.{get}
use Rattle.pst_base.specs.Heap.{Rec}
use Rattle.pst_base.specs.declared.names.Name.{Name}
use Rattle.pst_program.specs.Laws.{IsOlder}
use Rattle.pst_versions.specs.declared.rows.VersionRow.{VersionRow}
use Rattle.pst_versions.specs.State.{State, IsSound, IsFresh, Forked}
use Rattle.pst_history.specs.Meaning.{Meaning}
use Rattle.pst_history.specs.History.{History}
use Rattle.pst_history.proofs.Sound.{present}
use Rattle.pst_machine.specs.declared.activation.Activation.{Activation}
use Rattle.pst_engine_runs.specs.declared.entry.OpenEntry.{OpenEntry}
use Rattle.pst_engine_runs.specs.Runs.{Runs, IsFreeFor}
use Rattle.pst_engine_runs.specs.Stands.{StandsFor}

none-older : (heap : Heap) (next : ℕ) (n : Name) (o : Option Rec) → IsOlder heap next → n.run.0 ≡ next → get heap n ≡ o → o ≡ None
none-older heap next n None older same e = refl
none-older heap next n (Some r) older same e = absurd (let below = older n r e in omega arith)

module _ {H P R : Type 0} (m : Meaning) (x : Runs P R (Activation H R P)) (s : State P R) (active : List (OpenEntry H R P)) (budget next : ℕ)
    (h : History) (stand : StandsFor m x active budget next s h) where
  -- no record has the next run number
  pub names-free : (run : RunNo) → run.0 ≡ next → (n : Name) → n.run ≡ run → IsFresh s n
  names-free run number n same = record { fresh = λ p has. none-older (s.heap p) next n (get (s.heap p) n) (stand.older p has) (ap (λ (r : RunNo). r.0) same ∙ number) refl }

  pub begins-at : IsSound s → (at : P) → s.has at → (run : RunNo) → run.0 ≡ next → IsFreeFor m s at run
  begins-at sound at has run number = record { sound = sound; shape = stand.shape; has = has; fresh = names-free run number }

  pub begins-forked : (t : State P R) (from place : P) → Forked s from place t → s.has from → IsSound t → (run : RunNo) → run.0 ≡ next → IsFreeFor m t place run
  begins-forked t from place f source sound run number = record {
    sound = sound;
    shape = f.grows.shape ∙ stand.shape;
    has = f.has;
    fresh = λ n same.
        let free = names-free run number n same in
        record {
          fresh = λ q there. elim (f.only q there) as (λ _. get (t.heap q) n ≡ None) [
            | inl e ↦ ap (λ (z : P). get (t.heap z) n) e ∙ ap (λ y. get y n) f.heap ∙ free.fresh from source
            | inr was ↦ ap (λ y. get y n) (f.heaps q was) ∙ free.fresh q was
          ];
        };
  }

-- the row of a version by the place that was answered
pub row-at : {P : Type 0} (rows : List (VersionRow P)) (k : ℕ) (place : P) → k < length rows → IfSome (slice_get rows k) (λ row. row.place ≡ place)
    → (row : VersionRow P) × (slice_get rows k ≡ Some row) × (row.place ≡ place)
row-at {P = P} rows k place less is = let w = present rows k less in (w.0, w.1, (let Q : Option (VersionRow P) → Type 0 = λ o. IfSome o (λ row. row.place ≡ place) in subst Q w.1 is))

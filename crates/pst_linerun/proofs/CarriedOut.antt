-- One call at a place, carried to its end with the whole budget.
use Rattle.std.proofs.Common.{◌≡◌, inl, inr, ℕ, ◌+◌, ◌<◌, ◌^◌, List, ℤ, [], min, ap, sym, ◌∙◌, subst, arith}
use Rattle.pst_base.specs.declared.names.RunNo.{RunNo}
use Rattle.pst_base.specs.Counts.{counts_plus}
use Rattle.pst_program.specs.declared.meaning.Ended.{Ended}
use Rattle.pst_program.specs.Outcome.{Outcome, no_counts}
use Rattle.pst_versions.specs.State.{State}
use Rattle.pst_history.specs.declared.history.NamedCall.{NamedCall}
use Rattle.pst_history.specs.Meaning.{Meaning, Work}
use Rattle.pst_history.proofs.Sums.{counts_plus-none}
use Rattle.pst_engine_runs.specs.Runs.{Runs, MayAdd, IsWaiting, RanOn}
use Rattle.pst_linerun.specs.Carried.{MayCarryOut, CameTo, one_call}

-- ---- nothing was done

-- ---- the call

abbrev bare_work : RunNo → (budget : ℕ) → Work
bare_work run budget = record { run = run; calls = []; budget = budget }

module _ {P R A : Type 0} (m : Meaning) (x : Runs P R A) (s : State P R) (at : P) (run : RunNo) (budget : ℕ) (call : NamedCall) (may : MayCarryOut m s at run budget call) where
  abbrev work : Work
  work = one_call run budget call

  pub may-add : (a : A) → x.place a ≡ at → x.stands a s (bare_work run budget) 0 (s.heap at) no_counts → MayAdd m x s a (bare_work run budget) 0 (s.heap at) no_counts call
  may-add a placed stands = record { stands = stands; ready = may.ready; writable = elim may.writable [ inl q ↦ inl q | inr w ↦ inr (subst s.writable (sym placed) w) ] }

  pub waiting : (b : A) → x.waits b s work 0 (s.heap at) no_counts → IsWaiting m x s b work 0 (s.heap at) no_counts
  waiting b waits = record { ready = may.ready; granted_within = omega arith; waits = waits }

  pub came : (a b : A) (t : State P R) (end : Ended) → x.place a ≡ at → budget < 2 ^ 32
      → RanOn m x s a work (min (0 + 4294967295) budget) (s.heap at) no_counts end t b → (printed : List ℤ) → printed ≡ x.printed b
      → CameTo m s at work printed end t
  came a b t end placed less adv printed is =
      let all : min (0 + 4294967295) budget ≡ budget = omega arith in
      let same : m.outcome work (min (0 + 4294967295) budget) (s.heap at) ≡ m.outcome work budget (s.heap at) = ap (λ k. m.outcome work k (s.heap at)) all in
      record {
        heap = ap t.heap (sym placed) ∙ adv.heap ∙ ap (λ (o : Outcome). o.heap) same;
        printed_is = is ∙ adv.printed ∙ ap (λ (o : Outcome). o.printed) same;
        end_is = adv.is_end ∙ ap (λ (o : Outcome). o.end) same;
        counts = sym (counts_plus-none t.counts) ∙ adv.counts ∙ ap (λ (o : Outcome). counts_plus s.counts o.counts) same;
      }

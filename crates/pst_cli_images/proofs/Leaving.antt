-- What an engine leaves, and the image of it.
use Rattle.std.proofs.Common.{◌≡◌, ℕ, List, Option, Some, None, Result, Ok, Err, refl, ap, ◌∙◌, subst, arith}
use Rattle.std.specs.Prelude.{IfOk, IsSomeAnd}
use Rattle.pst_base.specs.declared.names.NodeId.{NodeId}
use Rattle.pst_base.specs.declared.names.RunNo.{RunNo}
use Rattle.pst_base.specs.declared.shape.TypeShape.{TypeShape}
use Rattle.pst_code.specs.declared.procedure.Parts.{Parts}
use Rattle.pst_history.specs.Meaning.{Meaning}
use Rattle.pst_history.specs.History.{History, next_run}
use Rattle.pst_engine.specs.declared.engine.Engine.{Engine}
use Rattle.pst_engine.specs.Stands.{EngineStands}
use Rattle.pst_store_meaning.specs.declared.place.Place.{Place}
use Rattle.pst_store_meaning.specs.Arena.{Arena, heap_at}
use Rattle.pst_store_meaning.specs.Store.{Stored, arena, begin_of, state_of}
use Rattle.pst_store.specs.Whole.{state_in}
use Rattle.pst_image_form.specs.Bytes.{Fits, image_bytes}
use Rattle.pst_image_rules.specs.Rules.{IsJudged}
use Rattle.pst_image_meaning.specs.Parts.{parts_of}
use Rattle.pst_image_meaning.specs.Left.{AreNumbers}
use Rattle.pst_program.specs.declared.program.Program.{Program}
use Rattle.pst_program.specs.View.{routines_of}
use Rattle.pst_translation.specs.Compiled.{code_of}
use Rattle.pst_cli_serving.specs.Storing.{IsRunning}
use Rattle.pst_image_meaning.specs.Denoted.{arena_in}
use Rattle.pst_cli_images.specs.Packing.{IsImage}

module _ {H : Type 0} (m : Meaning) (parts : Parts) (engine : Engine H NodeId Place) (h : History) where
  pub numbers : (o : Option Stored) (next : RunNo) (budget : ℕ) → next ≡ engine.next_run → budget ≡ engine.budget
      → EngineStands (record { meaning = m; parts = parts }) engine (state_in o) h → AreNumbers next.0 budget
  numbers o next budget n b e =
      let same_next : next.0 ≡ next_run h = ap (λ (r : RunNo). r.0) n ∙ e.same_next in
      let same_budget : budget ≡ h.budget = b ∙ e.same_budget in
      record {
        next_low = (let low = e.sound.start.next in omega (arith, same_next, low));
        next_high = (let few = e.sound.few in omega (arith, same_next, few));
        budget_low = (let low = e.sound.budget.0 in omega (arith, same_budget, low));
        budget_high = (let high = e.sound.budget.1 in omega (arith, same_budget, high));
      }

  pub imaged : (o : Option Stored) (next : RunNo) (budget : ℕ) (text image : List ℕ) → next ≡ engine.next_run → budget ≡ engine.budget
      → EngineStands (record { meaning = m; parts = parts }) engine (state_in o) h
      → IsSomeAnd o (λ s. image ≡ image_bytes (parts_of s text next.0 budget)) → IsSomeAnd o (λ s. Fits (parts_of s text next.0 budget))
      → IsSomeAnd o (λ s. IsJudged s.shape (parts_of s text next.0 budget) None)
      → IsSomeAnd o (λ s. arena_in s.shape (parts_of s text next.0 budget) ≡ arena s) → IsImage o text m.shape h image
  imaged None next budget text image n c e b f j d = absurd b
  imaged (Some s) next budget text image n c e b f j d =
      let same_next : next.0 ≡ next_run h = ap (λ (r : RunNo). r.0) n ∙ e.same_next in
      let same_budget : budget ≡ h.budget = c ∙ e.same_budget in
      let P : ℕ → ℕ → Type 0 = λ n c. (image ≡ image_bytes (parts_of s text n c)) × Fits (parts_of s text n c) × IsJudged s.shape (parts_of s text n c) None in
      let all : P (next_run h) h.budget = subst (λ (n : ℕ). P n h.budget) same_next (subst (λ (c : ℕ). P next.0 c) same_budget (b, f, j)) in
      record {
        there = s;
        is = refl;
        bytes = all.0;
        fits = all.1;
        rules = subst (λ (shape : List TypeShape). IsJudged shape (parts_of s text (next_run h) h.budget) None) e.shape all.2;
        denotes = λ p.
            subst (λ (shape : List TypeShape). heap_at shape (arena_in shape (parts_of s text (next_run h) h.budget)) (begin_of s p) ≡ (state_of s).heap p) e.shape
            (ap (λ (w : Arena). heap_at s.shape w (begin_of s p)) d);
      }

-- the image that comes is that of each history for which session and store stand
pub image_for_each : {H E : Type 0} (program : Program) (engine : Engine H NodeId Place) (o : Option Stored) (next : RunNo) (budget : ℕ)
    (text : List ℕ) (r : Result (List ℕ) E) → next ≡ engine.next_run → budget ≡ engine.budget
    → IfOk r (λ image. IsSomeAnd o (λ s. image ≡ image_bytes (parts_of s text next.0 budget))) → IfOk r (λ _. IsSomeAnd o (λ s. Fits (parts_of s text next.0 budget)))
    → IfOk r (λ _. IsSomeAnd o (λ s. arena_in s.shape (parts_of s text next.0 budget) ≡ arena s)) → IsSomeAnd o (λ s. IsJudged s.shape (parts_of s text next.0 budget) None)
    → IfOk r (λ image. (m : Meaning) (h : History) → IsRunning program engine o m h → IsImage o text m.shape h image)
image_for_each program engine o next budget text (Ok image) n b is fits denotes rules =
    λ m h running. imaged m (code_of (routines_of program)) engine h o next budget text image n b running.stands is fits rules denotes
image_for_each program engine o next budget text (Err e) n b is fits denotes rules = tt

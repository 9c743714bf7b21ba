-- Runs stay ready from call to call.
use Rattle.std.proofs.Common.{◌≡◌, ◌⊎◌, ℕ, ◌<◌, ◌^◌, List, [], ◌∷◌, length, Option, Some, None, refl, ap, sym, ◌∙◌, subst, arith, inl, inr, true, cond, zero, suc}
use Rattle.std.specs.Prelude.{All, false, replicate}
use Rattle.std.proofs.lemmas.List.Elements.{All-head, All-tail}
use Rattle.std.specs.FinMap.{get, get-empty, empty}
use Rattle.pst_base.specs.declared.names.Kind.{Kind}
use Rattle.pst_base.specs.declared.names.Kind.TheVariants.{Int}
use Rattle.pst_base.specs.declared.names.Name.{Name}
use Rattle.pst_base.specs.declared.names.RunNo.{RunNo}
use Rattle.pst_base.specs.declared.shape.TypeShape.{TypeShape}
use Rattle.pst_base.specs.Name.{root_name, name_eq, name_cmp}
use Rattle.pst_base.specs.Heap.{initial_heap, new_record}
use Rattle.pst_base.specs.Shape.{root_type}
use Rattle.pst_base.proofs.NameLemmas.{name_eq-true}
use Rattle.pst_base.proofs.Degrees.{get-with_record}
use Rattle.pst_code.specs.declared.procedure.Parts.{Parts}
use Rattle.pst_code.specs.declared.procedure.Procedure.{Procedure}
use Rattle.pst_code.specs.Valid.{parameters_of}
use Rattle.pst_versions.specs.State.{State, IsFresh, Forked}
use Rattle.pst_forest.specs.Forest.{state_of, started, heap_at}
use Rattle.pst_machine.specs.declared.stage.Stage.{Stage}
use Rattle.pst_machine.specs.Advance.{TakesNumbers, IsBare}
use Rattle.pst_machine.specs.Laws.{BareIsReady}
use Rattle.pst_machine_cases.specs.Session.{IsUntouched, IsOpened}

-- a name that is fresh stays so where a place is forked
pub fork_fresh : {P R : Type 0} (s t : State P R) (from at : P) (n : Name) → s.has from → Forked s from at t → IsFresh s n → IsFresh t n
fork_fresh {P = P} s t from at n has f fresh = record { fresh = λ p h. at_place p (f.only p h) } where
  at_place : (p : P) → (p ≡ at) ⊎ s.has p → get (t.heap p) n ≡ None
  at_place p (inl e) = ap (λ q. get (t.heap q) n) e ∙ ap (λ h. get h n) f.heap ∙ fresh.fresh from has
  at_place p (inr h) = ap (λ h. get h n) (f.heaps p h) ∙ fresh.fresh p h

pub forked : {P R : Type 0} (parts : Parts) (s t : State P R) (from at : P) → s.has from → Forked s from at t → IsUntouched parts s → IsUntouched parts t
forked parts s t from at has f u = record { shape = f.grows.shape ∙ u.shape; unused = λ n h. fork_fresh s t from at n has f (u.unused n h) }

-- a heap as it begins has no record but the root record
pub began : (parts : Parts) (shape : List TypeShape) → shape ≡ parts.shape → IsUntouched parts (state_of (started shape))
began parts shape e = record {
  shape = e;
  unused = λ n above. record {
    fresh = λ p h.
        let first : get (heap_at (started shape).heaps p) n ≡ get (initial_heap shape) n =
        elim p.0 as (λ k. k < 1 → get (heap_at (started shape).heaps (record { 0 = k })) n ≡ get (initial_heap shape) n)
        [ zero ↦ λ h. refl | suc k ↦ λ h. absurd (omega (arith, h)) ] h in
        let r = new_record shape root_type in
        let at : get (initial_heap shape) n ≡ cond (name_eq n root_name) (Some r) None = get-with_record empty root_name r n ∙ ap (cond (name_eq n root_name) (Some r)) (get-empty name_cmp n) in
        let other : cond (name_eq n root_name) (Some r) None ≡ None = elim (name_eq n root_name) as (λ b. name_eq n root_name ≡ b → cond b (Some r) None ≡ None) [
          | true ↦ λ x. absurd (omega (arith, above, ap (λ m. m.run.0) (name_eq-true n root_name x)))
          | false ↦ λ x. refl
        ] refl in
        first ∙ at ∙ other;
  };
}

-- a run without a call can go on at a place that can be written
pub bare_opened : {P R : Type 0} (parts : Parts) (s : State P R) (at : P) (run : RunNo) (budget : ℕ) (stage : Stage P R) → BareIsReady s
    → budget < 2 ^ 32 → IsBare at run budget stage → IsUntouched parts s → 0 < run.0 → s.has at × s.writable at → IsOpened parts s stage
bare_opened parts s at run budget stage law small d u above place = record {
  ready = law parts at run budget stage small d (record { shape = u.shape; has = place.0; fresh = λ k. u.unused record { run = run; ordinal = k } above });
  working = d.failed;
  writable = subst s.writable (sym d.place) place.1;
}

-- numbers alone are so many numbers
all_numbers : (ks : List Kind) → All (λ kind. kind ≡ Int) ks → ks ≡ replicate (length ks) Int
all_numbers [] a = refl
all_numbers (k ∷ ks) a = λ i. All-head (λ kind. kind ≡ Int) k ks a i ∷ all_numbers ks (All-tail (λ kind. kind ≡ Int) k ks a) i

pub takes : (o : Option Procedure) (p : Procedure) (ks : List Kind) (n : ℕ) → o ≡ Some p → ks ≡ parameters_of p → length ks ≡ n → All (λ kind. kind ≡ Int) ks → TakesNumbers o n
takes o p ks n is e count a = subst (λ o. TakesNumbers o n) (sym is) (sym e ∙ all_numbers ks a ∙ ap (λ m. replicate m Int) count)

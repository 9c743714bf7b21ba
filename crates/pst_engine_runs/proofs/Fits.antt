-- Calls that fit a procedure of code.
use Rattle.std.proofs.Common.{◌≡◌, inl, inr, ℕ, ℤ, List, [], ◌∷◌, ◌++◌, length, replicate, Option, Some, None, Bool, true, false, refl, ap, sym, ◌∙◌, subst, slice_get}
use Rattle.std.specs.Prelude.{IsTrue, IsSome, unwrap_or}
use Rattle.std.specs.Option.{option_and_then}
use Rattle.pst_base.specs.declared.names.Kind.{Kind}
use Rattle.pst_base.specs.declared.names.Kind.TheVariants.{Int, Pointer}
use Rattle.pst_base.specs.Heap.{Heap}
use Rattle.pst_base.specs.declared.names.Counts.{Counts}
use Rattle.pst_program.specs.Outcome.{TaskCall}
use Rattle.pst_program.specs.Procedures.{parameters_if}
use Rattle.pst_code.specs.declared.procedure.Procedure.{Procedure}
use Rattle.pst_code.specs.declared.procedure.Parts.{Parts}
use Rattle.pst_code.specs.Procedures.{procedure_named}
use Rattle.pst_code.specs.Valid.{parameters_of, signature}
use Rattle.pst_versions.specs.State.{State}
use Rattle.pst_history.specs.declared.history.NamedCall.{NamedCall}
use Rattle.pst_history.specs.Meaning.{Meaning, Work, AllFit, fits, fits_one}
use Rattle.pst_history.proofs.Lists.{slice_get-last}
use Rattle.pst_engine_runs.specs.Coded.{code_call, code_parameters, IsMeaningOf}
use Rattle.pst_machine.specs.declared.pending.ProcCall.{ProcCall}
use Rattle.pst_machine_steps.specs.View.{no_procedure}
use Rattle.pst_machine.specs.Advance.{MayCall, TakesNumbers, task_call}
use Rattle.pst_engine_runs.specs.Runs.{Runs, MayAdd}

-- parameters that arguments fit are as many numbers
fits_ints : (kinds : List Kind) (xs : List ℤ) → fits kinds xs ≡ true → kinds ≡ replicate (length xs) Int
fits_ints [] [] e = refl
fits_ints [] (x ∷ xs) e = absurd (cc)
fits_ints (Int ∷ kinds) [] e = absurd (cc)
fits_ints (Int ∷ kinds) (x ∷ xs) e = ap (λ ks. Int ∷ ks) (fits_ints kinds xs e)
fits_ints (Pointer ty ∷ kinds) xs e = absurd (cc)

-- a call fits a procedure of the code, one that may write or a query
pub record FitsCode (query : Bool) (parts : Parts) (c : NamedCall) : Type 0 where
  pub number : ℕ
  pub named : procedure_named parts c.procedure ≡ Some number
  pub procedure : Procedure
  pub found : slice_get parts.procedures number ≡ Some procedure
  pub is_query : procedure.query ≡ query
  pub takes : parameters_of procedure ≡ replicate (length c.arguments) Int

-- a query was asked for and found, or a procedure that is none
is_asked : (query : Bool) (name : List ℕ) (b : Bool) (kinds : List Kind) (result : Option Kind) (xs : List ℤ)
    → fits_one (parameters_if query (record { name = name; query = b; parameters = kinds; result = result })) xs ≡ true
    → (b ≡ query) × (kinds ≡ replicate (length xs) Int)
is_asked true name true kinds result xs e = (refl, fits_ints kinds xs e)
is_asked true name false kinds result xs e = absurd (cc)
is_asked false name true kinds result xs e = absurd (cc)
is_asked false name false kinds result xs e = (refl, fits_ints kinds xs e)

module _ (parts : Parts) where
  pub fits_code : (query : Bool) (c : NamedCall) → fits_one (code_parameters query parts c.procedure) c.arguments ≡ true → FitsCode query parts c
  fits_code query c t = on (procedure_named parts c.procedure) refl t
    where
      at : (i : ℕ) → procedure_named parts c.procedure ≡ Some i → (o : Option Procedure) → slice_get parts.procedures i ≡ o
          → fits_one (option_and_then (λ q. parameters_if query (signature q)) o) c.arguments ≡ true → FitsCode query parts c
      at i n None e t = absurd (cc)
      at i n (Some p) e t = let both = is_asked query p.name p.query (parameters_of p) p.result c.arguments t in
          record { number = i; named = n; procedure = p; found = e; is_query = both.0; takes = both.1 }

      on : (o : Option ℕ) → procedure_named parts c.procedure ≡ o
          → fits_one (option_and_then (λ q. parameters_if query (signature q)) (option_and_then (slice_get parts.procedures) o)) c.arguments ≡ true
          → FitsCode query parts c
      on None n t = absurd (cc)
      on (Some i) n t = at i n (slice_get parts.procedures i) refl t

  pub may_call : {P R : Type 0} (s : State P R) (at : P) (query : Bool) (c : NamedCall) (d : ProcCall) → FitsCode query parts c
      → task_call d ≡ code_call parts c → (query ≡ false → s.writable at) → MayCall parts s at d
  may_call s at query c d k same writes =
      let number : d.procedure.0 ≡ k.number = ap (λ (t : TaskCall). t.procedure) same ∙ ap (λ (o : Option ℕ). unwrap_or o (length parts.procedures)) k.named in
      let arguments : d.arguments ≡ c.arguments = ap (λ (t : TaskCall). t.arguments) same in
      let found : slice_get parts.procedures d.procedure.0 ≡ Some k.procedure = ap (slice_get parts.procedures) number ∙ k.found in
      record {
        takes = subst (λ (o : Option Procedure). TakesNumbers o (length d.arguments)) (sym found)
            (subst (λ (xs : List ℤ). parameters_of k.procedure ≡ replicate (length xs) Int) (sym arguments) k.takes);
        writable = λ e. writes (sym k.is_query ∙ ap (λ (o : Option Procedure). (unwrap_or o no_procedure).query) (sym found) ∙ e);
      }

module _ {P R A : Type 0} (parts : Parts) (m : Meaning) (means : IsMeaningOf parts m) (x : Runs P R A) (s : State P R) (a : A) (w : Work) (k : ℕ)
    (y : Heap) (c : Counts) (call : NamedCall) (may : MayAdd m x s a w k y c call) where
  last_fits : (kinds : List ℕ → Option (List Kind)) → AllFit kinds (w.calls ++ call ∷ []) → IsTrue (fits_one (kinds call.procedure) call.arguments)
  last_fits kinds all = all (length w.calls) call (slice_get-last w.calls call)

  -- whether it is a query, and that it fits
  pub fits_some : (query : Bool) × FitsCode query parts call
  fits_some = elim may.ready.work [
    | inl all ↦ (false, fits_code parts false call (ap (λ (o : Option (List Kind)). fits_one o call.arguments) (sym (means.proc call.procedure)) ∙ last_fits m.proc all))
    | inr all ↦ (true, fits_code parts true call (ap (λ (o : Option (List Kind)). fits_one o call.arguments) (sym (means.query call.procedure)) ∙ last_fits m.query all))
  ]

  pub named_some : IsSome (procedure_named parts call.procedure)
  named_some = subst IsSome (sym fits_some.1.named) refl

  pub call_may : (d : ProcCall) → task_call d ≡ code_call parts call → MayCall parts s (x.place a) d
  call_may d same = elim may.writable [
    | inl q ↦ may_call parts s (x.place a) true call d (fits_code parts true call
        (ap (λ (o : Option (List Kind)). fits_one o call.arguments) (sym (means.query call.procedure)) ∙ q)) same (λ e. absurd (cc))
    | inr there ↦ may_call parts s (x.place a) fits_some.0 call d fits_some.1 same (λ e. there)
  ]

-- The code of a well-typed program means what the program means.
use Rattle.std.proofs.Common.{◌≡◌, inl, inr, ◌≤◌, ℕ, ℤ, List, [], ◌∷◌, length, map, take, min, refl, ap, sym, ◌∙◌, subst, arith, Bool, true, false, slice_get, Option, Some, None}
use Rattle.std.specs.Prelude.{unwrap_or, if◌then◌else◌}
use Rattle.std.specs.Option.{option_map, option_and_then}
use Rattle.std.proofs.lemmas.Option.{slice_get-map}
use Rattle.std.proofs.lemmas.List.{length-map, length-take-le, take-append-le}
use Rattle.pst_base.specs.declared.names.Kind.{Kind}
use Rattle.pst_base.specs.declared.names.Kind.TheVariants.{Int, Pointer}
use Rattle.pst_program.specs.Syntax.{Procedure, Routines}
use Rattle.pst_program.specs.Outcome.{TaskCall, first_world}
use Rattle.pst_program.specs.Procedures.{number_named, parameters_if}
use Rattle.pst_program.specs.Typed.{IsTyped, signature, procedure_named, parameters_named}
use Rattle.pst_program.proofs.Lookups.{number_named-map}
use Rattle.pst_code.specs.declared.procedure.Procedure as code
use Rattle.pst_code.specs.Valid as valid
use Rattle.pst_translation.specs.Compiled.{procedure_code, code_of}
use Rattle.pst_code.specs.Calls.{CallsEndIn}
use Rattle.pst_translation.specs.Laws.{IsCallOf, CodeComesToTheOutcome, CodeHasTheOutcome}
use Rattle.pst_history.specs.declared.history.NamedCall.{NamedCall}
use Rattle.pst_history.specs.Meaning.{fits, fits_one}
use Rattle.pst_history.specs.Direct.{direct, task_of, direct_call, procedure_number}
use Rattle.pst_history.proofs.DirectLemmas.{direct_is_lawful, direct_reads_only}
use Rattle.pst_engine_runs.specs.Coded.{code_number, code_call, code_parameters, IsMeaningOf, CompiledCodeMeansTheProgram}

pub fits-length : (kinds : List Kind) (xs : List ℤ) → fits kinds xs ≡ true → length xs ≡ length kinds
fits-length [] [] e = refl
fits-length [] (x ∷ xs) e = absurd (cc)
fits-length (Int ∷ kinds) [] e = absurd (cc)
fits-length (Int ∷ kinds) (x ∷ xs) e = let q = fits-length kinds xs e in omega arith
fits-length (Pointer ty ∷ kinds) xs e = absurd (cc)

-- the parameters of a procedure of the program and of its code, if it is a query or if it is none
abbrev of_program : (query : Bool) → Procedure → Option (List Kind)
of_program query p = parameters_if query (signature p)

abbrev of_code : (query : Bool) → code.Procedure → Option (List Kind)
of_code query p = parameters_if query (valid.signature p)

module _ (r : Routines) (typed : IsTyped r) where
  -- ---- names

  named-same : (name : List ℕ) → number_named valid.signature (code_of r).procedures name ≡ procedure_named r name
  named-same name = number_named-map valid.signature (procedure_code r.shape) r.procedures name

  number-same : (name : List ℕ) → code_number (code_of r) name ≡ procedure_number r name
  number-same name = ap (λ o. unwrap_or o (length (code_of r).procedures)) (named-same name) ∙ ap (unwrap_or (procedure_named r name)) (length-map r.procedures (procedure_code r.shape))

  call-same : (c : NamedCall) → code_call (code_of r) c ≡ direct_call r c
  call-same c = ap (λ (k : ℕ). record (direct_call r c) { procedure = k }) (number-same c.procedure)

  calls-same : (calls : List NamedCall) → map (code_call (code_of r)) calls ≡ map (direct_call r) calls
  calls-same [] = refl
  calls-same (c ∷ calls) = ap (λ x. x ∷ map (code_call (code_of r)) calls) (call-same c) ∙ ap (λ xs. direct_call r c ∷ xs) (calls-same calls)

  -- ---- parameters

  parameters-same : (query : Bool) (p : Procedure) → p.arguments ≤ length p.kinds → parameters_if query (signature p) ≡ parameters_if query (valid.signature (procedure_code r.shape p))
  parameters-same true p le = ap (λ ks. if p.query then Some ks else None) (sym (take-append-le p.arguments p.kinds _ le))
  parameters-same false p le = ap (λ ks. if p.query then None else Some ks) (sym (take-append-le p.arguments p.kinds _ le))

  kinds-same : (query : Bool) (name : List ℕ) → parameters_named query r name ≡ code_parameters query (code_of r) name
  kinds-same query name = on (procedure_named r name) ∙ sym (ap (λ o. option_and_then (of_code query) (option_and_then (slice_get (code_of r).procedures) o)) (named-same name))
    where
      found : (i : ℕ) (o : Option Procedure) → slice_get r.procedures i ≡ o → option_and_then (of_program query) o ≡ option_and_then (of_code query) (option_map (procedure_code r.shape) o)
      found i None e = refl
      found i (Some p) e = parameters-same query p (typed.procedures i p e).parameters

      on : (o : Option ℕ) → option_and_then (of_program query) (option_and_then (slice_get r.procedures) o) ≡ option_and_then (of_code query) (option_and_then (slice_get (code_of r).procedures) o)
      on None = refl
      on (Some i) = found i (slice_get r.procedures i) refl ∙ ap (option_and_then (of_code query)) (sym (slice_get-map (procedure_code r.shape) r.procedures i))

  -- ---- calls that fit

  fits-procedure : (query : Bool) (c : NamedCall) (i : ℕ) (p : Procedure) (b : Bool) → slice_get r.procedures i ≡ Some p → p.query ≡ b
      → fits_one (parameters_if query (signature p)) c.arguments ≡ true → length c.arguments ≡ p.arguments
  fits-procedure true c i p true e q t = let le = (typed.procedures i p e).parameters in
      fits-length (take p.arguments p.kinds) c.arguments (ap (λ x. fits_one (if x then Some (take p.arguments p.kinds) else None) c.arguments) (sym q)
      ∙ t) ∙ length-take-le p.arguments p.kinds le
  fits-procedure true c i p false e q t = absurd (cc (ap (λ x. fits_one (if x then Some (take p.arguments p.kinds) else None) c.arguments) (sym q) ∙ t))
  fits-procedure false c i p true e q t = absurd (cc (ap (λ x. fits_one (if x then None else Some (take p.arguments p.kinds)) c.arguments) (sym q) ∙ t))
  fits-procedure false c i p false e q t = let le = (typed.procedures i p e).parameters in
      fits-length (take p.arguments p.kinds) c.arguments (ap (λ x. fits_one (if x then None else Some (take p.arguments p.kinds)) c.arguments) (sym q)
      ∙ t) ∙ length-take-le p.arguments p.kinds le

  is-call : (query : Bool) (c : NamedCall) → fits_one (parameters_named query r c.procedure) c.arguments ≡ true → IsCallOf r (direct_call r c)
  is-call query c t = on (procedure_named r c.procedure) t
    where
      at : (i : ℕ) (o : Option Procedure) → slice_get r.procedures i ≡ o → fits_one (option_and_then (of_program query) o) c.arguments ≡ true
          → IsCallOf r (record { procedure = i; arguments = c.arguments })
      at i None e t = absurd (cc)
      at i (Some p) e t = record { procedure = p; found = e; fits = fits-procedure query c i p p.query e refl t }

      on : (o : Option ℕ) → fits_one (option_and_then (of_program query) (option_and_then (slice_get r.procedures) o)) c.arguments ≡ true
          → IsCallOf r (record { procedure = unwrap_or o (length r.procedures); arguments = c.arguments })
      on None t = absurd (cc)
      on (Some i) t = at i (slice_get r.procedures i) refl t

  all-calls : (query : Bool) (calls : List NamedCall) → ((i : ℕ) (c : NamedCall) → slice_get calls i ≡ Some c
      → fits_one (parameters_named query r c.procedure) c.arguments ≡ true) → (i : ℕ) (c : TaskCall)
      → slice_get (map (direct_call r) calls) i ≡ Some c → IsCallOf r c
  all-calls query calls fit i c e = on (slice_get calls i) refl (sym (slice_get-map (direct_call r) calls i) ∙ e)
    where
      on : (o : Option NamedCall) → slice_get calls i ≡ o → option_map (direct_call r) o ≡ Some c → IsCallOf r c
      on None q p = absurd (cc)
      on (Some x) q p = let P : TaskCall → Type 0 = λ y. IsCallOf r y in subst P (let same : direct_call r x ≡ c = cc in same) (is-call query x (fit i x q))

  -- ---- the meaning

  pub means : CodeComesToTheOutcome → CodeHasTheOutcome → IsMeaningOf (code_of r) (direct r)
  unfolding direct
  means comes only = record {
    shape = refl;
    proc = λ name. kinds-same false name;
    query = λ name. kinds-same true name;
    comes = λ w granted heap ready.
        let are : (i : ℕ) (c : TaskCall) → slice_get (map (direct_call r) w.calls) i ≡ Some c → IsCallOf r c =
        elim ready.work [ inl q ↦ all-calls false w.calls q | inr q ↦ all-calls true w.calls q ] in
        let all = comes r typed (task_of r w) are granted heap in
        (all.0, subst (λ calls. CallsEndIn (code_of r) calls (first_world w.run (min granted w.budget) heap) all.0) (sym (calls-same w.calls)) all.1);
    outcome = λ w granted heap o ends. sym (only r typed (task_of r w) granted heap o
        (subst (λ calls. CallsEndIn (code_of r) calls (first_world w.run (min granted w.budget) heap) o) (calls-same w.calls) ends));
  }

pub compiled_code_means : CodeComesToTheOutcome → CodeHasTheOutcome → CompiledCodeMeansTheProgram
compiled_code_means comes only r typed = (means r typed comes only, direct_is_lawful r typed.valid, direct_reads_only r typed)

-- The theorem, and what it says of outcomes.
use Rattle.std.proofs.Common.{◌≡◌, ℕ, min, nat_le, List, [], ◌∷◌, suc, length, map, Option, Some, None, refl, sym, ap, ◌∙◌, subst, arith}
use Rattle.std.proofs.lemmas.Option.{slice_get-map}
use Rattle.std.proofs.lemmas.List.{length-map}
use Rattle.std.specs.Option.{option_map}
use Rattle.std.specs.Prelude.{slice_get}
use Rattle.pst_program.specs.declared.meaning.Value.{Value}
use Rattle.pst_program.specs.declared.meaning.Value.TheVariants.{Number as ANumber}
use Rattle.pst_program.specs.Syntax.{Procedure, Routines}
use Rattle.pst_program.specs.Meaning.{World, Ending, Normal, Returned, Trapped, Spent, run_body, call}
use Rattle.pst_program.specs.Typed.{IsTyped}
use Rattle.pst_program.specs.Outcome.{TaskCall, first_world, next_call, in_order, one_call, outcome_of}
use Rattle.pst_code.specs.declared.procedure.Procedure as code
use Rattle.pst_code.specs.declared.procedure.Parts.{Parts}
use Rattle.pst_code.specs.Machine.{EndsIn}
use Rattle.pst_code.specs.Laws.{OneEnd}
use Rattle.pst_translation.specs.Compiled.{procedure_code, code_of}
use Rattle.pst_code.specs.Calls.{NextEndsIn, CallEndsIn, CallsEndIn}
use Rattle.pst_translation.specs.Laws.{CodeDoesWhatTheProgramDoes, IsCallOf, AreCallsOf, CodeComesToTheOutcome, CodeHasTheOutcome}
use Rattle.pst_translation.proofs.Valid.{compiled_is_valid}
use Rattle.pst_translation.proofs.Whole.{Compiled, Linked, machine_is}
use Rattle.pst_translation.proofs.Tables.{compiled}

at_place : (r : Routines) (i : ℕ) (p : Procedure) → slice_get r.procedures i ≡ Some p → slice_get (code_of r).procedures i ≡ Some (procedure_code r.shape p)
at_place r i p found = slice_get-map (procedure_code r.shape) r.procedures i ∙ ap (option_map (procedure_code r.shape)) found

each : (r : Routines) → IsTyped r → (i : ℕ) (p : Procedure) → slice_get r.procedures i ≡ Some p → Compiled r p (procedure_code r.shape p)
each r typed i p found =
    compiled r (code_of r) p (typed.procedures i p found).body ((compiled_is_valid r typed).procedures i (procedure_code r.shape p) (at_place r i p found))

linked : (r : Routines) → IsTyped r → Linked r (map (procedure_code r.shape) r.procedures)
linked r typed = record { at = λ i p found. (procedure_code r.shape p, at_place r i p found, each r typed i p found) }

pub does : CodeDoesWhatTheProgramDoes
does r typed i p found arguments fit w =
    let parameters = (typed.procedures i p found).parameters in
    machine_is r (map (procedure_code r.shape) r.procedures) (linked r typed) p (procedure_code r.shape p) (each r typed i p found) arguments (omega arith) w

-- a procedure of the code is that of one of the program
of_program : (r : Routines) (q : code.Procedure) (found : Option Procedure) → option_map (procedure_code r.shape) found ≡ Some q → (p : Procedure) × (found ≡ Some p) × (procedure_code r.shape p ≡ q)
of_program r q None e = absurd (cc)
of_program r q (Some p) e = (p, refl, cc)

module _ (r : Routines) (typed : IsTyped r) where
  -- one call of the program, by the machine
  one-ends : (c : TaskCall) → IsCallOf r c → (w : World) → CallEndsIn (code_of r) c w (one_call r c w)
  one-ends c is w =
      let arguments : List Value = map ANumber c.arguments in
      let fit : length (map ANumber c.arguments) ≡ is.procedure.arguments = length-map c.arguments ANumber ∙ is.fits in
      record {
        procedure = procedure_code r.shape is.procedure;
        found = at_place r c.procedure is.procedure is.found;
        fits = is.fits;
        ends = subst (λ q. EndsIn (code_of r) (procedure_code r.shape is.procedure) arguments w (run_body r.shape (call r 255) q arguments w))
            (sym is.found) (does r typed c.procedure is.procedure is.found arguments fit w);
      }

  next-ends : (e : Ending) (go : World → Ending) (calls : List TaskCall) → ((v : World) → CallsEndIn (code_of r) calls v (go v))
      → NextEndsIn e (λ v. CallsEndIn (code_of r) calls v (next_call e go)) (next_call e go)
  next-ends (Normal env v) go calls all = all v
  next-ends (Returned x v) go calls all = all v
  next-ends (Trapped t line v) go calls all = refl
  next-ends (Spent line v) go calls all = refl

  -- the calls of the program in order, by the machine
  calls-end : (calls : List TaskCall) → AreCallsOf r calls → (w : World) → CallsEndIn (code_of r) calls w (in_order (one_call r) calls w)
  calls-end [] are w = refl
  calls-end (c ∷ calls) are w =
      (one_call r c w, one-ends c (are 0 c refl) w, next-ends (one_call r c w) (in_order (one_call r) calls) calls (calls-end calls (λ i d q. are (suc i) d q)))

  module _ (one_end : (parts : Parts) → OneEnd parts) where
    -- a call by the machine ends as that of the program
    one-same : (c : TaskCall) (w : World) (e : Ending) → CallEndsIn (code_of r) c w e → e ≡ one_call r c w
    one-same c w e is =
        let g = of_program r is.procedure (slice_get r.procedures c.procedure) (sym (slice_get-map (procedure_code r.shape) r.procedures c.procedure) ∙ is.found) in
        let arguments : List Value = map ANumber c.arguments in
        let fit : length (map ANumber c.arguments) ≡ g.0.arguments = length-map c.arguments ANumber ∙ is.fits ∙ ap (λ x. x.arguments) (sym g.2) in
        let theirs : EndsIn (code_of r) (procedure_code r.shape g.0) arguments w e = subst (λ q. EndsIn (code_of r) q arguments w e) (sym g.2) is.ends in
        one_end (code_of r) (procedure_code r.shape g.0) arguments w e (run_body r.shape (call r 255) (Some g.0) arguments w) theirs (does r typed c.procedure g.0 g.1 arguments fit w)
        ∙ ap (λ q. run_body r.shape (call r 255) q arguments w) (sym g.1)

    next-same : (e : Ending) (calls : List TaskCall) (o : Ending)
        → ((v : World) → CallsEndIn (code_of r) calls v o → o ≡ in_order (one_call r) calls v)
        → NextEndsIn e (λ v. CallsEndIn (code_of r) calls v o) o → o ≡ next_call e (in_order (one_call r) calls)
    next-same (Normal env v) calls o all h = all v h
    next-same (Returned x v) calls o all h = all v h
    next-same (Trapped t line v) calls o all h = h
    next-same (Spent line v) calls o all h = h

    calls-same : (calls : List TaskCall) (w : World) (o : Ending) → CallsEndIn (code_of r) calls w o → o ≡ in_order (one_call r) calls w
    calls-same [] w o h = h
    calls-same (c ∷ calls) w o h = next-same h.0 calls o (λ v q. calls-same calls v o q) h.2 ∙ ap (λ e. next_call e (in_order (one_call r) calls)) (one-same c w h.0 h.1)

pub comes_to : CodeComesToTheOutcome
comes_to r typed task are granted heap = (_, calls-end r typed task.calls are (first_world task.run (min granted task.budget) heap), refl)

-- from the law that a run has one end
pub has_outcome : ((parts : Parts) → OneEnd parts) → CodeHasTheOutcome
has_outcome one_end r typed task granted heap o ends = ap (outcome_of (nat_le task.budget granted)) (calls-same r typed one_end task.calls (first_world task.run (min granted task.budget) heap) o ends)

-- The meaning of a program by its tree is lawful.
use Rattle.std.proofs.Common.{◌≡◌, ◌≢◌, ℕ, ℤ, List, ◌++◌, map, refl, ap, sym, ◌∙◌, subst, arith, Option, Some, None, Bool, true, false, slice_get}
use Rattle.std.specs.Prelude.{IsTrue, min, unwrap_or, length, if◌then◌else◌}
use Rattle.std.specs.Option.{option_and_then, option_map}
use Rattle.std.proofs.lemmas.Option.{slice_get-map}
use Rattle.std.proofs.lemmas.List.{map-append}
use Rattle.std.proofs.Math.Nat.{min-le_right}
use Rattle.pst_base.specs.declared.names.Counts.{Counts}
use Rattle.pst_base.specs.declared.names.Kind.{Kind}
use Rattle.pst_program.specs.Syntax.{Routines, Procedure}
use Rattle.pst_program.specs.Outcome.{TaskCall, Task, outcome}
use Rattle.pst_program.specs.Sound.{CountsBelow, CountsWithin}
use Rattle.pst_program.specs.Procedures.{parameters_if}
use Rattle.pst_program.specs.Typed.{signature, procedure_named, parameters_named, parameters_of}
use Rattle.pst_program.proofs.Outcomes.{ends, few, grow, over, trapped, older_fresh, names, well, reads}
use Rattle.pst_program.specs.Laws.{IsQueryCall}
use Rattle.pst_history.specs.declared.history.NamedCall.{NamedCall}
use Rattle.pst_history.specs.Meaning.{Work, with_calls, fits_one}
use Rattle.pst_history.specs.Direct.{direct, task_of, direct_call}
use Rattle.pst_history.specs.Laws.{DirectIsLawful, DirectReadsOnly}

few-budget : (c : Counts) (granted budget : ℕ) → CountsWithin c (min granted budget) → CountsWithin c budget
few-budget c granted budget few = let le = min-le_right granted budget in
    record {
      records = omega (arith, few.records, le);
      pointer_writes = omega (arith, few.pointer_writes, le);
      value_writes =
          omega (arith, few.value_writes, le);
    }

-- the task of more calls
more-task : (r : Routines) (w : Work) (more : List NamedCall) → record (task_of r w) { calls = map (direct_call r) w.calls ++ map (direct_call r) more } ≡ task_of r (with_calls w more)
more-task r w more = ap (λ (x : List TaskCall). record (task_of r w) { calls = x }) (sym (map-append (direct_call r) w.calls more))

pub direct_is_lawful : DirectIsLawful
unfolding direct
direct_is_lawful r valid = record {
  valid = valid;
  well_formed = λ w granted h ready. well r (task_of r w) granted h ready.well_formed (older_fresh h w.run ready.older);
  names = λ w granted h ready. names r (task_of r w) granted h ready.older;
  ends = λ w h ready. ends r (task_of r w) w.budget h (omega arith);
  idle = λ run budget k h. refl;
  few = λ w k h ready. few-budget (outcome r (task_of r w) k h).counts k w.budget (few r (task_of r w) k h);
  counts = λ w more k n h ready le. subst (λ (t : Task). CountsBelow (outcome r (task_of r w) k h).counts (outcome r t n h).counts)
      (more-task r w more) (grow r (task_of r w) (map (direct_call r) more) k n h le);
  over = λ w k n h ready le e. over r (task_of r w) k n h le e;
  trapped = λ w more k h t ready e. ap (λ (x : Task). outcome r x k h) (sym (more-task r w more)) ∙ trapped r (task_of r w) (map (direct_call r) more) k h t e;
}

has_parameters : (kinds : Option (List Kind)) (xs : List ℤ) → IsTrue (fits_one kinds xs) → kinds ≢ None
has_parameters None xs fits e = absurd (cc (fits))
has_parameters (Some kinds) xs fits e = absurd (cc)

is_query : (p : Procedure) (b : Bool) → p.query ≡ b → parameters_if true (signature p) ≢ None → p.query ≡ true
is_query p true e ne = e
is_query p false e ne = absurd (ne (ap (λ b. if b then Some (parameters_of p) else None) e))

query_found : (r : Routines) (o : Option Procedure) (c : TaskCall) → slice_get r.procedures c.procedure ≡ o → option_and_then (λ p. parameters_if true (signature p)) o ≢ None → IsQueryCall r c
query_found r None c e ne = absurd (ne refl)
query_found r (Some p) c e ne = record { procedure = p; found = e; query = is_query p p.query refl ne }

query_numbered : (r : Routines) (o : Option ℕ) (arguments : List ℤ)
    → option_and_then (λ p. parameters_if true (signature p)) (option_and_then (slice_get r.procedures) o) ≢ None
    → IsQueryCall r (record { procedure = unwrap_or o (length r.procedures); arguments = arguments })
query_numbered r None arguments ne = absurd (ne refl)
query_numbered r (Some i) arguments ne = query_found r (slice_get r.procedures i) (record { procedure = i; arguments = arguments }) refl ne

pub direct_reads_only : DirectReadsOnly
unfolding direct
direct_reads_only r typed w granted h fits = reads r typed (task_of r w) each granted h
  where
    query : (o : Option NamedCall) (i : ℕ) (c : TaskCall) → slice_get w.calls i ≡ o → option_map (direct_call r) o ≡ Some c → IsQueryCall r c
    query None i c e q = absurd (cc)
    query (Some x) i c e q = let P : TaskCall → Type 0 = λ y. IsQueryCall r y in
        subst P (let same : direct_call r x ≡ c = cc in same)
        (query_numbered r (procedure_named r x.procedure) x.arguments (has_parameters (parameters_named true r x.procedure) x.arguments (fits i x e)))

    each : (i : ℕ) (c : TaskCall) → slice_get (map (direct_call r) w.calls) i ≡ Some c → IsQueryCall r c
    each i c e = query (slice_get w.calls i) i c refl (sym (slice_get-map (direct_call r) w.calls i) ∙ e)

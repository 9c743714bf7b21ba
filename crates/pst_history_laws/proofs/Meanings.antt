-- Programs that are the same but for lines have the same meaning but for the lines of traps.
use Rattle.std.proofs.Common.{◌≡◌, ℕ, ◌+◌, Option, Some, None, Bool, true, false, cond, List, [], ◌∷◌, map, length, slice_get, refl, sym, ap, ◌∙◌, subst}
use Rattle.std.specs.Prelude.{bytes_eq, unwrap_or, nat_lt, not}
use Rattle.std.specs.List.{position_or_len}
use Rattle.std.specs.Option.{option_map, option_and_then}
use Rattle.std.proofs.lemmas.List.{length-map}
use Rattle.std.proofs.lemmas.Option.{slice_get-map}
use Rattle.pst_base.specs.Heap.{Heap}
use Rattle.pst_base.specs.declared.names.Kind.{Kind}
use Rattle.pst_program.specs.Syntax.{Procedure, Routines}
use Rattle.pst_program.specs.Typed.{signature, procedure_named, parameters_named}
use Rattle.pst_program.specs.Procedures.{parameters_if}
use Rattle.pst_program.specs.Outcome.{Outcome, outcome}
use Rattle.pst_history.specs.declared.history.NamedCall.{NamedCall}
use Rattle.pst_history.specs.Meaning.{Work}
use Rattle.pst_history.specs.Direct.{direct, procedure_number, direct_call, task_of}
use Rattle.pst_front.specs.Pages.{routines_in}
use Rattle.pst_typing.specs.Declarations.{NamedProgram}
use Rattle.pst_history_laws.specs.Lines.{procedure_lineless, routines_lineless}
use Rattle.pst_history_laws.specs.Alike.{EndedAlike, BothDone, BothStopped, BothTrapped, OutcomeAlike, ProgramAlike}
use Rattle.pst_history_laws.specs.LawsLines.{MeaningLaw}
use Rattle.pst_history_laws.proofs.Endings.{outcome_law}

-- ---- look-ups by name

abbrev has_name : List ℕ → Procedure → Bool
has_name name p = bytes_eq (signature p).name name

place-same : (name : List ℕ) (ps : List Procedure) → position_or_len (has_name name) (map procedure_lineless ps) ≡ position_or_len (has_name name) ps
place-same name [] = refl
place-same name (p ∷ ps) = ap (λ n. cond (not (has_name name p)) (1 + n) 0) (place-same name ps)

named-same : (r : Routines) (name : List ℕ) → procedure_named (routines_lineless r) name ≡ procedure_named r name
named-same r name =
    ap (λ n. cond (nat_lt n (length (map procedure_lineless r.procedures))) (Some n) None) (place-same name r.procedures)
    ∙ ap (λ l. cond (nat_lt (position_or_len (has_name name) r.procedures) l) (Some (position_or_len (has_name name) r.procedures)) None) (length-map r.procedures procedure_lineless)

abbrev asked : Bool → Option Procedure → Option (List Kind)
asked query o = option_and_then (λ p. parameters_if query (signature p)) o

asked-same : (query : Bool) (o : Option Procedure) → asked query (option_map procedure_lineless o) ≡ asked query o
asked-same query None = refl
asked-same query (Some p) = refl

at-same : (query : Bool) (ps : List Procedure) (o : Option ℕ) → asked query (option_and_then (slice_get (map procedure_lineless ps)) o) ≡ asked query (option_and_then (slice_get ps) o)
at-same query ps None = refl
at-same query ps (Some i) = ap (asked query) (slice_get-map procedure_lineless ps i) ∙ asked-same query (slice_get ps i)

parameters-same : (query : Bool) (r : Routines) (name : List ℕ) → parameters_named query (routines_lineless r) name ≡ parameters_named query r name
parameters-same query r name =
    ap (λ o. asked query (option_and_then (slice_get (map procedure_lineless r.procedures)) o)) (named-same r name) ∙ at-same query r.procedures (procedure_named r name)

number-same : (r : Routines) (name : List ℕ) → procedure_number (routines_lineless r) name ≡ procedure_number r name
number-same r name = ap (λ o. unwrap_or o (length (map procedure_lineless r.procedures))) (named-same r name) ∙ ap (unwrap_or (procedure_named r name)) (length-map r.procedures procedure_lineless)

calls-same : (r : Routines) (cs : List NamedCall) → map (direct_call (routines_lineless r)) cs ≡ map (direct_call r) cs
calls-same r [] = refl
calls-same r (c ∷ cs) =
    ap (λ n. record { procedure = n; arguments = c.arguments } ∷ map (direct_call (routines_lineless r)) cs) (number-same r c.procedure) ∙ ap (λ l. direct_call r c ∷ l) (calls-same r cs)

task-same : (r : Routines) (w : Work) → task_of (routines_lineless r) w ≡ task_of r w
task-same r w = ap (λ cs. record { run = w.run; calls = cs; budget = w.budget }) (calls-same r w.calls)

-- ---- outcomes

end-joined : {a b c : _} → EndedAlike a c → EndedAlike b c → EndedAlike a b
end-joined BothDone BothDone = BothDone
end-joined BothStopped BothStopped = BothStopped
end-joined (BothTrapped t l k) (BothTrapped _ m _) = BothTrapped t l m

outcome-joined : {a b c : Outcome} → OutcomeAlike a c → OutcomeAlike b c → OutcomeAlike a b
outcome-joined x y = record { end = end-joined x.end y.end; heap = x.heap ∙ sym y.heap; printed = x.printed ∙ sym y.printed; counts = x.counts ∙ sym y.counts }

direct-outcome : (r : Routines) (w : Work) (granted : ℕ) (heap : Heap) → OutcomeAlike ((direct r).outcome w granted heap) ((direct (routines_lineless r)).outcome w granted heap)
unfolding direct
direct-outcome r w granted heap = subst (λ t. OutcomeAlike (outcome r (task_of r w) granted heap) (outcome (routines_lineless r) t granted heap))
    (sym (task-same r w)) (outcome_law r (task_of r w) granted heap)

one-lineless : (p q : NamedProgram) → ProgramAlike p q → routines_lineless (routines_in p) ≡ routines_lineless (routines_in q)
one-lineless p q a = ap (λ s. record { shape = s; procedures = map procedure_lineless p.procedures }) a.shape ∙ ap (λ ps. record { shape = q.shape; procedures = ps }) a.procedures

proc-is : (r : Routines) (name : List ℕ) → (direct r).proc name ≡ parameters_named false r name
unfolding direct
proc-is r name = refl

query-is : (r : Routines) (name : List ℕ) → (direct r).query name ≡ parameters_named true r name
unfolding direct
query-is r name = refl

shape-is : (r : Routines) → (direct r).shape ≡ r.shape
unfolding direct
shape-is r = refl

pub meaning_law : MeaningLaw
meaning_law p q a =
    let r = routines_in p in
    let s = routines_in q in
    let one = one-lineless p q a in
    record {
      shape = shape-is r ∙ a.shape ∙ sym (shape-is s);
      proc = λ name. proc-is r name ∙ sym (parameters-same false r name) ∙ ap (λ x. parameters_named false x name) one ∙ parameters-same false s name ∙ sym (proc-is s name);
      query = λ name. query-is r name ∙ sym (parameters-same true r name) ∙ ap (λ x. parameters_named true x name) one ∙ parameters-same true s name ∙ sym (query-is s name);
      outcome = λ w granted heap.
          outcome-joined (subst (λ x. OutcomeAlike ((direct r).outcome w granted heap) ((direct x).outcome w granted heap)) one (direct-outcome r w granted heap)) (direct-outcome s w granted heap);
    }

-- Valid code means by its machine what it comes to, and that meaning is lawful.
use Rattle.std.proofs.Common.{◌≡◌, ◌≢◌, inl, inr, ℕ, ℤ, ◌+◌, ◌-◌, ◌<◌, ◌≤◌, min, Bool, true, false, List, [], ◌∷◌, ◌++◌, length, map, Option, Some, None, refl, sym, ap, ◌∙◌, subst, arith, slice_get}
use Rattle.std.specs.Prelude.{nat_le, unwrap_or, if◌then◌else◌}
use Rattle.std.specs.Option.{option_map, option_and_then}
use Rattle.std.specs.FinMap.{get}
use Rattle.std.proofs.lemmas.Bool.{le-leb, leb-true}
use Rattle.std.proofs.lemmas.Option.{slice_get-map, slice_get_within}
use Rattle.std.proofs.lemmas.List.{map-append, length-take-le}
use Rattle.std.proofs.Math.Nat.{min-le_right}
use Rattle.pst_base.specs.declared.names.Counts.{Counts}
use Rattle.pst_base.specs.declared.names.Kind.{Kind}
use Rattle.pst_base.specs.declared.names.Kind.TheVariants.{Int, Pointer}
use Rattle.pst_base.specs.declared.names.Name.{Name}
use Rattle.pst_base.specs.declared.names.RunNo.{RunNo}
use Rattle.pst_base.specs.Heap.{Heap, Rec, IsWellFormed, type_in}
use Rattle.pst_program.specs.declared.meaning.Ended.TheVariants.{Stopped}
use Rattle.pst_program.specs.declared.meaning.Value.TheVariants.{Number as ANumber}
use Rattle.pst_program.specs.Meaning.{Ending, Normal, Returned, Trapped, Spent}
use Rattle.pst_program.specs.Outcome.{TaskCall, first_world, next_call, outcome_of}
use Rattle.pst_program.specs.Procedures.{number_named, parameters_if}
use Rattle.pst_program.specs.Sound.{IsSoundWorld, Grown, AreOf, CountsBelow, CountsWithin, world_in}
use Rattle.pst_program.specs.Laws.{IsOlder}
use Rattle.pst_program.proofs.Fewer.{counted_quiet}
use Rattle.pst_program.proofs.InOrder.{in_order-append, next_counts, next_trapped}
use Rattle.pst_program.proofs.More.{More}
use Rattle.pst_program.proofs.Outcomes.{older_fresh}
use Rattle.pst_code.specs.declared.procedure.Procedure.{Procedure}
use Rattle.pst_code.specs.declared.procedure.Parts.{Parts}
use Rattle.pst_code.specs.Valid.{IsValidCode, signature, parameters_of}
use Rattle.pst_history.specs.declared.history.NamedCall.{NamedCall}
use Rattle.pst_history.specs.Meaning.{Meaning, Work, with_calls, AllFit, CanBeDone, IsLawful, fits, fits_one}
use Rattle.pst_history.proofs.Lists.{slice_get-before}
use Rattle.pst_engine_runs.specs.Coded.{code_call, code_parameters, IsMeaningOf}
use Rattle.pst_engine_runs.specs.Bare.{machine_call, by_machine, ValidCodeHasAMeaning}
use Rattle.pst_engine_runs.proofs.Coding.{fits-length}
use Rattle.pst_engine_runs.proofs.Calling.{IsCallable, LeavesSound}
use Rattle.pst_engine_runs.proofs.Ordering.{AreCallable, machine_calls, calls_end, calls_end_once, calls_leave, calls_counted, calls_more}

-- ---- calls that fit

-- numbers are of the kinds of parameters that they fit
are-numbers : (kinds : List Kind) (xs : List ℤ) (heap : Heap) → fits kinds xs ≡ true → AreOf heap kinds (map ANumber xs)
are-numbers [] [] heap e = tt
are-numbers [] (x ∷ xs) heap e = absurd (cc)
are-numbers (Int ∷ kinds) [] heap e = absurd (cc)
are-numbers (Int ∷ kinds) (x ∷ xs) heap e = (tt, are-numbers kinds xs heap e)
are-numbers (Pointer ty ∷ kinds) xs heap e = absurd (cc)

module _ (parts : Parts) (valid : IsValidCode parts) where
  -- what fits the parameters of a procedure, if it is a query or if it is none, fits its parameters
  same-parameters : (query b : Bool) (p : Procedure) (xs : List ℤ) → p.query ≡ b → fits_one (parameters_if query (signature p)) xs ≡ true → fits (parameters_of p) xs ≡ true
  same-parameters true true p xs q t = ap (λ x. fits_one (if x then Some (parameters_of p) else None) xs) (sym q) ∙ t
  same-parameters true false p xs q t = absurd (cc (ap (λ x. fits_one (if x then Some (parameters_of p) else None) xs) (sym q) ∙ t))
  same-parameters false true p xs q t = absurd (cc (ap (λ x. fits_one (if x then None else Some (parameters_of p)) xs) (sym q) ∙ t))
  same-parameters false false p xs q t = ap (λ x. fits_one (if x then None else Some (parameters_of p)) xs) (sym q) ∙ t

  at-procedure : (query : Bool) (i : ℕ) (xs : List ℤ) (o : Option Procedure) → slice_get parts.procedures i ≡ o
      → fits_one (option_and_then (λ p. parameters_if query (signature p)) o) xs ≡ true → IsCallable parts (record { procedure = i; arguments = xs })
  at-procedure query i xs None e t = absurd (cc)
  at-procedure query i xs (Some p) e t =
      let fit : fits (parameters_of p) xs ≡ true = same-parameters query p.query p xs refl t in
      let le = (valid.procedures i p e).arguments in
      record {
        procedure = p;
        found = e;
        fits = fits-length (parameters_of p) xs fit ∙ length-take-le p.arguments p.kinds le;
        numbers = λ heap. are-numbers (parameters_of p) xs heap fit;
      }

  at-number : (query : Bool) (xs : List ℤ) (o : Option ℕ) → fits_one
      (option_and_then (λ p. parameters_if query (signature p)) (option_and_then (slice_get parts.procedures) o)) xs ≡ true
      → IsCallable parts (record { procedure = unwrap_or o (length parts.procedures); arguments = xs })
  at-number query xs None t = absurd (cc)
  at-number query xs (Some i) t = at-procedure query i xs (slice_get parts.procedures i) refl t

  is-callable : (query : Bool) (c : NamedCall) → fits_one (code_parameters query parts c.procedure) c.arguments ≡ true → IsCallable parts (code_call parts c)
  is-callable query c t = at-number query c.arguments (number_named signature parts.procedures c.procedure) t

  all-callable : (query : Bool) (calls : List NamedCall) → AllFit (code_parameters query parts) calls → AreCallable parts (map (code_call parts) calls)
  all-callable query calls fit i c e = on (slice_get calls i) refl (sym (slice_get-map (code_call parts) calls i) ∙ e)
    where
      on : (o : Option NamedCall) → slice_get calls i ≡ o → option_map (code_call parts) o ≡ Some c → IsCallable parts c
      on None q p = absurd (cc)
      on (Some x) q p = let P : TaskCall → Type 0 = λ y. IsCallable parts y in subst P (let same : code_call parts x ≡ c = cc in same) (is-callable query x (fit i x q))

  -- the calls of work that can be done
  work-callable : (w : Work) (heap : Heap) → CanBeDone (by_machine parts) w heap → AreCallable parts (map (code_call parts) w.calls)
  unfolding by_machine
  work-callable w heap ready = elim ready.work [ inl q ↦ all-callable false w.calls q | inr q ↦ all-callable true w.calls q ]

-- a run begins soundly
first-sound : (parts : Parts) (w : Work) (charges : ℕ) (heap : Heap) → CanBeDone (by_machine parts) w heap → IsSoundWorld parts.shape (first_world w.run charges heap)
unfolding by_machine
first-sound parts w charges heap ready = record { well_formed = ready.well_formed; fresh = older_fresh heap w.run ready.older }

-- ---- the meaning

means : (parts : Parts) → IsValidCode parts → IsMeaningOf parts (by_machine parts)
unfolding by_machine
means parts valid = record {
  shape = refl;
  proc = λ name. refl;
  query = λ name. refl;
  comes = λ w granted heap ready.
      let first = first_world w.run (min granted w.budget) heap in
      let calls = map (code_call parts) w.calls in
      (machine_calls parts calls first, calls_end parts valid calls (work-callable parts valid w heap ready) first (first-sound parts w (min granted w.budget) heap ready));
  outcome = λ w granted heap o to. ap (outcome_of (nat_le w.budget granted)) (calls_end_once parts valid (map (code_call parts) w.calls) (first_world w.run (min granted w.budget) heap) o to);
}

-- ---- outcomes

outcome-heap : (whole : Bool) (o : Ending) → (outcome_of whole o).heap ≡ (world_in o).heap
outcome-heap whole (Normal env w) = refl
outcome-heap whole (Returned v w) = refl
outcome-heap whole (Trapped t line w) = refl
outcome-heap whole (Spent line w) = refl

outcome-counts : (whole : Bool) (o : Ending) → (outcome_of whole o).counts ≡ (world_in o).counts
outcome-counts whole (Normal env w) = refl
outcome-counts whole (Returned v w) = refl
outcome-counts whole (Trapped t line w) = refl
outcome-counts whole (Spent line w) = refl

whole-ends : (o : Ending) → (outcome_of true o).end ≢ Stopped
whole-ends (Normal env w) e = absurd (cc)
whole-ends (Returned v w) e = absurd (cc)
whole-ends (Trapped t line w) e = absurd (cc)
whole-ends (Spent line w) e = absurd (cc)

more-counted : (d : ℕ) (o p : Ending) → More d o p → CountsBelow (world_in o).counts (world_in p).counts
more-counted d (Normal env w) p m = subst (λ (p : Ending). CountsBelow w.counts (world_in p).counts) (sym m) (counted_quiet.same w)
more-counted d (Returned v w) p m = subst (λ (p : Ending). CountsBelow w.counts (world_in p).counts) (sym m) (counted_quiet.same w)
more-counted d (Trapped t line w) p m = subst (λ (p : Ending). CountsBelow w.counts (world_in p).counts) (sym m) (counted_quiet.same w)
more-counted d (Spent line w) p m = m

over-from : (d : ℕ) (b : Bool) (o p : Ending) → More d o p → (outcome_of false o).end ≢ Stopped → outcome_of b p ≡ outcome_of false o
over-from d b (Normal env w) p m ended = ap (outcome_of b) m
over-from d b (Returned v w) p m ended = ap (outcome_of b) m
over-from d b (Trapped t line w) p m ended = ap (outcome_of b) m
over-from d b (Spent line w) p m ended = absurd (ended refl)

typed-from_get : (h : Heap) (n : Name) (v : Rec) → get h n ≡ Some v → type_in h n ≡ Some v.ty
typed-from_get h n v e = ap (option_map (λ (r : Rec). r.ty)) e

record-behind : (h : Heap) (n : Name) (run : ℕ) (o : Option Rec) → get h n ≡ o → IsOlder h run → (option_map (λ (r : Rec). r.ty) o ≡ None → ⊥) → n.run.0 < run
record-behind h n run None e older some = absurd (some refl)
record-behind h n run (Some v) e older some = older n v e

-- records of a run on a heap that is older
grown-older : (run : RunNo) (charges : ℕ) (heap : Heap) (o : Ending) → IsOlder heap run.0 → Grown (first_world run charges heap) (world_in o) → IsOlder (world_in o).heap (run.0 + 1)
grown-older run charges heap o older grown n v e =
    elim (grown.added n v.ty (typed-from_get (world_in o).heap n v e)) [
      | inl before ↦ let low : n.run.0 < run.0 = record-behind heap n run.0 (get heap n) refl older (λ none. absurd (let t : type_in heap n ≡ None = none in cc (t, before))) in omega arith
      | inr new ↦ let same : n.run.0 ≡ run.0 = ap (λ (x : RunNo). x.0) new.run in omega arith
    ]

-- ---- the laws

module _ (parts : Parts) (valid : IsValidCode parts) where
  -- how the calls of work end with so many charges
  abbrev runs : Work → (charges : ℕ) → Heap → Ending
  runs w charges heap = machine_calls parts (map (code_call parts) w.calls) (first_world w.run charges heap)

  leaves : (w : Work) (charges : ℕ) (heap : Heap) → CanBeDone (by_machine parts) w heap → LeavesSound parts (first_world w.run charges heap) (runs w charges heap)
  leaves w charges heap ready = calls_leave parts valid (map (code_call parts) w.calls) (work-callable parts valid w heap ready)
      (first_world w.run charges heap) (first-sound parts w charges heap ready)

  runs-more : (w : Work) (c n : ℕ) (heap : Heap) → CanBeDone (by_machine parts) w heap → c ≤ n → More (n - c) (runs w c heap) (runs w n heap)
  runs-more w c n heap ready le =
      let whole : c + (n - c) ≡ n = omega arith in
      subst (λ (x : ℕ). More (n - c) (runs w c heap) (runs w x heap)) whole
      (calls_more parts valid (n - c) (map (code_call parts) w.calls) (work-callable parts valid w heap ready) (first_world w.run c heap) (first-sound parts w c heap ready))

  -- with more calls
  more-calls : (w : Work) (more : List NamedCall) (charges : ℕ) (heap : Heap)
      → runs (with_calls w more) charges heap ≡ next_call (runs w charges heap) (machine_calls parts (map (code_call parts) more))
  more-calls w more charges heap =
      let first = first_world w.run charges heap in
      ap (λ calls. machine_calls parts calls first) (map-append (code_call parts) w.calls more)
      ∙ in_order-append (machine_call parts) (map (code_call parts) w.calls) (map (code_call parts) more) first

  fewer-fit : (kinds : List ℕ → Option (List Kind)) (calls more : List NamedCall) → AllFit kinds (calls ++ more) → AllFit kinds calls
  fewer-fit kinds calls more fit i c e = fit i c (slice_get-before calls more i (slice_get_within calls i c e) ∙ e)

  fewer-done : (m : Meaning) (w : Work) (more : List NamedCall) (heap : Heap) → CanBeDone m (with_calls w more) heap → CanBeDone m w heap
  fewer-done m w more heap ready = record {
    well_formed = ready.well_formed;
    older = ready.older;
    work = elim ready.work [ inl q ↦ inl (fewer-fit m.proc w.calls more q) | inr q ↦ inr (fewer-fit m.query w.calls more q) ];
  }

  grow : (w : Work) (more : List NamedCall) (a b : ℕ) (heap : Heap) → CanBeDone (by_machine parts) (with_calls w more) heap → a ≤ b
      → CountsBelow (world_in (runs w a heap)).counts (world_in (runs (with_calls w more) b heap)).counts
  grow w more a b heap ready le =
      let go = machine_calls parts (map (code_call parts) more) in
      let below = more-counted (b - a) (runs w a heap) (runs w b heap) (runs-more w a b heap (fewer-done (by_machine parts) w more heap ready) le) in
      let on = next_counts (runs w b heap) go (calls_counted parts (map (code_call parts) more)) in
      subst (λ (o : Ending). CountsBelow (world_in (runs w a heap)).counts (world_in o).counts) (sym (more-calls w more b heap))
      (counted_quiet.joined (world_in (runs w a heap)) (world_in (runs w b heap)) (world_in (next_call (runs w b heap) go)) below on)

  over : (w : Work) (k n : ℕ) (heap : Heap) (b : Bool) → CanBeDone (by_machine parts) w heap → k ≤ n → nat_le w.budget k ≡ b → (outcome_of b (runs w (min k w.budget) heap)).end ≢ Stopped
      → outcome_of (nat_le w.budget n) (runs w (min n w.budget) heap) ≡ outcome_of b (runs w (min k w.budget) heap)
  over w k n heap true ready le is ended =
      let used : w.budget ≤ k = leb-true w.budget k is in
      let same : min n w.budget ≡ min k w.budget = omega arith in
      let all : nat_le w.budget n ≡ true = le-leb w.budget n (omega arith) in
      ap (λ b. outcome_of b (runs w (min n w.budget) heap)) all ∙ ap (λ c. outcome_of true (runs w c heap)) same
  over w k n heap false ready le is ended =
      let less : min k w.budget ≤ min n w.budget = omega arith in
      over-from (min n w.budget - min k w.budget) (nat_le w.budget n) (runs w (min k w.budget) heap) (runs w (min n w.budget) heap)
      (runs-more w (min k w.budget) (min n w.budget) heap ready less) ended

  lawful : IsLawful (by_machine parts)
  unfolding by_machine
  lawful = record {
    valid = valid.shape;
    well_formed = λ w granted heap ready. subst (IsWellFormed parts.shape)
        (sym (outcome-heap (nat_le w.budget granted) (runs w (min granted w.budget) heap))) (leaves w (min granted w.budget) heap ready).world.well_formed;
    names = λ w granted heap ready.
        let P : Heap → Type 0 = λ h. IsOlder h (w.run.0 + 1) in
        subst P (sym (outcome-heap (nat_le w.budget granted) (runs w (min granted w.budget) heap)))
        (grown-older w.run (min granted w.budget) heap (runs w (min granted w.budget) heap) ready.older (leaves w (min granted w.budget) heap ready).grown);
    ends = λ w heap ready. subst (λ (b : Bool). (outcome_of b (runs w (min w.budget w.budget) heap)).end ≢ Stopped)
        (sym (le-leb w.budget w.budget (omega arith))) (whole-ends (runs w (min w.budget w.budget) heap));
    idle = λ run budget k heap. refl;
    few = λ w k heap ready.
        let paid = (leaves w (min k w.budget) heap ready).paid in
        let le = min-le_right k w.budget in
        subst (λ (c : Counts). CountsWithin c w.budget) (sym (outcome-counts (nat_le w.budget k) (runs w (min k w.budget) heap)))
        (record { records = omega (arith, paid.records, le); pointer_writes = omega (arith, paid.pointer_writes, le); value_writes = omega (arith, paid.value_writes, le) });
    counts = λ w more k n heap ready le.
        let all = runs (with_calls w more) (min n w.budget) heap in
        subst (λ (c : Counts). CountsBelow c (outcome_of (nat_le w.budget n) all).counts) (sym (outcome-counts (nat_le w.budget k) (runs w (min k w.budget) heap)))
        (subst (λ (c : Counts). CountsBelow (world_in (runs w (min k w.budget) heap)).counts c) (sym (outcome-counts (nat_le w.budget n) all))
        (grow w more (min k w.budget) (min n w.budget) heap ready (omega arith)));
    over = λ w k n heap ready le ended. over w k n heap (nat_le w.budget k) ready le refl ended;
    trapped = λ w more k heap t ready e.
        ap (outcome_of (nat_le w.budget k)) (more-calls w more (min k w.budget) heap
        ∙ next_trapped (nat_le w.budget k) (runs w (min k w.budget) heap) (machine_calls parts (map (code_call parts) more)) t e);
  }

pub valid_code_has_a_meaning : ValidCodeHasAMeaning
valid_code_has_a_meaning parts valid = (means parts valid, lawful parts valid)

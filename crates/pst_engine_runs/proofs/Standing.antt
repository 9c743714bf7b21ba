-- The runs of the machine stand as an engine asks.
use Rattle.std.proofs.Common.{◌≡◌, ◌≢◌, ℕ, ◌+◌, ◌-◌, ◌<◌, ◌≤◌, ◌^◌, min, nat_le, Bool, true, false, List, [], ◌∷◌, ◌++◌, map, Option, Some, None, IsSome, refl, ap, sym, ◌∙◌, subst, arith}
use Rattle.std.proofs.lemmas.List.{map-append}
use Rattle.pst_base.proofs.CountLemmas.{counts_plus-assoc, same_counts}
use Rattle.pst_base.specs.Counts.{counts_plus}
use Rattle.pst_base.specs.declared.names.Counts.{Counts}
use Rattle.pst_base.specs.declared.names.RunNo.{RunNo}
use Rattle.pst_base.specs.declared.names.Trap.{Trap}
use Rattle.pst_base.specs.Heap.{Heap}
use Rattle.pst_program.specs.declared.meaning.Ended.{Ended}
use Rattle.pst_program.specs.declared.meaning.Ended.TheVariants.{Stopped}
use Rattle.pst_program.specs.Meaning.{World}
use Rattle.pst_program.specs.Outcome.{Outcome, TaskCall, first_world, left, no_counts, outcome_of}
use Rattle.pst_code.specs.declared.procedure.Parts.{Parts}
use Rattle.pst_code.specs.Calls.{CallsEndIn}
use Rattle.pst_code.specs.Laws.{counted, counted_end}
use Rattle.pst_versions.specs.State.{State}
use Rattle.pst_history.specs.declared.history.NamedCall.{NamedCall}
use Rattle.pst_history.specs.Meaning.{Meaning, IsLawful, CanBeDone, Work, with_calls}
use Rattle.pst_engine_runs.specs.Coded.{code_call, IsMeaningOf}
use Rattle.pst_machine.specs.declared.pending.ProcCall.{ProcCall}
use Rattle.pst_machine.specs.declared.stage.Stage.{Stage}
use Rattle.pst_machine.specs.declared.stage.Progress.{Progress}
use Rattle.pst_machine.specs.declared.stage.Progress.TheVariants.{Running, Done, Trapped}
use Rattle.pst_machine_frames.specs.Ready.{world_of}
use Rattle.pst_machine.specs.Advance as machine
use Rattle.pst_machine.specs.Laws as machine_laws
use Rattle.pst_machine.specs.Stands.{Stands, StandsWhere, begins_with}
use Rattle.pst_machine.proofs.Stands.{all_from_none, bare_is_ready, bare_stands, added_is_ready, added_stands, next_stands, stays_ready, still_stands}
use Rattle.pst_engine_runs.specs.Runs.{RanOn, SparesRun, MayAdd, IsFreeFor, RestsWhere, StandsAs, ended_of, runs_of}
use Rattle.pst_engine_runs.proofs.Ends.{answer_ends, calls_counted, calls_one_end, outcome_counted}
use Rattle.pst_engine_runs.proofs.Fits.{call_may}

-- ---- a run without a call

pub bare_stands_as : {P R : Type 0} (parts : Parts) (m : Meaning) → IsMeaningOf parts m
    → (s : State P R) (at : P) (run : RunNo) (budget : ℕ) (stage : Stage P R) → budget < 2 ^ 32 → IsFreeFor m s at run → machine.IsBare at run budget stage
    → StandsAs parts stage s (record { run = run; calls = []; budget = budget }) 0 (s.heap at) no_counts × RestsWhere (machine.trap_of stage.ended) stage
bare_stands_as parts m means s at run budget stage small b d = (
  record {
    works = d.failed;
    run = d.run_is;
    budget = d.budget_is;
    granted_is = λ e. d.granted;
    granted_within = omega (arith, d.granted);
    ready = bare_is_ready s parts at run budget stage small d (record { shape = b.shape ∙ means.shape; has = b.has; fresh = λ k. b.fresh (record { run = run; ordinal = k }) refl });
    others = s.counts;
    counts = sym (all_from_none s.counts);
    stands = bare_stands s parts at run budget stage d;
  },
  subst (λ (e : Option Progress). RestsWhere (machine.trap_of e) stage) (sym d.ended) (record { charged = λ u. d.left; none_waits = λ u. d.waiting }),
)

-- ---- a call more

-- what adding a call leaves
record SameRun {P R : Type 0} (a b : Stage P R) : Type 0 where
  pub standing : b.standing ≡ a.standing
  pub budget : b.budget ≡ a.budget
  pub granted : b.granted ≡ a.granted
  pub failed : b.failed ≡ a.failed
  pub free : machine.trap_of b.ended ≡ None → machine.trap_of a.ended ≡ None

same_run : {P R : Type 0} (c : ProcCall) (a b : Stage P R) (o : Option Trap) → machine.trap_of a.ended ≡ o → machine.IsAddedWhere o c a b → SameRun a b
same_run c a b None e d = record { standing = d.standing; budget = d.budget; granted = d.granted; failed = d.failed; free = λ q. e }
same_run c a b (Some t) e d = subst (SameRun a) (sym d) (record { standing = refl; budget = refl; granted = refl; failed = refl; free = λ q. q })

pub added_stands_as : {P R A : Type 0} (parts : Parts) (m : Meaning) → IsMeaningOf parts m
    → (f : A → Stage P R) (s : State P R) (a : A) (b : Stage P R) (w : Work) (k : ℕ) (y : Heap) (c : Counts) (call : NamedCall) (d : ProcCall)
    → MayAdd m (runs_of f parts) s a w k y c call → machine.task_call d ≡ code_call parts call → machine.IsAdded d (f a) b → StandsAs parts b s (with_calls w (call ∷ [])) k y c
added_stands_as parts m means f s a b w k y c call d may same added_call =
    let st = may.stands.0 in
    let r : SameRun (f a) b = same_run d (f a) b (machine.trap_of (f a).ended) refl added_call in
    let calls : map (code_call parts) w.calls ++ machine.task_call d ∷ [] ≡ map (code_call parts) (w.calls ++ call ∷ []) =
    ap (λ (t : TaskCall). map (code_call parts) w.calls ++ t ∷ []) same ∙ sym (map-append (code_call parts) w.calls (call ∷ [])) in
    record {
      works = r.failed ∙ st.works;
      run = ap (λ z. z.run) r.standing ∙ st.run;
      budget = r.budget ∙ st.budget;
      granted_is = λ e. r.granted ∙ st.granted_is (r.free e);
      granted_within = subst (λ (n : ℕ). n ≤ k) (sym r.granted) st.granted_within;
      ready = added_is_ready s parts d (f a) b st.ready added_call (call_may parts m means (runs_of f parts) s a w k y c call may d same);
      others = st.others;
      counts = st.counts;
      stands = subst (λ (cs : List TaskCall). Stands parts cs y st.others s b) calls (added_stands s parts (map (code_call parts) w.calls) y st.others d (f a) b st.stands added_call);
    }

-- ---- other runs

pub still_stands_as : {P R : Type 0} (parts : Parts) (s t : State P R) (a : Stage P R) (w : Work) (k : ℕ) (y : Heap) (c : Counts)
    → StandsAs parts a s w k y c → SparesRun s t a.standing.place w.run → StandsAs parts a t w k y c
still_stands_as parts s t a w k y c d l =
    let more : Counts = record {
      records = t.counts.records - s.counts.records;
      pointer_writes =
          t.counts.pointer_writes - s.counts.pointer_writes;
      value_writes = t.counts.value_writes - s.counts.value_writes;
    } in
    let counts : t.counts ≡ counts_plus s.counts more = same_counts t.counts (counts_plus s.counts more) (omega (arith, l.counts.records))
    (omega (arith, l.counts.pointer_writes)) (omega (arith, l.counts.value_writes)) in
    let alone : machine_laws.LeavesAlone s t a = record { grows = l.grows; heap = l.heap; writable = l.writable; fresh = λ n le f. l.fresh (record { run = a.standing.run; ordinal = n }) d.run f } in
    record {
      works = d.works;
      run = d.run;
      budget = d.budget;
      granted_is = d.granted_is;
      granted_within = d.granted_within;
      ready = stays_ready s t parts a d.ready alone;
      others = counts_plus d.others more;
      counts = counts ∙ ap (λ (x : Counts). counts_plus x more) d.counts ∙ sym (counts_plus-assoc c d.others more);
      stands = still_stands s t parts (map (code_call parts) w.calls) y d.others more a d.stands d.ready alone counts;
    }

-- ---- a slice

-- the outcome, where others counted so much
abbrev beside : Counts → Outcome → Outcome
beside others o = record o { counts = counts_plus o.counts others }

-- where a slice answers a run is at rest
answer_rests : {P R : Type 0} (parts : Parts) (calls : List TaskCall) (first : World) (t : State P R) (b : Stage P R) (p : Progress)
    → machine.ComesToAnswer p parts calls first t b → RestsWhere (machine.trap_of (machine.ended_by p)) b
answer_rests parts calls first t b Running d = record { charged = λ u. d.3; none_waits = λ u. (let q : true ≡ false = sym d.0 ∙ u in absurd (cc)) }
answer_rests parts calls first t b Done d = record { charged = λ u. (let q : true ≡ false = sym u ∙ d.0 in absurd (cc)); none_waits = λ u. d.1 }
answer_rests parts calls first t b (Trapped trap) d = tt

-- the calls of work, as the machine has them
abbrev calls_in : Parts → Work → List TaskCall
calls_in parts w = map (code_call parts) w.calls

module _ {P R : Type 0} (parts : Parts) (m : Meaning) (means : IsMeaningOf parts m) (law : IsLawful m) (w : Work) (y : Heap) (ready : CanBeDone m w y) where
  -- what is answered is so of the outcome
  outcome_at : (u : State P R) (b : Stage P R) (g : ℕ) (others : Counts) (p : Progress) → b.granted ≡ g → g ≤ w.budget → b.standing.run ≡ w.run
      → b.budget ≡ w.budget → machine.ComesToAnswer p parts (calls_in parts w) (begins_with others b.standing.run b.granted y) u b
      → left (ended_of p) (world_of u b.standing) ≡ beside others (m.outcome w g y)
  outcome_at u b g others p granted_is le run budget come =
      let e = answer_ends parts (calls_in parts w) (begins_with others b.standing.run b.granted y) u b p come in
      let charges : b.granted ≡ min g w.budget = omega (arith, granted_is, le) in
      let first : begins_with others b.standing.run b.granted y ≡ counted others (first_world w.run (min g w.budget) y) = (λ i. begins_with others (run i) (charges i) y) in
      let own = means.comes w g y ready in
      let shifted : CallsEndIn parts (calls_in parts w) (counted others (first_world w.run (min g w.budget) y)) (counted_end others own.0) =
      calls_counted parts others (calls_in parts w) (first_world w.run (min g w.budget) y) own.0 own.1 in
      let same : e.end ≡ counted_end others own.0 =
      calls_one_end parts (calls_in parts w) (counted others (first_world w.run (min g w.budget) y)) e.end (counted_end others own.0)
      (subst (λ (x : World). CallsEndIn parts (calls_in parts w) x e.end) first e.ends) shifted in
      let whole : nat_le b.budget b.granted ≡ nat_le w.budget g = (λ i. nat_le (budget i) (granted_is i)) in
      sym e.outcome
      ∙ ap (λ (x : Bool). outcome_of x e.end) whole
      ∙ ap (outcome_of (nat_le w.budget g)) same
      ∙ outcome_counted (nat_le w.budget g) others own.0
      ∙ ap (beside others) (sym (means.outcome w g y own.0 own.1))

  module _ {A : Type 0} (f : A → Stage P R) (s : State P R) (a : A) (k : ℕ) (c : Counts) (d : StandsAs parts (f a) s w k y c) (within : k ≤ w.budget) where
    sums : (t : State P R) (o : Counts) → t.counts ≡ counts_plus o d.others → counts_plus t.counts c ≡ counts_plus s.counts o
    sums t o e =
        let turned : counts_plus (counts_plus o d.others) c ≡ counts_plus (counts_plus c d.others) o =
        same_counts (counts_plus (counts_plus o d.others) c) (counts_plus (counts_plus c d.others) o) (omega arith) (omega arith) (omega arith) in
        ap (λ (x : Counts). counts_plus x c) e ∙ turned ∙ ap (λ (x : Counts). counts_plus x o) (sym d.counts)

    -- a run that has not trapped
    free_advanced : (t : State P R) (b : A) (charges : ℕ) (p : Progress) → machine.trap_of (f a).ended ≡ None
        → machine.Advances parts s (f a) charges p t (f b) → machine.IsReady parts t (f b) → (f b).failed ≡ false
        → RanOn m (runs_of f parts) s a w (min (k + charges) w.budget) y c (ended_of p) t b
    free_advanced t b charges p free adv ready_b works_b =
        let g : ℕ = min (k + charges) w.budget in
        let was : (f a).granted ≡ k = d.granted_is free in
        let granted_is : (f b).granted ≡ g = omega (arith, adv.granted_is, was, d.budget) in
        let most : g ≤ w.budget = omega arith in
        let small : (f a).granted ≤ (f a).budget = omega (arith, was, within, d.budget) in
        let next = next_stands s t parts (calls_in parts w) y d.others charges (f a) (f b) p d.stands free small adv in
        let run : (f b).standing.run ≡ w.run = adv.run ∙ d.run in
        let budget : (f b).budget ≡ w.budget = adv.same_budget ∙ d.budget in
        let o = outcome_at t (f b) g d.others p granted_is most run budget next.1 in
        let counts : t.counts ≡ counts_plus (m.outcome w g y).counts d.others = ap (λ (z : Outcome). z.counts) o in
        record {
          place = adv.place;
          stands = (
            record {
              works = works_b;
              run = run;
              budget = budget;
              granted_is = λ e. granted_is;
              granted_within = omega (arith, granted_is);
              ready = ready_b;
              others = d.others;
              counts = counts;
              stands = next.0;
            },
            subst (λ (e : Option Progress). RestsWhere (machine.trap_of e) (f b)) (sym adv.ended)
                (answer_rests parts (calls_in parts w) (begins_with d.others (f b).standing.run (f b).granted y) t (f b) p next.1),
          );
          heap = ap t.heap (sym adv.place) ∙ ap (λ (z : Outcome). z.heap) o;
          printed = ap (λ (z : Outcome). z.printed) o;
          is_end = ap (λ (z : Outcome). z.end) o;
          counts = sums t (m.outcome w g y).counts counts;
          names = λ n other. adv.names n (λ e. other (e ∙ d.run));
        }

    -- one that has trapped stays as it is
    over_advanced : (b : A) (charges : ℕ) (trap : Trap) → machine.trap_of (f a).ended ≡ Some trap → f b ≡ f a
        → RanOn m (runs_of f parts) s a w (min (k + charges) w.budget) y c (ended_of (Trapped trap)) s b
    over_advanced b charges trap trapped is =
        let g : ℕ = min (k + charges) w.budget in
        let less : (f a).granted ≤ k = d.granted_within in
        let come : machine.ComesToAnswer (Trapped trap) parts (calls_in parts w) (begins_with d.others (f a).standing.run (f a).granted y) s (f a) =
        subst (λ (o : Option Trap). StandsWhere o parts (calls_in parts w) (begins_with d.others (f a).standing.run (f a).granted y) s (f a)) trapped d.stands in
        let first = outcome_at s (f a) (f a).granted d.others (Trapped trap) refl (omega (arith, less, within)) d.run d.budget come in
        let ended : (m.outcome w (f a).granted y).end ≢ Stopped = (λ e. let z : ended_of (Trapped trap) ≡ Stopped = ap (λ (z : Outcome). z.end) first ∙ e in absurd (cc)) in
        let same : m.outcome w g y ≡ m.outcome w (f a).granted y = law.over w (f a).granted g y ready (omega (arith, less, within)) ended in
        let o = first ∙ ap (beside d.others) (sym same) in
        let counts : s.counts ≡ counts_plus (m.outcome w g y).counts d.others = ap (λ (z : Outcome). z.counts) o in
        let stands : StandsAs parts (f a) s w g y (m.outcome w g y).counts = record {
          works = d.works;
          run = d.run;
          budget = d.budget;
          granted_is = λ e. (let q : Some trap ≡ None = sym trapped ∙ e in absurd (cc));
          granted_within = omega (arith, less, within);
          ready = d.ready;
          others = d.others;
          counts = counts;
          stands = d.stands;
        } in
        record {
          place = ap (λ (z : Stage P R). z.standing.place) is;
          stands = (
            subst (λ (z : Stage P R). StandsAs parts z s w g y (m.outcome w g y).counts) (sym is) stands,
            subst (λ (x : Option Trap). RestsWhere x (f b)) (sym (ap (λ (z : Stage P R). machine.trap_of z.ended) is ∙ trapped)) tt,
          );
          heap = ap (λ (z : Outcome). z.heap) o;
          printed = ap (λ (z : Stage P R). z.standing.printed.items) is ∙ ap (λ (z : Outcome). z.printed) o;
          is_end = ap (λ (z : Outcome). z.end) o;
          counts = sums s (m.outcome w g y).counts counts;
          names = λ n other fresh. fresh;
        }

    pub any_advanced : (t : State P R) (b : A) (charges : ℕ) (p : Progress) (end : Ended) (o : Option Trap) → machine.trap_of (f a).ended ≡ o
        → machine.AdvancesWhere o parts s (f a) charges p t (f b) → machine.IsReady parts t (f b) × ((f b).failed ≡ false) → (IsSome o → t ≡ s)
        → end ≡ ended_of p
        → RanOn m (runs_of f parts) s a w (min (k + charges) w.budget) y c end t b
    any_advanced t b charges p end None e adv after still is =
        subst (λ (x : Ended). RanOn m (runs_of f parts) s a w (min (k + charges) w.budget) y c x t b) (sym is)
        (free_advanced t b charges p e adv after.0 after.1)
    any_advanced t b charges p end (Some trap) e adv after still is =
        let over = over_advanced b charges trap e adv.1 in
        let there = subst (λ (u : State P R). RanOn m (runs_of f parts) s a w (min (k + charges) w.budget) y c (ended_of (Trapped trap)) u b) (sym (still (refl))) over in
        subst (λ (x : Ended). RanOn m (runs_of f parts) s a w (min (k + charges) w.budget) y c x t b) (sym (is ∙ ap ended_of adv.0)) there

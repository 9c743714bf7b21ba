-- Runs stand by the definition, and can go on.
use Rattle.std.proofs.Common.{◌≡◌, ◌⊎◌, inl, inr, ℕ, zero, suc, ◌+◌, ◌-◌, ◌<◌, ◌≤◌, ◌^◌, Bool, true, false, nat_le, List, [], ◌∷◌, ◌++◌, Option, Some, None, refl, ap, sym, ◌∙◌, subst, arith}
use Rattle.std.specs.Prelude.{slice_get}
use Rattle.pst_base.specs.Counts.{counts_plus}
use Rattle.pst_base.specs.declared.names.Counts.{Counts}
use Rattle.pst_base.specs.declared.names.RunNo.{RunNo}
use Rattle.pst_base.specs.declared.names.Trap.{Trap}
use Rattle.pst_base.specs.Heap.{Heap}
use Rattle.pst_program.specs.Meaning.{World, Normal, Returned, Trapped, Spent}
use Rattle.pst_program.specs.Outcome.{TaskCall, first_world, no_counts}
use Rattle.pst_code.specs.declared.procedure.Parts.{Parts}
use Rattle.pst_code.specs.Machine.{Frame, Caller, Move, Goes, Waits, Over, Stuck}
use Rattle.pst_code.specs.SoundRuns.{IsSoundRun, outermost}
use Rattle.pst_code.specs.Spending.{spendable}
use Rattle.pst_code.specs.Laws.{granted, counted, counted_move}
use Rattle.pst_versions.specs.State.{State, IsFresh}
use Rattle.pst_machine.specs.declared.pending.ProcCall.{ProcCall}
use Rattle.pst_machine.specs.declared.stage.Stage.{Stage}
use Rattle.pst_machine.specs.declared.stage.Progress.{Progress}
use Rattle.pst_machine.specs.declared.stage.Progress.TheVariants.{Running, Done, Trapped as TrappedAt}
use Rattle.pst_machine_frames.specs.Ready.{AreLive, IsRunning, world_of, current_of, waiting_of}
use Rattle.pst_machine.specs.Advance.{AllMayCall, CanGoOn, ComesBetween, ComesIn, ComesToAnswer, ComesToTrap, HasOneMore, IsAddedWhere, IsAt, IsBare, IsBetween}
use Rattle.pst_machine.specs.Advance.{IsOngoing, IsReady, MayCall, ReadyWhere, TrapsBy, calls_of, ended_by, payable, task_call, trap_of}
use Rattle.pst_machine.specs.Laws.{AddedIsReady, BareIsReady, LeavesAlone, MayBegin, OthersStayReady, StaysReady}
use Rattle.pst_machine.specs.Stands.{AddedStands, BareStands, NextStands, SlicesAddUp, Stands, StandsWhere, StillStands, begins_with}
use Rattle.pst_machine_frames.proofs.Acting.{frame_kept, callers_kept, live_grows, waiting_grows}
use Rattle.pst_machine.proofs.Leading.{in_granted, in_counted, between_counted, in_added, between_added, calls_added}

-- ---- a run without a call

pub all_from_none : (c : Counts) → counts_plus no_counts c ≡ c
all_from_none c =
    let a : 0 + c.records ≡ c.records = omega arith in
    let b : 0 + c.pointer_writes ≡ c.pointer_writes = omega arith in
    let d : 0 + c.value_writes ≡ c.value_writes = omega arith in
    λ i. record { records = a i; pointer_writes = b i; value_writes = d i }

none_there : {P R : Type 0} (parts : Parts) (s : State P R) (at : P) → AllMayCall parts s at []
none_there parts s at i c e = absurd (cc)

module _ {P R : Type 0} (s : State P R) (parts : Parts) (at : P) (run : RunNo) (budget : ℕ) (stage : Stage P R) (d : IsBare at run budget stage) where
  bare_between : MayBegin parts s at run → IsBetween parts s stage.standing
  bare_between may = record {
    shape = may.shape;
    has = subst s.has (sym d.place) may.has;
    empty = record { registers = d.registers; callers = d.callers };
    fresh = λ k le. subst (λ (r : RunNo). IsFresh s record { run = r; ordinal = k }) (sym d.run_is) (may.fresh k);
  }

  bare_ongoing : budget < 2 ^ 32 → MayBegin parts s at run → IsOngoing parts s stage
  bare_ongoing small may = record {
    goes = subst (λ (u : Bool). CanGoOn u parts s stage.standing) (sym d.under_way) (bare_between may);
    calls = subst (AllMayCall parts s stage.standing.place) (sym d.waiting) (none_there parts s stage.standing.place);
    made = subst (λ (u : Bool). stage.standing.made + payable u parts s stage.standing ≤ stage.granted) (sym d.under_way) (omega (arith, d.made, d.left));
    granted = omega (arith, d.granted);
    budget = subst (λ (n : ℕ). n < 2 ^ 32) (sym d.budget_is) small;
  }

  bare_at : ComesBetween parts [] (begins_with s.counts stage.standing.run stage.granted (s.heap at)) [] (world_of s stage.standing)
  bare_at = record {
    done = [];
    split = refl;
    leads = (let charges : stage.granted ≡ stage.standing.left = d.granted ∙ sym d.left in
        λ i. record { heap = s.heap (sym d.place i); charges = charges i; printed = sym d.printed i; run = stage.standing.run; made = sym d.made i; counts = all_from_none s.counts i });
  }

pub bare_is_ready : {P R : Type 0} (s : State P R) → BareIsReady s
bare_is_ready s parts at run budget stage small d may = subst (λ (e : Option Progress). ReadyWhere (trap_of e) parts s stage) (sym d.ended) (bare_ongoing s parts at run budget stage d small may)

pub bare_stands : {P R : Type 0} (s : State P R) → BareStands s
bare_stands s parts at run budget stage d =
    let first = begins_with s.counts stage.standing.run stage.granted (s.heap at) in
    subst (λ (e : Option Progress). StandsWhere (trap_of e) parts [] first s stage) (sym d.ended)
    (subst (λ (u : Bool). IsAt u parts [] first s stage.standing (calls_of stage.waiting)) (sym d.under_way)
    (subst (λ (ws : List ProcCall). ComesBetween parts [] first (calls_of ws) (world_of s stage.standing)) (sym d.waiting) (bare_at s parts at run budget stage d)))

-- ---- a call more

last_or : (xs : List ProcCall) (c : ProcCall) (i : ℕ) (d : ProcCall) → slice_get (xs ++ c ∷ []) i ≡ Some d → (slice_get xs i ≡ Some d) ⊎ (c ≡ d)
last_or [] c zero d e = inr (cc)
last_or [] c (suc i) d e = absurd (cc)
last_or (x ∷ xs) c zero d e = inl e
last_or (x ∷ xs) c (suc i) d e = last_or xs c i d e

module _ {P R : Type 0} (s : State P R) (parts : Parts) (c : ProcCall) (a b : Stage P R) where
  all_added : AllMayCall parts s a.standing.place a.waiting → MayCall parts s a.standing.place c → AllMayCall parts s a.standing.place (a.waiting ++ c ∷ [])
  all_added all may i d e = elim (last_or a.waiting c i d e) [ inl old ↦ all i d old | inr same ↦ subst (MayCall parts s a.standing.place) same may ]

  -- the stage with the call
  abbrev with_more : Stage P R
  with_more = record a { waiting = b.waiting; ended = None }

  is_more : HasOneMore c a b → with_more ≡ b
  is_more m = λ i. record {
    standing = sym m.standing i;
    waiting = b.waiting;
    under_way = sym m.under_way i;
    budget = sym m.budget i;
    granted =
        sym m.granted i;
    ended = sym m.ended i;
    failed = sym m.failed i;
  }

  added_ready : IsOngoing parts s a → HasOneMore c a b → MayCall parts s a.standing.place c → IsReady parts s b
  added_ready r m may =
      subst (IsReady parts s) (is_more m)
      record {
        goes = r.goes;
        calls = subst (AllMayCall parts s a.standing.place) (sym m.waiting) (all_added r.calls may);
        made = r.made;
        granted = r.granted;
        budget = r.budget;
      }

  added_at : (calls : List TaskCall) (first : World) (u : Bool) → IsAt u parts calls first s a.standing (calls_of a.waiting) → HasOneMore c a b
      → IsAt u parts (calls ++ task_call c ∷ []) first s a.standing (calls_of b.waiting)
  added_at calls first true at m =
      subst (λ (ws : List TaskCall). ComesIn parts (calls ++ task_call c ∷ []) first ws
      (Goes (current_of parts s a.standing) (waiting_of parts s a.standing) (world_of s a.standing)))
      (sym (ap calls_of m.waiting ∙ calls_added a.waiting c))
      (in_added parts calls first (calls_of a.waiting) (Goes (current_of parts s a.standing) (waiting_of parts s a.standing) (world_of s a.standing)) (task_call c) at)
  added_at calls first false at m =
      subst (λ (ws : List TaskCall). ComesBetween parts (calls ++ task_call c ∷ []) first ws (world_of s a.standing)) (sym (ap calls_of m.waiting ∙ calls_added a.waiting c))
      (between_added parts calls first (calls_of a.waiting) (world_of s a.standing) (task_call c) at)

pub added_is_ready : {P R : Type 0} (s : State P R) → AddedIsReady s
added_is_ready s parts c a b r m may = on (trap_of a.ended) refl r m
  where
    on : (o : Option Trap) → trap_of a.ended ≡ o → ReadyWhere o parts s a → IsAddedWhere o c a b → IsReady parts s b
    on None e r m = added_ready s parts c a b r m may
    on (Some t) e r m = subst (IsReady parts s) (sym m) (subst (λ (o : Option Trap). ReadyWhere o parts s a) (sym e) r)

pub added_stands : {P R : Type 0} (s : State P R) → AddedStands s
added_stands s parts calls heap others c a b stands m = on (trap_of a.ended) refl stands m
  where
    on : (o : Option Trap) → trap_of a.ended ≡ o → StandsWhere o parts calls (begins_with others a.standing.run a.granted heap) s a
        → IsAddedWhere o c a b → Stands parts (calls ++ task_call c ∷ []) heap others s b
    on None e at m = subst (Stands parts (calls ++ task_call c ∷ []) heap others s) (is_more s parts c a b m)
        (added_at s parts c a b calls (begins_with others a.standing.run a.granted heap) a.under_way at m)
    on (Some t) e trap m =
        let more : ComesToTrap parts (calls ++ task_call c ∷ []) (begins_with others a.standing.run a.granted heap) (nat_le a.budget a.granted) t (world_of s a.standing) =
        record {
          waiting = trap.waiting ++ task_call c ∷ [];
          move = trap.move;
          comes =
              in_added parts calls (begins_with others a.standing.run a.granted heap) trap.waiting trap.move (task_call c) trap.comes;
          traps = trap.traps;
        } in
        subst (Stands parts (calls ++ task_call c ∷ []) heap others s) (sym m)
        (subst (λ (o : Option Trap). StandsWhere o parts (calls ++ task_call c ∷ []) (begins_with others a.standing.run a.granted heap) s a) (sym e) more)

-- ---- a slice

granted_none : (w : World) → granted 0 w ≡ w
granted_none w = let e : w.charges + 0 ≡ w.charges = omega arith in λ i. record w { charges = e i }

-- where a run waits for a charge it goes on
waits_goes : (parts : Parts) (calls : List TaskCall) (first : World) (ws : List TaskCall) (line : ℕ) (f : Frame) (cs : List Caller) (w : World)
    → ComesIn parts calls first ws (Waits line f cs w) → ComesIn parts calls first ws (Goes f cs w)
waits_goes parts calls first ws line f cs w d =
    subst (λ (x : World). ComesIn parts calls first ws (Goes f cs x)) (granted_none w)
    (subst (λ (x : World). ComesIn parts calls x ws (Goes f cs (granted 0 w))) (granted_none first) (in_granted parts 0 calls first ws (Waits line f cs w) d))

answer_stands : {P R : Type 0} (parts : Parts) (calls : List TaskCall) (first : World) (t : State P R) (b : Stage P R) (p : Progress)
    → ComesToAnswer p parts calls first t b → StandsWhere (trap_of (ended_by p)) parts calls first t b
answer_stands parts calls first t b Running d =
    subst (λ (u : Bool). IsAt u parts calls first t b.standing (calls_of b.waiting)) (sym d.0)
    (waits_goes parts calls first (calls_of b.waiting) d.2.0 (current_of parts t b.standing) (waiting_of parts t b.standing) (world_of t b.standing) d.2.1)
answer_stands parts calls first t b Done d =
    subst (λ (u : Bool). IsAt u parts calls first t b.standing (calls_of b.waiting)) (sym d.0)
    (subst (λ (ws : List ProcCall). ComesBetween parts calls first (calls_of ws) (world_of t b.standing)) (sym d.1) d.2)
answer_stands parts calls first t b (TrappedAt trap) d = d

pub next_stands : {P R : Type 0} (s t : State P R) → NextStands s t
next_stands s t parts calls heap others charges a b p stands ongoing small adv =
    let at = subst (λ (o : Option Trap). StandsWhere o parts calls (begins_with others a.standing.run a.granted heap) s a) ongoing stands in
    let come = adv.comes calls (begins_with others a.standing.run a.granted heap) at in
    let sum : a.granted + (b.granted - a.granted) ≡ b.granted = omega (arith, adv.granted_is, small) in
    let first : granted (b.granted - a.granted) (begins_with others a.standing.run a.granted heap) ≡ begins_with others b.standing.run b.granted heap =
    (λ i. record { heap = heap; charges = sum i; printed = []; run = sym adv.run i; made = 0; counts = counts_plus no_counts others }) in
    let there : ComesToAnswer p parts calls (begins_with others b.standing.run b.granted heap) t b = subst (λ (w : World). ComesToAnswer p parts calls w t b) first come in (
      subst (λ (e : Option Progress). StandsWhere (trap_of e) parts calls (begins_with others b.standing.run b.granted heap) t b) (sym adv.ended)
          (answer_stands parts calls (begins_with others b.standing.run b.granted heap) t b p there),
      there,
    )

-- ---- two slices

granted_twice : (k m n : ℕ) (w : World) → k + m ≡ n → granted m (granted k w) ≡ granted n w
granted_twice k m n w e = let sum : (w.charges + k) + m ≡ w.charges + n = omega (arith, e) in λ i. record w { charges = sum i }

pub slices_add_up : {P R : Type 0} (s t u : State P R) → SlicesAddUp s t u
slices_add_up s t u parts k m a b c p q small one free two =
    let first_sum : a.granted ≤ b.granted = omega (arith, one.granted_is, small) in
    let last_sum : b.granted ≤ c.granted = omega (arith, one.granted_is, one.same_budget, two.granted_is) in
    let sum : (b.granted - a.granted) + (c.granted - b.granted) ≡ c.granted - a.granted = omega (arith, first_sum, last_sum) in
    record {
      granted_is = omega (arith, one.granted_is, one.same_budget, two.granted_is);
      same_budget = two.same_budget ∙ one.same_budget;
      place = two.place ∙ one.place;
      run = two.run ∙ one.run;
      ended = two.ended;
      comes = λ calls first at.
          let between = granted (b.granted - a.granted) first in
          let stands : StandsWhere (trap_of b.ended) parts calls between t b =
          subst (λ (e : Option Progress). StandsWhere (trap_of e) parts calls between t b) (sym one.ended) (answer_stands parts calls between t b p (one.comes calls first at)) in
          let at_b = subst (λ (o : Option Trap). StandsWhere o parts calls between t b) free stands in
          subst (λ (w : World). ComesToAnswer q parts calls w u c) (granted_twice (b.granted - a.granted) (c.granted - b.granted) (c.granted - a.granted) first sum) (two.comes calls between at_b);
      names = λ n other fresh. two.names n (λ e. other (e ∙ one.run)) (one.names n other fresh);
    }

-- ---- other runs

module _ {P R : Type 0} (s t : State P R) (parts : Parts) (stage : Stage P R) (l : LeavesAlone s t stage) where
  same_frame : AreLive s stage.standing → current_of parts t stage.standing ≡ current_of parts s stage.standing
  same_frame live = frame_kept s t stage.standing.place l.grows parts stage.standing.current live.current

  same_callers : AreLive s stage.standing → waiting_of parts t stage.standing ≡ waiting_of parts s stage.standing
  same_callers live = callers_kept s t stage.standing.place l.grows parts stage.standing.callers.items live.waiting

  still_live : AreLive s stage.standing → AreLive t stage.standing
  still_live live = record {
    current = live_grows s t stage.standing.place l.grows stage.standing.current.registers.items live.current;
    waiting = waiting_grows s t stage.standing.place l.grows stage.standing.callers.items live.waiting;
    few = live.few;
  }

  running_on : IsRunning parts s stage.standing → IsRunning parts t stage.standing
  running_on r =
      let heap : t.heap stage.standing.place ≡ s.heap stage.standing.place = l.heap in
      let counted_so : World = record (world_of t stage.standing) { heap = s.heap stage.standing.place } in
      let first : IsSoundRun parts (current_of parts s stage.standing) (waiting_of parts s stage.standing) counted_so =
      record { frame = r.sound.frame; waiting = r.sound.waiting; world = record { well_formed = r.sound.world.well_formed; fresh = r.sound.world.fresh } } in
      let second : IsSoundRun parts (current_of parts s stage.standing) (waiting_of parts s stage.standing) (world_of t stage.standing) =
      subst (λ (h : Heap). IsSoundRun parts (current_of parts s stage.standing) (waiting_of parts s stage.standing) (record (world_of t stage.standing) { heap = h })) (sym heap) first in
      record {
        shape = l.grows.shape ∙ r.shape;
        has = l.grows.has stage.standing.place r.has;
        writable = λ e. l.writable (r.writable (ap (λ (f : Frame). (outermost f.procedure (waiting_of parts s stage.standing)).query)
            (sym (same_frame r.live)) ∙ ap (λ (c : List Caller). (outermost (current_of parts t stage.standing).procedure c).query)
            (sym (same_callers r.live)) ∙ e));
        sound = subst (λ (f : Frame). IsSoundRun parts f (waiting_of parts t stage.standing) (world_of t stage.standing)) (sym (same_frame r.live))
            (subst (λ (c : List Caller). IsSoundRun parts (current_of parts s stage.standing) c (world_of t stage.standing)) (sym (same_callers r.live)) second);
        live = still_live r.live;
        fresh = λ k le. l.fresh k le (r.fresh k le);
      }

  goes_on : (u : Bool) → CanGoOn u parts s stage.standing → CanGoOn u parts t stage.standing
  goes_on true r = running_on r
  goes_on false r = record { shape = l.grows.shape ∙ r.shape; has = l.grows.has stage.standing.place r.has; empty = r.empty; fresh = λ k le. l.fresh k le (r.fresh k le) }

  pays_on : (u : Bool) → CanGoOn u parts s stage.standing → payable u parts t stage.standing ≡ payable u parts s stage.standing
  pays_on true r =
      ap (λ (f : Frame). spendable f (waiting_of parts t stage.standing) (world_of t stage.standing)) (same_frame r.live)
      ∙ ap (λ (c : List Caller). spendable (current_of parts s stage.standing) c (world_of t stage.standing)) (same_callers r.live)
  pays_on false r = refl

  ready_on : (o : Option Trap) → ReadyWhere o parts s stage → ReadyWhere o parts t stage
  ready_on None o =
      let pays = pays_on stage.under_way o.goes in
      record {
        goes = goes_on stage.under_way o.goes;
        calls = λ i c e. let may = o.calls i c e in record { takes = may.takes; writable = λ q. l.writable (may.writable q) };
        made = omega (arith, o.made, pays);
        granted = o.granted;
        budget = o.budget;
      }
  ready_on (Some trap) o = record { has = l.grows.has stage.standing.place o.has; empty = o.empty }

pub stays_ready : {P R : Type 0} (s t : State P R) → StaysReady s t
stays_ready s t parts stage ready l = ready_on s t parts stage l (trap_of stage.ended) ready

-- a ready run is at a place of the heap
ready_has : {P R : Type 0} (parts : Parts) (s : State P R) (stage : Stage P R) (o : Option Trap) → ReadyWhere o parts s stage → s.has stage.standing.place
ready_has parts s stage None r = goes_has parts s stage stage.under_way r.goes
  where
    goes_has : {P R : Type 0} (parts : Parts) (s : State P R) (stage : Stage P R) (u : Bool) → CanGoOn u parts s stage.standing → s.has stage.standing.place
    goes_has parts s stage true r = r.has
    goes_has parts s stage false r = r.has
ready_has parts s stage (Some trap) r = r.has

pub others_stay_ready : {P R : Type 0} (s t : State P R) → OthersStayReady s t
others_stay_ready s t parts charges a b other p adv kept writes ready place run = stays_ready s t parts other ready (record {
  grows = kept.keeps.grows;
  heap = elim (kept.others.stay other.standing.place (ready_has parts s other (trap_of other.ended) ready)) [ inl e ↦ absurd (place e) | inr e ↦ e ];
  writable = writes.kept other.standing.place;
  fresh = λ k le fresh. adv.names record { run = other.standing.run; ordinal = k } run fresh;
})

-- what others counted and what they count more
more_counted : (more others : Counts) (w : World) → counted more (counted others w) ≡ counted (counts_plus others more) w
more_counted more others w =
    let a : (w.counts.records + others.records) + more.records ≡ w.counts.records + (others.records + more.records) = omega arith in
    let b : (w.counts.pointer_writes + others.pointer_writes) + more.pointer_writes ≡ w.counts.pointer_writes + (others.pointer_writes + more.pointer_writes) = omega arith in
    let d : (w.counts.value_writes + others.value_writes) + more.value_writes ≡ w.counts.value_writes + (others.value_writes + more.value_writes) = omega arith in
    λ i. record w { counts = record { records = a i; pointer_writes = b i; value_writes = d i } }

module _ {P R : Type 0} (s t : State P R) (parts : Parts) (stage : Stage P R) (l : LeavesAlone s t stage) (more : Counts) (counts : t.counts ≡ counts_plus s.counts more) where
  still_world : counted more (world_of s stage.standing) ≡ world_of t stage.standing
  still_world = λ i. record (world_of s stage.standing) { heap = sym l.heap i; counts = sym counts i }

  still_at : (calls : List TaskCall) (first : World) (u : Bool) → CanGoOn u parts s stage.standing
      → IsAt u parts calls first s stage.standing (calls_of stage.waiting) → IsAt u parts calls (counted more first) t stage.standing (calls_of stage.waiting)
  still_at calls first true r at =
      let on = in_counted parts more calls first (calls_of stage.waiting) (Goes (current_of parts s stage.standing) (waiting_of parts s stage.standing) (world_of s stage.standing)) at in
      subst (λ (f : Frame). ComesIn parts calls (counted more first) (calls_of stage.waiting)
      (Goes f (waiting_of parts t stage.standing) (world_of t stage.standing))) (sym (same_frame s t parts stage l r.live))
      (subst (λ (c : List Caller). ComesIn parts calls (counted more first) (calls_of stage.waiting)
      (Goes (current_of parts s stage.standing) c (world_of t stage.standing))) (sym (same_callers s t parts stage l r.live))
      (subst (λ (w : World). ComesIn parts calls (counted more first) (calls_of stage.waiting) (Goes (current_of parts s stage.standing) (waiting_of parts s stage.standing) w)) still_world on))
  still_at calls first false r at =
      subst (ComesBetween parts calls (counted more first) (calls_of stage.waiting)) still_world (between_counted parts more calls first (calls_of stage.waiting) (world_of s stage.standing) at)

  still_traps : (whole : Bool) (trap : Trap) (m : Move) → TrapsBy whole trap (world_of s stage.standing) m → TrapsBy whole trap (world_of t stage.standing) (counted_move more m)
  still_traps whole trap (Over (Trapped kind line w)) d = (d.0, ap (counted more) d.1 ∙ still_world)
  still_traps whole trap (Waits line f c w) d = (d.0, d.1, ap (counted more) d.2 ∙ still_world)
  still_traps whole trap (Over (Returned v w)) d = absurd d
  still_traps whole trap (Over (Normal registers w)) d = absurd d
  still_traps whole trap (Over (Spent line w)) d = absurd d
  still_traps whole trap (Goes f c w) d = absurd d
  still_traps whole trap Stuck d = absurd d

  still_where : (calls : List TaskCall) (first : World) (o : Option Trap) → ReadyWhere o parts s stage → StandsWhere o parts calls first s stage
      → StandsWhere o parts calls (counted more first) t stage
  still_where calls first None ready at = still_at calls first stage.under_way ready.goes at
  still_where calls first (Some trap) ready d = record {
    waiting = d.waiting;
    move = counted_move more d.move;
    comes = in_counted parts more calls first d.waiting d.move d.comes;
    traps = still_traps (nat_le stage.budget stage.granted) trap d.move d.traps;
  }

pub still_stands : {P R : Type 0} (s t : State P R) → StillStands s t
still_stands s t parts calls heap others more a stands ready l counts =
    subst (λ (w : World). StandsWhere (trap_of a.ended) parts calls w t a) (more_counted more others (first_world a.standing.run a.granted heap))
    (still_where s t parts a l more counts calls (begins_with others a.standing.run a.granted heap) (trap_of a.ended) ready stands)

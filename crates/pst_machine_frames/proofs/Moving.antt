-- What holds of a running machine from one instruction to the next.
use Rattle.std.proofs.Common.{◌≡◌, ◌≢◌, ◌⊎◌, inl, inr, ℕ, ◌+◌, ◌<◌, ◌≤◌, List, length, drop, Option, Some, None, refl, ap, sym, ◌∙◌, subst, arith, slice_index_or}
use Rattle.std.specs.Prelude.{slice_get, unwrap_or}
use Rattle.std.proofs.lemmas.List.{get_or-drop}
use Rattle.std.proofs.lemmas.Option.{slice_get_read}
use Rattle.std.specs.FinMap.{get}
use Rattle.pst_base.specs.declared.names.Name.{Name}
use Rattle.pst_base.specs.Heap.{Heap, type_in}
use Rattle.pst_base.proofs.WellFormed.{none-from_type}
use Rattle.pst_program.specs.Meaning.{World}
use Rattle.pst_code.specs.declared.instr.Instr.{Instr}
use Rattle.pst_code.specs.declared.procedure.Procedure.{Procedure}
use Rattle.pst_code.specs.declared.procedure.Parts.{Parts}
use Rattle.pst_code.specs.Valid.{IsValidCode}
use Rattle.pst_code.specs.Machine.{Frame, Caller, Move, Goes, Waits as WaitsFor, Over, Stuck, act, next_instr, steps, go_on}
use Rattle.pst_code.specs.SoundRuns.{IsSoundFrame, MoveIsSound, LeadsSound}
use Rattle.pst_code.specs.Laws.{Reaches}
use Rattle.pst_code.specs.Spending.{MovePays, PaysFor}
use Rattle.pst_code.proofs.Going.{steps_add}
use Rattle.pst_code.proofs.SoundMoves.{instructions_sound}
use Rattle.pst_code.proofs.Falling.{moves_lower_the_total}
use Rattle.pst_code.proofs.Paying.{moves_pay}
use Rattle.pst_versions.specs.State.{State, OthersStay, WritesStay, IsFresh}
use Rattle.pst_versions.proofs.StateLemmas.{Keeps_refl, Keeps_trans, OthersStay_refl, OthersStay_trans, WritesStay_refl, WritesStay_trans}
use Rattle.pst_machine_steps.specs.declared.standing.Standing.{Standing}
use Rattle.pst_machine_steps.specs.declared.standing.Step.{Step}
use Rattle.pst_machine_steps.specs.declared.standing.Step.TheVariants.{Next, Here, Switched, Waits, Ends, Trap}
use Rattle.pst_machine_steps.specs.Live.{IsRoot}
use Rattle.pst_machine_steps.specs.View.{procedure_of, move_of, no_procedure}
use Rattle.pst_machine_frames.specs.Ready.{AreLive, world_of, current_of, waiting_of, IsRunning, IsFunded, spendable_of, Acted, CameTo, IfNotOver, IfCarriesOn}
use Rattle.pst_machine_frames.specs.Ready.{IsOff, IsOut, IsRest, Leaves, LeavesBy, total_of, Ran}
use Rattle.pst_machine_steps.specs.Fields.{KeepsOthers}

-- ---- reaching

pub reach_none : (parts : Parts) (f : Frame) (c : List Caller) (w : World) → Reaches parts f c w (Goes f c w)
reach_none parts f c w = record { within = 0; comes = refl }

one_step : (parts : Parts) (m : Move) → go_on m (steps parts 0) ≡ m
one_step parts (Goes f c w) = refl
one_step parts (WaitsFor line f c w) = refl
one_step parts (Over o) = refl
one_step parts Stuck = refl

pub reach_one : (parts : Parts) (f : Frame) (c : List Caller) (w : World) → Reaches parts f c w (act parts (next_instr f) f c w)
reach_one parts f c w = record { within = 1; comes = one_step parts (act parts (next_instr f) f c w) }

pub reach_on : (parts : Parts) (f f' : Frame) (c c' : List Caller) (w w' : World) (m : Move) → Reaches parts f c w (Goes f' c' w') → Reaches parts f' c' w' m → Reaches parts f c w m
reach_on parts f f' c c' w w' m a b = record {
  within = a.within + b.within;
  comes = steps_add parts a.within b.within f c w ∙ ap (λ (m : Move). go_on m (steps parts b.within)) a.comes ∙ b.comes;
}

-- ---- a machine that goes on or waits

module _ {P R : Type 0} (parts : Parts) (s t : State P R) (a b : Standing P R) where
  -- what a move to where the machine stands now says
  pub record Moved : Type 0 where
    pub leads : LeadsSound parts (current_of parts s a) (waiting_of parts s a) (world_of s a) (current_of parts t b) (waiting_of parts t b) (world_of t b)
    pub pays : PaysFor (world_of s a) (spendable_of parts s a) (world_of t b) (spendable_of parts t b)

  fresh_at : Moved → IsRunning parts s a → KeepsOthers a.place s t → b.place ≡ a.place → b.run ≡ a.run → (k : ℕ) → b.made ≤ k → IsFresh t record { run = b.run; ordinal = k }
  fresh_at m r kept place run k le = record {
    fresh = λ p has.
        let n : Name = record { run = b.run; ordinal = k } in
        let old : a.made ≤ k = omega (arith, m.leads.keeps.grown.more) in
        let before : get (s.heap p) n ≡ None = subst (λ q. get (s.heap p) record { run = q; ordinal = k } ≡ None) (sym run) ((r.fresh k old).fresh p (kept.keeps.back p has)) in
        elim (kept.others.stay p (kept.keeps.back p has)) [
          | inl here ↦ none-from_type (t.heap p) n (ap (λ p. type_in (t.heap p) n) (here ∙ sym place) ∙ m.leads.run.world.fresh k le)
          | inr same ↦ ap (λ h. get h n) same ∙ before
        ];
  }

  pub runs_on : Moved → IsRunning parts s a → KeepsOthers a.place s t → WritesStay s t → AreLive t b → b.place ≡ a.place → b.run ≡ a.run → IsRunning parts t b
  runs_on m r kept writes live place run = record {
    shape = kept.keeps.grows.shape ∙ r.shape;
    has = subst t.has (sym place) (kept.keeps.grows.has a.place r.has);
    writable = λ no. subst t.writable (sym place) (writes.kept a.place (r.writable (ap (λ (p : Procedure). p.query) (sym m.leads.same) ∙ no)));
    sound = m.leads.run;
    live = live;
    fresh = fresh_at m r kept place run;
  }

  pub funds_on : Moved → IsFunded parts s a → IsFunded parts t b
  funds_on m f = record {
    made = omega (arith, m.pays.made, f.made);
    records = omega (arith, m.pays.records, f.records);
    pointer_writes = omega (arith, m.pays.pointer_writes, f.pointer_writes);
    value_writes = omega (arith, m.pays.value_writes, f.value_writes);
  }

module _ {P R : Type 0} (parts : Parts) (valid : IsValidCode parts) (s t : State P R) (a b : Standing P R) (r : IsRunning parts s a) where
  moved_by : (m : Move) → act parts (next_instr (current_of parts s a)) (current_of parts s a) (waiting_of parts s a) (world_of s a) ≡ m
      → MoveIsSound parts (current_of parts s a) (waiting_of parts s a) (world_of s a) m × MovePays (current_of parts s a) (waiting_of parts s a) (world_of s a) m
  moved_by m e = (
    subst (MoveIsSound parts (current_of parts s a) (waiting_of parts s a) (world_of s a)) e (instructions_sound parts valid (current_of parts s a) (waiting_of parts s a) (world_of s a) r.sound),
    subst (MovePays (current_of parts s a) (waiting_of parts s a) (world_of s a)) e (moves_pay parts valid (current_of parts s a) (waiting_of parts s a) (world_of s a) r.sound),
  )

  pub ran_over : (step : Step) → act parts (next_instr (current_of parts s a)) (current_of parts s a) (waiting_of parts s a) (world_of s a) ≡ move_of
      step (current_of parts t b) (waiting_of parts t b) (world_of t b)
      → IfNotOver step (IsRunning parts t b) → IfNotOver step (IsFunded parts t b) → IfCarriesOn step (total_of parts t b ≤ total_of parts s a)
      → AreLive t b → b.place ≡ a.place → b.run ≡ a.run → KeepsOthers a.place s t → WritesStay s t → Ran parts s a step t b
  ran_over step e running funded less live place run kept writes = record {
    reaches = subst (Reaches parts (current_of parts s a) (waiting_of parts s a) (world_of s a)) e (reach_one parts (current_of parts s a) (waiting_of parts s a) (world_of s a));
    running = running;
    funded = funded;
    less = less;
    live = live;
    place = place;
    run = run;
    kept = kept;
    writes = writes;
  }

  -- one instruction that leads on, or to a charge that is due, or to the end
  pub ran_one : (step : Step) → step ≢ Next → act parts (next_instr (current_of parts s a)) (current_of parts s a) (waiting_of parts s a)
      (world_of s a) ≡ move_of step (current_of parts t b) (waiting_of parts t b) (world_of t b)
      → IsFunded parts s a → AreLive t b → b.place ≡ a.place → b.run ≡ a.run → KeepsOthers a.place s t → WritesStay s t → Ran parts s a step t b
      × IfCarriesOn step (total_of parts t b < total_of parts s a)
  ran_one Next other e funded live place run kept writes = absurd (other refl)
  ran_one Here other e funded live place run kept writes =
      let by = moved_by (Goes (current_of parts t b) (waiting_of parts t b) (world_of t b)) e in
      let m : Moved parts s t a b = record { leads = by.0; pays = by.1 } in
      let less : total_of parts t b < total_of parts s a = moves_lower_the_total parts valid (current_of parts s a) (current_of parts t b)
      (waiting_of parts s a) (waiting_of parts t b) (world_of s a) (world_of t b) r.sound e in
      (ran_over Here e (runs_on parts s t a b m r kept writes live place run) (funds_on parts s t a b m funded) (omega (arith, less)) live place run kept writes, less)
  ran_one Switched other e funded live place run kept writes =
      let by = moved_by (Goes (current_of parts t b) (waiting_of parts t b) (world_of t b)) e in
      let m : Moved parts s t a b = record { leads = by.0; pays = by.1 } in
      let less : total_of parts t b < total_of parts s a = moves_lower_the_total parts valid (current_of parts s a) (current_of parts t b)
      (waiting_of parts s a) (waiting_of parts t b) (world_of s a) (world_of t b) r.sound e in
      (ran_over Switched e (runs_on parts s t a b m r kept writes live place run) (funds_on parts s t a b m funded) (omega (arith, less)) live place run kept writes, less)
  ran_one (Waits line) other e funded live place run kept writes =
      let by = moved_by (WaitsFor line (current_of parts t b) (waiting_of parts t b) (world_of t b)) e in
      let m : Moved parts s t a b = record { leads = by.0.0; pays = by.1 } in
      (ran_over (Waits line) e (runs_on parts s t a b m r kept writes live place run) (funds_on parts s t a b m funded) tt live place run kept writes, tt)
  ran_one (Ends v) other e funded live place run kept writes = (ran_over (Ends v) e tt tt tt live place run kept writes, tt)
  ran_one (Trap kind) other e funded live place run kept writes = (ran_over (Trap kind) e tt tt tt live place run kept writes, tt)

-- ---- one part of a run after another

less_on : (step : Step) (k m n : ℕ) → m ≤ n → IfCarriesOn step (k ≤ m) → IfCarriesOn step (k ≤ n)
less_on Next k m n le h = tt
less_on Here k m n le h = omega (arith, h)
less_on Switched k m n le h = omega (arith, h)
less_on (Waits line) k m n le h = tt
less_on (Ends v) k m n le h = tt
less_on (Trap kind) k m n le h = tt

pub below_on : (step : Step) (k m n : ℕ) → m ≤ n → IfCarriesOn step (k < m) → IfCarriesOn step (k < n)
below_on Next k m n le h = tt
below_on Here k m n le h = omega (arith, h)
below_on Switched k m n le h = omega (arith, h)
below_on (Waits line) k m n le h = tt
below_on (Ends v) k m n le h = tt
below_on (Trap kind) k m n le h = tt

pub rest_of : (step : Step) → step ≢ Switched → IsOut step → IsRest step
rest_of Next other f = absurd f
rest_of Here other f = absurd f
rest_of Switched other f = absurd (other refl)
rest_of (Waits line) other f = tt
rest_of (Ends v) other f = tt
rest_of (Trap kind) other f = tt

-- a run that is out of its frame does not go on behind the instruction
pub not_next : (step : Step) → IsOut step → step ≢ Next
not_next Next out = absurd out
not_next Here out = absurd out
not_next Switched out = λ e. absurd (cc)
not_next (Waits line) out = λ e. absurd (cc)
not_next (Ends v) out = λ e. absurd (cc)
not_next (Trap kind) out = λ e. absurd (cc)

-- the instruction that is due is there
pub bound : {P R : Type 0} (parts : Parts) (s : State P R) (a : Standing P R) (p : Procedure) (instrs : List Instr) → IsRunning parts s a
    → procedure_of parts a.current.procedure ≡ p → instrs ≡ p.instructions → a.current.at < length instrs
bound parts s a p instrs r is same =
    let e : length instrs ≡ length (procedure_of parts a.current.procedure).instructions = ap length (same ∙ ap (λ (p : Procedure). p.instructions) (sym is)) in
    omega (arith, r.sound.frame.stands)

pub due : {P R : Type 0} (parts : Parts) (s : State P R) (a : Standing P R) (instr : Instr) (p : Procedure) (instrs : List Instr)
    → procedure_of parts a.current.procedure ≡ p → instrs ≡ p.instructions → a.current.at < length instrs → instr ≡ slice_index_or instrs a.current.at instr
    → next_instr (current_of parts s a) ≡ Some instr
due parts s a instr p instrs is same lt at =
    ap (λ (p : Procedure). slice_get p.instructions a.current.at) is ∙ ap (λ (xs : List Instr). slice_get xs a.current.at) (sym same)
    ∙ slice_get_read instrs (length instrs) a.current.at instr refl lt at

-- the same where the instruction is the first of the rest of the code
pub at_rest : {P R : Type 0} (parts : Parts) (s : State P R) (a : Standing P R) (instr : Instr) (p : Procedure) (rest : List Instr)
    → IsRunning parts s a → procedure_of parts a.current.procedure ≡ p → rest ≡ drop a.current.at p.instructions → instr ≡ slice_index_or rest 0 instr
    → next_instr (current_of parts s a) ≡ Some instr
at_rest parts s a instr p rest r is same at =
    let zero : a.current.at + 0 ≡ a.current.at = omega arith in
    due parts s a instr p p.instructions is refl (bound parts s a p p.instructions r is refl)
    (at ∙ ap (λ (xs : List Instr). slice_index_or xs 0 instr) same ∙ get_or-drop a.current.at p.instructions 0 instr ∙ ap (λ (i : ℕ). slice_index_or p.instructions i instr) zero)

-- the procedure of a frame that stands at an instruction is one of the code's
pub procedure_there : (parts : Parts) (heap : Heap) (p : ℕ) → p < length parts.procedures ⊎ (slice_get parts.procedures p ≡ None) → (f : Frame)
    → f.procedure ≡ unwrap_or (slice_get parts.procedures p) no_procedure → IsSoundFrame parts heap f → p < length parts.procedures
procedure_there parts heap p (inl lt) f is sound = lt
procedure_there parts heap p (inr none) f is sound =
    let empty : length f.procedure.instructions ≡ 0 = ap (λ (q : Procedure). length q.instructions) (is ∙ ap (λ (o : Option Procedure). unwrap_or o no_procedure) none) in
    absurd (omega (arith, sound.stands))

module _ {P R : Type 0} (parts : Parts) where
  -- the frame goes on behind its instruction
  abbrev pub bumped : Standing P R → Standing P R
  bumped b = record b { current = record b.current { at = b.current.at + 1 } }

  pub acted_on : (s t : State P R) (a b : Standing P R) (instr : Instr) → IsValidCode parts → IsRunning parts s a → IsFunded parts s a
      → next_instr (current_of parts s a) ≡ Some instr → Acted parts s a instr Next t b
      → Ran parts s a Here t (bumped b) × (total_of parts t (bumped b) < total_of parts s a)
  acted_on s t a b instr valid r funded next acted =
      let same = ap (λ (i : Option Instr). act parts i (current_of parts s a) (waiting_of parts s a) (world_of s a)) next ∙ acted.acts in
      let live : AreLive t (bumped b) = record { current = acted.live.current; waiting = acted.live.waiting; few = acted.live.few } in
      ran_one parts valid s t a (bumped b) r Here (λ e. absurd (cc)) same funded live acted.place acted.run acted.kept acted.writes

  pub acted_other : (s t : State P R) (a b : Standing P R) (instr : Instr) (step : Step) → IsValidCode parts → IsRunning parts s a
      → IsFunded parts s a → next_instr (current_of parts s a) ≡ Some instr → step ≢ Next → Acted parts s a instr step t b
      → Ran parts s a step t b × IfCarriesOn step (total_of parts t b < total_of parts s a)
  acted_other s t a b instr step valid r funded next other acted =
      let same = ap (λ (i : Option Instr). act parts i (current_of parts s a) (waiting_of parts s a) (world_of s a)) next ∙ acted.acts in
      ran_one parts valid s t a b r step other same funded acted.live acted.place acted.run acted.kept acted.writes

  pub kept_trans : (at at' : P) (s t u : State P R) → at' ≡ at → KeepsOthers at s t → KeepsOthers at' t u → KeepsOthers at s u
  kept_trans at at' s t u same f g = record {
    keeps = Keeps_trans s t u f.keeps g.keeps;
    others = OthersStay_trans at s t u f.keeps f.others (subst (λ (p : P). OthersStay p t u) same g.others);
  }

  pub kept_refl : (at : P) (s : State P R) → KeepsOthers at s s
  kept_refl at s = record { keeps = Keeps_refl s; others = OthersStay_refl at s }

  pub ran_none : (s : State P R) (a : Standing P R) → IsRunning parts s a → IsFunded parts s a → Ran parts s a Switched s a
  ran_none s a r f = record {
    reaches = reach_none parts (current_of parts s a) (waiting_of parts s a) (world_of s a);
    running = r;
    funded = f;
    less = omega arith;
    live = r.live;
    place = refl;
    run = refl;
    kept = kept_refl a.place s;
    writes = WritesStay_refl s;
  }

  pub ran_on : (s t u : State P R) (a b d : Standing P R) (step : Step) → Ran parts s a Switched t b → Ran parts t b step u d → Ran parts s a step u d
  ran_on s t u a b d step f g = record {
    reaches = reach_on parts (current_of parts s a) (current_of parts t b) (waiting_of parts s a) (waiting_of parts t b) (world_of s a) (world_of t b)
        (move_of step (current_of parts u d) (waiting_of parts u d) (world_of u d)) f.reaches g.reaches;
    running = g.running;
    funded = g.funded;
    less = less_on step (total_of parts u d) (total_of parts t b) (total_of parts s a) f.less g.less;
    live = g.live;
    place = g.place ∙ f.place;
    run = g.run ∙ f.run;
    kept = kept_trans a.place b.place s t u f.place f.kept g.kept;
    writes = WritesStay_trans s t u f.writes g.writes;
  }

  -- a reference to the root record stays one
  pub root_kept : (s t : State P R) (a b : Standing P R) (step : Step) (r : R) → Ran parts s a step t b → IsRoot s a.place r → IsRoot t b.place r
  root_kept s t a b step r ran top = record {
    live = subst (λ (p : P). t.live p r) (sym ran.place) (ran.kept.keeps.grows.live a.place r top.live);
    name = ran.kept.keeps.grows.name a.place r top.live ∙ top.name;
  }

  -- a part of a run before one that leaves the frame
  pub leaves_on : (s t u : State P R) (a b d : Standing P R) (out : Option Step) → Ran parts s a Switched t b
      → procedure_of parts b.current.procedure ≡ procedure_of parts a.current.procedure → Leaves parts t b out u d → Leaves parts s a out u d
  leaves_on s t u a b d None f same g = (ran_on s t u a b d Switched f g.0, g.1, g.2 ∙ same)
  leaves_on s t u a b d (Some step) f same g = (ran_on s t u a b d step f g.0, below_on step (total_of parts u d) (total_of parts t b) (total_of parts s a) f.less g.1, g.2)

  -- what an instruction does that leaves the frame, or a call or a return that is left to be carried out
  pub left_by : (s t : State P R) (a b : Standing P R) (instr : Instr) (out : Option Step) → IsValidCode parts → IsRunning parts s a
      → IsFunded parts s a → next_instr (current_of parts s a) ≡ Some instr → IsOff out → CameTo parts s a instr out t b → LeavesBy parts s a out t b
  left_by s t a b instr None valid r funded next off came = came
  left_by s t a b instr (Some step) valid r funded next off came =
      let ran = acted_other s t a b instr step valid r funded next (not_next step off) came in
      (ran.0, ran.1, off)

  -- what one instruction does is a part of a run
  pub leaves : (s t : State P R) (a b : Standing P R) (out : Option Step) → LeavesBy parts s a out t b → Leaves parts s a out t b
  leaves s t a b None l = l.0
  leaves s t a b (Some step) l = l

  -- whether the frame stays or another goes on, the run goes on
  pub goes_as_moves : (s t : State P R) (a b : Standing P R) → Ran parts s a Here t b → Ran parts s a Switched t b
  goes_as_moves s t a b f = record { reaches = f.reaches; running = f.running; funded = f.funded; less = f.less; live = f.live; place = f.place; run = f.run; kept = f.kept; writes = f.writes }

  pub out_of : (s t : State P R) (a b : Standing P R) (step : Step) → step ≢ Here → Ran parts s a step t b → IsOut step
  out_of s t a b Next other f = absurd f.running
  out_of s t a b Here other f = absurd (other refl)
  out_of s t a b Switched other f = tt
  out_of s t a b (Waits line) other f = tt
  out_of s t a b (Ends v) other f = tt
  out_of s t a b (Trap kind) other f = tt

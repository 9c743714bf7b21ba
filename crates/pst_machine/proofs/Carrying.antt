-- From call to call.
use Rattle.std.proofs.Common.{◌≡◌, ◌≢◌, ◌+◌, ◌≤◌, Bool, false, List, Option, refl, sym, ◌∙◌, subst, arith}
use Rattle.pst_base.specs.declared.names.Name.{Name}
use Rattle.pst_program.specs.Meaning.{World}
use Rattle.pst_program.specs.Outcome.{TaskCall}
use Rattle.pst_code.specs.declared.instr.Reg.{Reg}
use Rattle.pst_code.specs.declared.procedure.Parts.{Parts}
use Rattle.pst_code.specs.Valid.{IsValidCode}
use Rattle.pst_versions.specs.State.{State, IsFresh, Unchanged, WritesStay}
use Rattle.pst_versions.proofs.StateLemmas.{WritesStay_trans}
use Rattle.pst_machine.specs.declared.pending.ProcCall.{ProcCall}
use Rattle.pst_machine_steps.specs.declared.standing.Standing.{Standing}
use Rattle.pst_machine_steps.specs.declared.standing.Step.{Step}
use Rattle.pst_machine_steps.specs.declared.standing.Step.TheVariants.{Next, Here, Switched, Waits, Ends, Trap}
use Rattle.pst_machine.specs.declared.stage.Stage.{Stage}
use Rattle.pst_machine_steps.specs.View.{move_of}
use Rattle.pst_machine_frames.specs.Ready.{world_of, current_of, waiting_of, spendable_of, IsFunded, IsRest, Ran}
use Rattle.pst_machine_steps.specs.Calls.{HoldsNothing, SameTally}
use Rattle.pst_machine_steps.specs.Fields.{KeepsOthers}
use Rattle.pst_machine.specs.Advance.{AllMayCall, CanGoOn, Carried, CarriedOut, ComesBetween, ComesIn, IsAt, IsInto, MayCarryOn, ReadyAfter, RestsIn, SameTerms, calls_of, payable}
use Rattle.pst_machine_frames.proofs.Acting.{same_tally}
use Rattle.pst_machine_frames.proofs.Moving.{kept_trans}
use Rattle.pst_machine.proofs.Leading.{in_on, in_ends}
use Rattle.pst_machine_frames.proofs.Reading.{unchanged_trans, ran_sound, ran_pays, ran_reads, ran_names}
use Rattle.pst_machine.proofs.Ended.{ended_between, ended_funds}

module _ {P R : Type 0} where
  same_terms : (a b d : Stage P R) → SameTerms a b → SameTerms b d → SameTerms a d
  same_terms a b d f g = record { budget = g.budget ∙ f.budget; granted = g.granted ∙ f.granted; ended = g.ended ∙ f.ended; failed = g.failed ∙ f.failed }

  -- the calls that wait can still be begun
  calls_kept : (parts : Parts) (s t : State P R) (p q : P) (calls : List ProcCall) → WritesStay s t → q ≡ p → AllMayCall parts s p calls → AllMayCall parts t q calls
  calls_kept parts s t p q calls writes same all i c e = let may = all i c e in record { takes = may.takes; writable = λ e. subst t.writable (sym same) (writes.kept p (may.writable e)) }

  pub into_funded : (parts : Parts) (s : State P R) (a b : Stage P R) → MayCarryOn parts s a → IsInto parts s a b → IsFunded parts s b.standing
  into_funded parts s a b m d = record {
    made = omega (arith, m.funds.made, d.made, d.spends);
    records = omega (arith, m.funds.records, d.spends);
    pointer_writes = omega (arith, m.funds.pointer_writes, d.spends);
    value_writes = omega (arith, m.funds.value_writes, d.spends);
  }

-- A slice of old on s came to the stage a on t; there the call under way, or the next one, is carried on from b to d on u.
module _ {P R : Type 0} (parts : Parts) (valid : IsValidCode parts) (s t u : State P R) (old a b : Stage P R) (d : Standing P R) (far : Carried parts s old t a) (into : IsInto parts t a b) where
  same_place : (step : Step) → Ran parts t b.standing step u d → d.place ≡ old.standing.place
  same_place step ran = ran.place ∙ into.place ∙ far.place

  at_place : b.standing.place ≡ old.standing.place
  at_place = into.place ∙ far.place

  still_closed : ¬ (s.writable old.standing.place) → ¬ (t.writable b.standing.place)
  still_closed closed w = closed (far.writes.back old.standing.place (subst t.writable at_place w))

  pub far_kept : (u : State P R) → KeepsOthers b.standing.place t u → KeepsOthers old.standing.place s u
  far_kept u k = kept_trans parts old.standing.place b.standing.place s t u at_place far.kept k

  pub far_reads : (u : State P R) → (¬ (t.writable b.standing.place) → Unchanged t u) → ¬ (s.writable old.standing.place) → Unchanged s u
  far_reads u k closed = unchanged_trans s t u (far.reads closed) (k (still_closed closed))

  far_names : (step : Step) → Ran parts t b.standing step u d → (n : Name) → n.run ≢ old.standing.run → IsFresh s n → IsFresh u n
  far_names step ran n other fresh = ran_names parts valid t u b.standing d into.running step ran n (λ e. other (e ∙ into.run ∙ far.run)) (far.names n other fresh)

  far_comes : (step : Step) → Ran parts t b.standing step u d → (calls : List TaskCall) (first : World) → IsAt old.under_way parts calls first s old.standing (calls_of old.waiting)
      → ComesIn parts calls first (calls_of b.waiting) (move_of step (current_of parts u d) (waiting_of parts u d) (world_of u d))
  far_comes step ran calls first at =
      in_on parts calls first (calls_of b.waiting) (current_of parts t b.standing) (waiting_of parts t b.standing) (world_of t b.standing)
      (move_of step (current_of parts u d) (waiting_of parts u d) (world_of u d))
      (into.leads calls first (far.leads calls first at)) ran.reaches

  far_made : b.standing.made + spendable_of parts t b.standing ≤ old.standing.made + payable old.under_way parts s old.standing
  far_made = omega (arith, into.made, into.spends, far.made)

  far_calls : (step : Step) → Ran parts t b.standing step u d → AllMayCall parts u d.place b.waiting
  far_calls step ran = calls_kept parts t u b.standing.place d.place b.waiting ran.writes ran.place into.calls

  -- the call has ended, and what it held is let go
  abbrev pub left_stage : Standing P R → Stage P R
  left_stage e = record b { standing = e; under_way = false }

  pub carried_on : (v : Option Reg) → Ran parts t b.standing (Ends v) u d → (e : Standing P R) → HoldsNothing e → SameTally d e → Carried parts s old u (left_stage e)
  carried_on v ran e empty tally = record {
    may = record {
      goes = ended_between parts valid t u b.standing d into.running v ran e empty tally;
      calls = subst (λ (p : P). AllMayCall parts u p b.waiting) (sym tally.place) (far_calls (Ends v) ran);
      funds = ended_funds parts valid t u b.standing d into.running v (into_funded parts t a b far.may into) ran e tally;
    };
    made = let pays = ran_pays parts valid t u b.standing d into.running (Ends v) ran in omega (arith, pays.made, far_made, tally.made, tally.left);
    leads = λ calls first at. subst (ComesBetween parts calls first (calls_of b.waiting)) (sym (same_tally parts u d e tally))
        (in_ends parts calls first (calls_of b.waiting) _ (world_of u d) (far_comes (Ends v) ran calls first at));
    place = tally.place ∙ same_place (Ends v) ran;
    run = tally.run ∙ ran.run ∙ into.run ∙ far.run;
    terms = let x = same_terms old a b far.terms into.terms in record { budget = x.budget; granted = x.granted; ended = x.ended; failed = x.failed };
    kept = far_kept u ran.kept;
    writes = WritesStay_trans s t u far.writes ran.writes;
    reads = far_reads u (ran_reads parts valid t u b.standing d into.running (Ends v) ran);
    names = far_names (Ends v) ran;
  }

  -- the call waits or trapped
  abbrev pub rest_stage : Stage P R
  rest_stage = record b { standing = d }

  rests_in : (step : Step) → IsRest step → ((v : Option Reg) → step ≡ Ends v → ⊥) → Ran parts t b.standing step u d
      → (calls : List TaskCall) (first : World) → IsAt old.under_way parts calls first s old.standing (calls_of old.waiting)
      → RestsIn step parts calls first u rest_stage
  rests_in Next rest apart ran calls first at = absurd rest
  rests_in Here rest apart ran calls first at = absurd rest
  rests_in Switched rest apart ran calls first at = absurd rest
  rests_in (Waits line) rest apart ran calls first at = (into.under_way, far_comes (Waits line) ran calls first at, (ran_sound parts valid t u b.standing d into.running (Waits line) ran).1.none)
  rests_in (Ends v) rest apart ran calls first at = absurd (apart v refl)
  rests_in (Trap kind) rest apart ran calls first at = far_comes (Trap kind) ran calls first at

  ready_after : (step : Step) → IsRest step → ((v : Option Reg) → step ≡ Ends v → ⊥) → Ran parts t b.standing step u d
      → ReadyAfter step parts (old.standing.made + payable old.under_way parts s old.standing) u rest_stage
  ready_after Next rest apart ran = absurd rest
  ready_after Here rest apart ran = absurd rest
  ready_after Switched rest apart ran = absurd rest
  ready_after (Waits line) rest apart ran =
      let pays = ran_pays parts valid t u b.standing d into.running (Waits line) ran in
      let less : d.made + spendable_of parts u d ≤ old.standing.made + payable old.under_way parts s old.standing = omega (arith, pays.made, far_made) in (
        subst (λ (x : Bool). CanGoOn x parts u d) (sym into.under_way) ran.running,
        far_calls (Waits line) ran,
        subst (λ (x : Bool). d.made + payable x parts u d ≤ old.standing.made + payable old.under_way parts s old.standing) (sym into.under_way) less,
      )
  ready_after (Ends v) rest apart ran = absurd (apart v refl)
  ready_after (Trap kind) rest apart ran = tt

  pub carried_rest : (step : Step) → IsRest step → ((v : Option Reg) → step ≡ Ends v → ⊥) → Ran parts t b.standing step u d → CarriedOut parts s old step u rest_stage
  carried_rest step rest apart ran = record {
    rests = rests_in step rest apart ran;
    ready = ready_after step rest apart ran;
    place = same_place step ran;
    run = ran.run ∙ into.run ∙ far.run;
    terms = let x = same_terms old a b far.terms into.terms in record { budget = x.budget; granted = x.granted; ended = x.ended; failed = x.failed };
    kept = far_kept u ran.kept;
    writes = WritesStay_trans s t u far.writes ran.writes;
    reads = far_reads u (ran_reads parts valid t u b.standing d into.running step ran);
    names = far_names step ran;
  }

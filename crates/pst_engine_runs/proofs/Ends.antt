-- The end that calls come to: there is one, it does not hang on what was counted, and an answer of the machine tells it.
use Rattle.std.proofs.Common.{◌≡◌, Bool, nat_le, List, [], ◌∷◌, ◌++◌, map, Some, None, refl, ap, sym, ◌∙◌, subst}
use Rattle.pst_base.specs.Counts.{counts_plus}
use Rattle.pst_base.specs.declared.names.Counts.{Counts}
use Rattle.pst_base.specs.declared.names.Trap.{Trap}
use Rattle.pst_program.specs.declared.meaning.Value.TheVariants.{Number as ANumber}
use Rattle.pst_program.specs.Meaning.{World, Ending, Normal, Returned, Trapped, Spent}
use Rattle.pst_program.specs.Outcome.{TaskCall, left, outcome_of}
use Rattle.pst_code.specs.declared.procedure.Procedure.{Procedure}
use Rattle.pst_code.specs.declared.procedure.Parts.{Parts}
use Rattle.pst_code.specs.Calls.{CallEndsIn, CallsEndIn, NextEndsIn}
use Rattle.pst_code.specs.Machine.{Move, Goes, Waits, Over, Stuck, EndsIn, spent, steps, first_frame}
use Rattle.pst_code.specs.Laws.{counted, counted_end, counted_move}
use Rattle.pst_code.proofs.Going.{one_end}
use Rattle.pst_code.proofs.Counting.{counts_shift}
use Rattle.pst_versions.specs.State.{State}
use Rattle.pst_machine.specs.declared.stage.Stage.{Stage}
use Rattle.pst_machine.specs.declared.stage.Progress.{Progress}
use Rattle.pst_machine.specs.declared.stage.Progress.TheVariants.{Running, Done, Trapped as TrappedAt}
use Rattle.pst_machine_frames.specs.Ready.{world_of, current_of, waiting_of}
use Rattle.pst_machine.specs.Advance.{CallComes, CallsLead, ComesIn, ComesToAnswer, TrapsBy, calls_of}
use Rattle.pst_engine_runs.specs.Runs.{ended_of}

-- ---- one end

module _ (parts : Parts) where
  call_one_end : (c : TaskCall) (w : World) (a b : Ending) → CallEndsIn parts c w a → CallEndsIn parts c w b → a ≡ b
  call_one_end c w a b x y =
      let both : Some x.procedure ≡ Some y.procedure = sym x.found ∙ y.found in
      let same : x.procedure ≡ y.procedure = cc in
      one_end parts y.procedure (map ANumber c.arguments) w a b (subst (λ (p : Procedure). EndsIn parts p (map ANumber c.arguments) w a) same x.ends) y.ends

  next_one_end : (calls : List TaskCall) (e a b : Ending) → ((w : World) → CallsEndIn parts calls w a → CallsEndIn parts calls w b → a ≡ b)
      → NextEndsIn e (λ v. CallsEndIn parts calls v a) a → NextEndsIn e (λ v. CallsEndIn parts calls v b) b → a ≡ b
  next_one_end calls (Normal env w) a b on x y = on w x y
  next_one_end calls (Returned v w) a b on x y = on w x y
  next_one_end calls (Trapped t line w) a b on x y = x ∙ sym y
  next_one_end calls (Spent line w) a b on x y = x ∙ sym y

  pub calls_one_end : (calls : List TaskCall) (w : World) (a b : Ending) → CallsEndIn parts calls w a → CallsEndIn parts calls w b → a ≡ b
  calls_one_end [] w a b x y = x ∙ sym y
  calls_one_end (c ∷ calls) w a b x y =
      next_one_end calls x.0 a b (λ v p q. calls_one_end calls v a b p q) x.2 (subst (λ (e : Ending). NextEndsIn e (λ v. CallsEndIn parts calls v b) b) (call_one_end c w y.0 x.0 y.1 x.1) y.2)

  -- ---- what was counted before

  spent_counted : (d : Counts) (m : Move) → spent (counted_move d m) ≡ counted_move d (spent m)
  spent_counted d (Goes f c w) = refl
  spent_counted d (Waits line f c w) = refl
  spent_counted d (Over o) = refl
  spent_counted d Stuck = refl

  call_counted : (d : Counts) (c : TaskCall) (w : World) (o : Ending) → CallEndsIn parts c w o → CallEndsIn parts c (counted d w) (counted_end d o)
  call_counted d c w o x = record {
    procedure = x.procedure;
    found = x.found;
    fits = x.fits;
    ends = record {
      within = x.ends.within;
      comes = ap spent (counts_shift parts d x.ends.within (first_frame x.procedure (map ANumber c.arguments)) [] w)
          ∙ spent_counted d (steps parts x.ends.within (first_frame x.procedure (map ANumber c.arguments)) [] w)
          ∙ ap (counted_move d) x.ends.comes;
    };
  }

  next_counted : (d : Counts) (calls : List TaskCall) (e o : Ending)
      → ((w : World) → CallsEndIn parts calls w o → CallsEndIn parts calls (counted d w) (counted_end d o))
      → NextEndsIn e (λ v. CallsEndIn parts calls v o) o → NextEndsIn (counted_end d e) (λ v. CallsEndIn parts calls v (counted_end d o)) (counted_end d o)
  next_counted d calls (Normal env w) o on x = on w x
  next_counted d calls (Returned v w) o on x = on w x
  next_counted d calls (Trapped t line w) o on x = ap (counted_end d) x
  next_counted d calls (Spent line w) o on x = ap (counted_end d) x

  pub calls_counted : (d : Counts) (calls : List TaskCall) (w : World) (o : Ending) → CallsEndIn parts calls w o → CallsEndIn parts calls (counted d w) (counted_end d o)
  calls_counted d [] w o x = ap (counted_end d) x
  calls_counted d (c ∷ calls) w o x = (counted_end d x.0, call_counted d c w x.0 x.1, next_counted d calls x.0 o (λ v p. calls_counted d calls v o p) x.2)

  -- ---- from the machine's moves

  comes_ends : (c : TaskCall) (w : World) (m : Move) (o : Ending) → spent m ≡ Over o → CallComes parts c w m → CallEndsIn parts c w o
  comes_ends c w m o over x = record { procedure = x.procedure; found = x.found; fits = x.fits; ends = record { within = x.reaches.within; comes = ap spent x.reaches.comes ∙ over } }

  lead_ends : (done rest : List TaskCall) (first w : World) (o : Ending) → CallsLead parts done first w → CallsEndIn parts rest w o → CallsEndIn parts (done ++ rest) first o
  lead_ends [] rest first w o e ends = subst (λ (x : World). CallsEndIn parts rest x o) (sym e) ends
  lead_ends (c ∷ done) rest first w o d ends = (Returned d.1.0 d.0, comes_ends c first (Over (Returned d.1.0 d.0)) (Returned d.1.0 d.0) refl d.1.1, lead_ends done rest d.0 w o d.2 ends)

  -- a call that ends early ends them all
  early : (calls : List TaskCall) (first : World) (waiting : List TaskCall) (m : Move) (o : Ending) → spent m ≡ Over o
      → NextEndsIn o (λ v. CallsEndIn parts waiting v o) o → ComesIn parts calls first waiting m → CallsEndIn parts calls first o
  early calls first waiting m o over next d =
      subst (λ (cs : List TaskCall). CallsEndIn parts cs first o) (sym d.split)
      (lead_ends d.done (d.call ∷ waiting) first d.before o d.leads (o, comes_ends d.call d.before m o over d.comes, next))

-- what the heap, the numbers and the counts are there
pub record AnswerEnds {P R : Type 0} (parts : Parts) (calls : List TaskCall) (first : World) (t : State P R) (b : Stage P R) (p : Progress) : Type 0 where
  pub end : Ending
  pub ends : CallsEndIn parts calls first end
  pub outcome : outcome_of (nat_le b.budget b.granted) end ≡ left (ended_of p) (world_of t b.standing)

module _ {P R : Type 0} (parts : Parts) (calls : List TaskCall) (first : World) (t : State P R) (b : Stage P R) where
  trap_ends : (trap : Trap) (waiting : List TaskCall) (m : Move) (whole : Bool) → nat_le b.budget b.granted ≡ whole
      → ComesIn parts calls first waiting m → TrapsBy whole trap (world_of t b.standing) m → AnswerEnds parts calls first t b (TrappedAt trap)
  trap_ends trap waiting (Over (Trapped kind line w)) whole q d traps = record {
    end = Trapped kind line w;
    ends = early parts calls first waiting (Over (Trapped kind line w)) (Trapped kind line w) refl refl d;
    outcome = ap (λ (x : Trap). left (ended_of (TrappedAt x)) w) (sym traps.0) ∙ ap (left (ended_of (TrappedAt trap))) traps.1;
  }
  trap_ends trap waiting (Waits line f c w) whole q d traps = record {
    end = Spent line w;
    ends = early parts calls first waiting (Waits line f c w) (Spent line w) refl refl d;
    outcome = ap (λ (x : Bool). outcome_of x (Spent line w)) (q ∙ traps.0) ∙ ap (λ (x : Trap). left (ended_of (TrappedAt x)) w) (sym traps.1) ∙ ap (left (ended_of (TrappedAt trap))) traps.2;
  }
  trap_ends trap waiting (Over (Returned v w)) whole q d traps = absurd traps
  trap_ends trap waiting (Over (Normal env w)) whole q d traps = absurd traps
  trap_ends trap waiting (Over (Spent line w)) whole q d traps = absurd traps
  trap_ends trap waiting (Goes f c w) whole q d traps = absurd traps
  trap_ends trap waiting Stuck whole q d traps = absurd traps

  pub answer_ends : (p : Progress) → ComesToAnswer p parts calls first t b → AnswerEnds parts calls first t b p
  answer_ends Running d = record {
    end = Spent d.2.0 (world_of t b.standing);
    ends = early parts calls first (calls_of b.waiting) (Waits d.2.0 (current_of parts t b.standing) (waiting_of parts t b.standing)
        (world_of t b.standing)) (Spent d.2.0 (world_of t b.standing)) refl refl d.2.1;
    outcome = ap (λ (x : Bool). outcome_of x (Spent d.2.0 (world_of t b.standing))) d.1;
  }
  answer_ends Done d = record {
    end = Returned None (world_of t b.standing);
    ends = subst (λ (cs : List TaskCall). CallsEndIn parts cs first (Returned None (world_of t b.standing))) (sym d.2.split)
        (lead_ends parts d.2.done [] first (world_of t b.standing) (Returned None (world_of t b.standing)) d.2.leads refl);
    outcome = refl;
  }
  answer_ends (TrappedAt trap) d = trap_ends trap d.waiting d.move (nat_le b.budget b.granted) refl d.comes d.traps

-- counts apart, the outcome is the same
pub outcome_counted : (whole : Bool) (d : Counts) (o : Ending) → outcome_of whole (counted_end d o) ≡ record (outcome_of whole o) { counts = counts_plus (outcome_of whole o).counts d }
outcome_counted whole d (Normal env w) = refl
outcome_counted whole d (Returned v w) = refl
outcome_counted whole d (Trapped t line w) = refl
outcome_counted whole d (Spent line w) = refl

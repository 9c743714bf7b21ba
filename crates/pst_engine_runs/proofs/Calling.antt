-- What one call comes to on the machine alone.
use Rattle.std.proofs.Common.{◌≡◌, ℕ, ◌+◌, ◌-◌, ◌≤◌, List, [], length, map, Option, Some, None, refl, sym, ap, ◌∙◌, subst, arith, slice_get, ⊎_elim}
use Rattle.std.proofs.lemmas.Bool.{cases_lt}
use Rattle.pst_base.specs.Heap.{Heap}
use Rattle.pst_program.specs.declared.meaning.Value.{Value}
use Rattle.pst_program.specs.declared.meaning.Value.TheVariants.{Number as ANumber}
use Rattle.pst_program.specs.Meaning.{World, Ending, Normal, Returned, Trapped, Spent}
use Rattle.pst_program.specs.Outcome.{TaskCall, no_counts}
use Rattle.pst_program.specs.Sound.{IsSoundWorld, Grown, AreOf, world_in}
use Rattle.pst_program.proofs.Fewer.{Paid, Counted, counted_quiet}
use Rattle.pst_program.proofs.More.{More, ahead}
use Rattle.pst_code.specs.declared.procedure.Procedure.{Procedure}
use Rattle.pst_code.specs.declared.procedure.Parts.{Parts}
use Rattle.pst_code.specs.Machine.{Frame, Caller, Move, Goes, Waits, Over, Stuck, first_frame, go_on, steps, spent, EndsIn}
use Rattle.pst_code.specs.Valid.{IsValidCode, parameters_of}
use Rattle.pst_code.specs.Calls.{CallEndsIn}
use Rattle.pst_code.specs.SoundRuns.{IsOneOf, IsSoundRun, MoveIsSound}
use Rattle.pst_code.specs.Spending.{spendable, PaysFor, MovePays}
use Rattle.pst_code.specs.Falls.{total}
use Rattle.pst_code.specs.Laws.{ComesTo, granted, granted_end, granted_move, counted, counted_end, counted_move}
use Rattle.pst_code.proofs.Going.{steps_add, longer, one_coming}
use Rattle.pst_code.proofs.Granting.{grants_reach}
use Rattle.pst_code.proofs.Counting.{counts_shift}
use Rattle.pst_code.proofs.Falling.{falls_anywhere}
use Rattle.pst_code.proofs.Paying.{steps_pay, first_spends}
use Rattle.pst_code.proofs.SoundMoves.{steps_sound, first_sound}
use Rattle.pst_engine_runs.specs.Bare.{end_or, machine_run, machine_call}
use Rattle.pst_engine_runs.proofs.Stops.{HasStopped, stops, stuck_ends_nowhere}

-- as many instructions as a run can have before it stops
abbrev bound : Parts → Procedure → List Value → World → ℕ
bound parts p vs w = total parts (first_frame p vs) [] w + 1

-- where the machine stands after them
abbrev stand : Parts → Procedure → List Value → World → Move
stand parts p vs w = steps parts (bound parts p vs w) (first_frame p vs) [] w

has_stopped : (parts : Parts) → IsValidCode parts → (p : Procedure) → IsOneOf parts p → (vs : List Value) (w : World) → HasStopped (stand parts p vs w)
has_stopped parts valid p one vs w = stops parts (falls_anywhere parts valid) (bound parts p vs w) (first_frame p vs) [] w one tt (omega arith)

-- ---- the end

end_on : (parts : Parts) (n : ℕ) (f : Frame) (w : World) (o : Ending) (v : Move) → steps parts n f [] w ≡ v → HasStopped v → ComesTo parts f [] w o → end_or w (spent v) ≡ o
end_on parts n f w o (Goes g c u) e stop to = absurd stop
end_on parts n f w o (Waits line g c u) e stop to = one_coming parts f [] w (Spent line u) o (record { within = n; comes = ap spent e }) to
end_on parts n f w o (Over p) e stop to = one_coming parts f [] w p o (record { within = n; comes = ap spent e }) to
end_on parts n f w o Stuck e stop to = absurd (stuck_ends_nowhere parts n f [] w o e to)

-- an end that the machine comes to is the one
pub run_is : (parts : Parts) → IsValidCode parts → (p : Procedure) → IsOneOf parts p → (vs : List Value) (w : World) (o : Ending) → EndsIn parts p vs w o → machine_run parts (Some p) vs w ≡ o
unfolding machine_run
run_is parts valid p one vs w o to =
    end_on parts (bound parts p vs w) (first_frame p vs) w o (stand parts p vs w) refl (has_stopped parts valid p one vs w) (record { within = to.within; comes = to.comes })

-- ---- counts

-- nothing counted before is lost on the way to where a run came
abbrev MoveCounts : World → Move → Type 0
MoveCounts w (Goes f callers v) = Counted w v
MoveCounts w (Waits line f callers v) = Counted w v
MoveCounts w (Over o) = Counted w (world_in o)
MoveCounts w Stuck = Unit {0}

shifted_counts : (w v : World) → Counted w (counted w.counts v)
shifted_counts w v = record { records = omega arith; pointer_writes = omega arith; value_writes = omega arith }

shifted_end : (w : World) (o : Ending) → Counted w (world_in (counted_end w.counts o))
shifted_end w (Normal registers v) = shifted_counts w v
shifted_end w (Returned x v) = shifted_counts w v
shifted_end w (Trapped t line v) = shifted_counts w v
shifted_end w (Spent line v) = shifted_counts w v

shifted_move : (w : World) (v : Move) → MoveCounts w (counted_move w.counts v)
shifted_move w (Goes f callers u) = shifted_counts w u
shifted_move w (Waits line f callers u) = shifted_counts w u
shifted_move w (Over o) = shifted_end w o
shifted_move w Stuck = tt

-- a run counts as one that has counted nothing before it, and so no count falls
steps_count : (parts : Parts) (n : ℕ) (f : Frame) (callers : List Caller) (w : World) → MoveCounts w (steps parts n f callers w)
steps_count parts n f callers w =
    let none : World = record w { counts = no_counts } in
    let a : 0 + w.counts.records ≡ w.counts.records = omega arith in
    let b : 0 + w.counts.pointer_writes ≡ w.counts.pointer_writes = omega arith in
    let c : 0 + w.counts.value_writes ≡ w.counts.value_writes = omega arith in
    let same : counted w.counts none ≡ w = λ i. record w { counts = record { records = a i; pointer_writes = b i; value_writes = c i } } in
    subst (λ (u : World). MoveCounts w (steps parts n f callers u)) same
    (subst (MoveCounts w) (sym (counts_shift parts w.counts n f callers none)) (shifted_move w (steps parts n f callers none)))

ending_counts : (w : World) (v : Move) → MoveCounts w v → Counted w (world_in (end_or w (spent v)))
ending_counts w (Goes f callers u) c = counted_quiet.same w
ending_counts w (Waits line f callers u) c = c
ending_counts w (Over o) c = c
ending_counts w Stuck c = counted_quiet.same w

run_counted : (parts : Parts) (o : Option Procedure) (vs : List Value) (w : World) → Counted w (world_in (machine_run parts o vs w))
unfolding machine_run
run_counted parts None vs w = counted_quiet.same w
run_counted parts (Some p) vs w = ending_counts w (stand parts p vs w) (steps_count parts (bound parts p vs w) (first_frame p vs) [] w)

pub one_counted : (parts : Parts) (c : TaskCall) (w : World) → Counted w (world_in (machine_call parts c w))
one_counted parts c w = run_counted parts (slice_get parts.procedures c.procedure) (map ANumber c.arguments) w

-- what comes to an end later counts no less
later_counts : (w : World) (v : Move) (o : Ending) → spent v ≡ Over o → MoveCounts w v → Counted w (world_in o)
later_counts w (Goes f callers u) o e c = absurd (cc)
later_counts w (Waits line f callers u) o e c = let same : Spent line u ≡ o = cc in subst (λ (x : Ending). Counted w (world_in x)) same c
later_counts w (Over p) o e c = let same : p ≡ o = cc in subst (λ (x : Ending). Counted w (world_in x)) same c
later_counts w Stuck o e c = absurd (cc)

-- ---- a call in a sound world

-- a call of a procedure of the code, with as many numbers as it has parameters
pub record IsCallable (parts : Parts) (c : TaskCall) : Type 0 where
  pub procedure : Procedure
  pub found : slice_get parts.procedures c.procedure ≡ Some procedure
  pub fits : length c.arguments ≡ procedure.arguments
  pub numbers : (heap : Heap) → AreOf heap (parameters_of procedure) (map ANumber c.arguments)

-- what is left is sound, records are only added, and each charge paid for one count at most
pub record LeavesSound (parts : Parts) (w : World) (o : Ending) : Type 0 where
  pub world : IsSoundWorld parts.shape (world_in o)
  pub grown : Grown w (world_in o)
  pub paid : Paid w (world_in o)

paid_of : (w v : World) (m n : ℕ) → PaysFor w m v n → m ≡ w.charges → v.charges ≤ n → Paid w v
paid_of w v m n p e le = record { records = omega (arith, p.records); pointer_writes = omega (arith, p.pointer_writes); value_writes = omega (arith, p.value_writes) }

module _ (parts : Parts) (f : Frame) (w : World) (first : spendable f [] w ≡ w.charges) where
  leaves_on : (v : Move) → HasStopped v → MoveIsSound parts f [] w v → MovePays f [] w v → LeavesSound parts w (end_or w (spent v))
  leaves_on (Goes g c u) stop s p = absurd stop
  leaves_on (Waits line g c u) stop s p = record { world = s.0.run.world; grown = s.0.keeps.grown; paid = paid_of w u (spendable f [] w) (spendable g c u) p first (omega arith) }
  leaves_on (Over o) stop s p = record { world = s.world; grown = s.keeps.grown; paid = paid_of w (world_in o) (spendable f [] w) (world_in o).charges p first (omega arith) }
  leaves_on Stuck stop s p = absurd s

  comes_on : (v : Move) → HasStopped v → MoveIsSound parts f [] w v → spent v ≡ Over (end_or w (spent v))
  comes_on (Goes g c u) stop s = absurd stop
  comes_on (Waits line g c u) stop s = refl
  comes_on (Over o) stop s = refl
  comes_on Stuck stop s = absurd s

-- with d charges more a run comes to what had ended, with these left
more_end : (d : ℕ) (o x : Ending) → x ≡ granted_end d o → More d o x
more_end d (Normal registers w) x e = e
more_end d (Returned v w) x e = e
more_end d (Trapped t line w) x e = e
more_end d (Spent line w) x e = subst (λ (y : Ending). Counted w (world_in y)) (sym e) (counted_quiet.same w)

-- from where a run stands it comes to the same end
goes_to : (parts : Parts) (k : ℕ) (f g : Frame) (c : List Caller) (w u : World) (o : Ending) → steps parts k f [] w ≡ Goes g c u → ComesTo parts f [] w o → ComesTo parts g c u o
goes_to parts k f g c w u o at to =
    ⊎_elim
    (λ lt.
    let whole : k + (to.within - k) ≡ to.within = omega arith in
    record {
      within = to.within - k;
      comes = ap (λ v. spent (go_on v (steps parts (to.within - k)))) (sym at) ∙ ap spent (sym (steps_add parts k (to.within - k) f [] w)) ∙ ap (λ n. spent (steps parts n f [] w)) whole ∙ to.comes;
    })
    (λ le. absurd (not_over o (ap spent (sym at) ∙ longer parts to.within k f [] w o le to.comes)))
    (cases_lt k to.within)
  where
    not_over : (p : Ending) → Goes g c u ≡ Over p → ⊥
    not_over p e = cc

module _ (parts : Parts) (valid : IsValidCode parts) (p : Procedure) (one : IsOneOf parts p) (vs : List Value) (are : (heap : Heap) → AreOf heap (parameters_of p) vs) where
  begins : (w : World) → IsSoundWorld parts.shape w → IsSoundRun parts (first_frame p vs) [] w
  begins w s = first_sound parts valid p vs w one (are w.heap) s

  sound_stand : (w : World) → IsSoundWorld parts.shape w → MoveIsSound parts (first_frame p vs) [] w (stand parts p vs w)
  sound_stand w s = steps_sound parts valid (bound parts p vs w) (first_frame p vs) [] w (begins w s)

  run_ends : (w : World) → IsSoundWorld parts.shape w → EndsIn parts p vs w (machine_run parts (Some p) vs w)
  unfolding machine_run
  run_ends w s = record {
    within = bound parts p vs w;
    comes = comes_on parts (first_frame p vs) w (first_spends parts valid p vs w one) (stand parts p vs w) (has_stopped parts valid p one vs w) (sound_stand w s);
  }

  run_leaves : (w : World) → IsSoundWorld parts.shape w → LeavesSound parts w (machine_run parts (Some p) vs w)
  unfolding machine_run
  run_leaves w s =
      leaves_on parts (first_frame p vs) w (first_spends parts valid p vs w one) (stand parts p vs w) (has_stopped parts valid p one vs w) (sound_stand w s)
      (steps_pay parts valid (bound parts p vs w) (first_frame p vs) [] w (begins w s))

  more_on : (d : ℕ) (w : World) → IsSoundWorld parts.shape (granted d w) → (v : Move) → stand parts p vs w ≡ v → HasStopped v
      → MoveIsSound parts (first_frame p vs) [] w v → More d (end_or w (spent v)) (machine_run parts (Some p) vs (granted d w))
  more_on d w s (Goes g c u) e stop sound = absurd stop
  more_on d w s (Waits line g c u) e stop sound =
      let r = grants_reach parts d (bound parts p vs w) (first_frame p vs) [] w in
      let ends = run_ends (granted d w) s in
      let o : Ending = machine_run parts (Some p) vs (granted d w) in
      let to : ComesTo parts g c (granted d u) o =
      goes_to parts r.within (first_frame p vs) g c (granted d w) (granted d u) o (r.comes ∙ ap (granted_move d) e) (record { within = ends.within; comes = ends.comes }) in
      let counts : Counted (granted d u) (world_in o) = later_counts (granted d u) (steps parts to.within g c (granted d u)) o to.comes (steps_count parts to.within g c (granted d u)) in
      record { records = counts.records; pointer_writes = counts.pointer_writes; value_writes = counts.value_writes }
  more_on d w s (Over o) e stop sound =
      let r = grants_reach parts d (bound parts p vs w) (first_frame p vs) [] w in
      more_end d o (machine_run parts (Some p) vs (granted d w))
      (run_is parts valid p one vs (granted d w) (granted_end d o) (record { within = r.within; comes = ap spent (r.comes ∙ ap (granted_move d) e) }))
  more_on d w s Stuck e stop sound = absurd sound

  run_more : (d : ℕ) (w : World) → IsSoundWorld parts.shape w → More d (machine_run parts (Some p) vs w) (machine_run parts (Some p) vs (ahead d w))
  unfolding machine_run
  run_more d w s = more_on d w (record { well_formed = s.well_formed; fresh = s.fresh }) (stand parts p vs w) refl (has_stopped parts valid p one vs w) (sound_stand w s)

module _ (parts : Parts) (valid : IsValidCode parts) (c : TaskCall) (is : IsCallable parts c) where
  one_of : IsOneOf parts is.procedure
  one_of = record { number = c.procedure; is = is.found }

  call_is : (w : World) → machine_call parts c w ≡ machine_run parts (Some is.procedure) (map ANumber c.arguments) w
  call_is w = ap (λ o. machine_run parts o (map ANumber c.arguments) w) is.found

  pub one_ends : (w : World) → IsSoundWorld parts.shape w → CallEndsIn parts c w (machine_call parts c w)
  one_ends w s = record {
    procedure = is.procedure;
    found = is.found;
    fits = is.fits;
    ends = subst (EndsIn parts is.procedure (map ANumber c.arguments) w) (sym (call_is w)) (run_ends parts valid is.procedure one_of (map ANumber c.arguments) is.numbers w s);
  }

  pub one_leaves : (w : World) → IsSoundWorld parts.shape w → LeavesSound parts w (machine_call parts c w)
  one_leaves w s = subst (LeavesSound parts w) (sym (call_is w)) (run_leaves parts valid is.procedure one_of (map ANumber c.arguments) is.numbers w s)

  pub one_more : (d : ℕ) (w : World) → IsSoundWorld parts.shape w → More d (machine_call parts c w) (machine_call parts c (ahead d w))
  one_more d w s =
      subst (λ (o : Option Procedure). More d (machine_run parts o (map ANumber c.arguments) w) (machine_run parts o (map ANumber c.arguments) (ahead d w))) (sym is.found)
      (run_more parts valid is.procedure one_of (map ANumber c.arguments) is.numbers d w s)

-- an end of a call is the one
pub call_ends_once : (parts : Parts) → IsValidCode parts → (c : TaskCall) (w : World) (o : Ending) → CallEndsIn parts c w o → machine_call parts c w ≡ o
call_ends_once parts valid c w o to =
    ap (λ x. machine_run parts x (map ANumber c.arguments) w) to.found ∙ run_is parts valid to.procedure (record { number = c.procedure; is = to.found }) (map ANumber c.arguments) w o to.ends

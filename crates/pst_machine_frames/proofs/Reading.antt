-- What a part of a run leaves: the names of other runs, and all of a heap that it can't write.
use Rattle.std.proofs.Common.{◌≡◌, ◌≢◌, Bool, true, false, IsTrue, Option, Some, None, Result, Ok, Err, OnErr, OnOk, inl, inr, refl, ap, sym, ◌∙◌, subst}
use Rattle.std.specs.FinMap.{get}
use Rattle.pst_base.specs.declared.names.Name.{Name}
use Rattle.pst_base.specs.declared.names.TypeNo.{TypeNo}
use Rattle.pst_base.specs.Heap.{type_in}
use Rattle.pst_base.proofs.WellFormed.{none-from_type, type-from_none}
use Rattle.pst_program.specs.Meaning.{World}
use Rattle.pst_program.specs.Sound.{Grown}
use Rattle.pst_code.specs.declared.procedure.Parts.{Parts}
use Rattle.pst_code.specs.Valid.{IsValidCode}
use Rattle.pst_code.specs.SoundRuns.{outermost, KeepsWorld, MoveIsSound, Unwritten}
use Rattle.pst_code.specs.Spending.{MovePays}
use Rattle.pst_code.proofs.SoundMoves.{steps_sound}
use Rattle.pst_code.proofs.Paying.{steps_pay}
use Rattle.pst_versions.specs.State.{State, Unchanged, IsFresh}
use Rattle.pst_versions.proofs.StateLemmas.{Keeps_refl, Keeps_trans}
use Rattle.pst_machine_steps.specs.declared.standing.Standing.{Standing}
use Rattle.pst_machine_steps.specs.declared.standing.Step.{Step}
use Rattle.pst_machine_steps.specs.declared.standing.Step.TheVariants.{Next, Here, Switched, Waits, Ends, Trap}
use Rattle.pst_machine_steps.specs.View.{move_of}
use Rattle.pst_machine_frames.specs.Ready.{world_of, current_of, waiting_of, IsRunning, Ran}

-- a name of another run is given to no record
free_by : (before after : World) (n : Name) (o : Option TypeNo) → Grown before after → n.run ≢ before.run → type_in before.heap n ≡ None → type_in after.heap n ≡ o → get after.heap n ≡ None
free_by before after n None grown other free e = none-from_type after.heap n e
free_by before after n (Some ty) grown other free e = elim (grown.added n ty e) [ inl old ↦ absurd (cc) | inr new ↦ absurd (other new.run) ]

is_query : (b : Bool) → ¬ (b ≡ false) → IsTrue b
is_query true f = refl
is_query false f = absurd (f refl)

module _ {P R : Type 0} where
  pub unchanged_refl : (s : State P R) → Unchanged s s
  unchanged_refl s = record { keeps = Keeps_refl s; heaps = λ p has. refl; counts = refl }

  pub unchanged_trans : (s t u : State P R) → Unchanged s t → Unchanged t u → Unchanged s u
  unchanged_trans s t u f g = record { keeps = Keeps_trans s t u f.keeps g.keeps; heaps = λ p has. g.heaps p (f.keeps.grows.has p has) ∙ f.heaps p has; counts = g.counts ∙ f.counts }

module _ {P R : Type 0} (parts : Parts) (valid : IsValidCode parts) (s t : State P R) (a b : Standing P R) (r : IsRunning parts s a) where
  pub ran_sound : (step : Step) → Ran parts s a step t b → MoveIsSound parts (current_of parts s a) (waiting_of parts s a) (world_of s a)
      (move_of step (current_of parts t b) (waiting_of parts t b) (world_of t b))
  ran_sound step ran =
      subst (MoveIsSound parts (current_of parts s a) (waiting_of parts s a) (world_of s a)) ran.reaches.comes
      (steps_sound parts valid ran.reaches.within (current_of parts s a) (waiting_of parts s a) (world_of s a) r.sound)

  pub ran_pays : (step : Step) → Ran parts s a step t b → MovePays (current_of parts s a) (waiting_of parts s a) (world_of s a)
      (move_of step (current_of parts t b) (waiting_of parts t b) (world_of t b))
  ran_pays step ran =
      subst (MovePays (current_of parts s a) (waiting_of parts s a) (world_of s a)) ran.reaches.comes
      (steps_pay parts valid ran.reaches.within (current_of parts s a) (waiting_of parts s a) (world_of s a) r.sound)

  ran_keeps : (step : Step) → Ran parts s a step t b → KeepsWorld (outermost (current_of parts s a).procedure (waiting_of parts s a)) (world_of s a) (world_of t b)
  ran_keeps Next ran = absurd ran.running
  ran_keeps Here ran = (ran_sound Here ran).keeps
  ran_keeps Switched ran = (ran_sound Switched ran).keeps
  ran_keeps (Waits line) ran = (ran_sound (Waits line) ran).0.keeps
  ran_keeps (Ends v) ran = (ran_sound (Ends v) ran).keeps
  ran_keeps (Trap kind) ran = (ran_sound (Trap kind) ran).keeps

  -- at a place that it can't write a run changes nothing
  pub ran_reads : (step : Step) → Ran parts s a step t b → ¬ (s.writable a.place) → Unchanged s t
  ran_reads step ran closed =
      let query : IsTrue (outermost (current_of parts s a).procedure (waiting_of parts s a)).query =
      is_query (outermost (current_of parts s a).procedure (waiting_of parts s a)).query (λ e. closed (r.writable e)) in
      let same : Unwritten (world_of s a) (world_of t b) = (ran_keeps step ran).reads query in
      let here : t.heap a.place ≡ s.heap a.place = ap t.heap (sym ran.place) ∙ same.heap in
      record {
        keeps = ran.kept.keeps;
        heaps = λ q has. elim (ran.kept.others.stay q has) [ inl e ↦ ap t.heap e ∙ here ∙ ap s.heap (sym e) | inr e ↦ e ];
        counts = same.counts;
      }

  -- nor where memory runs out behind such a part
  pub reads_on : (u : State P R) → Ran parts s a Switched t b → (¬ (t.writable b.place) → Unchanged t u) → ¬ (s.writable a.place) → Unchanged s u
  reads_on u ran behind closed = unchanged_trans s t u (ran_reads Switched ran closed) (behind (λ w. closed (ran.writes.back a.place (subst t.writable ran.place w))))

  -- a run gives only names of its own number
  pub ran_names : (step : Step) → Ran parts s a step t b → (n : Name) → n.run ≢ a.run → IsFresh s n → IsFresh t n
  ran_names step ran n other fresh =
      let old : type_in (s.heap a.place) n ≡ None = type-from_none (s.heap a.place) n (fresh.fresh a.place r.has) in
      let here : get (t.heap b.place) n ≡ None = free_by (world_of s a) (world_of t b) n (type_in (t.heap b.place) n) (ran_keeps step ran).grown other old refl in
      record {
        fresh = λ q has. elim (ran.kept.others.stay q (ran.kept.keeps.back q has)) [
          | inl e ↦ ap (λ q. get (t.heap q) n) (e ∙ sym ran.place) ∙ here
          | inr e ↦ ap (λ h. get h n) e ∙ fresh.fresh q (ran.kept.keeps.back q has)
        ];
      }

-- what is so of each result
pub on_ok : {X E Q : Type 0} (r : Result X E) → Q → OnOk r Q
on_ok (Ok v) q = q
on_ok (Err w) q = tt

-- what is so of each error
pub on_err : {X E Q : Type 0} (r : Result X E) → Q → OnErr r Q
on_err (Ok v) q = tt
on_err (Err w) q = q

-- Where a call has ended: the run stands between two, and has paid for what it made.
use Rattle.std.proofs.Common.{◌≡◌, ◌≤◌, Option, None, inl, inr, ap, sym, ◌∙◌, subst, arith}
use Rattle.std.specs.FinMap.{get}
use Rattle.pst_base.specs.declared.names.Name.{Name}
use Rattle.pst_base.specs.declared.names.RunNo.{RunNo}
use Rattle.pst_base.specs.Heap.{type_in}
use Rattle.pst_base.proofs.WellFormed.{none-from_type}
use Rattle.pst_code.specs.declared.instr.Reg.{Reg}
use Rattle.pst_code.specs.declared.procedure.Parts.{Parts}
use Rattle.pst_code.specs.Valid.{IsValidCode}
use Rattle.pst_versions.specs.State.{State, IsFresh}
use Rattle.pst_machine_steps.specs.declared.standing.Standing.{Standing}
use Rattle.pst_machine_steps.specs.declared.standing.Step.TheVariants.{Ends}
use Rattle.pst_machine_steps.specs.Calls.{HoldsNothing, SameTally}
use Rattle.pst_machine_frames.specs.Ready.{IsRunning, IsFunded, Ran}
use Rattle.pst_machine_frames.proofs.Reading.{ran_sound, ran_pays}
use Rattle.pst_machine.specs.Advance.{HasFunds, IsBetween}

module _ {P R : Type 0} (parts : Parts) (valid : IsValidCode parts) (s t : State P R) (a b : Standing P R) (r : IsRunning parts s a) where
  -- where a call has ended, and what it held is let go, the run stands between two
  pub ended_between : (v : Option Reg) → Ran parts s a (Ends v) t b → (e : Standing P R) → HoldsNothing e → SameTally b e → IsBetween parts t e
  ended_between v ran e empty tally =
      let sound = ran_sound parts valid s t a b r (Ends v) ran in
      record {
        shape = ran.kept.keeps.grows.shape ∙ r.shape;
        has = subst t.has (sym (tally.place ∙ ran.place)) (ran.kept.keeps.grows.has a.place r.has);
        empty = empty;
        fresh = λ k more. subst (λ (q : RunNo). IsFresh t record { run = q; ordinal = k }) (sym tally.run) record {
          fresh = λ p has.
              let n : Name = record { run = b.run; ordinal = k } in
              let le : b.made ≤ k = omega (arith, tally.made) in
              let old : a.made ≤ k = omega (arith, sound.keeps.grown.more) in
              let before : get (s.heap p) n ≡ None = subst (λ q. get (s.heap p) record { run = q; ordinal = k } ≡ None) (sym ran.run) ((r.fresh k old).fresh p (ran.kept.keeps.back p has)) in
              elim (ran.kept.others.stay p (ran.kept.keeps.back p has)) [
                | inl here ↦ none-from_type (t.heap p) n (ap (λ p. type_in (t.heap p) n) (here ∙ sym ran.place) ∙ sound.world.fresh k le)
                | inr same ↦ ap (λ h. get h n) same ∙ before
              ];
        };
      }

  -- and has paid for what it made
  pub ended_funds : (v : Option Reg) → IsFunded parts s a → Ran parts s a (Ends v) t b → (e : Standing P R) → SameTally b e → HasFunds e.left t e
  ended_funds v f ran e tally =
      let pays = ran_pays parts valid s t a b r (Ends v) ran in
      record {
        made = omega (arith, pays.made, f.made, tally.made, tally.left);
        records = omega (arith, pays.records, f.records, tally.left);
        pointer_writes = omega (arith, pays.pointer_writes, f.pointer_writes, tally.left);
        value_writes = omega (arith, pays.value_writes, f.value_writes, tally.left);
      }

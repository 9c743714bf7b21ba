-- What is the same but for lines.
use Rattle.std.specs.Prelude.{◌≡◌, ℕ, List, map, Result, Ok, Err}
use Rattle.pst_base.specs.Heap.{Heap}
use Rattle.pst_base.specs.declared.names.TrapKind.{TrapKind}
use Rattle.pst_program.specs.declared.meaning.Ended.{Ended}
use Rattle.pst_program.specs.declared.meaning.Ended.TheVariants.{Done, Trapped, Stopped}
use Rattle.pst_program.specs.Outcome.{Outcome}
use Rattle.pst_typing.specs.declared.fault.TypeFault.{TypeFault}
use Rattle.pst_typing.specs.Declarations.{NamedProgram}
use Rattle.pst_script.specs.declared.command.Command.{Command}
use Rattle.pst_history.specs.Meaning.{Meaning, Work}
use Rattle.pst_history.specs.History.{History, heaps_of, counts_of, refusal, after}
use Rattle.pst_history_laws.specs.Lines.{procedure_lineless}

-- ends of a run that are the same but for the line of a trap
pub data EndedAlike : Ended → Ended → Type 0 where
  BothDone : EndedAlike Done Done
  BothStopped : EndedAlike Stopped Stopped
  BothTrapped : (t : TrapKind) (l k : ℕ) → EndedAlike (Trapped record { kind = t; line = l }) (Trapped record { kind = t; line = k })

-- outcomes of a run that are the same but for the line of a trap
pub record OutcomeAlike (a b : Outcome) : Type 0 where
  pub end : EndedAlike a.end b.end
  pub heap : a.heap ≡ b.heap
  pub printed : a.printed ≡ b.printed
  pub counts : a.counts ≡ b.counts

-- meanings by which each run has outcomes that are the same but for the line of a trap
pub record MeaningAlike (m n : Meaning) : Type 0 where
  pub shape : m.shape ≡ n.shape
  pub proc : (name : List ℕ) → m.proc name ≡ n.proc name
  pub query : (name : List ℕ) → m.query name ≡ n.query name
  pub outcome : (w : Work) (granted : ℕ) (heap : Heap) → OutcomeAlike (m.outcome w granted heap) (n.outcome w granted heap)

-- a history has the same heaps, counts, refusals and next histories by both meanings
pub record SameHistory (m n : Meaning) (h : History) : Type 0 where
  pub heaps : heaps_of m h ≡ heaps_of n h
  pub counts : counts_of m h ≡ counts_of n h
  pub refusals : (c : Command) → refusal m h c ≡ refusal n h c
  pub after_is : (c : Command) → after m h c ≡ after n h c

-- typed programs that are the same but for the lines of statements
pub record ProgramAlike (p q : NamedProgram) : Type 0 where
  pub shape : p.shape ≡ q.shape
  pub names : p.names ≡ q.names
  pub procedures : map procedure_lineless p.procedures ≡ map procedure_lineless q.procedures

-- both are accepted, as what stands in this relation, or both have a fault
pub data Agree {A B : Type 0} (R : A → B → Type 0) : Result A TypeFault → Result B TypeFault → Type 0 where
  Oks : (a : A) (b : B) → R a b → Agree R (Ok a) (Ok b)
  Errs : (f g : TypeFault) → Agree R (Err f) (Err g)

-- What an engine and a heap stand for: a history, of which neither keeps anything but what is here.
-- Letters: m is the meaning of a program, code is code with a meaning, h a history, s the state of the heap before and t after, r a reply, v a version.
use Rattle.std.specs.Prelude.{◌≡◌, ◌≢◌, ℕ, ◌+◌, ◌<◌, ◌^◌, List, ℤ, [], ◌∷◌, map, drop, None, Some, IfSome, true, length, slice_get}
use Rattle.pst_base.specs.declared.names.RunNo.{RunNo}
use Rattle.pst_base.specs.declared.names.Name.{Name}
use Rattle.pst_base.specs.Name.{root_name}
use Rattle.pst_base.specs.declared.names.VersionNo.{VersionNo}
use Rattle.pst_program.specs.declared.meaning.Ended.{Ended}
use Rattle.pst_program.specs.declared.meaning.Ended.TheVariants.{Done, Trapped, Stopped}
use Rattle.pst_script.specs.declared.command.Command.{Command}
use Rattle.pst_script.specs.declared.command.Command.TheVariants.{CallRun}
use Rattle.pst_script.specs.declared.reply.Reply.{Reply}
use Rattle.pst_script.specs.declared.reply.Reply.TheVariants as answer
use Rattle.pst_base.specs.Heap.{initial_heap}
use Rattle.pst_program.specs.Sound.{CountsWithin}
use Rattle.pst_program.specs.Laws.{IsOlder}
use Rattle.pst_versions.specs.declared.rows.VersionRow.{VersionRow}
use Rattle.pst_versions.specs.State.{IsFresh, State, IsOpenFork, Published}
use Rattle.pst_script.specs.Commands.{in_range}
use Rattle.pst_history.specs.declared.history.Descent.{Descent}
use Rattle.pst_history.specs.Meaning.{Meaning}
use Rattle.pst_history.specs.History.{Opening, History, refusal, changed, answered, after, reply}
use Rattle.pst_engine.specs.declared.engine.Engine.{Engine}
use Rattle.pst_engine_runs.specs.Coded.{MeantCode}
use Rattle.pst_engine_runs.specs.Stands.{AreGivenForks, HoldsVersions, RunsStand}

-- ---- the end of a run

-- what a run that was carried to its end comes to: a version of its place where it is done
abbrev pub Settled : {P R : Type 0} → (s : State P R) → VersionNo → RunNo → P → List ℤ → Ended → Reply → (t : State P R) → Type 0 → Type 0
Settled s parent run at printed Done r t same = (v : VersionNo) × Published s parent run at v t × (r ≡ answer.Version printed v)
Settled s parent run at printed (Trapped trap) r t same = same × (r ≡ answer.Trapped printed trap)
Settled s parent run at printed Stopped r t same = same × (r ≡ answer.Answer printed)

-- a place can be published as a child of this version
pub record MayPublish {P R : Type 0} (s : State P R) (parent : VersionNo) (at : P) : Type 0 where
  pub there : parent.0 < length s.versions
  pub forked : IfSome (slice_get s.versions parent.0) (λ row. IsOpenFork s at row.place)

-- ---- what an engine answers

-- an engine over this code, and a heap, stand for a history
abbrev pub EngineStands : {H P R : Type 0} → MeantCode → Engine H R P → State P R → History → Type 0
EngineStands code engine s h = RunsStand code engine.active.items.items engine.budget engine.next_run.0 s h

-- they stand for a history that does not refuse the command
pub record MayAnswer {H P R : Type 0} (code : MeantCode) (engine : Engine H R P) (s : State P R) (command : Command) : Type 0 where
  pub history : History
  pub stands : EngineStands code engine s history
  pub accepted : refusal code.meaning history command ≡ None

-- the answer to a command is that of the history, and engine and heap stand for the history after it, if a line can give it
pub record IsCarried {H P R : Type 0} (code : MeantCode) (command : Command) (r : Reply) (new : Engine H R P) (t : State P R) (h : History) : Type 0 where
  pub stands : in_range command ≡ true → EngineStands code new t (changed code.meaning h command)
  pub reply : r ≡ answered code.meaning h command

-- so for every history for which they stood and that does not refuse the command
abbrev pub Carries : {H P R : Type 0} → MeantCode → (old : Engine H R P) → (s : State P R) → Command → (new : Engine H R P) → (t : State P R) → Reply → Type 0
Carries code old s command new t r = (h : History) → EngineStands code old s h → refusal code.meaning h command ≡ None → IsCarried code command r new t h

-- so of a call that an open run is given
abbrev pub CarriesCall : {H P R : Type 0} → MeantCode → (old : Engine H R P) → (s : State P R) → RunNo → (procedure : List ℕ) → (arguments : List ℤ) → (new : Engine H R P) → (t : State P R) → Reply → Type 0
CarriesCall code old s run procedure arguments new t r = Carries code old s (CallRun run procedure arguments) new t r

-- the answer to a command is the reply, and engine and heap stand for the history after it, if a line can give it
pub record IsAnswered {H P R : Type 0} (code : MeantCode) (command : Command) (r : Reply) (new : Engine H R P) (t : State P R) (h : History) : Type 0 where
  pub stands : in_range command ≡ true → EngineStands code new t (after code.meaning h command)
  pub reply : r ≡ reply code.meaning h command

-- so for every history for which they stood
abbrev pub Answers : {H P R : Type 0} → MeantCode → (old : Engine H R P) → (s : State P R) → Command → Reply → (new : Engine H R P) → (t : State P R) → Type 0
Answers code old s command r new t = (h : History) → EngineStands code old s h → IsAnswered code command r new t h

-- they stand for some history
pub record MayApply {H P R : Type 0} (code : MeantCode) (engine : Engine H R P) (s : State P R) : Type 0 where
  pub history : History
  pub stands : EngineStands code engine s history

-- after want of memory the heap's versions are those of each history before, and each keeps its row and so its place
pub record Wants {H P R : Type 0} (code : MeantCode) (old : Engine H R P) (s t : State P R) : Type 0 where
  pub rows : t.versions ≡ s.versions
  pub holds : (h : History) → EngineStands code old s h → HoldsVersions code.meaning t h

-- ---- how an engine and a heap begin

-- A heap with which an engine over this next run number stands for the opening that has the heap's versions, heaps and
-- counts: it has a version, each further one has a run and a fork of its own, the forks in the order of the runs, no record has a
-- run number from the next one on, and fewer forks were asked for.
pub record IsOpeningHeap {P R : Type 0} (m : Meaning) (s : State P R) (next : ℕ) : Type 0 where
  pub shape : s.shape ≡ m.shape
  pub older : (p : P) → s.has p → IsOlder (s.heap p) next
  pub rooted : (n : Name) → n.run.0 ≡ 0 → n ≢ root_name → IsFresh s n
  pub some : 0 < length s.versions
  pub runs : (v : ℕ) (row : VersionRow P) → slice_get s.versions (v + 1) ≡ Some row → (0 < row.run.0) × (row.run.0 < next)
  pub apart : (v w : ℕ) (a b : VersionRow P) → slice_get s.versions (v + 1) ≡ Some a → slice_get s.versions (w + 1) ≡ Some b → a.run ≡ b.run → v ≡ w
  pub forks : AreGivenForks s (length s.forks) (length s.versions)
  pub calls : s.fork_calls + s.spent < next
  pub counts : CountsWithin s.counts (2 ^ 50)

-- a version's row, without its place
abbrev pub row_of : {P : Type 0} → VersionRow P → Descent
row_of row = record { run = row.run; parent = row.parent }

-- the opening that a heap has
abbrev pub opening_of : {P R : Type 0} → State P R → (next budget : ℕ) → Opening
opening_of s next budget = record { versions = map row_of (drop 1 s.versions); heaps = map (λ row. s.heap row.place) s.versions; next_run = next; budget = budget; counts = s.counts }

-- a heap as it is started: one version, with the root record alone
pub record IsStartedHeap {P R : Type 0} (m : Meaning) (s : State P R) : Type 0 where
  pub shape : s.shape ≡ m.shape
  pub place : P
  pub versions : s.versions ≡ record { parent = record { 0 = 0 }; run = record { 0 = 0 }; place = place } ∷ []
  pub only : (p : P) → s.has p → p ≡ place
  pub heap : s.heap place ≡ initial_heap m.shape
  pub counts : s.counts ≡ record { records = 1; pointer_writes = 0; value_writes = 0 }
  pub calls : s.fork_calls ≡ 0
  pub spent : s.spent ≡ 0
  pub forks : s.forks ≡ []

-- What holds of every history, of any program.
-- Letters: m is the meaning of a program, o an opening, h a history, c a command, k a number of charges.
use Rattle.std.specs.Prelude.{◌≡◌, ◌≢◌, ℕ, ◌+◌, ◌*◌, ◌<◌, ◌≤◌, ◌^◌, ◌++◌, length, Option, Some, None, count_by, slice_get, true}
use Rattle.pst_base.specs.declared.names.RunNo.{RunNo}
use Rattle.pst_base.specs.Heap.{Heap}
use Rattle.pst_script.specs.declared.command.Call.{Call}
use Rattle.pst_script.specs.declared.command.Command.{Command}
use Rattle.pst_script.specs.declared.command.Command.TheVariants as command
use Rattle.pst_script.specs.Commands.{in_range}
use Rattle.pst_script.specs.declared.reply.Reply.TheVariants as answer
use Rattle.pst_script.specs.declared.reply.Refusal.{Refusal}
use Rattle.pst_script.specs.declared.reply.Refusal.TheVariants as because
use Rattle.pst_history.specs.declared.history.Run.{Run}
use Rattle.pst_history.specs.declared.history.Descent.{Descent}
use Rattle.pst_program.specs.Sound.{CountsBelow, CountsWithin}
use Rattle.pst_history.specs.Meaning.{Meaning, IsLawful, ReadsOnly}
use Rattle.pst_history.specs.History.{Opening, History, begun, version_count, heap_of, counts_of, after, reply, refusal, IsHistory, is_open, run_at, next_run, work_of, opening}
use Rattle.pst_base.specs.Shape.{IsValid}
use Rattle.pst_program.specs.Syntax.{Routines}
use Rattle.pst_program.specs.Typed.{IsTyped}
use Rattle.pst_history.specs.Direct.{direct}
use Rattle.pst_history.specs.Sound.{IsOpening, IsSoundHistory, IsBefore, HaveOwnRuns, HaveRunsBelow, made_below}
use Rattle.pst_history.specs.declared.history.TheConstants.{OPEN_RUNS}

-- a refused command is answered by its refusal and changes nothing
abbrev pub RefusedChangesNothing : Type 0
RefusedChangesNothing = (m : Meaning) (h : History) (c : Command) (why : Refusal) → refusal m h c ≡ Some why → (after m h c ≡ h) × (reply m h c ≡ answer.Refused why)

-- only a refused command is answered by a refusal
abbrev pub OnlyRefusedAreRefused : Type 0
OnlyRefusedAreRefused = (m : Meaning) (h : History) (c : Command) (why : Refusal) → reply m h c ≡ answer.Refused why → refusal m h c ≡ Some why

-- a query, `versions` and `stats` change nothing: a query takes no run number
abbrev pub ReadersChangeNothing : Type 0
ReadersChangeNothing = (m : Meaning) (h : History) → ((call : Call) → after m h (command.Query call) ≡ h) × (after m h command.Versions ≡ h) × (after m h command.Stats ≡ h)

-- that a line has no form, or a numeral out of range, is not for a history to say
abbrev pub RefusalsAreOfCommands : Type 0
RefusalsAreOfCommands = (m : Meaning) (h : History) (c : Command) → (refusal m h c ≢ Some because.Line) × (refusal m h c ≢ Some because.Number)

-- what is made by commands of a sound opening is sound
abbrev pub HistoriesAreSound : Type 0
HistoriesAreSound = (m : Meaning) → IsLawful m → (o : Opening) → IsOpening m o → (h : History) → IsHistory m o h → IsSoundHistory m h

-- the opening history is one, and a command that a line can give makes another of one
abbrev pub HistoriesGoOn : Type 0
HistoriesGoOn = (m : Meaning) (o : Opening) → IsHistory m o (begun o) × ((h : History) (c : Command) → in_range c ≡ true → IsHistory m o h → IsHistory m o (after m h c))

-- the opening of `run` is one for every lawful meaning
abbrev pub OpeningIsSound : Type 0
OpeningIsSound = (m : Meaning) → IsLawful m → IsOpening m (opening m.shape)

-- the history of an opening is sound, and each command that a line can give keeps a history sound
abbrev pub SoundHistoriesGoOn : Type 0
SoundHistoriesGoOn = (m : Meaning) → IsLawful m → ((o : Opening) → IsOpening m o → IsSoundHistory m (begun o)) × ((h : History) (c : Command) → in_range c ≡ true → IsSoundHistory m h → IsSoundHistory m (after m h c))

-- at most 64 runs are open
abbrev pub FewRunsAreOpen : Type 0
FewRunsAreOpen = (m : Meaning) (o : Opening) (h : History) → IsHistory m o h → count_by is_open h.runs ≤ OPEN_RUNS

-- the open run that a command names
abbrev pub named_run : Command → Option RunNo
named_run (command.Run call) = None
named_run (command.Query call) = None
named_run (command.OpenRun call) = None
named_run (command.OpenEmpty version) = None
named_run (command.CallRun run procedure arguments) = Some run
named_run (command.StepRun run charges) = Some run
named_run (command.CloseRun run) = Some run
named_run (command.DropRun run) = Some run
named_run (command.Budget charges) = None
named_run command.Versions = None
named_run command.Stats = None

-- a run keeps its calls, budget, grant and state under each command that does not name it, however the runs are interleaved
abbrev pub RunsKeepApart : Type 0
RunsKeepApart = (m : Meaning) (h : History) (c : Command) (n : RunNo) (r : Run) → run_at h n.0 ≡ Some r → named_run c ≢ Some n → run_at (after m h c) n.0 ≡ Some r

-- after every command the versions that were there are there, with their runs and parents, and each has the heap that it had
pub record KeepsVersions (m : Meaning) (old new : History) : Type 0 where
  pub rows : (i : ℕ) (v : Descent) → slice_get old.versions i ≡ Some v → slice_get new.versions i ≡ Some v
  pub heaps : (k : ℕ) → k < version_count old → heap_of m new k ≡ heap_of m old k

abbrev pub OldVersionsKeepTheirHeaps : Type 0
OldVersionsKeepTheirHeaps = (m : Meaning) → IsLawful m → (h : History) (c : Command) → IsSoundHistory m h → KeepsVersions m h (after m h c)

-- after every command no count is less than before
abbrev pub CountsNeverFall : Type 0
CountsNeverFall = (m : Meaning) → IsLawful m → (h : History) (c : Command) → IsSoundHistory m h → CountsBelow (counts_of m h) (counts_of m (after m h c))

-- each run counts at most 1,000,000,000 beyond the opening, since it has no more charges
abbrev pub RunsCountFew : Type 0
RunsCountFew = (m : Meaning) → IsLawful m → (h : History) → IsSoundHistory m h → (opened : ℕ) → CountsWithin h.start.counts opened
    → CountsWithin (counts_of m h) (opened + 1000000000 * length h.runs)

-- the counts of the opening are at most 2^50, and its runs count no more than that
abbrev pub CountsAreFew : Type 0
CountsAreFew = (m : Meaning) → IsLawful m → (h : History) → IsSoundHistory m h → CountsWithin (counts_of m h) (2 ^ 51)

-- the run that made version k, and what it made of the heap of the parent with its whole budget
pub record IsMadeByItsRun (m : Meaning) (h : History) (k : ℕ) (v : Descent) : Type 0 where
  pub run : Run
  pub found : run_at h v.run.0 ≡ Some run
  pub parent : v.parent.0 < k
  pub version : run.parent ≡ v.parent
  pub heap : heap_of m h k ≡ (m.outcome (work_of v.run.0 run) run.budget (heap_of m h v.parent.0)).heap

-- the heaps of the opening are given, and each further version is what its own run makes of its parent
pub record VersionsAreMade (m : Meaning) (h : History) : Type 0 where
  pub given : (k : ℕ) (heap : Heap) → slice_get h.start.heaps k ≡ Some heap → heap_of m h k ≡ heap
  pub made : (i : ℕ) (v : Descent) → slice_get h.versions i ≡ Some v → IsMadeByItsRun m h (length h.start.heaps + i) v

abbrev pub VersionIsMadeByItsRun : Type 0
VersionIsMadeByItsRun = (m : Meaning) (h : History) → IsSoundHistory m h → VersionsAreMade m h

-- all versions after 0, those of the opening among them: each has a run of its own, which took its number
pub record OwnRuns (h : History) : Type 0 where
  pub below : HaveRunsBelow (h.start.versions ++ h.versions) (next_run h)
  pub apart : HaveOwnRuns (h.start.versions ++ h.versions)

abbrev pub VersionsHaveOwnRuns : Type 0
VersionsHaveOwnRuns = (m : Meaning) (h : History) → IsSoundHistory m h → OwnRuns h

-- the heap of each version is well formed, and none of its records is of a later run than the version's own
pub record IsAged (m : Meaning) (h : History) (k : ℕ) : Type 0 where
  pub mine : IsBefore m (heap_of m h k) (made_below h.start h.versions k)
  pub before_next : IsBefore m (heap_of m h k) (next_run h)

abbrev pub HeapsAreWellFormed : Type 0
HeapsAreWellFormed = (m : Meaning) → IsLawful m → (h : History) → IsSoundHistory m h → (k : ℕ) → k < version_count h → IsAged m h k

-- ---- the meaning of a program by its tree

-- that of any program with valid record types keeps what makes sense of histories
abbrev pub DirectIsLawful : Type 0
DirectIsLawful = (r : Routines) → IsValid r.shape → IsLawful (direct r)

-- the queries of a well-typed program write nothing
abbrev pub DirectReadsOnly : Type 0
DirectReadsOnly = (r : Routines) → IsTyped r → ReadsOnly (direct r)

-- The answer to a question about the versions of a history.
use Rattle.std.specs.Prelude.{◌≡◌, ℕ, zero, suc, ◌<◌, ◌≤◌, ◌⊎◌, List, ◌++◌, Option, Some, None, codes, length, slice_get}
use Rattle.std.specs.Option.{option_map}
use Rattle.std.specs.Fmt.{decimal}
use Rattle.pst_base.specs.declared.names.VersionNo.{VersionNo}
use Rattle.pst_program.specs.declared.program.Program.{Program}
use Rattle.pst_versions.specs.State.{State}
use Rattle.pst_history.specs.Meaning.{Meaning}
use Rattle.pst_history.specs.History.{History, heap_of, version_count}
use Rattle.pst_questions.specs.Dump.{IsDump}
use Rattle.pst_questions.specs.declared.slots.PathStep.{PathStep}
use Rattle.pst_questions.specs.Path.{resolved}
use Rattle.pst_questions.specs.Reading.{reading}
use Rattle.pst_questions.specs.Change.{Readings, IsFirstChange, NeverChanged}
use Rattle.pst_cli_words.specs.declared.job.Question.{Question}
use Rattle.pst_cli_words.specs.declared.job.Question.TheVariants.{Dump, Changed}

-- the version that a version of a history was made from: none for 0, and where there is no such version
abbrev pub parent_in : History → ℕ → Option VersionNo
parent_in h zero = None
parent_in h (suc i) = option_map (λ v. v.parent) (slice_get (h.start.versions ++ h.versions) i)

-- what a path reads at the versions of a history
abbrev pub readings_in : Meaning → History → (path : List PathStep) → Readings
readings_in m h path = record { parent = parent_in h; read = λ v. reading (heap_of m h v) path }

-- the line `refused version` exactly where no version has the number, and else such an answer
abbrev pub TellsOf : History → VersionNo → (List ℕ → Type 0) → List ℕ → Type 0
TellsOf h version Is out = ((version_count h ≤ version.0) × (out ≡ codes "refused version\n")) ⊎ ((version.0 < version_count h) × Is out)

-- the first version that changed what is read, on the way from this one to version 0; or that none did
abbrev pub TellsChange : Readings → (from : ℕ) → List ℕ → Type 0
TellsChange r from out = ((w : VersionNo) × IsFirstChange r from w.0 × (out ≡ codes "changed " ++ decimal w.0 ++ codes "\n")) ⊎ (NeverChanged r from × (out ≡ codes "never\n"))

-- the line `refused path` exactly where the path is not valid
abbrev pub TellsPath : Meaning → History → VersionNo → Option (List PathStep) → List ℕ → Type 0
TellsPath m h version None out = out ≡ codes "refused path\n"
TellsPath m h version (Some path) out = TellsOf h version (TellsChange (readings_in m h path) version.0) out

-- the answer to a question about a history of a program
abbrev pub Tells : Program → Meaning → History → Question → (path : List ℕ) → List ℕ → Type 0
Tells program m h (Dump version) path out = TellsOf h version (IsDump program.names (heap_of m h version.0)) out
Tells program m h (Changed version) path out = TellsPath m h version (resolved program path) out

-- the same by the rows of a heap with versions
abbrev pub WhereThere : {P R : Type 0} → State P R → VersionNo → (List ℕ → Type 0) → List ℕ → Type 0
WhereThere s version Is out =
    ((length s.versions ≤ version.0) × (out ≡ codes "refused version\n")) ⊎ ((version.0 < length s.versions) × Is out)

-- What is kept in two files.
use Rattle.std.specs.Prelude.{◌≡◌, ◌⊎◌, ⊤, ℕ, ◌+◌, List, ◌∷◌, length, Some, None, IsTrue}
use Rattle.sqlite_disk.specs.declared.Disk.{Ghosts}
use Rattle.sqlite_disk.specs.Disk.{Only, MoreFaults}
use Rattle.sha2.specs.Sha256.{sha256}
use Rattle.pst_kept_text.specs.Text.{IsTornEnd}
use Rattle.pst_kept_text.specs.Written.{IsSettled}
use Rattle.pst_kept_files.specs.Standing.{Standing, standing, stands, base_of, new_body}
use Rattle.pst_kept_files.specs.Checks.{letters, IsSealed}
use Rattle.pst_kept_files.specs.declared.role.Role.TheVariants.{First, Second}
use Rattle.pst_kept_files.specs.declared.role.Role.{Role}
use Rattle.pst_kept_files.specs.declared.kept.Kept.{Kept}
use Rattle.pst_kept_files.specs.declared.error.FilesError.{FilesError}
use Rattle.pst_kept_files.specs.declared.error.FilesError.TheVariants.{Disk}
use Rattle.pst_kept_text.specs.declared.error.DiskError.TheVariants.{Failed}

-- It keeps this image and these commands, and `last` is the last check of it.
pub record Holds (it : Standing) (image commands last : List ℕ) : Type 0 where
  pub image_is : it.image ≡ image
  pub digest_is : it.digest ≡ sha256 image
  pub groups : IsSealed (letters it.digest) it.text commands last
  pub torn_end : IsTornEnd it.rest

-- two files keep this image and these commands
pub record Keeps (one two image commands : List ℕ) : Type 0 where
  pub it : Standing
  pub last : List ℕ
  pub stand : stands one two ≡ Some it
  pub holds : Holds it image commands last

abbrev pub KeepsEither : List ℕ → List ℕ → List ℕ → List ℕ → List ℕ → List ℕ → Type 0
KeepsEither one two image commands image2 commands2 = Keeps one two image commands ⊎ Keeps one two image2 commands2

abbrev pub AreClean : {D : Type 0} → Ghosts D → D → D → Type 0
AreClean g one two = IsTrue (g.is_clean one) × IsTrue (g.is_clean two)

-- All of both files is on the disk, and they can be used; the one that counts has room behind its groups.
pub record IsHeldBy {D : Type 0} (g : Ghosts D) (counting other : D) (kept : Kept) : Type 0 where
  pub settled : IsSettled g counting kept.place
  pub usable : IsTrue (g.is_usable other)
  pub durable : Only (g.seen other) (g.may_leave other)

abbrev pub IsHeld : {D : Type 0} → Ghosts D → D → D → Role → Kept → Type 0
IsHeld g one two First kept = IsHeldBy g one two kept
IsHeld g one two Second kept = IsHeldBy g two one kept

-- A file that was written anew, with this image and no commands.
pub record IsNew {D : Type 0} (g : Ghosts D) (disk : D) (role : Role) (generation : ℕ) (image : List ℕ) (kept : Kept) : Type 0 where
  pub settled : IsSettled g disk kept.place
  pub file_is : g.seen disk ≡ 1 ∷ new_body generation image
  pub role_is : kept.role ≡ role
  pub generation_is : kept.generation ≡ generation
  pub begins : kept.place.base ≡ 49 + length image
  pub check_is : kept.check ≡ letters (sha256 image)

-- `Disk` with a failed call comes only where a call of one of the two failed
abbrev pub CountsFailedIn : ℕ → ℕ → ℕ → ℕ → FilesError → Type 0
CountsFailedIn one one2 two two2 (Disk (Failed _)) = MoreFaults one one2 ⊎ MoreFaults two two2
CountsFailedIn one one2 two two2 e = ⊤

-- The first of two files counts and keeps these; the other doesn't count.
pub record MeansBy (counting other : List ℕ) (kept : Kept) (image commands : List ℕ) : Type 0 where
  pub it : Standing
  pub begins : kept.place.base ≡ base_of counting
  pub counts : standing counting ≡ Some it
  pub generation_is : kept.generation ≡ it.generation
  pub holds : Holds it image commands kept.check
  pub none : standing other ≡ None

abbrev pub Means : List ℕ → List ℕ → Role → Kept → List ℕ → List ℕ → Type 0
Means one two First kept image commands = MeansBy one two kept image commands
Means one two Second kept image commands = MeansBy two one kept image commands

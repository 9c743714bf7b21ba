-- What opening two files finds.
use Rattle.std.specs.Prelude.{◌≡◌, ◌≢◌, ◌⊎◌, ⊤, ℕ, ◌-◌, ◌<◌, ◌≤◌, ◌^◌, List, length, take, drop, Some, None}
use Rattle.sqlite_disk.specs.declared.Disk.{Ghosts}
use Rattle.sha2.specs.Sha256.{sha256}
use Rattle.pst_kept_text.specs.Text.{IsTornEnd}
use Rattle.pst_kept_text.specs.Written.{groups_in, IsPlace, OnlyReads}
use Rattle.pst_kept_text.specs.declared.error.DiskError.TheVariants.{Failed, DoesNotMix, TooLarge, Memory}
use Rattle.pst_kept_files.specs.Standing.{Standing, base_of, content, standing, stands, IsOlder}
use Rattle.pst_kept_files.specs.Kept.{Holds}
use Rattle.pst_kept_files.specs.Checks.{letters, IsSealed}
use Rattle.pst_kept_files.specs.declared.opening.Opened.{Opened}
use Rattle.pst_kept_files.specs.declared.opening.Judged.{Judged}
use Rattle.pst_kept_files.specs.declared.error.FilesError.{FilesError}
use Rattle.pst_kept_files.specs.declared.error.FilesError.TheVariants.{Disk, NotEmpty, Empty, NoneCounts, DamagedImage, DamagedGroup, DamagedEnd}

-- the image of a store that was opened
abbrev pub image_in : Opened → List ℕ
image_in opened = drop 49 opened.front.items

-- a file counts, and its text begins there
pub record BeginsAt (file : List ℕ) (base : ℕ) : Type 0 where
  pub counts : standing file ≡ Some (content file)
  pub is : base ≡ base_of file
  pub head : 49 ≤ base
  pub inside : base ≤ length file

-- What was found in a file that counts, as it was read.
pub record IsJudged (file : List ℕ) (judged : Judged) : Type 0 where
  pub begins : BeginsAt file judged.place.base
  pub holds : Holds (content file) (take (judged.place.base - 49) (drop 49 file)) judged.commands.items judged.check
  pub room : judged.place.room ≡ length file
  pub is_place : IsPlace judged.place
  pub generation_is : judged.generation ≡ (content file).generation
  pub text : groups_in judged.place.base file ≡ take (judged.place.end - judged.place.base) (drop judged.place.base file)

-- why a file was refused, as it was read
abbrev pub IsMisjudged : FilesError → List ℕ → Type 0
IsMisjudged (Disk TooLarge) file = 2 ^ 61 < length file
IsMisjudged (Disk Memory) file = ⊤
IsMisjudged (Disk (Failed _)) file = ⊥
IsMisjudged (Disk DoesNotMix) file = ⊥
IsMisjudged NotEmpty file = ⊥
IsMisjudged Empty file = ⊥
IsMisjudged NoneCounts file = standing file ≡ None
IsMisjudged DamagedImage file = (content file).digest ≢ sha256 (content file).image
IsMisjudged DamagedGroup file = (commands last : List ℕ) → IsSealed (letters (content file).digest) (content file).text commands last → ⊥
IsMisjudged DamagedEnd file = IsTornEnd (content file).rest → ⊥

-- of two files the first counts
pub record CountsOver (one two : List ℕ) : Type 0 where
  pub it : Standing
  pub counts : standing one ≡ Some it
  pub older : IsOlder it.generation (standing two)

-- when what stands is refused, by each cause
abbrev pub IsRefused : FilesError → List ℕ → List ℕ → Type 0
IsRefused (Disk TooLarge) one two = (2 ^ 61 < length one) ⊎ (2 ^ 61 < length two)
IsRefused (Disk Memory) one two = ⊤
IsRefused (Disk (Failed _)) one two = ⊤
IsRefused (Disk DoesNotMix) one two = ⊤
IsRefused NotEmpty one two = ⊥
IsRefused Empty one two = (length one ≤ 1) × (length two ≤ 1)
IsRefused NoneCounts one two = stands one two ≡ None
IsRefused DamagedImage one two = (it : Standing) → stands one two ≡ Some it → it.digest ≢ sha256 it.image
IsRefused DamagedGroup one two = (it : Standing) → stands one two ≡ Some it → (commands last : List ℕ) → IsSealed (letters it.digest) it.text commands last → ⊥
IsRefused DamagedEnd one two = (it : Standing) → stands one two ≡ Some it → IsTornEnd it.rest → ⊥

-- a refusal changes nothing
abbrev pub AreUntouched : {D : Type 0} → Ghosts D → FilesError → D → D → D → D → Type 0
AreUntouched g (Disk _) one one2 two two2 = ⊤
AreUntouched g e one one2 two two2 = OnlyReads g one one2 × OnlyReads g two two2

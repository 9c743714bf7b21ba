-- Whole lives of two files: any number of days, each cut short at any moment, so that the files have any contents that a crash may leave.
use Rattle.std.specs.Prelude.{◌≡◌, ◌⊎◌, ℕ, List, [], ◌∷◌, ◌++◌}
use Rattle.pst_kept_files.specs.Kept.{Keeps, KeepsEither, Means}
use Rattle.pst_kept_files.specs.declared.role.Role.{Role}
use Rattle.pst_kept_files.specs.declared.kept.Kept.{Kept}

-- the contents of the two
pub record Files : Type 0 where
  pub one : List ℕ
  pub two : List ℕ

-- what happens to them
pub data Event : Type 0 where
  -- `append` of these commands came back with Ok
  told : List ℕ → Event
  -- it did not, or the machine stopped in it
  begun : List ℕ → Event
  -- `checkpoint` with this image came back, or did not, or the machine stopped in it
  renewed : List ℕ → Event
  -- so of `open`
  opened : Event

-- What a call's contract says of the contents before it and of those that may be left behind it; `covered` are the commands that an image
-- stands for, and the image of a checkpoint stands for all that were kept.
abbrev pub Step : (List ℕ → List ℕ) → Event → Files → Files → Type 0
Step covered (told more) f g = (image commands : List ℕ) × (Keeps f.one f.two image commands × Keeps g.one g.two image (commands ++ more))
Step covered (begun more) f g = (image commands : List ℕ) × (Keeps f.one f.two image commands × KeepsEither g.one g.two image commands image (commands ++ more))
Step covered (renewed new) f g = (image commands : List ℕ) × (Keeps f.one f.two image commands × ((covered new ≡ covered image ++ commands) × KeepsEither g.one g.two image commands new []))
Step covered opened f g = (image commands : List ℕ) × (Keeps f.one f.two image commands × Keeps g.one g.two image commands)

-- one after the other
abbrev pub Lives : (List ℕ → List ℕ) → List Event → Files → Files → Type 0
Lives covered [] f g = f ≡ g
Lives covered (e ∷ events) f g = (m : Files) × (Step covered e f m × Lives covered events m g)

-- all commands that the files keep, those that the image stands for first
pub record Counts (covered : List ℕ → List ℕ) (f : Files) (commands : List ℕ) : Type 0 where
  pub image : List ℕ
  pub behind : List ℕ
  pub keeps : Keeps f.one f.two image behind
  pub all : covered image ++ behind ≡ commands

-- Commands are counted behind those before: all that were told, in order, and of those that were begun all or nothing.
abbrev pub IsCounted : List Event → List ℕ → List ℕ → Type 0
IsCounted [] before after = before ≡ after
IsCounted (told more ∷ events) before after = IsCounted events (before ++ more) after
IsCounted (begun more ∷ events) before after = IsCounted events before after ⊎ IsCounted events (before ++ more) after
IsCounted (renewed new ∷ events) before after = IsCounted events before after
IsCounted (opened ∷ events) before after = IsCounted events before after

-- what a session knows is kept
abbrev pub MeansKeepsLaw : Type 0
MeansKeepsLaw = (one two : List ℕ) (role : Role) (kept : Kept) (image commands : List ℕ) → Means one two role kept image commands → Keeps one two image commands

-- two files keep one image and one text of commands
abbrev pub KeptOnceLaw : Type 0
KeptOnceLaw = (one two image commands image2 commands2 : List ℕ) → Keeps one two image commands → Keeps one two image2 commands2 → (image ≡ image2) × (commands ≡ commands2)

-- behind any life the files keep what was told, in order, and of what was begun all or nothing
abbrev pub LivesLaw : Type 0
LivesLaw = (covered : List ℕ → List ℕ) (events : List Event) (f g : Files) (before : List ℕ) → Lives covered events f g → Counts covered f before
    → (after : List ℕ) × (IsCounted events before after × Counts covered g after)

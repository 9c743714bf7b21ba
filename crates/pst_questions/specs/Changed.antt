-- What holds of all changes.
use Rattle.std.specs.Prelude.{◌≡◌, ℕ, ◌<◌, Some}
use Rattle.pst_base.specs.declared.names.VersionNo.{VersionNo}
use Rattle.pst_questions.specs.Change.{Readings, IsFirstChange, NeverChanged}

-- where a parent's number is below its child's, no way has two first changes
abbrev pub FirstChangeIsOne : Type 0
FirstChangeIsOne = (r : Readings) → ((v : ℕ) (parent : VersionNo) → r.parent v ≡ Some parent → parent.0 < v) → (from v w : ℕ) → IsFirstChange r from v → IsFirstChange r from w → v ≡ w

-- what is read agrees at the versions below a number, and so do their parents, which are below it too
pub record AgreeBelow (count : ℕ) (r s : Readings) : Type 0 where
  pub parents : (v : ℕ) → v < count → s.parent v ≡ r.parent v
  pub read : (v : ℕ) → v < count → s.read v ≡ r.read v
  pub below : (v : ℕ) (parent : VersionNo) → v < count → r.parent v ≡ Some parent → parent.0 < count

-- only the versions that are there decide
abbrev pub VersionsThereDecide : Type 0
VersionsThereDecide = (count : ℕ) (r s : Readings) → AgreeBelow count r s → (from : ℕ) → from < count → ((v : ℕ) → IsFirstChange r from v → IsFirstChange s from v) × (NeverChanged r from → NeverChanged s from)

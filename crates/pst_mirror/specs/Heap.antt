-- What a store shows at a position, record by record, and that a split shows the same.
use Rattle.std.specs.Prelude.{◌≡◌, ◌≢◌, ℕ, ℤ, ◌<◌, ◌≤◌, Bool, true, false, ◌↔◌}
use Rattle.pst_base.specs.declared.names.Name.{Name}
use Rattle.pst_rows.specs.declared.content.Content.{Content}
use Rattle.pst_rows.specs.declared.content.Content.TheVariants.{Number, Null, Free, Target as TargetOf, From as FromOf}
use Rattle.pst_mirror.specs.Mirror.{Chart, IsMirrored, moved, IsSplitWhole}

-- a store: its chart, and of each node the record's name, the type and where it lives
pub record Census : Type 0 where
  pub chart : Chart
  pub name : ℕ → Name
  pub type : ℕ → ℕ
  pub lives : ℕ → ℕ → Bool

-- a field of an ordinary heap
pub data Field : Type 0 where
  Int : (n : ℤ) → Field
  Nothing : Field
  Record : (name : Name) → Field

-- a stored node number stands for the record's name
abbrev pub denoted : (ℕ → Name) → Content → Field
denoted name (Number n) = Int n
denoted name Null = Nothing
denoted name (TargetOf y) = Record (name y.0)
denoted name Free = Nothing
denoted name (FromOf y f) = Record (name y.0)

-- At a position the record of this name has this type and these fields. `width` is how many fields a type has.
abbrev pub Shows : (ℕ → ℕ) → Census → ℕ → Name → ℕ → (ℕ → Field) → Type 0
Shows width s n q t fields = (i : ℕ) × (s.lives i n ≡ true) × (s.name i ≡ q) × (s.type i ≡ t) × ((g : ℕ) → g < width t → fields g ≡ denoted s.name (s.chart.holds i g n))

-- the same records at a position
abbrev pub ShowsSame : (ℕ → ℕ) → Census → Census → ℕ → Type 0
ShowsSame width old new n = (q : Name) (t : ℕ) (fields : ℕ → Field) → Shows width old n q t fields ↔ Shows width new n q t fields

pub record IsSplitOf (old new : Census) (x z at : ℕ) : Type 0 where
  pub whole : IsSplitWhole old.chart new.chart x z at
  pub not_there : (m : ℕ) → old.lives z m ≡ false
  pub dead : (i g m : ℕ) → old.lives i m ≡ false → old.chart.holds i g m ≡ Null
  pub mirrored : IsMirrored old.chart
  pub same_name : (i : ℕ) → i ≢ z → new.name i ≡ old.name i
  pub new_name : new.name z ≡ old.name x
  pub same_type : (i : ℕ) → i ≢ z → new.type i ≡ old.type i
  pub new_type : new.type z ≡ old.type x
  pub early_life : (i m : ℕ) → m < at → new.lives i m ≡ old.lives i m
  pub late_life : (i m : ℕ) → at ≤ m → i ≢ z → new.lives (moved x z i) m ≡ old.lives i m
  pub ended : (m : ℕ) → at ≤ m → new.lives x m ≡ false

abbrev pub SplitShowsLaw : Type 0
SplitShowsLaw = (width : ℕ → ℕ) (old new : Census) (x z at : ℕ) → IsSplitOf old new x z at → (n : ℕ) → ShowsSame width old new n

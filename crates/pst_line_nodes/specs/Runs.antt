-- How runs end.
use Rattle.std.specs.Prelude.{◌≡◌, ℕ, suc, ◌<◌, true, false, List}
use Rattle.pst_base.specs.declared.shape.TypeShape.{TypeShape}
use Rattle.pst_line_nodes.specs.Contents.{Target}
use Rattle.pst_line_nodes.specs.Line.{Line, Covers, IsLive, IsLine, IsQuiet, IsStale, AreSegmentsInside, heap_at, load}

-- The run at t is published, and the newest stamp is the next one. It has the heap of t.
abbrev pub NextLaw : Type 0
NextLaw = (shape : List TypeShape) (t : ℕ) (w : Line) → IsLine shape t w → IsQuiet w t → IsLine shape (suc t) w × (heap_at shape w (suc t) ≡ heap_at shape w t) × (load shape w (suc t) ≡ load shape w t)

-- The records of a run that was undone are made no longer: each is one node with first stamp t, which holds no pointer,
-- and no pointer holds it. Nothing else changes.
pub record IsDropped (old new : Line) (t : ℕ) : Type 0 where
  pub count : new.count ≡ old.count
  pub home : (i : ℕ) → new.home i ≡ old.home i
  pub name : (i : ℕ) → new.name i ≡ old.name i
  pub ty : (i : ℕ) → new.ty i ≡ old.ty i
  pub first : (i : ℕ) → new.first i ≡ old.first i
  pub later : (i : ℕ) → new.later i ≡ old.later i
  pub stamped : (i : ℕ) → new.stamped i ≡ old.stamped i
  pub holds : (i g n : ℕ) → new.holds i g n ≡ old.holds i g n
  pub entry : (y s : ℕ) → new.entry y s ≡ old.entry y s
  pub fewer : (i : ℕ) → i < old.count → new.made i ≡ true → old.made i ≡ true
  pub whole : (i j : ℕ) → i < old.count → j < old.count → old.home i ≡ old.home j → new.made i ≡ new.made j
  pub young : (i : ℕ) → i < old.count → old.made i ≡ true → new.made i ≡ false → old.first i ≡ t
  pub from : (i g y : ℕ) → Covers old i t → old.holds i g t ≡ Target y → (new.made i ≡ true) × (new.made y ≡ true)
  pub root : new.made 0 ≡ true

abbrev pub DropLaw : Type 0
DropLaw = (shape : List TypeShape) (t : ℕ) (old new : Line) → IsLine shape t old → IsDropped old new t
    → IsLine shape t new × ((n : ℕ) → n < t → heap_at shape new n ≡ heap_at shape old n) × ((i n : ℕ) → n < t → IsLive old i n → IsLive new i n) × (load shape new t ≡ load shape old t)

-- a body that copies the full node and leaves a pointer to it breaks the rule on pointer segments
abbrev pub LeftBehindLaw : Type 0
LeftBehindLaw = (shape : List TypeShape) (t : ℕ) (w : Line) (i g : ℕ) → IsLine shape t w → IsStale w t i g → AreSegmentsInside w t → ⊥

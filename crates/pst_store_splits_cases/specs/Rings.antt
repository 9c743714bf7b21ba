-- What the tests keep of their ring.
use Rattle.pst_versions.specs.State.{State, Grows}

-- the two records of the ring are live at a place
pub record HasRing {P R : Type 0} (s : State P R) (a b : R) (at : P) : Type 0 where
  pub first : s.live at a
  pub second : s.live at b

-- nothing that was there goes, and a new place has what is live at another one
pub record IsStamped {P R : Type 0} (old : State P R) (from at : P) (new : State P R) : Type 0 where
  pub grows : Grows old new
  pub live : (r : R) → old.live from r → new.live at r

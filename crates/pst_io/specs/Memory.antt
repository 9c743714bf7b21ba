-- The source and the sink over memory, as a caller sees them.
use Rattle.std.specs.Prelude.{ℕ, ◌+◌, ◌-◌, ◌^◌, min, List, drop, take, ◌++◌, Result, Ok, Err}
use Rattle.pst_io.specs.declared.traits.Failed.{Failed}

-- the bytes left, how many a read gives at most, the numbers of the calls that fail, and how many calls and faults there were
pub record SourceState : Type 0 where
  pub left : List ℕ
  pub most : ℕ
  pub failing : List ℕ
  pub calls : ℕ
  pub faults : ℕ

-- the bytes taken, how many there may be, how many a write takes at most, and the same
pub record SinkState : Type 0 where
  pub taken : List ℕ
  pub room : ℕ
  pub most : ℕ
  pub failing : List ℕ
  pub calls : ℕ
  pub faults : ℕ

-- one more, up to the last number
abbrev pub one_more : ℕ → ℕ
one_more n = min (n + 1) (2 ^ 64 - 1)

-- after a read with this result
abbrev pub after_read : SourceState → Result ℕ Failed → SourceState
after_read s (Ok n) = record s { left = drop n s.left; calls = one_more s.calls }
after_read s (Err e) = record s { calls = one_more s.calls; faults = one_more s.faults }

-- after a write of this piece with this result
abbrev pub after_write : SinkState → List ℕ → Result ℕ Failed → SinkState
after_write s piece (Ok n) = record s { taken = s.taken ++ take n piece; calls = one_more s.calls }
after_write s piece (Err e) = record s { calls = one_more s.calls; faults = one_more s.faults }

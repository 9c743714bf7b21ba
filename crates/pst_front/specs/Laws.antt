-- The law of verdicts.
use Rattle.std.specs.Prelude.{◌≡◌, ℕ, List}
use Rattle.pst_front.specs.Verdict.{Verdict, Judged}

-- a text has at most one verdict
abbrev pub HasOneVerdict : List ℕ → Type 0
HasOneVerdict text = (v w : Verdict) → Judged text v → Judged text w → v ≡ w

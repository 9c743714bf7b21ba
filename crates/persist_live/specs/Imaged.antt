-- The image of a session.
use Rattle.std.specs.Prelude.{◌^◌, ℕ, List, Option, Some, None}
use Rattle.pst_program.specs.Sound.{CountsWithin}
use Rattle.pst_history.specs.Meaning.{Meaning}
use Rattle.pst_history.specs.History.{History, counts_of}
use Rattle.pst_cli_images.specs.Packing.{IsImage}
use Rattle.persist_live.specs.declared.live.Live.{Live}

-- the image of its store in a history, with its text; none where more was counted than an image can hold
abbrev pub IsImageOf : Live → Option (List ℕ) → Meaning → History → Type 0
IsImageOf l (Some image) m h = IsImage l.store l.text m.shape h image
IsImageOf l None m h = CountsWithin (counts_of m h) (2 ^ 50) → ⊥

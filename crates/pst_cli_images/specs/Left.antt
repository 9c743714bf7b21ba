-- What the script behind an image leaves, with the image of the store or without one.
use Rattle.std.specs.Prelude.{ℕ, ◌^◌, ◌⊎◌, List, drop, Option}
use Rattle.pst_program.specs.Sound.{CountsWithin}
use Rattle.pst_history.specs.Meaning.{Meaning}
use Rattle.pst_history.specs.History.{History, counts_of}
use Rattle.pst_history.specs.Direct.{direct}
use Rattle.pst_store_meaning.specs.Store.{Stored}
use Rattle.pst_front.specs.Pages.{routines_in}
use Rattle.pst_cli_images.specs.Packing.{IsImage}
use Rattle.pst_cli_images.specs.Resuming.{Resumed}
use Rattle.pst_cli_images.specs.declared.repacking.Left.{Left}
use Rattle.pst_cli_images.specs.declared.repacking.Left.TheVariants.{Image, TooMuch}
use Rattle.pst_cli_images.specs.Repacking.{CarriesBehind, BreaksBehind, left_behind}

-- the image of a store in a history, with a text; or more was counted than an image can hold
abbrev pub LeavesImage : Option Stored → (text : List ℕ) → Left → Meaning → History → Type 0
LeavesImage store text (Image image) m h = IsImage store text m.shape h image
LeavesImage store text TooMuch m h = CountsWithin (counts_of m h) (2 ^ 50) → ⊥

-- all lines behind an accepted image were carried out, and this is left
abbrev pub Leaves : Resumed → Option Stored → Left → (input : List ℕ) → Type 0
Leaves k store left input =
    (c : CarriesBehind k input) × LeavesImage store c.image.text left (direct (routines_in c.named)) (left_behind c.named c.image (drop c.len input))

-- there was no room: no image was accepted, or in a line, or for the next image
abbrev pub Lacks : Resumed → (input : List ℕ) → Type 0
Lacks k input = k.untouched ⊎ (BreaksBehind k input ⊎ CarriesBehind k input)

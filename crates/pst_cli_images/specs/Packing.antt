-- The image of the store that a script leaves. The script is carried out as for `run` and no reply is written; then the image is.
use Rattle.std.specs.Prelude.{◌≡◌, ℕ, List, Option, Some, None, Result, Ok, Err}
use Rattle.pst_base.specs.declared.shape.TypeShape.{TypeShape}
use Rattle.pst_notation.specs.Canonical.{canonical}
use Rattle.pst_io.specs.Input.{InputState}
use Rattle.pst_io.specs.Lines.{LinesState}
use Rattle.pst_history.specs.Meaning.{Meaning}
use Rattle.pst_history.specs.History.{History, next_run}
use Rattle.pst_history.specs.Direct.{direct}
use Rattle.pst_store_meaning.specs.declared.place.Place.{Place}
use Rattle.pst_store_meaning.specs.Store.{Stored, begin_of, state_of}
use Rattle.pst_cli_words.specs.declared.status.Status.{Status}
use Rattle.pst_cli_scripts.specs.declared.stop.Stop.{Stop}
use Rattle.pst_cli_scripts.specs.Pieces.{IsPartOf}
use Rattle.pst_cli_scripts.specs.Script.{by_tree}
use Rattle.pst_cli_scripts.specs.Kept.{Kept, history_after}
use Rattle.pst_front.specs.Pages.{routines_in}
use Rattle.pst_front.specs.Verdict.{Verdict, Accepted, Refused}
use Rattle.pst_cli_serving.specs.Held.{run_in}
use Rattle.pst_cli_questions.specs.Asking.{GivesAll, StopsAsking, OverRow, Over}
use Rattle.pst_image_form.specs.Bytes.{Fits, image_bytes}
use Rattle.pst_image_rules.specs.Rules.{IsJudged}
use Rattle.pst_image_meaning.specs.Parts.{parts_of}
use Rattle.pst_image_meaning.specs.Denoted.{heap_in}

-- The image of a store in a history, with a text: each number fits, the rules hold for this shape, and where a place begins its nodes
-- denote the heap that the store has there.
pub record IsImage (store : Option Stored) (text : List ℕ) (shape : List TypeShape) (h : History) (image : List ℕ) : Type 0 where
  pub there : Stored
  pub is : store ≡ Some there
  pub bytes : image ≡ image_bytes (parts_of there text (next_run h) h.budget)
  pub fits : Fits (parts_of there text (next_run h) h.budget)
  pub rules : IsJudged shape (parts_of there text (next_run h) h.budget) None
  pub denotes : (p : Place) → heap_in shape (parts_of there text (next_run h) h.budget) (begin_of there p) ≡ (state_of there).heap p

-- these lines were carried out, and so much is written of the image with the program's canonical text
abbrev pub Packs : Kept → Option Stored → (List ℕ → List ℕ → Type 0) → List (List ℕ) → Verdict → List ℕ → Type 0
Packs k store Much lines (Accepted syntax named) out =
    let m = direct (routines_in named) in
    k.leaves m lines × ((image : List ℕ) × IsImage store (canonical syntax) named.shape (history_after by_tree m lines) image × Much image out)
Packs k store Much lines (Refused fault) out = ⊥

-- all of it, or a proper part
abbrev pub PacksWhole : Kept → Option Stored → List (List ℕ) → Verdict → List ℕ → Type 0
PacksWhole k store lines verdict out = Packs k store (λ image written. written ≡ image) lines verdict out

abbrev pub PacksInPart : Kept → Option Stored → List (List ℕ) → Verdict → List ℕ → Type 0
PacksInPart k store lines verdict out = Packs k store IsPartOf lines verdict out

-- The row of a status, for what is held, the store, an input, what the source has left of it, and what was written.
abbrev pub PackRow : Status → Kept → Option Stored → List ℕ → Option (List ℕ) → List ℕ → Type 0
PackRow status k store input left out = OverRow status k (PacksWhole k store) (PacksInPart k store) input left out

-- ---- what the functions below come to

-- what comes of the script of a program with this meaning: an image behind the last line
abbrev pub Images : Kept → Option Stored → Meaning → (text : List ℕ) → Result (List ℕ) Stop → InputState → Option (List ℕ) → InputState → Option (List ℕ) → Type 0
Images k store m text (Ok image) a left b left' =
    (lines : List (List ℕ)) × GivesAll a left b left' lines × k.leaves m lines × IsImage store text m.shape (history_after by_tree m lines) image
Images k store m text (Err s) a left b left' = StopsAsking k.untouched (k.leaves m) (k.breaks m) s a left b left'

-- so it is for the store, as it was and is, and for a reader of lines and its source
abbrev pub ImagesScript : {S : Type 0} → (old new : Option Stored) → Meaning → (text : List ℕ) → Result (List ℕ) Stop
    → (left : S → Option (List ℕ)) → LinesState → S → LinesState → S → Type 0
ImagesScript old new m text result left lines source lines' source' =
    Images (run_in old new) new m text result lines.input (left source) lines'.input (left source')

-- what comes of the text of a program, for the store, as it was and is, and for a reader of lines and its source
abbrev pub PacksScript : {S : Type 0} → Status → (old new : Option Stored) → (left : S → Option (List ℕ)) → LinesState → S → LinesState → S → (text out : List ℕ) → Type 0
PacksScript status old new left lines source lines' source' text out =
    let k = run_in old new in
    Over status k (PacksWhole k new) (PacksInPart k new) lines.input (left source) lines'.input (left source') text out

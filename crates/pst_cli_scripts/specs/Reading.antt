-- How reading the lines of an input goes on and stops.
use Rattle.std.specs.Prelude.{◌≡◌, ℕ, ◌<◌, ◌⊎◌, List, [], ◌∷◌, ◌++◌, ⊤, Option, Some, None, length}
use Rattle.std.specs.Io.KnownBytes.{Consumes, IsAtEnd}
use Rattle.pst_io.specs.declared.room.TheConstants.{MOST_READ}
use Rattle.pst_io.specs.declared.fault.LinesFault.{LinesFault}
use Rattle.pst_io.specs.declared.fault.LinesFault.TheVariants as fault
use Rattle.pst_io.specs.Text.{lines_of}
use Rattle.pst_io.specs.Input.{InputState, Hands, Gives, IsOver, IsCutOff, bytes_read, pending}
use Rattle.pst_cli_scripts.specs.declared.stop.Stop.{Stop}
use Rattle.pst_cli_scripts.specs.declared.stop.Stop.TheVariants.{Read, Write, TooLong, Memory}
use Rattle.pst_cli_scripts.specs.Input.{cut, cut_of}

-- why it stopped, from why a reader of lines did
abbrev pub stop_of : LinesFault → Stop
stop_of fault.Failed = Read
stop_of fault.TooLong = TooLong
stop_of fault.Memory = Memory

-- Between the two states these lines were handed out, and then one byte more came than may be read.
pub record GivesPast (a : InputState) (left : Option (List ℕ)) (b : InputState) (left' : Option (List ℕ)) (lines : List (List ℕ)) : Type 0 where
  pub before : Option (List ℕ)
  pub more : ℕ
  pub gives : Gives a left b before lines
  pub past : Consumes before left' (more ∷ [])
  pub full : bytes_read b ≡ b.most

-- less than one read is held beyond what was handed out
abbrev pub IsNear : InputState → Type 0
IsNear a = length a.held < MOST_READ

-- These lines were handed out until it stopped: where it did at a read, there was no further whole line, and elsewhere
-- less than one read is held beyond them.
abbrev pub GivesUntil : Stop → InputState → Option (List ℕ) → InputState → Option (List ℕ) → List (List ℕ) → Type 0
GivesUntil Read a left b left' lines = Gives a left b left' lines × IsCutOff b
GivesUntil TooLong a left b left' lines = GivesPast a left b left' lines × IsCutOff b
GivesUntil Write a left b left' lines = Gives a left b left' lines × IsNear b
GivesUntil Memory a left b left' lines = Gives a left b left' lines × (IsCutOff b ⊎ IsNear b)

-- where the source tells its bytes, what was pending is cut so, and what is pending now are the lines of the script
abbrev pub IsTextOf : Option (List ℕ) → Option (List ℕ) → (text separator : List ℕ) → Type 0
IsTextOf None after text separator = ⊤
IsTextOf (Some input) None text separator = ⊥
IsTextOf (Some input) (Some rest) text separator = cut_of input ≡ record { text = text; separator = separator; script = lines_of rest }

-- The text of the program was read. The last line was the separator line, or all of the input was handed out.
pub record ReadsText (a : InputState) (left : Option (List ℕ)) (b : InputState) (left' : Option (List ℕ)) (text : List ℕ) : Type 0 where
  pub lines : List (List ℕ)
  pub separator : List ℕ
  pub gives : Gives a left b left' lines
  pub told : IsTextOf (pending a left) (pending b left') text separator
  pub found : IsOver b ⊎ ((more : List (List ℕ)) → cut (lines ++ more) ≡ Some (record { text = text; separator = separator; script = more }))
  pub near : IsNear b

-- between the two states all of the input was handed out, and these are its bytes
abbrev pub HandsAll : InputState → Option (List ℕ) → InputState → Option (List ℕ) → List ℕ → Type 0
HandsAll a left b left' bytes = Hands a left b left' bytes × IsOver b × IsAtEnd left'

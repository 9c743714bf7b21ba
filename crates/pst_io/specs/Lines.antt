-- A reader of lines as a caller sees it.
use Rattle.std.specs.Prelude.{◌≡◌, ◌≢◌, ℕ, ◌-◌, ◌<◌, ◌≤◌, max, Bool, true, false, List, [], ◌∷◌, length, Result, Ok, Err}
use Rattle.std.specs.Io.KnownBytes.{IsAtEnd}
use Rattle.std.specs.declared.option.Option.{Option}
use Rattle.pst_io.specs.declared.fault.LinesFault.{LinesFault}
use Rattle.pst_io.specs.declared.fault.LinesFault.TheVariants.{TooLong}
use Rattle.pst_io.specs.declared.room.TheConstants.{MOST_INPUT, MOST_READ}
use Rattle.pst_io.specs.Text.{line_text, whole_lines}
use Rattle.pst_io.specs.Input.{InputState, Hands, Gives, Reads, ReadsPast, EndsWhereSeen, IsOver, IsCutOff, pending}

-- The input, whether a line is ready, which, whether a line feed ended it, and whether the reader has failed.
pub record LinesState : Type 0 where
  pub input : InputState
  pub ready : Bool
  pub line : List ℕ
  pub fed : Bool
  pub failed : Bool

-- nothing was read yet, and so many bytes may be
abbrev pub unread : ℕ → LinesState
unread most = record {
  input = record { handed = 0; held = []; ended = false; most = most };
  ready = false;
  line = [];
  fed = false;
  failed = false;
}

-- nothing was read yet, and 67,108,864 bytes may be
abbrev pub not_begun : LinesState
not_begun = unread MOST_INPUT

-- a reader that may be asked for the next line of what this source has left
pub record IsOpen (s : LinesState) (left : Option (List ℕ)) : Type 0 where
  pub going : s.failed ≡ false
  pub seen : EndsWhereSeen s.input left

-- ---- going on to the next line

-- a line was handed out; less than one read is held behind it, or no more than was held before
pub record ToLine (s : LinesState) (left : Option (List ℕ)) (t : LinesState) (left' : Option (List ℕ)) : Type 0 where
  pub text : Hands s.input left t.input left' (line_text t.line t.fed)
  pub gives : Gives s.input left t.input left' (t.line ∷ [])
  pub no_feed : whole_lines t.line ≡ []
  pub last : t.fed ≡ false → (t.line ≢ []) × IsOver t.input
  pub ahead : length t.input.held ≤ max (length s.input.held) (MOST_READ - 1)
  pub goes_on : s.input.handed < t.input.handed
  pub opened : IsOpen t left'
  pub ready : t.ready ≡ true

-- the input was at its end
pub record ToEnd (s : LinesState) (left : Option (List ℕ)) (t : LinesState) (left' : Option (List ℕ)) : Type 0 where
  pub reads : Reads s.input left t.input left'
  pub over : IsOver t.input
  pub nothing : IsAtEnd (pending s.input left)
  pub opened : IsOpen t left'
  pub ready : t.ready ≡ false

-- there is no whole line, and no more was read
pub record ToFault (fault : LinesFault) (s : LinesState) (left : Option (List ℕ)) (t : LinesState) (left' : Option (List ℕ)) : Type 0 where
  pub cut_off : IsCutOff t.input
  pub reads : (fault ≡ TooLong → ⊥) → Reads s.input left t.input left'
  pub past : fault ≡ TooLong → ReadsPast s.input left t.input left'
  pub failed : t.failed ≡ true
  pub ready : t.ready ≡ false

-- what comes of it
abbrev pub GoesOn : Result Bool LinesFault → LinesState → Option (List ℕ) → LinesState → Option (List ℕ) → Type 0
GoesOn (Ok true) s left t left' = ToLine s left t left'
GoesOn (Ok false) s left t left' = ToEnd s left t left'
GoesOn (Err fault) s left t left' = ToFault fault s left t left'

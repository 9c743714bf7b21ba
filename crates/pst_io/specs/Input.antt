-- An input that is read piece by piece and handed out line by line.
use Rattle.std.specs.Prelude.{◌≡◌, ◌≢◌, ℕ, ◌+◌, ◌⊎◌, Bool, false, List, [], ◌++◌, ◌∷◌, length, drop, IsTrue, ⊤, None, Some}
use Rattle.std.specs.Io.KnownBytes.{Consumes, IsAtEnd, prepend_known}
use Rattle.std.specs.declared.option.Option.{Option}
use Rattle.pst_io.specs.Text.{lines_of, whole_lines}

-- How many bytes were handed out, which were read beyond these, whether the end of the input was seen, and how many may be read.
pub record InputState : Type 0 where
  pub handed : ℕ
  pub held : List ℕ
  pub ended : Bool
  pub most : ℕ

-- how many bytes were read
abbrev pub bytes_read : InputState → ℕ
bytes_read a = a.handed + length a.held

-- after so many more bytes were handed out
abbrev pub skipped : ℕ → InputState → InputState
skipped n a = record { handed = a.handed + n; held = drop n a.held; ended = a.ended; most = a.most }

-- where the end of the input was seen, the source has nothing left
abbrev pub EndsWhereSeen : InputState → Option (List ℕ) → Type 0
EndsWhereSeen a left = IsTrue a.ended → IsAtEnd left

-- all of the input was handed out
abbrev pub IsOver : InputState → Type 0
IsOver a = (a.held ≡ []) × IsTrue a.ended

-- no read is due, since a whole line is held or the end was seen
abbrev pub NeedsNoRead : InputState → Type 0
NeedsNoRead a = (whole_lines a.held ≢ []) ⊎ IsTrue a.ended

-- a read was due, and did not come
abbrev pub IsCutOff : InputState → Type 0
IsCutOff a = (whole_lines a.held ≡ []) × (a.ended ≡ false)

-- what is still to be handed out, where the source tells what it has left
abbrev pub pending : InputState → Option (List ℕ) → Option (List ℕ)
pending a left = prepend_known a.held left

-- Between two states some bytes were read and this text was handed out: no byte is lost, and none comes twice. As many may be read as before.
pub record Hands (a : InputState) (left : Option (List ℕ)) (b : InputState) (left' : Option (List ℕ)) (text : List ℕ) : Type 0 where
  pub bytes : List ℕ
  pub consumed : Consumes left left' bytes
  pub kept : a.held ++ bytes ≡ text ++ b.held
  pub counted : b.handed ≡ a.handed + length text
  pub limit : b.most ≡ a.most

-- these lines are the next ones of what was pending, where that is told
abbrev pub AreNextLines : Option (List ℕ) → Option (List ℕ) → List (List ℕ) → Type 0
AreNextLines None after lines = ⊤
AreNextLines (Some bytes) None lines = ⊥
AreNextLines (Some bytes) (Some rest) lines = lines_of bytes ≡ lines ++ lines_of rest

-- Between two states these lines were handed out. Unless the end was seen, they are the next whole ones whatever bytes are still to come.
pub record Gives (a : InputState) (left : Option (List ℕ)) (b : InputState) (left' : Option (List ℕ)) (lines : List (List ℕ)) : Type 0 where
  pub text : List ℕ
  pub hands : Hands a left b left' text
  pub told : AreNextLines (pending a left) (pending b left') lines
  pub whole : b.ended ≡ false → (more : List ℕ) → whole_lines ((a.held ++ hands.bytes) ++ more) ≡ lines ++ whole_lines (b.held ++ more)
  pub still : IsTrue a.ended → IsTrue b.ended

-- between two states bytes were read, and nothing was handed out
pub record Reads (a : InputState) (left : Option (List ℕ)) (b : InputState) (left' : Option (List ℕ)) : Type 0 where
  pub hands : Hands a left b left' []
  pub gives : Gives a left b left' []

-- the same, and then one byte more came than may be read
pub record ReadsPast (a : InputState) (left : Option (List ℕ)) (b : InputState) (left' : Option (List ℕ)) : Type 0 where
  pub before : Option (List ℕ)
  pub more : ℕ
  pub reads : Reads a left b before
  pub past : Consumes before left' (more ∷ [])
  pub full : bytes_read b ≡ b.most

-- Between two states bytes were read, and some were handed out to the end of a text.
pub record HandsTo (a : InputState) (left : Option (List ℕ)) (b : InputState) (left' : Option (List ℕ)) (old new : List ℕ) : Type 0 where
  pub given : List ℕ
  pub hands : Hands a left b left' given
  pub text : new ≡ old ++ given

-- the same, and then one byte more came than may be read
pub record HandsPast (a : InputState) (left : Option (List ℕ)) (b : InputState) (left' : Option (List ℕ)) (old new : List ℕ) : Type 0 where
  pub before : Option (List ℕ)
  pub more : ℕ
  pub hands : HandsTo a left b before old new
  pub past : Consumes before left' (more ∷ [])
  pub full : bytes_read b ≡ b.most

-- The pieces that answer the lines of a script, and how far they are written.
use Rattle.std.specs.Prelude.{◌≡◌, ℕ, ◌<◌, ◌⊎◌, List, [], ◌∷◌, ◌++◌, Option, Some, length, take}
use Rattle.std.specs.List.{concat}
use Rattle.std.specs.Option.{option_to_list}

-- What answers lines: in each state a line has a reply or none, and there is a next state.
pub record Answering (A : Type 0) : Type 0 where
  pub reply : A → List ℕ → Option (List ℕ)
  pub next : A → List ℕ → A

-- the replies to the lines in order, each in the state so far
abbrev pub pieces_from : {A : Type 0} → Answering A → A → List (List ℕ) → List (List ℕ)
pieces_from m a [] = []
pieces_from m a (line ∷ lines) = option_to_list (m.reply a line) ++ pieces_from m (m.next a line) lines

-- the state after the lines
abbrev pub state_after : {A : Type 0} → Answering A → A → List (List ℕ) → A
state_after m a [] = a
state_after m a (line ∷ lines) = state_after m (m.next a line) lines

-- all the pieces, one behind the other
abbrev pub IsAll : List (List ℕ) → List ℕ → Type 0
IsAll pieces out = out ≡ concat pieces

-- a proper part of a piece
abbrev pub IsPartOf : List ℕ → List ℕ → Type 0
IsPartOf piece out = (n : ℕ) × (n < length piece) × (out ≡ take n piece)

-- All lines but the last are answered, and a proper part of the reply to the last is written.
pub record StopsInReply {A : Type 0} (m : Answering A) (a : A) (lines : List (List ℕ)) (out : List ℕ) : Type 0 where
  pub before : List (List ℕ)
  pub last : List ℕ
  pub piece : List ℕ
  pub part : List ℕ
  pub split : lines ≡ before ++ last ∷ []
  pub reply : m.reply (state_after m a before) last ≡ Some piece
  pub proper : IsPartOf piece part
  pub bytes : out ≡ concat (pieces_from m a before) ++ part

-- All lines but the last are answered, and nothing of the reply to the last is written.
pub record StopsBeforeReply {A : Type 0} (m : Answering A) (a : A) (lines : List (List ℕ)) (out : List ℕ) : Type 0 where
  pub before : List (List ℕ)
  pub last : List ℕ
  pub split : lines ≡ before ++ last ∷ []
  pub bytes : out ≡ concat (pieces_from m a before)

-- There was no room in the last of the lines: this holds of the state before that line, or of the one after it.
pub record BreaksIn {A : Type 0} (m : Answering A) (a : A) (P : A → Type 0) (lines : List (List ℕ)) : Type 0 where
  pub before : List (List ℕ)
  pub last : List ℕ
  pub split : lines ≡ before ++ last ∷ []
  pub state : P (state_after m a before) ⊎ P (state_after m a lines)

-- This holds of the state after some first ones of the lines.
pub record AfterSome {A : Type 0} (m : Answering A) (a : A) (P : A → Type 0) (lines : List (List ℕ)) : Type 0 where
  pub given : List (List ℕ)
  pub behind : List (List ℕ)
  pub first : lines ≡ given ++ behind
  pub state : P (state_after m a given)

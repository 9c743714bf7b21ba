-- A list in pieces, and where each piece starts in it.
use Rattle.std.specs.Prelude.{◌≡◌, ℕ, suc, ◌+◌, ◌<◌, ◌≤◌, ◌^◌, vec_capacity, List, [], ◌∷◌, length, get_or, take, drop, set, insert, All}
use Rattle.std.specs.List.{concat}
use Rattle.std.specs.declared.vec.Vec.{Vec}
use Rattle.std.specs.declared.alloc.Global.{Global}

-- What a list in pieces holds, how many empty pieces it has, and where each of the others starts.
pub record Held : Type 0 where
  pub nodes : List ℕ
  pub spare : ℕ
  pub starts : List ℕ

-- where each piece starts, from a number on: each one at the end of the piece before it
abbrev pub starts_from : ℕ → List (List ℕ) → List ℕ
starts_from n [] = []
starts_from n (piece ∷ pieces) = n ∷ starts_from (n + length piece) pieces

-- A piece has something in it, and at most 1024.
pub record IsPiece (piece : List ℕ) : Type 0 where
  pub some : 0 < length piece
  pub most : length piece ≤ 1024

-- Pieces, with the starts of them, and room for each empty piece.
pub record AreCut (pieces : Vec (List ℕ) Global) (starts : Vec ℕ Global) (pool : Vec (List ℕ) Global) : Type 0 where
  pub each : All IsPiece pieces.items
  pub starts_are : starts.items ≡ starts_from 0 pieces.items
  pub empty : All (λ piece. piece ≡ []) pool.items
  pub few : length pieces.items + length pool.items ≤ 2 ^ 48
  pub pieces_room : length pieces.items + length pool.items ≤ vec_capacity pieces
  pub starts_room : length starts.items + length pool.items ≤ vec_capacity starts

-- The same, with the count of all that is in them.
pub record ArePieces (pieces : Vec (List ℕ) Global) (starts : Vec ℕ Global) (pool : Vec (List ℕ) Global) (count : ℕ) : Type 0 where
  pub cut : AreCut pieces starts pool
  pub counted : count ≡ length (concat pieces.items)

-- The first piece does not start behind an index.
pub record IsStartBefore (starts : List ℕ) (index : ℕ) : Type 0 where
  pub some : 0 < length starts
  pub first : get_or starts 0 0 ≤ index

-- A piece is the last one that does not start behind an index.
pub record IsPieceAt (starts : List ℕ) (index at : ℕ) : Type 0 where
  pub there : at < length starts
  pub early : get_or starts at 0 ≤ index
  pub late : (k : ℕ) → at < k → k < length starts → index < get_or starts k 0

-- An index falls into a piece.
pub record FallsInto (pieces : List (List ℕ)) (starts : List ℕ) (index at : ℕ) : Type 0 where
  pub there : at < length pieces
  pub early : get_or starts at 0 ≤ index
  pub within : index < get_or starts at 0 + length (get_or pieces at [])

-- the pieces with a full one cut in two
abbrev pub halved : List (List ℕ) → ℕ → List (List ℕ)
halved pieces at = insert (set pieces at (take 512 (get_or pieces at []))) (suc at) (drop 512 (get_or pieces at []))

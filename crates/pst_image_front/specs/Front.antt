-- How many bytes the sizes at the front of bytes promise.
use Rattle.std.specs.Prelude.{◌≡◌, ℕ, zero, suc, ◌+◌, ◌*◌, ◌<◌, ◌≤◌, ◌⊎◌, Bool, true, false, List, [], ◌++◌, length, take, drop, nat_lt, if◌then◌else◌}
use Rattle.std.specs.Prelude.{Option, Some, None, Result, Ok, Err, IfErr, OnOk}
use Rattle.std.specs.Int.{w64, from_be_bytes}
use Rattle.std.specs.Str.{bytes_eq}
use Rattle.pst_io.specs.declared.fault.LinesFault.{LinesFault}
use Rattle.pst_io.specs.declared.fault.LinesFault.TheVariants as fault
use Rattle.pst_io.specs.declared.room.TheConstants.{MOST_READ, MOST_SERVED}
use Rattle.pst_io.specs.Input.{HandsTo, HandsPast, bytes_read}
use Rattle.pst_io.specs.Lines.{LinesState, IsOpen}
use Rattle.pst_image_form.specs.declared.parts.ImageParts.{ImageParts}
use Rattle.pst_image_form.specs.Bytes.{HasForm, magic}

-- how many bytes are promised from here on, by the bytes that are there
abbrev pub Promise : Type 0
Promise = List ℕ → ℕ

-- nothing
abbrev pub nothing : Promise
nothing bytes = 0

-- so many bytes, and behind them what these say; where they are not all there, no more than they
abbrev pub then_behind : ℕ → Promise → Promise
then_behind n behind bytes = if nat_lt (length bytes) n then n else n + behind (drop n bytes)

-- the number of eight bytes at the front
abbrev pub number_at : List ℕ → ℕ
number_at bytes = from_be_bytes w64 (take 8 bytes)

-- a number, and as many parts of this size as it says
abbrev pub counted : (size : ℕ) → Promise → Promise
counted size behind bytes = then_behind 8 (then_behind (number_at bytes * size) behind) bytes

-- a node: six numbers, its bases and its stamped values
abbrev pub node : Promise → Promise
node behind = then_behind 48 (counted 8 (counted 24 behind))

-- so many nodes
abbrev pub nodes : ℕ → Promise
nodes zero = nothing
nodes (suc n) = node (nodes n)

-- a number, and as many nodes as it says
abbrev pub counted_nodes : Promise
counted_nodes bytes = then_behind 8 (nodes (number_at bytes)) bytes

-- behind the bytes that each image begins with: the text, six numbers, the versions and the nodes
abbrev pub body : Promise
body = counted 1 (then_behind 48 (counted 32 counted_nodes))

-- what stands behind the first eight bytes, where each image begins with these
abbrev pub behind_magic : (first : List ℕ) → Promise
behind_magic first = if bytes_eq first magic then body else nothing

-- How many bytes the sizes at the front promise, as far as these are there. Bytes that do not begin as each image does promise eight.
unfoldable pub promised : Promise
promised bytes = then_behind 8 (behind_magic (take 8 bytes)) bytes

-- the sizes promise more than there is
abbrev pub IsShort : List ℕ → Type 0
IsShort bytes = length bytes < promised bytes

-- just the bytes that the sizes promise, whatever stands behind them; or all of the input, and the sizes promise more
abbrev pub IsFront : (Over : Type 0) → List ℕ → Type 0
IsFront Over bytes = ((more : List ℕ) → promised (bytes ++ more) ≡ length bytes) ⊎ (Over × IsShort bytes)

-- ---- the law

-- the sizes of an image promise just that image, whatever stands behind it
abbrev pub ImageIsPromised : Type 0
ImageIsPromised = (bytes : List ℕ) (p : ImageParts) (len : ℕ) → HasForm bytes p len → promised bytes ≡ len

-- ---- what the functions below come to

-- after these bytes the sizes promise what this says of the bytes to come
abbrev pub Promises : List ℕ → Promise → Type 0
Promises bytes behind = (more : List ℕ) → promised (bytes ++ more) ≡ length bytes + behind more

-- the sizes promise more than these bytes, whatever stands behind them
abbrev pub IsTooFew : List ℕ → Type 0
IsTooFew bytes = (more : List ℕ) → length bytes < promised (bytes ++ more)

-- a reader of lines that may be asked for more of a source, holds less than one read, and has at most the greatest limit
pub record IsReady (s : LinesState) (left : Option (List ℕ)) : Type 0 where
  pub opened : IsOpen s left
  pub near : length s.input.held < MOST_READ
  pub within : bytes_read s.input ≤ s.input.most
  pub served : s.input.most ≤ MOST_SERVED

-- Bytes were handed out to the end of a text, whatever is answered: where more came than may be read, that was one byte. After a fault
-- other than want of memory nothing is held.
pub record HandsOn {T : Type 0} (result : Result T LinesFault) (a : LinesState) (left : Option (List ℕ)) (b : LinesState) (left' : Option (List ℕ)) (old new : List ℕ) : Type 0 where
  pub hands : (result ≡ Err fault.TooLong → ⊥) → HandsTo a.input left b.input left' old new
  pub past : result ≡ Err fault.TooLong → HandsPast a.input left b.input left' old new
  pub ready : OnOk result (IsReady b left')
  pub piece : length b.input.held ≤ MOST_READ
  pub rest : IfErr result (λ f. (f ≡ fault.Memory → ⊥) → b.input.held ≡ [])
  pub within : bytes_read b.input ≤ b.input.most
  pub limit : b.input.most ≡ a.input.most

-- what was promised before, and what of it is promised still, by the answer: or the bytes are too few
abbrev pub Told : Result Bool LinesFault → (before still : Promise) → (old new : List ℕ) → Type 0
Told (Ok true) before still old new = Promises old before → Promises new still
Told (Ok false) before still old new = Promises old before → IsTooFew new
Told (Err f) before still old new = Promises old before → IsTooFew new

-- the same where a number stands at the front, by which more is promised
abbrev pub ToldNumber : Result (Option ℕ) LinesFault → (still : ℕ → Promise) → (old new : List ℕ) → Type 0
ToldNumber (Ok (Some n)) still old new = Promises old (λ bytes. then_behind 8 (still (number_at bytes)) bytes) → Promises new (still n)
ToldNumber (Ok None) still old new = Promises old (λ bytes. then_behind 8 (still (number_at bytes)) bytes) → IsTooFew new
ToldNumber (Err f) still old new = Promises old (λ bytes. then_behind 8 (still (number_at bytes)) bytes) → IsTooFew new

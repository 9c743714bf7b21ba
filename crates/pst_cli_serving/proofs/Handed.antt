-- What a reader with a limit has read of an input from its begin on, and what of it was handed out.
use Rattle.std.proofs.Common.{◌≡◌, ℕ, ◌+◌, ◌<◌, ◌≤◌, false, List, [], ◌∷◌, ◌++◌, length, take, drop, sym, ap, ◌∙◌, subst, arith, Option, Some, None}
use Rattle.std.proofs.Common.{append_assoc, length-append}
use Rattle.std.specs.Io.KnownBytes.{Consumes}
use Rattle.std.proofs.lemmas.List.{take_at, drop_at}
use Rattle.pst_io.specs.Input.{InputState, Hands, HandsTo, bytes_read}
use Rattle.pst_cli_serving.specs.Rows.{HasReadOf}

-- it has read nothing, and may read so many bytes
abbrev pub fresh : (limit : ℕ) → InputState
fresh limit = record { handed = 0; held = []; ended = false; most = limit }

module _ (limit : ℕ) (input rest text : List ℕ) (c : InputState) (h : Hands (fresh limit) (Some input) c (Some rest) text) where
  pub whole : input ≡ (text ++ c.held) ++ rest
  whole = h.consumed ∙ ap (λ (l : List ℕ). l ++ rest) h.kept

  pub size : length (text ++ c.held) ≡ bytes_read c
  size = omega (arith, length-append text c.held, h.counted)

  -- what is held and what is left stand behind the text
  pub behind_text : input ≡ text ++ (c.held ++ rest)
  behind_text = whole ∙ append_assoc text c.held rest

  pub taken : take (bytes_read c) input ≡ text ++ c.held
  taken = ap (take (bytes_read c)) whole ∙ take_at (text ++ c.held) rest (bytes_read c) size

  -- what was read, and what is left
  pub total : length input ≡ bytes_read c + length rest
  total = omega (arith, size, ap length whole, length-append (text ++ c.held) rest)

  pub has_read : bytes_read c ≤ limit → HasReadOf limit (bytes_read c) input (Some rest)
  has_read most = record {
    most = most;
    within = omega (arith, total);
    rest = ap (λ (l : List ℕ). Some l) (sym (ap (drop (bytes_read c)) whole ∙ drop_at (text ++ c.held) rest (bytes_read c) size));
  }

-- the same, where the source may tell nothing more
pub some_read : (limit : ℕ) (input text : List ℕ) (c : InputState) (left : Option (List ℕ)) → Hands (fresh limit) (Some input) c left text → bytes_read c ≤ limit
    → (n : ℕ) × HasReadOf limit n input left
some_read limit input text c None h most = absurd h.consumed
some_read limit input text c (Some rest) h most = (bytes_read c, has_read limit input rest text c h most)

-- the input has more bytes than may be read, and one of them was read
abbrev pub PastLimit : (limit : ℕ) → List ℕ → Option (List ℕ) → Type 0
PastLimit limit input left = (limit < length input) × (left ≡ Some (drop (limit + 1) input))

pub past_limit : (limit : ℕ) (input text : List ℕ) (c : InputState) (before left : Option (List ℕ)) (more : ℕ) → Hands (fresh limit) (Some input) c before text
    → Consumes before left (more ∷ []) → bytes_read c ≡ c.most → PastLimit limit input left
past_limit limit input text c None left more h past full = absurd h.consumed
past_limit limit input text c (Some rest) None more h past full = absurd past
past_limit limit input text c (Some rest) (Some after) more h past full =
    let seen = text ++ c.held in
    let front = seen ++ more ∷ [] in
    let split : input ≡ front ++ after =
    whole limit input rest text c h ∙ ap (λ (l : List ℕ). seen ++ l) past ∙ sym (append_assoc seen (more ∷ []) after) in
    let one_more : length front ≡ limit + 1 = omega (arith, size limit input rest text c h, full, h.limit, length-append seen (more ∷ [])) in (
      omega (arith, one_more, ap length split, length-append front after),
      ap (λ (l : List ℕ). Some l) (sym (ap (drop (limit + 1)) split ∙ drop_at front after (limit + 1) one_more)),
    )

-- what was handed out to the end of an empty text
pub from_empty : (a b : InputState) (left left' : Option (List ℕ)) (old bytes : List ℕ) → old ≡ [] → HandsTo a left b left' old bytes → Hands a left b left' bytes
from_empty a b left left' old bytes empty h =
    let same : h.given ≡ bytes = sym (h.text ∙ ap (λ (l : List ℕ). l ++ h.given) empty) in
    subst (λ (l : List ℕ). Hands a left b left' l) same h.hands

-- the same from the begin of the input on
pub begins : (limit : ℕ) (input bytes old : List ℕ) (a b : InputState) (left : Option (List ℕ)) → a ≡ fresh limit → old ≡ [] → HandsTo a (Some input) b left old bytes
    → Hands (fresh limit) (Some input) b left bytes
begins limit input bytes old a b left new empty h = subst (λ (v : InputState). Hands v (Some input) b left bytes) new (from_empty a b (Some input) left old bytes empty h)

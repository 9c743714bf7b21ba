-- The checks in a text. Each group ends with 16 letters that follow from the letters before it and its body.
use Rattle.std.specs.Prelude.{◌≡◌, ⊤, ℕ, ◌+◌, ◌%◌, List, [], ◌∷◌, ◌++◌, take, map}
use Rattle.sha2.specs.Sha256.{sha256}
use Rattle.pst_kept_text.specs.Text.{IsPlain}

-- six bits of each of the first 16 bytes of a digest, as letters from `0` to `o`
abbrev pub letter : ℕ → ℕ
letter b = 48 + b % 64

unfoldable pub letters : List ℕ → List ℕ
letters digest = map letter (take 16 digest)

-- the check of a body, behind another
abbrev pub check : List ℕ → List ℕ → List ℕ
check before body = letters (sha256 (before ++ body))

-- a group: a body, its check, and the end
abbrev pub sealed : List ℕ → List ℕ → List ℕ
sealed before body = body ++ check before body ++ 30 ∷ []

-- the text of bodies
abbrev pub text_of : List ℕ → List (List ℕ) → List ℕ
text_of before [] = []
text_of before (body ∷ bodies) = sealed before body ++ text_of (check before body) bodies

-- the last of its checks
abbrev pub last_check : List ℕ → List (List ℕ) → List ℕ
last_check before [] = before
last_check before (body ∷ bodies) = last_check (check before body) bodies

-- what the bodies say, one behind the other
abbrev pub said : List (List ℕ) → List ℕ
said [] = []
said (body ∷ bodies) = body ++ said bodies

abbrev pub ArePlain : List (List ℕ) → Type 0
ArePlain [] = ⊤
ArePlain (body ∷ bodies) = IsPlain body × ArePlain bodies

-- A text of these groups.
pub record IsSealed (first text commands last : List ℕ) : Type 0 where
  pub bodies : List (List ℕ)
  pub plain : ArePlain bodies
  pub text_is : text ≡ text_of first bodies
  pub commands_are : commands ≡ said bodies
  pub last_is : last ≡ last_check first bodies

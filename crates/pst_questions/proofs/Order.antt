-- The order of paths is strict and total, and goes on along one more slot.
use Rattle.std.proofs.Common.{◌≡◌, ◌⊎◌, ℕ, ◌+◌, ◌<◌, [], ◌∷◌, ◌++◌, length, refl, sym, ap, ◌∙◌, subst, arith, inl, inr}
use Rattle.std.proofs.lemmas.List.{length-append}
use Rattle.std.proofs.lemmas.Bool.{cases_lt}
use Rattle.pst_questions.specs.Paths.{Path, IsLower, IsBefore}

-- ---- lexicographic

IsLower-itself : (p : Path) → ¬ (IsLower p p)
IsLower-itself [] h = h
IsLower-itself (a ∷ p) h = elim h [ inl less ↦ absurd (omega arith) | inr e ↦ IsLower-itself p e.1 ]

IsLower-trans : (p q r : Path) → IsLower p q → IsLower q r → IsLower p r
IsLower-trans [] [] r h k = absurd h
IsLower-trans [] (b ∷ q) [] h k = absurd k
IsLower-trans [] (b ∷ q) (c ∷ r) h k = tt
IsLower-trans (a ∷ p) [] r h k = absurd h
IsLower-trans (a ∷ p) (b ∷ q) [] h k = absurd k
IsLower-trans (a ∷ p) (b ∷ q) (c ∷ r) h k = elim h [
  | inl less ↦ elim k [ inl less' ↦ inl (omega arith) | inr e ↦ inl (let same = e.0 in omega arith) ]
  | inr e ↦ elim k [ inl less' ↦ inl (let same = e.0 in omega arith) | inr e' ↦ inr (e.0 ∙ e'.0, IsLower-trans p q r e.1 e'.1) ]
]

three : (a b : ℕ) → (a ≡ b) ⊎ ((a < b) ⊎ (b < a))
three a b = elim (cases_lt a b) [ inl less ↦ inr (inl less) | inr le ↦ elim (cases_lt b a) [ inl more ↦ inr (inr more) | inr ge ↦ inl (omega arith) ] ]

IsLower-cases : (p q : Path) → (p ≡ q) ⊎ (IsLower p q ⊎ IsLower q p)
IsLower-cases [] [] = inl refl
IsLower-cases [] (b ∷ q) = inr (inl tt)
IsLower-cases (a ∷ p) [] = inr (inr tt)
IsLower-cases (a ∷ p) (b ∷ q) = elim (three a b) [
  | inl same ↦ elim (IsLower-cases p q) [
    | inl e ↦ inl (λ i. same i ∷ e i)
    | inr c ↦ elim c [ inl lower ↦ inr (inl (inr (same, lower))) | inr higher ↦ inr (inr (inr (sym same, higher))) ]
  ]
  | inr c ↦ elim c [ inl less ↦ inr (inl (inl less)) | inr more ↦ inr (inr (inl more)) ]
]

IsLower-extended : (p q : Path) (a b : ℕ) → length p ≡ length q → IsLower p q → IsLower (p ++ a ∷ []) (q ++ b ∷ [])
IsLower-extended [] [] a b e h = absurd h
IsLower-extended [] (d ∷ q) a b e h = absurd (omega arith)
IsLower-extended (c ∷ p) [] a b e h = absurd h
IsLower-extended (c ∷ p) (d ∷ q) a b e h = elim h [ inl less ↦ inl less | inr s ↦ inr (s.0, IsLower-extended p q a b (omega arith) s.1) ]

IsLower-next : (p : Path) (a b : ℕ) → a < b → IsLower (p ++ a ∷ []) (p ++ b ∷ [])
IsLower-next [] a b h = inl h
IsLower-next (c ∷ p) a b h = inr (refl, IsLower-next p a b h)

-- ---- shorter paths first

pub IsBefore-itself : (p : Path) → ¬ (IsBefore p p)
IsBefore-itself p h = elim h [ inl less ↦ omega arith | inr e ↦ IsLower-itself p e.1 ]

pub IsBefore-trans : (p q r : Path) → IsBefore p q → IsBefore q r → IsBefore p r
IsBefore-trans p q r h k = elim h [
  | inl less ↦ elim k [ inl less' ↦ inl (omega arith) | inr e ↦ inl (let same = e.0 in omega arith) ]
  | inr e ↦ elim k [ inl less' ↦ inl (let same = e.0 in omega arith) | inr e' ↦ inr (e.0 ∙ e'.0, IsLower-trans p q r e.1 e'.1) ]
]

pub IsBefore-cases : (p q : Path) → (p ≡ q) ⊎ (IsBefore p q ⊎ IsBefore q p)
IsBefore-cases p q = elim (three (length p) (length q)) [
  | inl same ↦ elim (IsLower-cases p q) [
    | inl e ↦ inl e
    | inr c ↦ elim c [ inl lower ↦ inr (inl (inr (same, lower))) | inr higher ↦ inr (inr (inr (sym same, higher))) ]
  ]
  | inr c ↦ elim c [ inl less ↦ inr (inl (inl less)) | inr more ↦ inr (inr (inl more)) ]
]

one_longer : (p : Path) (a : ℕ) → length (p ++ a ∷ []) ≡ length p + 1
one_longer p a = length-append p (a ∷ [])

-- the order of two paths is that of their extensions by any slots
pub IsBefore-extended : (p q : Path) (a b : ℕ) → IsBefore p q → IsBefore (p ++ a ∷ []) (q ++ b ∷ [])
IsBefore-extended p q a b h = elim h [
  | inl less ↦ inl (omega (arith, one_longer p a, one_longer q b))
  | inr e ↦ inr (one_longer p a ∙ ap (λ n. n + 1) e.0 ∙ sym (one_longer q b), IsLower-extended p q a b e.0 e.1)
]

-- the extensions of one path are in the order of the slots
pub IsBefore-next : (p : Path) (a b : ℕ) → a < b → IsBefore (p ++ a ∷ []) (p ++ b ∷ [])
IsBefore-next p a b h = inr (one_longer p a ∙ sym (one_longer p b), IsLower-next p a b h)

-- ---- up to a path

-- the first path is the second one, or comes before it
abbrev pub IsUpTo : Path → Path → Type 0
IsUpTo p q = (p ≡ q) ⊎ IsBefore p q

pub IsUpTo-trans : (p q r : Path) → IsUpTo p q → IsUpTo q r → IsUpTo p r
IsUpTo-trans p q r h k = elim h [
  | inl e ↦ subst (λ (x : Path). IsUpTo x r) (sym e) k
  | inr before ↦ elim k [ inl e ↦ inr (subst (IsBefore p) e before) | inr after ↦ inr (IsBefore-trans p q r before after) ]
]

pub IsUpTo-extended : (p q : Path) (a : ℕ) → IsUpTo p q → IsUpTo (p ++ a ∷ []) (q ++ a ∷ [])
IsUpTo-extended p q a h = elim h [ inl e ↦ inl (ap (λ (x : Path). x ++ a ∷ []) e) | inr before ↦ inr (IsBefore-extended p q a a before) ]

pub IsUpTo-not_after : (p q : Path) → IsUpTo p q → ¬ (IsBefore q p)
IsUpTo-not_after p q h after = elim h [
  | inl e ↦ IsBefore-itself p (subst (λ (x : Path). IsBefore x p) (sym e) after)
  | inr before ↦ IsBefore-itself p (IsBefore-trans p q p before after)
]

-- Lemmas on tokens in a row.
use Rattle.std.specs.Prelude.{◌≡◌, ℕ, ◌+◌, ◌≤◌, ◌<◌, true, false, List, [], ◌∷◌, ◌++◌, length, Some, take, drop, ◌==◌, Ok, Err}
use Rattle.std.proofs.Common.{refl, sym, ap, ◌∙◌, arith, drop-cons, length-take, length-drop, inl, inr}
use Rattle.std.proofs.lemmas.Bool.Decides.{nat_tests}
use Rattle.std.proofs.lemmas.List.{take-append-drop, take_all}
use Rattle.pst_lex.specs.declared.types.Token.{Token}
use Rattle.pst_lex.specs.declared.types.TokenKind.{TokenKind}
use Rattle.pst_lex.specs.declared.faults.LexFault.{LexFault}
use Rattle.pst_lex.specs.Bytes.{gap, feeds}
use Rattle.pst_lex.specs.Lexing.{LexedTo, EndsAt, FaultsAt}
use Rattle.pst_lex.specs.Pieces.{Skips, Takes}

pub lexed-append : (End : List ℕ → ℕ → ℕ → Type 0) (text rest : List ℕ) (a l at line : ℕ) (ts us : List Token) →
    LexedTo (λ r x y. (r ≡ rest) × (x ≡ at) × (y ≡ line)) text a l ts → LexedTo End rest at line us → LexedTo End text a l (ts ++ us)
lexed-append End text rest a l at line [] us (e, e', e'') h = rw (e, e', e'') h
lexed-append End text rest a l at line (t ∷ ts) us (blank, w, rest', is, g, tok, f, to, ln, more) h =
    (blank, w, rest', is, g, tok, f, to, ln, lexed-append End rest' rest _ _ at line ts us more h)

pub lexed_ends : (End : List ℕ → ℕ → ℕ → Type 0) (text rest : List ℕ) (a l at line : ℕ) (ts : List Token) →
    LexedTo (λ r x y. (r ≡ rest) × (x ≡ at) × (y ≡ line)) text a l ts → End rest at line → LexedTo End text a l ts
lexed_ends End text rest a l at line [] (e, e', e'') h = rw (e, e', e'') h
lexed_ends End text rest a l at line (t ∷ ts) (blank, w, rest', is, g, tok, f, to, ln, more) h =
    (blank, w, rest', is, g, tok, f, to, ln, lexed_ends End rest' rest _ _ at line ts more h)

-- a byte that is not allowed in a comment
pub skip_fault : (rest : List ℕ) (at line : ℕ) (f : LexFault) → Skips (Err f) rest line → FaultsAt f rest at line
skip_fault rest at line f (n, lt, g, bad, e) =
    rw e (take n rest, drop n rest, true, sym (take-append-drop n rest), g, rw (drop-cons rest n 0 lt) bad, refl)

gap_closed : (rest : List ℕ) (n l line : ℕ) → Skips (Ok (n, l)) rest line → n < length rest → gap false (take n rest) ≡ Some false
gap_closed rest n l line (le, e, (inside, g, or)) lt = elim or [ inl all ↦ absurd (omega arith) | inr p ↦ g ∙ ap Some p.0 ]

-- a fault in a token's place
pub take_fault : (rest : List ℕ) (at line n l : ℕ) (f : LexFault) → Skips (Ok (n, l)) rest line → n < length rest → Takes (Err f) (drop n rest) l → FaultsAt f rest at line
take_fault rest at line n l f skips lt (bad, e) = (take n rest, drop n rest, false, sym (take-append-drop n rest), gap_closed rest n l line skips lt, bad, e ∙ skips.1)

-- a token
pub take_token : (rest : List ℕ) (at line n l k : ℕ) (kind : TokenKind) → Skips (Ok (n, l)) rest line → n < length rest → Takes (Ok (kind, k)) (drop n rest) l →
    LexedTo (λ r a i. (r ≡ drop k (drop n rest)) × (a ≡ at + n + k) × (i ≡ l)) rest at line (record { kind = kind; span = record { from = at + n; to = at + n + k }; line = l } ∷ [])
take_token rest at line n l k kind skips lt (le, pos, tok) =
    let long : length (take n rest) ≡ n = simp length-take (omega arith) in
    let long' : length (take k (drop n rest)) ≡ k = simp length-take (omega arith) in (
      take n rest,
      take k (drop n rest),
      drop k (drop n rest),
      sym (ap (λ x. take n rest ++ x) (take-append-drop k (drop n rest)) ∙ take-append-drop n rest),
      gap_closed rest n l line skips lt,
      tok,
      omega arith,
      omega arith,
      skips.1,
      (refl, omega arith, sym skips.1),
    )

-- the gap goes up to the end
pub skip_end : (rest : List ℕ) (at line n l : ℕ) → Skips (Ok (n, l)) rest line → length (drop n rest) ≡ 0 → EndsAt l rest at line
skip_end rest at line n l (le, e, (inside, g, or)) none =
    let all : length rest ≤ n = omega (arith, length-drop n rest) in
    let same : take n rest ≡ rest = take_all n rest all in
    (inside, ap (gap false) (sym same) ∙ g, e ∙ ap (λ x. line + feeds x) same)

pub none_left : (rest : List ℕ) → length rest ≡ 0 → rest ≡ []
none_left [] e = refl
none_left (b ∷ rest) e = absurd (omega arith)

pub zero_test : (n : ℕ) → true ≡ (n == 0) → n ≡ 0
zero_test n e = grind (arith, nat_tests)

pub more_test : (n : ℕ) → false ≡ (n == 0) → 0 < n
more_test n e = grind (arith, nat_tests)

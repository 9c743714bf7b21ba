-- Tokens and faults stand where their places say.
use Rattle.std.specs.Prelude.{◌≡◌, ℕ, ◌+◌, ◌<◌, ◌==◌, ◌||◌, Bool, true, false, List, [], ◌∷◌, ◌++◌, length, drop, None, ◌⊎◌, if◌then◌else◌}
use Rattle.std.proofs.Common.{refl, sym, ap, ◌∙◌, arith, subst, inl, inr, length-append, append_assoc}
use Rattle.std.proofs.Math.Seq.{take-append_seam, drop-append_seam, take-length}
use Rattle.std.proofs.lemmas.List.Sums.{sum_by-append}
use Rattle.std.proofs.lemmas.Bool.Decides.{nat_tests}
use Rattle.std.specs.List.{list_all}
use Rattle.pst_lex.specs.declared.types.Token.{Token}
use Rattle.pst_lex.specs.declared.types.Span.{Span}
use Rattle.pst_lex.specs.declared.faults.LexFault.{LexFault}
use Rattle.pst_lex.specs.Bytes.{is_word, is_pair, gap_step, feeds}
use Rattle.pst_lex.specs.Words.{Word, word_of}
use Rattle.pst_lex.specs.Lexing.{IsToken, IsFault, line_of, LexedTo, EndsAt, FaultsAt, Lexes, Faults, InOrder, AreInPlace, bytes_at, line_at}
use Rattle.pst_lex.proofs.Comparing.{and_true, other_test}
use Rattle.pst_lex.proofs.Fronts.{IsWordFront, IsSymbolFront, token_front, token_some, word_low, Stuck, fault_stuck}

feeds-append : (a b : List ℕ) → feeds (a ++ b) ≡ feeds a + feeds b
feeds-append a b = sum_by-append (λ x. if x == 10 then 1 else 0) a b

no_feed : (b : ℕ) (w : List ℕ) → (b ≡ 10 → ⊥) → feeds w ≡ 0 → feeds (b ∷ w) ≡ 0
no_feed b w h e = rw (other_test b 10 h) e

word_no_feeds : (w : List ℕ) → list_all is_word w ≡ true → feeds w ≡ 0
word_no_feeds [] e = refl
word_no_feeds (b ∷ w) e =
    let p = and_true (is_word b) (list_all is_word w) e in
    no_feed b w (λ h. let low = word_low b p.0 in omega arith) (word_no_feeds w p.1)

stuck_no_feed : (b : ℕ) → gap_step false b ≡ None → b ≡ 10 → ⊥
stuck_no_feed b g h = let bad : gap_step false 10 ≡ None = subst (λ x. gap_step false x ≡ None) h g in cc

pair_no_feed : (a b : ℕ) → is_pair a b ≡ true → b ≡ 10 → ⊥
pair_no_feed a b e h = let p = and_true (a == 61 || a == 33 || a == 60 || a == 62) (b == 61) e in grind (arith, nat_tests)

symbol_no_feeds : (w rest : List ℕ) → IsSymbolFront w rest → feeds w ≡ 0
symbol_no_feeds [] rest s = absurd s
symbol_no_feeds (a ∷ []) rest (n, g, p, pair) = no_feed a [] (stuck_no_feed a g) refl
symbol_no_feeds (a ∷ b ∷ []) rest (n, g, p) = no_feed a (b ∷ []) (stuck_no_feed a g) (no_feed b [] (pair_no_feed a b p) refl)
symbol_no_feeds (a ∷ b ∷ c ∷ w) rest s = absurd s

token_no_feeds : (t : Word) (w rest : List ℕ) → IsToken t w rest → feeds w ≡ 0
token_no_feeds t w rest p = go (token_front t w rest p)
  where
    go : IsWordFront w rest ⊎ IsSymbolFront w rest → feeds w ≡ 0
    go (inl q) = word_no_feeds w q.all
    go (inr q) = symbol_no_feeds w rest q

-- the bytes between two places
span_bytes : (front w rest : List ℕ) (s : Span) → s.from ≡ length front → s.to ≡ length front + length w → bytes_at (front ++ (w ++ rest)) s ≡ w
span_bytes front w rest s f o =
    let to : s.to ≡ length (front ++ w) = o ∙ sym (length-append front w) in
    rw (f, to, ← append_assoc front w rest, take-append_seam (front ++ w) rest) (drop-append_seam front w)

front_line : (front rest : List ℕ) (n : ℕ) → n ≡ length front → line_at (front ++ rest) n ≡ 1 + feeds front
front_line front rest n e = rw (e, take-append_seam front rest) refl

record InPlace (text : List ℕ) (ts : List Token) (at end : ℕ) : Type 0 where
  order : InOrder at (length text) ts
  places : AreInPlace text ts
  last : end ≡ 1 + feeds text

in_place : (before text : List ℕ) (at line end : ℕ) (ts : List Token) → at ≡ length before → line ≡ 1 + feeds before → LexedTo (EndsAt end) text at line ts → InPlace (before ++ text) ts at end
in_place before text at line end [] a l (inside, g, e) =
    record { order = omega (arith, length-append before text); places = tt; last = omega (arith, feeds-append before text) }
in_place before text at line end (t ∷ ts) a l (blank, w, rest, is, g, tok, f, o, ln, more) =
    let front : before ++ text ≡ (before ++ blank) ++ (w ++ rest) = ap (λ x. before ++ x) is ∙ sym (append_assoc before blank (w ++ rest)) in
    let whole : before ++ text ≡ ((before ++ blank) ++ w) ++ rest = front ∙ sym (append_assoc (before ++ blank) w rest) in
    let long : at + length blank ≡ length (before ++ blank) = omega (arith, length-append before blank) in
    let longer : at + length blank + length w ≡ length ((before ++ blank) ++ w) = omega (arith, long, length-append (before ++ blank) w) in
    let lines : line + feeds blank ≡ 1 + feeds (before ++ blank) = omega (arith, feeds-append before blank) in
    let lines' : line + feeds blank ≡ 1 + feeds ((before ++ blank) ++ w) = omega (arith, lines, feeds-append (before ++ blank) w, token_no_feeds (word_of t.kind) w rest tok) in
    let later = in_place ((before ++ blank) ++ w) rest (at + length blank + length w) (line + feeds blank) end ts longer lines' more in
    let some = token_some (word_of t.kind) w rest tok in
    let spelled : bytes_at ((before ++ blank) ++ (w ++ rest)) t.span ≡ w = span_bytes (before ++ blank) w rest t.span (omega arith) (omega arith) in
    let there : line_at ((before ++ blank) ++ (w ++ rest)) t.span.from ≡ 1 + feeds (before ++ blank) = front_line (before ++ blank) (w ++ rest) t.span.from (omega arith) in
    record {
      order = (omega arith, omega arith, subst (λ x. InOrder x (length (before ++ text)) ts) (sym o) (subst (λ x. InOrder (at + length blank + length w) (length x) ts) (sym whole) later.order));
      places = (ap (λ x. bytes_at x t.span) front ∙ spelled ∙ tok.0, ln ∙ lines ∙ sym there ∙ ap (λ x. line_at x t.span.from) (sym front), subst (λ x. AreInPlace x ts) (sym whole) later.places);
      last = later.last ∙ ap (λ x. 1 + feeds x) (sym whole);
    }

pub tokens_in_place : (text : List ℕ) (ts : List Token) (e : ℕ) → Lexes text ts e → InOrder 0 (length text) ts × AreInPlace text ts × (e ≡ line_at text (length text))
tokens_in_place text ts e h =
    let p = in_place [] text 0 1 e ts refl refl h in
    (p.order, p.places, p.last ∙ ap (λ x. 1 + feeds x) (sym (take-length text)))

-- a fault stands at a byte
fault_some : (f : LexFault) (inside : Bool) (bad : List ℕ) → IsFault f inside bad → 0 < length bad
fault_some f inside bad h = go inside bad (fault_stuck f inside bad h)
  where
    go : (s : Bool) (x : List ℕ) → Stuck s x → 0 < length x
    go s [] k = absurd k
    go s (b ∷ x) k = omega arith

fault_place : (before text : List ℕ) (at line : ℕ) (f : LexFault) (ts : List Token) → at ≡ length before → line ≡ 1 + feeds before → LexedTo (FaultsAt f) text at line ts →
    (n : ℕ) × (inside : Bool) × (n < length (before ++ text)) × IsFault f inside (drop n (before ++ text)) × (line_of f ≡ line_at (before ++ text) n)
fault_place before text at line f [] a l (blank, bad, inside, is, g, h, e) =
    let front : before ++ text ≡ (before ++ blank) ++ bad = ap (λ x. before ++ x) is ∙ sym (append_assoc before blank bad) in
    let some = fault_some f inside bad h in
    let short : length (before ++ blank) < length (before ++ text) = omega (arith, ap length front, length-append (before ++ blank) bad) in
    let here : drop (length (before ++ blank)) (before ++ text) ≡ bad = ap (λ x. drop (length (before ++ blank)) x) front ∙ drop-append_seam (before ++ blank) bad in
    let there : line_at (before ++ text) (length (before ++ blank)) ≡ 1 + feeds (before ++ blank) =
    ap (λ x. line_at x (length (before ++ blank))) front ∙ front_line (before ++ blank) bad (length (before ++ blank)) refl in
    (length (before ++ blank), inside, short, subst (λ x. IsFault f inside x) (sym here) h, omega (arith, there, feeds-append before blank))
fault_place before text at line f (t ∷ ts) a l (blank, w, rest, is, g, tok, p, o, ln, more) =
    let whole : before ++ text ≡ ((before ++ blank) ++ w) ++ rest = ap (λ x. before ++ x) is ∙ sym (append_assoc before blank (w ++ rest)) ∙ sym (append_assoc (before ++ blank) w rest) in
    let longer : at + length blank + length w ≡ length ((before ++ blank) ++ w) = omega (arith, length-append before blank, length-append (before ++ blank) w) in
    let lines : line + feeds blank ≡ 1 + feeds ((before ++ blank) ++ w) =
    omega (arith, feeds-append before blank, feeds-append (before ++ blank) w, token_no_feeds (word_of t.kind) w rest tok) in
    subst (λ x. (n : ℕ) × (inside : Bool) × (n < length x) × IsFault f inside (drop n x) × (line_of f ≡ line_at x n)) (sym whole)
    (fault_place ((before ++ blank) ++ w) rest (at + length blank + length w) (line + feeds blank) f ts longer lines more)

pub fault_in_place : (text : List ℕ) (f : LexFault) → Faults text f → (n : ℕ) × (inside : Bool) × (n < length text) × IsFault f inside (drop n text) × (line_of f ≡ line_at text n)
fault_in_place text f (ts, h) = fault_place [] text 0 1 f ts refl refl h

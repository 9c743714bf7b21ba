-- A text is read in one way.
use Rattle.std.specs.Prelude.{◌≡◌, ℕ, ◌+◌, Bool, false, List, [], ◌∷◌, ◌++◌, length, Some, ◌⊎◌, Result, Ok, Err}
use Rattle.std.proofs.Common.{refl, sym, ap, ◌∙◌, arith, subst, inl, inr}
use Rattle.pst_lex.specs.declared.types.Token.{Token}
use Rattle.pst_lex.specs.declared.types.TokenKind.{TokenKind}
use Rattle.pst_lex.specs.declared.faults.LexFault.{LexFault}
use Rattle.pst_lex.specs.Bytes.{gap, feeds}
use Rattle.pst_lex.specs.Words.{Word, word_of}
use Rattle.pst_lex.specs.Lexing.{IsToken, IsFault, LexedTo, EndsAt, FaultsAt, Lexes, Faults, LexedAs, words_of, Scans, AreWords, GivesNoFault, GivesFault}
use Rattle.pst_lex.proofs.Spellings.{kind_same}
use Rattle.pst_lex.proofs.Fronts.{gap_stuck, gap_same, token_same, token_stuck, fault_stuck, token_no_fault, fault_same}

abbrev token : TokenKind → ℕ → ℕ → ℕ → Token
token k from to line = record { kind = k; span = record { from = from; to = to }; line = line }

fields_same : (t u : Token) → t.kind ≡ u.kind → t.span.from ≡ u.span.from → t.span.to ≡ u.span.to → t.line ≡ u.line → t ≡ u
fields_same t u k f o l =
    ap (λ x. token x t.span.from t.span.to t.line) k ∙ ap (λ x. token u.kind x t.span.to t.line) f ∙ ap (λ x. token u.kind u.span.from x t.line) o ∙ ap (λ x. token u.kind u.span.from u.span.to x) l

-- a token is the next
abbrev pub NextIs : List ℕ → Type 0
NextIs text = (t : Word) × (blank : List ℕ) × (w : List ℕ) × (rest : List ℕ) × (text ≡ blank ++ (w ++ rest)) × (gap false blank ≡ Some false) × IsToken t w rest

-- both say something of one place
abbrev Both : (List ℕ → ℕ → ℕ → Type 0) → (List ℕ → ℕ → ℕ → Type 0) → Type 0
Both E F = (rest : List ℕ) × (at : ℕ) × (line : ℕ) × E rest at line × F rest at line

-- this says something of a place where a token is the next
abbrev pub Ahead : (List ℕ → ℕ → ℕ → Type 0) → Type 0
Ahead E = (rest : List ℕ) × (at : ℕ) × (line : ℕ) × E rest at line × NextIs rest

-- the first tokens of two lists of one text are one, and both lists go on from one place
pub first_same : (E F : List ℕ → ℕ → ℕ → Type 0) (text : List ℕ) (at line : ℕ) (t u : Token) (ts us : List Token) → LexedTo E text at line (t ∷ ts) → LexedTo F text at line (u ∷ us) →
    (t ≡ u) × (rest : List ℕ) × (at' : ℕ) × (line' : ℕ) × LexedTo E rest at' line' ts × LexedTo F rest at' line' us
first_same E F text at line t u ts us (blank, w, rest, is, gp, tok, f, o, l, more) (blank', w', rest', is', gp', tok', f', o', l', more') =
    let front = gap_same false false false blank blank' (w ++ rest) (w' ++ rest') gp gp' (token_stuck (word_of t.kind) w rest tok) (token_stuck (word_of u.kind) w' rest' tok') (sym is ∙ is') in
    let one = token_same (word_of t.kind) (word_of u.kind) w w' rest rest' tok tok' front.2 in
    let long : length blank ≡ length blank' = ap length front.1 in
    let long' : length w ≡ length w' = ap length one.1 in
    let lines : feeds blank ≡ feeds blank' = ap feeds front.1 in
    let same : t ≡ u = fields_same t u (kind_same t.kind u.kind one.0) (omega arith) (omega arith) (omega arith) in
    let place : at + length blank' + length w' ≡ at + length blank + length w = omega arith in
    let line' : line + feeds blank' ≡ line + feeds blank = omega arith in
    let more'' : LexedTo F rest (at + length blank + length w) (line + feeds blank) us =
    subst (λ r. LexedTo F r (at + length blank + length w) (line + feeds blank) us) (sym one.2)
    (subst (λ x. LexedTo F rest' x (line + feeds blank) us) place (subst (λ y. LexedTo F rest' (at + length blank' + length w') y us) line' more')) in
    (same, rest, at + length blank + length w, line + feeds blank, more, more'')

-- two lists of tokens of one text are one, or one of them ends where the other has a token more
meet : (E F : List ℕ → ℕ → ℕ → Type 0) (text : List ℕ) (at line : ℕ) (ts us : List Token) → LexedTo E text at line ts → LexedTo F text at line us →
    ((ts ≡ us) × Both E F) ⊎ (Ahead E ⊎ Ahead F)
meet E F text at line [] [] h g = inl (refl, (text, at, line, h, g))
meet E F text at line [] (u ∷ us) h (blank, w, rest, is, gp, tok, f, o, l, more) = inr (inl (text, at, line, h, (word_of u.kind, blank, w, rest, is, gp, tok)))
meet E F text at line (t ∷ ts) [] (blank, w, rest, is, gp, tok, f, o, l, more) g = inr (inr (text, at, line, g, (word_of t.kind, blank, w, rest, is, gp, tok)))
meet E F text at line (t ∷ ts) (u ∷ us) h g =
    let (same, rest, at', line', more, more') = first_same E F text at line t u ts us h g in
    go (meet E F rest at' line' ts us more more') same
  where
    go : ((ts ≡ us) × Both E F) ⊎ (Ahead E ⊎ Ahead F) → t ≡ u → ((t ∷ ts ≡ u ∷ us) × Both E F) ⊎ (Ahead E ⊎ Ahead F)
    go (inl p) same = inl (rw (same, p.0) refl, p.1)
    go (inr p) same = inr p

-- no token is the next where the text ends
pub end_no_token : (end : ℕ) → Ahead (EndsAt end) → ⊥
end_no_token end (text, at, line, (inside, g, e), (t, blank, w, rest, is, gp, tok)) = gap_stuck false false blank (w ++ rest) inside gp (token_stuck t w rest tok) (rw is at g)

-- no token is the next where a fault is
fault_no_token : (f : LexFault) → Ahead (FaultsAt f) → ⊥
fault_no_token f (text, at, line, (blank', bad, inside, is', gp', h, e), (t, blank, w, rest, is, gp, tok)) =
    let both = gap_same false false inside blank blank' (w ++ rest) bad gp gp' (token_stuck t w rest tok) (fault_stuck f inside bad h) (sym is ∙ is') in
    token_no_fault t w rest f tok (subst (λ x. IsFault f false x) (sym both.2) (subst (λ b. IsFault f b bad) (sym both.0) h))

-- a text does not end where a fault is
end_no_fault : (text : List ℕ) (inside : Bool) (f : LexFault) (at line : ℕ) → gap false text ≡ Some inside → FaultsAt f text at line → ⊥
end_no_fault text inside f at line g (blank, bad, i, is, gp, h, e) = gap_stuck false i blank bad inside gp (fault_stuck f i bad h) (rw is at g)

pub one_lexing : (text : List ℕ) (ts us : List Token) (e d : ℕ) → Lexes text ts e → Lexes text us d → (ts ≡ us) × (e ≡ d)
one_lexing text ts us e d h g = go (meet (EndsAt e) (EndsAt d) text 0 1 ts us h g)
  where
    go : ((ts ≡ us) × Both (EndsAt e) (EndsAt d)) ⊎ (Ahead (EndsAt e) ⊎ Ahead (EndsAt d)) → (ts ≡ us) × (e ≡ d)
    go (inl (same, (rest, at, line, (i, p, q), (i', p', q')))) = (same, q ∙ sym q')
    go (inr (inl a)) = absurd (end_no_token e a)
    go (inr (inr a)) = absurd (end_no_token d a)

pub one_fault : (text : List ℕ) (f g : LexFault) → Faults text f → Faults text g → f ≡ g
one_fault text f g (ts, h) (us, k) = go (meet (FaultsAt f) (FaultsAt g) text 0 1 ts us h k)
  where
    go : ((ts ≡ us) × Both (FaultsAt f) (FaultsAt g)) ⊎ (Ahead (FaultsAt f) ⊎ Ahead (FaultsAt g)) → f ≡ g
    go (inl (same, (rest, at, line, (blank, bad, i, is, gp, p, q), (blank', bad', i', is', gp', p', q')))) =
        let both = gap_same false i i' blank blank' bad bad' gp gp' (fault_stuck f i bad p) (fault_stuck g i' bad' p') (sym is ∙ is') in
        let there : IsFault g i bad = subst (λ b. IsFault g b bad) (sym both.0) (subst (λ x. IsFault g i' x) (sym both.2) p') in
        let lines : feeds blank ≡ feeds blank' = ap feeds both.1 in
        fault_same f g i bad p there (omega arith)
    go (inr (inl a)) = absurd (fault_no_token f a)
    go (inr (inr a)) = absurd (fault_no_token g a)

-- the same wherever the text begins
pub not_both_from : (text : List ℕ) (at line : ℕ) (ts us : List Token) (e : ℕ) (f : LexFault) → LexedTo (EndsAt e) text at line ts → LexedTo (FaultsAt f) text at line us → ⊥
not_both_from text at line ts us e f h k = go (meet (EndsAt e) (FaultsAt f) text at line ts us h k)
  where
    go : ((ts ≡ us) × Both (EndsAt e) (FaultsAt f)) ⊎ (Ahead (EndsAt e) ⊎ Ahead (FaultsAt f)) → ⊥
    go (inl (same, (rest, at, line, (i, p, q), bad))) = end_no_fault rest i f at line p bad
    go (inr (inl a)) = end_no_token e a
    go (inr (inr a)) = fault_no_token f a

pub not_both : (text : List ℕ) (ts : List Token) (e : ℕ) (f : LexFault) → Lexes text ts e → Faults text f → ⊥
not_both text ts e f h (us, k) = not_both_from text 0 1 ts us e f h k

-- ---- places and lines apart

dropped : (end : ℕ) (text : List ℕ) (at line : ℕ) (ts : List Token) → LexedTo (EndsAt end) text at line ts → LexedAs text (words_of ts)
dropped end text at line [] (inside, g, e) = (inside, g)
dropped end text at line (t ∷ ts) (blank, w, rest, is, gp, tok, f, o, l, more) = (blank, w, rest, is, gp, tok, dropped end rest _ _ ts more)

words_same : (text : List ℕ) (ws xs : List Word) → LexedAs text ws → LexedAs text xs → ws ≡ xs
words_same text [] [] h g = refl
words_same text [] (x ∷ xs) (inside, e) (blank, w, rest, is, gp, tok, more) = absurd (gap_stuck false false blank (w ++ rest) inside gp (token_stuck x w rest tok) (rw is at e))
words_same text (x ∷ ws) [] (blank, w, rest, is, gp, tok, more) (inside, e) = absurd (gap_stuck false false blank (w ++ rest) inside gp (token_stuck x w rest tok) (rw is at e))
words_same text (x ∷ ws) (y ∷ xs) (blank, w, rest, is, gp, tok, more) (blank', w', rest', is', gp', tok', more') =
    let front = gap_same false false false blank blank' (w ++ rest) (w' ++ rest') gp gp' (token_stuck x w rest tok) (token_stuck y w' rest' tok') (sym is ∙ is') in
    let one = token_same x y w w' rest rest' tok tok' front.2 in
    rw (one.0, words_same rest ws xs more (subst (λ r. LexedAs r xs) (sym one.2) more')) refl

pub its_words : (text : List ℕ) (ts : List Token) (e : ℕ) → Lexes text ts e → LexedAs text (words_of ts) × ((ws : List Word) → LexedAs text ws → ws ≡ words_of ts)
its_words text ts e h =
    let its = dropped e text 0 1 ts h in
    (its, λ ws g. words_same text ws (words_of ts) g its)

no_fault_after : (text : List ℕ) (at line : ℕ) (ws : List Word) (us : List Token) (f : LexFault) → LexedAs text ws → LexedTo (FaultsAt f) text at line us → ⊥
no_fault_after text at line [] [] f (inside, e) bad = end_no_fault text inside f at line e bad
no_fault_after text at line [] (u ∷ us) f (inside, e) (blank, w, rest, is, gp, tok, p, o, l, more) =
    gap_stuck false false blank (w ++ rest) inside gp (token_stuck (word_of u.kind) w rest tok) (rw is at e)
no_fault_after text at line (x ∷ ws) [] f (blank, w, rest, is, gp, tok, more) bad = fault_no_token f (text, at, line, bad, (x, blank, w, rest, is, gp, tok))
no_fault_after text at line (x ∷ ws) (u ∷ us) f (blank, w, rest, is, gp, tok, more) (blank', w', rest', is', gp', tok', p, o, l, more') =
    let front = gap_same false false false blank blank' (w ++ rest) (w' ++ rest') gp gp' (token_stuck x w rest tok) (token_stuck (word_of u.kind) w' rest' tok') (sym is ∙ is') in
    let one = token_same x (word_of u.kind) w w' rest rest' tok tok' front.2 in
    no_fault_after rest' _ _ ws us f (subst (λ r. LexedAs r ws) one.2 more) more'

pub no_fault : (text : List ℕ) (ws : List Word) (f : LexFault) → LexedAs text ws → Faults text f → ⊥
no_fault text ws f h (us, k) = no_fault_after text 0 1 ws us f h k

-- ---- what an answer says of a text of which something is known

pub gives_no_fault : (r : Result (Unit {0}) LexFault) (text : List ℕ) → Scans r text → GivesNoFault r text
gives_no_fault (Ok x) text h ts e g = refl
gives_no_fault (Err f) text h ts e g = absurd (not_both text ts e f g h)

pub gives_fault : (r : Result (Unit {0}) LexFault) (text : List ℕ) → Scans r text → GivesFault r text
gives_fault (Ok x) text (ts, e, h) f g = absurd (not_both text ts e f h g)
gives_fault (Err h) text bad f g = ap Err (one_fault text h f bad g)

-- ---- what tokens are, and how they stand

pub are_words : (text : List ℕ) (ws : List Word) → LexedAs text ws → AreWords ws
are_words text [] h = tt
are_words text (t ∷ ws) (blank, w, rest, is, gp, tok, more) = (tok.1, are_words rest ws more)

-- Laws of reading many parts, one after another or with commas between them.
use Rattle.std.specs.Prelude.{◌≡◌, ℕ, ◌≤◌, ◌<◌, Bool, true, false, cond, List, [], ◌∷◌, ◌++◌, map, length}
use Rattle.std.proofs.Common.{suc, zero, refl, sym, ap, ◌∙◌, subst, arith, length-append}
use Rattle.pst_grammar.specs.declared.lexeme.Sign.TheVariants as sign
use Rattle.pst_grammar.specs.Lexemes.{Lexeme, Plain}
use Rattle.pst_grammar.specs.Forms.{Each}
use Rattle.pst_grammar.specs.Spelling as spelling
use Rattle.pst_grammar.specs.Spelling.{each, after_comma}
use Rattle.pst_grammar.specs.Reader.{Read, Got, Bad, Unexpected, TooDeep, and_then, is, after, many_upto, many, others, listed}
use Rattle.pst_grammar.proofs.ReaderLaws.{Construct, Lawful, Good, step_law, got_good, stop_law, done_law, after_good, bind_law, bind_good, rerun_law, rerun_end}

-- ---- fuel

-- what is read takes a token at least
abbrev pub Shortens : {A : Type 0} → (List Lexeme → Read A) → Type 0
Shortens {A} part = (ts rest : List Lexeme) (a : A) → part ts ≡ Got a rest → length rest < length ts

pub and_then-same : {A B : Type 0} (r : Read A) (f g : A → List Lexeme → Read B) →
    ((a : A) (rest : List Lexeme) → r ≡ Got a rest → f a rest ≡ g a rest) → and_then r f ≡ and_then r g
and_then-same (Got a rest) f g h = h a rest refl
and_then-same (Bad k rest) f g h = refl

many-same : {A : Type 0} (starts : Lexeme → Bool) (part : List Lexeme → Read A) → Shortens part → (m n : ℕ) (ts : List Lexeme) → length ts ≤ m → length ts ≤ n →
    many_upto m starts part ts ≡ many_upto n starts part ts
unfolding many_upto
many-same starts part short zero zero ts le le' = refl
many-same starts part short zero (suc n) [] le le' = refl
many-same starts part short zero (suc n) (t ∷ ts) le le' = absurd (omega arith)
many-same starts part short (suc m) zero [] le le' = refl
many-same starts part short (suc m) zero (t ∷ ts) le le' = absurd (omega arith)
many-same starts part short (suc m) (suc n) [] le le' = refl
many-same starts part short (suc m) (suc n) (t ∷ ts) le le' =
    ap (λ x. cond (starts t) x (Got [] (t ∷ ts)))
    (and_then-same (part (t ∷ ts)) _ _ (λ a rest e. let lt : length rest < length (t ∷ ts) = short (t ∷ ts) rest a e in
    ap (λ x. and_then x (λ l. Got (a ∷ l))) (many-same starts part short m n rest (omega arith) (omega arith))))

start_step : {A : Type 0} (n : ℕ) (starts : Lexeme → Bool) (part : List Lexeme → Read A) (t : Lexeme) (ts : List Lexeme) → starts t ≡ true →
    many_upto (suc n) starts part (t ∷ ts) ≡ and_then (part (t ∷ ts)) (λ a rest. and_then (many_upto n starts part rest) (λ l. Got (a ∷ l)))
unfolding many_upto
start_step n starts part t ts e = rw e refl

stop_step : {A : Type 0} (n : ℕ) (starts : Lexeme → Bool) (part : List Lexeme → Read A) (t : Lexeme) (ts : List Lexeme) → starts t ≡ false →
    many_upto (suc n) starts part (t ∷ ts) ≡ Got [] (t ∷ ts)
unfolding many_upto
stop_step n starts part t ts e = rw e refl

-- one more part
pub many-start : {A : Type 0} (starts : Lexeme → Bool) (part : List Lexeme → Read A) → Shortens part → (t : Lexeme) (ts : List Lexeme) → starts t ≡ true →
    many starts part (t ∷ ts) ≡ and_then (part (t ∷ ts)) (λ a rest. and_then (many starts part rest) (λ l. Got (a ∷ l)))
unfolding many
many-start starts part short t ts e =
    start_step (length ts) starts part t ts e
    ∙ and_then-same (part (t ∷ ts)) _ _ (λ a rest q. let lt : length rest < length (t ∷ ts) = short (t ∷ ts) rest a q in
    ap (λ x. and_then x (λ l. Got (a ∷ l))) (many-same starts part short (length ts) (length rest) rest (omega arith) (omega arith)))

-- no more parts
pub many-stop : {A : Type 0} (starts : Lexeme → Bool) (part : List Lexeme → Read A) (t : Lexeme) (ts : List Lexeme) → starts t ≡ false →
    many starts part (t ∷ ts) ≡ Got [] (t ∷ ts)
unfolding many
many-stop starts part t ts e = stop_step (length ts) starts part t ts e

pub many-end : {A : Type 0} (starts : Lexeme → Bool) (part : List Lexeme → Read A) → many starts part [] ≡ Got [] []
unfolding many many_upto
many-end starts part = refl

-- what is spelled with a first token that begins a part
abbrev pub Fronts : {L : Type 0} → (Lexeme → Bool) → (L → List Lexeme → List Lexeme) → (L → Type 0) → Type 0
Fronts {L} starts spell Q = (a : L) → Q a → (x : List Lexeme) → (t : Lexeme) × (v : List Lexeme) × (spell a x ≡ t ∷ v) × (starts t ≡ true)

got_short : {A : Type 0} (K : Construct A) (starts : Lexeme → Bool) (run : List Lexeme → Read A) (ts rest : List Lexeme) (a : A) (r : Read A) → Fronts starts K.spell K.In → r ≡ Got a rest →
    Lawful K (λ x. x) run ts r → length rest < length ts
got_short K starts run ts rest a (Bad Unexpected s) front e law = cc
got_short K starts run ts rest a (Bad TooDeep s) front e law = cc
got_short K starts run ts rest a (Got b s) front e (a', pl, inn, [], at, sp, loc) =
    let (t, v, is', st) = front a' inn [] in
    absurd (let none : t ∷ v ≡ [] = sym is' ∙ sp [] in cc)
got_short K starts run ts rest a (Got b s) front e (a', pl, inn, t ∷ u, at, sp, loc) =
    let same : s ≡ rest = cc in
    let long : length ts ≡ length (t ∷ (u ++ s)) = ap length at in
    rw (← same) (omega (arith, long, length-append u s))

pub shortens : {A : Type 0} (K : Construct A) (starts : Lexeme → Bool) (part : List Lexeme → Read A) → Fronts starts K.spell K.In →
    ((ts : List Lexeme) → Lawful K (λ x. x) part ts (part ts)) → Shortens part
shortens K starts part front law ts rest a e = got_short K starts part ts rest a (part ts) front e (law ts)

-- ---- laws

-- a list of what is read
abbrev pub list : {A : Type 0} → Construct A → Construct (List A)
list {A} K = record { Lined = List K.Lined; plain = map K.plain; spell = each K.spell; Fit = Each K.Fit; In = Each K.In }

pub many_law : {A : Type 0} (K : Construct A) (starts : Lexeme → Bool) (part : List Lexeme → Read A) → Shortens part → ((a : K.Lined) → K.In a → K.Fit a) →
    ((ts : List Lexeme) → Lawful K (λ x. x) part ts (part ts)) → (n : ℕ) (ts : List Lexeme) → length ts ≤ n →
    Lawful (list K) (λ x. x) (many starts part) ts (many starts part ts)
many_law K starts part short fit law n [] le =
    rw (many-end starts part) (done_law (list K) (λ x. x) (many starts part) [] [] refl tt (λ x. refl) (many-end starts part))
many_law K starts part short fit law zero (t ∷ ts) le = absurd (omega arith)
many_law {A} K starts part short fit law (suc n) (t ∷ ts) le = go (starts t) refl (λ rest le. many_law K starts part short fit law n rest le)
  where
    go : (b : Bool) → starts t ≡ b → ((rest : List Lexeme) → length rest ≤ n → Lawful (list K) (λ x. x) (many starts part) rest (many starts part rest)) →
        Lawful (list K) (λ x. x) (many starts part) (t ∷ ts) (many starts part (t ∷ ts))
    go false e others =
        subst (λ r. Lawful (list K) (λ x. x) (many starts part) (t ∷ ts) r) (sym (many-stop starts part t ts e))
        (stop_law (list K) (λ x. x) (many starts part) [] [] t ts refl tt (λ x. refl) (λ v. many-stop starts part t v e))
    go true e others =
        subst (λ r. Lawful (list K) (λ x. x) (many starts part) (t ∷ ts) r) (sym (many-start starts part short t ts e))
        (rerun_law (list K) (λ x. x) (many starts part) (λ us. and_then (part us) (λ a rest. and_then (many starts part rest) (λ l. Got (a ∷ l)))) t ts _
        (λ v. many-start starts part short t v e)
        (bind_law K (list K) (λ x. x) (λ x. x) part (λ a rest. and_then (many starts part rest) (λ l. Got (a ∷ l))) (t ∷ ts) (part (t ∷ ts)) (law (t ∷ ts))
        (λ a rest q inn. let lt : length rest < length (t ∷ ts) = short (t ∷ ts) rest (K.plain a) q in
        bind_law (list K) (list K) (λ x. x) (λ x. K.spell a x) (many starts part) (λ l. Got (K.plain a ∷ l)) rest (many starts part rest)
        (others rest (omega arith))
        (λ l rest' q' inn'. (got_good (list K) (λ x. K.spell a (each K.spell l x)) (a ∷ l) (K.plain a ∷ map K.plain l) refl (inn, inn') (λ x. refl)).law rest')
        (λ l inn'. (a ∷ l, (inn, inn'), [], λ x. refl))
        (λ l fits. (a ∷ l, (fit a inn, fits), [], λ x. refl)))
        (λ a inn. (a ∷ [], (inn, tt), [], λ x. refl))
        (λ a fits. (a ∷ [], (fits, tt), [], λ x. refl))))

pub many_good : {A : Type 0} (K : Construct A) (starts : Lexeme → Bool) (part : List Lexeme → Read A) → Fronts starts K.spell K.In → ((a : K.Lined) → K.In a → K.Fit a) →
    ((ts : List Lexeme) → Lawful K (λ x. x) part ts (part ts)) → Good (list K) (λ x. x) (many starts part)
many_good K starts part front fit law = record {
  close = ([], tt, [], λ x. refl);
  law = λ ts. many_law K starts part (shortens K starts part front law) fit law (length ts) ts (omega arith);
}

-- what is read behind a comma
abbrev pub comma : {A : Type 0} → Construct A → Construct A
comma K = record { Lined = K.Lined; plain = K.plain; spell = after_comma K.spell; Fit = K.Fit; In = K.In }

shift_law : {A : Type 0} (K : Construct A) (run : List Lexeme → Read A) (ts : List Lexeme) (r : Read A) → Lawful K (λ x. x) run ts r → Lawful (comma K) (λ x. Plain sign.Comma ∷ x) run ts r
shift_law K run ts (Got a rest) (a', pl, inn, u, at, sp, loc) = (a', pl, inn, u, at, λ x. ap (λ y. Plain sign.Comma ∷ y) (sp x), loc)
shift_law K run ts (Bad Unexpected rest) (u, at, (a, q, c, sp), loc) = (u, at, (a, q, c, λ x. ap (λ y. Plain sign.Comma ∷ y) (sp x)), loc)
shift_law K run ts (Bad TooDeep rest) (u, t, v, at, is', (a, q, c, sp), (a', q', c', sp'), loc) =
    (u, t, v, at, is', (a, q, c, λ x. ap (λ y. Plain sign.Comma ∷ y) (sp x)), (a', q', c', λ x. ap (λ y. Plain sign.Comma ∷ y) (sp' x)), loc)

pub comma_good : {A : Type 0} (K : Construct A) (part : List Lexeme → Read A) → Good K (λ x. x) part → Good (comma K) (λ x. x) (after sign.Comma part)
comma_good K part good =
    let (a, q, c, sp) = good.close in
    after_good (comma K) (λ x. x) sign.Comma part
    (record { close = (a, q, c, λ x. ap (λ y. Plain sign.Comma ∷ y) (sp x)); law = λ ts. shift_law K part ts (part ts) (good.law ts) })

pub comma_front : {L : Type 0} (spell : L → List Lexeme → List Lexeme) (Q : L → Type 0) → Fronts (is sign.Comma) (after_comma spell) Q
comma_front spell Q a q x = (Plain sign.Comma, spell a x, refl, refl)

-- a list with commas, up to the `)`
abbrev pub commas : {A : Type 0} → Construct A → Construct (List A)
commas {A} K = record { Lined = List K.Lined; plain = map K.plain; spell = spelling.listed K.spell; Fit = Each K.Fit; In = Each K.In }

others_good : {A : Type 0} (K : Construct A) (part : List Lexeme → Read A) → ((a : K.Lined) → K.In a → K.Fit a) → Good K (λ x. x) part → (a : K.Lined) → K.In a →
    Good (commas K) (λ x. K.spell a x) (others part (K.plain a))
others_good K part fit good a inn =
    bind_good (list (comma K)) (commas K) (λ x. K.spell a x) (many (is sign.Comma) (after sign.Comma part)) (λ l. after sign.CloseParen (Got (K.plain a ∷ l)))
    (many_good (comma K) (is sign.Comma) (after sign.Comma part) (comma_front K.spell K.In) fit (comma_good K part good).law)
    (λ l inn'. after_good (commas K) (λ x. K.spell a (each (after_comma K.spell) l x)) sign.CloseParen (Got (K.plain a ∷ map K.plain l))
    (got_good (commas K) (λ x. K.spell a (each (after_comma K.spell) l (Plain sign.CloseParen ∷ x))) (a ∷ l) (K.plain a ∷ map K.plain l) refl (inn, inn') (λ x. refl)))
    (λ l fits. (a ∷ l, (fit a inn, fits), Plain sign.CloseParen ∷ [], λ x. refl))

pub listed_good : {A : Type 0} (K : Construct A) (part : List Lexeme → Read A) → ((a : K.Lined) → K.In a → K.Fit a) → Good K (λ x. x) part → Good (commas K) (λ x. x) (listed part)
listed_good {A} K part fit good = record { close = ([], tt, Plain sign.CloseParen ∷ [], λ x. refl); law = go }
  where
    law : (ts : List Lexeme) → Lawful (commas K) (λ x. x) (λ us. and_then (part us) (others part)) ts (and_then (part ts) (others part))
    law ts = bind_law K (commas K) (λ x. x) (λ x. x) part (others part) ts (part ts) (good.law ts)
        (λ a rest e inn. (others_good K part fit good a inn).law rest)
        (λ a inn. (a ∷ [], (inn, tt), Plain sign.CloseParen ∷ [], λ x. refl))
        (λ a fits. (a ∷ [], (fits, tt), Plain sign.CloseParen ∷ [], λ x. refl))

    go : (ts : List Lexeme) → Lawful (commas K) (λ x. x) (listed part) ts (listed part ts)
    go [] = rerun_end (commas K) (λ x. x) (listed part) (λ us. and_then (part us) (others part)) (and_then (part []) (others part)) refl (law [])
    go (Plain sign.CloseParen ∷ ts) =
        step_law (commas K) (λ x. x) (listed part) (Got []) (Plain sign.CloseParen) ts (Got [] ts) (λ x. refl)
        ((got_good (commas K) (λ x. Plain sign.CloseParen ∷ x) [] [] refl tt (λ x. refl)).law ts)
    go (t ∷ ts) = rerun_law (commas K) (λ x. x) (listed part) (λ us. and_then (part us) (others part)) t ts (and_then (part (t ∷ ts)) (others part)) (λ v. refl) (law (t ∷ ts))

-- ---- what was spelled is read again

-- no part begins there
abbrev pub NoStart : (Lexeme → Bool) → List Lexeme → Type 0
NoStart starts [] = Unit {0}
NoStart starts (t ∷ ts) = starts t ≡ false

none_again : {A : Type 0} (starts : Lexeme → Bool) (part : List Lexeme → Read A) (x : List Lexeme) → NoStart starts x → many starts part x ≡ Got [] x
none_again starts part [] none = many-end starts part
none_again starts part (t ∷ ts) none = many-stop starts part t ts none

-- parts are read again, where each of them is read again in front of what may follow it
pub many_again : {A : Type 0} (K : Construct A) (starts : Lexeme → Bool) (part : List Lexeme → Read A) (Q : K.Lined → Type 0)
    (Follows : List Lexeme → Type 0) → Shortens part → Fronts starts K.spell Q →
    ((t : Lexeme) (v : List Lexeme) → starts t ≡ true → Follows (t ∷ v)) →
    ((a : K.Lined) (y : List Lexeme) → Q a → Follows y → part (K.spell a y) ≡ Got (K.plain a) y) →
    (l : List K.Lined) (x : List Lexeme) → Each Q l → Follows x → NoStart starts x → many starts part (each K.spell l x) ≡ Got (map K.plain l) x
many_again K starts part Q Follows short front follows again [] x q f none = none_again starts part x none
many_again {A} K starts part Q Follows short front follows again (a ∷ l) x (q, q') f none = go l q' (many_again K starts part Q Follows short front follows again l x q' f none)
  where
    behind : (l : List K.Lined) → Each Q l → Follows (each K.spell l x)
    behind [] q = f
    behind (b ∷ l) (q, q') = let (t, v, is', st) = front b q (each K.spell l x) in rw is' (follows t v st)

    go : (l : List K.Lined) → Each Q l → many starts part (each K.spell l x) ≡ Got (map K.plain l) x → many starts part (each K.spell (a ∷ l) x) ≡ Got (map K.plain (a ∷ l)) x
    go l q' rest =
        let (t, v, is', st) = front a q (each K.spell l x) in
        let first : part (t ∷ v) ≡ Got (K.plain a) (each K.spell l x) = ap part (sym is') ∙ again a (each K.spell l x) q (behind l q') in
        ap (many starts part) is' ∙ many-start starts part short t v st ∙ ap (λ r. and_then r (λ a rest. and_then (many starts part rest) (λ l. Got (a ∷ l)))) first
        ∙ ap (λ r. and_then r (λ l. Got (K.plain a ∷ l))) rest

listed_step : {A : Type 0} (part : List Lexeme → Read A) (t : Lexeme) (ts : List Lexeme) → is sign.CloseParen t ≡ false → listed part (t ∷ ts) ≡ and_then (part (t ∷ ts)) (others part)
listed_step part (Plain sign.CloseParen) ts e = cc
listed_step part t ts e = refl

pub listed_again : {A : Type 0} (K : Construct A) (part : List Lexeme → Read A) (Q : K.Lined → Type 0) → Shortens (after sign.Comma part) →
    ((a : K.Lined) (x : List Lexeme) → Q a → (t : Lexeme) × (v : List Lexeme) × (K.spell a x ≡ t ∷ v) × (is sign.CloseParen t ≡ false)) →
    ((a : K.Lined) (t : Lexeme) (y : List Lexeme) → Q a → (is sign.Comma t ≡ true) → part (K.spell a (t ∷ y)) ≡ Got (K.plain a) (t ∷ y)) →
    ((a : K.Lined) (y : List Lexeme) → Q a → part (K.spell a (Plain sign.CloseParen ∷ y)) ≡ Got (K.plain a) (Plain sign.CloseParen ∷ y)) →
    (l : List K.Lined) (x : List Lexeme) → Each Q l → listed part (spelling.listed K.spell l x) ≡ Got (map K.plain l) x
listed_again K part Q short front again again' [] x q = refl
listed_again {A} K part Q short front again again' (a ∷ l) x (q, q') =
    let (t, v, is', other) = front a (each (after_comma K.spell) l (Plain sign.CloseParen ∷ x)) q in
    ap (listed part) is' ∙ listed_step part t v other ∙ ap (λ z. and_then (part z) (others part)) (sym is') ∙ first l q' ∙ rw (rest l q') refl
  where
    Follows : List Lexeme → Type 0
    Follows y = (a : K.Lined) → Q a → part (K.spell a y) ≡ Got (K.plain a) y

    rest : (l : List K.Lined) → Each Q l → many (is sign.Comma) (after sign.Comma part) (each (after_comma K.spell) l (Plain sign.CloseParen ∷ x)) ≡ Got (map K.plain l) (Plain sign.CloseParen ∷ x)
    rest l q' = many_again (comma K) (is sign.Comma) (after sign.Comma part) Q (λ y. (a : K.Lined) → Q a → part (K.spell a y) ≡ Got (K.plain a) y) short (comma_front K.spell Q)
        (λ t v st a q. again a t v q st) (λ a y q f. f a q) l (Plain sign.CloseParen ∷ x) q' (λ a q. again' a x q) refl

    first : (l : List K.Lined) → Each Q l → and_then (part (K.spell a (each (after_comma K.spell) l (Plain sign.CloseParen ∷ x)))) (others part)
        ≡ others part (K.plain a) (each (after_comma K.spell) l (Plain sign.CloseParen ∷ x))
    first [] q' = ap (λ r. and_then r (others part)) (again' a x q)
    first (b ∷ l) q' = ap (λ r. and_then r (others part)) (again a (Plain sign.Comma) (K.spell b (each (after_comma K.spell) l (Plain sign.CloseParen ∷ x))) q refl)

-- Laws of readers: what is read is spelled so, a fault depends on what stands before it and at it, and what
-- stands before it can be completed.
use Rattle.std.specs.Prelude.{◌≡◌, ℕ, ℤ, ◌<◌, Bool, true, false, cond, nat_le, List, [], ◌∷◌, ◌++◌, pos}
use Rattle.std.proofs.Common.{suc, refl, sym, ap, ◌∙◌, subst, append_assoc, arith}
use Rattle.std.proofs.lemmas.Bool.Decides.{nat_tests}
use Rattle.pst_grammar.specs.Syntax.{TypeWord}
use Rattle.pst_grammar.specs.declared.lexeme.Label.{Label}
use Rattle.pst_grammar.specs.declared.lexeme.Sign.{Sign}
use Rattle.pst_grammar.specs.declared.lexeme.Sign.TheVariants as sign
use Rattle.pst_grammar.specs.Lexemes.{Lexeme, Name, Number, Plain}
use Rattle.pst_grammar.specs.Spelling.{TypeText, Int, Named, type_word as plain_type, spelled_type}
use Rattle.pst_grammar.specs.Reader.{Read, Got, Bad, Unexpected, TooDeep, and_then, is, after, label, number, type_word, within}

-- What is read: the trees with all their lines, what is kept of them, their tokens, which of them are of the grammar, and which keep the limits.
pub record Construct (A : Type 0) : Type 1 where
  pub Lined : Type 0
  pub plain : Lined → A
  pub spell : Lined → List Lexeme → List Lexeme
  pub Fit : Lined → Type 0
  pub In : Lined → Type 0

-- the same first token, or both at the end
abbrev pub Same : List Lexeme → List Lexeme → Type 0
Same [] w = w ≡ []
Same (t ∷ u) w = (v : List Lexeme) × (w ≡ t ∷ v)

pub Same-append : (u x y : List Lexeme) → Same x y → Same (u ++ x) (u ++ y)
Same-append [] x y same = same
Same-append (t ∷ u) x y same = (u ++ y, refl)

-- the tokens of pre and u begin the text of a thing that Q allows
abbrev pub Begins : {L : Type 0} → (L → List Lexeme → List Lexeme) → (L → Type 0) → (List Lexeme → List Lexeme) → List Lexeme → Type 0
Begins {L} spell Q pre u = (a : L) × Q a × (c : List Lexeme) × ((x : List Lexeme) → spell a x ≡ pre (u ++ (c ++ x)))

-- the law of one run of a reader, which began after the tokens of pre, at ts
abbrev pub Lawful : {A : Type 0} → Construct A → (List Lexeme → List Lexeme) → (List Lexeme → Read A) → List Lexeme → Read A → Type 0
Lawful K pre run ts (Got a rest) =
    (a' : K.Lined) × (K.plain a' ≡ a) × K.In a' × (u : List Lexeme) × (ts ≡ u ++ rest) × ((x : List Lexeme) → K.spell a' x ≡ pre (u ++ x))
    × ((s : List Lexeme) → Same rest s → run (u ++ s) ≡ Got a s)
Lawful K pre run ts (Bad Unexpected rest) =
    (u : List Lexeme) × (ts ≡ u ++ rest) × Begins K.spell K.In pre u
    × ((s : List Lexeme) → Same rest s → run (u ++ s) ≡ Bad Unexpected s)
Lawful K pre run ts (Bad TooDeep rest) =
    (u : List Lexeme) × (t : Lexeme) × (v : List Lexeme) × (ts ≡ u ++ (t ∷ v)) × (rest ≡ t ∷ v) × Begins K.spell K.In pre u × Begins K.spell K.Fit pre (u ++ (t ∷ []))
    × ((s : List Lexeme) → Same (t ∷ v) s → run (u ++ s) ≡ Bad TooDeep s)

-- a reader that keeps the law wherever it runs, and where something can come
pub record Good {A : Type 0} (K : Construct A) (pre : List Lexeme → List Lexeme) (run : List Lexeme → Read A) : Type 0 where
  pub close : Begins K.spell K.In pre []
  pub law : (ts : List Lexeme) → Lawful K pre run ts (run ts)

-- a test, with what its outcome says
pub cond_law : {A : Type 0} (P : A → Type 0) (b : Bool) (x y : A) → (b ≡ true → P x) → (b ≡ false → P y) → P (cond b x y)
cond_law P true x y f g = f refl
cond_law P false x y f g = g refl

-- what can come behind a token can come with it
pub begins_token : {L : Type 0} (spell : L → List Lexeme → List Lexeme) (Q : L → Type 0) (pre : List Lexeme → List Lexeme) (t : Lexeme) →
    Begins spell Q (λ x. pre (t ∷ x)) [] → Begins spell Q pre []
begins_token spell Q pre t (a, q, c, sp) = (a, q, t ∷ c, sp)

-- a token of the construct, and the rest by a reader of its own
pub step_law : {A : Type 0} (K : Construct A) (pre : List Lexeme → List Lexeme) (run next : List Lexeme → Read A) (t : Lexeme) (ts : List Lexeme) (r : Read A) →
    ((x : List Lexeme) → run (t ∷ x) ≡ next x) → Lawful K (λ x. pre (t ∷ x)) next ts r → Lawful K pre run (t ∷ ts) r
step_law K pre run next t ts (Got a rest) e (a', pl, inn, u, at, sp, loc) =
    (a', pl, inn, t ∷ u, ap (λ x. t ∷ x) at, sp, λ s same. e (u ++ s) ∙ loc s same)
step_law K pre run next t ts (Bad Unexpected rest) e (u, at, b, loc) =
    (t ∷ u, ap (λ x. t ∷ x) at, b, λ s same. e (u ++ s) ∙ loc s same)
step_law K pre run next t ts (Bad TooDeep rest) e (u, k, v, at, is', b, b', loc) =
    (t ∷ u, k, v, ap (λ x. t ∷ x) at, is', b, b', λ s same. e (u ++ s) ∙ loc s same)

-- what is read stands there whole
pub got_good : {A : Type 0} (K : Construct A) (pre : List Lexeme → List Lexeme) (a' : K.Lined) (a : A) →
    K.plain a' ≡ a → K.In a' → ((x : List Lexeme) → K.spell a' x ≡ pre x) → Good K pre (Got a)
got_good K pre a' a pl inn sp = record { close = (a', inn, [], sp); law = λ ts. (a', pl, inn, [], refl, sp, λ s same. refl) }

-- another token than those that can stand here
pub wrong_law : {A : Type 0} (K : Construct A) (pre : List Lexeme → List Lexeme) (run : List Lexeme → Read A) (t : Lexeme) (ts : List Lexeme) →
    Begins K.spell K.In pre [] → ((v : List Lexeme) → run (t ∷ v) ≡ Bad Unexpected (t ∷ v)) → Lawful K pre run (t ∷ ts) (Bad Unexpected (t ∷ ts))
wrong_law K pre run t ts b e = ([], refl, b, λ s (v, same). rw same (e v))

-- the end, where something has to come
pub end_law : {A : Type 0} (K : Construct A) (pre : List Lexeme → List Lexeme) (run : List Lexeme → Read A) →
    Begins K.spell K.In pre [] → run [] ≡ Bad Unexpected [] → Lawful K pre run [] (Bad Unexpected [])
end_law K pre run b e = ([], refl, b, λ s same. rw same e)

-- another token stands behind what was read
pub stop_law : {A : Type 0} (K : Construct A) (pre : List Lexeme → List Lexeme) (run : List Lexeme → Read A) (a' : K.Lined) (a : A) (t : Lexeme) (ts : List Lexeme) →
    K.plain a' ≡ a → K.In a' → ((x : List Lexeme) → K.spell a' x ≡ pre x) → ((v : List Lexeme) → run (t ∷ v) ≡ Got a (t ∷ v)) → Lawful K pre run (t ∷ ts) (Got a (t ∷ ts))
stop_law K pre run a' a t ts pl inn sp e = (a', pl, inn, [], refl, sp, λ s (v, same). rw same (e v))

-- the end stands behind what was read
pub done_law : {A : Type 0} (K : Construct A) (pre : List Lexeme → List Lexeme) (run : List Lexeme → Read A) (a' : K.Lined) (a : A) →
    K.plain a' ≡ a → K.In a' → ((x : List Lexeme) → K.spell a' x ≡ pre x) → run [] ≡ Got a [] → Lawful K pre run [] (Got a [])
done_law K pre run a' a pl inn sp e = (a', pl, inn, [], refl, sp, λ s same. rw same e)

pub is_true : (s : Sign) (t : Lexeme) → is s t ≡ true → t ≡ Plain s
is_true sign.Null (Plain sign.Null) e = refl
is_true sign.Not (Plain sign.Not) e = refl
is_true sign.Int (Plain sign.Int) e = refl
is_true sign.New (Plain sign.New) e = refl
is_true sign.Else (Plain sign.Else) e = refl
is_true sign.OpenBrace (Plain sign.OpenBrace) e = refl
is_true sign.CloseBrace (Plain sign.CloseBrace) e = refl
is_true sign.OpenParen (Plain sign.OpenParen) e = refl
is_true sign.CloseParen (Plain sign.CloseParen) e = refl
is_true sign.Semicolon (Plain sign.Semicolon) e = refl
is_true sign.Colon (Plain sign.Colon) e = refl
is_true sign.Comma (Plain sign.Comma) e = refl
is_true sign.Dot (Plain sign.Dot) e = refl
is_true sign.Assign (Plain sign.Assign) e = refl
is_true s t e = cc

-- a sign that has to come
pub after_good : {A : Type 0} (K : Construct A) (pre : List Lexeme → List Lexeme) (s : Sign) (f : List Lexeme → Read A) →
    Good K (λ x. pre (Plain s ∷ x)) f → Good K pre (after s f)
after_good {A} K pre s f good = record { close = begins_token K.spell K.In pre (Plain s) good.close; law = go }
  where
    go : (ts : List Lexeme) → Lawful K pre (after s f) ts (after s f ts)
    go [] = end_law K pre (after s f) (begins_token K.spell K.In pre (Plain s) good.close) refl
    go (t ∷ ts) = pick (is s t) refl
      where
        pick : (b : Bool) → is s t ≡ b → Lawful K pre (after s f) (t ∷ ts) (after s f (t ∷ ts))
        pick true e =
            let here : t ≡ Plain s = is_true s t e in
            let step : (x : List Lexeme) → after s f (t ∷ x) ≡ f x = λ x. rw e refl in
            subst (λ r. Lawful K pre (after s f) (t ∷ ts) r) (sym (step ts))
            (step_law K pre (after s f) f t ts (f ts) step (subst (λ k. Lawful K (λ x. pre (k ∷ x)) f ts (f ts)) (sym here) (good.law ts)))
        pick false e =
            let bad : (x : List Lexeme) → after s f (t ∷ x) ≡ Bad Unexpected (t ∷ x) = λ x. rw e refl in
            subst (λ r. Lawful K pre (after s f) (t ∷ ts) r) (sym (bad ts))
            (wrong_law K pre (after s f) t ts (begins_token K.spell K.In pre (Plain s) good.close) bad)

pub some_label : Label
some_label = record { line = 0; name = [] }

-- a name that has to come
pub label_good : {A : Type 0} (K : Construct A) (pre : List Lexeme → List Lexeme) (f : Label → List Lexeme → Read A) →
    ((x : Label) → Good K (λ y. pre (Name x ∷ y)) (f x)) → Good K pre (λ ts. and_then (label ts) f)
label_good {A} K pre f good = record { close = close; law = go }
  where
    close : Begins K.spell K.In pre []
    close = begins_token K.spell K.In pre (Name some_label) (good some_label).close

    run : List Lexeme → Read A
    run ts = and_then (label ts) f

    go : (ts : List Lexeme) → Lawful K pre (λ ts. and_then (label ts) f) ts (and_then (label ts) f)
    go [] = end_law K pre (λ ts. and_then (label ts) f) close refl
    go (Name x ∷ ts) = step_law K pre (λ ts. and_then (label ts) f) (f x) (Name x) ts (f x ts) (λ y. refl) ((good x).law ts)
    go (t ∷ ts) = wrong_law K pre (λ ts. and_then (label ts) f) t ts close (λ v. refl)

-- a number that has to come
pub number_good : {A : Type 0} (K : Construct A) (pre : List Lexeme → List Lexeme) (f : ℤ → List Lexeme → Read A) →
    ((v : ℤ) → Good K (λ y. pre (Number v ∷ y)) (f v)) → Good K pre (λ ts. and_then (number ts) f)
number_good {A} K pre f good = record { close = close; law = go }
  where
    close : Begins K.spell K.In pre []
    close = begins_token K.spell K.In pre (Number (pos 0)) (good (pos 0)).close

    go : (ts : List Lexeme) → Lawful K pre (λ ts. and_then (number ts) f) ts (and_then (number ts) f)
    go [] = end_law K pre (λ ts. and_then (number ts) f) close refl
    go (Number v ∷ ts) = step_law K pre (λ ts. and_then (number ts) f) (f v) (Number v) ts (f v ts) (λ y. refl) ((good v).law ts)
    go (t ∷ ts) = wrong_law K pre (λ ts. and_then (number ts) f) t ts close (λ v. refl)

-- a type that has to come
pub type_good : {A : Type 0} (K : Construct A) (pre : List Lexeme → List Lexeme) (f : TypeWord → List Lexeme → Read A) →
    ((k : TypeText) → Good K (λ y. pre (spelled_type k y)) (f (plain_type k))) → Good K pre (λ ts. and_then (type_word ts) f)
type_good {A} K pre f good = record { close = close; law = go }
  where
    close : Begins K.spell K.In pre []
    close = begins_token K.spell K.In pre (Plain sign.Int) (good Int).close

    go : (ts : List Lexeme) → Lawful K pre (λ ts. and_then (type_word ts) f) ts (and_then (type_word ts) f)
    go [] = end_law K pre (λ ts. and_then (type_word ts) f) close refl
    go (Plain sign.Int ∷ ts) = step_law K pre (λ ts. and_then (type_word ts) f) (f (plain_type Int)) (Plain sign.Int) ts (f (plain_type Int) ts) (λ y. refl) ((good Int).law ts)
    go (Name x ∷ ts) = step_law K pre (λ ts. and_then (type_word ts) f) (f (plain_type (Named x))) (Name x) ts (f (plain_type (Named x)) ts) (λ y. refl) ((good (Named x)).law ts)
    go (t ∷ ts) = wrong_law K pre (λ ts. and_then (type_word ts) f) t ts close (λ v. refl)

-- a token that begins one more level, over a part of height h
pub within_law : {A : Type 0} (K : Construct A) (pre : List Lexeme → List Lexeme) (run : List Lexeme → Read A) (t : Lexeme) (ts : List Lexeme) (b h : ℕ) (g : List Lexeme → Read A) →
    ((x : List Lexeme) → run (t ∷ x) ≡ within h b (t ∷ x) (g x)) →
    Begins K.spell K.In pre [] → Begins K.spell K.Fit pre (t ∷ []) →
    (h < b → Lawful K (λ x. pre (t ∷ x)) g ts (g ts)) →
    Lawful K pre run (t ∷ ts) (within h b (t ∷ ts) (g ts))
within_law K pre run t ts b h g e close close' next =
    cond_law (λ r. Lawful K pre run (t ∷ ts) r) (nat_le (suc h) b) (g ts) (Bad TooDeep (t ∷ ts))
    (λ q. step_law K pre run g t ts (g ts) (λ x. e x ∙ rw q refl) (next (grind (arith, nat_tests))))
    (λ q. ([], t, ts, refl, refl, close, close', λ s (v, same). rw same (e v ∙ rw q refl)))

-- what completes the part completes the whole, where each part can be completed
pub begins_law : {L M : Type 0} (spellA : L → List Lexeme → List Lexeme) (spellB : M → List Lexeme → List Lexeme) (QA : L → Type 0) (QB : M → Type 0)
    (from pre : List Lexeme → List Lexeme) (u : List Lexeme) →
    Begins spellA QA from u → ((a : L) → QA a → Begins spellB QB (λ x. pre (spellA a x)) []) → Begins spellB QB (λ x. pre (from x)) u
begins_law spellA spellB QA QB from pre u (a, q, c, sp) close =
    let (b, q', c', sp') = close a q in
    (b, q', c ++ c', λ x. sp' x ∙ ap pre (sp (c' ++ x) ∙ ap (λ y. from (u ++ y)) (sym (append_assoc c c' x))))

-- after a part that was read
after_law : {A B : Type 0} (K : Construct A) (J : Construct B) (from pre : List Lexeme → List Lexeme) (runA : List Lexeme → Read A)
    (f : A → List Lexeme → Read B) (ts : List Lexeme) (a' : K.Lined) (a : A) (rest u : List Lexeme) →
    ts ≡ u ++ rest → ((x : List Lexeme) → K.spell a' x ≡ from (u ++ x)) → ((s : List Lexeme) → Same rest s → runA (u ++ s) ≡ Got a s) →
    (r : Read B) → Lawful J (λ x. pre (K.spell a' x)) (f a) rest r →
    Lawful J (λ x. pre (from x)) (λ s. and_then (runA s) f) ts r
after_law K J from pre runA f ts a' a rest u at sp loc (Got b rest') (b', pl, inn, u', at', sp', loc') = (
  b',
  pl,
  inn,
  u ++ u',
  at ∙ ap (λ x. u ++ x) at' ∙ sym (append_assoc u u' rest'),
  λ x. sp' x ∙ ap pre (sp (u' ++ x) ∙ ap from (sym (append_assoc u u' x))),
  λ s same. ap (λ x. and_then (runA x) f) (append_assoc u u' s) ∙ ap (λ x. and_then x f) (loc (u' ++ s) (rw at' (Same-append u' rest' s same))) ∙ loc' s same,
)
after_law K J from pre runA f ts a' a rest u at sp loc (Bad Unexpected rest') (u', at', (b, q, c, sp'), loc') = (
  u ++ u',
  at ∙ ap (λ x. u ++ x) at' ∙ sym (append_assoc u u' rest'),
  (b, q, c, λ x. sp' x ∙ ap pre (sp (u' ++ (c ++ x)) ∙ ap from (sym (append_assoc u u' (c ++ x))))),
  λ s same. ap (λ x. and_then (runA x) f) (append_assoc u u' s) ∙ ap (λ x. and_then x f) (loc (u' ++ s) (rw at' (Same-append u' rest' s same))) ∙ loc' s same,
)
after_law K J from pre runA f ts a' a rest u at sp loc (Bad TooDeep rest') (u', t, v, at', is', (b, q, c, sp'), (b'', q'', c'', sp''), loc') = (
  u ++ u',
  t,
  v,
  at ∙ ap (λ x. u ++ x) at' ∙ sym (append_assoc u u' (t ∷ v)),
  is',
  (b, q, c, λ x. sp' x ∙ ap pre (sp (u' ++ (c ++ x)) ∙ ap from (sym (append_assoc u u' (c ++ x))))),
  (b'', q'', c'', λ x. sp'' x ∙ ap pre (sp ((u' ++ (t ∷ [])) ++ (c'' ++ x)) ∙ ap from (simp append_assoc))),
  λ s same. ap (λ x. and_then (runA x) f) (append_assoc u u' s) ∙ ap (λ x. and_then x f) (loc (u' ++ s) (rw at' (Same-append u' (t ∷ v) s same))) ∙ loc' s same,
)

-- one part, whose reader began after the tokens of from, and then the others
pub bind_law : {A B : Type 0} (K : Construct A) (J : Construct B) (from pre : List Lexeme → List Lexeme) (runA : List Lexeme → Read A) (f : A → List Lexeme → Read B) (ts : List Lexeme) (r : Read A) →
    Lawful K from runA ts r →
    ((a : K.Lined) (rest : List Lexeme) → r ≡ Got (K.plain a) rest → K.In a → Lawful J (λ x. pre (K.spell a x)) (f (K.plain a)) rest (f (K.plain a) rest)) →
    ((a : K.Lined) → K.In a → Begins J.spell J.In (λ x. pre (K.spell a x)) []) →
    ((a : K.Lined) → K.Fit a → Begins J.spell J.Fit (λ x. pre (K.spell a x)) []) →
    Lawful J (λ x. pre (from x)) (λ s. and_then (runA s) f) ts (and_then r f)
bind_law K J from pre runA f ts (Got a rest) (a', pl, inn, u, at, sp, loc) next close close' =
    after_law K J from pre runA f ts a' a rest u at sp loc (f a rest)
    (subst (λ z. Lawful J (λ x. pre (K.spell a' x)) (f z) rest (f z rest)) pl (next a' rest (ap (λ z. Got z rest) (sym pl)) inn))
bind_law K J from pre runA f ts (Bad Unexpected rest) (u, at, b, loc) next close close' =
    (u, at, begins_law K.spell J.spell K.In J.In from pre u b close, λ s same. ap (λ x. and_then x f) (loc s same))
bind_law K J from pre runA f ts (Bad TooDeep rest) (u, t, v, at, is', b, b', loc) next close close' = (
  u,
  t,
  v,
  at,
  is',
  begins_law K.spell J.spell K.In J.In from pre u b close,
  begins_law K.spell J.spell K.Fit J.Fit from pre (u ++ (t ∷ [])) b' close',
  λ s same. ap (λ x. and_then x f) (loc s same),
)

-- the same wherever it runs
pub bind_from_good : {A B : Type 0} (K : Construct A) (J : Construct B) (from pre : List Lexeme → List Lexeme) (runA : List Lexeme → Read A) (f : A → List Lexeme → Read B) →
    Good K from runA →
    ((a : K.Lined) → K.In a → Good J (λ x. pre (K.spell a x)) (f (K.plain a))) →
    ((a : K.Lined) → K.Fit a → Begins J.spell J.Fit (λ x. pre (K.spell a x)) []) →
    Good J (λ x. pre (from x)) (λ s. and_then (runA s) f)
bind_from_good K J from pre runA f good next close' = record {
  close = begins_law K.spell J.spell K.In J.In from pre [] good.close (λ a q. (next a q).close);
  law = λ ts. bind_law K J from pre runA f ts (runA ts) (good.law ts) (λ a rest e q. (next a q).law rest) (λ a q. (next a q).close) close';
}

pub bind_good : {A B : Type 0} (K : Construct A) (J : Construct B) (pre : List Lexeme → List Lexeme) (runA : List Lexeme → Read A) (f : A → List Lexeme → Read B) →
    Good K (λ x. x) runA →
    ((a : K.Lined) → K.In a → Good J (λ x. pre (K.spell a x)) (f (K.plain a))) →
    ((a : K.Lined) → K.Fit a → Begins J.spell J.Fit (λ x. pre (K.spell a x)) []) →
    Good J pre (λ s. and_then (runA s) f)
bind_good K J pre runA f good next close' = bind_from_good K J (λ x. x) pre runA f good next close'

Same-start : (u rest s : List Lexeme) (t : Lexeme) (ts : List Lexeme) → t ∷ ts ≡ u ++ rest → Same rest s → (v : List Lexeme) × (u ++ s ≡ t ∷ v)
Same-start u rest s t ts at same =
    let h : Same (u ++ rest) (u ++ s) = Same-append u rest s same in
    rw (← at) at h

-- a reader that does the same from this first token on
pub rerun_law : {A : Type 0} (K : Construct A) (pre : List Lexeme → List Lexeme) (run run' : List Lexeme → Read A) (t : Lexeme) (ts : List Lexeme) (r : Read A) →
    ((x : List Lexeme) → run (t ∷ x) ≡ run' (t ∷ x)) → Lawful K pre run' (t ∷ ts) r → Lawful K pre run (t ∷ ts) r
rerun_law K pre run run' t ts (Got a rest) e (a', pl, inn, u, at, sp, loc) =
    (a', pl, inn, u, at, sp, λ s same. let (v, is') = Same-start u rest s t ts at same in ap run is' ∙ e v ∙ ap run' (sym is') ∙ loc s same)
rerun_law K pre run run' t ts (Bad Unexpected rest) e (u, at, b, loc) =
    (u, at, b, λ s same. let (v, is') = Same-start u rest s t ts at same in ap run is' ∙ e v ∙ ap run' (sym is') ∙ loc s same)
rerun_law K pre run run' t ts (Bad TooDeep rest) e (u, k, w, at, is'', b, b', loc) =
    (u, k, w, at, is'', b, b', λ s same. let (v, is') = Same-start u (k ∷ w) s t ts at same in ap run is' ∙ e v ∙ ap run' (sym is') ∙ loc s same)

-- a reader that does the same at the end
pub rerun_end : {A : Type 0} (K : Construct A) (pre : List Lexeme → List Lexeme) (run run' : List Lexeme → Read A) (r : Read A) → run [] ≡ run' [] → Lawful K pre run' [] r → Lawful K pre run [] r
rerun_end K pre run run' (Got a rest) e (a', pl, inn, [], at, sp, loc) =
    (a', pl, inn, [], at, sp, λ s same. let none : s ≡ [] = subst (λ z. Same z s) (sym at) same in rw none (e ∙ loc [] (rw (← at) refl)))
rerun_end K pre run run' (Got a rest) e (a', pl, inn, t ∷ u, at, sp, loc) = cc
rerun_end K pre run run' (Bad Unexpected rest) e ([], at, b, loc) = ([], at, b, λ s same. let none : s ≡ [] = subst (λ z. Same z s) (sym at) same in rw none (e ∙ loc [] (rw (← at) refl)))
rerun_end K pre run run' (Bad Unexpected rest) e (t ∷ u, at, b, loc) = cc
rerun_end K pre run run' (Bad TooDeep rest) e ([], t, v, at, is', b, b', loc) = cc
rerun_end K pre run run' (Bad TooDeep rest) e (k ∷ u, t, v, at, is', b, b', loc) = cc

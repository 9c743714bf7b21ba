-- What loops that read many parts keep.
use Rattle.std.specs.Prelude.{◌≡◌, Bool, true, false, List, [], ◌∷◌, ◌++◌, map}
use Rattle.std.proofs.Common.{refl, sym, ap, ◌∙◌, subst, append-nil, append_assoc}
use Rattle.pst_grammar.specs.declared.lexeme.Sign.TheVariants as sign
use Rattle.pst_parse_expressions.specs.declared.stop.Stop.{Stop}
use Rattle.pst_parse_expressions.specs.declared.stop.Stop.TheVariants as stop
use Rattle.pst_grammar.specs.Lexemes.{Lexeme, Plain}
use Rattle.pst_grammar.specs.Declarations.{any}
use Rattle.pst_grammar.specs.Reader.{Read, Got, Bad, and_then, is, expect, after, many}
use Rattle.pst_parse_expressions.specs.View.{Stops, Lacks}
use Rattle.pst_parse_statements.specs.View.{begins}
use Rattle.pst_grammar.proofs.Many.{Shortens, many-start, many-stop, many-end}

pub map-append : {A B : Type 0} (f : A → B) (xs : List A) (a : A) → map f (xs ++ (a ∷ [])) ≡ map f xs ++ (f a ∷ [])
map-append f [] a = refl
map-append f (x ∷ xs) a = ap (λ l. f x ∷ l) (map-append f xs a)

-- what reading gives, behind parts that were read before
abbrev pub behind : {A : Type 0} → List A → Read (List A) → Read (List A)
behind xs r = and_then r (λ l. Got (xs ++ l))

push : {A : Type 0} (xs : List A) (a : A) (r : Read (List A)) → behind xs (and_then r (λ l. Got (a ∷ l))) ≡ behind (xs ++ (a ∷ [])) r
push xs a (Got l rest) = ap (λ z. Got z rest) (sym (append_assoc xs (a ∷ []) l))
push xs a (Bad k rest) = refl

-- one more part
pub loop_step : {A : Type 0} (starts : Lexeme → Bool) (part : List Lexeme → Read A) (xs : List A) (ts rest : List Lexeme) (a : A) → Shortens part → begins starts ts ≡ true → part ts ≡ Got a rest →
    behind xs (many starts part ts) ≡ behind (xs ++ (a ∷ [])) (many starts part rest)
loop_step starts part xs [] rest a short st e = cc
loop_step starts part xs (t ∷ ts) rest a short st e = rw (many-start starts part short t ts st, e) (push xs a (many starts part rest))

-- no more parts
pub loop_stop : {A : Type 0} (starts : Lexeme → Bool) (part : List Lexeme → Read A) (xs : List A) (ts : List Lexeme) → begins starts ts ≡ false → behind xs (many starts part ts) ≡ Got xs ts
loop_stop starts part xs [] st = rw (many-end starts part) (ap (λ l. Got l []) (append-nil xs))
loop_stop starts part xs (t ∷ ts) st = rw (many-stop starts part t ts st) (ap (λ l. Got l (t ∷ ts)) (append-nil xs))

-- a fault in a part
pub loop_fault : {A : Type 0} (starts : Lexeme → Bool) (part : List Lexeme → Read A) (xs : List A) (ts : List Lexeme) (e : Stop) → Shortens part → begins starts ts ≡ true → Stops e (part ts) →
    Stops e (behind xs (many starts part ts))
loop_fault starts part xs [] e short st bad = let no_start : false ≡ true = st in cc
loop_fault starts part xs (t ∷ ts) (stop.Unexpected s) short st bad = rw (many-start starts part short t ts st, bad) refl
loop_fault starts part xs (t ∷ ts) (stop.TooDeep s) short st bad = rw (many-start starts part short t ts st, bad) refl
loop_fault starts part xs (t ∷ ts) stop.Memory short st bad = tt

-- ---- with commas

-- what stands behind parts that were read before, up to the `)`
abbrev pub closing : {A : Type 0} → (List Lexeme → Read A) → List A → List Lexeme → Read (List A)
closing part xs ts = and_then (many (is sign.Comma) (after sign.Comma part) ts) (λ l. after sign.CloseParen (Got (xs ++ l)))

pub comma_step : {A : Type 0} (part : List Lexeme → Read A) (xs : List A) (ts next rest : List Lexeme) (a : A) → Shortens (after sign.Comma part)
    → ts ≡ Plain sign.Comma ∷ next → part next ≡ Got a rest →
    closing part xs ts ≡ closing part (xs ++ (a ∷ [])) rest
comma_step {A} part xs ts next rest a short at e =
    rw (at, many-start (is sign.Comma) (after sign.Comma part) short (Plain sign.Comma) next refl, e) (go (many (is sign.Comma) (after sign.Comma part) rest))
  where
    go : (r : Read (List A)) → and_then (and_then r (λ l. Got (a ∷ l))) (λ l. after sign.CloseParen (Got (xs ++ l))) ≡ and_then r (λ l. after sign.CloseParen (Got ((xs ++ (a ∷ [])) ++ l)))
    go (Got l s) = ap (λ z. after sign.CloseParen (Got z) s) (sym (append_assoc xs (a ∷ []) l))
    go (Bad k s) = refl

pub comma_fault : {A : Type 0} (part : List Lexeme → Read A) (xs : List A) (ts next : List Lexeme) (e : Stop) → Shortens (after sign.Comma part) → ts ≡ Plain sign.Comma ∷ next → Stops e (part next) →
    Stops e (closing part xs ts)
comma_fault part xs ts next (stop.Unexpected s) short at bad = rw (at, many-start (is sign.Comma) (after sign.Comma part) short (Plain sign.Comma) next refl, bad) refl
comma_fault part xs ts next (stop.TooDeep s) short at bad = rw (at, many-start (is sign.Comma) (after sign.Comma part) short (Plain sign.Comma) next refl, bad) refl
comma_fault part xs ts next stop.Memory short at bad = tt

pub comma_stop : {A : Type 0} (part : List Lexeme → Read A) (xs : List A) (ts : List Lexeme) → Lacks sign.Comma ts → closing part xs ts ≡ after sign.CloseParen (Got xs) ts
comma_stop part xs [] none = rw (many-end (is sign.Comma) (after sign.Comma part)) (ap (λ l. after sign.CloseParen (Got l) []) (append-nil xs))
comma_stop part xs (t ∷ ts) none = rw (many-stop (is sign.Comma) (after sign.Comma part) t ts none) (ap (λ l. after sign.CloseParen (Got l) (t ∷ ts)) (append-nil xs))

-- ---- the steps of the code, where `whole` is what reading from the start gives

pub loop_more : {A X : Type 0} (starts : Lexeme → Bool) (part : List Lexeme → Read A) (view : X → A) (xs ys : List X) (a : X) (ts rest : List Lexeme) (whole : Read (List A)) → Shortens part →
    ys ≡ xs ++ (a ∷ []) → true ≡ begins starts ts → part ts ≡ Got (view a) rest → behind (map view xs) (many starts part ts) ≡ whole → behind (map view ys) (many starts part rest) ≡ whole
loop_more starts part view xs ys a ts rest whole short pushed st e inv =
    ap (λ l. behind (map view l) (many starts part rest)) pushed ∙ ap (λ l. behind l (many starts part rest)) (map-append view xs a)
    ∙ sym (loop_step starts part (map view xs) ts rest (view a) short (sym st) e) ∙ inv

pub loop_done : {A X : Type 0} (starts : Lexeme → Bool) (part : List Lexeme → Read A) (view : X → A) (xs : List X) (ts : List Lexeme) (whole : Read (List A)) →
    false ≡ begins starts ts → behind (map view xs) (many starts part ts) ≡ whole → whole ≡ Got (map view xs) ts
loop_done starts part view xs ts whole st inv = sym inv ∙ loop_stop starts part (map view xs) ts (sym st)

pub loop_bad : {A X : Type 0} (starts : Lexeme → Bool) (part : List Lexeme → Read A) (view : X → A) (xs : List X) (ts : List Lexeme) (whole : Read (List A)) (e : Stop) → Shortens part →
    true ≡ begins starts ts → Stops e (part ts) → behind (map view xs) (many starts part ts) ≡ whole → Stops e whole
loop_bad starts part view xs ts whole e short st bad inv = subst (λ r. Stops e r) inv (loop_fault starts part (map view xs) ts e short (sym st) bad)

pub comma_more : {A X : Type 0} (part : List Lexeme → Read A) (view : X → A) (xs ys : List X) (a : X) (ts next rest : List Lexeme) (whole : Read (List A)) → Shortens (after sign.Comma part) →
    ys ≡ xs ++ (a ∷ []) → ts ≡ Plain sign.Comma ∷ next → part next ≡ Got (view a) rest → closing part (map view xs) ts ≡ whole → closing part (map view ys) rest ≡ whole
comma_more part view xs ys a ts next rest whole short pushed at e inv =
    ap (λ l. closing part (map view l) rest) pushed ∙ ap (λ l. closing part l rest) (map-append view xs a) ∙ sym (comma_step part (map view xs) ts next rest (view a) short at e) ∙ inv

pub comma_bad : {A X : Type 0} (part : List Lexeme → Read A) (view : X → A) (xs : List X) (ts next : List Lexeme) (whole : Read (List A)) (e : Stop) → Shortens (after sign.Comma part) →
    ts ≡ Plain sign.Comma ∷ next → Stops e (part next) → closing part (map view xs) ts ≡ whole → Stops e whole
comma_bad part view xs ts next whole e short at bad inv = subst (λ r. Stops e r) inv (comma_fault part (map view xs) ts next e short at bad)

pub comma_closed : {A X : Type 0} (part : List Lexeme → Read A) (view : X → A) (xs : List X) (ts rest : List Lexeme) (whole : Read (List A)) →
    Lacks sign.Comma ts → expect sign.CloseParen ts ≡ Got tt rest → closing part (map view xs) ts ≡ whole → whole ≡ Got (map view xs) rest
comma_closed part view xs ts rest whole none close inv = sym inv ∙ comma_stop part (map view xs) ts none ∙ rw close refl

pub comma_unclosed : {A X : Type 0} (part : List Lexeme → Read A) (view : X → A) (xs : List X) (ts : List Lexeme) (whole : Read (List A)) (e : Stop) →
    Lacks sign.Comma ts → Stops e (expect sign.CloseParen ts) → closing part (map view xs) ts ≡ whole → Stops e whole
comma_unclosed part view xs ts whole (stop.Unexpected s) none bad inv = sym inv ∙ comma_stop part (map view xs) ts none ∙ rw bad refl
comma_unclosed part view xs ts whole (stop.TooDeep s) none bad inv = sym inv ∙ comma_stop part (map view xs) ts none ∙ rw bad refl
comma_unclosed part view xs ts whole stop.Memory none bad inv = tt

pub stops_bind : {A B : Type 0} (r : Read A) (f : A → List Lexeme → Read B) (e : Stop) → Stops e r → Stops e (and_then r f)
stops_bind r f (stop.Unexpected s) bad = rw bad refl
stops_bind r f (stop.TooDeep s) bad = rw bad refl
stops_bind r f stop.Memory bad = tt

-- where no token stands, the end is
pub no_token : (ts : List Lexeme) → false ≡ begins any ts → ts ≡ []
no_token [] e = refl
no_token (t ∷ ts) e = cc

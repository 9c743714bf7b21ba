-- How lines are cut at the separator line.
use Rattle.std.proofs.Common.{◌≡◌, ℕ, cond, true, false, List, [], ◌∷◌, ◌++◌, refl, sym, ap, ◌∙◌, Option, None, Some, append-nil, append_assoc}
use Rattle.std.specs.Option.{option_map}
use Rattle.std.specs.Io.KnownBytes.{Consumes, IsAtEnd, prepend_known}
use Rattle.pst_io.specs.Text.{lines_of}
use Rattle.pst_io.specs.Input.{InputState, Hands, Gives, AreNextLines, pending}
use Rattle.pst_script.specs.Words.{is_separator}
use Rattle.pst_cli_scripts.specs.Input.{CutInput, behind_line, cut, or_all}
use Rattle.pst_cli_scripts.specs.Reading.{IsTextOf}

abbrev pub in_front : List ℕ → CutInput → CutInput
in_front text c = record c { text = text ++ c.text }

-- these whole lines have no separator among them, and this text
abbrev pub IsBefore : List (List ℕ) → List ℕ → Type 0
IsBefore given text = (more : List (List ℕ)) → cut (given ++ more) ≡ option_map (in_front text) (cut more)

same_cut : (o : Option CutInput) → o ≡ option_map (in_front []) o
same_cut None = refl
same_cut (Some c) = refl

pub begins : IsBefore [] []
begins = λ more. same_cut (cut more)

past : (line : List ℕ) (lines : List (List ℕ)) → is_separator line ≡ false → cut (line ∷ lines) ≡ option_map (behind_line line) (cut lines)
past line lines e = ap (λ b. cond b (Some (record { text = []; separator = line; script = lines })) (option_map (behind_line line) (cut lines))) e

found : (line : List ℕ) (lines : List (List ℕ)) → is_separator line ≡ true → cut (line ∷ lines) ≡ Some (record { text = []; separator = line; script = lines })
found line lines e = ap (λ b. cond b (Some (record { text = []; separator = line; script = lines })) (option_map (behind_line line) (cut lines))) e

joined : (text line rest : List ℕ) → text ++ (line ++ (10 ∷ rest)) ≡ (text ++ (line ++ 10 ∷ [])) ++ rest
joined text line rest = sym (append_assoc text (line ++ 10 ∷ []) rest ∙ ap (λ l. text ++ l) (append_assoc line (10 ∷ []) rest))

both : (text line : List ℕ) (o : Option CutInput) → option_map (in_front text) (option_map (behind_line line) o) ≡ option_map (in_front (text ++ (line ++ 10 ∷ []))) o
both text line None = refl
both text line (Some c) = ap (λ t. Some (record { text = t; separator = c.separator; script = c.script })) (joined text line c.text)

-- one more line that is no separator
pub goes_on : (given : List (List ℕ)) (text line : List ℕ) → IsBefore given text → is_separator line ≡ false → IsBefore (given ++ line ∷ []) (text ++ (line ++ 10 ∷ []))
goes_on given text line p e = λ more.
    ap cut (append_assoc given (line ∷ []) more) ∙ p (line ∷ more) ∙ ap (option_map (in_front text)) (past line more e) ∙ both text line (cut more)

pub none_yet : (given : List (List ℕ)) (text : List ℕ) → IsBefore given text → cut given ≡ None
none_yet given text p = ap cut (sym (append-nil given)) ∙ p []

pub none_after : (given : List (List ℕ)) (text line : List ℕ) → IsBefore given text → is_separator line ≡ false → cut (given ++ line ∷ []) ≡ None
none_after given text line p e = p (line ∷ []) ∙ ap (option_map (in_front text)) (past line [] e)

-- the separator line
pub at_separator : (given : List (List ℕ)) (text line : List ℕ) → IsBefore given text → is_separator line ≡ true
    → (more : List (List ℕ)) → cut ((given ++ line ∷ []) ++ more) ≡ Some (record { text = text; separator = line; script = more })
at_separator given text line p e more =
    ap cut (append_assoc given (line ∷ []) more) ∙ p (line ∷ more) ∙ ap (option_map (in_front text)) (found line more e)
    ∙ ap (λ t. Some (record { text = t; separator = line; script = more })) (append-nil text)

pub told_separator : (a b : Option (List ℕ)) (given : List (List ℕ)) (text line : List ℕ) → IsBefore given text → is_separator line ≡ true
    → AreNextLines a b (given ++ line ∷ []) → IsTextOf a b text line
told_separator None b given text line p e told = tt
told_separator (Some x) None given text line p e told = absurd told
told_separator (Some x) (Some y) given text line p e told = ap (λ l. or_all x (cut l)) told ∙ ap (or_all x) (at_separator given text line p e (lines_of y))

whole_text : (held bytes x y text held' : List ℕ) → x ≡ bytes ++ y → held ++ bytes ≡ text ++ held' → held' ≡ [] → y ≡ [] → held ++ x ≡ text
whole_text held bytes x y text held' took kept none end =
    ap (λ l. held ++ l) (took ∙ ap (λ l. bytes ++ l) end ∙ append-nil bytes) ∙ kept ∙ ap (λ l. text ++ l) none ∙ append-nil text

told_all : (left left' : Option (List ℕ)) (held bytes text held' : List ℕ) (given : List (List ℕ)) → Consumes left left' bytes
    → held ++ bytes ≡ text ++ held' → held' ≡ [] → IsAtEnd left' → AreNextLines (prepend_known held left) (prepend_known held' left') given
    → cut given ≡ None → IsTextOf (prepend_known held left) (prepend_known held' left') text []
told_all None left' held bytes text held' given took kept none end told clear = tt
told_all (Some x) None held bytes text held' given took kept none end told clear = absurd took
told_all (Some x) (Some y) held bytes text held' given took kept none end told clear =
    let empty : held' ++ y ≡ [] = ap (λ l. l ++ y) none ∙ end in
    ap (λ l. or_all (held ++ x) (cut l)) (told ∙ ap (λ l. given ++ lines_of l) empty ∙ append-nil given) ∙ ap (or_all (held ++ x)) clear
    ∙ ap (λ t. record { text = t; separator = []; script = [] }) (whole_text held bytes x y text held' took kept none end)
    ∙ ap (λ l. record { text = text; separator = []; script = lines_of l }) (sym empty)

-- the input ended before a separator line
pub told_end : (a : InputState) (left : Option (List ℕ)) (b : InputState) (left' : Option (List ℕ)) (given : List (List ℕ)) (text : List ℕ)
    → Hands a left b left' text → Gives a left b left' given → cut given ≡ None → b.held ≡ [] → IsAtEnd left' → IsTextOf (pending a left) (pending b left') text []
told_end a left b left' given text hands gives clear none end =
    told_all left left' a.held hands.bytes text b.held given hands.consumed hands.kept none end gives.told clear

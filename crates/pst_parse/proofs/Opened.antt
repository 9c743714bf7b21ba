-- What a program begins with, and the program as a whole.
use Rattle.std.specs.Prelude.{◌≡◌, ℕ, ◌≤◌, ◌<◌, ◌-◌, Bool, true, false, List, [], ◌∷◌, ◌++◌, length, take, drop, Err}
use Rattle.std.proofs.Common.{refl, sym, ap, ◌∙◌, subst, arith, inl, inr, append-nil, append_assoc}
use Rattle.std.proofs.lemmas.List.{length-map, map-append, take-append-drop, drop-append-le}
use Rattle.pst_parse_expressions.specs.declared.lexeme.Atom.{Atom}
use Rattle.pst_lex.specs.declared.lexer.Lexer.{Lexer}
use Rattle.pst_grammar.specs.Lexemes.{Lexeme, Name, Number}
use Rattle.pst_parse_expressions.specs.View.{lexeme_of, lexemes_of}
use Rattle.pst_grammar.specs.Reader.{Got, Bad, Fault, Unexpected, TooDeep, and_then}
use Rattle.pst_grammar.specs.Declarations.{declarations, reading_program, second, two, is_two}
use Rattle.pst_parse.specs.declared.window.Window.{Window}
use Rattle.pst_parse.specs.declared.fault.ParseFault.{ParseFault}
use Rattle.pst_parse.specs.declared.fault.ParseFault.TheVariants as fault
use Rattle.pst_parse.specs.Answers.{IsReading, StopsOn}
use Rattle.pst_parse_declarations.specs.View.{BeginsOtherwise, BeginsWithWord}
use Rattle.pst_parse.specs.Window.{Ahead, EndsOn, Follows, IsFilled}
use Rattle.pst_parse.specs.Taking.{last, StandsOn, HasRoom, AreRead, IsOpening}
use Rattle.pst_parse.proofs.Parsed.{last_same, last_within}
use Rattle.pst_parse.proofs.Windows.{none_behind}

-- where the first token is not the word of language 2, what stands there is read in language 1
otherwise : (ts : List Lexeme) → BeginsOtherwise ts → reading_program 63 15 ts ≡ declarations 1 63 15 ts
otherwise [] other = refl
otherwise (Name x ∷ ts) other = rw other refl
otherwise (t ∷ ts) other = refl

-- so it is where others follow, if any stands there
otherwise_on : (ts later : List Lexeme) → BeginsOtherwise ts → (ts ≡ [] → later ≡ []) → BeginsOtherwise (ts ++ later)
otherwise_on [] later other none = rw (none refl) tt
otherwise_on (Name x ∷ ts) later other none = other
otherwise_on (t ∷ ts) later other none = tt

-- behind the word the number 2 has to come
with_word : (ts rest later : List Lexeme) → BeginsWithWord ts rest → reading_program 63 15 (ts ++ later) ≡ second 63 15 (rest ++ later)
with_word [] rest later begins = absurd begins
with_word (Name x ∷ ts) rest later (word, same) = rw (word, same) refl
with_word (t ∷ ts) rest later begins = absurd begins

-- the word is the first token
word_first : (ts rest : List Lexeme) → BeginsWithWord ts rest → (t : Lexeme) × (ts ≡ t ∷ rest)
word_first [] rest begins = absurd begins
word_first (Name x ∷ ts) rest (word, same) = (Name x, ap (λ y. Name x ∷ y) same)
word_first (t ∷ ts) rest begins = absurd begins

-- the number 2 stands there, whatever follows
two_on : (ts rest later : List Lexeme) → two ts ≡ Got tt rest → (two (ts ++ later) ≡ Got tt (rest ++ later)) × ((front : List Lexeme) × (ts ≡ front ++ rest))
two_on [] rest later e = cc
two_on (Number v ∷ ts) rest later e = pick (is_two v) refl
  where
    pick : (b : Bool) → is_two v ≡ b → (two (Number v ∷ ts ++ later) ≡ Got tt (rest ++ later)) × ((front : List Lexeme) × (Number v ∷ ts ≡ front ++ rest))
    pick true q =
        let read : two (Number v ∷ ts) ≡ Got tt ts = rw q refl in
        let same : ts ≡ rest = cc in
        let read' : two (Number v ∷ ts ++ later) ≡ Got tt (ts ++ later) = rw q refl in
        (read' ∙ ap (λ x. Got tt (x ++ later)) same, (Number v ∷ [], ap (λ x. Number v ∷ x) same))
    pick false q = let read : two (Number v ∷ ts) ≡ Bad Unexpected (Number v ∷ ts) = rw q refl in cc
two_on (t ∷ ts) rest later e = cc

-- it does not stand there
two_not : (ts rest : List Lexeme) → two ts ≡ Bad Unexpected rest → (ts ≡ rest) × ((t : Lexeme) (more later : List Lexeme) → rest ≡ t ∷ more → two (ts ++ later) ≡ Bad Unexpected (rest ++ later))
two_not [] rest e = let same : [] ≡ rest = cc in (same, λ t more later is. cc)
two_not (Number v ∷ ts) rest e = pick (is_two v) refl
  where
    pick : (b : Bool) → is_two v ≡ b → (Number v ∷ ts ≡ rest) × ((t : Lexeme) (more later : List Lexeme) → rest ≡ t ∷ more → two (Number v ∷ ts ++ later) ≡ Bad Unexpected (rest ++ later))
    pick true q = let read : two (Number v ∷ ts) ≡ Got tt ts = rw q refl in cc
    pick false q =
        let read : two (Number v ∷ ts) ≡ Bad Unexpected (Number v ∷ ts) = rw q refl in
        let same : Number v ∷ ts ≡ rest = cc in
        (same, λ t more later is. let read' : two (Number v ∷ ts ++ later) ≡ Bad Unexpected (Number v ∷ ts ++ later) = rw q refl in read' ∙ ap (λ x. Bad Unexpected (x ++ later)) same)
two_not (t ∷ ts) rest e = let same : t ∷ ts ≡ rest = cc in (same, λ k more later is. ap (λ x. Bad Unexpected (x ++ later)) same)

-- what stands behind the window ends nothing that is not begun in it
room_behind : (w : Window) (behind : List Atom) (end : ℕ) → HasRoom w → length w.tokens.items < 2 → Follows w.lexer behind end → behind ≡ []
room_behind w behind end (inl none) few lexed = none_behind w behind end none lexed
room_behind w behind end (inr two) few lexed = absurd (omega (arith, two, few))

-- the last tokens of the window, and those behind it
last_behind : (window tokens behind : List Atom) (left : ℕ) → tokens ≡ window ++ behind → drop (length window - left) tokens ≡ last left window ++ behind
last_behind window tokens behind left is = ap (drop (length window - left)) is ∙ drop-append-le (length window - left) window behind (omega arith)

-- a program of language 1
opens_plain : (w : Window) (tokens : List Atom) (end : ℕ) → HasRoom w → Ahead w tokens end → BeginsOtherwise (lexemes_of w.tokens.items) →
    reading_program 63 15 (lexemes_of tokens) ≡ declarations 1 63 15 (lexemes_of (drop (length w.tokens.items - length w.tokens.items) tokens))
opens_plain w tokens end room (behind, is, lexed) other =
    let window = w.tokens.items in
    let whole : lexemes_of tokens ≡ lexemes_of window ++ lexemes_of behind = ap lexemes_of is ∙ map-append lexeme_of window behind in
    let none : lexemes_of window ≡ [] → lexemes_of behind ≡ [] = λ e. let gone : length (lexemes_of window) ≡ 0 = ap length e in
    ap lexemes_of (room_behind w behind end room (omega (arith, gone, length-map window lexeme_of)) lexed) in
    ap (reading_program 63 15) whole ∙ otherwise (lexemes_of window ++ lexemes_of behind) (otherwise_on (lexemes_of window) (lexemes_of behind) other none)
    ∙ ap (declarations 1 63 15) (sym whole ∙ ap lexemes_of (sym (ap (λ k. drop k tokens) (same (length window)))))
  where
    same : (n : ℕ) → n - n ≡ 0
    same n = omega arith

pub opens_first : (w : Window) (tokens window : List Atom) (end : ℕ) → HasRoom w → Ahead w tokens end → window ≡ w.tokens.items → BeginsOtherwise (lexemes_of window) →
    (length window ≤ length w.tokens.items) × (reading_program 63 15 (lexemes_of tokens) ≡ declarations 1 63 15 (lexemes_of (drop (length w.tokens.items - length window) tokens)))
opens_first w tokens window end room ahead e other =
    subst (λ (x : List Atom). (length x ≤ length w.tokens.items)
    × (reading_program 63 15 (lexemes_of tokens) ≡ declarations 1 63 15 (lexemes_of (drop (length w.tokens.items - length x) tokens)))) (sym e)
    (omega arith, opens_plain w tokens end room ahead (subst (λ (x : List Atom). BeginsOtherwise (lexemes_of x)) e other))

-- a program of language 2
pub opens_second : (w : Window) (tokens rest behind_two : List Atom) (end : ℕ) → Ahead w tokens end
    → BeginsWithWord (lexemes_of w.tokens.items) (lexemes_of rest) → two (lexemes_of rest) ≡ Got tt (lexemes_of behind_two) →
    (length behind_two ≤ length w.tokens.items) × (reading_program 63 15 (lexemes_of tokens) ≡ declarations 2 63 15 (lexemes_of (drop (length w.tokens.items - length behind_two) tokens)))
opens_second w tokens rest behind_two end (behind, is, lexed) begins e =
    let window = w.tokens.items in
    let whole : lexemes_of tokens ≡ lexemes_of window ++ lexemes_of behind = ap lexemes_of is ∙ map-append lexeme_of window behind in
    let (t, first) = word_first (lexemes_of window) (lexemes_of rest) begins in
    let (read, (front, parts)) = two_on (lexemes_of rest) (lexemes_of behind_two) (lexemes_of behind) e in
    let at : lexemes_of window ≡ (t ∷ front) ++ lexemes_of behind_two = first ∙ ap (λ x. t ∷ x) parts in
    let there : lexemes_of (drop (length window - length behind_two) tokens) ≡ lexemes_of behind_two ++ lexemes_of behind =
    ap lexemes_of (last_behind window tokens behind (length behind_two) is) ∙ map-append lexeme_of (last (length behind_two) window) behind
    ∙ ap (λ x. x ++ lexemes_of behind) (last_same window behind_two (t ∷ front) at) in (
      last_within window behind_two (t ∷ front) at,
      ap (reading_program 63 15) whole ∙ with_word (lexemes_of window) (lexemes_of rest) (lexemes_of behind) begins
          ∙ ap (λ r. and_then r (λ _. declarations 2 63 15)) read ∙ ap (declarations 2 63 15) (sym there),
    )

-- the place of a fault there is in the window
pub place_in : (w : Window) (rest place : List Atom) → BeginsWithWord (lexemes_of w.tokens.items) (lexemes_of rest)
    → two (lexemes_of rest) ≡ Bad Unexpected (lexemes_of place) → length place ≤ length w.tokens.items
place_in w rest place begins e =
    let (t, first) = word_first (lexemes_of w.tokens.items) (lexemes_of rest) begins in
    last_within w.tokens.items place (t ∷ []) (first ∙ ap (λ x. t ∷ x) (two_not (lexemes_of rest) (lexemes_of place) e).0)

-- the end stands there
pub opens_ended : (w : Window) (tokens rest place : List Atom) (end line : ℕ) → HasRoom w → Ahead w tokens end
    → BeginsWithWord (lexemes_of w.tokens.items) (lexemes_of rest) → two (lexemes_of rest) ≡ Bad Unexpected (lexemes_of place) →
    length place ≡ 0 → EndsOn line w → StopsOn Unexpected line (reading_program 63 15 (lexemes_of tokens)) tokens end
opens_ended w tokens rest (k ∷ place) end line room ahead begins e none ends = absurd (omega arith)
opens_ended w tokens rest [] end line (inr enough) ahead begins e none ends =
    let (t, first) = word_first (lexemes_of w.tokens.items) (lexemes_of rest) begins in
    let long : length (lexemes_of w.tokens.items) ≡ 1 = ap length (first ∙ ap (λ x. t ∷ x) (two_not (lexemes_of rest) [] e).0) in
    absurd (omega (arith, enough, long, length-map w.tokens.items lexeme_of))
opens_ended w tokens rest [] end line (inl over) (behind, is, lexed) begins e none ends =
    let window = w.tokens.items in
    let whole : lexemes_of tokens ≡ lexemes_of window ++ [] = ap lexemes_of is ∙ map-append lexeme_of window behind
    ∙ ap (λ x. lexemes_of window ++ lexemes_of x) (none_behind w behind end over lexed) in (
      tokens,
      [],
      sym (append-nil tokens),
      ap (reading_program 63 15) whole ∙ with_word (lexemes_of window) (lexemes_of rest) [] begins ∙ ap (second 63 15) (append-nil (lexemes_of rest))
          ∙ ap (λ r. and_then r (λ _. declarations 2 63 15)) e,
      sym (ends over tokens end (behind, is, lexed)),
    )

-- another token stands there
pub opens_wrong : (w : Window) (tokens rest place : List Atom) (end line : ℕ) → Ahead w tokens end
    → BeginsWithWord (lexemes_of w.tokens.items) (lexemes_of rest) → two (lexemes_of rest) ≡ Bad Unexpected (lexemes_of place) →
    0 < length place → StandsOn line w.tokens.items (length place) → StopsOn Unexpected line (reading_program 63 15 (lexemes_of tokens)) tokens end
opens_wrong w tokens rest [] end line ahead begins e some on = absurd (omega arith)
opens_wrong w tokens rest (k ∷ place) end line (behind, is, lexed) begins e some (t, others, at, on) =
    let window = w.tokens.items in
    let (first, parts) = word_first (lexemes_of window) (lexemes_of rest) begins in
    let (same, wrong) = two_not (lexemes_of rest) (lexemes_of (k ∷ place)) e in
    let left = length (k ∷ place) in
    let there = last_same window (k ∷ place) (first ∷ []) (parts ∙ ap (λ x. first ∷ x) same) in
    let whole : lexemes_of tokens ≡ lexemes_of window ++ lexemes_of behind = ap lexemes_of is ∙ map-append lexeme_of window behind in
    let ended : last left window ++ behind ≡ t ∷ (others ++ behind) = ap (λ x. x ++ behind) at in
    let shown : lexemes_of (k ∷ place) ++ lexemes_of behind ≡ lexemes_of (t ∷ (others ++ behind)) = ap (λ x. x ++ lexemes_of behind) (sym there)
    ∙ sym (map-append lexeme_of (last left window) behind) ∙ ap lexemes_of ended in (
      take (length window - left) window,
      t ∷ (others ++ behind),
      is ∙ ap (λ x. x ++ behind) (sym (take-append-drop (length window - left) window))
          ∙ append_assoc (take (length window - left) window) (last left window) behind ∙ ap (λ x. take (length window - left) window ++ x) ended,
      ap (reading_program 63 15) whole ∙ with_word (lexemes_of window) (lexemes_of rest) (lexemes_of behind) begins
          ∙ ap (λ r. and_then r (λ _. declarations 2 63 15)) (wrong (lexeme_of k) (lexemes_of place) (lexemes_of behind) refl) ∙ ap (Bad Unexpected) shown,
      on,
    )

-- ---- the program as a whole

-- what is left of the tokens is ahead where the window keeps so many
pub kept_behind : (w kept : Window) (tokens : List Atom) (left end : ℕ) → Ahead w tokens end → kept.tokens.items ≡ last left w.tokens.items
    → kept.lexer ≡ w.lexer → Ahead kept (drop (length w.tokens.items - left) tokens) end
kept_behind w kept tokens left end (behind, is, lexed) items lexer =
    (behind, last_behind w.tokens.items tokens behind left is ∙ ap (λ x. x ++ behind) (sym items), subst (λ (x : Lexer). Follows x behind end) (sym lexer) lexed)

-- a fault behind some tokens
pub stops_behind : (k : Fault) (line l n end : ℕ) (tokens : List Atom) → reading_program 63 15 (lexemes_of tokens) ≡ declarations l 63 15 (lexemes_of (drop n tokens)) →
    StopsOn k line (declarations l 63 15 (lexemes_of (drop n tokens))) (drop n tokens) end → StopsOn k line (reading_program 63 15 (lexemes_of tokens)) tokens end
stops_behind k line l n end tokens e (before, rest, is, bad, on) =
    (take n tokens ++ before, rest, sym (take-append-drop n tokens) ∙ ap (λ x. take n tokens ++ x) is ∙ sym (append_assoc (take n tokens) before rest), e ∙ bad, on)

-- after the first tokens were taken
pub room_filled : (old new : Window) → IsFilled old new → HasRoom new
room_filled old new (inl none, less) = inl none
room_filled old new (inr more, less) = inr (omega (arith, more))

-- a fault in what a program begins with
pub opening_bad : (f : ParseFault) (w : Window) (tokens : List Atom) (end : ℕ) → IsOpening (Err f) w tokens end → IsReading (Err f) tokens end
opening_bad (fault.Unexpected line) w tokens end h = h
opening_bad (fault.TooDeep line) w tokens end h = absurd h
opening_bad fault.Memory w tokens end h = tt

-- a fault behind it
pub behind_bad : (f : ParseFault) (l n end : ℕ) (tokens : List Atom)
    → reading_program 63 15 (lexemes_of tokens) ≡ declarations l 63 15 (lexemes_of (drop n tokens)) → AreRead l (Err f) (drop n tokens) end
    → IsReading (Err f) tokens end
behind_bad (fault.Unexpected line) l n end tokens e h = stops_behind Unexpected line l n end tokens e h
behind_bad (fault.TooDeep line) l n end tokens e h = stops_behind TooDeep line l n end tokens e h
behind_bad fault.Memory l n end tokens e h = tt

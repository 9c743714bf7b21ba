-- Which tokens a text has, and where its first fault stands.
use Rattle.std.specs.Prelude.{take, drop, ◌≡◌, ℕ, ◌+◌, ◌^◌, ◌≤◌, ◌<◌, Bool, true, false, List, [], ◌∷◌, ◌++◌, length, Some, None, Result, Ok, Err, pos, negsuc}
use Rattle.std.specs.Bool.{OnTrue}
use Rattle.std.specs.List.{list_all}
use Rattle.std.specs.Fmt.{decimal}
use Rattle.pst_lex.specs.declared.types.Token.{Token}
use Rattle.pst_lex.specs.declared.types.Span.{Span}
use Rattle.pst_lex.specs.declared.faults.LexFault.{LexFault}
use Rattle.pst_lex.specs.declared.faults.LexFault.TheVariants as fault
use Rattle.pst_lex.specs.declared.words.Mark.{Mark}
use Rattle.pst_lex.specs.Bytes.{is_word, is_symbol, gap_step, gap, EndsWord, NoPair, StartsWithLetter, StartsWithDigit, feeds}
use Rattle.pst_lex.specs.Words.{Word, Name, Number, Fixed, word_of, mark_text, spelling}

-- A name: a letter or `_`, then letters, digits and `_`, 32 bytes at most, and no keyword.
pub record IsName (x : List ℕ) : Type 0 where
  pub starts : StartsWithLetter x
  pub all : list_all is_word x ≡ true
  pub short : length x ≤ 32
  pub no_keyword : (m : Mark) → x ≡ mark_text m → ⊥

-- a token that a text may have: a name, a number from 0 to the greatest of 64 bits with sign, or a keyword or symbol
abbrev pub IsWord : Word → Type 0
IsWord (Name x) = IsName x
IsWord (Number (pos n)) = n < 2 ^ 63
IsWord (Number (negsuc n)) = ⊥
IsWord (Fixed m) = Unit {0}

-- a keyword or symbol that is spelled so can't go on: behind a keyword stands no more of a word, and a symbol of one byte makes no pair with the next
abbrev pub EndsMark : List ℕ → List ℕ → Type 0
EndsMark [] rest = ⊥
EndsMark (a ∷ []) rest = NoPair a rest
EndsMark (a ∷ b ∷ w) rest = OnTrue (is_word a) (EndsWord rest)

-- the token can't go on with what follows
abbrev pub EndsToken : Word → List ℕ → Type 0
EndsToken (Name x) rest = EndsWord rest
EndsToken (Number v) rest = EndsWord rest
EndsToken (Fixed m) rest = EndsMark (mark_text m) rest

-- these bytes are the token, as long as it can be where the rest follows
abbrev pub IsToken : Word → List ℕ → List ℕ → Type 0
IsToken t w rest = (w ≡ spelling t) × IsWord t × EndsToken t rest

-- ---- tokens with their places

-- after these tokens, what is left of the text, its place and its line are as End says
abbrev pub LexedTo : (List ℕ → ℕ → ℕ → Type 0) → List ℕ → ℕ → ℕ → List Token → Type 0
LexedTo End text at line [] = End text at line
LexedTo End text at line (t ∷ ts) =
    (blank : List ℕ) × (w : List ℕ) × (rest : List ℕ) × (text ≡ blank ++ (w ++ rest)) × (gap false blank ≡ Some false) × IsToken (word_of t.kind) w rest
    × (t.span.from ≡ at + length blank) × (t.span.to ≡ at + length blank + length w) × (t.line ≡ line + feeds blank)
    × LexedTo End rest (at + length blank + length w) (line + feeds blank) ts

-- behind the last token stand white bytes and comments alone, and the last line is this one
abbrev pub EndsAt : ℕ → List ℕ → ℕ → ℕ → Type 0
EndsAt end rest at line = (inside : Bool) × (gap false rest ≡ Some inside) × (end ≡ line + feeds rest)

-- the tokens of a text, and the line of its end
abbrev pub Lexes : List ℕ → List Token → ℕ → Type 0
Lexes text tokens end = LexedTo (EndsAt end) text 0 1 tokens

-- ---- the first fault

-- A fault at the first byte, inside a comment or not. In a comment it is a byte that may not stand in a text. Else it is a byte that is neither white nor begins a comment or a token; a word that begins with a digit and is no number; or a name that is too long.
abbrev pub IsFault : LexFault → Bool → List ℕ → Type 0
IsFault (fault.Byte line) inside [] = ⊥
IsFault (fault.Byte line) true (b ∷ bs) = gap_step true b ≡ None
IsFault (fault.Byte line) false (b ∷ bs) = (gap_step false b ≡ None) × (is_word b ≡ false) × (is_symbol b ≡ false) × NoPair b bs
IsFault (fault.Number line) true bs = ⊥
IsFault (fault.Number line) false bs =
    (w : List ℕ) × (rest : List ℕ) × (bs ≡ w ++ rest) × StartsWithDigit w × (list_all is_word w ≡ true) × EndsWord rest × ((n : ℕ) → n < 2 ^ 63 → w ≡ decimal n → ⊥)
IsFault (fault.NameLength line) true bs = ⊥
IsFault (fault.NameLength line) false bs =
    (w : List ℕ) × (rest : List ℕ) × (bs ≡ w ++ rest) × StartsWithLetter w × (list_all is_word w ≡ true) × EndsWord rest × (32 < length w)

-- the line of a fault
abbrev pub line_of : LexFault → ℕ
line_of (fault.Byte line) = line
line_of (fault.Number line) = line
line_of (fault.NameLength line) = line

-- behind the last token stand white bytes and comments, and then the fault, on its line
abbrev pub FaultsAt : LexFault → List ℕ → ℕ → ℕ → Type 0
FaultsAt f rest at line =
    (blank : List ℕ) × (bad : List ℕ) × (inside : Bool) × (rest ≡ blank ++ bad) × (gap false blank ≡ Some inside) × IsFault f inside bad × (line_of f ≡ line + feeds blank)

-- the first fault of a text: tokens stand before it, and it stands where the next one would begin or in a comment
abbrev pub Faults : List ℕ → LexFault → Type 0
Faults text f = (tokens : List Token) × LexedTo (FaultsAt f) text 0 1 tokens

-- the text has tokens up to its end
abbrev pub HasLexing : List ℕ → Type 0
HasLexing text = (tokens : List Token) × (end : ℕ) × Lexes text tokens end

-- what looking at a whole text tells: that it has tokens, or its first fault
abbrev pub Scans : Result (Unit {0}) LexFault → List ℕ → Type 0
Scans (Ok x) text = HasLexing text
Scans (Err f) text = Faults text f

-- ---- tokens without places

-- the tokens of a text, places and lines apart
abbrev pub LexedAs : List ℕ → List Word → Type 0
LexedAs text [] = (inside : Bool) × (gap false text ≡ Some inside)
LexedAs text (t ∷ ts) =
    (blank : List ℕ) × (w : List ℕ) × (rest : List ℕ) × (text ≡ blank ++ (w ++ rest)) × (gap false blank ≡ Some false) × IsToken t w rest × LexedAs rest ts

-- what the tokens are, places and lines apart
abbrev pub words_of : List Token → List Word
words_of [] = []
words_of (t ∷ ts) = word_of t.kind ∷ words_of ts

-- all are tokens that a text may have
abbrev pub AreWords : List Word → Type 0
AreWords [] = Unit {0}
AreWords (t ∷ ts) = IsWord t × AreWords ts

-- the tokens stand one behind the other from here up to the end, each with a byte at least
abbrev pub InOrder : ℕ → ℕ → List Token → Type 0
InOrder at end [] = at ≤ end
InOrder at end (t ∷ ts) = (at ≤ t.span.from) × (t.span.from < t.span.to) × InOrder t.span.to end ts

-- the bytes of a span
abbrev pub bytes_at : List ℕ → Span → List ℕ
bytes_at text s = drop s.from (take s.to text)

-- the line of a place: 1 and how many line feeds stand before it
abbrev pub line_at : List ℕ → ℕ → ℕ
line_at text n = 1 + feeds (take n text)

-- each token is spelled by the bytes of its span, and its line is that of its first byte
abbrev pub AreInPlace : List ℕ → List Token → Type 0
AreInPlace text [] = Unit {0}
AreInPlace text (t ∷ ts) = (bytes_at text t.span ≡ spelling (word_of t.kind)) × (t.line ≡ line_at text t.span.from) × AreInPlace text ts

-- ---- what is answered for a text of which something is known

-- in a text with tokens no fault is found
abbrev pub GivesNoFault : Result (Unit {0}) LexFault → List ℕ → Type 0
GivesNoFault result text = (ts : List Token) (e : ℕ) → Lexes text ts e → result ≡ Ok tt

-- a text with this fault gives it
abbrev pub GivesFault : Result (Unit {0}) LexFault → List ℕ → Type 0
GivesFault result text = (f : LexFault) → Faults text f → result ≡ Err f

-- ---- a text is read in one way

-- a text has at most one list of tokens
abbrev pub HasOneLexing : List ℕ → Type 0
HasOneLexing text = (ts us : List Token) (e d : ℕ) → Lexes text ts e → Lexes text us d → (ts ≡ us) × (e ≡ d)

-- a text has at most one first fault
abbrev pub HasOneFault : List ℕ → Type 0
HasOneFault text = (f g : LexFault) → Faults text f → Faults text g → f ≡ g

-- no text has both tokens up to its end and a fault
abbrev pub HasNotBoth : List ℕ → Type 0
HasNotBoth text = (ts : List Token) (e : ℕ) (f : LexFault) → Lexes text ts e → Faults text f → ⊥

-- the tokens of a text are its tokens without places, and no others are
abbrev pub HasItsWords : List ℕ → Type 0
HasItsWords text = (ts : List Token) (e : ℕ) → Lexes text ts e → LexedAs text (words_of ts) × ((ws : List Word) → LexedAs text ws → ws ≡ words_of ts)

-- the tokens of a text are such as a text may have
abbrev pub HasWords : List ℕ → Type 0
HasWords text = (ws : List Word) → LexedAs text ws → AreWords ws

-- the tokens of a text stand in it one behind the other, each spelled by its bytes and on its line, and the end has its line
abbrev pub HasTokensInPlace : List ℕ → Type 0
HasTokensInPlace text = (ts : List Token) (e : ℕ) → Lexes text ts e → InOrder 0 (length text) ts × AreInPlace text ts × (e ≡ line_at text (length text))

-- the fault of a text stands at one of its bytes, on the line of that byte
abbrev pub HasFaultInPlace : List ℕ → Type 0
HasFaultInPlace text = (f : LexFault) → Faults text f → (n : ℕ) × (inside : Bool) × (n < length text) × IsFault f inside (drop n text) × (line_of f ≡ line_at text n)

-- a text with tokens, places and lines apart, has no fault
abbrev pub HasNoFault : List ℕ → Type 0
HasNoFault text = (ws : List Word) (f : LexFault) → LexedAs text ws → Faults text f → ⊥

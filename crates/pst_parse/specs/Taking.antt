-- Taking declarations from the tokens at hand, and what a program begins with.
use Rattle.std.specs.Prelude.{◌≡◌, ◌≤◌, ◌-◌, ◌⊎◌, ℕ, List, [], ◌∷◌, ◌++◌, length, drop, map, Result, Ok, Err}
use Rattle.pst_parse_expressions.specs.declared.lexeme.Atom.{Atom}
use Rattle.pst_lex.specs.Taking.{bytes_left}
use Rattle.pst_grammar.specs.declared.declaration.Declaration.{Declaration}
use Rattle.pst_grammar.specs.declared.declaration.Declarations.{Declarations}
use Rattle.pst_grammar.specs.Syntax as tree
use Rattle.pst_grammar.specs.View.{item_of}
use Rattle.pst_grammar.specs.Lexemes.{Lexeme}
use Rattle.pst_parse_expressions.specs.View.{atom_line, lexemes_of}
use Rattle.pst_grammar.specs.Reader.{Read, Fault, Got, Bad, Unexpected, TooDeep, and_then, many}
use Rattle.pst_grammar.specs.Declarations.{item, any, declarations, reading_program}
use Rattle.pst_parse.specs.declared.fault.ParseFault.{ParseFault}
use Rattle.pst_parse.specs.declared.fault.ParseFault.TheVariants as fault
use Rattle.pst_parse.specs.declared.window.Window.{Window}
use Rattle.pst_parse.specs.Answers.{StopsOn}
use Rattle.pst_parse.specs.Window.{Ahead}

-- the last of the tokens, so many
abbrev pub last : ℕ → List Atom → List Atom
last left tokens = drop (length tokens - left) tokens

-- the token from which on so many are left stands on this line
abbrev pub StandsOn : (line : ℕ) → List Atom → (left : ℕ) → Type 0
StandsOn line tokens left = (t : Atom) × (rest : List Atom) × (last left tokens ≡ t ∷ rest) × (line ≡ atom_line t)

-- the declarations that were read, and those that stand at the front of these tokens
abbrev pub read_with : (l : ℕ) → List Declaration → List Lexeme → Read (List tree.Item)
read_with l read ts = and_then (many any (item l 63 15) ts) (λ more. Got (map item_of read ++ more))

-- a fault stands at one of the tokens, on this line, whatever follows them
abbrev pub FaultsAmong : (l : ℕ) → Fault → (line : ℕ) → List Atom → (read : List Declaration) → Type 0
FaultsAmong l fault line tokens read =
    (left : ℕ) × StandsOn line tokens left × ((later : List Lexeme) → read_with l read (lexemes_of tokens ++ later) ≡ Bad fault (lexemes_of (last left tokens) ++ later))

-- where so many tokens are left, the declarations before them are read; none is left, or a declaration is broken off
abbrev pub Takes : (l : ℕ) → Result ℕ ParseFault → List Atom → (read more : List Declaration) → Type 0
Takes l (Ok left) tokens read more =
    (left ≤ length tokens) × ((left ≡ 0) ⊎ (item l 63 15 (lexemes_of (last left tokens)) ≡ Bad Unexpected []))
    × ((later : List Lexeme) → read_with l read (lexemes_of tokens ++ later) ≡ read_with l more (lexemes_of (last left tokens) ++ later))
Takes l (Err (fault.Unexpected line)) tokens read more = FaultsAmong l Unexpected line tokens read
Takes l (Err (fault.TooDeep line)) tokens read more = FaultsAmong l TooDeep line tokens read
Takes l (Err fault.Memory) tokens read more = Unit {0}

-- what is answered of declarations up to the end
abbrev pub AreRead : (l : ℕ) → Result Declarations ParseFault → List Atom → (end : ℕ) → Type 0
AreRead l (Ok ds) tokens end = declarations l 63 15 (lexemes_of tokens) ≡ Got (record { language = l; items = map item_of ds.items.items }) []
AreRead l (Err (fault.Unexpected line)) tokens end = StopsOn Unexpected line (declarations l 63 15 (lexemes_of tokens)) tokens end
AreRead l (Err (fault.TooDeep line)) tokens end = StopsOn TooDeep line (declarations l 63 15 (lexemes_of tokens)) tokens end
AreRead l (Err fault.Memory) tokens end = Unit {0}

-- the same of the tokens that are still to be read
abbrev pub Declares : (l : ℕ) → Result Declarations ParseFault → Window → Type 0
Declares l answer w = (tokens : List Atom) (end : ℕ) → Ahead w tokens end → AreRead l answer tokens end

-- the tokens that a program may begin with are at hand, if the text has so many
abbrev pub HasRoom : Window → Type 0
HasRoom w = (bytes_left w.lexer ≡ 0) ⊎ (2 ≤ length w.tokens.items)

-- what is answered of a program's first tokens: its language and how many tokens at hand are left, or a fault
abbrev pub IsOpening : Result (ℕ × ℕ) ParseFault → Window → List Atom → (end : ℕ) → Type 0
IsOpening (Ok (l, left)) w tokens end =
    (left ≤ length w.tokens.items) × (reading_program 63 15 (lexemes_of tokens) ≡ declarations l 63 15 (lexemes_of (drop (length w.tokens.items - left) tokens)))
IsOpening (Err (fault.Unexpected line)) w tokens end = StopsOn Unexpected line (reading_program 63 15 (lexemes_of tokens)) tokens end
IsOpening (Err (fault.TooDeep line)) w tokens end = ⊥
IsOpening (Err fault.Memory) w tokens end = Unit {0}

-- the same of the tokens that are still to be read
abbrev pub Opens : Result (ℕ × ℕ) ParseFault → Window → Type 0
Opens answer w = (tokens : List Atom) (end : ℕ) → Ahead w tokens end → IsOpening answer w tokens end

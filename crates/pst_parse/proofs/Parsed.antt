-- From what reading a program gives to what parsing answers.
use Rattle.std.specs.Prelude.{◌≡◌, ℕ, ◌≤◌, ◌-◌, List, [], ◌++◌, length, take, drop, Result, Ok, Err}
use Rattle.std.proofs.Common.{refl, sym, ap, ◌∙◌, subst, arith, length-append}
use Rattle.std.proofs.Math.Seq.{drop-append_seam, take-append_seam}
use Rattle.std.proofs.lemmas.List.{length-map, map-append, drop-map}
use Rattle.pst_lex.specs.declared.types.Tokens.{Tokens}
use Rattle.pst_grammar.specs.declared.declaration.Tree.{Tree}
use Rattle.pst_grammar.specs.View.{text_of}
use Rattle.pst_grammar.specs.Lexemes.{Lexeme, lexeme, lexemes}
use Rattle.pst_grammar.specs.Forms.{IsShallow}
use Rattle.pst_grammar.specs.Spelling.{Program, program}
use Rattle.pst_grammar.specs.Grammar.{Spells, IsUnexpected, IsTooDeep, IsFirstFaultOn}
use Rattle.pst_grammar.specs.Reader.{Got, Bad, Fault, Unexpected, TooDeep}
use Rattle.pst_grammar.specs.Declarations.{reading_program}
use Rattle.pst_parse_expressions.specs.declared.lexeme.Atom.{Atom}
use Rattle.pst_parse_expressions.specs.View.{atoms_of, lexeme_of, lexemes_of}
use Rattle.pst_parse.specs.declared.fault.ParseFault.{ParseFault}
use Rattle.pst_parse.specs.declared.fault.ParseFault.TheVariants as fault
use Rattle.pst_parse.specs.Answers.{Found, FindsOnly, FaultsUnexpected, FaultsTooDeep, IsReading, StopsOn}
use Rattle.pst_parse.specs.Taking.{last}
use Rattle.pst_parse.proofs.Atoms.{same_lexemes, stops_at}
use Rattle.pst_grammar.proofs.Faults.{found, only, unexpected, deep}

-- what stands before ends that are as long is as long
pub same_front : {A : Type 0} (u v x y : List A) → u ++ x ≡ v ++ y → length x ≡ length y → u ≡ v
same_front u v x y e long =
    let whole : length (u ++ x) ≡ length (v ++ y) = ap length e in
    let n : length u ≡ length v = omega (arith, whole, long, length-append u x, length-append v y) in
    sym (take-append_seam u x) ∙ ap (λ z. take (length u) z) e ∙ ap (λ k. take k (v ++ y)) n ∙ take-append_seam v y

-- the last tokens are those that stand there
pub last_same : (tokens s : List Atom) (u : List Lexeme) → lexemes_of tokens ≡ u ++ lexemes_of s → lexemes_of (last (length s) tokens) ≡ lexemes_of s
last_same tokens s u e =
    let whole : length (lexemes_of tokens) ≡ length (u ++ lexemes_of s) = ap length e in
    let n : length tokens - length s ≡ length u = omega (arith, whole, length-map tokens lexeme_of, length-map s lexeme_of, length-append u (lexemes_of s)) in
    sym (drop-map lexeme_of (length tokens - length s) tokens) ∙ ap (drop (length tokens - length s)) e ∙ ap (λ k. drop k (u ++ lexemes_of s)) n ∙ drop-append_seam u (lexemes_of s)

pub last_within : (tokens s : List Atom) (u : List Lexeme) → lexemes_of tokens ≡ u ++ lexemes_of s → length s ≤ length tokens
last_within tokens s u e =
    let whole : length (lexemes_of tokens) ≡ length (u ++ lexemes_of s) = ap length e in
    omega (arith, whole, length-map tokens lexeme_of, length-map s lexeme_of, length-append u (lexemes_of s))

-- a fault in the words of reading is one in the grammar's
first_fault : (Is : List Lexeme → List Lexeme → Type 0) (k : Fault) (tokens : Tokens) (line : ℕ) →
    ((rest : List Lexeme) → reading_program 63 15 (lexemes tokens.list) ≡ Bad k rest → (before : List Lexeme) × (lexemes tokens.list ≡ before ++ rest) × Is before rest) →
    StopsOn k line (reading_program 63 15 (lexemes_of (atoms_of tokens.list))) (atoms_of tokens.list) tokens.end → IsFirstFaultOn Is tokens line
first_fault Is k tokens line law stops =
    let (before, rest, at, bad, on) = stops_at k line tokens.list tokens.end stops in
    let (u, there, is) = law (lexemes rest) bad in
    let whole : u ++ lexemes rest ≡ lexemes before ++ lexemes rest = sym there ∙ ap lexemes at ∙ map-append lexeme before rest in
    (before, rest, at, subst (λ x. Is x (lexemes rest)) (same_front u (lexemes before) (lexemes rest) (lexemes rest) whole refl) is, on)

-- what is read of what is kept is read of the tokens
reads : (tokens : Tokens) (tree : Tree) → reading_program 63 15 (lexemes_of (atoms_of tokens.list)) ≡ Got (text_of tree) [] → reading_program 63 15 (lexemes tokens.list) ≡ Got (text_of tree) []
reads tokens tree h = ap (reading_program 63 15) (sym (same_lexemes tokens.list)) ∙ h

pub has_found : (answer : Result Tree ParseFault) (tokens : Tokens) → IsReading answer (atoms_of tokens.list) tokens.end → Found 63 15 answer tokens
has_found (Ok tree) tokens h = found 63 15 (lexemes tokens.list) [] (text_of tree) (reads tokens tree h)
has_found (Err e) tokens h = tt

no_program : (k : Fault) (ts rest : List Lexeme) (p : Program) → reading_program 63 15 ts ≡ Bad k rest → IsShallow 63 15 (program p) → Spells ts p → ⊥
no_program k ts rest p e shallow sp = let o = only 63 15 ts p shallow sp in cc

no_program_of : (k : Fault) (line : ℕ) (tokens : Tokens) (p : Program)
    → StopsOn k line (reading_program 63 15 (lexemes_of (atoms_of tokens.list))) (atoms_of tokens.list) tokens.end → IsShallow 63 15 (program p) →
    Spells (lexemes tokens.list) p → ⊥
no_program_of k line tokens p stops shallow sp =
    let (before, rest, at, bad, on) = stops_at k line tokens.list tokens.end stops in
    no_program k (lexemes tokens.list) (lexemes rest) p bad shallow sp

pub finds_only : (answer : Result Tree ParseFault) (tokens : Tokens) → IsReading answer (atoms_of tokens.list) tokens.end → FindsOnly 63 15 answer tokens
finds_only (Ok tree) tokens h p shallow sp = let o = only 63 15 (lexemes tokens.list) p shallow sp in let r = reads tokens tree h in cc
finds_only (Err (fault.Unexpected line)) tokens h p shallow sp = absurd (no_program_of Unexpected line tokens p h shallow sp)
finds_only (Err (fault.TooDeep line)) tokens h p shallow sp = absurd (no_program_of TooDeep line tokens p h shallow sp)
finds_only (Err fault.Memory) tokens h p shallow sp = refl

pub faults_unexpected : (answer : Result Tree ParseFault) (tokens : Tokens) → IsReading answer (atoms_of tokens.list) tokens.end → FaultsUnexpected 63 15 answer tokens
faults_unexpected (Ok tree) tokens h = tt
faults_unexpected (Err (fault.Unexpected line)) tokens h = first_fault (IsUnexpected 63 15) Unexpected tokens line (unexpected 63 15 (lexemes tokens.list)) h
faults_unexpected (Err (fault.TooDeep line)) tokens h = tt
faults_unexpected (Err fault.Memory) tokens h = tt

pub faults_deep : (answer : Result Tree ParseFault) (tokens : Tokens) → IsReading answer (atoms_of tokens.list) tokens.end → FaultsTooDeep 63 15 answer tokens
faults_deep (Ok tree) tokens h = tt
faults_deep (Err (fault.Unexpected line)) tokens h = tt
faults_deep (Err (fault.TooDeep line)) tokens h = first_fault (IsTooDeep 63 15) TooDeep tokens line (deep 63 15 (lexemes tokens.list)) h
faults_deep (Err fault.Memory) tokens h = tt

-- What is judged of the text of a program.
use Rattle.std.specs.Prelude.{◌≡◌, ℕ, List, ◌++◌, Ok, Err, codes}
use Rattle.std.specs.Fmt.{decimal}
use Rattle.pst_lex.specs.declared.types.Tokens.{Tokens}
use Rattle.pst_lex.specs.declared.faults.LexFault.TheVariants as lexical
use Rattle.pst_lex.specs.Lexing.{Lexes, Faults}
use Rattle.pst_grammar.specs.Syntax as tree
use Rattle.pst_grammar.specs.Lexemes.{Lexeme}
use Rattle.pst_grammar.specs.Grammar.{HasTree, IsUnexpected, IsTooDeep, IsFirstFaultOn}
use Rattle.pst_typing.specs.declared.fault.TypeFault.{TypeFault}
use Rattle.pst_typing.specs.declared.fault.TypeFault.TheVariants as typing
use Rattle.pst_typing.specs.Declarations.{NamedProgram, checked}
use Rattle.pst_front.specs.declared.fault.FaultKind.{FaultKind}
use Rattle.pst_front.specs.declared.fault.FaultKind.TheVariants as kind
use Rattle.pst_front.specs.declared.fault.Fault.{Fault}
use Rattle.pst_grammar.specs.Spelling.{program}
use Rattle.pst_front.specs.declared.judge.NoProgram.{NoProgram}
use Rattle.pst_front.specs.declared.judge.NoProgram.TheVariants as no

-- The tree and the typed program of an accepted text, or the fault of a refused one.
pub data Verdict : Type 0 where
  Accepted : tree.ProgramText → NamedProgram → Verdict
  Refused : Fault → Verdict

-- the text has these tokens
abbrev pub HasTokens : List ℕ → Tokens → Type 0
HasTokens text tokens = Lexes text tokens.list tokens.end

-- the text has tokens, and on this line stands their first fault, of this sort
abbrev pub HasParseFault : List ℕ → (List Lexeme → List Lexeme → Type 0) → ℕ → Type 0
HasParseFault text Is line = (tokens : Tokens) × HasTokens text tokens × IsFirstFaultOn Is tokens line

-- the text has a tree, and this is the first fault of its types
abbrev pub HasTypeFault : List ℕ → TypeFault → Type 0
HasTypeFault text fault = (syntax : tree.ProgramText) × HasTree text syntax × (checked syntax.items ≡ Err fault)

-- A lexical fault anywhere comes before a fault of the grammar, and that before one of typing.
abbrev pub HasFault : List ℕ → FaultKind → ℕ → Type 0
HasFault text kind.Byte line = Faults text (lexical.Byte line)
HasFault text kind.Number line = Faults text (lexical.Number line)
HasFault text kind.NameLength line = Faults text (lexical.NameLength line)
HasFault text kind.Unexpected line = HasParseFault text (IsUnexpected 63 15) line
HasFault text kind.TooDeep line = HasParseFault text (IsTooDeep 63 15) line
HasFault text kind.Unknown line = HasTypeFault text (typing.Unknown line)
HasFault text kind.Duplicate line = HasTypeFault text (typing.Duplicate line)
HasFault text kind.Mismatch line = HasTypeFault text (typing.Mismatch line)
HasFault text kind.Limit line = HasTypeFault text (typing.Limit line)
HasFault text kind.TooMany line = HasTypeFault text (typing.TooMany line)
HasFault text kind.QueryWrites line = HasTypeFault text (typing.QueryWrites line)

-- the verdict on a text
abbrev pub Judged : List ℕ → Verdict → Type 0
Judged text (Accepted syntax typed) = HasTree text syntax × (checked syntax.items ≡ Ok typed)
Judged text (Refused fault) = HasFault text fault.kind fault.line

-- the text is accepted with this typed program
abbrev pub HasProgram : List ℕ → NamedProgram → Type 0
HasProgram text typed = (syntax : tree.ProgramText) × Judged text (Accepted syntax typed)

-- the text is refused for this reason; want of memory is free
abbrev pub IsNoProgram : List ℕ → NoProgram → Type 0
IsNoProgram text (no.Fault fault) = HasFault text fault.kind fault.line
IsNoProgram text no.Memory = Unit {0}

abbrev pub IsAccepted : Verdict → Type 0
IsAccepted (Accepted syntax program) = Unit {0}
IsAccepted (Refused fault) = ⊥

abbrev pub IsRefused : Verdict → Type 0
IsRefused (Accepted syntax program) = ⊥
IsRefused (Refused fault) = Unit {0}

abbrev pub IsEither : Verdict → Type 0
IsEither verdict = Unit {0}

-- ---- the line of a fault

abbrev pub fault_name : FaultKind → List ℕ
fault_name kind.Byte = codes "byte"
fault_name kind.Number = codes "number"
fault_name kind.NameLength = codes "name-length"
fault_name kind.Unexpected = codes "unexpected"
fault_name kind.TooDeep = codes "too-deep"
fault_name kind.Unknown = codes "unknown"
fault_name kind.Duplicate = codes "duplicate"
fault_name kind.Mismatch = codes "mismatch"
fault_name kind.Limit = codes "limit"
fault_name kind.TooMany = codes "too-many"
fault_name kind.QueryWrites = codes "query-writes"

abbrev pub fault_text : Fault → List ℕ
fault_text fault = codes "refused " ++ fault_name fault.kind ++ codes " at " ++ decimal fault.line ++ codes "\n"

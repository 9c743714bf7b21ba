-- Why a text gives no program, from what the stages answer.
use Rattle.std.specs.Prelude.{ℕ}
use Rattle.pst_lex.specs.declared.faults.LexFault.{LexFault}
use Rattle.pst_lex.specs.declared.faults.LexFault.TheVariants as lexical
use Rattle.pst_parse.specs.declared.fault.ParseFault.{ParseFault}
use Rattle.pst_parse.specs.declared.fault.ParseFault.TheVariants as grammatical
use Rattle.pst_typing.specs.declared.fault.TypeFault.{TypeFault}
use Rattle.pst_typing.specs.declared.fault.TypeFault.TheVariants as typing
use Rattle.pst_front.specs.declared.fault.FaultKind.{FaultKind}
use Rattle.pst_front.specs.declared.fault.FaultKind.TheVariants as kind
use Rattle.pst_front.specs.declared.judge.NoProgram.{NoProgram}
use Rattle.pst_front.specs.declared.judge.NoProgram.TheVariants.{Fault, Memory}

abbrev pub fault_at : FaultKind → ℕ → NoProgram
fault_at k line = Fault (record { kind = k; line = line })

abbrev pub of_lexing : LexFault → NoProgram
of_lexing (lexical.Byte line) = fault_at kind.Byte line
of_lexing (lexical.Number line) = fault_at kind.Number line
of_lexing (lexical.NameLength line) = fault_at kind.NameLength line

abbrev pub of_parsing : ParseFault → NoProgram
of_parsing (grammatical.Unexpected line) = fault_at kind.Unexpected line
of_parsing (grammatical.TooDeep line) = fault_at kind.TooDeep line
of_parsing grammatical.Memory = Memory

abbrev pub of_typing : TypeFault → NoProgram
of_typing (typing.Unknown line) = fault_at kind.Unknown line
of_typing (typing.Duplicate line) = fault_at kind.Duplicate line
of_typing (typing.Mismatch line) = fault_at kind.Mismatch line
of_typing (typing.Limit line) = fault_at kind.Limit line
of_typing (typing.TooMany line) = fault_at kind.TooMany line
of_typing (typing.QueryWrites line) = fault_at kind.QueryWrites line
of_typing typing.Memory = Memory

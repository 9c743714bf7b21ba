use Rattle.std.proofs.Common.{rules}
use Rattle.pst_grammar.specs.View.{phrases_of}
use Rattle.pst_types_procedures.proofs.declaration.note.Goals as goal

pub returns-in-Record : goal.returns-in-Record
returns-in-Record c = rw c.in-Record.is (c.note_record.ensures c.in-Record.limit)

pub returns-in-Some : goal.returns-in-Some
returns-in-Some c = let noted = c.note_procedure.ensures (phrases_of c.in-Some.field-0-1.now) in search (rules, noted)

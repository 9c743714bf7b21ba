use Rattle.pst_questions.proofs.Entries.{reference_at}
use Rattle.pst_questions.proofs.numbering.Numbering.record.Goals as goal

pub returns : goal.returns
returns g c = reference_at c.args.self.now.records.entries c.args.number c.index.result.now c.index.ensures

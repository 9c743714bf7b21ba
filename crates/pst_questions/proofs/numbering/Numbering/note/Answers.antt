use Rattle.std.proofs.Common.{ap, ◌∙◌}
use Rattle.indexmap.specs.IndexMap.{insert_entry}
use Rattle.pst_questions.proofs.Entries.{same_key, shown, shown-insert_entry}
use Rattle.pst_questions.proofs.numbering.Numbering.note.Goals as goal

pub returns : goal.returns
returns g c =
    let es = c.args.self.now.records.entries in
    ap shown c.in_ok-insert.ensures.entries ∙ ap (λ k. shown (insert_entry same_key es k c.args.r)) c.key.ensures ∙ shown-insert_entry es (c.args.name.run.0, c.args.name.ordinal) c.args.r

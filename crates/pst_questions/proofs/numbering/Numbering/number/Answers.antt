use Rattle.std.proofs.Common.{ap, sym, ◌∙◌, map}
use Rattle.std.specs.List.{position_or_len}
use Rattle.std.proofs.lemmas.List.{length-map}
use Rattle.pst_questions.proofs.Entries.{same_key, place_of, position_some, position_none}
use Rattle.pst_questions.proofs.numbering.Numbering.number.Goals as goal

pub returns-in-None : goal.returns-in-None
returns-in-None g c =
    let es = c.args.self.now.records.entries in
    let keys = map (λ e. e.0) es in
    c.len.ensures.len ∙ sym (length-map es (λ e. e.0)) ∙ position_none (same_key c.key.result) keys c.in-None.ensures.index
    ∙ ap (λ k. position_or_len (same_key k) keys) c.key.ensures ∙ sym (place_of es (c.args.name.run.0, c.args.name.ordinal))

pub returns-in-Some : goal.returns-in-Some
returns-in-Some g c =
    let es = c.args.self.now.records.entries in
    let keys = map (λ e. e.0) es in
    position_some (same_key c.key.result) keys c.in-Some.number c.in-Some.ensures.index
    ∙ ap (λ k. position_or_len (same_key k) keys) c.key.ensures ∙ sym (place_of es (c.args.name.run.0, c.args.name.ordinal))

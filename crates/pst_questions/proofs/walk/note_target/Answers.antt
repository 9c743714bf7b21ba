use Rattle.std.proofs.Common.{ap, sym, ◌∙◌, subst, map, Some, IfSome}
use Rattle.std.specs.List.{All}
use Rattle.std.specs.Option.{option_map}
use Rattle.std.proofs.lemmas.Result.{on_ok_weaker}
use Rattle.pst_questions.specs.Walk.{entries_of, names_of, noted, IsEntry}
use Rattle.pst_questions.proofs.Entries.{names-insert_entry, AreEntries-noted}
use Rattle.pst_questions.proofs.walk.note_target.Goals as goal

pub returns-in-Some-clause-names : goal.returns-in-Some-clause-names
returns-in-Some-clause-names g c =
    let names = names_of c.args.found.now in
    on_ok_weaker c.note.result (λ e. ap (map (λ e. e.0)) e ∙ names-insert_entry (entries_of c.args.found.now) c.name_of.result c.in-Some.r ∙ ap (λ n. noted names (Some n)) c.name_of.ensures
    ∙ sym (ap (λ o. noted names (option_map (g.H.HeapAt.state c.args.heap.now).name o)) c.in-Some.is)) c.note.ensures

pub returns-in-Some-clause-entries : goal.returns-in-Some-clause-entries
returns-in-Some-clause-entries g c =
    let s = g.H.HeapAt.state c.args.heap.now in
    on_ok_weaker c.note.result (λ e. subst (All (IsEntry s c.args.at)) (sym e) (AreEntries-noted s c.args.at (entries_of c.args.found.now) c.name_of.result c.in-Some.r
    (record { live = subst (λ o. IfSome o (s.live c.args.at)) c.in-Some.is c.requires.live; name = sym c.name_of.ensures }) c.requires.entries)) c.note.ensures

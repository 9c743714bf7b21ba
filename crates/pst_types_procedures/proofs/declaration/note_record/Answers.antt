use Rattle.std.proofs.Common.{◌≡◌, ◌+◌, ◌++◌, ◌∷◌, [], true, map, refl, ap, ◌∙◌, sym, subst}
use Rattle.pst_grammar.specs.View as tree_view
use Rattle.pst_types_scope.specs.declared.names.RecordType.{RecordType}
use Rattle.pst_typing.specs.Names.{is_free, no_members, members_from}
use Rattle.pst_types_scope.specs.View.{scope_of, entries_of, members_of, record_type_of}
use Rattle.pst_types_scope.proofs.Lookups.{inserted, length_entries}
use Rattle.pst_typing.proofs.Passed.{same_ok, free_parts}
use Rattle.pst_types_procedures.proofs.Noted.{noted_record}
use Rattle.pst_types_procedures.proofs.declaration.note_record.Goals as goal

pub returns : goal.returns
returns c = λ limit.
    let old = scope_of c.args.scope.now in
    let r : RecordType = record { number = record { 0 = c.len-count.result + 1 }; members = c.in_ok-members.members } in
    let same = c.as_slice-name.ensures in
    let free : is_free old c.as_slice-name.result.now ≡ true = sym c.if-not-is_free.ensures in
    let laid : members_of r.members ≡ members_from no_members (map tree_view.field_of c.args.fields.now) = sym (same_ok _ _ c.in_ok-members.ensures)
    ∙ ap (λ fs. members_from no_members (map tree_view.field_of fs)) c.as_slice.ensures in
    let entries = ap (entries_of record_type_of) c.in_ok-insert.ensures.entries ∙ inserted record_type_of c.args.scope.now.types.entries c.as_slice-name.result r (free_parts old _ free).0
    ∙ ap (λ x. old.types ++ (x, record_type_of r) ∷ []) same in
    noted_record old c.args.line c.args.name.now limit (map tree_view.field_of c.args.fields.now) c.len-count.result (record_type_of r) _
    (c.len-count.ensures.len ∙ sym (length_entries record_type_of c.args.scope.now.types.entries)) c.if-count-ge64.false (subst (λ x. is_free old x ≡ true) same free) refl laid entries

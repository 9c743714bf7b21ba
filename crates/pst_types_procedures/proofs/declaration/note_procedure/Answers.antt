use Rattle.std.proofs.Common.{◌≡◌, ◌++◌, ◌∷◌, [], true, refl, ap, ◌∙◌, sym, subst}
use Rattle.pst_types_scope.specs.declared.names.Signature.{Signature}
use Rattle.pst_types_procedures.specs.View.{procedure_text_of}
use Rattle.pst_typing.specs.Names.{is_free}
use Rattle.pst_types_scope.specs.View.{scope_of, entries_of, signature_of}
use Rattle.pst_types_scope.proofs.Lookups.{inserted, length_entries}
use Rattle.pst_typing.proofs.Passed.{free_parts}
use Rattle.pst_types_procedures.proofs.Noted.{noted_procedure}
use Rattle.pst_types_procedures.proofs.declaration.note_procedure.Goals as goal

pub returns : goal.returns
returns c = λ body.
    let old = scope_of c.args.scope.now in
    let s : Signature = record { number = record { 0 = c.len-count.result }; query = c.args.head.now.query; parameters = c.args.head.now.parameters; result = c.of_result.result } in
    let same = c.as_slice-name.ensures in
    let free : is_free old c.as_slice-name.result.now ≡ true = sym c.if-not-is_free.ensures in
    let entries = ap (entries_of signature_of) c.in_ok-insert.ensures.entries ∙ inserted signature_of c.args.scope.now.procedures.entries c.as_slice-name.result s (free_parts old _ free).2
    ∙ ap (λ x. old.procedures ++ (x, signature_of s) ∷ []) same in
    noted_procedure old (procedure_text_of c.args.head.now body) c.len-count.result (signature_of s) _
    (c.len-count.ensures.len ∙ sym (length_entries signature_of c.args.scope.now.procedures.entries)) c.if-count-ge256.false
    (subst (λ x. is_free old x ≡ true) same free) refl refl refl c.of_result.ensures entries

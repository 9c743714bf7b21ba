use Rattle.std.proofs.Common.{◌≡◌, Ok, map, rules}
use Rattle.pst_grammar.specs.View.{field_of}
use Rattle.pst_types_scope.specs.View.{members_of, scope_of}
use Rattle.pst_types.specs.Added.{members_judged}
use Rattle.pst_types.proofs.Verdicts.{approved_as, record_judged}
use Rattle.pst_types.proofs.walks.approve_declaration.Goals as goal

pub returns-in_ok-_judged-in-Record : goal.returns-in_ok-_judged-in-Record
returns-in_ok-_judged-in-Record c = λ before.
    let judged = c.in_ok-_judged-in-Record._judged in
    let is : members_judged (scope_of c.args.scope.now) c.in-Record.line c.in-Record.limit (map field_of c.in-Record.fields) ≡ Ok (judged.0, members_of judged.1) = search rules in
    rw c.in-Record.is (record_judged (scope_of c.args.scope.now) before c.in-Record.line c.in-Record.name c.in-Record.limit (map field_of c.in-Record.fields) judged.0 (members_of judged.1) is)

pub returns-in-Root : goal.returns-in-Root
returns-in-Root c = λ before. rw c.in-Root.is (approved_as before c.judge_root.result _ (c.judge_root.ensures before c.in-Root.name))

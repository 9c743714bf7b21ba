use Rattle.std.specs.Prelude.{IfOk}
use Rattle.std.proofs.Common.{ap}
use Rattle.pst_line.specs.Store.{LinePublished}
use Rattle.pst_line.specs.Held.{state_in}
use Rattle.pst_line.proofs.Wholes.{open_inside, whole_inside, few_inside, none_open, changed}
use Rattle.pst_line.proofs.line_store.LineStoreLineCalls.publish.Goals as goal
use Rattle.pst_line.proofs.line_store.LineStoreLineCalls.publish.Goals.{in-None, in-Some}

pub publish-requires-clause-open : goal.publish-requires-clause-open
publish-requires-clause-open c = open_inside _ _ c.in-Some.core c.self.view_is c.in-Some.is c.requires.open

pub publish-requires-clause-whole : goal.publish-requires-clause-whole
publish-requires-clause-whole c = whole_inside _ _ c.in-Some.core c.self.view_is c.in-Some.is c.requires.open

pub publish-requires-clause-few : goal.publish-requires-clause-few
publish-requires-clause-few c = few_inside _ _ c.in-Some.core c.self.view_is c.in-Some.is c.requires.few

pub returns-clause-ok : goal.returns-clause-ok
returns-clause-ok c = elim c.match-self.branch [
  | in-None w ↦ absurd (none_open _ _ c.self.view_is w.in-None.is c.requires.open.0 c.requires.open.1)
  | in-Some w ↦ changed _ _ w.in-Some.core c.self.view_is w.in-Some.is _ w.publish.new.self (ap (λ v. v.core) w.self-inside-is) _ _ w.result-is (λ a b r. IfOk r (λ version. LinePublished (state_in a) (state_in b) c.args.run version)) w.publish.ensures.ok
]

use Rattle.std.specs.Prelude.{OnOk, OnErr}
use Rattle.std.proofs.Common.{ap, ◌⊎◌, inl}
use Rattle.std.proofs.lemmas.Int.{to_z-of_z}
use Rattle.pst_versions.specs.State.{Unchanged, WritesStay, ValueStored}
use Rattle.pst_line_nodes.proofs.Results.{on_err_map}
use Rattle.pst_line.specs.Held.{state_in}
use Rattle.pst_line.proofs.Wholes.{inside, none_open, changed}
use Rattle.pst_line.proofs.line_heap.LineStoreHeapAt.store_value.Goals as goal
use Rattle.pst_line.proofs.line_heap.LineStoreHeapAt.store_value.Goals.{in-None, in-Some}

pub write_number-requires-clause-writable : goal.write_number-requires-clause-writable
write_number-requires-clause-writable c = inside _ _ c.in-Some.core (λ o. (state_in o).writable c.args.at) c.self.view_is c.in-Some.is c.requires.writable

pub returns-clause-ok : goal.returns-clause-ok
returns-clause-ok c = let fits = c.ranges.n in elim c.match-self.branch [
  | in-None w ↦ absurd (none_open _ _ c.self.view_is w.in-None.is c.args.at c.requires.writable)
  | in-Some w ↦ changed _ _ w.in-Some.core c.self.view_is w.in-Some.is _ w.write_number.new.self (ap (λ v. v.core) w.self-inside-is) _ _ w.result-is
      (λ a b r. OnOk r (ValueStored (state_in a) c.args.at ((state_in a).name c.args.r) c.args.field.0 c.args.n (state_in b) × WritesStay (state_in a) (state_in b))) (simp to_z-of_z at w.write_number.ensures.ok)
]

pub returns-clause-err : goal.returns-clause-err
returns-clause-err c = elim c.match-self.branch [
  | in-None w ↦ absurd (none_open _ _ c.self.view_is w.in-None.is c.args.at c.requires.writable)
  | in-Some w ↦ changed _ _ w.in-Some.core c.self.view_is w.in-Some.is _ w.write_number.new.self (ap (λ v. v.core) w.self-inside-is) _ _ w.result-is
      (λ a b r. OnErr r (Unchanged (state_in a) (state_in b) ⊎ ValueStored (state_in a) c.args.at ((state_in a).name c.args.r) c.args.field.0 c.args.n (state_in b))) (on_err_map _ _ _ inl w.write_number.ensures.err)
]

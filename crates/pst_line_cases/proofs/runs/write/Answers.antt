use Rattle.pst_line_cases.proofs.Trying.{begun_root, written}
use Rattle.pst_line_cases.proofs.runs.write.Goals as goal

pub store_value-requires-clause-field : goal.store_value-requires-clause-field
store_value-requires-clause-field g c = begun_root _ _ _ _ _ _ c.requires.1 c.begin-at.ensures _ c.root-r.ensures.name

pub returns : goal.returns
returns g c = λ k h. written _ _ _ _ _ k h c.begin-at.ensures (c.known.ensures.written _ c.begin-at.ensures.writable) _ _ _ c.root-r.ensures.name c.in_ok-store_value.ensures.ok.0 c.in_ok-store_value.ensures.ok.1

use Rattle.pst_store_cases.specs.Going.{IsGoing}
use Rattle.pst_store_cases.proofs.session.Session.replies.Given as goal

abbrev pub invariant-loop-line : goal.invariant-loop-line
invariant-loop-line g l = IsGoing l.self.code l.self.engine (g.H.HeapAt.state l.self.heap)

use Rattle.std.proofs.Common.{arith, ap, List, ℕ, length, ◌+◌}
use Rattle.pst_io.specs.Input.{InputState}
use Rattle.pst_io.proofs.Parts.{less_between}
use Rattle.pst_io.proofs.input.Input.skip.Goals as goal

pub returns-clause-skips : goal.returns-clause-skips
returns-clause-skips c =
    let s = c.self.inside in
    let n = c.args.count in
    let with_held : List ℕ → InputState = λ l. record { handed = s.handed + n; held = l; ended = s.ended; most = s.most } in
    let size = ap (λ t. length t.held) c.self.view_is in
    rw (← c.self.view_is) (ap with_held (less_between s.buffer.items s.start s.end n (omega (arith, c.requires, size))))

use Rattle.std.proofs.Common.{List, ℕ, subst, rules}
use Rattle.sqlite_disk.specs.Disk.{Holds}
use Rattle.pst_kept_files.proofs.HeadLemmas.{front_of}
use Rattle.pst_kept_files.proofs.head.look.Goals as goal

pub returns-clause-generation : goal.returns-clause-generation
returns-clause-generation g c clean =
    let file = g.D.Disk.seen c.args.disk.now in
    let len = c.in_ok-len.ensures.len (c.read_at.ensures.clean clean) in
    c.generation_of.ensures file (front_of file c.read_at.new.buf (search rules) (subst (λ (f : List ℕ). Holds f 0 c.read_at.new.buf) c.len.ensures.seen (c.in_ok-read_at.ensures.read clean (search rules)))) len

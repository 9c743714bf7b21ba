use Rattle.std.proofs.Common.{◌≡◌, ◌+◌, ◌∷◌, ◌∙◌, List, ℕ, [], sym, subst, arith}
use Rattle.pst_kept_files.specs.Standing.{new_body}
use Rattle.pst_kept_files.specs.Kept.{KeepsEither}
use Rattle.pst_kept_files.proofs.KeepLemmas.{renewed_either, shut_either, renewed_means, shut_none}
use Rattle.pst_kept_files.proofs.files.renew.Goals as goal

pub returns-in_err-new-clause-any_return : goal.returns-in_err-new-clause-any_return
returns-in_err-new-clause-any_return g c clean before commands means one two may_one may_two =
    let d = g.D.Disk in
    let k = c.args.kept in
    subst (λ (f : List ℕ). KeepsEither f two before commands c.args.image.now []) (sym (c.requires.held.settled.durable one may_one))
    (renewed_either (d.seen c.args.counting.now) (d.seen c.args.other.now) k before commands means (k.generation + 1) c.args.image.now (omega arith) (omega (arith, c.if-kept-ge-LAST_GENERATION.false)) c.requires.few two
    (c.write_new.ensures.any_return two may_two))

pub returns-in_err-shut-clause-any_return : goal.returns-in_err-shut-clause-any_return
returns-in_err-shut-clause-any_return g c clean before commands means one two may_one may_two =
    let d = g.D.Disk in
    let k = c.args.kept in
    let w = c.in_ok-new.ensures.written in
    let is : two ≡ 1 ∷ new_body (k.generation + 1) c.args.image.now = w.settled.durable two may_two ∙ w.file_is in
    subst (λ (f : List ℕ). KeepsEither one f before commands c.args.image.now []) (sym is)
    (shut_either (d.seen c.args.counting.now) (d.seen c.args.other.now) k before commands means (k.generation + 1) c.args.image.now (omega arith) (omega (arith, c.if-kept-ge-LAST_GENERATION.false)) c.requires.few one
    (c.shut.ensures.any_return one may_one))

pub returns-clause-renewed : goal.returns-clause-renewed
returns-clause-renewed g c =
    let d = g.D.Disk in
    let w = c.in_ok-new.ensures.written in
    renewed_means (d.seen c.write_new.new.disk) (d.seen c.shut.new.disk) (c.args.kept.generation + 1) c.args.image.now c.in_ok-new.new (omega (arith, c.if-kept-ge-LAST_GENERATION.false)) c.requires.few w.file_is w.generation_is w.begins w.check_is
    (shut_none (d.seen c.shut.new.disk) c.in_ok-shut.ensures.shut)

pub returns-clause-any_return : goal.returns-clause-any_return
returns-clause-any_return g c clean before commands means one two may_one may_two =
    let d = g.D.Disk in
    let k = c.args.kept in
    let w = c.in_ok-new.ensures.written in
    let is : two ≡ 1 ∷ new_body (k.generation + 1) c.args.image.now = w.settled.durable two may_two ∙ w.file_is in
    subst (λ (f : List ℕ). KeepsEither one f before commands c.args.image.now []) (sym is)
    (shut_either (d.seen c.args.counting.now) (d.seen c.args.other.now) k before commands means (k.generation + 1) c.args.image.now (omega arith) (omega (arith, c.if-kept-ge-LAST_GENERATION.false)) c.requires.few one
    (c.shut.ensures.any_return one may_one))

use Rattle.std.proofs.Common.{sym, arith}
use Rattle.std.proofs.lemmas.Result.{err_from_is_err_and}
use Rattle.pst_image_form.proofs.Forms.{is_found, read_only, fails_only}
use Rattle.pst_image_form.proofs.read.read_image.Goals as goal

pub returns-in_err-parts-clause-only : goal.returns-in_err-parts-clause-only
returns-in_err-parts-clause-only c = λ p len h.
    let e = err_from_is_err_and c.from_residual.result c.from_residual.ensures.1 in
    rw (e.1, e.2) (fails_only c.args.bytes.now p len c.in_err-parts.field-0.0 h c.in_err-parts.ensures)

pub overflow_sub-length : goal.overflow_sub-length
overflow_sub-length c = (is_found c.args.bytes.now c.in_ok-parts.parts c.in_ok-parts.rest.now (λ i. omega (arith, c.type_inv.bytes i)) c.in_ok-parts.ensures).1

pub returns-clause-found : goal.returns-clause-found
returns-clause-found c = (is_found c.args.bytes.now c.in_ok-parts.parts c.in_ok-parts.rest.now (λ i. omega (arith, c.type_inv.bytes i)) c.in_ok-parts.ensures).0

pub returns-clause-only : goal.returns-clause-only
returns-clause-only c = λ p len h. let r = read_only c.args.bytes.now p len c.in_ok-parts.parts c.in_ok-parts.rest.now h c.in_ok-parts.ensures in (sym r.0, sym r.1)

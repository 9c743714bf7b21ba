use Rattle.std.proofs.Common.{◌∙◌, subst, ℕ, List}
use Rattle.pst_front.specs.Verdict.{Judged, Accepted}
use Rattle.pst_typing.specs.View.{program_of}
use Rattle.pst_image_unpack.proofs.Deciding.{other_text, refused_text}
use Rattle.pst_image_unpack.proofs.taking.program_of_own_text.Goals as goal

pub returns-in-Err-Fault-clause-found : goal.returns-in-Err-Fault-clause-found
returns-in-Err-Fault-clause-found c named own =
    refused_text c.args.text.now c.in_ok-from_slice.field-0.items c.in-Err-Fault.field-0 c.in-Err-Fault.field-0-0 c.in_ok-from_slice.ensures.items
    c.in-Err-Fault.field-0-is c.in-Err-Fault.ensures.verdict named own

pub returns-clause-found : goal.returns-clause-found
returns-clause-found c named own =
    let (syntax, judged, is) = c.in-Ok.ensures.verdict in
    let here = subst (λ (t : List ℕ). Judged t (Accepted syntax (program_of c.in-Ok.program))) c.in_ok-from_slice.ensures.items judged in
    other_text c.args.text.now _ syntax (program_of c.in-Ok.program) here is (λ e. c.is_same.ensures.differs c.if-is_same.false (c.as_slice.ensures ∙ e)) named own

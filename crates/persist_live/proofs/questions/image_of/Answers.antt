use Rattle.std.proofs.Common.{◌^◌, List, ℕ, subst}
use Rattle.pst_base.specs.declared.names.Counts.{Counts}
use Rattle.pst_program.specs.Sound.{CountsWithin}
use Rattle.pst_program.specs.View.{routines_of}
use Rattle.pst_translation.specs.Compiled.{code_of}
use Rattle.pst_image_engine.proofs.Engines.{leaves}
use Rattle.pst_cli_images.proofs.Leaving.{imaged, numbers}
use Rattle.pst_cli_images.specs.Packing.{IsImage}
use Rattle.persist_live.proofs.questions.image_of.Goals as goal

pub pack-requires-clause-rested : goal.pack-requires-clause-rested
pack-requires-clause-rested c = c.requires.2.rested

pub pack-requires-clause-left : goal.pack-requires-clause-left
pack-requires-clause-left c =
    let (m, h, running) = c.requires in
    let few = subst (λ (k : Counts). CountsWithin k (2 ^ 50)) c.counts.ensures (c.are_few.ensures.few c.if-are_few.true) in
    leaves m (code_of (routines_of c.args.live.now.session.code)) c.args.live.now.session.engine h c.args.live.now.store c.next_run.result c.next_run.ensures c.whole.ensures.store running.stands few

pub pack-requires-clause-numbers : goal.pack-requires-clause-numbers
pack-requires-clause-numbers c =
    let (m, h, running) = c.requires in
    numbers m (code_of (routines_of c.args.live.now.session.code)) c.args.live.now.session.engine h c.args.live.now.store c.next_run.result c.budget.result c.next_run.ensures c.budget.ensures running.stands

pub returns-in_ok-image : goal.returns-in_ok-image
returns-in_ok-image c = λ m h now.
    let l = c.args.live.now in
    let i = c.in_ok-image in
    subst (λ (t : List ℕ). IsImage l.store t m.shape h i.image) c.as_slice.ensures
    (imaged m (code_of (routines_of l.session.code)) l.session.engine h l.store c.next_run.result c.budget.result c.as_slice.result.now i.image c.next_run.ensures c.budget.ensures
    now.stands i.ensures.image i.ensures.fits i.ensures.rules i.ensures.denotes)

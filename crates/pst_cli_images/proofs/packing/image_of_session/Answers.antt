use Rattle.pst_program.specs.View.{routines_of}
use Rattle.pst_translation.specs.Compiled.{code_of}
use Rattle.pst_image_engine.proofs.Engines.{leaves}
use Rattle.pst_cli_images.proofs.Leaving.{numbers, image_for_each}
use Rattle.pst_cli_images.proofs.packing.image_of_session.Goals as goal

pub pack-requires-clause-rested : goal.pack-requires-clause-rested
pack-requires-clause-rested g c = c.requires.stands.2.rested

pub pack-requires-clause-left : goal.pack-requires-clause-left
pack-requires-clause-left g c =
    let (m, h, running) = c.requires.stands in
    leaves m (code_of (routines_of c.args.session.now.code)) c.args.session.now.engine h c.args.store.now c.next_run.result c.next_run.ensures c.whole.ensures.store running.stands c.requires.counts

pub pack-requires-clause-numbers : goal.pack-requires-clause-numbers
pack-requires-clause-numbers g c =
    let (m, h, running) = c.requires.stands in
    numbers m (code_of (routines_of c.args.session.now.code)) c.args.session.now.engine h c.args.store.now c.next_run.result c.budget.result c.next_run.ensures c.budget.ensures running.stands

pub returns : goal.returns
returns g c =
    record {
      image = image_for_each c.args.session.now.code c.args.session.now.engine c.args.store.now c.next_run.result c.budget.result c.args.text.now c.pack.result c.next_run.ensures c.budget.ensures
          c.pack.ensures.image c.pack.ensures.fits c.pack.ensures.denotes c.pack.ensures.rules;
    }

use Rattle.pst_image_pack.proofs.Packed.{denotes_its_nodes, rules_hold}
use Rattle.pst_image_pack.proofs.image.pack.Goals as goal

pub returns-in_err-parts-clause-rules : goal.returns-in_err-parts-clause-rules
returns-in_err-parts-clause-rules g c = rules_hold c.args.store.now c.args.text.now c.args.next_run.0 c.args.budget c.whole.ensures.store
    (c.whole.ensures.small c.requires.rested) c.requires.left c.requires.numbers

pub returns-clause-rules : goal.returns-clause-rules
returns-clause-rules g c = rules_hold c.args.store.now c.args.text.now c.args.next_run.0 c.args.budget c.whole.ensures.store
    (c.whole.ensures.small c.requires.rested) c.requires.left c.requires.numbers

pub returns-clause-denotes : goal.returns-clause-denotes
returns-clause-denotes g c = denotes_its_nodes c.write_image.result c.args.store.now c.args.text.now c.args.next_run.0 c.args.budget c.whole.ensures.store c.in_ok-parts.ensures.short

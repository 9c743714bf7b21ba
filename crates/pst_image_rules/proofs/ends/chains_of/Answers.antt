use Rattle.std.proofs.Common.{subst}
use Rattle.std.specs.Option.{option_map}
use Rattle.pst_image_rules.specs.Heads.{IsMarking}
use Rattle.pst_image_rules.proofs.ChainList.{links_of}
use Rattle.pst_image_rules.proofs.ends.chains_of.Goals as goal

pub returns-in-None : goal.returns-in-None
returns-in-None c =
    let none = subst (λ o. IsMarking c.args.nodes.now (option_map (λ m. m.items) o)) c.in-None.is c.in_ok-marks.ensures in
    absurd (none (links_of _ c.requires.lives c.requires.chained))

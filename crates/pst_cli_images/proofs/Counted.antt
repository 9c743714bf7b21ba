-- What a script from the start counts.
use Rattle.std.proofs.Common.{sym, subst}
use Rattle.pst_history.specs.History.{Opening}
use Rattle.pst_cli_scripts.specs.Script.{by_tree}
use Rattle.pst_cli_scripts.specs.Kept.{history_after}
use Rattle.pst_history_laws.proofs.Sound.{left-sound}
use Rattle.pst_image_engine.specs.Counted.{OpensFew}
use Rattle.pst_image_engine.proofs.Counted.{counts_law, opening_counts_law}
use Rattle.pst_cli_images.specs.Pack.{ScriptCountsLaw}
use Rattle.pst_cli_images.proofs.Starts.{script-start}

pub script_counts_law : ScriptCountsLaw
script_counts_law m law lines =
    let begins : OpensFew (history_after by_tree m lines).start = subst (λ (o : Opening). OpensFew o) (sym (script-start m lines)) (opening_counts_law m) in
    counts_law m law (history_after by_tree m lines) (left-sound m law lines) begins

use Rattle.std.proofs.Common.{◌∙◌, drop, min, sym, ap}
use Rattle.pst_kept_files.proofs.OpenLemmas.{image_at}
use Rattle.pst_kept_files.proofs.opening.Opened.image.Goals as goal

pub returns : goal.returns
returns c = image_at c.deref.result.now c.min-begin.result (c.min-begin.ensures ∙ ap (min 49) (c.len.ensures ∙ sym c.deref.ensures.len)) ∙ ap (drop 49) c.deref.ensures.value

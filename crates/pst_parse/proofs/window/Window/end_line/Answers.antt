use Rattle.std.proofs.Common.{◌∙◌, sym}
use Rattle.pst_parse.proofs.Windows.{end_is}
use Rattle.pst_parse.proofs.window.Window.end_line.Goals as goal

pub returns : goal.returns
returns c = λ none tokens end ahead. end_is c.args.self.now tokens end none ahead ∙ sym c.line.ensures

use Rattle.pst_parse.proofs.Windows.{front_of}
use Rattle.pst_parse.proofs.window.Window.new.Goals as goal

pub returns : goal.returns
returns c = front_of (record { tokens = c.new.result; lexer = c.new-2.result }) c.args.text.now c.new.ensures.items c.new-2.ensures

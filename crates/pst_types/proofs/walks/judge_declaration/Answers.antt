use Rattle.std.proofs.Common.{rules}
use Rattle.pst_types.specs.View.{draft_of}
use Rattle.pst_types.proofs.walks.judge_declaration.Goals as goal

pub returns-in-Root : goal.returns-in-Root
returns-in-Root c = let judged = c.judge_root.ensures (draft_of c.args.draft.now) c.in-Root.name in search (rules, judged)

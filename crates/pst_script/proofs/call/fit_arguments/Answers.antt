use Rattle.std.proofs.Common.{◌∙◌}
use Rattle.pst_script.proofs.CallLemmas.{words_written, words_decide}
use Rattle.pst_script.proofs.call.fit_arguments.Goals as goal

pub loop-word-preserved : goal.loop-word-preserved
loop-word-preserved c = record {
  written = words_written _ _ _ c.in-Some.ensures.words c.loop-word.invariant.written;
  fit = words_decide _ _ _ _ c.in-Some.ensures.words c.argument.ensures c.if-is_none.ensures ∙ c.loop-word.invariant.fit;
}

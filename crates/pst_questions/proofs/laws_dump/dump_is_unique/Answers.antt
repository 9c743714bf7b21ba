use Rattle.std.proofs.Common.{ap, sym, ◌∙◌}
use Rattle.pst_questions.specs.Dump.{dump_text}
use Rattle.pst_questions.proofs.Numbered.{AreNumbered-same}
use Rattle.pst_questions.proofs.laws_dump.dump_is_unique.Goals as goal

pub returns : goal.returns
returns c = λ types h text other a b. a.spelled ∙ ap (dump_text types h) (AreNumbered-same h a.names b.names a.numbered b.numbered) ∙ sym b.spelled

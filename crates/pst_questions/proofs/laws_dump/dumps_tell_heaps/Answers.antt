use Rattle.pst_questions.proofs.Texts.{renamed_from_text, text_from_renaming}
use Rattle.pst_questions.proofs.laws_dump.dumps_tell_heaps.Goals as goal

pub returns : goal.returns
returns c = λ shape types h g text other w v named d k l. (
  λ e. renamed_from_text shape types h g text other w v named d k l e,
  λ f. text_from_renaming shape types h g text other w v named d k f.0 f.1,
)

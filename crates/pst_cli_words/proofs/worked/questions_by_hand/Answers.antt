use Rattle.std.proofs.Common.{refl}
use Rattle.pst_base.specs.Words.{is_name}
use Rattle.pst_script.specs.Words.{words}
use Rattle.pst_cli_words.specs.Asked.{question_in}
use Rattle.pst_cli_words.proofs.worked.questions_by_hand.Goals as goal

pub returns : goal.returns
unfolding question_in words is_name
returns c = record {
  dump = refl;
  first_version = refl;
  last_version = refl;
  changed = refl;
  blanks = refl;
  no_version = refl;
  long_version = refl;
  zero_before = refl;
  signed = refl;
  path_of_a_dump = refl;
  no_path = refl;
  two_dots = refl;
  keyword = refl;
  word_behind = refl;
  empty = refl;
  command = refl;
  bench = refl;
}

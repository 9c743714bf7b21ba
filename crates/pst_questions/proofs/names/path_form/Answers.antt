use Rattle.std.proofs.Common.{rules, tests}
use Rattle.std.proofs.lemmas.Iterator.Search.{all_from_yields_List}
use Rattle.std.proofs.lemmas.Iterator.Splits.{YieldsList-from_slice_split}
use Rattle.pst_base.specs.Words.{is_name}
use Rattle.pst_questions.specs.Path.{is_dot}
use Rattle.pst_questions.proofs.names.path_form.Goals as goal

pub returns : goal.returns
returns c = all_from_yields_List is_name _ _ _ c.all.ensures.ran
    (YieldsList-from_slice_split _ is_dot c.args.path.now c.split.ensures.rest c.split.ensures.done c.split.ensures.closure (λ x r q k. search (rules, tests)))
    (λ x b q k. search (rules, tests))

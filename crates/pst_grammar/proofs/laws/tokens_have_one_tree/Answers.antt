use Rattle.pst_grammar.specs.Lexemes.{lexemes}
use Rattle.pst_grammar.proofs.Faults.{unique}
use Rattle.pst_grammar.proofs.laws.tokens_have_one_tree.Goals as goal

pub returns : goal.returns
returns c = λ p q formed_p formed_q spells_p spells_q. unique (lexemes c.args.tokens.now) p q formed_p formed_q spells_p spells_q

use Rattle.std.proofs.Common.{map, rules}
use Rattle.pst_grammar.specs.View.{item_of, phrases_of}
use Rattle.pst_typing.specs.Names.{nothing_declared}
use Rattle.pst_types.proofs.Bodies.{all_noted_apart}
use Rattle.pst_types.proofs.walks.walk.Goals as goal

pub returns-in_err-scope-clause-answer : goal.returns-in_err-scope-clause-answer
returns-in_err-scope-clause-answer c =
    let first = all_noted_apart (map phrases_of c.args.bodies.items) (map item_of c.args.declarations.now) nothing_declared in search (rules, first)

pub returns-in_err-draft-clause-answer : goal.returns-in_err-draft-clause-answer
returns-in_err-draft-clause-answer c =
    let first = all_noted_apart (map phrases_of c.args.bodies.items) (map item_of c.args.declarations.now) nothing_declared in search (rules, first)

pub returns-clause-answer : goal.returns-clause-answer
returns-clause-answer c =
    let first = all_noted_apart (map phrases_of c.args.bodies.items) (map item_of c.args.declarations.now) nothing_declared in search (rules, first)

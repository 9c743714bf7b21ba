use Rattle.std.proofs.Common.{◌≡◌, ◌++◌, drop, map}
use Rattle.std.specs.List.{flat_map}
use Rattle.pst_grammar.specs.View.{item_of}
use Rattle.pst_notation.specs.Canonical.{item_text, language_text}
use Rattle.pst_notation.proofs.declarations.print_program.Given as goal

abbrev pub invariant-loop-declaration : goal.invariant-loop-declaration
invariant-loop-declaration l = l.out.items ++ flat_map item_text (map item_of (drop l.declaration-index l.declaration-items)) ≡ language_text
    l.tree.language ++ flat_map item_text (map item_of l.tree.declarations.items.items)

use Rattle.std.proofs.Common.{◌≡◌, ◌++◌, drop, map}
use Rattle.std.specs.List.{flat_map}
use Rattle.pst_grammar.specs.View.{local_of}
use Rattle.pst_notation.specs.Texts.{behind_comma}
use Rattle.pst_notation.specs.Canonical.{parameter_text}
use Rattle.pst_notation.proofs.declarations.put_more_parameters.Given as goal

abbrev pub invariant-loop-parameter : goal.invariant-loop-parameter
invariant-loop-parameter l = l.out.items ++ flat_map (behind_comma parameter_text) (map local_of (drop l.parameter-index l.list)) ≡ l.fn.out.items ++
    flat_map (behind_comma parameter_text) (map local_of l.list)

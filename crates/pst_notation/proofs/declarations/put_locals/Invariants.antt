use Rattle.std.proofs.Common.{◌≡◌, ◌++◌, drop, map}
use Rattle.std.specs.List.{flat_map}
use Rattle.pst_grammar.specs.View.{local_of}
use Rattle.pst_notation.specs.Canonical.{local_text}
use Rattle.pst_notation.proofs.declarations.put_locals.Given as goal

abbrev pub invariant-loop-local : goal.invariant-loop-local
invariant-loop-local l = l.out.items ++ flat_map local_text (map local_of (drop l.local-index l.locals)) ≡ l.fn.out.items ++ flat_map local_text (map local_of l.locals)

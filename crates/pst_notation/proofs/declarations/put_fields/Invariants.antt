use Rattle.std.proofs.Common.{◌≡◌, ◌++◌, drop, map}
use Rattle.std.specs.List.{flat_map}
use Rattle.pst_grammar.specs.View.{field_of}
use Rattle.pst_notation.specs.Canonical.{field_text}
use Rattle.pst_notation.proofs.declarations.put_fields.Given as goal

abbrev pub invariant-loop-field : goal.invariant-loop-field
invariant-loop-field l = l.out.items ++ flat_map field_text (map field_of (drop l.field-index l.fields)) ≡ l.fn.out.items ++ flat_map field_text (map field_of l.fields)

use Rattle.std.proofs.Common.{◌≡◌, ◌++◌, drop}
use Rattle.std.specs.List.{flat_map}
use Rattle.pst_listing.specs.Listing.{kind_word}
use Rattle.pst_listing.proofs.procedures.put_kinds.Given as goal

abbrev pub invariant-loop-kind : goal.invariant-loop-kind
invariant-loop-kind l = l.out.items ++ flat_map (kind_word l.program.names) (drop l.kind-index l.kinds) ≡ l.fn.out.items ++ flat_map (kind_word l.program.names) l.kinds

use Rattle.std.proofs.Common.{◌≡◌, ◌++◌, drop}
use Rattle.std.specs.List.{flat_map}
use Rattle.pst_listing.specs.Listing.{procedure_text}
use Rattle.pst_listing.proofs.procedures.listing_of.Given as goal

abbrev pub invariant-loop-procedure : goal.invariant-loop-procedure
invariant-loop-procedure l =
    l.out.items ++ flat_map (procedure_text l.program.names l.procedures) (drop l.procedure-index l.procedures) ≡ flat_map (procedure_text l.program.names l.procedures) l.procedures

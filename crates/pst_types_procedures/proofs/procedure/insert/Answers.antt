use Rattle.std.proofs.Common.{ap, ◌∙◌}
use Rattle.pst_types_scope.specs.View.{entries_of, local_of}
use Rattle.pst_types_scope.proofs.Lookups.{inserted}
use Rattle.pst_types_procedures.proofs.procedure.insert.Goals as goal

pub returns : goal.returns
returns c = ap (entries_of local_of) c.in_ok-insert.ensures.entries ∙ inserted local_of c.args.variables.now.entries c.args.name c.args.variable c.requires

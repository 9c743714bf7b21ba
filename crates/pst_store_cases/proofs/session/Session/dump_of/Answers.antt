use Rattle.std.proofs.Common.{◌∙◌, sym, ap}
use Rattle.pst_program.specs.declared.program.Program.{Program}
use Rattle.pst_program.specs.View.{routines_of}
use Rattle.pst_store_cases.proofs.Sessions.{meaning_shape, version_has}
use Rattle.pst_store_cases.proofs.session.Session.dump_of.Goals as goal

pub dump-requires-clause-place : goal.dump-requires-clause-place
dump-requires-clause-place g c = version_has (g.H.HeapAt.state c.args.self.now.heap) c.args.version.0 c.in-Some.place c.known_versions.ensures (sym c.place_of.ensures ∙ c.in-Some.is)

pub dump-requires-clause-shape : goal.dump-requires-clause-shape
dump-requires-clause-shape g c = c.requires.stands.stands.shape ∙ meaning_shape (routines_of c.args.self.now.code) ∙ ap (λ (p : Program). p.shape) (sym c.program.ensures)

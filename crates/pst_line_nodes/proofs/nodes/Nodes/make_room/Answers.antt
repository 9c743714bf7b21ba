use Rattle.std.proofs.Common.{sym, ◌∙◌}
use Rattle.std.proofs.lemmas.Bool.{false≢true}
use Rattle.pst_line_nodes.specs.Nodes.{line_of}
use Rattle.pst_line_nodes.proofs.Carrying.{carried_itself}
use Rattle.pst_line_nodes.proofs.Redirecting.{room_here}
use Rattle.pst_line_nodes.proofs.Results.{if_ok_map}
use Rattle.pst_line_nodes.proofs.nodes.Nodes.make_room.Goals as goal

pub copy_over-requires-clause-full : goal.copy_over-requires-clause-full
copy_over-requires-clause-full c = (c.args.field.0, c.is_full.ensures.0 c.if-is_full.true)

pub returns-then-is_full-clause-room : goal.returns-then-is_full-clause-room
returns-then-is_full-clause-room c = if_ok_map c.copy_over.result _ _ (λ z h. h c.args.field.0) c.copy_over.ensures.room

pub returns-else-is_full-clause-room : goal.returns-else-is_full-clause-room
returns-else-is_full-clause-room c = room_here c.args.shape.now c.args.stamp.0 c.args.self.now c.args.x.0 c.args.field.0 c.requires.newest (λ f. false≢true (sym c.if-is_full.false ∙ c.is_full.ensures.1 f))

pub returns-else-is_full-clause-carried : goal.returns-else-is_full-clause-carried
returns-else-is_full-clause-carried c = λ made l. carried_itself c.args.shape.now c.args.stamp.0 (line_of made c.args.self.now) l

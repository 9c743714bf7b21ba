use Rattle.std.proofs.Common.{◌≡◌, ◌≢◌, true, List, sym, ◌∙◌, subst}
use Rattle.std.proofs.lemmas.Bool.{false≢true}
use Rattle.pst_line_nodes.specs.Contents.{Target}
use Rattle.pst_line_nodes.specs.Seen.{Seen}
use Rattle.pst_line_nodes.specs.Nodes.{line_of}
use Rattle.pst_line_nodes.specs.Carried.{IsCarried}
use Rattle.pst_line_nodes.proofs.Results.{on_ok_map, on_err_map, either_way}
use Rattle.pst_line_nodes.proofs.Carrying.{carried_itself, carried_copied}
use Rattle.pst_line_nodes.proofs.Redirecting.{x_slot, x_before, done_held, done_copied, done_set, carried_set}
use Rattle.pst_line_nodes.proofs.nodes.Nodes.redirect.Goals as goal

pub read-requires-clause-slot : goal.read-requires-clause-slot
read-requires-clause-slot c =
    let e = c.requires.entered in
    x_slot c.args.shape.now c.args.stamp.0 c.args.self.now c.requires.line.0 c.requires.line.1 c.requires.kept c.args.z.0 e.0 c.args.entry.node.0 c.args.entry.slot.0 e.1 c.requires.there e.2

pub set-requires-clause-slot : goal.set-requires-clause-slot
set-requires-clause-slot c =
    let e = c.requires.entered in
    x_slot c.args.shape.now c.args.stamp.0 c.args.self.now c.requires.line.0 c.requires.line.1 c.requires.kept c.args.z.0 e.0 c.args.entry.node.0 c.args.entry.slot.0 e.1 c.requires.there e.2

pub copy-requires-clause-before : goal.copy-requires-clause-before
copy-requires-clause-before c =
    let e = c.requires.entered in
    x_before c.args.shape.now c.args.stamp.0 c.args.self.now c.requires.line.0 c.requires.line.1 c.requires.kept c.args.z.0 e.0 c.args.entry.node.0 c.args.entry.slot.0 e.1 c.requires.there e.2 (c.is_full.ensures.0 c.if-is_full.true)

pub returns-then-is_target-clause-done : goal.returns-then-is_target-clause-done
returns-then-is_target-clause-done c = λ s r e.
    let held : c.read.result ≡ Target c.args.z.0 = c.is_target.ensures.0 c.if-is_target.true in
    done_held c.args.shape.now c.args.stamp.0 c.args.self.now c.requires.line.0 c.requires.line.1 c.requires.kept c.args.z.0 s c.args.entry.node.0 c.args.entry.slot.0 r c.requires.there e (sym (c.read.ensures (λ i. true)) ∙ held)

pub returns-then-is_full-clause-done : goal.returns-then-is_full-clause-done
returns-then-is_full-clause-done c = on_ok_map c.copy.result _ _
    (λ d s r e. done_copied c.args.shape.now c.args.stamp.0 c.args.self.now c.requires.line.0 c.requires.line.1 c.requires.kept c.args.z.0 s c.args.entry.node.0 c.args.entry.slot.0 r c.requires.there e c.copy.new.self (d c.requires.line.0))
    c.copy.ensures.copied

pub returns-then-is_full-clause-carried : goal.returns-then-is_full-clause-carried
returns-then-is_full-clause-carried c = λ made l. either_way c.copy.result _
    (on_ok_map c.copy.result _ _ (λ d. carried_copied c.args.shape.now c.args.stamp.0 (line_of made c.args.self.now) (line_of made c.copy.new.self) c.args.entry.node.0 l (d made) (c.is_full.ensures.0 c.if-is_full.true).most_are) c.copy.ensures.copied)
    (on_err_map c.copy.result _ _ (λ same. subst (λ (xs : List Seen). IsCarried c.args.shape.now c.args.stamp.0 (line_of made c.args.self.now) (line_of made xs)) (sym same) (carried_itself c.args.shape.now c.args.stamp.0 (line_of made c.args.self.now) l)) c.copy.ensures.err)

pub returns-else-is_full-clause-done : goal.returns-else-is_full-clause-done
returns-else-is_full-clause-done c =
    let other : c.read.result ≢ Target c.args.z.0 = λ h. false≢true (sym c.if-is_target.false ∙ c.is_target.ensures.1 h) in
    on_ok_map c.set.result _ _
    (λ d s r e. done_set c.args.shape.now c.args.stamp.0 c.args.self.now c.requires.line.0 c.requires.line.1 c.requires.kept c.args.z.0 s c.args.entry.node.0 c.args.entry.slot.0 r c.requires.there e c.set.new.self (λ h. other (c.read.ensures (λ i. true) ∙ h)) (d c.requires.line.0))
    c.set.ensures.ok

pub returns-else-is_full-clause-carried : goal.returns-else-is_full-clause-carried
returns-else-is_full-clause-carried c =
    let other : c.read.result ≢ Target c.args.z.0 = λ h. false≢true (sym c.if-is_target.false ∙ c.is_target.ensures.1 h) in
    let e = c.requires.entered in
    λ made l. either_way c.set.result _
    (on_ok_map c.set.result _ _ (λ d. carried_set c.args.shape.now c.args.stamp.0 c.args.self.now c.requires.line.0 c.requires.line.1 c.requires.kept c.args.z.0 e.0 c.args.entry.node.0 c.args.entry.slot.0 e.1 c.requires.there e.2 made c.set.new.self l (λ f. false≢true (sym c.if-is_full.false ∙ c.is_full.ensures.1 f)) (λ h. other (c.read.ensures (λ i. true) ∙ h)) (d made)) c.set.ensures.ok)
    (on_err_map c.set.result _ _ (λ same. subst (λ (xs : List Seen). IsCarried c.args.shape.now c.args.stamp.0 (line_of made c.args.self.now) (line_of made xs)) (sym same) (carried_itself c.args.shape.now c.args.stamp.0 (line_of made c.args.self.now) l)) c.set.ensures.err)

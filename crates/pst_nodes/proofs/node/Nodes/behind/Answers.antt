use Rattle.std.proofs.Common.{length, ◌≡◌, ◌<◌, ℕ, List, Option, Some, None, IfSome, sym, ap, ◌∙◌, subst, ⊎_elim}
use Rattle.std.proofs.lemmas.Bool.{false≢true}
use Rattle.std.proofs.lemmas.Option.{same_Some, none-some}
use Rattle.std.specs.Option.{option_map}
use Rattle.pst_base.specs.declared.names.NodeId.{NodeId}
use Rattle.pst_order.specs.Places.{rank}
use Rattle.pst_mirror.specs.Lives.{IsIn, IsLive}
use Rattle.pst_mirror.proofs.LivesLemmas.{walk_law}
use Rattle.pst_nodes.specs.declared.node.Node.{Node}
use Rattle.pst_nodes.specs.Arena.{Frame, lives, frame_at, frame_of, no_frame, lo_at, hi_at, LeadsTo}
use Rattle.pst_nodes.proofs.NodeLemmas.{live_in, hi_in, at_map}
use Rattle.pst_nodes.proofs.node.Nodes.behind.Goals as goal
use Rattle.pst_nodes.proofs.node.Nodes.behind.Goals.{After-hi}
use Rattle.pst_nodes.proofs.node.Nodes.behind.Given.{Over}

abbrev Next : List ℕ → List Node → ℕ → ℕ → Type 0
Next qs ns i n = (j : ℕ) × ((frame_at ns i).later ≡ Some j) × IsLive (lives qs ns) j n × ((frame_at ns j).name ≡ (frame_at ns i).name) × (rank qs (lo_at ns i) < rank qs (lo_at ns j))

-- what holds of the number of the node that is there
if_some : (P : ℕ → Type 0) (o : Option NodeId) (k : ℕ) → option_map (λ (i : NodeId). i.0) o ≡ Some k → P k → IfSome o (λ n. P n.0)
if_some P None k e p = absurd (none-some k e)
if_some P (Some n) k e p = subst P (same_Some k n.0 (sym e)) p

-- where the node ends
hi_here : (g : Over) (c : After-hi g) → c.hi.result.0 ≡ hi_at c.args.self.now.list.items c.args.id.0
hi_here g c = ap (λ p. p.0) c.hi.ensures ∙ sym (at_map (λ (n : Node). n.row.hi.0) c.args.self.now.list.items c.args.id.0 c.index-node.result.now 0 c.requires.live.there c.index-node.ensures)

pub before-requires-clause-a_in : goal.before-requires-clause-a_in
before-requires-clause-a_in g c = record {
  there = live_in (g.O.Order.places c.args.order.now) c.args.self.now.list.items c.args.id.0
      (rank (g.O.Order.places c.args.order.now) c.args.at.0) c.requires.rows c.requires.live;
}

pub before-requires-clause-b_in : goal.before-requires-clause-b_in
before-requires-clause-b_in g c = record {
  there = subst (λ (p : ℕ). rank (g.O.Order.places c.args.order.now) p < length
      (g.O.Order.places c.args.order.now)) (sym (hi_here g c)) (hi_in (g.O.Order.places c.args.order.now) c.args.self.now.list.items c.args.id.0
      c.requires.live.there c.requires.rows);
}

pub returns-clause-some : goal.returns-clause-some
returns-clause-some g c =
    let qs = g.O.Order.places c.args.order.now in
    let ns = c.args.self.now.list.items in
    let at = rank (g.O.Order.places c.args.order.now) c.args.at.0 in
    let hi : c.hi.result.0 ≡ hi_at ns c.args.id.0 = hi_here g (goal.at.returns-clause-some g c).After-hi in
    let past : IsIn (lives qs ns) c.args.id.0 at → ⊥ = λ q. false≢true (sym c.if-before.false ∙ c.before-else-not-is_followed.ensures.1 (subst (λ (p : ℕ). at < rank qs p) (sym hi) q.high)) in
    let w = ⊎_elim (λ (q : IsIn (lives qs ns) c.args.id.0 at). absurd (past q)) (λ (q : Next qs ns c.args.id.0 at). q) (walk_law (lives qs ns) c.args.id.0 at c.requires.chained c.requires.live) in
    let frame : frame_at ns c.args.id.0 ≡ frame_of c.index-node.result.now = at_map frame_of ns c.args.id.0 c.index-node.result.now no_frame c.requires.live.there c.index-node.ensures in
    let next : option_map (λ (i : NodeId). i.0) c.later.result ≡ Some w.0 = ap (option_map (λ (i : NodeId). i.0)) c.later.ensures ∙ sym (ap (λ (f : Frame). f.later) frame) ∙ w.1 in
    if_some (LeadsTo (lives qs ns) c.args.id.0 at) c.later.result w.0 next (record { live = w.2; name = w.3; later = w.4 })

use Rattle.std.proofs.Common.{◌≡◌, ◌<◌, ℕ, List, Option, Some, is_some, sym, ap, ◌∙◌, ⊎_elim}
use Rattle.std.proofs.lemmas.Bool.{false≢true}
use Rattle.pst_order.specs.Places.{rank}
use Rattle.pst_mirror.specs.Lives.{IsIn, IsLive}
use Rattle.pst_mirror.proofs.LivesLemmas.{walk_law}
use Rattle.pst_nodes.specs.declared.node.Node.{Node}
use Rattle.pst_nodes.specs.Arena.{lives, frame_at, lo_at}
use Rattle.pst_store_arena.proofs.near.cover.Goals as goal

abbrev Next : List ℕ → List Node → ℕ → ℕ → Type 0
Next qs ns i n = (j : ℕ) × ((frame_at ns i).later ≡ Some j) × IsLive (lives qs ns) j n × ((frame_at ns j).name ≡ (frame_at ns i).name) × (rank qs (lo_at ns i) < rank qs (lo_at ns j))

pub returns-else-is_followed-clause-covers : goal.returns-else-is_followed-clause-covers
returns-else-is_followed-clause-covers g c =
    let qs : List ℕ = g.O.Order.places c.args.order.now in
    let ns : List Node = c.args.nodes.now.list.items in
    let n : ℕ = rank qs c.args.at.0 in
    ⊎_elim
    (λ (q : IsIn (lives qs ns) c.args.id.0 n). q)
    (λ (q : Next qs ns c.args.id.0 n). absurd (false≢true (sym c.if-is_followed.false ∙ c.is_followed.ensures ∙ ap (λ (o : Option ℕ). is_some o) q.1)))
    (walk_law (lives qs ns) c.args.id.0 n c.requires.chained c.requires.live)

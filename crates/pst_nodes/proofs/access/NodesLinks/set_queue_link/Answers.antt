use Rattle.std.proofs.Common.{◌≡◌, refl, ap, ◌∙◌, arith, map, get_or, ⊎_elim}
use Rattle.std.proofs.lemmas.Bool.{cases_eq, eq-eqb, ne_eqb}
use Rattle.std.proofs.lemmas.List.{get_or-set_same, get_or-set_other, length-map}
use Rattle.pst_nodes.specs.declared.links.Link.TheVariants.{Out}
use Rattle.pst_nodes.specs.declared.node.Node.{Node}
use Rattle.pst_nodes.specs.Arena.{frame_of}
use Rattle.pst_nodes.specs.Header.{HeaderValue}
use Rattle.pst_nodes.proofs.NodeLemmas.{map-set, same_map}
use Rattle.pst_nodes.proofs.access.NodesLinks.set_queue_link.Goals as goal

pub returns-clause-set : goal.returns-clause-set
returns-clause-set c i =
    ap (λ ls. get_or ls i Out) (map-set (λ (n : Node). n.header.link) c.args.self.now.list.items c.args.id.0 _)
    ∙ ⊎_elim
    (λ (e : i ≡ c.args.id.0). rw (e, eq-eqb c.args.id.0 c.args.id.0 refl)
    (get_or-set_same (map (λ (n : Node). n.header.link) c.args.self.now.list.items) c.args.id.0 c.set_link.new.self.link Out
    (omega (arith, length-map c.args.self.now.list.items (λ (n : Node). n.header.link), c.requires)) ∙ ap (λ (h : HeaderValue). h.link) c.set_link.ensures))
    (λ (ne : i ≡ c.args.id.0 → ⊥). rw (ne_eqb i c.args.id.0 ne) (get_or-set_other (map (λ (n : Node). n.header.link) c.args.self.now.list.items) c.args.id.0 i c.set_link.new.self.link Out ne))
    (cases_eq i c.args.id.0)

pub returns-clause-rest : goal.returns-clause-rest
returns-clause-rest c = (
  same_map (λ (n : Node). n.row) c.args.self.now.list.items c.args.id.0 c.index_mut.result.now _ c.requires c.index_mut.ensures.value refl,
  same_map frame_of c.args.self.now.list.items c.args.id.0 c.index_mut.result.now _ c.requires c.index_mut.ensures.value
      (ap (λ (h : HeaderValue). frame_of (record { header = h; row = c.index_mut.result.now.row })) c.set_link.ensures),
)

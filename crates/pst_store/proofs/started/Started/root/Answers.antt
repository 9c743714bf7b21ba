use Rattle.pst_store.proofs.Stores.{nodes_of}
use Rattle.pst_store.proofs.Answered.{root_first, root_named, root_live}
use Rattle.pst_store.proofs.started.Started.root.Goals as goal

pub root_near-requires-clause-nodes : goal.root_near-requires-clause-nodes
root_near-requires-clause-nodes g c =
    nodes_of _ c.self.invariant.store

pub root_near-requires-clause-live : goal.root_near-requires-clause-live
root_near-requires-clause-live g c =
    root_first _ _ c.args.at c.self.view_is c.self.invariant c.requires

pub returns-clause-name : goal.returns-clause-name
returns-clause-name g c =
    root_named _ _ c.root_near.result c.self.view_is c.root_near.ensures.name

pub returns-clause-live : goal.returns-clause-live
returns-clause-live g c =
    root_live _ _ c.args.at c.root_near.result c.self.view_is c.requires c.root_near.ensures.inside

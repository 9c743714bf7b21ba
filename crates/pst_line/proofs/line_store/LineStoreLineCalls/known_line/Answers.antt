use Rattle.pst_line.proofs.Wholes.{means_in, chain_in, stored_whole, rested_whole, closed_whole, empty_whole, listed_whole}
use Rattle.pst_line.proofs.line_store.LineStoreLineCalls.known_line.Goals as goal

pub returns-clause-means : goal.returns-clause-means
returns-clause-means c = means_in c.args.self.now

pub returns-clause-chain : goal.returns-clause-chain
returns-clause-chain c = chain_in c.args.self.now

pub returns-clause-stored : goal.returns-clause-stored
returns-clause-stored c = stored_whole c.args.self.now c.whole.ensures

pub returns-clause-rested : goal.returns-clause-rested
returns-clause-rested c = rested_whole c.args.self.now c.whole.ensures

pub returns-clause-closed : goal.returns-clause-closed
returns-clause-closed c = closed_whole c.args.self.now c.whole.ensures

pub returns-clause-empty : goal.returns-clause-empty
returns-clause-empty c = empty_whole c.args.self.now c.whole.ensures

pub returns-clause-listed : goal.returns-clause-listed
returns-clause-listed c = listed_whole c.args.self.now c.whole.ensures

use Rattle.std.proofs.Common.{◌≡◌, map, take}
use Rattle.pst_image_meaning.specs.Denoted.{relic_of as relic_in}
use Rattle.pst_image_unpack.proofs.records.relics_of.Given as goal

abbrev pub invariant-loop-chain : goal.invariant-loop-chain
invariant-loop-chain l = l.relics.items ≡ map (relic_in l.nodes) (take l.chain-index l.chain-items)

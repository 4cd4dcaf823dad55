-- `lay::write` meets its contract: the blocks from block 0 on, and the words behind them. Assumes nothing.
use Rattle.blocks.proofs.Chains.{whole}
use Rattle.lay.proofs.write.Goals as goal

pub returns : goal.returns
returns c = (whole c.write_chain.ensures).1

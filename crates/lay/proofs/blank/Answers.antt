-- `lay::blank` meets its contract. Assumes nothing.
use borrow.Author.Rules.{rules}
use Rattle.lay.proofs.Halves.{halves_filled}
use Rattle.lay.proofs.blank.Goals as goal

pub returns : goal.returns
returns c = halves_filled c.requires (c.fill.ensures.after (search rules)) (c.fill-2.ensures.after (search rules))

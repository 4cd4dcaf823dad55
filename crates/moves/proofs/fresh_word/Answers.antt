-- `moves::fresh_word` meets its contract.
-- Assumes nothing.
use borrow.Author.Tests.{lt-ltb, le-ltb}
use Rattle.moves.proofs.fresh_word.Goals as goal

pub returns-then-i-shape : goal.returns-then-i-shape
returns-then-i-shape c = rw (lt-ltb _ _ c.if-i-shape.true) c.default_word.ensures

pub returns : goal.returns
returns c = rw (le-ltb _ _ c.if-i-shape.false)

-- `best::ask` meets its contract.
-- Assumes nothing.
use borrow.Author.Tests.{lt-ltb, le-ltb}
use Rattle.best.proofs.ask.Goals as goal

pub returns-then-n-goal : goal.returns-then-n-goal
returns-then-n-goal c = rw (lt-ltb _ _ c.if-n-goal.true)

pub returns : goal.returns
returns c = rw (le-ltb _ _ c.if-n-goal.false)

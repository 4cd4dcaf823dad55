-- `stands::one_is` meets its contract.
-- Assumes nothing.
use mathlib.Core.Path.{◌∙◌}
use borrow.Author.Tests.{le-ltb}
use Rattle.stands.proofs.Steps.{one_full, one_head}
use Rattle.stands.proofs.one_is.Goals as goal

pub returns-then-k-c : goal.returns-then-k-c
returns-then-k-c c = one_head _ _ _ _ c.if-k-c.true c.head_is.ensures

pub returns-else-k-c : goal.returns-else-k-c
returns-else-k-c c = le-ltb _ _ c.if-k-c.false ∙ one_full _ _ _ _ c.if-k-c.false

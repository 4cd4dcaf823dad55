-- `ipv4::shape` meets its contract: the numbers of either kind.
-- Assumes nothing.
use mathlib.Core.Path.{refl}
use Rattle.ipv4.proofs.shape.Goals as goal

pub returns-then-large : goal.returns-then-large
returns-then-large c = rw c.if-large.true refl

pub returns : goal.returns
returns c = rw c.if-large.false refl

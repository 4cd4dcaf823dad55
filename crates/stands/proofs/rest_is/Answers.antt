-- `stands::rest_is` meets its contract.
-- Assumes nothing.
use Rattle.std.proofs.Math.Bool.{and-true}
use Rattle.stands.specs.Stands.{rest_is}
use Rattle.stands.proofs.rest_is.Goals as goal

pub returns : goal.returns
unfolding rest_is
returns c = simp and-true at c.eq.ensures

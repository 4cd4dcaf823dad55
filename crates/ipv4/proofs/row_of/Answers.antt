-- `ipv4::row_of` meets its contract: word for word.
-- Assumes nothing.
use mathlib.Core.Path.{refl}
use Rattle.model.specs.Lists.{up_to}
use Rattle.ipv4.proofs.row_of.Goals as goal

pub returns : goal.returns
unfolding up_to
returns c = (refl, refl)

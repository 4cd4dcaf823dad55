-- `reading::or_zeros` meets its contract: what was read, or zeros.
-- Assumes nothing.
use mathlib.Core.Path.{refl}
use Rattle.model.specs.Lists.{up_to}
use Rattle.reading.proofs.Found.{zeros_or}
use Rattle.reading.proofs.or_zeros.Goals as goal

pub returns : goal.returns
unfolding up_to
returns c = zeros_or c.args.read _ refl _ c.unwrap_or.ensures

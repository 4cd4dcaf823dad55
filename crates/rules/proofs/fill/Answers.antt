-- `rules::fill` meets its contract: the words are what the start and the two inserts say.
-- Assumes nothing.
use Rattle.std.proofs.Common.{ap, ◌∙◌}
use Rattle.model.specs.Bench.{rule10, rule20}
use Rattle.model.specs.Lists.{up_to}
use Rattle.rules.specs.Store.{inserted}
use Rattle.rules.proofs.fill.Goals as goal

pub returns : goal.returns
unfolding up_to
returns c =
    c.insert-2.ensures.1
    ∙ ap (λ ws. inserted ws rule20) (c.insert.ensures.1 ∙ ap (λ ws. inserted ws rule10) c.start.ensures.1)

-- `ipv4::rule_at` meets its contract: each number is what its reader ensures.
-- Assumes nothing.
use Rattle.model.specs.Lists.{up_to}
use Rattle.ipv4.proofs.rule_at.Goals as goal

pub returns : goal.returns
unfolding up_to
returns c =
    rw (
      c.number.ensures,
      c.action.ensures,
      c.low.ensures,
      c.low-2.ensures,
      c.low-3.ensures,
      c.low-4.ensures,
      c.low-5.ensures,
      c.low-6.ensures,
      c.high.ensures,
      c.high-2.ensures,
      c.high-3.ensures,
      c.high-4.ensures,
      c.high-5.ensures,
      c.high-6.ensures,
      c.of-table.ensures,
    )

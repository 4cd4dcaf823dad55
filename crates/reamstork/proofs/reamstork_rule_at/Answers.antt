-- `reamstork_rule_at` meets its contract: what is read, given to C.
-- Assumes nothing.
use Rattle.reamstork.proofs.Read.{given_to_c}
use Rattle.reamstork.proofs.reamstork_rule_at.Goals as goal

pub returns : goal.returns
returns c = given_to_c _ _ _ _ _ _ c.rule_at.ensures c.for_c.ensures

-- What is spelled behind the digits read so far is what was asked for.
-- Assumes nothing.
use Rattle.std.proofs.Common.{◌≡◌, drop}
use Rattle.keeping.specs.Keep.{asked_in, spelled}
use Rattle.keeping.proofs.action_of.Given as goal

abbrev pub invariant-loop-b : goal.invariant-loop-b
invariant-loop-b l = asked_in l.text ≡ spelled l.value (drop l.b-index l.text)

-- `scan::decide` meets its contract. The invariant: the lead so far is that of the records before.
-- Assumes nothing.
use Rattle.std.proofs.Common.{◌≡◌, take}
use Rattle.std.specs.Prelude.{None}
use Rattle.scan.specs.Scan.{through}
use Rattle.scan.proofs.decide.Given as goal

abbrev pub invariant-loop-rule : goal.invariant-loop-rule
invariant-loop-rule l = l.lead ≡ through l.packet None (take l.rule-index l.records)

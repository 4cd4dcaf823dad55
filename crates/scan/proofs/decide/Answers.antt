-- `scan::decide` meets its contract: the steps, one for each record, come to what the scan is said to answer (`Through.antt`).
-- Assumes nothing.
use Rattle.std.proofs.Common.{sym, ap, ◌∙◌, arith}
use lib.Seq.{take_all}
use Rattle.std.specs.Prelude.{None}
use Rattle.scan.specs.Scan.{through}
use Rattle.scan.proofs.Through.{scan_right, scan_refused}
use Rattle.scan.proofs.decide.Goals as goal

pub returns-then-not-right : goal.returns-then-not-right
returns-then-not-right c = scan_refused c.args.packet _ _ (sym c.right.ensures ∙ c.if-not-right.true)

pub returns : goal.returns
returns c =
    let p = c.args.packet in
    let e = c.loop-rule.invariant ∙ ap (through p None) (take_all _ c.args.records.now (omega arith)) in
    rw (c.unwrap_or.ensures, e) (scan_right p _ _ (sym c.right.ensures ∙ c.if-not-right.false))

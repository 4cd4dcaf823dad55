-- `audit::table_is` meets its contract: its tests in their order.
-- Assumes nothing.
use mathlib.Core.Bool.{not}
use mathlib.Core.Path.{ap}
use Rattle.layout.proofs.Parts.{first_fails, second_fails, third_says}
use Rattle.audit.proofs.table_is.Goals as goal

pub returns-then-not-rows_are : goal.returns-then-not-rows_are
returns-then-not-rows_are c = first_fails _ c.rows_are.ensures (ap not c.if-not-rows_are.true)

pub returns-then-not-rising : goal.returns-then-not-rising
returns-then-not-rising c = second_fails _ c.rows_are.ensures (ap not c.if-not-rows_are.false) c.rising.ensures (ap not c.if-not-rising.true)

pub returns : goal.returns
returns c = third_says c.rows_are.ensures (ap not c.if-not-rows_are.false) c.rising.ensures (ap not c.if-not-rising.false) c.all_right.ensures

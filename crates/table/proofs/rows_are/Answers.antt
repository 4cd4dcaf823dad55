-- `table::rows_are` meets its contract: the rows are right where their three parts are.
-- Assumes nothing.
use mathlib.Core.Bool.{not}
use mathlib.Core.Path.{ap}
use Prim.Native.Nat.{◌+◌}
use native.Mathlib.Omega.{arith}
use Rattle.model.proofs.Grid.{row_starts}
use Rattle.table.specs.Rows.{kind_of}
use Rattle.table.proofs.Laws.{said_yes, said_no, wrong_first, wrong_ends, rows_rest}
use Rattle.table.proofs.rows_are.Goals as goal

pub returns-then-not-first_is : goal.returns-then-not-first_is
returns-then-not-first_is c =
    let a = c.args in
    wrong_first (kind_of a.shape.now) a.n a.rows.now c.requires (said_no c.first_is.result c.first_is.ensures (ap not c.if-not-first_is.true))

pub blank-requires : goal.blank-requires
blank-requires c =
    let h = c.requires.shaped in
    (h.ends, omega arith, omega (arith, h.few, c.requires.fit), omega (arith, c.requires.whole, row_starts c.args.shape.now.width (c.args.n + 1) (c.args.shape.now.most + 1) (omega (arith, c.requires.fit))))

pub returns-then-not-blank : goal.returns-then-not-blank
returns-then-not-blank c =
    let a = c.args in
    wrong_ends (kind_of a.shape.now) a.n a.rows.now c.requires (said_no c.blank.result c.blank.ensures (ap not c.if-not-blank.true))

pub blank-requires-2 : goal.blank-requires-2
blank-requires-2 c = let h = c.requires.shaped in (omega arith, omega (arith, c.requires.fit), omega (arith, h.few), omega (arith, c.requires.whole))

pub returns : goal.returns
returns c =
    let a = c.args in
    rows_rest (kind_of a.shape.now) a.n a.rows.now c.requires (said_yes c.first_is.result c.first_is.ensures (ap not c.if-not-first_is.false))
    (said_yes c.blank.result c.blank.ensures (ap not c.if-not-blank.false)) c.blank-2.result c.blank-2.ensures

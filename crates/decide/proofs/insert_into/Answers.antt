-- `decide::insert_into` meets its contract: one law for each answer.
-- Assumes nothing.
use mathlib.Core.Bool.{not}
use mathlib.Core.Path.{ap}
use mathlib.Core.Path.{sym, ◌∙◌}
use native.Mathlib.Omega.{arith}
use Prim.Native.Nat.{suc, ◌+◌}
use Rattle.model.proofs.Grid.{row_starts}
use Rattle.table.specs.Rows.{kind_of}
use Rattle.layout.proofs.Parts.{scratch_few}
use Rattle.decide.proofs.Answers.{into_1, into_2, into_3, into_5, into_6, into_0}
use Rattle.decide.proofs.insert_into.Goals as goal

pub bounds-row-0 : goal.bounds-row-0
bounds-row-0 c = omega (arith, c.requires)

-- 1
pub returns-then-number-gt65534 : goal.returns-then-number-gt65534
returns-then-number-gt65534 c =
    let a = c.args in
    (into_1 (kind_of a.shape.now) a.n a.c a.rows.now a.row.now c.requires.0 c.requires.2 c.if-number-gt65534.true, tt)

-- 2
pub returns-then-not-right : goal.returns-then-not-right
returns-then-not-right c =
    let a = c.args in
    (into_2 (kind_of a.shape.now) a.n a.c a.rows.now a.row.now c.requires.0 c.requires.2 c.if-number-gt65534.false _ c.right.ensures c.if-not-right.true, tt)

-- 3
pub returns-then-stands_behind : goal.returns-then-stands_behind
returns-then-stands_behind c =
    let a = c.args in
    (into_3 (kind_of a.shape.now) a.n a.c a.rows.now a.row.now c.requires.0 c.requires.2 c.if-number-gt65534.false _ c.right.ensures c.if-not-right.false (sym c.stands_behind.ensures ∙ c.if-stands_behind.true), tt)

-- 5
pub returns-then-shape-n : goal.returns-then-shape-n
returns-then-shape-n c =
    let a = c.args in
    (into_5 (kind_of a.shape.now) a.n a.c a.rows.now a.row.now c.requires.0 c.requires.2 c.if-number-gt65534.false _ c.right.ensures c.if-not-right.false (sym c.stands_behind.ensures ∙ c.if-stands_behind.false) c.if-shape-n.true, tt)

pub fits-requires : goal.fits-requires
fits-requires c =
    let a = c.args in
    let h = c.requires.0.rowed.shaped in
    (omega (arith, c.if-shape-n.false, h.few), c.before-place.ensures.1, c.requires.1, omega (arith, c.requires.0.rowed.whole, row_starts a.shape.now.width (a.shape.now.most + 1) 513 (omega (arith, h.few)), h.narrow), scratch_few (suc (suc a.n)) c.requires.3 (omega (arith, c.if-shape-n.false)))

pub shape_of-sets-then-not-fits : goal.shape_of-sets-then-not-fits
shape_of-sets-then-not-fits c = omega (arith, c.sets-1.given)

pub shape_of-ends-then-not-fits : goal.shape_of-ends-then-not-fits
shape_of-ends-then-not-fits c = omega (arith, c.ends-1.given)

-- 6
pub returns-then-not-fits : goal.returns-then-not-fits
returns-then-not-fits c =
    let a = c.args in
    (into_6 (kind_of a.shape.now) a.n a.c a.rows.now a.row.now c.requires.0 c.requires.2 c.if-number-gt65534.false _ c.right.ensures c.if-not-right.false (sym c.stands_behind.ensures ∙ c.if-stands_behind.false) c.if-shape-n.false _ c.before-place.ensures.0 c.fits.ensures (ap not c.if-not-fits.true), tt)

pub shape_of-sets : goal.shape_of-sets
shape_of-sets c = omega (arith, c.sets-1.given)

pub shape_of-ends : goal.shape_of-ends
shape_of-ends c = omega (arith, c.ends-1.given)

-- 0
pub returns : goal.returns
returns c =
    let a = c.args in
    (into_0 (kind_of a.shape.now) a.n a.c a.rows.now a.row.now c.requires.0 c.requires.2 c.if-number-gt65534.false _ c.right.ensures c.if-not-right.false (sym c.stands_behind.ensures ∙ c.if-stands_behind.false) c.if-shape-n.false _ c.before-place.ensures.0 c.fits.ensures (ap not c.if-not-fits.false), c.before-place.ensures.0)

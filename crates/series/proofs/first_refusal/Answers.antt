-- `series::first_refusal` meets its contract. The invariant: the edits before are accepted, the set names the table that they leave, and what the others answer in it is what the whole list answers.
-- Assumes nothing.
use mathlib.Core.Path.{◌∙◌}
use mathlib.Core.List.{◌++◌}
use Prim.Native.Nat.{◌+◌}
use native.Mathlib.Omega.{arith}
use Rattle.table.specs.Rows.{kind_of}
use Rattle.series.proofs.Decided.{going_first, going_refused, going_on}
use Rattle.series.proofs.first_refusal.Goals as goal

pub loop-i-init : goal.loop-i-init
loop-i-init c =
    let a = c.args in
    (omega (arith, c.requires.0.rowed.fit), going_first (kind_of a.shape.now) a.c a.n a.rows.now a.edits.now _ (a.shape.now.width + 1) a.count c.requires.0 c.places.ensures)

-- refused
pub returns-in-Err : goal.returns-in-Err
returns-in-Err c =
    let l = c.loop-i in
    let a = c.args in
    c.of.ensures ∙ going_refused (kind_of a.shape.now) a.c (a.rows.now ++ a.edits.now) l.m l.set a.edits.now (a.shape.now.width + 1) a.count l.i _ l.invariant.1 c.loop-i-test.true _ (λ t h. (c.in-Err.ensures.1 t h).0)

pub loop-i-preserved : goal.loop-i-preserved
loop-i-preserved c =
    let l = c.loop-i in
    let a = c.args in
    (c.in-Ok.ensures.0, going_on (kind_of a.shape.now) a.c (a.rows.now ++ a.edits.now) l.m l.set a.edits.now (a.shape.now.width + 1) a.count l.i _ l.invariant.1 c.loop-i-test.true _ _ c.in-Ok.ensures.1)

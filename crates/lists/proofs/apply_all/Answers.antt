-- `lists::apply_all` meets its contract. The invariant: the front is that of a table in which the edits that are left are accepted, and come to the table after all of them.
-- Assumes nothing.
use Prim.Native.Nat.{◌+◌}
use native.Mathlib.Omega.{arith}
use Rattle.model.proofs.Grid.{row_ends}
use Rattle.table.specs.Rows.{kind_of}
use Rattle.lists.proofs.Applied.{still_first, still_next, still_on, still_end}
use Rattle.lists.proofs.apply_all.Goals as goal

pub loop-i-init : goal.loop-i-init
loop-i-init c d t f = let a = c.args in still_first (kind_of a.shape.now) d (a.shape.now.width + 1) a.count a.edits.now a.front.now t f

pub apply-requires : goal.apply-requires
apply-requires c =
    let l = c.loop-i in
    let a = c.args in
    let f = c.requires.2 in
    let w = still_next (kind_of a.shape.now) f.0 (a.shape.now.width + 1) a.count l.i a.edits.now l.front _ c.loop-i-test.true (l.invariant f.0 f.1.0 f.1.1) in
    (omega (arith, row_ends (a.shape.now.width + 1) l.i a.count c.loop-i-test.true, c.requires.1, c.args.shape.now.shaped.ends), (_, (f.0, (w.table, w.fronts))))

pub loop-i-preserved : goal.loop-i-preserved
loop-i-preserved c d t f =
    let l = c.loop-i in
    let a = c.args in
    let k = kind_of a.shape.now in
    let w = still_next k d (a.shape.now.width + 1) a.count l.i a.edits.now l.front _ c.loop-i-test.true (l.invariant d t f) in
    still_on k d _ _ _ _ _ w (c.apply.ensures d w.table _ w.fronts)

pub returns : goal.returns
returns c d t f =
    let l = c.loop-i in
    let a = c.args in
    still_end (kind_of a.shape.now) d (a.shape.now.width + 1) a.count l.i a.edits.now l.front _ c.loop-i-test.false (l.invariant d t f)

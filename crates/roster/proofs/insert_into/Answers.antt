-- `roster::insert_into` meets its contract: one law for each answer.
-- Assumes nothing.
use mathlib.Core.Bool.{not}
use mathlib.Core.Path.{ap}
use native.Mathlib.Omega.{arith}
use Prim.Native.Nat.{◌+◌}
use Rattle.table.specs.Rows.{kind_of}
use Rattle.layout.proofs.Parts.{scratch_few}
use Rattle.roster.proofs.Decided.{put_1, put_2, put_3, put_5, put_6, put_0}
use Rattle.roster.proofs.insert_into.Goals as goal

-- 1
pub returns-then-number-gt65534 : goal.returns-then-number-gt65534
returns-then-number-gt65534 c =
    let a = c.args in
    (tt, λ t h. (put_1 (kind_of a.shape.now) a.rows.now a.more.now a.row a.n a.c _ c.word-number.ensures c.if-number-gt65534.true t, tt))

-- 2
pub returns-then-not-right : goal.returns-then-not-right
returns-then-not-right c =
    let a = c.args in
    (tt, λ t h. (put_2 (kind_of a.shape.now) a.rows.now a.more.now a.row a.n a.c _ c.word-number.ensures c.if-number-gt65534.false _ c.right.ensures (ap not c.if-not-right.true) t, tt))

-- 3
pub returns-then-stands_behind : goal.returns-then-stands_behind
returns-then-stands_behind c =
    let a = c.args in
    let k = kind_of a.shape.now in
    (tt, λ t h. (put_3 k a.rows.now a.more.now a.row a.n a.c _ c.word-number.ensures c.if-number-gt65534.false _ c.right.ensures (ap not c.if-not-right.false) _ t h ((rw c.new-both.ensures at c.stands_behind.ensures).1 k t h ((rw c.new-both.ensures at c.before-place.ensures).1 k t h)) c.if-stands_behind.true, tt))

-- 5
pub returns-then-shape-n : goal.returns-then-shape-n
returns-then-shape-n c =
    let a = c.args in
    let k = kind_of a.shape.now in
    (tt, λ t h. (put_5 k a.rows.now a.more.now a.row a.n a.c _ c.word-number.ensures c.if-number-gt65534.false _ c.right.ensures (ap not c.if-not-right.false) _ t h ((rw c.new-both.ensures at c.stands_behind.ensures).1 k t h ((rw c.new-both.ensures at c.before-place.ensures).1 k t h)) c.if-stands_behind.false c.if-shape-n.true, tt))

pub fits-requires : goal.fits-requires
fits-requires c =
    let h = c.requires.0 in
    (omega (arith, h.room, c.if-shape-n.false, c.put_in.auto.items), c.requires.1, scratch_few (c.args.n + 2) h.scratch (omega (arith, c.if-shape-n.false)))

-- 6
pub returns-then-not-fits : goal.returns-then-not-fits
returns-then-not-fits c =
    let a = c.args in
    let k = kind_of a.shape.now in
    (tt, λ t h. (put_6 k a.rows.now a.more.now a.row a.n a.c _ c.word-number.ensures c.if-number-gt65534.false _ c.right.ensures (ap not c.if-not-right.false) _ t h ((rw c.new-both.ensures at c.stands_behind.ensures).1 k t h ((rw c.new-both.ensures at c.before-place.ensures).1 k t h)) c.if-stands_behind.false c.if-shape-n.false _ ((rw c.new-both.ensures at c.before-place.ensures).1 k t h) _ c.put_in.ensures (rw c.new-both.ensures at c.fits.ensures) (ap not c.if-not-fits.true), tt))

-- 0
pub returns : goal.returns
returns c =
    let a = c.args in
    let k = kind_of a.shape.now in
    (omega arith, λ t h. put_0 k a.rows.now a.more.now a.row a.n a.c _ c.word-number.ensures c.if-number-gt65534.false _ c.right.ensures (ap not c.if-not-right.false) _ t h ((rw c.new-both.ensures at c.stands_behind.ensures).1 k t h ((rw c.new-both.ensures at c.before-place.ensures).1 k t h)) c.if-stands_behind.false c.if-shape-n.false _ ((rw c.new-both.ensures at c.before-place.ensures).1 k t h) _ c.put_in.ensures (rw c.new-both.ensures at c.fits.ensures) (ap not c.if-not-fits.false))

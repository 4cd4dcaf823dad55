-- `lists::apply` meets its contract: what an accepted edit asks of the front holds there, and the front is then that of the edited table.
-- Assumes nothing.
use mathlib.Core.Path.{◌≡◌}
use native.Mathlib.Omega.{arith}
use Prim.Native.Nat.{◌+◌, ◌-◌, ◌*◌, ◌≤◌}
use lib.ListN.{length}
use Rattle.table.specs.Rows.{kind_of}
use Rattle.lists.proofs.Applied.{fronts_long, fronts_count, fronts_few, fronts_rising, place_at, part_long, put_room, put_place, put_on, take_stands, take_place, take_on}
use Rattle.lists.proofs.apply.Goals as goal

pub bounds-front-1 : goal.bounds-front-1
bounds-front-1 c =
    let a = c.args in
    let k = kind_of a.shape.now in
    let f = c.requires.1.1.1.1 in
    omega (arith, fronts_long k c.args.shape.now.shaped _ _ _ _ f, c.args.shape.now.shaped.three)

pub slice_bounds-before-count : goal.slice_bounds-before-count
slice_bounds-before-count c =
    let a = c.args in
    let k = kind_of a.shape.now in
    let f = c.requires.1.1.1.1 in
    omega (arith, fronts_long k c.args.shape.now.shaped _ _ _ _ f)

pub slice_bounds-before-start : goal.slice_bounds-before-start
slice_bounds-before-start c =
    let a = c.args in
    let k = kind_of a.shape.now in
    let f = c.requires.1.1.1.1 in
    omega (arith, fronts_long k c.args.shape.now.shaped _ _ _ _ f)

pub before-place-requires : goal.before-place-requires
before-place-requires c =
    let a = c.args in
    let k = kind_of a.shape.now in
    let f = c.requires.1.1.1.1 in
    (omega (arith, fronts_few k c.args.shape.now.shaped _ _ _ _ f, c.args.shape.now.shaped.few), fronts_rising k c.args.shape.now.shaped _ _ _ _ f)

pub put_rule-requires : goal.put_rule-requires
put_rule-requires c =
    let a = c.args in
    let k = kind_of a.shape.now in
    let f = c.requires.1.1.1.1 in
    (fronts_long k c.args.shape.now.shaped _ _ _ _ f, put_room k c.args.shape.now.shaped _ _ c.requires.1.0 a.edits.now a.at _ f c.if-edits-at-eq0.true, c.before-place.ensures.1)

-- an insert is done
pub returns-then-edits-at-eq0 : goal.returns-then-edits-at-eq0
returns-then-edits-at-eq0 c =
    let a = c.args in
    let k = kind_of a.shape.now in
    let f = c.requires.1.1.1.1 in
    λ d u rest g.
    let m = a.at + 1 + (2 + 2 * length a.shape.now.tops.now) - (a.at + 1) in
    let l : a.at + 1 + m ≤ length a.edits.now = omega (arith, c.requires.0) in
    let y : m ≡ 2 + 2 * length a.shape.now.tops.now = omega arith in
    put_on k c.args.shape.now.shaped d u rest a.edits.now a.at a.front.now g c.if-edits-at-eq0.true m l y _
    (c.put_rule.ensures d u g.right (fronts_count k c.args.shape.now.shaped d u _ _ g) (put_place k c.args.shape.now.shaped d u rest a.edits.now a.at a.front.now g c.if-edits-at-eq0.true m l y _ c.before-place.ensures.0) (part_long (length a.shape.now.tops.now) (a.at + 1) m a.edits.now l y) g.text)

pub take_rule-requires : goal.take_rule-requires
take_rule-requires c =
    let a = c.args in
    let k = kind_of a.shape.now in
    let f = c.requires.1.1.1.1 in
    (fronts_long k c.args.shape.now.shaped _ _ _ _ f, fronts_few k c.args.shape.now.shaped _ _ _ _ f, take_place k c.args.shape.now.shaped _ _ c.requires.1.0 a.edits.now a.at _ f c.if-edits-at-eq0.false _ (place_at k c.args.shape.now.shaped _ _ c.requires.1.0 a.edits.now a.at _ f _ _ c.before-place.ensures.0))

-- a delete is done
pub returns : goal.returns
returns c =
    let a = c.args in
    let k = kind_of a.shape.now in
    let f = c.requires.1.1.1.1 in
    λ d u rest g.
    take_on k c.args.shape.now.shaped d u rest a.edits.now a.at a.front.now g c.if-edits-at-eq0.false _
    (c.take_rule.ensures d _ u g.right (fronts_count k c.args.shape.now.shaped d u _ _ g) (place_at k c.args.shape.now.shaped d u rest a.edits.now a.at a.front.now g _ _ c.before-place.ensures.0) (take_stands k c.args.shape.now.shaped d u rest a.edits.now a.at a.front.now g c.if-edits-at-eq0.false) g.text)

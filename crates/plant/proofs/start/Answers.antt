-- `plant::start` meets its contract: the cells are emptied, the front is written, the tree is planted.
-- Assumes nothing.
use mathlib.Core.Path.{refl, sym, ◌∙◌}
use mathlib.Core.List.{[]}
use native.Mathlib.Omega.{arith}
use lib.Seq.{length-take-le}
use Rattle.model.proofs.Decide.{default_cells}
use Rattle.table.specs.Rows.{kind_of}
use Rattle.layout.proofs.Parts.{part_here}
use Rattle.layout.proofs.Sound.{roomy}
use Rattle.layout.proofs.Passed.{fresh_within}
use Rattle.plant.proofs.Planting.{still_long, ready_bare, ready_room, done_words}
use Rattle.plant.proofs.Left.{start_refused, start_done}
use Rattle.plant.proofs.start.Goals as goal

pub returns-then-not-room_for : goal.returns-then-not-room_for
returns-then-not-room_for c =
    let a = c.args in
    start_refused (kind_of a.shape.now) a.words.now a.c a.action (sym c.room_for.ensures ∙ c.if-not-room_for.true)

pub slice_bounds-clear-end : goal.slice_bounds-clear-end
slice_bounds-clear-end c =
    let a = c.args in
    let o = sym c.room_for.ensures ∙ c.if-not-room_for.false in
    let w = roomy (kind_of a.shape.now) a.c a.words.now o in
    let f = c.rows_end-from.ensures.0 in
    omega (arith, f, w.long)

pub clear-requires : goal.clear-requires
clear-requires c =
    let a = c.args in
    let o = sym c.room_for.ensures ∙ c.if-not-room_for.false in
    let w = roomy (kind_of a.shape.now) a.c a.words.now o in
    let f = c.rows_end-from.ensures.0 in
    (part_here a.c c.rows_end-from.result a.words.now (omega (arith, f, w.long)), w.most)

pub slice_bounds-fresh-end : goal.slice_bounds-fresh-end
slice_bounds-fresh-end c =
    let a = c.args in
    let o = sym c.room_for.ensures ∙ c.if-not-room_for.false in
    let w = roomy (kind_of a.shape.now) a.c a.words.now o in
    let f = c.rows_end-from.ensures.0 in
    let l = still_long a.c c.rows_end-from.result a.words.now _ (omega (arith, f, w.long)) w.most c.clear.ensures in
    omega (arith, l, f, w.long)

pub slice_bounds-fresh-end-2 : goal.slice_bounds-fresh-end-2
slice_bounds-fresh-end-2 c =
    let a = c.args in
    let o = sym c.room_for.ensures ∙ c.if-not-room_for.false in
    let w = roomy (kind_of a.shape.now) a.c a.words.now o in
    let f = c.rows_end-from.ensures.0 in
    let l = still_long a.c c.rows_end-from.result a.words.now _ (omega (arith, f, w.long)) w.most c.clear.ensures in
    sym (length-take-le _ _ (omega (arith, l, f, w.long)))

pub fresh-requires : goal.fresh-requires
fresh-requires c =
    let a = c.args in
    let o = sym c.room_for.ensures ∙ c.if-not-room_for.false in
    let w = roomy (kind_of a.shape.now) a.c a.words.now o in
    let f = c.rows_end-from.ensures.0 in
    let l = still_long a.c c.rows_end-from.result a.words.now _ (omega (arith, f, w.long)) w.most c.clear.ensures in
    (length-take-le _ _ (omega (arith, l, f, w.long)) ∙ f)

pub plant-requires : goal.plant-requires
plant-requires c =
    let a = c.args in
    let o = sym c.room_for.ensures ∙ c.if-not-room_for.false in
    let w = roomy (kind_of a.shape.now) a.c a.words.now o in
    let f = c.rows_end-from.ensures.0 in
    let l = still_long a.c c.rows_end-from.result a.words.now _ (omega (arith, f, w.long)) w.most c.clear.ensures in
    let g = (kind_of a.shape.now) in
    (c.requires, omega arith, ready_bare g c.args.shape.now.shaped a.c _ f a.words.now _ _ w.most w.long c.clear.ensures (record { action = a.action; rules = [] }) c.fresh.ensures, ready_room g c.args.shape.now.shaped a.c _ f a.words.now _ _ w.most w.long c.clear.ensures (record { action = a.action; rules = [] }) c.fresh.ensures 0 refl (fresh_within g a.action) (omega (arith, default_cells g a.action, w.least)))

pub shape_of-words : goal.shape_of-words
shape_of-words c = omega (arith, c.words-3-1.given, c.words-2-1.given, c.words-1.given)

pub shape_of-sets : goal.shape_of-sets
shape_of-sets c = omega (arith, c.sets-1.given)

pub shape_of-ends : goal.shape_of-ends
shape_of-ends c = omega (arith, c.ends-1.given)

pub returns : goal.returns
returns c =
    let a = c.args in
    let o = sym c.room_for.ensures ∙ c.if-not-room_for.false in
    let w = roomy (kind_of a.shape.now) a.c a.words.now o in
    let f = c.rows_end-from.ensures.0 in
    let l = still_long a.c c.rows_end-from.result a.words.now _ (omega (arith, f, w.long)) w.most c.clear.ensures in
    let g = (kind_of a.shape.now) in
    start_done g a.words.now a.c a.action o _ (c.plant.ensures ∙ done_words g c.args.shape.now.shaped a.c _ f a.words.now _ _ w.most w.long c.clear.ensures (record { action = a.action; rules = [] }) c.fresh.ensures 0 refl (fresh_within g a.action))

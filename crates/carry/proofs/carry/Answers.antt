-- `carry::carry` meets its contract: the cells are emptied, the front is written with the old store's rows, the tree is planted.
-- Assumes nothing.
use borrow.Author.Rules.{rules}
use mathlib.Core.Path.{sym, ◌∙◌}
use Prim.Native.Nat.{suc}
use native.Mathlib.Omega.{arith}
use lib.Seq.{length-take-le}
use Rattle.table.specs.Rows.{kind_of}
use Rattle.layout.proofs.Parts.{scratch_few, part_here}
use Rattle.layout.proofs.Passed.{sound_room}
use Rattle.plant.proofs.Planting.{still_long}
use Rattle.carry.proofs.Carried.{carry_done, carry_kept, goes, carried_bare, carried_room, carried_words}
use Rattle.carry.proofs.carry.Goals as goal

pub bounds-from-1 : goal.bounds-from-1
bounds-from-1 c =
    let a = c.args in
    let z = c.in_ok-decide_carry.ensures in
    let v = goes (kind_of a.old.now) (kind_of a.shape.now) c.args.old.now.shaped a.from.now a.words.now a.c z in
    omega (arith, (sound_room (kind_of a.old.now) c.args.old.now.shaped a.from.now v.old).long)

pub slice_bounds-clear-end : goal.slice_bounds-clear-end
slice_bounds-clear-end c =
    let f = c.rows_end-start.ensures.0 in
    let a = c.args in
    let z = c.in_ok-decide_carry.ensures in
    let v = goes (kind_of a.old.now) (kind_of a.shape.now) c.args.old.now.shaped a.from.now a.words.now a.c z in
    omega (arith, f, v.room.long)

pub clear-requires : goal.clear-requires
clear-requires c =
    let f = c.rows_end-start.ensures.0 in
    let a = c.args in
    let z = c.in_ok-decide_carry.ensures in
    let v = goes (kind_of a.old.now) (kind_of a.shape.now) c.args.old.now.shaped a.from.now a.words.now a.c z in
    (part_here a.c c.rows_end-start.result a.words.now (omega (arith, f, v.room.long)), v.room.most)

pub slice_bounds-carried-end : goal.slice_bounds-carried-end
slice_bounds-carried-end c =
    let f = c.rows_end-start.ensures.0 in
    let a = c.args in
    let z = c.in_ok-decide_carry.ensures in
    let v = goes (kind_of a.old.now) (kind_of a.shape.now) c.args.old.now.shaped a.from.now a.words.now a.c z in
    let l = still_long a.c c.rows_end-start.result a.words.now _ (omega (arith, f, v.room.long)) v.room.most c.clear.ensures in
    omega (arith, l, f, v.room.long)

pub slice_bounds-carried-end-2 : goal.slice_bounds-carried-end-2
slice_bounds-carried-end-2 c =
    let f = c.rows_end-start.ensures.0 in
    let a = c.args in
    let z = c.in_ok-decide_carry.ensures in
    let v = goes (kind_of a.old.now) (kind_of a.shape.now) c.args.old.now.shaped a.from.now a.words.now a.c z in
    let l = still_long a.c c.rows_end-start.result a.words.now _ (omega (arith, f, v.room.long)) v.room.most c.clear.ensures in
    sym (length-take-le _ _ (omega (arith, l, f, v.room.long)))

pub slice_bounds-carried-count : goal.slice_bounds-carried-count
slice_bounds-carried-count c = omega (arith, c.rows_end-links.ensures)

pub slice_bounds-carried-start : goal.slice_bounds-carried-start
slice_bounds-carried-start c = omega (arith, c.rows_end-links.ensures)

pub slice_bounds-carried-end-3 : goal.slice_bounds-carried-end-3
slice_bounds-carried-end-3 c =
    let a = c.args in
    let z = c.in_ok-decide_carry.ensures in
    let v = goes (kind_of a.old.now) (kind_of a.shape.now) c.args.old.now.shaped a.from.now a.words.now a.c z in
    omega (arith, c.rows_end-links.ensures.0, (sound_room (kind_of a.old.now) c.args.old.now.shaped a.from.now v.old).long)

pub carried-requires : goal.carried-requires
carried-requires c =
    let f = c.rows_end-start.ensures.0 in
    let a = c.args in
    let z = c.in_ok-decide_carry.ensures in
    let v = goes (kind_of a.old.now) (kind_of a.shape.now) c.args.old.now.shaped a.from.now a.words.now a.c z in
    let l = still_long a.c c.rows_end-start.result a.words.now _ (omega (arith, f, v.room.long)) v.room.most c.clear.ensures in
    length-take-le _ _ (omega (arith, l, f, v.room.long)) ∙ f

pub plant-requires : goal.plant-requires
plant-requires c =
    let f = c.rows_end-start.ensures.0 in
    let a = c.args in
    let z = c.in_ok-decide_carry.ensures in
    let v = goes (kind_of a.old.now) (kind_of a.shape.now) c.args.old.now.shaped a.from.now a.words.now a.c z in
    (record { places = omega (arith, c.requires.3.places, c.decide_carry.auto.sets); room = omega (arith, c.requires.3.room, c.decide_carry.auto.ends) }, omega (arith, v.old.few, c.requires.2), carried_bare (kind_of a.old.now) (kind_of a.shape.now) c.args.old.now.shaped c.args.shape.now.shaped c.requires.0 c.requires.1 c.requires.2 a.from.now a.words.now a.c z _ _ c.rows_end-links.ensures.0 f _ _ c.clear.ensures c.carried.ensures, carried_room (kind_of a.old.now) (kind_of a.shape.now) c.args.old.now.shaped c.args.shape.now.shaped c.requires.0 c.requires.1 c.requires.2 a.from.now a.words.now a.c z _ _ c.rows_end-links.ensures.0 f _ _ c.clear.ensures c.carried.ensures)

pub returns : goal.returns
returns c =
    let f = c.rows_end-start.ensures.0 in
    let a = c.args in
    let z = c.in_ok-decide_carry.ensures in
    (z, carry_done (kind_of a.old.now) (kind_of a.shape.now) a.from.now a.words.now a.c _ z (c.plant.ensures ∙ carried_words (kind_of a.old.now) (kind_of a.shape.now) c.args.old.now.shaped c.args.shape.now.shaped c.requires.0 c.requires.1 c.requires.2 a.from.now a.words.now a.c z _ _ c.rows_end-links.ensures.0 f _ _ c.clear.ensures c.carried.ensures))

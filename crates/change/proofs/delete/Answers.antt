-- `change::delete` meets its contract: the cells are emptied, the front is edited where it stands, the tree is planted.
-- Assumes nothing.
use mathlib.Core.Path.{sym, ◌∙◌}
use native.Mathlib.Omega.{arith}
use Prim.Native.Nat.{◌+◌, ◌-◌, ◌*◌}
use lib.ListN.{get_or}
use lib.Seq.{length-take-le}
use Rattle.model.specs.Table.{without}
use Rattle.table.specs.Rows.{kind_of}
use Rattle.layout.specs.Store.{table_of}
use Rattle.layout.proofs.Sound.{sound, count_is}
use Rattle.layout.proofs.Passed.{sound_room, sound_within, sound_planted}
use Rattle.plant.proofs.Planting.{still_long, ready_bare, ready_room, done_words}
use Rattle.change.proofs.Answers.{delete_done, deleted, delete_place, delete_count, delete_right, delete_cells}
use Rattle.plant.proofs.Left.{front_stays}
use Rattle.change.proofs.delete.Goals as goal

pub bounds-words-0 : goal.bounds-words-0
bounds-words-0 c =
    let a = c.args in
    let g = (kind_of a.shape.now) in
    let z = c.in_ok-place.ensures.0 in
    let h = (deleted g c.args.shape.now.shaped a.words.now a.number z).0 in
    let o = sound g c.args.shape.now.shaped a.words.now h in
    let w = sound_room g c.args.shape.now.shaped a.words.now o in
    omega (arith, w.long)

pub bounds-words-1 : goal.bounds-words-1
bounds-words-1 c =
    let a = c.args in
    let g = (kind_of a.shape.now) in
    let z = c.in_ok-place.ensures.0 in
    let h = (deleted g c.args.shape.now.shaped a.words.now a.number z).0 in
    let o = sound g c.args.shape.now.shaped a.words.now h in
    let w = sound_room g c.args.shape.now.shaped a.words.now o in
    omega (arith, w.long)

pub slice_bounds-drop-end : goal.slice_bounds-drop-end
slice_bounds-drop-end c =
    let a = c.args in
    let g = (kind_of a.shape.now) in
    let z = c.in_ok-place.ensures.0 in
    let h = (deleted g c.args.shape.now.shaped a.words.now a.number z).0 in
    let o = sound g c.args.shape.now.shaped a.words.now h in
    let w = sound_room g c.args.shape.now.shaped a.words.now o in
    let f = c.rows_end-from.ensures.0 in
    omega (arith, f, w.long)

pub drop-requires : goal.drop-requires
drop-requires c =
    let a = c.args in
    let g = (kind_of a.shape.now) in
    let z = c.in_ok-place.ensures.0 in
    let h = (deleted g c.args.shape.now.shaped a.words.now a.number z).0 in
    let o = sound g c.args.shape.now.shaped a.words.now h in
    let w = sound_room g c.args.shape.now.shaped a.words.now o in
    let f = c.rows_end-from.ensures.0 in
    sound_planted g c.args.shape.now.shaped a.words.now o _ f

pub slice_bounds-take_rule-end : goal.slice_bounds-take_rule-end
slice_bounds-take_rule-end c =
    let a = c.args in
    let g = (kind_of a.shape.now) in
    let z = c.in_ok-place.ensures.0 in
    let h = (deleted g c.args.shape.now.shaped a.words.now a.number z).0 in
    let o = sound g c.args.shape.now.shaped a.words.now h in
    let w = sound_room g c.args.shape.now.shaped a.words.now o in
    let f = c.rows_end-from.ensures.0 in
    let l = still_long _ c.rows_end-from.result a.words.now _ (omega (arith, f, w.long)) w.most c.drop.ensures in
    omega (arith, l, f, w.long)

pub slice_bounds-take_rule-end-2 : goal.slice_bounds-take_rule-end-2
slice_bounds-take_rule-end-2 c =
    let a = c.args in
    let g = (kind_of a.shape.now) in
    let z = c.in_ok-place.ensures.0 in
    let h = (deleted g c.args.shape.now.shaped a.words.now a.number z).0 in
    let o = sound g c.args.shape.now.shaped a.words.now h in
    let w = sound_room g c.args.shape.now.shaped a.words.now o in
    let f = c.rows_end-from.ensures.0 in
    let l = still_long _ c.rows_end-from.result a.words.now _ (omega (arith, f, w.long)) w.most c.drop.ensures in
    sym (length-take-le _ _ (omega (arith, l, f, w.long)))

pub take_rule-requires : goal.take_rule-requires
take_rule-requires c =
    let a = c.args in
    let g = (kind_of a.shape.now) in
    let z = c.in_ok-place.ensures.0 in
    let h = (deleted g c.args.shape.now.shaped a.words.now a.number z).0 in
    let o = sound g c.args.shape.now.shaped a.words.now h in
    let w = sound_room g c.args.shape.now.shaped a.words.now o in
    let f = c.rows_end-from.ensures.0 in
    let l = still_long _ c.rows_end-from.result a.words.now _ (omega (arith, f, w.long)) w.most c.drop.ensures in
    (length-take-le _ _ (omega (arith, l, f, w.long)) ∙ f, o.few, delete_place g c.args.shape.now.shaped a.words.now a.number z _ c.in_ok-place.ensures.1)

pub plant-requires : goal.plant-requires
plant-requires c =
    let a = c.args in
    let g = (kind_of a.shape.now) in
    let z = c.in_ok-place.ensures.0 in
    let h = (deleted g c.args.shape.now.shaped a.words.now a.number z).0 in
    let o = sound g c.args.shape.now.shaped a.words.now h in
    let w = sound_room g c.args.shape.now.shaped a.words.now o in
    let f = c.rows_end-from.ensures.0 in
    let l = still_long _ c.rows_end-from.result a.words.now _ (omega (arith, f, w.long)) w.most c.drop.ensures in
    (record { places = omega (arith, c.requires.places, c.decide_delete.auto.sets); room = omega (arith, c.requires.room, c.decide_delete.auto.ends) }, omega (arith, o.few), ready_bare g c.args.shape.now.shaped (get_or a.words.now 0 0) _ f a.words.now _ _ w.most w.long c.drop.ensures (without a.number (table_of g a.words.now)) (c.take_rule.ensures (get_or a.words.now 0 0) a.number (table_of g a.words.now) (sound_within g c.args.shape.now.shaped a.words.now o) (sym (count_is g c.args.shape.now.shaped a.words.now)) c.in_ok-place.ensures.1 (deleted g c.args.shape.now.shaped a.words.now a.number z).1 (front_stays g c.args.shape.now.shaped a.words.now h c.rows_end-from.result (c.rows_end-from.result + (2 + 8 * get_or a.words.now 0 0) - c.rows_end-from.result) c.drop.new.words f)), ready_room g c.args.shape.now.shaped (get_or a.words.now 0 0) _ f a.words.now _ _ w.most w.long c.drop.ensures (without a.number (table_of g a.words.now)) (c.take_rule.ensures (get_or a.words.now 0 0) a.number (table_of g a.words.now) (sound_within g c.args.shape.now.shaped a.words.now o) (sym (count_is g c.args.shape.now.shaped a.words.now)) c.in_ok-place.ensures.1 (deleted g c.args.shape.now.shaped a.words.now a.number z).1 (front_stays g c.args.shape.now.shaped a.words.now h c.rows_end-from.result (c.rows_end-from.result + (2 + 8 * get_or a.words.now 0 0) - c.rows_end-from.result) c.drop.new.words f)) _ (delete_count g c.args.shape.now.shaped a.words.now a.number z) (delete_right g c.args.shape.now.shaped a.words.now a.number z) (delete_cells g c.args.shape.now.shaped a.words.now a.number z))

pub shape_of-words : goal.shape_of-words
shape_of-words c = omega (arith, c.words-3-1.given, c.words-2-1.given, c.words-1.given)

pub shape_of-sets : goal.shape_of-sets
shape_of-sets c = omega (arith, c.sets-2-1.given, c.sets-1.given)

pub shape_of-ends : goal.shape_of-ends
shape_of-ends c = omega (arith, c.ends-2-1.given, c.ends-1.given)

pub returns : goal.returns
returns c =
    let a = c.args in
    let g = (kind_of a.shape.now) in
    let z = c.in_ok-place.ensures.0 in
    let h = (deleted g c.args.shape.now.shaped a.words.now a.number z).0 in
    let o = sound g c.args.shape.now.shaped a.words.now h in
    let w = sound_room g c.args.shape.now.shaped a.words.now o in
    let f = c.rows_end-from.ensures.0 in
    let l = still_long _ c.rows_end-from.result a.words.now _ (omega (arith, f, w.long)) w.most c.drop.ensures in
    (z, delete_done (kind_of a.shape.now) c.args.shape.now.shaped a.words.now a.number _ z (c.plant.ensures ∙ done_words g c.args.shape.now.shaped (get_or a.words.now 0 0) _ f a.words.now _ _ w.most w.long c.drop.ensures (without a.number (table_of g a.words.now)) (c.take_rule.ensures (get_or a.words.now 0 0) a.number (table_of g a.words.now) (sound_within g c.args.shape.now.shaped a.words.now o) (sym (count_is g c.args.shape.now.shaped a.words.now)) c.in_ok-place.ensures.1 (deleted g c.args.shape.now.shaped a.words.now a.number z).1 (front_stays g c.args.shape.now.shaped a.words.now h c.rows_end-from.result (c.rows_end-from.result + (2 + 8 * get_or a.words.now 0 0) - c.rows_end-from.result) c.drop.new.words f)) _ (delete_count g c.args.shape.now.shaped a.words.now a.number z) (delete_right g c.args.shape.now.shaped a.words.now a.number z)))

pub overflow_sub-n : goal.overflow_sub-n
overflow_sub-n c =
    let a = c.args in
    omega (arith, delete_place (kind_of a.shape.now) a.shape.now.shaped a.words.now a.number c.in_ok-place.ensures.0 _ c.in_ok-place.ensures.1)

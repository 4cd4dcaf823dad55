-- `change::insert` meets its contract: the cells are emptied, the front is edited where it stands, the tree is planted.
-- Assumes nothing.
use mathlib.Core.Path.{sym, ◌∙◌}
use native.Mathlib.Omega.{arith}
use Prim.Native.Nat.{◌+◌, ◌-◌, ◌*◌}
use lib.ListN.{length, get_or}
use lib.Seq.{length-take-le}
use Rattle.model.specs.Table.{with_rule}
use Rattle.table.specs.Rows.{kind_of, rule_in}
use Rattle.layout.specs.Store.{table_of}
use Rattle.layout.proofs.Sound.{sound, count_is}
use Rattle.layout.proofs.Passed.{sound_room, sound_within, sound_planted}
use Rattle.plant.proofs.Planting.{still_long, ready_bare, ready_room, done_words}
use Rattle.change.proofs.Answers.{insert_done, inserted, insert_room, insert_place, insert_count, insert_right, insert_cells}
use Rattle.plant.proofs.Left.{front_stays}
use Rattle.change.proofs.insert.Goals as goal

pub bounds-words-0 : goal.bounds-words-0
bounds-words-0 c =
    let a = c.args in
    let g = (kind_of a.shape.now) in
    let z = c.in_ok-place.ensures.0 in
    let h = (inserted g c.args.shape.now.shaped a.words.now (rule_in (length a.shape.now.tops.now) a.row.now 0) z).0 in
    let o = sound g c.args.shape.now.shaped a.words.now h in
    let w = sound_room g c.args.shape.now.shaped a.words.now o in
    omega (arith, w.long)

pub bounds-words-1 : goal.bounds-words-1
bounds-words-1 c =
    let a = c.args in
    let g = (kind_of a.shape.now) in
    let z = c.in_ok-place.ensures.0 in
    let h = (inserted g c.args.shape.now.shaped a.words.now (rule_in (length a.shape.now.tops.now) a.row.now 0) z).0 in
    let o = sound g c.args.shape.now.shaped a.words.now h in
    let w = sound_room g c.args.shape.now.shaped a.words.now o in
    omega (arith, w.long)

pub slice_bounds-drop-end : goal.slice_bounds-drop-end
slice_bounds-drop-end c =
    let a = c.args in
    let g = (kind_of a.shape.now) in
    let z = c.in_ok-place.ensures.0 in
    let h = (inserted g c.args.shape.now.shaped a.words.now (rule_in (length a.shape.now.tops.now) a.row.now 0) z).0 in
    let o = sound g c.args.shape.now.shaped a.words.now h in
    let w = sound_room g c.args.shape.now.shaped a.words.now o in
    let f = c.rows_end-from.ensures.0 in
    omega (arith, f, w.long)

pub drop-requires : goal.drop-requires
drop-requires c =
    let a = c.args in
    let g = (kind_of a.shape.now) in
    let z = c.in_ok-place.ensures.0 in
    let h = (inserted g c.args.shape.now.shaped a.words.now (rule_in (length a.shape.now.tops.now) a.row.now 0) z).0 in
    let o = sound g c.args.shape.now.shaped a.words.now h in
    let w = sound_room g c.args.shape.now.shaped a.words.now o in
    let f = c.rows_end-from.ensures.0 in
    sound_planted g c.args.shape.now.shaped a.words.now o _ f

pub slice_bounds-put_rule-end : goal.slice_bounds-put_rule-end
slice_bounds-put_rule-end c =
    let a = c.args in
    let g = (kind_of a.shape.now) in
    let z = c.in_ok-place.ensures.0 in
    let h = (inserted g c.args.shape.now.shaped a.words.now (rule_in (length a.shape.now.tops.now) a.row.now 0) z).0 in
    let o = sound g c.args.shape.now.shaped a.words.now h in
    let w = sound_room g c.args.shape.now.shaped a.words.now o in
    let f = c.rows_end-from.ensures.0 in
    let l = still_long _ c.rows_end-from.result a.words.now _ (omega (arith, f, w.long)) w.most c.drop.ensures in
    omega (arith, l, f, w.long)

pub slice_bounds-put_rule-end-2 : goal.slice_bounds-put_rule-end-2
slice_bounds-put_rule-end-2 c =
    let a = c.args in
    let g = (kind_of a.shape.now) in
    let z = c.in_ok-place.ensures.0 in
    let h = (inserted g c.args.shape.now.shaped a.words.now (rule_in (length a.shape.now.tops.now) a.row.now 0) z).0 in
    let o = sound g c.args.shape.now.shaped a.words.now h in
    let w = sound_room g c.args.shape.now.shaped a.words.now o in
    let f = c.rows_end-from.ensures.0 in
    let l = still_long _ c.rows_end-from.result a.words.now _ (omega (arith, f, w.long)) w.most c.drop.ensures in
    sym (length-take-le _ _ (omega (arith, l, f, w.long)))

pub put_rule-requires : goal.put_rule-requires
put_rule-requires c =
    let a = c.args in
    let g = (kind_of a.shape.now) in
    let z = c.in_ok-place.ensures.0 in
    let h = (inserted g c.args.shape.now.shaped a.words.now (rule_in (length a.shape.now.tops.now) a.row.now 0) z).0 in
    let o = sound g c.args.shape.now.shaped a.words.now h in
    let w = sound_room g c.args.shape.now.shaped a.words.now o in
    let f = c.rows_end-from.ensures.0 in
    let l = still_long _ c.rows_end-from.result a.words.now _ (omega (arith, f, w.long)) w.most c.drop.ensures in
    (length-take-le _ _ (omega (arith, l, f, w.long)) ∙ f, insert_room g c.args.shape.now.shaped a.words.now (rule_in (length a.shape.now.tops.now) a.row.now 0) z, insert_place g c.args.shape.now.shaped a.words.now (rule_in (length a.shape.now.tops.now) a.row.now 0) z _ _ c.in_ok-place.ensures.1)

pub plant-requires : goal.plant-requires
plant-requires c =
    let a = c.args in
    let g = (kind_of a.shape.now) in
    let z = c.in_ok-place.ensures.0 in
    let h = (inserted g c.args.shape.now.shaped a.words.now (rule_in (length a.shape.now.tops.now) a.row.now 0) z).0 in
    let o = sound g c.args.shape.now.shaped a.words.now h in
    let w = sound_room g c.args.shape.now.shaped a.words.now o in
    let f = c.rows_end-from.ensures.0 in
    let l = still_long _ c.rows_end-from.result a.words.now _ (omega (arith, f, w.long)) w.most c.drop.ensures in
    (record { places = omega (arith, c.requires.0.places, c.decide_insert.auto.sets); room = omega (arith, c.requires.0.room, c.decide_insert.auto.ends) }, omega (arith, insert_room g c.args.shape.now.shaped a.words.now (rule_in (length a.shape.now.tops.now) a.row.now 0) z), ready_bare g c.args.shape.now.shaped (get_or a.words.now 0 0) _ f a.words.now _ _ w.most w.long c.drop.ensures (with_rule (rule_in (length a.shape.now.tops.now) a.row.now 0) (table_of g a.words.now)) (c.put_rule.ensures (get_or a.words.now 0 0) (table_of g a.words.now) (sound_within g c.args.shape.now.shaped a.words.now o) (sym (count_is g c.args.shape.now.shaped a.words.now)) c.in_ok-place.ensures.1 c.requires.1 (front_stays g c.args.shape.now.shaped a.words.now h c.rows_end-from.result (c.rows_end-from.result + (2 + 8 * get_or a.words.now 0 0) - c.rows_end-from.result) c.drop.new.words f)), ready_room g c.args.shape.now.shaped (get_or a.words.now 0 0) _ f a.words.now _ _ w.most w.long c.drop.ensures (with_rule (rule_in (length a.shape.now.tops.now) a.row.now 0) (table_of g a.words.now)) (c.put_rule.ensures (get_or a.words.now 0 0) (table_of g a.words.now) (sound_within g c.args.shape.now.shaped a.words.now o) (sym (count_is g c.args.shape.now.shaped a.words.now)) c.in_ok-place.ensures.1 c.requires.1 (front_stays g c.args.shape.now.shaped a.words.now h c.rows_end-from.result (c.rows_end-from.result + (2 + 8 * get_or a.words.now 0 0) - c.rows_end-from.result) c.drop.new.words f)) _ (insert_count g c.args.shape.now.shaped a.words.now (rule_in (length a.shape.now.tops.now) a.row.now 0) z) (insert_right g c.args.shape.now.shaped a.words.now (rule_in (length a.shape.now.tops.now) a.row.now 0) z) (insert_cells g c.args.shape.now.shaped a.words.now (rule_in (length a.shape.now.tops.now) a.row.now 0) z))

pub shape_of-words : goal.shape_of-words
shape_of-words c = omega (arith, c.words-3-1.given, c.words-2-1.given, c.words-1.given)

pub shape_of-sets : goal.shape_of-sets
shape_of-sets c = omega (arith, c.sets-2-1.given, c.sets-1.given)

pub shape_of-ends : goal.shape_of-ends
shape_of-ends c = omega (arith, c.ends-2-1.given, c.ends-1.given)

pub returns : goal.returns
returns c =
    let a = c.args in
    let g = (kind_of a.shape.now) in
    let z = c.in_ok-place.ensures.0 in
    let h = (inserted g c.args.shape.now.shaped a.words.now (rule_in (length a.shape.now.tops.now) a.row.now 0) z).0 in
    let o = sound g c.args.shape.now.shaped a.words.now h in
    let w = sound_room g c.args.shape.now.shaped a.words.now o in
    let f = c.rows_end-from.ensures.0 in
    let l = still_long _ c.rows_end-from.result a.words.now _ (omega (arith, f, w.long)) w.most c.drop.ensures in
    (z, insert_done (kind_of a.shape.now) c.args.shape.now.shaped a.words.now (rule_in (length a.shape.now.tops.now) a.row.now 0) _ z (c.plant.ensures ∙ done_words g c.args.shape.now.shaped (get_or a.words.now 0 0) _ f a.words.now _ _ w.most w.long c.drop.ensures (with_rule (rule_in (length a.shape.now.tops.now) a.row.now 0) (table_of g a.words.now)) (c.put_rule.ensures (get_or a.words.now 0 0) (table_of g a.words.now) (sound_within g c.args.shape.now.shaped a.words.now o) (sym (count_is g c.args.shape.now.shaped a.words.now)) c.in_ok-place.ensures.1 c.requires.1 (front_stays g c.args.shape.now.shaped a.words.now h c.rows_end-from.result (c.rows_end-from.result + (2 + 8 * get_or a.words.now 0 0) - c.rows_end-from.result) c.drop.new.words f)) _ (insert_count g c.args.shape.now.shaped a.words.now (rule_in (length a.shape.now.tops.now) a.row.now 0) z) (insert_right g c.args.shape.now.shaped a.words.now (rule_in (length a.shape.now.tops.now) a.row.now 0) z)))

pub overflow_add-n : goal.overflow_add-n
overflow_add-n c =
    let a = c.args in
    let h = a.shape.now.shaped in
    omega (arith, h.few, insert_room (kind_of a.shape.now) h a.words.now (rule_in (length a.shape.now.tops.now) a.row.now 0) c.in_ok-place.ensures.0)

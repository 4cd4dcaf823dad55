-- `revise::edit_list` meets its contract: what is decided, and then the three steps of an edit, with all edits of the list done in the front.
-- Assumes nothing.
use mathlib.Core.Path.{sym, ap, ◌∙◌}
use Prim.Native.Nat.{◌+◌}
use native.Mathlib.Omega.{arith}
use lib.ListN.{length, get_or}
use lib.Seq.{length-take-le}
use Rattle.model.proofs.Limits.{from_within}
use Rattle.table.specs.Rows.{kind_of}
use Rattle.layout.specs.Store.{table_of}
use Rattle.plant.proofs.Planting.{ready_bare, ready_room, done_words}
use Rattle.series.specs.Edits.{edits_from}
use Rattle.lists.proofs.Applied.{count_before}
use Rattle.lists.proofs.Listed.{accepted_few}
use Rattle.revise.proofs.Listed.{list_done, list_kept, taken_all, room, after, right_after, fits_after, tree_stands, front_emptied, emptied_long}
use Rattle.revise.proofs.edit_list.Goals as goal

-- refused
pub returns-then-said-ne0 : goal.returns-then-said-ne0
returns-then-said-ne0 c =
    let a = c.args in
    (c.decide-said.ensures, list_kept (kind_of a.shape.now) a.words.now (edits_from (length a.shape.now.tops.now) (a.shape.now.width + 1) a.count a.edits.now 0) (λ y. c.if-said-ne0.true (ap (λ r. r.answer) c.decide-said.ensures ∙ y)))

pub bounds-words-0 : goal.bounds-words-0
bounds-words-0 c =
    let a = c.args in
    let w = room (kind_of a.shape.now) a.shape.now.shaped a.words.now _ c.decide-said.ensures c.if-said-ne0.false in
    omega (arith, w.long)

pub slice_bounds-drop-end : goal.slice_bounds-drop-end
slice_bounds-drop-end c =
    let a = c.args in
    let w = room (kind_of a.shape.now) a.shape.now.shaped a.words.now _ c.decide-said.ensures c.if-said-ne0.false in
    omega (arith, c.rows_end-from.ensures.0, w.long)

pub drop-requires : goal.drop-requires
drop-requires c =
    let a = c.args in
    tree_stands (kind_of a.shape.now) a.shape.now.shaped a.words.now _ c.decide-said.ensures c.if-said-ne0.false _ c.rows_end-from.ensures.0

pub slice_bounds-apply_all-end : goal.slice_bounds-apply_all-end
slice_bounds-apply_all-end c =
    let a = c.args in
    let w = room (kind_of a.shape.now) a.shape.now.shaped a.words.now _ c.decide-said.ensures c.if-said-ne0.false in
    let l = emptied_long (kind_of a.shape.now) a.shape.now.shaped a.words.now _ c.decide-said.ensures c.if-said-ne0.false _ c.rows_end-from.ensures.0 _ c.drop.ensures in
    omega (arith, l, c.rows_end-from.ensures.0, w.long)

pub slice_bounds-apply_all-end-2 : goal.slice_bounds-apply_all-end-2
slice_bounds-apply_all-end-2 c =
    let a = c.args in
    let w = room (kind_of a.shape.now) a.shape.now.shaped a.words.now _ c.decide-said.ensures c.if-said-ne0.false in
    let l = emptied_long (kind_of a.shape.now) a.shape.now.shaped a.words.now _ c.decide-said.ensures c.if-said-ne0.false _ c.rows_end-from.ensures.0 _ c.drop.ensures in
    sym (length-take-le _ _ (omega (arith, l, c.rows_end-from.ensures.0, w.long)))

pub overflow_cast-count : goal.overflow_cast-count
overflow_cast-count c =
    let a = c.args in
    omega (arith, accepted_few (kind_of a.shape.now) a.words.now (length a.shape.now.tops.now) (a.shape.now.width + 1) a.count a.edits.now (taken_all (kind_of a.shape.now) a.shape.now.shaped a.words.now _ c.decide-said.ensures c.if-said-ne0.false))

pub apply_all-requires : goal.apply_all-requires
apply_all-requires c =
    let a = c.args in
    let g = kind_of a.shape.now in
    let few = accepted_few g a.words.now (length a.shape.now.tops.now) (a.shape.now.width + 1) a.count a.edits.now (taken_all g a.shape.now.shaped a.words.now _ c.decide-said.ensures c.if-said-ne0.false) in
    (few, c.requires.2 few, (_, (_, front_emptied g a.shape.now.shaped a.words.now _ c.decide-said.ensures c.if-said-ne0.false _ c.rows_end-from.ensures.0 _ c.drop.new.words)))

pub bounds-words-1 : goal.bounds-words-1
bounds-words-1 c =
    let a = c.args in
    let g = kind_of a.shape.now in
    let s = a.shape.now.shaped in
    let e = c.decide-said.ensures in
    let z = c.if-said-ne0.false in
    let f = c.rows_end-from.ensures.0 in
    let w = room g s a.words.now _ e z in
    let T = after g s a.words.now _ e z in
    let y = c.apply_all.ensures (get_or a.words.now 0 0) (table_of g a.words.now) (front_emptied g s a.words.now _ e z _ f _ c.drop.new.words) in
    omega (arith, (ready_bare g s (get_or a.words.now 0 0) _ f a.words.now _ _ w.most w.long c.drop.ensures T y).long)

pub plant-requires : goal.plant-requires
plant-requires c =
    let a = c.args in
    let g = kind_of a.shape.now in
    let s = a.shape.now.shaped in
    let e = c.decide-said.ensures in
    let z = c.if-said-ne0.false in
    let f = c.rows_end-from.ensures.0 in
    let w = room g s a.words.now _ e z in
    let T = after g s a.words.now _ e z in
    let y = c.apply_all.ensures (get_or a.words.now 0 0) (table_of g a.words.now) (front_emptied g s a.words.now _ e z _ f _ c.drop.new.words) in
    let n = count_before g (get_or a.words.now 0 0) T _ _ y in
    let r = right_after g s a.words.now _ e z in
    (record { places = omega (arith, c.requires.1.places, c.decide-said.auto.sets); room = omega (arith, c.requires.1.room, c.decide-said.auto.ends) }, omega (arith, n, (from_within g T r).fits), ready_bare g s (get_or a.words.now 0 0) _ f a.words.now _ _ w.most w.long c.drop.ensures T y, ready_room g s (get_or a.words.now 0 0) _ f a.words.now _ _ w.most w.long c.drop.ensures T y _ n r (fits_after g s a.words.now _ e z))

-- done
pub returns : goal.returns
returns c =
    let a = c.args in
    let g = kind_of a.shape.now in
    let s = a.shape.now.shaped in
    let e = c.decide-said.ensures in
    let z = c.if-said-ne0.false in
    let f = c.rows_end-from.ensures.0 in
    let w = room g s a.words.now _ e z in
    let T = after g s a.words.now _ e z in
    let y = c.apply_all.ensures (get_or a.words.now 0 0) (table_of g a.words.now) (front_emptied g s a.words.now _ e z _ f _ c.drop.new.words) in
    let n = count_before g (get_or a.words.now 0 0) T _ _ y in
    let r = right_after g s a.words.now _ e z in
    (e, list_done g a.words.now _ _ (sym (ap (λ r. r.answer) e) ∙ z) (c.plant.ensures ∙ done_words g s (get_or a.words.now 0 0) _ f a.words.now _ _ w.most w.long c.drop.ensures T y _ n r))

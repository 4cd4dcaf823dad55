-- `freeze::write_image` meets its contract: the front of the image, and behind it the blocks of the tree that the store's cells give.
-- Assumes nothing.
use mathlib.Core.Path.{refl, sym, ap, ◌∙◌}
use lib.ListN.{length}
use native.Mathlib.Omega.{arith}
use Rattle.table.specs.Rows.{kind_of}
use Rattle.layout.specs.Store.{cells_in}
use Rattle.layout.proofs.Parts.{part_long, part_slice}
use Rattle.frozen.proofs.Laws.{room, total_small}
use Rattle.freeze.proofs.Image.{words_taken, front_taken, front_room, front_some, named_part, blocks_room, image_written}
use Rattle.freeze.proofs.write_image.Goals as goal

pub bounds-words-0 : goal.bounds-words-0
bounds-words-0 c = omega (arith, (room (kind_of c.args.shape.now) c.args.shape.now.shaped c.args.words.now c.requires.0).long)

pub slice_bounds-put_front-end : goal.slice_bounds-put_front-end
slice_bounds-put_front-end c = omega (arith, c.rows_end-from.ensures, c.requires)

-- the front's part of the image, and of the words
pub slice_bounds-put_front-end-2 : goal.slice_bounds-put_front-end-2
slice_bounds-put_front-end-2 c = front_taken (kind_of c.args.shape.now) c.args.shape.now.shaped c.args.words.now c.requires.0 _ c.rows_end-from.ensures.0 c.args.image.now c.requires.1

pub slice_bounds-put_front-end-3 : goal.slice_bounds-put_front-end-3
slice_bounds-put_front-end-3 c = words_taken (kind_of c.args.shape.now) c.args.shape.now.shaped c.args.words.now c.requires.0 _ c.rows_end-from.ensures.0 c.args.image.now c.requires.1

pub put_front-requires : goal.put_front-requires
put_front-requires c = (front_room (kind_of c.args.shape.now) c.args.shape.now.shaped c.args.words.now c.requires.0 _ c.rows_end-from.ensures.0 c.args.image.now c.requires.1, front_some (kind_of c.args.shape.now) c.args.shape.now.shaped c.args.words.now c.requires.0 _ c.rows_end-from.ensures.0 c.args.image.now c.requires.1)

pub part-part-requires : goal.part-part-requires
part-part-requires c =
    let w = room (kind_of c.args.shape.now) c.args.shape.now.shaped c.args.words.now c.requires.0 in
    (w.most, w.long)

pub write-requires : goal.write-requires
write-requires c =
    let a = c.args in
    let k = kind_of a.shape.now in
    let s = a.shape.now.shaped in
    let g = c.rows_end-from.ensures.0 in
    let w = room k s a.words.now c.requires.0 in
    let q = c.part-part.ensures ∙ sym (part_slice k a.words.now _ g (cells_in a.words.now)) in (
      ap length c.part-part.ensures ∙ part_long k a.words.now (cells_in a.words.now) w.long,
      w.most,
      omega (arith, s.ends, s.narrow),
      rw q (blocks_room k s a.words.now c.requires.0 _ g a.image.now c.requires.1 _ c.put_front.ensures),
      rw q (total_small k s a.words.now c.requires.0 _ g refl),
      rw q (named_part k s a.words.now c.requires.0 _ g a.image.now c.requires.1),
    )

pub returns : goal.returns
returns c =
    let a = c.args in
    let k = kind_of a.shape.now in
    let g = c.rows_end-from.ensures.0 in
    image_written k a.shape.now.shaped a.words.now c.requires.0 _ g a.image.now c.requires.1 _ c.put_front.ensures _ (rw (c.part-part.ensures ∙ sym (part_slice k a.words.now _ g (cells_in a.words.now))) at c.write.ensures)

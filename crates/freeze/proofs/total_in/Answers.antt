-- `freeze::total_in` meets its contract: 9 where the check fails, and else the front and the blocks that were counted.
-- Assumes nothing.
use mathlib.Core.Path.{refl, sym, ap, ◌∙◌}
use native.Mathlib.Omega.{arith}
use lib.ListN.{length}
use Rattle.table.specs.Rows.{kind_of}
use Rattle.layout.specs.Store.{cells_in}
use Rattle.layout.proofs.Parts.{part_long, part_slice}
use Rattle.frozen.proofs.Laws.{room, says_total, total_small, total_9}
use Rattle.freeze.proofs.total_in.Goals as goal

-- a refusal
pub returns-then-not-check : goal.returns-then-not-check
returns-then-not-check c = ((total_9 (kind_of c.args.shape.now) c.args.words.now (sym c.check.ensures ∙ c.if-not-check.true)).0, tt)

pub bounds-words-0 : goal.bounds-words-0
bounds-words-0 c =
    let a = c.args in
    omega (arith, (room (kind_of a.shape.now) a.shape.now.shaped a.words.now (sym c.check.ensures ∙ c.if-not-check.false)).long)

pub part-part-requires : goal.part-part-requires
part-part-requires c =
    let a = c.args in
    let w = room (kind_of a.shape.now) a.shape.now.shaped a.words.now (sym c.check.ensures ∙ c.if-not-check.false) in
    (w.most, w.long)

pub count-blocks-requires : goal.count-blocks-requires
count-blocks-requires c =
    let a = c.args in
    let k = kind_of a.shape.now in
    let p = sym c.check.ensures ∙ c.if-not-check.false in
    let w = room k a.shape.now.shaped a.words.now p in
    (ap length c.part-part.ensures ∙ part_long k a.words.now (cells_in a.words.now) w.long, w.most, omega (arith, a.shape.now.shaped.ends, a.shape.now.shaped.narrow), rw (c.part-part.ensures ∙ sym (part_slice k a.words.now _ refl (cells_in a.words.now))) (total_small k a.shape.now.shaped a.words.now p _ refl refl))

-- the total
pub returns : goal.returns
returns c =
    let a = c.args in
    let k = kind_of a.shape.now in
    let g = c.rows_end.ensures.0 in
    says_total k a.shape.now.shaped a.words.now (sym c.check.ensures ∙ c.if-not-check.false) _ g _ _ (rw (c.part-part.ensures ∙ sym (part_slice k a.words.now _ g (cells_in a.words.now))) at c.count-blocks.ensures) refl

pub overflow_mul-result : goal.overflow_mul-result
overflow_mul-result c =
    let a = c.args in
    let k = kind_of a.shape.now in
    let g = c.rows_end.ensures.0 in
    omega (arith, c.rows_end.ensures.1, total_small k a.shape.now.shaped a.words.now (sym c.check.ensures ∙ c.if-not-check.false) _ g (rw (c.part-part.ensures ∙ sym (part_slice k a.words.now _ g (cells_in a.words.now))) at c.count-blocks.ensures))

pub overflow_add-result-2 : goal.overflow_add-result-2
overflow_add-result-2 c =
    let a = c.args in
    let k = kind_of a.shape.now in
    let g = c.rows_end.ensures.0 in
    omega (arith, c.rows_end.ensures.1, total_small k a.shape.now.shaped a.words.now (sym c.check.ensures ∙ c.if-not-check.false) _ g (rw (c.part-part.ensures ∙ sym (part_slice k a.words.now _ g (cells_in a.words.now))) at c.count-blocks.ensures))

pub overflow_cast-result-2 : goal.overflow_cast-result-2
overflow_cast-result-2 c =
    let a = c.args in
    let k = kind_of a.shape.now in
    let g = c.rows_end.ensures.0 in
    omega (arith, c.rows_end.ensures.1, total_small k a.shape.now.shaped a.words.now (sym c.check.ensures ∙ c.if-not-check.false) _ g (rw (c.part-part.ensures ∙ sym (part_slice k a.words.now _ g (cells_in a.words.now))) at c.count-blocks.ensures))

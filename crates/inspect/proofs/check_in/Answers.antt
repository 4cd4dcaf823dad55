-- `inspect::check_in` meets its contract: one law for each test.
-- Assumes nothing.
use mathlib.Core.Bool.{not}
use mathlib.Core.Path.{ap}
use Rattle.table.specs.Rows.{kind_of}
use Rattle.inspect.proofs.Laws.{short_image, long_image, some_cells, many_rules, other_mark, some_first, some_second, some_zeros, by_body}
use Rattle.inspect.proofs.check_in.Goals as goal

pub returns-then-image-from : goal.returns-then-image-from
returns-then-image-from c = short_image (kind_of c.args.shape.now) c.args.shape.now.shaped c.args.image.now _ c.rows_end-from.ensures.0 c.if-image-from.true

pub returns-then-image-gt16777216 : goal.returns-then-image-gt16777216
returns-then-image-gt16777216 c = long_image (kind_of c.args.shape.now) c.args.shape.now.shaped c.args.image.now _ c.rows_end-from.ensures.0 c.if-image-gt16777216.true

pub returns-then-image-ne0 : goal.returns-then-image-ne0
returns-then-image-ne0 c = some_cells (kind_of c.args.shape.now) c.args.shape.now.shaped c.args.image.now _ c.rows_end-from.ensures.0 c.if-image-ne0.true

pub returns-then-shape-n : goal.returns-then-shape-n
returns-then-shape-n c = many_rules (kind_of c.args.shape.now) c.args.shape.now.shaped c.args.image.now _ c.rows_end-from.ensures.0 c.if-shape-n.true

pub returns-then-image-shape : goal.returns-then-image-shape
returns-then-image-shape c = other_mark (kind_of c.args.shape.now) c.args.shape.now.shaped c.args.image.now _ c.rows_end-from.ensures.0 c.if-image-shape.true

pub returns-then-image-from-ne0 : goal.returns-then-image-from-ne0
returns-then-image-from-ne0 c = some_first (kind_of c.args.shape.now) c.args.shape.now.shaped c.args.image.now _ c.rows_end-from.ensures.0 c.if-image-from-ne0.true

pub returns-then-image-from-ne0-2 : goal.returns-then-image-from-ne0-2
returns-then-image-from-ne0-2 c = some_second (kind_of c.args.shape.now) c.args.shape.now.shaped c.args.image.now _ c.rows_end-from.ensures.0 c.if-image-from-ne0-2.true

pub returns-then-not-zeros : goal.returns-then-not-zeros
returns-then-not-zeros c = some_zeros (kind_of c.args.shape.now) c.args.shape.now.shaped c.args.image.now _ c.rows_end-from.ensures.0 c.if-image-from.false _ c.zeros.ensures (ap not c.if-not-zeros.true)

pub returns : goal.returns
returns c =
    by_body (kind_of c.args.shape.now) c.args.shape.now.shaped c.args.image.now _ c.rows_end-from.ensures.0 c.if-image-from.false _ c.if-image-gt16777216.false c.if-image-ne0.false c.if-shape-n.false c.if-image-shape.false c.if-image-from-ne0.false c.if-image-from-ne0-2.false
    c.zeros.ensures (ap not c.if-not-zeros.false) c.body_is.ensures

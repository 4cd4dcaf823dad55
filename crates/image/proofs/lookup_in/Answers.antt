-- `image::lookup_in` meets its contract: one law for each answer.
-- Assumes nothing.
use mathlib.Core.Path.{◌≡◌, ap, ◌∙◌}
use Prim.Native.Nat.{◌+◌}
use native.Mathlib.Omega.{arith}
use borrow.Author.Rules.{rules}
use Rattle.model.specs.Table.{front}
use Rattle.table.specs.Rows.{kind_of}
use Rattle.lookup.specs.Walk.{found_in}
use Rattle.image.proofs.Steps.{few_words, no_kind, walked_there}
use Rattle.image.proofs.lookup_in.Goals as goal

-- there is no word 2
pub returns-then-image-lt3 : goal.returns-then-image-lt3
returns-then-image-lt3 c =
    let a = c.args in
    c.refused.ensures ∙ few_words (kind_of a.shape.now) a.image.now a.values.now (omega (arith, c.args.shape.now.shaped.three, c.if-image-lt3.true))

-- another kind
pub returns-then-image-shape : goal.returns-then-image-shape
returns-then-image-shape c =
    let a = c.args in
    c.refused-then-image-shape.ensures ∙ no_kind (kind_of a.shape.now) a.image.now a.values.now (search rules)

-- too few words
pub returns-then-image-from : goal.returns-then-image-from
returns-then-image-from c =
    let a = c.args in
    c.refused-then-image-from.ensures ∙ few_words (kind_of a.shape.now) a.image.now a.values.now (omega (arith, c.rows_end.ensures.0, c.if-image-from.true))

-- what the walk says
pub returns : goal.returns
returns c =
    let a = c.args in
    let k = kind_of a.shape.now in
    let f : c.rows_end.result + 2 ≡ front k = omega (arith, c.rows_end.ensures.0) in
    c.found_in.ensures ∙ ap (found_in k a.image.now) c.walk.ensures ∙ walked_there k a.image.now a.values.now (search rules) _ f c.if-image-from.false

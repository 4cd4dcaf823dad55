-- `image::lookup` meets its contract: one law for each answer.
-- Assumes nothing.
use mathlib.Core.Path.{sym, ap, ◌∙◌}
use Rattle.model.specs.Table.{Kind}
use Rattle.model.specs.Ipv4.{kind_in}
use Rattle.ipv4.proofs.Chosen.{named}
use Rattle.header.specs.Header.{values_in}
use Rattle.image.specs.Image.{image_in}
use Rattle.image.proofs.Steps.{wrong_11, right_in}
use Rattle.image.proofs.lookup.Goals as goal

-- a value is above its top
pub returns-then-not-right : goal.returns-then-not-right
returns-then-not-right c = c.refused.ensures ∙ sym (wrong_11 (kind_in c.args.image.now) _ _ (sym c.right.ensures ∙ c.if-not-right.true))

-- none is
pub returns : goal.returns
returns c =
    let a = c.args in
    let ws = a.image.now in
    let vs = values_in a.packet in
    (rw c.values-values.ensures at c.lookup_in.ensures) ∙ (ap (λ (k : Kind). image_in k ws vs) (named c.is_large.result c.shape.result c.shape.ensures ws c.is_large.ensures) ∙ sym (right_in (kind_in ws) ws vs (sym c.right.ensures ∙ c.if-not-right.false)))

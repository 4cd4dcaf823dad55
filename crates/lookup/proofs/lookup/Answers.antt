-- `lookup::lookup` meets its contract: one law for each answer.
-- Assumes nothing.
use mathlib.Core.Path.{sym, ap, ◌∙◌}
use mathlib.Core.Bool.{true, false}
use Rattle.model.specs.Table.{Kind}
use Rattle.model.specs.Ipv4.{kind_in, is_large, ipv4_shaped}
use Rattle.ipv4.proofs.Chosen.{named}
use Rattle.header.specs.Header.{values_in}
use Rattle.lookup.specs.Walk.{lookup_in}
use Rattle.lookup.proofs.Steps.{no_word, wrong_11, right_in}
use Rattle.lookup.proofs.lookup.Goals as goal

-- a value is above its top
pub returns-then-not-right : goal.returns-then-not-right
returns-then-not-right c = c.refused.ensures ∙ sym (wrong_11 (kind_in c.args.words.now) _ _ (sym c.right.ensures ∙ c.if-not-right.true))

-- none is, and the words are fewer than three
pub returns-then-words-lt3 : goal.returns-then-words-lt3
returns-then-words-lt3 c =
    let a = c.args in
    let ws = a.words.now in
    let vs = values_in a.packet in
    c.refused-then-words-lt3.ensures ∙ (no_word (kind_in ws) ws vs (ipv4_shaped (is_large ws)) c.if-words-lt3.true ∙ sym (right_in (kind_in ws) ws vs (sym c.right.ensures ∙ c.if-not-right.false)))

-- the store is large
pub returns-then-is_large : goal.returns-then-is_large
returns-then-is_large c =
    let a = c.args in
    let ws = a.words.now in
    let vs = values_in a.packet in
    (rw c.values-values.ensures at c.lookup_in.ensures) ∙ (ap (λ (k : Kind). lookup_in k ws vs) (named true c.shape.result c.shape.ensures ws (sym c.if-is_large.true ∙ c.is_large.ensures)) ∙ sym (right_in (kind_in ws) ws vs (sym c.right.ensures ∙ c.if-not-right.false)))

-- it is small
pub returns : goal.returns
returns c =
    let a = c.args in
    let ws = a.words.now in
    let vs = values_in a.packet in
    (rw c.values-values.ensures at c.lookup_in-2.ensures) ∙ (ap (λ (k : Kind). lookup_in k ws vs) (named false c.shape-2.result c.shape-2.ensures ws (sym c.if-is_large.false ∙ c.is_large.ensures)) ∙ sym (right_in (kind_in ws) ws vs (sym c.right.ensures ∙ c.if-not-right.false)))

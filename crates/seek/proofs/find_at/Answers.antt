-- `seek::find_at` meets its contract: one law for each answer.
-- Assumes nothing.
use mathlib.Core.Path.{sym, ap, ◌∙◌}
use native.Mathlib.Omega.{arith}
use lib.ListN.{length}
use Rattle.table.specs.Rows.{kind_of, rule_in}
use Rattle.layout.specs.Store.{rows_of}
use Rattle.layout.proofs.Sound.{sound}
use Rattle.layout.proofs.Passed.{sound_room}
use Rattle.seek.proofs.Read.{at_9, at_none, at_4, at_0}
use Rattle.seek.proofs.find_at.Goals as goal

pub returns-then-not-check : goal.returns-then-not-check
returns-then-not-check c =
    let a = c.args in
    (at_9 (kind_of a.shape.now) a.shape.now.shaped a.words.now a.place (sym c.check.ensures ∙ c.if-not-check.true), tt)

pub returns-then-place-eq0 : goal.returns-then-place-eq0
returns-then-place-eq0 c =
    let a = c.args in
    (at_none (kind_of a.shape.now) a.shape.now.shaped a.words.now a.place (sym c.check.ensures ∙ c.if-not-check.false) c.if-place-eq0.true, tt)

pub bounds-words-1 : goal.bounds-words-1
bounds-words-1 c =
    let a = c.args in
    let w = sound_room (kind_of a.shape.now) a.shape.now.shaped a.words.now (sound (kind_of a.shape.now) a.shape.now.shaped a.words.now (sym c.check.ensures ∙ c.if-not-check.false)) in
    omega (arith, w.long)

pub returns-then-words-place : goal.returns-then-words-place
returns-then-words-place c =
    let a = c.args in
    (at_4 (kind_of a.shape.now) a.shape.now.shaped a.words.now a.place (sym c.check.ensures ∙ c.if-not-check.false) c.if-place-eq0.false c.if-words-place.true, tt)

pub row_start-requires : goal.row_start-requires
row_start-requires c =
    let a = c.args in
    let o = sound (kind_of a.shape.now) a.shape.now.shaped a.words.now (sym c.check.ensures ∙ c.if-not-check.false) in
    omega (arith, c.if-words-place.false, o.few, a.shape.now.shaped.few)

pub returns : goal.returns
returns c =
    let a = c.args in
    let g = at_0 (kind_of a.shape.now) a.shape.now.shaped a.words.now a.place (sym c.check.ensures ∙ c.if-not-check.false) c.if-place-eq0.false c.if-words-place.false in
    (g.0, ap (rule_in (length a.shape.now.tops.now) (rows_of (kind_of a.shape.now) a.words.now)) c.row_start.ensures.0 ∙ g.1)

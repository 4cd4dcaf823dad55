-- `seek::find` meets its contract: one law for each answer.
-- Assumes nothing.
use mathlib.Core.Path.{sym, ap, ◌∙◌}
use native.Mathlib.Omega.{arith}
use lib.ListN.{length, get_or}
use Rattle.model.specs.Table.{stands}
use Rattle.table.specs.Rows.{kind_of, rule_in, table_in, ahead}
use Rattle.layout.specs.Store.{rows_of}
use Rattle.layout.proofs.Sound.{sound}
use Rattle.layout.proofs.Passed.{sound_room}
use Rattle.seek.proofs.Read.{find_9, find_default, find_1, find_4, find_0}
use Rattle.seek.proofs.find.Goals as goal

pub returns-then-not-check : goal.returns-then-not-check
returns-then-not-check c =
    let a = c.args in
    (find_9 (kind_of a.shape.now) a.shape.now.shaped a.words.now a.number (sym c.check.ensures ∙ c.if-not-check.true), tt)

pub returns-then-number-eq65535 : goal.returns-then-number-eq65535
returns-then-number-eq65535 c =
    let a = c.args in
    find_default (kind_of a.shape.now) a.shape.now.shaped a.words.now a.number (sym c.check.ensures ∙ c.if-not-check.false) c.if-number-eq65535.true

pub returns-then-number-gt65534 : goal.returns-then-number-gt65534
returns-then-number-gt65534 c =
    let a = c.args in
    (find_1 (kind_of a.shape.now) a.shape.now.shaped a.words.now a.number (sym c.check.ensures ∙ c.if-not-check.false) c.if-number-eq65535.false c.if-number-gt65534.true, tt)

pub rows-rows-requires : goal.rows-rows-requires
rows-rows-requires c =
    let a = c.args in
    let w = sound_room (kind_of a.shape.now) a.shape.now.shaped a.words.now (sound (kind_of a.shape.now) a.shape.now.shaped a.words.now (sym c.check.ensures ∙ c.if-not-check.false)) in
    omega (arith, w.long)

pub bounds-words-1 : goal.bounds-words-1
bounds-words-1 c =
    let a = c.args in
    let w = sound_room (kind_of a.shape.now) a.shape.now.shaped a.words.now (sound (kind_of a.shape.now) a.shape.now.shaped a.words.now (sym c.check.ensures ∙ c.if-not-check.false)) in
    omega (arith, w.long)

pub before-p-requires : goal.before-p-requires
before-p-requires c =
    let a = c.args in
    let o = sound (kind_of a.shape.now) a.shape.now.shaped a.words.now (sym c.check.ensures ∙ c.if-not-check.false) in
    (omega (arith, o.few, a.shape.now.shaped.few), rw c.rows-rows.ensures o.rising)

pub stands_behind-requires : goal.stands_behind-requires
stands_behind-requires c =
    let a = c.args in
    let o = sound (kind_of a.shape.now) a.shape.now.shaped a.words.now (sym c.check.ensures ∙ c.if-not-check.false) in
    (omega (arith, o.few, a.shape.now.shaped.few), rw c.rows-rows.ensures o.rising, c.before-p.ensures.0)

pub returns-then-not-stands_behind : goal.returns-then-not-stands_behind
returns-then-not-stands_behind c =
    let a = c.args in
    (find_4 (kind_of a.shape.now) a.shape.now.shaped a.words.now a.number (sym c.check.ensures ∙ c.if-not-check.false) c.if-number-eq65535.false c.if-number-gt65534.false (sym (c.stands_behind.ensures ∙ ap (λ rows. stands a.number (table_in (kind_of a.shape.now) (get_or a.words.now 1 0) rows).rules) c.rows-rows.ensures) ∙ c.if-not-stands_behind.true), tt)

pub overflow_add-p : goal.overflow_add-p
overflow_add-p c =
    let a = c.args in
    let o = sound (kind_of a.shape.now) a.shape.now.shaped a.words.now (sym c.check.ensures ∙ c.if-not-check.false) in
    omega (arith, c.before-p.ensures.1, o.few, a.shape.now.shaped.few)

pub row_start-requires : goal.row_start-requires
row_start-requires c =
    let a = c.args in
    let o = sound (kind_of a.shape.now) a.shape.now.shaped a.words.now (sym c.check.ensures ∙ c.if-not-check.false) in
    omega (arith, c.before-p.ensures.1, o.few, a.shape.now.shaped.few)

pub returns : goal.returns
returns c =
    let a = c.args in
    let t = ap (table_in (kind_of a.shape.now) (get_or a.words.now 1 0)) c.rows-rows.ensures in
    let g = find_0 (kind_of a.shape.now) a.shape.now.shaped a.words.now a.number (sym c.check.ensures ∙ c.if-not-check.false) c.if-number-eq65535.false c.if-number-gt65534.false (sym (c.stands_behind.ensures ∙ ap (λ t. stands a.number t.rules) t) ∙ c.if-not-stands_behind.false) _ (c.before-p.ensures.0 ∙ ap (λ t. ahead a.number t.rules) t) in
    (g.0, ap (rule_in (length a.shape.now.tops.now) (rows_of (kind_of a.shape.now) a.words.now)) c.row_start.ensures.0 ∙ g.1)

-- `answer::decide_delete` meets its contract: the check, and then what is decided of the rows.
-- Assumes nothing.
use mathlib.Core.Path.{sym, ◌∙◌}
use native.Mathlib.Omega.{arith}
use Rattle.table.specs.Rows.{kind_of}
use Rattle.layout.proofs.Sound.{sound}
use Rattle.layout.proofs.Passed.{sound_room, held}
use Rattle.answer.proofs.Said.{delete_9, delete_says_lem}
use Rattle.answer.proofs.decide_delete.Goals as goal

pub returns-then-not-check : goal.returns-then-not-check
returns-then-not-check c =
    let a = c.args in
    (delete_9 (kind_of a.shape.now) a.words.now a.number (sym c.check.ensures ∙ c.if-not-check.true), tt)

pub slice_bounds-delete_from-end : goal.slice_bounds-delete_from-end
slice_bounds-delete_from-end c =
    let a = c.args in
    let h = sym c.check.ensures ∙ c.if-not-check.false in
    let w = sound_room (kind_of a.shape.now) c.args.shape.now.shaped a.words.now (sound (kind_of a.shape.now) c.args.shape.now.shaped a.words.now h) in
    omega (arith, w.long, c.rows_end-from.ensures.0)

pub bounds-words-1 : goal.bounds-words-1
bounds-words-1 c =
    let a = c.args in
    let h = sym c.check.ensures ∙ c.if-not-check.false in
    let w = sound_room (kind_of a.shape.now) c.args.shape.now.shaped a.words.now (sound (kind_of a.shape.now) c.args.shape.now.shaped a.words.now h) in
    omega (arith, w.long)

pub delete_from-requires : goal.delete_from-requires
delete_from-requires c =
    let a = c.args in
    let h = sym c.check.ensures ∙ c.if-not-check.false in
    let w = sound_room (kind_of a.shape.now) c.args.shape.now.shaped a.words.now (sound (kind_of a.shape.now) c.args.shape.now.shaped a.words.now h) in
    held (kind_of a.shape.now) c.args.shape.now.shaped a.words.now _ c.rows_end-from.ensures.0 h

pub returns : goal.returns
returns c =
    let a = c.args in
    let h = sym c.check.ensures ∙ c.if-not-check.false in
    let w = sound_room (kind_of a.shape.now) c.args.shape.now.shaped a.words.now (sound (kind_of a.shape.now) c.args.shape.now.shaped a.words.now h) in
    delete_says_lem (kind_of a.shape.now) a.words.now _ c.rows_end-from.ensures.0 h a.number _ c.delete_from.ensures

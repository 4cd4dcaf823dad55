-- `answer::decide_insert` meets its contract: the check, and then what is decided of the rows.
-- Assumes nothing.
use mathlib.Core.Path.{sym, ◌∙◌}
use native.Mathlib.Omega.{arith}
use lib.ListN.{length, get_or}
use Rattle.table.specs.Rows.{kind_of, rule_in}
use Rattle.layout.proofs.Sound.{sound}
use Rattle.layout.proofs.Passed.{sound_room, held}
use Rattle.answer.proofs.Said.{insert_9, insert_says_lem}
use Rattle.answer.proofs.decide_insert.Goals as goal

pub returns-then-not-check : goal.returns-then-not-check
returns-then-not-check c =
    let a = c.args in
    (insert_9 (kind_of a.shape.now) a.words.now (rule_in (length a.shape.now.tops.now) a.row.now 0) (sym c.check.ensures ∙ c.if-not-check.true), tt)

pub slice_bounds-insert_into-end : goal.slice_bounds-insert_into-end
slice_bounds-insert_into-end c =
    let a = c.args in
    let h = sym c.check.ensures ∙ c.if-not-check.false in
    let w = sound_room (kind_of a.shape.now) c.args.shape.now.shaped a.words.now (sound (kind_of a.shape.now) c.args.shape.now.shaped a.words.now h) in
    omega (arith, w.long, c.rows_end-from.ensures.0)

pub bounds-words-1 : goal.bounds-words-1
bounds-words-1 c =
    let a = c.args in
    let h = sym c.check.ensures ∙ c.if-not-check.false in
    let w = sound_room (kind_of a.shape.now) c.args.shape.now.shaped a.words.now (sound (kind_of a.shape.now) c.args.shape.now.shaped a.words.now h) in
    omega (arith, w.long)

pub bounds-words-0 : goal.bounds-words-0
bounds-words-0 c =
    let a = c.args in
    let h = sym c.check.ensures ∙ c.if-not-check.false in
    let w = sound_room (kind_of a.shape.now) c.args.shape.now.shaped a.words.now (sound (kind_of a.shape.now) c.args.shape.now.shaped a.words.now h) in
    omega (arith, w.long)

pub insert_into-requires : goal.insert_into-requires
insert_into-requires c =
    let a = c.args in
    let h = sym c.check.ensures ∙ c.if-not-check.false in
    let w = sound_room (kind_of a.shape.now) c.args.shape.now.shaped a.words.now (sound (kind_of a.shape.now) c.args.shape.now.shaped a.words.now h) in
    (held (kind_of a.shape.now) c.args.shape.now.shaped a.words.now _ c.rows_end-from.ensures.0 h, w.most, c.requires.1, record { places = omega (arith, c.requires.0.places, c.check.auto.sets); room = omega (arith, c.requires.0.room, c.check.auto.ends) })

pub returns : goal.returns
returns c =
    let a = c.args in
    let h = sym c.check.ensures ∙ c.if-not-check.false in
    let w = sound_room (kind_of a.shape.now) c.args.shape.now.shaped a.words.now (sound (kind_of a.shape.now) c.args.shape.now.shaped a.words.now h) in
    insert_says_lem (kind_of a.shape.now) a.words.now _ c.rows_end-from.ensures.0 h (rule_in (length a.shape.now.tops.now) a.row.now 0) (get_or a.row.now 0 0) _ c.insert_into.ensures

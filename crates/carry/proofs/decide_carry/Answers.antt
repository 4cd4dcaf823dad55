-- `carry::decide_carry` meets its contract: the check of the old store, the room in the words, and the cells that the table takes.
-- Assumes nothing.
use mathlib.Core.Path.{sym, ◌∙◌}
use native.Mathlib.Omega.{arith}
use Rattle.table.specs.Rows.{kind_of}
use Rattle.layout.proofs.Sound.{sound}
use Rattle.layout.proofs.Passed.{sound_room}
use Rattle.carry.proofs.Carried.{carry_9, carry_8, carry_6, carry_0}
use Rattle.carry.proofs.decide_carry.Goals as goal

pub returns-then-not-check : goal.returns-then-not-check
returns-then-not-check c =
    let a = c.args in
    carry_9 (kind_of a.old.now) (kind_of a.shape.now) a.from.now a.words.now a.c (sym c.check.ensures ∙ c.if-not-check.true)

pub returns-then-not-room_for : goal.returns-then-not-room_for
returns-then-not-room_for c =
    let a = c.args in
    let h = sym c.check.ensures ∙ c.if-not-check.false in
    carry_8 (kind_of a.old.now) (kind_of a.shape.now) a.from.now a.words.now a.c h (sym c.room_for.ensures ∙ c.if-not-room_for.true)

pub bounds-from-links : goal.bounds-from-links
bounds-from-links c =
    let a = c.args in
    let h = sym c.check.ensures ∙ c.if-not-check.false in
    let o = sound (kind_of a.old.now) c.args.old.now.shaped a.from.now h in
    omega (arith, c.rows_end-links.ensures.0, (sound_room (kind_of a.old.now) c.args.old.now.shaped a.from.now o).long)

pub returns-then-c-from : goal.returns-then-c-from
returns-then-c-from c =
    let a = c.args in
    let h = sym c.check.ensures ∙ c.if-not-check.false in
    let w = sym c.room_for.ensures ∙ c.if-not-room_for.false in
    carry_6 (kind_of a.old.now) (kind_of a.shape.now) a.from.now a.words.now a.c h c.args.old.now.shaped c.requires.0 w _ c.rows_end-links.ensures.0 c.if-c-from.true

pub returns : goal.returns
returns c =
    let a = c.args in
    let h = sym c.check.ensures ∙ c.if-not-check.false in
    let w = sym c.room_for.ensures ∙ c.if-not-room_for.false in
    carry_0 (kind_of a.old.now) (kind_of a.shape.now) a.from.now a.words.now a.c h c.args.old.now.shaped c.requires.0 w _ c.rows_end-links.ensures.0 c.if-c-from.false

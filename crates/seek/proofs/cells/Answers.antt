-- `seek::cells` meets its contract: the first of the two links names the cells in use.
-- Assumes nothing.
use mathlib.Core.Path.{sym, ◌∙◌}
use native.Mathlib.Omega.{arith}
use Rattle.table.specs.Rows.{kind_of}
use Rattle.layout.proofs.Sound.{sound}
use Rattle.layout.proofs.Passed.{sound_room}
use Rattle.seek.proofs.Read.{cells_refused, cells_done}
use Rattle.seek.proofs.cells.Goals as goal

pub returns-then-not-check : goal.returns-then-not-check
returns-then-not-check c =
    let a = c.args in
    ((cells_refused (kind_of a.shape.now) a.shape.now.shaped a.words.now (sym c.check.ensures ∙ c.if-not-check.true)).0, tt)

pub bounds-words-rows_end : goal.bounds-words-rows_end
bounds-words-rows_end c =
    let a = c.args in
    let h = sym c.check.ensures ∙ c.if-not-check.false in
    let o = sound (kind_of a.shape.now) a.shape.now.shaped a.words.now h in
    let w = sound_room (kind_of a.shape.now) a.shape.now.shaped a.words.now o in
    omega (arith, w.long, c.rows_end.ensures.0)

pub returns : goal.returns
returns c =
    let a = c.args in
    let h = sym c.check.ensures ∙ c.if-not-check.false in
    let o = sound (kind_of a.shape.now) a.shape.now.shaped a.words.now h in
    let w = sound_room (kind_of a.shape.now) a.shape.now.shaped a.words.now o in
    cells_done (kind_of a.shape.now) a.shape.now.shaped a.words.now h _ c.rows_end.ensures.0

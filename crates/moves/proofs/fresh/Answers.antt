-- `moves::fresh` meets its contract: an invariant.
-- Assumes nothing.
use mathlib.Core.Path.{sym, ◌∙◌}
use native.Mathlib.Omega.{arith}
use Rattle.model.proofs.UpTo.{fill_start, fill_step, fill_end}
use Rattle.table.specs.Rows.{kind_of, fresh_word}
use Rattle.moves.proofs.Default.{fresh_rows}
use Rattle.moves.proofs.fresh.Goals as goal

pub loop-i-init : goal.loop-i-init
loop-i-init c = fill_start _

pub loop-i-preserved : goal.loop-i-preserved
loop-i-preserved c =
    let l = c.loop-i in
    let a = c.args in
    rw c.fresh_word.ensures (fill_step (fresh_word (kind_of a.shape.now) a.action) l.out l.i l.invariant (omega (arith, l.auto.out)))

pub returns : goal.returns
returns c =
    let l = c.loop-i in
    let a = c.args in
    fill_end (fresh_word (kind_of a.shape.now) a.action) l.out l.i _ l.invariant (sym (l.auto.out ∙ c.requires)) (omega (arith, l.auto.out, c.requires, l.auto.i-end)) (omega (arith, l.auto.out, c.requires, l.auto.i-end)) ∙ fresh_rows (kind_of a.shape.now) a.action

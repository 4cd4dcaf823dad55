-- `worst::worst_in` meets its contract: 9 where the check fails, and else what the search tells.
-- Assumes nothing.
use mathlib.Core.Path.{sym, ap, ◌∙◌}
use native.Mathlib.Omega.{arith}
use lib.ListN.{length}
use Rattle.table.specs.Rows.{kind_of}
use Rattle.layout.specs.Store.{cells_in}
use Rattle.layout.proofs.Parts.{part_long}
use Rattle.worst.proofs.Laws.{room, past_is, says_worst, says_9}
use Rattle.worst.proofs.worst_in.Goals as goal

-- a refusal
pub returns-then-not-check : goal.returns-then-not-check
returns-then-not-check c = says_9 (kind_of c.args.shape.now) c.args.words.now (sym c.check.ensures ∙ c.if-not-check.true) _

pub bounds-words-0 : goal.bounds-words-0
bounds-words-0 c =
    let a = c.args in
    omega (arith, (room (kind_of a.shape.now) a.shape.now.shaped a.words.now (sym c.check.ensures ∙ c.if-not-check.false)).long)

pub part-part-requires : goal.part-part-requires
part-part-requires c =
    let a = c.args in
    let w = room (kind_of a.shape.now) a.shape.now.shaped a.words.now (sym c.check.ensures ∙ c.if-not-check.false) in
    (w.most, w.long)

pub best-requires : goal.best-requires
best-requires c =
    let a = c.args in
    let w = room (kind_of a.shape.now) a.shape.now.shaped a.words.now (sym c.check.ensures ∙ c.if-not-check.false) in
    (ap length c.part-part.ensures ∙ part_long (kind_of a.shape.now) a.words.now (cells_in a.words.now) w.long, w.most, omega (arith, c.fields.ensures.0, a.shape.now.shaped.ends, a.shape.now.shaped.narrow), c.requires.1 ∙ sym c.fields.ensures.0)

-- the most reads
pub returns : goal.returns
returns c =
    let a = c.args in
    says_worst (kind_of a.shape.now) a.shape.now.shaped a.words.now (sym c.check.ensures ∙ c.if-not-check.false) _ c.part-part.ensures _ _ _ (rw c.fields.ensures.0 at c.best.ensures) c.fields.ensures.1

pub overflow_sub-result : goal.overflow_sub-result
overflow_sub-result c =
    let a = c.args in
    omega (arith, past_is (kind_of a.shape.now) a.shape.now.shaped a.words.now (sym c.check.ensures ∙ c.if-not-check.false) _ c.part-part.ensures _ _ _ (rw c.fields.ensures.0 at c.best.ensures))

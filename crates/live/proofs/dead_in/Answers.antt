-- `live::dead_in` meets its contract: the refusals of reading, and then what the search tells.
-- Assumes nothing.
use Rattle.std.proofs.Common.{rules, Err}
use mathlib.Core.Path.{◌≡◌, sym, ap, ◌∙◌}
use native.Mathlib.Omega.{arith}
use lib.ListN.{length}
use Rattle.table.specs.Rows.{kind_of}
use Rattle.layout.specs.Store.{cells_in}
use Rattle.layout.proofs.Parts.{part_long}
use Rattle.live.proofs.Laws.{standing, room, says_fate, says_refused}
use Rattle.live.proofs.dead_in.Goals as goal

pub returns-in_err-find : goal.returns-in_err-find
returns-in_err-find c =
    let q : c.from_residual.result ≡ Err c.in_err-find.field-0.0 = search rules in
    rw q (says_refused (kind_of c.args.shape.now) c.args.words.now c.args.number _ (c.in_err-find.ensures.0) _)

pub place-p-requires : goal.place-p-requires
place-p-requires c = standing (kind_of c.args.shape.now) c.args.words.now c.args.number (sym c.in_ok-find.ensures.0)

pub bounds-words-0 : goal.bounds-words-0
bounds-words-0 c =
    let a = c.args in
    let w = room (kind_of a.shape.now) a.shape.now.shaped a.words.now a.number (standing (kind_of a.shape.now) a.words.now a.number (sym c.in_ok-find.ensures.0)) in
    omega (arith, w.long)

pub part-part-requires : goal.part-part-requires
part-part-requires c =
    let a = c.args in
    let w = room (kind_of a.shape.now) a.shape.now.shaped a.words.now a.number (standing (kind_of a.shape.now) a.words.now a.number (sym c.in_ok-find.ensures.0)) in
    (w.most, w.long)

pub reach-requires : goal.reach-requires
reach-requires c =
    let a = c.args in
    let w = room (kind_of a.shape.now) a.shape.now.shaped a.words.now a.number (standing (kind_of a.shape.now) a.words.now a.number (sym c.in_ok-find.ensures.0)) in
    (ap length c.part-part.ensures ∙ part_long (kind_of a.shape.now) a.words.now (cells_in a.words.now) w.long, w.most, c.requires.1 ∙ sym c.fields.ensures.0)

pub returns : goal.returns
returns c =
    let a = c.args in
    let f = standing (kind_of a.shape.now) a.words.now a.number (sym c.in_ok-find.ensures.0) in
    says_fate (kind_of a.shape.now) a.shape.now.shaped a.words.now a.number f _ c.part-part.ensures _ c.place-p.ensures _ _ _ (rw c.fields.ensures.0 at c.reach.ensures) (sym c.in_ok-find.ensures.0) c.fields.ensures.1

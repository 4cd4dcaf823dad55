-- `depths::worst_in` meets its contract: 9 where the image check fails, and else what the search tells.
-- Assumes nothing.
use mathlib.Core.Path.{sym, ◌∙◌}
use Prim.Native.Nat.{suc}
use native.Mathlib.Omega.{arith}
use lib.ListN.{get_or}
use Rattle.table.specs.Rows.{kind_of}
use Rattle.layout.proofs.Parts.{scratch_few}
use Rattle.depths.proofs.Laws.{its, says_worst, says_9}
use Rattle.depths.proofs.worst_in.Goals as goal

-- a refusal
pub returns-then-not-check_in : goal.returns-then-not-check_in
returns-then-not-check_in c = says_9 (kind_of c.args.shape.now) c.args.image.now (sym c.check_in.ensures ∙ c.if-not-check_in.true) _

pub rows-rows-requires : goal.rows-rows-requires
rows-rows-requires c = (its (kind_of c.args.shape.now) c.args.shape.now.shaped c.args.image.now (sym c.check_in.ensures ∙ c.if-not-check_in.false)).long

pub bounds-image-1 : goal.bounds-image-1
bounds-image-1 c = omega (arith, (its (kind_of c.args.shape.now) c.args.shape.now.shaped c.args.image.now (sym c.check_in.ensures ∙ c.if-not-check_in.false)).long)

pub blocks_of-requires : goal.blocks_of-requires
blocks_of-requires c =
    let a = c.args in
    let o = its (kind_of a.shape.now) a.shape.now.shaped a.image.now (sym c.check_in.ensures ∙ c.if-not-check_in.false) in
    let b = c.check_in.auto in
    let g = scratch_few (suc (get_or a.image.now 1 0)) c.requires.0 (omega (arith, o.few)) in
    (omega (arith, o.few, a.shape.now.shaped.few), record { places = omega (arith, g.places, b.sets); room = omega (arith, g.room, b.ends) }, c.requires.1)

-- the most blocks
pub returns : goal.returns
returns c = says_worst (kind_of c.args.shape.now) c.args.shape.now.shaped c.args.image.now (sym c.check_in.ensures ∙ c.if-not-check_in.false) _ c.rows-rows.ensures _ _ _ _ c.unwrap_or.ensures c.blocks_of.ensures

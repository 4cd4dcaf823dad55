-- `live::place` meets its contract: the rule of a number stands behind those of lesser numbers.
-- Assumes nothing.
use mathlib.Core.Path.{ap, ◌∙◌}
use native.Mathlib.Omega.{arith}
use lib.ListN.{get_or}
use Rattle.table.specs.Rows.{kind_of, table_in, ahead}
use Rattle.layout.proofs.Sound.{sound}
use Rattle.live.proofs.Laws.{room, place_default, place_rule_lem}
use Rattle.live.proofs.place.Goals as goal

-- the default
pub returns-then-number-eq65535 : goal.returns-then-number-eq65535
returns-then-number-eq65535 c = place_default (kind_of c.args.shape.now) c.args.words.now c.args.number c.if-number-eq65535.true

pub rows-requires : goal.rows-requires
rows-requires c = omega (arith, (room (kind_of c.args.shape.now) c.args.shape.now.shaped c.args.words.now c.args.number c.requires).long)

pub bounds-words-1 : goal.bounds-words-1
bounds-words-1 c = omega (arith, (room (kind_of c.args.shape.now) c.args.shape.now.shaped c.args.words.now c.args.number c.requires).long)

pub before-p-requires : goal.before-p-requires
before-p-requires c =
    let o = sound (kind_of c.args.shape.now) c.args.shape.now.shaped c.args.words.now c.requires.pass in
    (omega (arith, o.few, c.args.shape.now.shaped.few), rw c.rows.ensures o.rising)

pub overflow_add-p : goal.overflow_add-p
overflow_add-p c = omega (arith, c.before-p.ensures.1, (sound (kind_of c.args.shape.now) c.args.shape.now.shaped c.args.words.now c.requires.pass).few, c.args.shape.now.shaped.few)

pub row_start-requires : goal.row_start-requires
row_start-requires c = omega (arith, c.before-p.ensures.1, (sound (kind_of c.args.shape.now) c.args.shape.now.shaped c.args.words.now c.requires.pass).few, c.args.shape.now.shaped.few)

-- another rule
pub returns : goal.returns
returns c =
    let t = ap (table_in (kind_of c.args.shape.now) (get_or c.args.words.now 1 0)) c.rows.ensures in
    c.row_start.ensures.0 ∙ place_rule_lem (kind_of c.args.shape.now) c.args.words.now c.args.number c.if-number-eq65535.false _ (c.before-p.ensures.0 ∙ ap (λ t. ahead c.args.number t.rules) t)

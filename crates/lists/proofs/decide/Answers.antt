-- `lists::decide` meets its contract: the length, the check, and then what is decided of the rows.
-- Assumes nothing.
use mathlib.Core.Path.{sym, ◌∙◌}
use Prim.Native.Nat.{◌+◌}
use native.Mathlib.Omega.{arith}
use lib.ListN.{length}
use Rattle.table.specs.Rows.{kind_of}
use Rattle.layout.proofs.Passed.{held}
use Rattle.lists.proofs.Listed.{none_15, many_15, list_9, list_says_lem, passed_room}
use Rattle.lists.proofs.decide.Goals as goal

-- no edit
pub returns-then-count-eq0 : goal.returns-then-count-eq0
returns-then-count-eq0 c = let a = c.args in c.of.ensures ∙ none_15 (kind_of a.shape.now) a.words.now (length a.shape.now.tops.now) (a.shape.now.width + 1) a.count a.edits.now c.if-count-eq0.true

-- too many
pub returns-then-count-gt32 : goal.returns-then-count-gt32
returns-then-count-gt32 c = let a = c.args in c.of-then-count-gt32.ensures ∙ many_15 (kind_of a.shape.now) a.words.now (length a.shape.now.tops.now) (a.shape.now.width + 1) a.count a.edits.now c.if-count-eq0.false c.if-count-gt32.true

-- the store fails the check
pub returns-then-not-check : goal.returns-then-not-check
returns-then-not-check c =
    let a = c.args in
    c.of-then-not-check.ensures ∙ list_9 (kind_of a.shape.now) a.words.now (length a.shape.now.tops.now) (a.shape.now.width + 1) a.count a.edits.now c.if-count-eq0.false c.if-count-gt32.false (sym c.check.ensures ∙ c.if-not-check.true)

pub slice_bounds-first_refusal-end : goal.slice_bounds-first_refusal-end
slice_bounds-first_refusal-end c =
    let a = c.args in
    let g = kind_of a.shape.now in
    let w = passed_room g a.shape.now.shaped a.words.now c.check.ensures c.if-not-check.false in
    omega (arith, w.long, c.rows_end-from.ensures.0)

pub bounds-words-1 : goal.bounds-words-1
bounds-words-1 c =
    let a = c.args in
    let g = kind_of a.shape.now in
    let w = passed_room g a.shape.now.shaped a.words.now c.check.ensures c.if-not-check.false in
    omega (arith, w.long)

pub bounds-words-0 : goal.bounds-words-0
bounds-words-0 c =
    let a = c.args in
    let g = kind_of a.shape.now in
    let w = passed_room g a.shape.now.shaped a.words.now c.check.ensures c.if-not-check.false in
    omega (arith, w.long)

pub first_refusal-requires : goal.first_refusal-requires
first_refusal-requires c =
    let a = c.args in
    let g = kind_of a.shape.now in
    let w = passed_room g a.shape.now.shaped a.words.now c.check.ensures c.if-not-check.false in
    (held g a.shape.now.shaped a.words.now _ c.rows_end-from.ensures.0 (sym c.check.ensures ∙ c.if-not-check.false), w.most, c.if-count-gt32.false, c.requires.0, record { places = omega (arith, c.requires.1.places, c.check.auto.sets); room = omega (arith, c.requires.1.room, c.check.auto.ends) })

-- what the rows say
pub returns : goal.returns
returns c =
    let a = c.args in
    let g = kind_of a.shape.now in
    let h = sym c.check.ensures ∙ c.if-not-check.false in
    list_says_lem g a.words.now (length a.shape.now.tops.now) (a.shape.now.width + 1) a.count a.edits.now c.if-count-eq0.false c.if-count-gt32.false _ c.rows_end-from.ensures.0 h _ c.first_refusal.ensures

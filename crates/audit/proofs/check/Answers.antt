-- `audit::check` meets its contract: one law for each test.
-- Assumes nothing.
use mathlib.Core.Bool.{not}
use mathlib.Core.Path.{ap}
use mathlib.Core.Path.{sym, ◌∙◌}
use native.Mathlib.Omega.{arith}
use Rattle.table.specs.Rows.{kind_of}
use Rattle.layout.proofs.Sound.{roomy, check_short, check_room, check_few, check_mark, check_zeros, check_body}
use Rattle.audit.proofs.check.Goals as goal

pub returns-then-words-lt3 : goal.returns-then-words-lt3
returns-then-words-lt3 c =
    let a = c.args in
    check_short (kind_of a.shape.now) c.args.shape.now.shaped a.words.now (omega (arith, c.if-words-lt3.true, c.args.shape.now.shaped.three))

pub returns-then-not-room_for : goal.returns-then-not-room_for
returns-then-not-room_for c =
    let a = c.args in
    check_room (kind_of a.shape.now) c.args.shape.now.shaped a.words.now c.room_for.ensures (ap not c.if-not-room_for.true)

pub returns-then-shape-n : goal.returns-then-shape-n
returns-then-shape-n c =
    let a = c.args in
    check_few (kind_of a.shape.now) c.args.shape.now.shaped a.words.now c.if-shape-n.true

pub returns-then-words-shape : goal.returns-then-words-shape
returns-then-words-shape c =
    let a = c.args in
    check_mark (kind_of a.shape.now) c.args.shape.now.shaped a.words.now c.if-words-shape.true

pub zeros-requires : goal.zeros-requires
zeros-requires c =
    let a = c.args in
    let o = sym c.room_for.ensures ∙ c.if-not-room_for.false in
    let w = roomy (kind_of a.shape.now) _ a.words.now o in
    (c.args.shape.now.shaped.three, omega (arith, w.long))

pub returns-then-not-zeros : goal.returns-then-not-zeros
returns-then-not-zeros c =
    let a = c.args in
    let o = sym c.room_for.ensures ∙ c.if-not-room_for.false in
    let w = roomy (kind_of a.shape.now) _ a.words.now o in
    check_zeros (kind_of a.shape.now) c.args.shape.now.shaped a.words.now o _ c.zeros.ensures (ap not c.if-not-zeros.true)

pub body_is-requires : goal.body_is-requires
body_is-requires c =
    let a = c.args in
    let o = sym c.room_for.ensures ∙ c.if-not-room_for.false in
    let w = roomy (kind_of a.shape.now) _ a.words.now o in
    (c.requires, c.if-shape-n.false, w.most, w.long)

pub returns : goal.returns
returns c =
    let a = c.args in
    let o = sym c.room_for.ensures ∙ c.if-not-room_for.false in
    let w = roomy (kind_of a.shape.now) _ a.words.now o in
    check_body (kind_of a.shape.now) c.args.shape.now.shaped a.words.now o _ c.if-shape-n.false c.if-words-shape.false c.zeros.ensures (ap not c.if-not-zeros.false) c.body_is.ensures

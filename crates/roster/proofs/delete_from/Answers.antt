-- `roster::delete_from` meets its contract: one law for each answer.
-- Assumes nothing.
use mathlib.Core.Path.{sym, ◌∙◌}
use native.Mathlib.Omega.{arith}
use Rattle.decide.proofs.Answers.{gone_1, gone_4}
use Rattle.roster.proofs.Decided.{gone_done}
use Rattle.roster.proofs.Moves.{moved_down}
use Rattle.roster.proofs.delete_from.Goals as goal

-- the number is too high
pub returns-then-number-gt65534 : goal.returns-then-number-gt65534
returns-then-number-gt65534 c = (tt, λ k t h. (gone_1 _ t c.if-number-gt65534.true, tt))

-- it does not stand
pub returns-then-not-stands_behind : goal.returns-then-not-stands_behind
returns-then-not-stands_behind c = (tt, λ k t h. (gone_4 _ t c.if-number-gt65534.false (sym ((rw c.new-both.ensures at c.stands_behind.ensures).1 k t h ((rw c.new-both.ensures at c.before-place.ensures).1 k t h)) ∙ c.if-not-stands_behind.true), tt))

-- it does
pub returns : goal.returns
returns c =
    let l = (rw c.new-both.ensures at c.stands_behind.ensures).0 c.if-not-stands_behind.false in
    (omega (arith, l), λ k t h. gone_done k _ _ _ _ t h c.if-number-gt65534.false _ ((rw c.new-both.ensures at c.before-place.ensures).1 k t h) (sym ((rw c.new-both.ensures at c.stands_behind.ensures).1 k t h ((rw c.new-both.ensures at c.before-place.ensures).1 k t h)) ∙ c.if-not-stands_behind.false) _ (moved_down _ _ _ _ l c.requires c.copy_within.ensures.after))

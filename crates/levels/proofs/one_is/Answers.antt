-- `levels::one_is` meets its contract.
-- Assumes nothing.
use native.Mathlib.Omega.{arith}
use borrow.Author.Rules.{rules}
use Rattle.levels.proofs.Chain.{one_answers}
use Rattle.levels.proofs.one_is.Goals as goal

pub returns-then-words-a : goal.returns-then-words-a
returns-then-words-a c = λ o. omega (arith, o.room, c.if-words-a.true)

pub returns : goal.returns
returns c = let a = c.args in one_answers a.words.now a.a a.end c.ends_are.result c.ends_are.ensures (search rules)

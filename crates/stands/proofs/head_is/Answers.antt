-- `stands::head_is` meets its contract.
-- Assumes nothing.
use mathlib.Core.Path.{refl, ◌∙◌}
use native.Mathlib.Nat.{add-zero}
use borrow.Author.Tests.{ne_eqb}
use Rattle.stands.specs.Stands.{head_is}
use Rattle.stands.proofs.Answers.{more, fails}
use Rattle.stands.proofs.head_is.Goals as goal

pub returns-then-words-i : goal.returns-then-words-i
unfolding head_is
returns-then-words-i c = rw add-zero (more c.if-words-i.true refl)

pub returns-else-words-i : goal.returns-else-words-i
unfolding head_is
returns-else-words-i c = ne_eqb _ _ c.if-words-i.false ∙ rw add-zero (fails _ c.if-words-i.false)

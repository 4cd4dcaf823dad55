-- `compare::part_is` meets its contract.
-- Assumes nothing.
use mathlib.Core.Path.{sym, ◌∙◌}
use borrow.Author.Tests.{eqb-true, eq-eqb}
use Rattle.model.proofs.Tests.{never}
use Rattle.compare.proofs.Turns.{part_differs, part_no_past, part_no_low, part_rest}
use Rattle.compare.proofs.part_is.Goals as goal
use Rattle.compare.proofs.part_is.Goals.{then-words-tree, else-words-tree}

pub returns-in_default : goal.returns-in_default
returns-in_default c = part_differs _ _ _ c.compare_chain.ensures c.in_default.is

-- the links stand
pub returns-then-words-tree-2 : goal.returns-then-words-tree-2
returns-then-words-tree-2 c =
    elim c.if-words-tree.branch [
      | then-words-tree w ↦ part_rest _ _ _ c.compare_chain.ensures c.in-Some.is c.requires.0 w.if-words-tree.true (eqb-true _ _ (sym w.value-is ∙ c.if-words-tree-2.true)) _ c.free_from.ensures
      | else-words-tree w ↦ absurd (w.if-words-tree.false (eqb-true _ _ (sym w.value-is ∙ c.if-words-tree-2.true)))
    ]

-- one of them differs
pub returns-else-words-tree-2 : goal.returns-else-words-tree-2
returns-else-words-tree-2 c =
    c.if-words-tree-2.false
    ∙ elim c.if-words-tree.branch [
      | then-words-tree w ↦ part_no_low _ _ _ c.compare_chain.ensures c.in-Some.is (λ h. never (sym (eq-eqb _ _ h) ∙ sym w.value-is ∙ c.if-words-tree-2.false))
      | else-words-tree w ↦ part_no_past _ _ _ c.compare_chain.ensures c.in-Some.is w.if-words-tree.false
    ]

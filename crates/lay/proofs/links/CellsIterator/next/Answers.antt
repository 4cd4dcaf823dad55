-- `lay::links::Cells::next` meets its contract: it gives the first of the cells that are left. Assumes nothing.
use mathlib.Core.Path.{◌≡◌, ap}
use mathlib.Core.List.{[]}
use Prim.Native.Nat.{suc, ◌-◌}
use native.Mathlib.Omega.{arith}
use borrow.Author.Rules.{rules}
use lib.ListN.{length}
use Rattle.lay.specs.Chain.{cells_on}
use Rattle.lay.proofs.Turns.{cells_next, cells_out, cells_spent}
use Rattle.lay.proofs.links.CellsIterator.next.Goals.{then-self-eq0-via-then-self-eq0, then-self-eq0-via-else-self-eq0+then-self}
use Rattle.lay.proofs.links.CellsIterator.next.Goals as goal

-- no cell is left
pub returns-then-self-eq0-clause-steps : goal.returns-then-self-eq0-clause-steps
returns-then-self-eq0-clause-steps c =
    let s = c.args.self.now in
    let none : cells_on s.part.now s.c s.left s.next ≡ [] = elim c.then-self-eq0.branch [
      | then-self-eq0-via-then-self-eq0 w ↦ cells_spent _ _ _ _ w.if-self-eq0.true
      | then-self-eq0-via-else-self-eq0+then-self w ↦ cells_out _ _ _ _ w.if-self.true
    ] in
    (none, none)

-- one is, and it leads to the others
pub returns-clause-steps : goal.returns-clause-steps
returns-clause-steps c = rw c.word_of-self.ensures (cells_next _ _ _ (c.args.self.now.left - 1) _ (omega (arith, c.if-self-eq0.false)) c.if-self.false)

pub returns-clause-goes : goal.returns-clause-goes
returns-clause-goes c =
    let s = c.args.self.now in
    let fewer : length (cells_on s.part.now s.c s.left s.next) ≡ suc (length (cells_on s.part.now s.c (s.left - 1) c.word_of-self.result)) = ap length (returns-clause-steps c) in
    search rules

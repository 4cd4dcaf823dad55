-- `lay::chain_length` meets its contract: the cells are counted, and no more than c of them are passed. Assumes nothing.
use mathlib.Core.Logic.{inl}
use native.Mathlib.Omega.{arith}
use Rattle.std.proofs.lemmas.Iterator.Consumers.{count_from_yields_List, YieldsList-from_first}
use Rattle.lay.specs.Chain.{cells_on}
use Rattle.lay.proofs.Turns.{cells_most}
use Rattle.lay.proofs.chain_length.Goals as goal

pub count-requires-clause-fits : goal.count-requires-clause-fits
count-requires-clause-fits c =
    let s = c.chain_at.result in
    inl (omega (arith, cells_most s.part.now s.c s.left s.next, c.chain_at.ensures.3))

pub returns : goal.returns
returns c =
    let s = c.chain_at.result in
    let a = c.args in
    let e = c.chain_at.ensures in (
      count_from_yields_List _ _ c.count.ensures.ran (YieldsList-from_first (λ x. x) (λ s. cells_on s.part.now s.c s.left s.next) (cells_on a.part.now a.c a.c a.k) (rw (e.0, e.1, e.2, e.3))),
      omega (arith, c.count.ensures.bound, cells_most s.part.now s.c s.left s.next, e.3),
    )

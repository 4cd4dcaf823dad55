-- `levels::low_is` meets its contract.
-- Assumes nothing.
use mathlib.Core.Bool.{not}
use mathlib.Core.Path.{ap, ◌∙◌}
use native.Mathlib.Omega.{arith}
use Rattle.blocks.proofs.Levels.{few_blocks}
use Rattle.levels.proofs.Chain.{ends_beside, low_is, low_short, low_not}
use Rattle.levels.proofs.low_is.Goals as goal

pub past-requires : goal.past-requires
past-requires c =
    let h = c.at-chain.result in
    omega (arith, h.total, few_blocks h.ends, c.at-chain.ensures, c.ends_of-m.ensures.0)

-- the words are too short
pub returns-then-words-past : goal.returns-then-words-past
returns-then-words-past c =
    let h = c.at-chain in
    λ left nz v.
    low_short _ _ _ _ c.args.a h.result.ends (h.ensures.1 ∙ c.ends_of-m.ensures.1) h.result.lowest.first h.result.lowest.count h.result.size (rw h.ensures.0 at h.result.total) left nz v c.requires.0 (rw c.past.ensures at c.if-words-past.true)

-- an end is wrong
pub returns-then-not-ends_are : goal.returns-then-not-ends_are
returns-then-not-ends_are c =
    let h = c.at-chain in
    let count = h.ensures.1 ∙ c.ends_of-m.ensures.1 in
    λ left nz v.
    low_not _ _ _ _ c.args.a h.result.ends count h.result.lowest.first h.result.lowest.count h.result.size (rw h.ensures.0 at h.result.total) left nz v c.ends_are.result (ap not c.if-not-ends_are.true)
    (ends_beside _ _ _ _ c.ends_of-m.ensures.2 count c.ends_are.ensures)

pub returns : goal.returns
returns c =
    let h = c.at-chain in
    let count = h.ensures.1 ∙ c.ends_of-m.ensures.1 in (
      h.ensures.0,
      (low_is _ _ _ _ c.args.a h.result.ends count h.result.lowest.first h.result.lowest.count h.result.size (rw h.ensures.0 at h.result.total) c.ends_are.result (ap not c.if-not-ends_are.false) (ends_beside _ _ _ _ c.ends_of-m.ensures.2 count c.ends_are.ensures)
          (rw c.past.ensures at c.if-words-past.false)),
    )

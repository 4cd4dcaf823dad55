-- `cells::drop` leaves the part of a store with no tree. Assumes nothing.
use native.Mathlib.Omega.{arith}
use Rattle.cells.proofs.Part.{part_held, part_dropped}
use Rattle.cells.proofs.drop.Goals as goal

pub bounds-words-1 : goal.bounds-words-1
bounds-words-1 c = let r = c.requires in omega (arith, (part_held r).state.tot)

pub free_chain-requires : goal.free_chain-requires
free_chain-requires c = let r = c.requires in (r.some, record { a = _; n = _; q = _; t = _; deep = r.deep; held = part_held r })

pub bounds-words-1-2 : goal.bounds-words-1-2
bounds-words-1-2 c = let r = c.requires in omega (arith, c.free_chain.auto.words, (part_held r).state.tot)

pub returns : goal.returns
returns c =
    let r = c.requires in
    part_dropped r.t r.fits (c.free_chain.ensures _ _ _ r.t r.deep (part_held r))

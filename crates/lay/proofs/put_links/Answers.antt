-- `lay::put_links` meets its contract. The invariant: the places passed are written. Assumes nothing.
use native.Mathlib.Omega.{arith}
use Rattle.blocks.proofs.Writing.{linked_on, linked_done}
use Rattle.lay.proofs.put_links.Goals as goal

pub loop-j-preserved : goal.loop-j-preserved
loop-j-preserved c =
    let l = c.loop-j in
    let e = c.entry_above-entry.ensures in
    rw c.put_entry.ensures (linked_on _ l.words _ _ _ _ l.j _ _ l.invariant (omega arith) c.requires.0 c.requires.1 e.0 e.1)

pub returns : goal.returns
returns c = linked_done _ _ _ _ _ _ _ c.loop-j.invariant (omega arith) c.requires.0 c.requires.1

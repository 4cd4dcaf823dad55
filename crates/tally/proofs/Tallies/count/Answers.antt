-- `Tallies::count` meets its contract: the place that is found is one of the 513.
-- Assumes nothing.
use Rattle.std.proofs.Common.{rules}
use Rattle.tally.proofs.Places.{held_below, new_below}
use Rattle.tally.proofs.Tallies.count.Goals as goal

pub add-requires : goal.add-requires
add-requires c = held_below _ _ _ _ (search rules) c.place_of.ensures c.in-Held.is

pub begin-requires : goal.begin-requires
begin-requires c = new_below _ _ _ _ (search rules) c.place_of.ensures c.in-New.is

pub add-requires-in-New : goal.add-requires-in-New
add-requires-in-New c = new_below _ _ _ _ (search rules) c.place_of.ensures c.in-New.is

-- A refusal is never answered as done.
-- Assumes nothing.
use mathlib.Core.Path.{◌≡◌}
use Rattle.refusal.specs.declared.Refusal.{Refusal}
use Rattle.refusal.specs.declared.Refusal.TheVariants.{NumberTooHigh, WrongRange, NumberTaken, NotThere, TableFull, TooFewCells, Unreadable, NoRoom, Damaged, NoPrefix, ValueTooHigh, NoCapture, TallyFull, Cut, ListLength}
use Rattle.refusal.specs.Refusals.{number_of}

pub refuses : (r : Refusal) → number_of r ≡ 0 → ⊥
refuses NumberTooHigh e = cc
refuses WrongRange e = cc
refuses NumberTaken e = cc
refuses NotThere e = cc
refuses TableFull e = cc
refuses TooFewCells e = cc
refuses Unreadable e = cc
refuses NoRoom e = cc
refuses Damaged e = cc
refuses NoPrefix e = cc
refuses ValueTooHigh e = cc
refuses NoCapture e = cc
refuses TallyFull e = cc
refuses Cut e = cc
refuses ListLength e = cc

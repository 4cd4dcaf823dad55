-- The numbers of the refusals, and what is answered.
-- Assumes nothing: these are definitions.
use Rattle.std.specs.Prelude.{ℕ, Result, Ok, Err}
use Rattle.refusal.specs.declared.Refusal.{Refusal}
use Rattle.refusal.specs.declared.Refusal.TheVariants.{NumberTooHigh, WrongRange, NumberTaken, NotThere, TableFull, TooFewCells, Unreadable, NoRoom, Damaged, NoPrefix, ValueTooHigh, NoCapture, TallyFull, Cut, ListLength}

-- the table of refusals: document 01's, and behind 12 those of the requests after it
abbrev pub number_of : Refusal → ℕ
number_of NumberTooHigh = 1
number_of WrongRange = 2
number_of NumberTaken = 3
number_of NotThere = 4
number_of TableFull = 5
number_of TooFewCells = 6
number_of Unreadable = 7
number_of NoRoom = 8
number_of Damaged = 9
number_of NoPrefix = 10
number_of ValueTooHigh = 11
number_of NoCapture = 12
number_of TallyFull = 13
number_of Cut = 14
number_of ListLength = 15

-- "0 means done", and a refusal is answered by its number
abbrev pub answer_of : {A : Type 0} → Result A Refusal → ℕ
answer_of (Ok a) = 0
answer_of (Err r) = number_of r

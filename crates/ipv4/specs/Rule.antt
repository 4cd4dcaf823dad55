-- A rule as a caller has it: a struct with two arrays of ends.
-- Assumes nothing: these are definitions.
use Rattle.std.specs.Prelude.{List, ℕ, get_or}
use Rattle.model.specs.Lists.{up_to}
use Rattle.model.specs.Table.{Rule}
use Rattle.ipv4.specs.declared.Rule.{Rule as Given}

-- the six numbers of an array of ends
abbrev pub six : List ℕ → List ℕ
six a = up_to 6 (λ i. get_or a i 0)

-- "a rule holds five low ends and five high ends besides its number and action", and by P4 one more of each
abbrev pub given : Given → Rule
given r = record { number = r.number; action = r.action; lows = six r.low; highs = six r.high }

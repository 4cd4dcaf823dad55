-- The most blocks of small tables, by computation.
-- Assumes nothing.
use Rattle.std.specs.Prelude.{◌≡◌, refl, [], ◌∷◌, ℕ}
use Rattle.model.specs.Table.{Rule, Table}
use Rattle.model.specs.Ipv4.{large}
use Rattle.model.specs.Bench.{both}
use Rattle.cells.specs.Text.{width}
use Rattle.search.specs.Search.{most, first}
use Rattle.blocks.specs.Blocks.{pow8, least_from, depth}
use Rattle.deepest.specs.Deepest.{weigh, most_blocks, first_deepest}

-- the bench table: no field has more than 8 ends, so every record reads a block for each field, and the first of all records is the least
pub bench_blocks : most_blocks large both ≡ 6
unfolding weigh width most pow8 least_from depth
bench_blocks = refl

pub bench_record : first_deepest large both ≡ 0 ∷ 0 ∷ 0 ∷ 0 ∷ 0 ∷ 0 ∷ []
unfolding weigh width most first pow8 least_from depth
bench_record = refl

-- rules for the destination 10 and the protocol 6 that differ in one destination port: four of them give 9 ends there
abbrev port : ℕ → ℕ → Rule
port n p = record { number = n; action = 1; lows = 10 ∷ 0 ∷ 6 ∷ p ∷ 0 ∷ 0 ∷ []; highs = 10 ∷ 4294967295 ∷ 6 ∷ p ∷ 65535 ∷ 0 ∷ [] }

abbrev ports : Table
ports = record { action = 0; rules = port 1 100 ∷ port 2 200 ∷ port 3 300 ∷ port 4 400 ∷ [] }

-- so one block more is read for that destination and protocol, whatever the ports are
pub ports_blocks : most_blocks large ports ≡ 7
unfolding weigh width most pow8 least_from depth
ports_blocks = refl

pub ports_record : first_deepest large ports ≡ 10 ∷ 0 ∷ 6 ∷ 0 ∷ 0 ∷ 0 ∷ []
unfolding weigh width most first pow8 least_from depth
ports_record = refl

-- The searches of the bench table, by computation.
-- Assumes nothing.
use Rattle.std.specs.Prelude.{◌≡◌, refl, true, false, [], ◌∷◌}
use Rattle.model.specs.Table.{with_rule, Rule}
use Rattle.model.specs.Ipv4.{large}
use Rattle.model.specs.Bench.{both}
use Rattle.search.specs.Search.{most, first, dead_of, first_won, most_reads, first_worst}

-- a part of rule 20, with a greater number: rule 20 wins wherever it holds, so it is dead
abbrev rule30 : Rule
rule30 = record { number = 30; action = 3; lows = 167772160 ∷ 0 ∷ 0 ∷ 0 ∷ 0 ∷ 0 ∷ []; highs = 167772200 ∷ 4294967295 ∷ 255 ∷ 65535 ∷ 65535 ∷ 1 ∷ [] }

pub dead30 : dead_of large (with_rule rule30 both) 30 ≡ true
unfolding most
dead30 = refl

pub live20 : dead_of large both 20 ≡ false
unfolding most
live20 = refl

pub first10 : first_won large both 10 ≡ 167772160 ∷ 0 ∷ 17 ∷ 5000 ∷ 0 ∷ 0 ∷ []
unfolding most first
first10 = refl

pub first20 : first_won large both 20 ≡ 167772160 ∷ 0 ∷ 0 ∷ 0 ∷ 0 ∷ 0 ∷ []
unfolding most first
first20 = refl

pub first_default : first_won large both 65535 ≡ 0 ∷ 0 ∷ 0 ∷ 0 ∷ 0 ∷ 0 ∷ []
unfolding most first
first_default = refl

pub worst_reads : most_reads large both ≡ 11
unfolding most
worst_reads = refl

pub worst_record : first_worst large both ≡ 167772288 ∷ 0 ∷ 17 ∷ 5000 ∷ 0 ∷ 1 ∷ []
unfolding most first
worst_record = refl

-- What the C face takes and gives, in the terms of the calls' own definitions.
-- Assumes nothing: these are definitions.
use Rattle.std.specs.Prelude.{cond, List, ℕ}
use Rattle.model.specs.Table.{Rule}
use Rattle.model.specs.Ipv4.{kind_in}
use Rattle.ipv4.specs.Rule.{six}
use Rattle.layout.specs.Store.{passes}
use Rattle.reamstork.specs.declared.Reading.{Reading}

-- a rule as C hands it over: two numbers and two arrays of six ends
abbrev pub rule_of : ℕ → ℕ → List ℕ → List ℕ → Rule
rule_of number action low high = record { number = number; action = action; lows = six low; highs = six high }

-- the rule in what reading gives
abbrev pub rule_read : Reading → Rule
rule_read r = rule_of r.number r.action r.low r.high

-- the check says 0 or 9
abbrev pub check_says : List ℕ → ℕ
check_says ws = cond (passes (kind_in ws) ws) 0 9

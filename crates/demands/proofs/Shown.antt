-- What this crate shows: each page of specs/ that claims something, with its proof.
-- Assumes nothing.
use mathlib.Core.Bool.{Bool}
use Rattle.model.specs.Ipv4.{ipv4, ipv4_shaped}
use Rattle.demands.specs.Demand1.{Demand1}
use Rattle.demands.specs.Demand2.{Demand2}
use Rattle.demands.specs.Demand3.{Demand3}
use Rattle.demands.specs.Check.{Check}
use Rattle.demands.specs.Bench.{StarredCalls}
use Rattle.demands.specs.Tally.{Tallied}
use Rattle.demands.specs.Scan.{Scan}
use Rattle.demands.specs.Portless.{Portless}
use Rattle.demands.specs.Dead.{Dead}
use Rattle.demands.specs.Worst.{Worst}
use Rattle.demands.specs.Frozen.{Frozen}
use Rattle.demands.specs.Deepest.{Deepest}
use Rattle.demands.specs.Carry.{Carry}
use Rattle.demands.proofs.Demand1.{demand1}
use Rattle.demands.proofs.Demand2.{demand2}
use Rattle.demands.proofs.Demand3.{demand3}
use Rattle.demands.proofs.Check.{check}
use Rattle.demands.proofs.Bench.{bench}
use Rattle.demands.proofs.Tallied.{tallied}
use Rattle.demands.proofs.Scan.{scanned}
use Rattle.demands.proofs.Portless.{portless}
use Rattle.demands.proofs.Dead.{dead}
use Rattle.demands.proofs.Worst.{worst}
use Rattle.demands.proofs.Frozen.{frozen}
use Rattle.demands.proofs.Deepest.{deepest}
use Rattle.demands.proofs.Carry.{carry}

pub shown : Demand1 × Demand2 × Demand3 × ((b : Bool) → Check (ipv4 b)) × StarredCalls × Tallied × Scan × Portless × Dead × Worst × Frozen × Deepest × Carry
shown = (demand1, demand2, demand3, λ b. check (ipv4 b) (ipv4_shaped b), bench, tallied, scanned, portless, dead, worst, frozen, deepest, carry)

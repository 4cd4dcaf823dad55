-- The scan's steps, one for each record, come to what the scan is said to answer.
-- Assumes nothing.
use mathlib.Core.Path.{◌≡◌, refl, ap, ◌∙◌}
use mathlib.Core.Bool.{true, false}
use mathlib.Core.List.{List, [], ◌∷◌}
use Prim.Native.Nat.{ℕ}
use native.Mathlib.Omega.{arith}
use lib.Dec.{ltb}
use borrow.Author.Tests.{le-leb}
use Rattle.std.specs.Prelude.{Option, Some, None, Ok}
use Rattle.model.specs.Lists.{keep, least}
use Rattle.model.specs.Table.{Rule, number_of, packet_right}
use Rattle.model.specs.Ipv4.{large}
use Rattle.model.proofs.Tests.{by_test}
use Rattle.header.specs.declared.Packet.{Packet}
use Rattle.header.specs.Header.{values_in}
use Rattle.ipv4.specs.declared.Rule.{Rule as Given}
use Rattle.ipv4.specs.Rule.{given}
use Rattle.scan.specs.declared.Lead.{Lead}
use Rattle.scan.specs.Scan.{holds_packet, decider, rules_of, no_winner, scan_values, winner_of, stepped, through, at_end, decided}
use Rattle.scan.proofs.Least.{lower, one_more}

module _ (p : Packet) where
  -- what the scan would answer where a rule decides, and where it leads
  abbrev lead_of : Rule → Lead
  lead_of r = record { number = r.number; action = r.action }

  -- the records that hold the packet, as rules
  abbrev holders : List Given → List Rule
  holders rs = keep (holds_packet p) (rules_of rs)

  -- a record more: it does not hold the packet, or it does, where none leads and where a rule leads
  passes_by : (l : Option Lead) (x : Given) → holds_packet p (given x) ≡ false → stepped p l x ≡ l
  unfolding stepped
  passes_by l x h = simp h

  begins : (x : Given) → holds_packet p (given x) ≡ true → stepped p None x ≡ Some (lead_of (given x))
  unfolding stepped
  begins x h = simp h

  meets : (r : Rule) (x : Given) → holds_packet p (given x) ≡ true → stepped p (Some (lead_of r)) x ≡ Some (lead_of (lower r (given x)))
  unfolding stepped
  meets r x h = by_test (ltb x.number r.number) (λ t. simp (h, t)) (λ t. simp (h, t))

  leading : (rs : List Given) (r : Rule) → through p (Some (lead_of r)) rs ≡ Some (lead_of (least number_of r (r ∷ holders rs)))
  leading [] r = simp (le-leb r.number r.number (omega arith))
  leading (x ∷ rs) r = by_test (holds_packet p (given x))
      (λ h. rw (meets r x h, h) (leading rs (lower r (given x)) ∙ ap (λ m. Some (lead_of m)) (one_more r (given x) (holders rs))))
      (λ h. rw (passes_by (Some (lead_of r)) x h, h) (leading rs r))

  module _ (a : ℕ) where
    -- from the beginning: no rule leads until a record holds the packet
    from_none : (rs : List Given) → at_end a (through p None rs) ≡ lead_of (decider (rules_of rs) a p)
    from_none [] = refl
    from_none (x ∷ rs) = by_test (holds_packet p (given x))
        (λ h. rw (begins x h, h) (ap (at_end a) (leading rs (given x))))
        (λ h. rw (passes_by None x h, h) (from_none rs))

    pub scan_right : (rs : List Given) → packet_right large (values_in p) ≡ true → winner_of (Ok (at_end a (through p None rs))) ≡ scan_values rs a p.destination p.source p.protocol p.destination_port p.source_port p.portless
    unfolding scan_values
    scan_right rs h = rw (h, from_none rs)

    pub scan_refused : (rs : List Given) → packet_right large (values_in p) ≡ false → no_winner 11 ≡ scan_values rs a p.destination p.source p.protocol p.destination_port p.source_port p.portless
    unfolding scan_values
    scan_refused rs h = rw h

    -- so the scan's answer is what is decided at the end
    pub scan_is : (rs : List Given) → winner_of (decided a p (through p None rs)) ≡ scan_values rs a p.destination p.source p.protocol p.destination_port p.source_port p.portless
    scan_is rs = by_test (packet_right large (values_in p)) (λ h. rw h (scan_right rs h)) (λ h. rw h (scan_refused rs h))

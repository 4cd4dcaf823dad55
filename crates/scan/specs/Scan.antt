-- "A lookup that runs through a lent list of rule records": what it answers, and the steps by which it goes. A record may hold any numbers.
-- Assumes nothing: these are definitions.
use Rattle.std.specs.Prelude.{Bool, true, cond, ◌&&◌, List, [], ◌∷◌, map, fold, ℕ, ltb, Option, Some, None, Result, Ok, Err}
use Rattle.std.specs.Option.{unwrap_or}
use Rattle.model.specs.Lists.{keep, least}
use Rattle.model.specs.Rules.{holds}
use Rattle.model.specs.Table.{Rule, number_of, fields, default_rule, packet_right}
use Rattle.model.specs.Ipv4.{large}
use Rattle.header.specs.declared.Packet.{Packet}
use Rattle.refusal.specs.declared.Refusal.{Refusal}
use Rattle.refusal.specs.declared.Refusal.TheVariants.{ValueTooHigh}
use Rattle.refusal.specs.Refusals.{number_of as refusal_number}
use Rattle.header.specs.Header.{values_in}
use Rattle.ipv4.specs.declared.Rule.{Rule as Given}
use Rattle.ipv4.specs.Rule.{given}
use Rattle.scan.specs.declared.Winner.{Winner}
use Rattle.scan.specs.declared.Lead.{Lead}

-- the rule's ranges all hold the packet's values. "A rule whose low end is above its high end holds nothing": no value is at or above the one and at or below the other.
abbrev pub holds_packet : Packet → Rule → Bool
holds_packet p r = holds (fields large) (values_in p) r

-- of some holders the one "of least number; with equal numbers the earlier wins"; d where there is none. (`least` takes a rule that stands behind the list: the first once more, which then changes nothing.)
abbrev pub first_least : Rule → List Rule → Rule
first_least d [] = d
first_least d (r ∷ rs) = least number_of r (r ∷ rs)

-- the rule that decides for a packet: "with none it gives rule 65,535 and the default action handed to it"
abbrev pub decider : List Rule → ℕ → Packet → Rule
decider rs a p = first_least (default_rule large a) (keep (holds_packet p) rs)

-- what is answered where a rule decides: "It reports no reads"; and "A refusal gives 0 in every other number of its answer"
abbrev pub named : Rule → Winner
named r = record { answer = 0; rule = r.number; action = r.action }

abbrev pub no_winner : ℕ → Winner
no_winner a = record { answer = a; rule = 0; action = 0 }

-- the records of a list as rules
abbrev pub rules_of : List Given → List Rule
rules_of records = map given records

-- THE SCAN: "Refusals: 11 as before", and nothing else refuses
unfoldable pub scan_values : List Given → ℕ → ℕ → ℕ → ℕ → ℕ → ℕ → ℕ → Winner
scan_values records action destination source protocol destination_port_of source_port_of portless =
    cond (packet_right large (destination ∷ source ∷ protocol ∷ destination_port_of ∷ source_port_of ∷ portless ∷ []))
    (named (decider (rules_of records) action (record { destination = destination; source = source; protocol = protocol; destination_port = destination_port_of; source_port = source_port_of; portless = portless })))
    (no_winner 11)

-- what is answered where a rule leads at the end, and where the scan is refused
abbrev pub winner_of : Result Lead Refusal → Winner
winner_of (Ok l) = record { answer = 0; rule = l.number; action = l.action }
winner_of (Err r) = no_winner (refusal_number r)

-- ITS STEPS. Before the first record no rule leads. A number goes before the leader's: any does where no rule leads, and an equal one does not
abbrev pub precedes_lead : ℕ → Option Lead → Bool
precedes_lead n None = true
precedes_lead n (Some l) = ltb n l.number

-- a record more: a holder whose number goes before the leader's takes the lead
unfoldable pub stepped : Packet → Option Lead → Given → Option Lead
stepped p l r =
    cond (holds_packet p (given r) && precedes_lead r.number l)
    (Some (record { number = r.number; action = r.action }))
    l

-- all the records, from the first
abbrev pub through : Packet → Option Lead → List Given → Option Lead
through p = fold (stepped p)

-- who leads once all were looked at: where no rule does, the default, whose number is 65,535
abbrev pub at_end : ℕ → Option Lead → Lead
at_end a l = unwrap_or l (record { number = 65535; action = a })

-- and what is decided then: the one who leads, unless a value is above its top
abbrev pub decided : ℕ → Packet → Option Lead → Result Lead Refusal
decided a p l = cond (packet_right large (values_in p)) (Ok (at_end a l)) (Err ValueTooHigh)

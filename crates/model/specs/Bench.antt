-- The starred cases of document 01's bench table, as one list, over the definitions.
-- Assumes nothing.
use Rattle.std.specs.Prelude.{◌≡◌, refl, true, List, [], ◌∷◌, map, ℕ}
use Rattle.std.proofs.Math.Option.{some}
use Rattle.model.specs.Rules.{found, reads, values}
use Rattle.model.specs.Table.{Rule, Table, start_action, fields, tree_of, winner_of, reads_of, cells_of, within, with_rule, without, insert_answer}
use Rattle.model.specs.Ipv4.{large}

-- "Rule 10: destination 10.0.0.0 to 10.0.0.255, any source, protocol 17, destination port 5000 to 5009, any source port, action 2", and by P4 "Bench rule 10 asks 0 to 0"
abbrev pub rule10 : Rule
rule10 = record { number = 10; action = 2; lows = 167772160 ∷ 0 ∷ 17 ∷ 5000 ∷ 0 ∷ 0 ∷ []; highs = 167772415 ∷ 4294967295 ∷ 17 ∷ 5009 ∷ 65535 ∷ 0 ∷ [] }

-- "Rule 20: destination 10.0.0.0 to 10.0.0.127, all else full, action 3", and "rule 20 asks 0 to 1"
abbrev pub rule20 : Rule
rule20 = record { number = 20; action = 3; lows = 167772160 ∷ 0 ∷ 0 ∷ 0 ∷ 0 ∷ 0 ∷ []; highs = 167772287 ∷ 4294967295 ∷ 255 ∷ 65535 ∷ 65535 ∷ 1 ∷ [] }

-- "Default action 1", which a start sets that names none; by P7 it is 0
abbrev pub fresh : Table
fresh = record { action = start_action; rules = [] }

abbrev pub both : Table
both = with_rule rule20 (with_rule rule10 fresh)

-- "Source 192.168.1.9, source port 40000 throughout", and all are packets with ports: the packet of a destination, a protocol and a destination port
abbrev pub packet : ℕ → ℕ → ℕ → List ℕ
packet destination protocol port = destination ∷ 3232235785 ∷ protocol ∷ port ∷ 40000 ∷ 0 ∷ []

-- a row of the bench table: the packet, and the rule, the action and the reads that it gets
pub record Row : Type 0 where
  pub asked : List ℕ
  pub rule : ℕ
  pub action : ℕ
  pub reads : ℕ

abbrev pub rows : List Row
rows =
    record { asked = packet 167772165 17 5004; rule = 10; action = 2; reads = 9 }
    ∷ record { asked = packet 167772165 6 80; rule = 20; action = 3; reads = 7 }
    ∷ record { asked = packet 167772165 17 5010; rule = 20; action = 3; reads = 10 }
    ∷ record { asked = packet 167772360 6 80; rule = 65535; action = 0; reads = 8 }
    ∷ record { asked = packet 167772360 17 5010; rule = 65535; action = 0; reads = 11 }
    ∷ record { asked = packet 167772416 6 80; rule = 65535; action = 0; reads = 9 }
    ∷ record { asked = packet 167772159 6 80; rule = 65535; action = 0; reads = 6 }
    ∷ []

-- the row that the definitions give for a packet, with no tree
abbrev pub decided : List ℕ → Row
decided p = record { asked = p; rule = (winner_of large both p).number; action = (winner_of large both p).action; reads = reads_of large both p }

-- the starred cases of document 01, in its order
pub record Starred : Type 0 where
  -- the seven lookups, with rule, action and reads: "All reads in the cases rise by one", and by P7 "the default's rows show action 0"
  pub lookups : map (λ r. decided r.asked) rows ≡ rows
  -- a walk of the tree finds the same, with as many reads
  pub walks : map (λ r. found (tree_of large both) (values (fields large) r.asked)) rows ≡ map (λ r. some (winner_of large both r.asked)) rows
  pub walk_reads : map (λ r. reads (tree_of large both) (values (fields large) r.asked)) rows ≡ map (λ r. r.reads) rows
  -- cells: rule 20 alone, rule 10 alone, both in either order, and after rule 20 goes again
  pub cells20 : cells_of large (with_rule rule20 fresh) ≡ 18
  pub cells10 : cells_of large (with_rule rule10 fresh) ≡ 33
  pub cells_both : cells_of large both ≡ 54
  pub either_order : with_rule rule10 (with_rule rule20 fresh) ≡ both
  pub again : without 20 both ≡ with_rule rule10 fresh
  -- with c = 53 the second insert gets 6, with 54 it is taken, in either order
  pub full_53 : insert_answer large 53 (with_rule rule10 fresh) rule20 ≡ 6
  pub taken_54 : insert_answer large 54 (with_rule rule10 fresh) rule20 ≡ 0
  pub full_53' : insert_answer large 53 (with_rule rule20 fresh) rule10 ≡ 6
  pub taken_54' : insert_answer large 54 (with_rule rule20 fresh) rule10 ≡ 0
  -- "the default alone takes 6 cells, the bench table 54", and the table is within the limits
  pub cells_fresh : cells_of large fresh ≡ 6
  pub both_within : within large both ≡ true

pub starred : Starred
starred = record {
  lookups = refl;
  walks = refl;
  walk_reads = refl;
  cells20 = refl;
  cells10 = refl;
  cells_both = refl;
  either_order = refl;
  again = refl;
  full_53 = refl;
  taken_54 = refl;
  full_53' = refl;
  taken_54' = refl;
  cells_fresh = refl;
  both_within = refl;
}

-- What the program `keep` is asked for, and what it keeps.
-- Assumes nothing: these are definitions.
use Rattle.std.specs.Prelude.{Bool, cond, ◌&&◌, Option, Some, None, List, [], ◌∷◌, ℕ, ◌+◌, ◌-◌, ◌*◌, ltb, eqb, length}
use Rattle.octets.specs.declared.Order.{Order}
use Rattle.octets.specs.Octets.{word}
use Rattle.lookup.specs.declared.Found.{Found}
use Rattle.lookup.specs.Walk.{lookup_packet}
use Rattle.writing.specs.Writing.{record_bytes}
use Rattle.writing.specs.Packets.{Packet}

-- ---- "its one argument is an action"

-- the number that these bytes spell behind the digits of v: nothing where one of them is no digit, 48 to 57, or the number has more than 32 bits
unfoldable pub spelled : ℕ → List ℕ → Option ℕ
spelled v [] = Some v
spelled v (b ∷ bs) = cond (ltb b 48) None (cond (ltb 57 b) None (cond (ltb 4294967295 (v * 10 + (b - 48))) None (spelled (v * 10 + (b - 48)) bs)))

-- one digit at least
abbrev pub asked_in : List ℕ → Option ℕ
asked_in t = cond (eqb (length t) 0) None (spelled 0 t)

-- ---- "the records whose lookup gave that action"; "refused packets are left out"

abbrev pub gives : ℕ → Found → Bool
gives a f = eqb f.answer 0 && eqb f.action a

-- what is written for a record, by the bytes of its header and its data: "each record's four header numbers and bytes as read", or nothing
abbrev pub kept_bytes : List ℕ → ℕ → Order → List ℕ → List ℕ → List ℕ
kept_bytes ws a o head row = cond (gives a (lookup_packet ws row)) (record_bytes (word o head 0) (word o head 4) (word o head 12) row) []

-- the packets among these
unfoldable pub chosen : List ℕ → ℕ → List Packet → List Packet
chosen ws a [] = []
chosen ws a (p ∷ ps) = cond (gives a (lookup_packet ws p.row)) (p ∷ chosen ws a ps) (chosen ws a ps)

-- The walk of a store's cells over any words, and what a lookup answers. Word 0 is c, word 1 the number of rules, word 2 names the kind; the rest stands where the kind has it.
-- Assumes nothing: these are definitions.
use Rattle.std.specs.Prelude.{Bool, cond, ◌&&◌, List, [], ◌∷◌, ℕ, zero, suc, ◌+◌, ◌*◌, ◌%◌, ltb, leb, eqb, get_or, Option, Some, None, Result, Ok, Err}
use Rattle.model.specs.Table.{Kind, packet_right}
use Rattle.model.specs.Ipv4.{kind_in}
use Rattle.refusal.specs.declared.Refusal.{Refusal}
use Rattle.refusal.specs.Refusals.{number_of}
use Rattle.header.specs.declared.Packet.{Packet}
use Rattle.header.specs.Header.{header_of, values_in}
use Rattle.cells.specs.Text.{cell_word}
use Rattle.layout.specs.Store.{cells_in, part_of, room_for}
use Rattle.lookup.specs.declared.Found.{Found}
use Rattle.lookup.specs.declared.Walked.{Walked}

-- a walk that is led to a place, where so many cells were read; one that is lost is `None`
abbrev pub led_to : ℕ → ℕ → Option Walked
led_to p r = Some (record { place = p; reads = r })

-- One field with the value v, at cell k, where r cells of the field were read and n more may be. The cell is read; an end below the value leads to the next cell, the first other one leads down. The walk is lost "at the first link outside the cells", "at a chain that runs out", since its last cell leads to c, and "after c cells of one field without an end at or above the value".
unfoldable pub seek_of : List ℕ → ℕ → ℕ → ℕ → ℕ → ℕ → Option Walked
seek_of part c v zero k r = None
seek_of part c v (suc n) k r =
    cond (ltb k c)
    (cond (ltb (cell_word part k 0) v) (seek_of part c v n (cell_word part k 1) (r + 1)) (led_to (cell_word part k 2) (r + 1)))
    None

-- a walk goes on from where it came, unless it is lost
abbrev pub on_from : (ℕ → ℕ → Option Walked) → Option Walked → Option Walked
on_from f (Some w) = f w.place w.reads
on_from f None = None

-- what the walk of one field comes to, from a place and with a value
abbrev pub Field : Type 0
Field = ℕ → ℕ → Option Walked

-- The fields whose values are left, from place k on, where r reads were made before; f says what the walk of one field comes to. Where no field is left, k is the word of the rows at which a rule's row is to begin.
unfoldable pub through : Field → List ℕ → ℕ → ℕ → Option Walked
through f [] k r = led_to k r
through f (v ∷ vs) k r = on_from (λ d n. through f vs d (r + n)) (f k v)

-- the same over cells, "in each at most c" of them
abbrev pub through_of : List ℕ → ℕ → List ℕ → ℕ → ℕ → Option Walked
through_of part c = through (λ k v. seek_of part c v c k 0)

-- the walk of a part for the values, one for each field: where it comes to, and "the number of cells that the walk [..] reads"
unfoldable pub walk_of : List ℕ → ℕ → List ℕ → Option Walked
walk_of part c vs = through_of part c vs (get_or part 1 0) 0

-- "A refusal gives 0 in every other number of its answer"
abbrev pub refused : ℕ → Found
refused a = record { answer = a; rule = 0; action = 0; reads = 0 }

-- the part of the words with the cells, as many as the words name
abbrev pub part_in : Kind → List ℕ → List ℕ
part_in k words = part_of k (cells_in words) words

-- the words name this kind and a c within its limits, and are enough for it
abbrev pub enough : Kind → List ℕ → Bool
enough k words = eqb (get_or words 2 0) k.mark && room_for k (cells_in words) words

-- one of the kind's rows, and of those one of the table's rules or the default, begins at word p of the rows
abbrev pub begins : Kind → ℕ → ℕ → Bool
begins k n p = leb p (k.width * k.most) && (leb p (k.width * n) && eqb (p % k.width) 0)

-- the rule of the row that the walk came to; 9 where no rule's row begins there
abbrev pub found_in : Kind → List ℕ → Option Walked → Found
found_in k words None = refused 9
found_in k words (Some w) =
    cond (begins k (get_or words 1 0) w.place)
    (record { answer = 0; rule = get_or words (k.head + w.place) 0; action = get_or words (k.head + w.place + 1) 0; reads = w.reads })
    (refused 9)

-- THE LOOKUP of some values, one for each field, in a store of a kind: "9 at once where the words name no c within its limits or are too few for it", or name another kind; then what the walk says
unfoldable pub lookup_in : Kind → List ℕ → List ℕ → Found
lookup_in k words vs = cond (enough k words) (found_in k words (walk_of (part_in k words) (cells_in words) vs)) (refused 9)

-- THE LOOKUP BY VALUES, one for each field: "For lookup: 7 or 11, then 9"; 11, "a value above its top"
unfoldable pub lookup_values : Kind → List ℕ → List ℕ → Found
lookup_values k words vs = cond (packet_right k vs) (lookup_in k words vs) (refused 11)

-- THE LOOKUP BY AN IPV4 PACKET, by what its header gives: "Where the header gives no values, no lookup is begun", and the answer is the number of the header's refusal, 7 or 14; else the lookup by the header's values
abbrev pub lookup_header : List ℕ → Result Packet Refusal → Found
lookup_header words (Ok p) = lookup_values (kind_in words) words (values_in p)
lookup_header words (Err r) = refused (number_of r)

unfoldable pub lookup_packet : List ℕ → List ℕ → Found
lookup_packet words packet = lookup_header words (header_of packet)

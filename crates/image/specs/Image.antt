-- What a lookup over an image answers, whatever its words hold. Word 1 is the number of rules and word 2 names the kind; the rules' rows stand where the kind has them, and the blocks behind its front.
-- Assumes nothing: these are definitions.
use Rattle.std.specs.Prelude.{Bool, cond, ◌&&◌, List, ℕ, leb, eqb, length, get_or, drop, Result, Ok, Err}
use Rattle.model.specs.Table.{Kind, front, packet_right}
use Rattle.model.specs.Ipv4.{kind_in}
use Rattle.refusal.specs.declared.Refusal.{Refusal}
use Rattle.refusal.specs.Refusals.{number_of}
use Rattle.header.specs.declared.Packet.{Packet}
use Rattle.header.specs.Header.{header_of, values_in}
use Rattle.lookup.specs.declared.Found.{Found}
use Rattle.lookup.specs.Walk.{refused, found_in}
use Rattle.tally.specs.declared.Tallies.{Tallies}
use Rattle.tally.specs.Tally.{found_tally, found_tallies}
use Rattle.image.specs.Walk.{walk_blocks}

-- the words name this kind, and are no "fewer words than the front part"
abbrev pub front_there : Kind → List ℕ → Bool
front_there k image = eqb (get_or image 2 0) k.mark && leb (front k) (length image)

-- THE LOOKUP of some values, one for each field, over an image of a kind: "9 at fewer words than the front part", or where they name another kind; then what the walk of the blocks says, and 9 where it comes to no place of "its rules"
unfoldable pub image_in : Kind → List ℕ → List ℕ → Found
image_in k image vs = cond (front_there k image) (found_in k image (walk_blocks (drop (front k) image) vs)) (refused 9)

-- THE LOOKUP BY VALUES, one for each field: "a lookup over the image gives 7, 14 or 11 as before, then 9"; 11, "a value above its top"
unfoldable pub image_lookup : Kind → List ℕ → List ℕ → Found
image_lookup k image vs = cond (packet_right k vs) (image_in k image vs) (refused 11)

-- THE LOOKUP BY AN IPV4 PACKET, by what its header gives: 7 or 14 where the header gives no values, "as before"; else the lookup by the header's values
abbrev pub image_header : List ℕ → Result Packet Refusal → Found
image_header image (Ok p) = image_lookup (kind_in image) image (values_in p)
image_header image (Err r) = refused (number_of r)

unfoldable pub image_packet : List ℕ → List ℕ → Found
image_packet image packet = image_header image (header_of packet)

-- THE LOOKUP BY A PACKET THAT COUNTS, over an image: what it answers, and the tally record that it leaves
unfoldable pub image_tally : List ℕ → List ℕ → Tallies → Found
image_tally image packet t = found_tally (image_packet image packet) t

unfoldable pub image_tallies : List ℕ → List ℕ → Tallies → Tallies
image_tallies image packet t = found_tallies (image_packet image packet) packet t

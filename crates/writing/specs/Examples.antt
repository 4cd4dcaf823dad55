-- The bytes of a file header and of a small record, what refused calls say, and a small file written by calls and read back.
-- Assumes nothing.
use Rattle.std.specs.Prelude.{◌≡◌, refl, [], ◌∷◌, replicate}
use Rattle.writing.specs.Writing.{file_header, record_bytes, begin_says, begin_leaves, add_says, written}
use Rattle.writing.specs.Packets.{Packet}
use Rattle.writing.specs.Back.{begun, filled, accepted}

header : file_header ≡ 0xD4 ∷ 0xC3 ∷ 0xB2 ∷ 0xA1 ∷ 2 ∷ 0 ∷ 4 ∷ 0 ∷ 0 ∷ 0 ∷ 0 ∷ 0 ∷ 0 ∷ 0 ∷ 0 ∷ 0 ∷ 0 ∷ 0x40 ∷ 0 ∷ 0 ∷ 101 ∷ 0 ∷ 0 ∷ 0 ∷ []
header = refl

-- three captured bytes out of 65,545, at 16,909,060 seconds and 8 parts
small : record_bytes 0x01020304 8 0x10009 (69 ∷ 70 ∷ 71 ∷ []) ≡ 4 ∷ 3 ∷ 2 ∷ 1 ∷ 8 ∷ 0 ∷ 0 ∷ 0 ∷ 3 ∷ 0 ∷ 0 ∷ 0 ∷ 9 ∷ 0 ∷ 1 ∷ 0 ∷ 69 ∷ 70 ∷ 71 ∷ []
small = refl

-- one byte too few for a header, and for a record
no_room : begin_says (replicate 23 7) ≡ written 8 0
no_room = refl

no_room_left : begin_leaves (replicate 23 7) ≡ replicate 23 7
no_room_left = refl

no_room_for_it : add_says (replicate 18 7) (69 ∷ 70 ∷ 71 ∷ []) ≡ written 8 0
no_room_for_it = refl

-- an output of 44 bytes: after the header 20 are left, so a record of three bytes is written, then one of one byte is refused
three : Packet
three = record { seconds = 7; fraction = 8; original = 9; row = 69 ∷ 70 ∷ 71 ∷ [] }

one : Packet
one = record { seconds = 7; fraction = 8; original = 9; row = 69 ∷ [] }

first_only : accepted (begun (replicate 44 7)) (three ∷ one ∷ []) ≡ three ∷ []
unfolding accepted three one
first_only = refl

used : (filled (begun (replicate 44 7)) (three ∷ one ∷ [])).used ≡ 43
unfolding filled three one
used = refl

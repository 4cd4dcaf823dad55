-- Small captures, and what they are.
-- Assumes nothing.
use Rattle.std.specs.Prelude.{ℕ, ◌≡◌, refl, None, List, [], ◌∷◌, ◌++◌, take, set}
use Rattle.capture.specs.Pcap.{by_magic, accepted, opened, records_in, records, read, no_capture, reading}

-- a file header, most significant byte first, and the same in reverse
big : List ℕ
big = 0xA1 ∷ 0xB2 ∷ 0xC3 ∷ 0xD4 ∷ 0 ∷ 2 ∷ 0 ∷ 4 ∷ 0 ∷ 0 ∷ 0 ∷ 0 ∷ 0 ∷ 0 ∷ 0 ∷ 0 ∷ 0 ∷ 0 ∷ 0x40 ∷ 0 ∷ 0 ∷ 0 ∷ 0 ∷ 101 ∷ []

little : List ℕ
little = 0xD4 ∷ 0xC3 ∷ 0xB2 ∷ 0xA1 ∷ 2 ∷ 0 ∷ 4 ∷ 0 ∷ 0 ∷ 0 ∷ 0 ∷ 0 ∷ 0 ∷ 0 ∷ 0 ∷ 0 ∷ 0 ∷ 0x40 ∷ 0 ∷ 0 ∷ 101 ∷ 0 ∷ 0 ∷ 0 ∷ []

-- a record of three captured bytes out of nine, in both orders
three : List ℕ
three = 0 ∷ 0 ∷ 0 ∷ 7 ∷ 0 ∷ 0 ∷ 0 ∷ 8 ∷ 0 ∷ 0 ∷ 0 ∷ 3 ∷ 0 ∷ 0 ∷ 0 ∷ 9 ∷ 69 ∷ 70 ∷ 71 ∷ []

little_three : List ℕ
little_three = 7 ∷ 0 ∷ 0 ∷ 0 ∷ 8 ∷ 0 ∷ 0 ∷ 0 ∷ 3 ∷ 0 ∷ 0 ∷ 0 ∷ 9 ∷ 0 ∷ 0 ∷ 0 ∷ 69 ∷ 70 ∷ 71 ∷ []

-- a record header with a captured length of 16,385, and one of 16,384
too_long : List ℕ
too_long = 0 ∷ 0 ∷ 0 ∷ 7 ∷ 0 ∷ 0 ∷ 0 ∷ 8 ∷ 0 ∷ 0 ∷ 0x40 ∷ 1 ∷ 0 ∷ 0 ∷ 0x40 ∷ 1 ∷ []

longest : List ℕ
longest = 0 ∷ 0 ∷ 0 ∷ 7 ∷ 0 ∷ 0 ∷ 0 ∷ 8 ∷ 0 ∷ 0 ∷ 0x40 ∷ 0 ∷ 0 ∷ 0 ∷ 0x40 ∷ 0 ∷ []

row : List ℕ
row = 69 ∷ 70 ∷ 71 ∷ []

in_big : reading (big ++ three ++ three) ≡ read (record { rows = row ∷ row ∷ []; ending = 0 })
unfolding big three row by_magic accepted opened records_in records reading
in_big = refl

in_little : reading (little ++ little_three) ≡ read (record { rows = row ∷ []; ending = 0 })
unfolding little little_three row by_magic accepted opened records_in records reading
in_little = refl

-- no records at all
empty : reading big ≡ read (record { rows = []; ending = 0 })
unfolding big by_magic accepted opened records_in records reading
empty = refl

-- a second record cut short in its data, and in its header
cut : reading (big ++ three ++ take 18 three) ≡ read (record { rows = row ∷ []; ending = 1 })
unfolding big three row by_magic accepted opened records_in records reading
cut = refl

cut_header : reading (big ++ three ++ take 15 three) ≡ read (record { rows = row ∷ []; ending = 1 })
unfolding big three row by_magic accepted opened records_in records reading
cut_header = refl

-- a captured length above 16,384 ends the list with 2 whatever stands behind it; one of 16,384 with no data is cut short
above : reading (big ++ three ++ too_long ++ three) ≡ read (record { rows = row ∷ []; ending = 2 })
unfolding big three too_long row by_magic accepted opened records_in records reading
above = refl

not_above : reading (big ++ longest) ≡ read (record { rows = []; ending = 1 })
unfolding big longest by_magic accepted opened records_in records reading
not_above = refl

-- the same record in the other order's capture has a captured length above 16,384
other_order : reading (big ++ little_three) ≡ read (record { rows = []; ending = 2 })
unfolding big little_three by_magic accepted opened records_in records reading
other_order = refl

-- refused: version 2.3 and 3.4; a bit set above the link type 101, in either half; 23 bytes; the magic bytes of nanoseconds
minor : opened (set big 7 3) ≡ None
unfolding big by_magic accepted opened
minor = refl

major : opened (set big 5 3) ≡ None
unfolding big by_magic accepted opened
major = refl

high_half : opened (set big 20 0x80) ≡ None
unfolding big by_magic accepted opened
high_half = refl

low_half : opened (set little 21 1) ≡ None
unfolding little by_magic accepted opened
low_half = refl

short : opened (take 23 big) ≡ None
unfolding big by_magic accepted opened
short = refl

nanoseconds : opened (0xA1 ∷ 0xB2 ∷ 0x3C ∷ 0x4D ∷ 0 ∷ 2 ∷ 0 ∷ 4 ∷ 0 ∷ 0 ∷ 0 ∷ 0 ∷ 0 ∷ 0 ∷ 0 ∷ 0 ∷ 0 ∷ 0 ∷ 0x40 ∷ 0 ∷ 0 ∷ 0 ∷ 0 ∷ 101 ∷ []) ≡ None
unfolding by_magic accepted opened
nanoseconds = refl

refused_12 : reading (take 23 big) ≡ no_capture 12
unfolding big by_magic accepted opened reading
refused_12 = refl

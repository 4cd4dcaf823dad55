-- The words for reading back what is written: the file of a header and any records, and what a begin and any adds leave, each behind the last in one output. proofs/Back.antt shows that the file holds exactly those packets, in order, and ends at an edge, and that it is what these calls leave.
-- Assumes nothing.
use Rattle.std.specs.Prelude.{ℕ, ◌+◌, ◌≤◌, ◌<◌, ◌≡◌, cond, List, [], ◌∷◌, ◌++◌, map, eqb, length, take, drop}
use Rattle.capture.specs.Pcap.{read, reading}
use Rattle.writing.specs.Writing.{file_header, record_bytes, begin_says, begin_leaves, add_answer, add_says, add_leaves}
use Rattle.writing.specs.Packets.{Packet, holds, holding}

-- ---- the bytes of a file

-- the bytes of a packet's record, and of these records one behind the other
abbrev pub packet_bytes : Packet → List ℕ
packet_bytes p = record_bytes p.seconds p.fraction p.original p.row

unfoldable pub all_bytes : List Packet → List ℕ
all_bytes [] = []
all_bytes (p ∷ ps) = packet_bytes p ++ all_bytes ps

-- the whole file
abbrev pub file_bytes : List Packet → List ℕ
file_bytes ps = file_header ++ all_bytes ps

-- the numbers of a packet have 32 bits
pub record Numbers (p : Packet) : Type 0 where
  pub seconds : p.seconds < 4294967296
  pub fraction : p.fraction < 4294967296
  pub original : p.original < 4294967296

-- and so have those of each of these packets
pub data AllNumbers : List Packet → Type 0 where
  nil : AllNumbers []
  cons : {p : Packet} {ps : List Packet} → Numbers p → AllNumbers ps → AllNumbers (p ∷ ps)

-- each of these packets has at most 16,384 bytes
pub data AllShort : List Packet → Type 0 where
  nil : AllShort []
  cons : {p : Packet} {ps : List Packet} → length p.row ≤ 16384 → AllShort ps → AllShort (p ∷ ps)

-- ---- the calls that write it

-- a lent output, and how many of its bytes are written
pub record Output : Type 0 where
  pub lent : List ℕ
  pub used : ℕ

-- the bytes behind those written: what the next call is lent
abbrev pub rest : Output → List ℕ
rest w = drop w.used w.lent

-- the output after a begin
abbrev pub begun : List ℕ → Output
begun out = record { lent = begin_leaves out; used = (begin_says out).bytes }

-- after an add behind the bytes written
abbrev pub added : Output → Packet → Output
added w p = record { lent = take w.used w.lent ++ add_leaves (rest w) p.seconds p.fraction p.original p.row; used = w.used + (add_says (rest w) p.row).bytes }

-- after these adds, one behind the other
unfoldable pub filled : Output → List Packet → Output
filled w [] = w
filled w (p ∷ ps) = filled (added w p) ps

-- the packets among them whose add was not refused
unfoldable pub accepted : Output → List Packet → List Packet
accepted w [] = []
accepted w (p ∷ ps) = cond (eqb (add_answer (rest w) p.row) 0) (p ∷ accepted (added w p) ps) (accepted (added w p) ps)

-- what is known of an output in which a file was begun and records were added
pub record Kept (out : List ℕ) (ps : List Packet) : Type 0 where
  -- the bytes written are a capture of exactly the packets whose add was not refused, in order, ended at an edge
  pub back : holding (take (filled (begun out) ps).used (filled (begun out) ps).lent) ≡ holds (record { packets = accepted (begun out) ps; ending = 0 })
  -- by `capture`'s own definition of what a file is: their bytes, in order, ended at an edge
  pub rows : reading (take (filled (begun out) ps).used (filled (begun out) ps).lent) ≡ read (record { rows = map (λ (p : Packet). p.row) (accepted (begun out) ps); ending = 0 })
  -- they are the file of these packets
  pub file : take (filled (begun out) ps).used (filled (begun out) ps).lent ≡ file_bytes (accepted (begun out) ps)
  -- the bytes behind them are as they were
  pub behind : drop (filled (begun out) ps).used (filled (begun out) ps).lent ≡ drop (filled (begun out) ps).used out

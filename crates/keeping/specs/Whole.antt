-- The words for what the program writes of a whole capture: turn after turn the records of the packets whose lookup gave the action. proofs/Whole.antt shows the turn, and that reading what it wrote gives exactly these packets, in order, ended at an edge.
-- Assumes nothing.
use Rattle.std.specs.Prelude.{Result, Ok, Err, take, drop, get_or}
use mathlib.Core.List.{List, [], ◌++◌}
use Prim.Native.Nat.{ℕ, ◌<◌}
use Rattle.octets.specs.declared.Order.{Order}
use Rattle.capture.specs.declared.End.{End}
use Rattle.writing.specs.Packets.{packets_of}
use Rattle.writing.specs.Back.{all_bytes}
use Rattle.keeping.specs.Keep.{kept_bytes, chosen}

-- ---- the bytes that are written

-- the records of the packets that are kept, of the bytes behind the file header
unfoldable pub kept_all : List ℕ → ℕ → Order → List ℕ → List ℕ
kept_all ws a o s = all_bytes (chosen ws a (packets_of o s).packets)

-- what is written in a turn, by what was read, and then
abbrev pub kept_by : List ℕ → ℕ → Order → List ℕ → Result ℕ End → List ℕ
kept_by ws a o s (Ok n) = kept_bytes ws a o (take 16 s) (take n (drop 16 s)) ++ kept_all ws a o (drop n (drop 16 s))
kept_by ws a o s (Err e) = []

-- ---- reading them

-- every byte is a byte
abbrev pub Bytes : List ℕ → Type 0
Bytes s = (i : ℕ) → get_or s i 0 < 256

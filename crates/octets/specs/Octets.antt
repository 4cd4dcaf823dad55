-- Numbers in bytes, in either order: `Big` has the most significant byte first, `Little` has it last. A byte past the end counts as 0.
-- Assumes nothing: these are definitions.
use Rattle.std.specs.Prelude.{ℕ, ◌+◌, ◌*◌, List, get_or}
use Rattle.octets.specs.declared.Order.{Order}
use Rattle.octets.specs.declared.Order.TheVariants.{Big, Little}

-- a number of two parts as they stand: the lesser part is below the base, the other counts in bases
abbrev pub joined : Order → ℕ → ℕ → ℕ → ℕ
joined Big base first second = first * base + second
joined Little base first second = second * base + first

-- the byte at a place
abbrev pub byte : List ℕ → ℕ → ℕ
byte s at = get_or s at 0

-- the 16-bit number at a place
abbrev pub half : Order → List ℕ → ℕ → ℕ
half o s at = joined o 256 (byte s at) (byte s (at + 1))

-- the 32-bit number at a place
abbrev pub word : Order → List ℕ → ℕ → ℕ
word o s at = joined o 65536 (half o s at) (half o s (at + 2))

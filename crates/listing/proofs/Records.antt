-- What is known of a record header: one that leads to data says at most 16,384 bytes.
-- Assumes nothing.
use mathlib.Core.Path.{◌≡◌, refl}
use mathlib.Core.Bool.{Bool, true, false, cond}
use mathlib.Core.List.{List}
use Prim.Native.Nat.{ℕ, ◌≤◌}
use native.Mathlib.Omega.{arith}
use borrow.Author.Tests.{ltb-false}
use lib.Dec.{ltb, eqb}
use lib.ListN.{length}
use Rattle.octets.specs.declared.Order.{Order}
use Rattle.std.specs.Prelude.{Ok, Err}
use Rattle.capture.specs.declared.End.TheVariants.{Edge, Cut, TooLong}
use Rattle.octets.specs.Octets.{word}
use Rattle.capture.specs.Pcap.{next_of}

-- a record header that leads to data says no more
pub data_small : (o : Order) (s : List ℕ) (n : ℕ) → Ok n ≡ next_of o s → n ≤ 16384
unfolding next_of
data_small o s n e = go (eqb (length s) 0) (ltb (length s) 16) (ltb 16384 (word o s 8)) refl e
  where
    go : (a b d : Bool) → ltb 16384 (word o s 8) ≡ d → Ok n ≡ cond a (Err Edge) (cond b (Err Cut) (cond d (Err TooLong) (Ok (word o s 8)))) → n ≤ 16384
    go true b d p e = let z : ◌≡◌ {A = ℕ} 0 1 = cc in absurd (omega arith)
    go false true d p e = let z : ◌≡◌ {A = ℕ} 0 1 = cc in absurd (omega arith)
    go false false true p e = let z : ◌≡◌ {A = ℕ} 0 1 = cc in absurd (omega arith)
    go false false false p e = let z : n ≡ word o s 8 = cc in omega (arith, ltb-false 16384 (word o s 8) p)

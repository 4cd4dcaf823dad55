-- The definitions' cases, one law for each way that opening a capture or reading a record header ends.
-- Assumes nothing.
use Rattle.std.specs.Prelude.{ℕ, ◌<◌, ◌≤◌, ◌≡◌, true, false, Some, None, Ok, Err, List, reverse, length, nat_eq}
use Rattle.std.specs.List.{starts_with}
use borrow.Author.Tests.{lt-ltb, le-ltb, eq-eqb, ne_eqb}
use Rattle.octets.specs.declared.Order.{Order}
use Rattle.octets.specs.declared.Order.TheVariants.{Big, Little}
use Rattle.capture.specs.declared.End.TheVariants.{Edge, Cut, TooLong}
use Rattle.octets.specs.Octets.{half, word}
use Rattle.capture.specs.Pcap.{magic, by_magic, accepted, opened, next_of}

module _ (s : List ℕ) where
  pub forward : starts_with nat_eq s magic ≡ true → Some Big ≡ by_magic s
  unfolding by_magic
  forward e = rw e

  pub backward : starts_with nat_eq s magic ≡ false → starts_with nat_eq s (reverse magic) ≡ true → Some Little ≡ by_magic s
  unfolding by_magic
  backward e f = rw (e, f)

  pub neither : starts_with nat_eq s magic ≡ false → starts_with nat_eq s (reverse magic) ≡ false → None ≡ by_magic s
  unfolding by_magic
  neither e f = rw (e, f)

  pub few : length s < 24 → None ≡ opened s
  unfolding opened
  few h = simp (lt-ltb _ _ h)

  module _ (h : 24 ≤ length s) where
    pub no_magic : by_magic s ≡ None → None ≡ opened s
    unfolding opened
    no_magic e = simp (le-ltb _ _ h, e)

    module _ (o : Order) (e : by_magic s ≡ Some o) where
      pub major : (half o s 4 ≡ 2 → ⊥) → None ≡ opened s
      unfolding opened accepted
      major n = rw (le-ltb _ _ h, e, ne_eqb _ _ n)

      pub minor : half o s 4 ≡ 2 → (half o s 6 ≡ 4 → ⊥) → None ≡ opened s
      unfolding opened accepted
      minor p n = rw (le-ltb _ _ h, e, eq-eqb _ _ p, ne_eqb _ _ n)

      pub link : half o s 4 ≡ 2 → half o s 6 ≡ 4 → (word o s 20 ≡ 101 → ⊥) → None ≡ opened s
      unfolding opened accepted
      link p q n = rw (le-ltb _ _ h, e, eq-eqb _ _ p, eq-eqb _ _ q, ne_eqb _ _ n)

      pub taken : half o s 4 ≡ 2 → half o s 6 ≡ 4 → word o s 20 ≡ 101 → Some o ≡ opened s
      unfolding opened accepted
      taken p q l = rw (le-ltb _ _ h, e, eq-eqb _ _ p, eq-eqb _ _ q, eq-eqb _ _ l)

module _ (o : Order) (s : List ℕ) where
  pub edge : length s ≡ 0 → Err Edge ≡ next_of o s
  unfolding next_of
  edge e = rw (eq-eqb _ _ e)

  module _ (n : length s ≡ 0 → ⊥) where
    pub cut : length s < 16 → Err Cut ≡ next_of o s
    unfolding next_of
    cut h = rw (ne_eqb _ _ n, lt-ltb _ _ h)

    pub long : 16 ≤ length s → 16384 < word o s 8 → Err TooLong ≡ next_of o s
    unfolding next_of
    long h l = rw (ne_eqb _ _ n, le-ltb _ _ h, lt-ltb _ _ l)

    pub whole : 16 ≤ length s → word o s 8 ≤ 16384 → Ok (word o s 8) ≡ next_of o s
    unfolding next_of
    whole h l = rw (ne_eqb _ _ n, le-ltb _ _ h, le-ltb _ _ l)

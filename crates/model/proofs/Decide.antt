-- The decision over a table, for a packet within the tops: the walk of its tree finds the winner and reads as many cells as the rules say, at most 2 × n + 1 in each field, and k + (k + 1) × n over all k fields; the winner is a rule of the table, or the default, that holds the packet, and none of a lesser number does. And the default alone takes one cell for each field.
-- Assumes nothing.
use mathlib.Core.Path.{◌≡◌, refl, sym, ap, subst, ◌∙◌}
use mathlib.Core.Logic.{inl, ⊎_elim}
use mathlib.Core.Bool.{true}
use mathlib.Core.List.{List, [], ◌∷◌}
use mathlib.Core.Option.{some}
use Prim.Native.Nat.{ℕ, zero, suc, ◌+◌, ◌*◌, ◌≤◌}
use native.Mathlib.Omega.{arith}
use lib.Dec.{eqb}
use lib.ListN.{length, get_or, drop, drop_of_length-le, length-append, get_or-map}
use lib.Seq.{drop-cons}
use borrow.Author.Tests.{eqb-true, eq-eqb}
use Rattle.model.specs.Lists.{In, least}
use Rattle.model.specs.Rules.{holds, found, reads, values, reads_each, ranges_right}
use Rattle.model.specs.Table.{Kind, Rule, Table, number_of, fields_from, fields, default_rule, every_rule, winner_of, reads_of, tree_of, cells_of, packet_right, within}
use Rattle.model.proofs.Tests.{and_left, and_right}
use Rattle.model.proofs.Keep.{in_right}
use Rattle.model.proofs.Walk.{walk_finds, walk_reads, full, full_holds, full_right}
use Rattle.model.proofs.Sets.{winner_in as in_rules, winner_holds as holds_packet_lem, winner_least as least_of}
use Rattle.model.proofs.Limits.{from_within, from_every}
use Rattle.model.proofs.Bound.{Lowest, each_bound, sum_bound, tight_bound}
use Rattle.model.proofs.Fewer.{alone}

pub length_fields : (i : ℕ) (ts : List ℕ) → length (fields_from i ts) ≡ length ts
length_fields i [] = refl
length_fields i (t ∷ ts) = ap suc (length_fields (suc i) ts)

-- a packet of as many values as fields is its values
values_drop : (ts : List ℕ) (i : ℕ) (p : List ℕ) → length p ≡ i + length ts → values (fields_from i ts) p ≡ drop i p
values_drop [] i p h = sym (drop_of_length-le p {i = i} (omega arith))
values_drop (t ∷ ts) i p h = ap (λ (l : List ℕ). get_or p i 0 ∷ l) (values_drop ts (suc i) p (omega arith)) ∙ sym (drop-cons p i 0 (omega arith))

-- THE DEFAULT has the whole range of each field
module _ (k : Kind) (a : ℕ) where
  low_zero : (i : ℕ) → get_or (default_rule k a).lows i 0 ≡ 0
  low_zero i = get_or-map (λ t. 0) k.tops i 0

  pub default_lowest : (i : ℕ) (ts : List ℕ) → Lowest (fields_from i ts) (default_rule k a)
  default_lowest i [] = tt
  default_lowest i (t ∷ ts) = (low_zero i, default_lowest (suc i) ts)

  pub default_full : (i : ℕ) (ts : List ℕ) → drop i k.tops ≡ ts → full (fields_from i ts) (default_rule k a) ≡ true
  default_full i [] h = refl
  default_full i (t ∷ ts) h =
      let z = next k.tops i h in
      rw (eq-eqb _ 0 (low_zero i), eq-eqb (get_or k.tops i 0) t z.0) (default_full (suc i) ts z.1)
    where
      next : (l : List ℕ) (j : ℕ) → drop j l ≡ t ∷ ts → (get_or l j 0 ≡ t) × (drop (suc j) l ≡ ts)
      next [] zero e = (cc, cc)
      next [] (suc j) e = (cc, cc)
      next (x ∷ l) zero e = (cc, cc)
      next (x ∷ l) (suc j) e = next l j e

  pub default_holds : (p : List ℕ) → packet_right k p ≡ true → holds (fields k) p (default_rule k a) ≡ true
  default_holds p h = full_holds (fields k) p (default_rule k a) (default_full 0 k.tops refl) (and_right (eqb (length p) (length k.tops)) _ h)

  pub default_cells : cells_of k (record { action = a; rules = [] }) ≡ length k.tops
  default_cells = alone (least number_of (default_rule k a)) (fields k) (default_rule k a) (default_lowest 0 k.tops) ∙ length_fields 0 k.tops

-- so the ranges of all rules of a table within the limits are right
pub every_right : (k : Kind) (t : Table) → within k t ≡ true → (r : Rule) → In r (every_rule k t) → ranges_right (fields k) r ≡ true
every_right k t h r m =
    ⊎_elim
    (λ (n : In r t.rules). and_left (ranges_right (fields k) r) _ (and_right (eqb (length r.highs) (length k.tops)) _ (and_right (eqb (length r.lows) (length k.tops)) _ ((from_within k t h).right r n))))
    (λ (q : r ≡ default_rule k t.action). rw q (full_right (fields k) (default_rule k t.action) (default_full k t.action 0 k.tops refl)))
    (from_every k t r m)

module _ (k : Kind) (t : Table) (p : List ℕ) (h : packet_right k p ≡ true) where
  pub default_in_lem : In (default_rule k t.action) (every_rule k t)
  default_in_lem = in_right t.rules (default_rule k t.action ∷ []) (default_rule k t.action) (inl refl)

  pub its_values : values (fields k) p ≡ p
  its_values = values_drop k.tops 0 p (eqb-true (length p) (length k.tops) (and_left (eqb (length p) (length k.tops)) _ h) ∙ omega arith)

  pub finds : found (tree_of k t) p ≡ some (winner_of k t p)
  finds = subst (λ (l : List ℕ). found (tree_of k t) l ≡ some (winner_of k t p)) its_values
      (walk_finds (least number_of (default_rule k t.action)) p (fields k) (every_rule k t) (default_rule k t.action) default_in_lem (default_holds k t.action p h))

  pub reads_right : reads (tree_of k t) p ≡ reads_of k t p
  reads_right = subst (λ (l : List ℕ). reads (tree_of k t) l ≡ reads_of k t p) its_values
      (walk_reads (least number_of (default_rule k t.action)) p (fields k) (every_rule k t) (default_rule k t.action) default_in_lem (default_holds k t.action p h))

  pub winner_in : In (winner_of k t p) (every_rule k t)
  winner_in = in_rules number_of (default_rule k t.action) (fields k) p (every_rule k t) default_in_lem (default_holds k t.action p h)

  pub winner_holds : holds (fields k) p (winner_of k t p) ≡ true
  winner_holds = holds_packet_lem number_of (default_rule k t.action) (fields k) p (every_rule k t) default_in_lem (default_holds k t.action p h)

  pub winner_least : (r : Rule) → In r (every_rule k t) → holds (fields k) p r ≡ true → (winner_of k t p).number ≤ r.number
  winner_least = least_of number_of (default_rule k t.action) (fields k) p (every_rule k t)

  pub length_every : length (every_rule k t) ≤ length t.rules + 1
  length_every = omega (arith, length-append t.rules (default_rule k t.action ∷ []))

  pub reads_each_lem : (x : ℕ) → In x (reads_each (fields k) p (every_rule k t)) → x ≤ 2 * length t.rules + 1
  reads_each_lem = each_bound (fields k) p (length t.rules) (every_rule k t) length_every (default_rule k t.action) default_in_lem (default_holds k t.action p h) (default_lowest k t.action 0 k.tops)

  pub reads_most : reads_of k t p ≤ length k.tops * (2 * length t.rules + 1)
  reads_most = subst (λ (n : ℕ). reads_of k t p ≤ n * (2 * length t.rules + 1)) (length_fields 0 k.tops)
      (sum_bound (fields k) p (length t.rules) (every_rule k t) length_every (default_rule k t.action) default_in_lem (default_holds k t.action p h) (default_lowest k t.action 0 k.tops))

  -- over all fields together, fewer: with six at most 7 × n + 6
  pub reads_tight : reads_of k t p ≤ length k.tops + (length k.tops + 1) * length t.rules
  reads_tight = subst (λ (n : ℕ). reads_of k t p ≤ n + (n + 1) * length t.rules) (length_fields 0 k.tops)
      (tight_bound (fields k) p (length t.rules) (every_rule k t) (length-append t.rules _) (default_rule k t.action) default_in_lem (default_holds k t.action p h) (default_lowest k t.action 0 k.tops))

-- The way along a chain of rules, as the code goes it: what its loop keeps, and what it may lend on. And the levels of blocks over a number of ends.
-- Assumes nothing.
use mathlib.Core.Path.{◌≡◌, refl, sym, ap, ◌∙◌}
use mathlib.Core.List.{List, [], ◌∷◌}
use Prim.Native.Nat.{ℕ, zero, suc, ◌+◌, ◌-◌, ◌*◌, ◌≤◌, ◌<◌}
use native.Mathlib.Omega.{arith}
use native.Mathlib.Numerals.{add-one}
use lib.ListN.{length, get_or, take, drop, set}
use lib.Seq.{drop-length, get_or-take}
use borrow.Rule.Slice.PartMut.{mid_of, put_mid}
use Rattle.std.proofs.Common.{Option, Some, None}
use Rattle.std.specs.Int.{div_ceil}
use Rattle.std.specs.Option.{unwrap_or}
use Rattle.model.specs.Lists.{Rising, keep}
use Rattle.model.specs.Rules.{Tree, names, stop, loc, chain, covers, ends as ends_of}
use Rattle.model.proofs.Ends.{ends_rising}
use Rattle.rows.specs.Rows.{field_at, tree_at, under_at, Flat, Scratch}
use Rattle.rows.proofs.Sets.{tree_none, tree_step}
use Rattle.rows.proofs.Insert.{back, in_at}
use Rattle.rows.proofs.Room.{come_at, come_on}
use Rattle.rows.proofs.Coming.{Coming, coming_start, next_end, lent, coming_on}
use Rattle.cells.specs.Text.{width}
use Rattle.search.specs.Search.{most, first}
use Rattle.search.proofs.First.{first_here, first_past, by_place}
use Rattle.search.proofs.Written.{put_back, set_front, no_values}
use Rattle.blocks.specs.Blocks.{pow8, depth, levels, parts, height}
use Rattle.blocks.proofs.Levels.{depth_least, depth_low, depth_step}
use Rattle.blocks.proofs.Sums.{chain_width}
use Rattle.deepest.specs.Deepest.{weigh, weighed, itself, greatest, first_greatest}
use Rattle.deepest.specs.Search.{low_at, Above, Met}
use Rattle.deepest.proofs.Greatest.{met_yes, met_no, yes_met, no_met, met_stop, asks_some, met_better, met_worse}

-- THE LEVELS of m ends: n are passed, and those of the ends that are left
pub record Passed (m n left : ℕ) : Type 0 where
  pub is : n + depth left ≡ levels m
  pub few : left ≤ m

pub few_levels : (m : ℕ) → m ≤ 2048 → levels m ≤ 4
unfolding pow8
few_levels m h = omega (arith, depth_least m 3 (omega arith))

-- blocks of 8, as the code counts them
pub parts_ceil : (m : ℕ) → div_ceil m 8 ≡ parts m
parts_ceil m = omega arith

module _ (m : ℕ) where
  pub passed_on : (n left : ℕ) → Passed m n left → 8 < left → Passed m (n + 1) (parts left)
  passed_on n left o h = record { is = omega (arith, o.is, depth_step left h); few = omega (arith, o.few) }

  pub passed_done : (n left : ℕ) → Passed m n left → left ≤ 8 → n ≡ levels m
  passed_done n left o h = omega (arith, o.is, depth_low left h)

-- THE LEAST VALUE of a location
pub low_next : (es : List ℕ) (i : ℕ) → 0 < i → get_or es (i - 1) 0 + 1 ≡ low_at es i
low_next es zero p = absurd (omega arith)
low_next es (suc i) p = let z : suc i - 1 ≡ i = omega arith in rw (z, add-one (get_or es i 0))

-- it is that of the ends of which the first i are there
low_same : (es xs : List ℕ) (i : ℕ) → take i es ≡ take i xs → low_at es i ≡ low_at xs i
low_same es xs zero q = refl
low_same es xs (suc i) q = ap suc (sym (get_or-take (suc i) es i 0 (omega arith)) ∙ ap (λ l. get_or l i 0) q ∙ get_or-take (suc i) xs i 0 (omega arith))

rising_at : (es : List ℕ) → Rising es → (i : ℕ) → suc i < length es → get_or es i 0 < get_or es (suc i) 0
rising_at [] r i h = absurd (omega arith)
rising_at (e ∷ es) r zero h = r.0 (get_or es 0 0) (in_at es 0 (omega arith))
rising_at (e ∷ es) r (suc i) h = rising_at es r.1 i (omega arith)

-- ONE STEP: what was found below a location is written into the record without its first place
module _ {e : ℕ} {u t : Tree ℕ} {l goal : ℕ} {found : Option ℕ} {before out ys : List ℕ} (s : Met t (suc e) goal found before out) where
  step_better : {x : ℕ} → Met u 0 (unwrap_or found goal) (Some x) (mid_of 1 (length out - 1) out) ys → 0 < length out → (v : ℕ) → v ≡ l → Met (loc e u t) l goal (Some x) before (set (put_mid 1 (length out - 1) out ys) 0 v)
  step_better m o v q = let y = yes_met m in met_better s y.0 y.1 (set_front out ys v o ∙ rw (q, y.2))

  step_worse : Met u 0 (unwrap_or found goal) None (mid_of 1 (length out - 1) out) ys → Met (loc e u t) l goal found before (put_mid 1 (length out - 1) out ys)
  step_worse m = let y = no_met m in rw (put_back out ys y.1) (met_worse s y.0)

-- A CHAIN WITH NOTHING UNDER IT: as many blocks are read at each location
module _ (u : ℕ → Tree ℕ) (x : ℕ → ℕ) (h : (e : ℕ) → u e ≡ names (x e)) (n : ℕ) where
  down : (e : ℕ) → weigh (n + height (u e)) (u e) ≡ names n
  unfolding weigh
  down e = let z : n + 0 ≡ n = omega arith in rw (h e, z)

  down_most : (e : ℕ) → greatest (weigh (n + height (u e)) (u e)) ≡ n
  unfolding most
  down_most e = rw (down e)

  down_first : (e : ℕ) → first_greatest 0 (weigh (n + height (u e)) (u e)) ≡ []
  unfolding first
  down_first e = rw (down e)

  chain_most : (es : List ℕ) → greatest (weigh n (chain u es)) ≤ n
  unfolding weigh most
  chain_most [] = omega arith
  chain_most (e ∷ es) = by_place 0 itself 0 e (weigh (n + height (u e)) (u e)) (weigh n (chain u es))
      (λ q. omega (arith, (first_here 0 itself 0 e (weigh (n + height (u e)) (u e)) (weigh n (chain u es)) q).1, down_most e))
      (λ q. omega (arith, (first_past 0 itself 0 e (weigh (n + height (u e)) (u e)) (weigh n (chain u es)) q).1, chain_most es))

  even : (e : ℕ) (es : List ℕ) (l : ℕ) → (greatest (weigh n (chain u (e ∷ es))) ≡ n) × (first_greatest l (weigh n (chain u (e ∷ es))) ≡ l ∷ [])
  unfolding weigh
  even e es l =
      let f = first_here 0 itself l e (weigh (n + height (u e)) (u e)) (weigh n (chain u es)) (omega (arith, down_most e, chain_most es)) in
      (omega (arith, f.1, down_most e), f.0 ∙ ap (λ vs. l ∷ vs) (down_first e))

-- one value, written
only : (out : List ℕ) → length out ≡ 1 → set out 0 0 ≡ 0 ∷ []
only [] h = absurd (omega arith)
only (x ∷ out) h = ap (λ vs. 0 ∷ vs) (no_values out (omega arith))

-- THE TREE of some rules, n fields from field f on, with so many blocks read above it
module _ (rules ps : List ℕ) (f n above : ℕ) where
  abbrev es : List ℕ
  es = ends_of (field_at rules f) ps

  abbrev under : ℕ → Tree ℕ
  under = under_at rules f n ps

  abbrev W : Tree ℕ
  W = weighed above (tree_at rules f n ps)

  pub leaf_met : (goal : ℕ) (out : List ℕ) → n ≡ 0 → length out ≡ n → goal ≤ above → Met W 0 goal (Some above) out out
  unfolding weigh most first
  leaf_met goal out q l h = rw (tree_none rules f n ps q) (met_yes (omega arith) (let z : above + 0 ≡ above = omega arith in rw z) (no_values out (omega arith)))

  pub leaf_not : (goal : ℕ) (out : List ℕ) → n ≡ 0 → above < goal → Met W 0 goal None out out
  unfolding weigh most
  leaf_not goal out q h = rw (tree_none rules f n ps q) (met_no (omega arith) refl refl)

  -- a chain is weighed with its levels
  weigh_chain : (u : ℕ → Tree ℕ) (xs : List ℕ) → weighed above (chain u xs) ≡ weigh (above + levels (length xs)) (chain u xs)
  unfolding weigh
  weigh_chain u [] = refl
  weigh_chain u (x ∷ xs) = let z : width (chain u xs) + 1 ≡ suc (length xs) = omega (arith, chain_width u xs) in rw z

  module _ (nz : n ≡ 0 → ⊥) where
    chained : W ≡ weigh (above + levels (length es)) (chain under es)
    chained = ap (weighed above) (tree_step rules f n ps nz) ∙ weigh_chain under es

    -- where all rules have one range from 0: one location in one block, and the same rules under it
    flat_tree : {e : ℕ} → Flat rules f ps e → W ≡ loc e (weighed (above + 1) (tree_at rules (f + 1) (n - 1) ps)) stop
    unfolding weigh under_at
    flat_tree l = chained ∙ rw (l.one, l.all, depth_low 1 (omega arith))

    module _ {e goal : ℕ} (l : Flat rules f ps e) (some : 0 < goal) (out ys : List ℕ) where
      pub flat_met : {got : ℕ} → Met (weighed (above + 1) (tree_at rules (f + 1) (n - 1) ps)) 0 goal (Some got) (mid_of 1 (length out - 1) out) ys → 0 < length out → Met W 0 goal (Some got) out (set (put_mid 1 (length out - 1) out ys) 0 0)
      flat_met m o = rw (flat_tree l) (step_better (met_stop (suc e) goal out some) m o 0 refl)

      pub flat_not : Met (weighed (above + 1) (tree_at rules (f + 1) (n - 1) ps)) 0 goal None (mid_of 1 (length out - 1) out) ys → Met W 0 goal None out (put_mid 1 (length out - 1) out ys)
      flat_not m = rw (flat_tree l) (step_worse (met_stop (suc e) goal out some) m)

    -- in the last field: nothing is read under a location
    module _ (one : n ≡ 1) (m : ℕ) (long : m ≡ length es) where
      named : (e : ℕ) → under e ≡ names (get_or (keep (covers (field_at rules f) e) ps) 0 0)
      unfolding under_at
      named e = tree_none rules (f + 1) (n - 1) _ (omega arith)

      pub last_none : {goal : ℕ} (out : List ℕ) → m ≡ 0 → 0 < goal → Met W 0 goal None out out
      unfolding weigh most
      last_none out q h = rw (chained, no_values es (omega arith)) (met_no h refl refl)

      module _ (v : ℕ) (k : v ≡ levels m) (some : m ≡ 0 → ⊥) where
        abbrev own : ℕ
        own = above + v

        all_even : (greatest W ≡ own) × (first_greatest 0 W ≡ 0 ∷ [])
        all_even = let z : W ≡ weigh own (chain under es) = chained ∙ ap (λ i. weigh i (chain under es)) (sym (ap (λ i. above + i) (k ∙ ap levels long))) in rw z (go es (omega arith))
          where
            go : (xs : List ℕ) → 0 < length xs → (greatest (weigh own (chain under xs)) ≡ own) × (first_greatest 0 (weigh own (chain under xs)) ≡ 0 ∷ [])
            go [] h = absurd (omega arith)
            go (x ∷ xs) h = even under (λ e. get_or (keep (covers (field_at rules f) e) ps) 0 0) named own x xs 0

        pub last_not : {goal : ℕ} (out : List ℕ) → own < goal → Met W 0 goal None out out
        last_not out h = met_no (omega (arith, all_even.0)) refl refl

        pub last_met : {goal : ℕ} (out : List ℕ) → length out ≡ 1 → goal ≤ own → Met W 0 goal (Some own) out (set out 0 0)
        last_met out o h = met_yes (omega (arith, all_even.0)) (ap Some (sym all_even.0)) (only out o ∙ sym all_even.1)

-- WHERE `of_chain` STANDS in its loop: what is found of the chain of the ends that are no more to come.
pub record Going (rules sets₀ out₀ sets ends out : List ℕ) (n f left own goal : ℕ) (found : Option ℕ) (i : ℕ) : Type 0 where
  pub coming : Coming rules sets₀ sets ends n f i
  pub met : Met (weigh own (chain (under_at rules f left (take n sets₀)) (drop i (ends_of (field_at rules f) (take n sets₀))))) (low_at (ends_of (field_at rules f) (take n sets₀)) i) goal found out₀ out

pub going_start : {rules sets ends₀ out : List ℕ} {n f left own goal : ℕ} → Scratch n left sets ends₀ → 0 < left → 0 < goal → (ends : List ℕ) (r : ℕ) → length ends ≡ length ends₀
    → (r ≤ 2 * length (take n sets)) × (r ≡ length (ends_of (field_at rules f) (take n sets))) × (take r ends ≡ ends_of (field_at rules f) (take n sets)) → Going rules sets out sets ends out n f left own goal None r
unfolding weigh
going_start {rules} {sets} {out = out} {n} {f} {goal = goal} s p g ends r k o =
    record { coming = coming_start s p ends r k o; met = rw (o.1, drop-length (ends_of (field_at rules f) (take n sets))) (met_stop _ goal out g) }

module _ {rules sets₀ out₀ sets ends out : List ℕ} {n f left own goal : ℕ} {found : Option ℕ} {i : ℕ} (g : Going rules sets₀ out₀ sets ends out n f left own goal found i) (nz : left ≡ 0 → ⊥) where
  abbrev all : List ℕ
  all = ends_of (field_at rules f) (take n sets₀)

  pub going_asks : {asked : ℕ} → asked ≡ unwrap_or found goal → 0 < goal → 0 < asked
  going_asks q h = omega (arith, q, asks_some g.met h)

  -- the chain is at its end
  pub going_end : (above : ℕ) {v r : ℕ} → own ≡ above + v → v ≡ levels r → r ≡ length all → i ≤ 0 → Met (weighed above (tree_at rules f left (take n sets₀))) 0 goal found out₀ out
  going_end above a b r l =
      let z : i ≡ 0 = omega arith in
      let y : own ≡ above + levels (length all) = a ∙ ap (λ x. above + x) (b ∙ ap levels r) in
      rw (chained rules (take n sets₀) f left above nz) (rw (z, y) at g.met)

  -- a step: the rules that cover the next end are written behind the set
  module _ (p : 0 < i) where
    -- the end is above the one before it
    pub going_above : Above ends (i - 1)
    going_above q =
        let a = come_on all ends i p g.coming.come in
        let z = come_at all ends (i - 1) q a in
        let r = rising_at all (ends_rising (field_at rules f) (take n sets₀)) (i - 1 - 1) (omega (arith, g.coming.most)) in
        let y : suc (i - 1 - 1) ≡ i - 1 = omega arith in
        rw (z, next_end g.coming p) (rw y at r)

    module _ {m : ℕ} (under : List ℕ) (long : length under ≡ length sets) (w : (m ≤ n) × (take n under ≡ take n sets) × (take m (drop n under) ≡ keep (covers (field_at rules f) (get_or ends (i - 1) 0)) (take n sets))) where
      -- the location, and the rest of the chain behind it
      ahead : weigh own (chain (under_at rules f left (take n sets₀)) (drop (i - 1) all))
          ≡ loc (get_or all (i - 1) 0) (weighed own (tree_at rules (f + 1) (left - 1) (take m (mid_of n (length under - n) under)))) (weigh own (chain (under_at rules f left (take n sets₀)) (drop i all)))
      unfolding weigh under_at
      ahead = rw (back all i p g.coming.most, lent g.coming p under long w, next_end g.coming p)

      rest : Met (weigh own (chain (under_at rules f left (take n sets₀)) (drop i all))) (suc (get_or all (i - 1) 0)) goal found out₀ out
      rest = let z : low_at all i ≡ suc (get_or all (i - 1) 0) = sym (low_next all i p) ∙ add-one (get_or all (i - 1) 0) in rw z at g.met

      -- what the call below it found
      module _ (ys zs os : List ℕ) {low asked : ℕ} (q : asked ≡ unwrap_or found goal) (b : low ≡ low_at ends (i - 1)) (u : length ys ≡ length (mid_of n (length under - n) under)) (v : length zs ≡ length (mid_of (i - 1) (length ends - (i - 1)) ends)) where
        pub going_better : {got : ℕ} → Met (weighed own (tree_at rules (f + 1) (left - 1) (take m (mid_of n (length under - n) under)))) 0 asked (Some got) (mid_of 1 (length out - 1) out) os → 0 < length out
            → Going rules sets₀ out₀ (put_mid n (length under - n) under ys) (put_mid (i - 1) (length ends - (i - 1)) ends zs) (set (put_mid 1 (length out - 1) out os) 0 low) n f left own goal (Some got) (i - 1)
        going_better m o =
            record {
              coming = coming_on g.coming p under long w ys zs u v;
              met = rw ahead (step_better rest (rw q at m) o low (b ∙ low_same ends all (i - 1) (come_on all ends i p g.coming.come)));
            }

        pub going_worse : Met (weighed own (tree_at rules (f + 1) (left - 1) (take m (mid_of n (length under - n) under)))) 0 asked None (mid_of 1 (length out - 1) out) os
            → Going rules sets₀ out₀ (put_mid n (length under - n) under ys) (put_mid (i - 1) (length ends - (i - 1)) ends zs) (put_mid 1 (length out - 1) out os) n f left own goal found (i - 1)
        going_worse m = record { coming = coming_on g.coming p under long w ys zs u v; met = rw ahead (step_worse rest (rw q at m)) }

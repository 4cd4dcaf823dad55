-- A tree that is weighed: over some tops it stays, other names change nothing, and a walk comes to the blocks that it reads.
-- Assumes nothing.
use mathlib.Core.Path.{◌≡◌, refl, sym, subst, ◌∙◌}
use mathlib.Core.Bool.{true}
use mathlib.Core.List.{List, [], ◌∷◌}
use Prim.Native.Nat.{ℕ, suc, ◌+◌, ◌≤◌, ◌<◌}
use native.Mathlib.Omega.{arith}
use lib.Dec.{ltb}
use lib.ListN.{length, get_or}
use borrow.Author.Tests.{le-ltb}
use Rattle.model.specs.Lists.{keep, least, sum}
use Rattle.model.specs.Rules.{covers, Tree, names, stop, loc}
use Rattle.model.specs.Table.{Kind, Rule, Table, Shaped, field_of, fields_from, fields, number_of, default_rule, every_rule, winner_of, within}
use Rattle.model.proofs.Tests.{by_test}
use Rattle.model.proofs.Decide.{its_values, winner_in, winner_holds}
use Rattle.layout.specs.Named.{rename, stored}
use Rattle.search.specs.Search.{score}
use Rattle.search.specs.Facts.{InTops}
use Rattle.search.proofs.First.{Fits, Topped, leaf, last, more}
use Rattle.search.proofs.Topped.{topped_of, tops_right}
use Rattle.blocks.specs.Blocks.{height, reads_below, block_reads}
use Rattle.blocks.specs.Sums.{blocks_each}
use Rattle.blocks.proofs.Sums.{tree_reads}
use Rattle.deepest.specs.Deepest.{weigh, weighed, itself, bare}
use Rattle.image.proofs.Table.{blank, tree_rename, height_rename, shape}
use Rattle.depths.specs.Facts.{blocks_of}

-- OTHER NAMES
module _ (h : ℕ → ℕ) where
  weigh_rename : (n : ℕ) (t : Tree ℕ) → weigh n (rename h t) ≡ weigh n t
  unfolding weigh
  weigh_rename n (names a) = refl
  weigh_rename n stop = refl
  weigh_rename n (loc e u t) = rw (height_rename h u, weigh_rename (n + height u) u, weigh_rename n t)

-- the tree in a store's cells is weighed as that of the rules
pub stored_weighed : (k : Kind) → Shaped k → (t : Table) → within k t ≡ true → weighed 0 (stored k t) ≡ weighed 0 (bare k t)
stored_weighed k s t w = rw (← weigh_rename blank (0 + height (stored k t)) (stored k t), ← height_rename blank (stored k t), shape k s t w)

-- OVER SOME TOPS
topped_rename : {A B : Type 0} (h : A → B) {ts : List ℕ} {l : ℕ} {t : Tree A} → Topped ts l t → Topped ts l (rename h t)
topped_rename h leaf = leaf
topped_rename h (last k s) = last k (topped_rename h s)
topped_rename h (more k n s r) = more k n (topped_rename h s) (topped_rename h r)

topped_weigh : (n : ℕ) {ts : List ℕ} {l : ℕ} {t : Tree ℕ} → Topped ts l t → Topped ts l (weigh n t)
unfolding weigh
topped_weigh n leaf = leaf
topped_weigh n (last {u = u} k s) = last k (topped_weigh (n + height u) s)
topped_weigh n (more {u = u} k m s r) = more k m (topped_weigh (n + height u) s) (topped_weigh n r)

-- a walk of values that fit comes to the blocks that it reads
score_reads : (n : ℕ) {ts : List ℕ} {l : ℕ} {t : Tree ℕ} → Topped ts l t → (vs : List ℕ) → Fits ts vs → score 0 itself (weigh n t) vs ≡ n + reads_below t vs
unfolding score weigh
score_reads n leaf vs f = omega arith
score_reads n (last {e = e} {u = u} k s) [] f = absurd f
score_reads n (last {e = e} {u = u} k s) (v ∷ vs) f = rw (le-ltb e v f.0) (omega (arith, score_reads (n + height u) s vs f.1))
score_reads n (more {e = e} {u = u} {t = t} k m s r) [] f = absurd f
score_reads n (more {e = e} {u = u} {t = t} k m s r) (v ∷ vs) f = by_test (ltb e v)
    (λ z. rw z (omega (arith, score_reads n r (v ∷ vs) f)))
    (λ z. rw z (omega (arith, score_reads (n + height u) s vs f.1)))

-- A TABLE
in_fits : (ts vs : List ℕ) → length vs ≡ length ts → ((i : ℕ) → i < length ts → get_or vs i 0 ≤ get_or ts i 0) → Fits ts vs
in_fits [] [] l h = tt
in_fits [] (v ∷ vs) l h = absurd (omega arith)
in_fits (t ∷ ts) [] l h = absurd (omega arith)
in_fits (t ∷ ts) (v ∷ vs) l h = (h 0 (omega arith), in_fits ts vs (omega arith) (λ i m. h (suc i) (omega arith)))

module _ (k : Kind) (t : Table) (w : within k t ≡ true) where
  bare_topped : Topped k.tops 0 (bare k t)
  bare_topped = subst (λ (u : Tree ℕ). Topped k.tops 0 u) (tree_rename blank (least number_of (default_rule k t.action)) (fields k) (every_rule k t)) (topped_rename blank (topped_of k t w))

  pub topped : Topped k.tops 0 (weighed 0 (bare k t))
  topped = topped_weigh (0 + height (bare k t)) bare_topped

  module _ (vs : List ℕ) (i : InTops k vs) where
    bare_reads : block_reads (bare k t) vs ≡ blocks_of k t vs
    bare_reads =
        let h = tops_right k vs i in
        subst (λ (l : List ℕ). block_reads (bare k t) l ≡ blocks_of k t vs) (its_values k t vs h) (tree_reads (λ rs. 0) vs (fields k) (every_rule k t) (winner_of k t vs) (winner_in k t vs h) (winner_holds k t vs h))

    pub gathers : score 0 itself (weighed 0 (bare k t)) vs ≡ blocks_of k t vs
    gathers = score_reads (0 + height (bare k t)) bare_topped vs (in_fits k.tops vs i.each i.low) ∙ sym (omega arith) ∙ bare_reads

-- every field has a block
pub each_block : (ts : List ℕ) (i : ℕ) (vs : List ℕ) (rs : List Rule) → length ts ≤ sum (blocks_each (fields_from i ts) vs rs)
each_block [] i vs rs = omega arith
each_block (t ∷ ts) i vs rs = omega (arith, each_block ts (suc i) vs (keep (covers (field_of i t) (get_or vs i 0)) rs))

-- Over words that hold the image of a table, the lookup of right values gives the winner's number and action, and reads the blocks that the rules say: in each field the least L of at least 1 with 8^L not below the number of ends.
-- Assumes nothing.
use mathlib.Core.Path.{◌≡◌, refl, sym, ap, subst, ◌∙◌, fun_ext}
use mathlib.Core.Bool.{true}
use mathlib.Core.List.{List, [], ◌∷◌, ◌++◌}
use Prim.Native.Nat.{ℕ, zero, suc, ◌+◌, ◌*◌, ◌≤◌}
use native.Mathlib.Omega.{arith}
use lib.Dec.{leb, eqb}
use lib.ListN.{length, get_or, drop}
use borrow.Author.Tests.{eqb-true, leb-true}
use Rattle.model.specs.Lists.{In, keep, least, sum}
use Rattle.model.specs.Rules.{Field, covers, ends, Tree, names, stop, loc, chain, tree, values, within_tops, ranges_right}
use Rattle.model.specs.Table.{Kind, Rule, Table, Shaped, fields_from, fields, front, number_of, default_rule, every_rule, cells_of, winner_of, packet_right, within}
use Rattle.model.proofs.Tests.{and_left, and_right}
use Rattle.model.proofs.Limits.{from_within}
use Rattle.model.proofs.Decide.{length_fields, default_lowest, default_holds, default_in_lem, its_values, every_right, winner_in, winner_holds, length_every}
use Rattle.cells.specs.Text.{width}
use Rattle.cells.specs.Planted.{Deep}
use Rattle.cells.proofs.Text.{deep_tree}
use Rattle.table.specs.Rows.{rows_text, places, rule_in}
use Rattle.layout.specs.Named.{rename, stored}
use Rattle.layout.specs.Store.{rows_of}
use Rattle.layout.proofs.Named.{chain_rename}
use Rattle.layout.proofs.Bridge.{bridge, stored_cells, stored_finds}
use Rattle.blocks.specs.Blocks.{top_end, levels, blocks, end_at_place, blocks_text, height, reads_below, block_reads}
use Rattle.blocks.specs.Sums.{blocks_each}
use Rattle.blocks.proofs.Words.{Sorted}
use Rattle.blocks.proofs.Sums.{Ranges, tree_sorted, tree_reads, each_bound, blocks_cells}
use Rattle.blocks.proofs.Chains.{text_append}
use Rattle.lookup.specs.Walk.{found_in}
use Rattle.lookup.proofs.Tree.{rule_found}
use Rattle.image.specs.Walk.{walk_blocks}
use Rattle.image.specs.Image.{image_in}
use Rattle.image.proofs.Steps.{front_there_lem}
use Rattle.image.proofs.Tree.{Words, walk_image}

-- no name
abbrev pub blank : {A : Type 0} → A → ℕ
blank a = 0

-- A TREE WITH OTHER NAMES has the same ends, so the same blocks are read
module _ {A : Type 0} (h : A → ℕ) where
  pub tree_rename : {P R : Type 0} (g : List R → A) (fs : List (Field P R)) (rs : List R) → rename h (tree g fs rs) ≡ tree (λ l. h (g l)) fs rs
  tree_rename g [] rs = refl
  tree_rename g (f ∷ fs) rs = chain_rename h (λ e. tree g fs (keep (covers f e) rs)) (ends f rs) ∙ ap (λ u. chain u (ends f rs)) (fun_ext (λ e. tree_rename g fs (keep (covers f e) rs)))

rename_twice : {A B C : Type 0} (g : B → C) (h : A → B) (t : Tree A) → rename g (rename h t) ≡ rename (λ a. g (h a)) t
rename_twice g h (names a) = refl
rename_twice g h stop = refl
rename_twice g h (loc e u t) = rw (rename_twice g h u, rename_twice g h t)

module _ (h : ℕ → ℕ) where
  pub width_rename : (t : Tree ℕ) → width (rename h t) ≡ width t
  unfolding width
  width_rename (names a) = refl
  width_rename stop = refl
  width_rename (loc e u t) = rw (width_rename t)

  pub height_rename : (t : Tree ℕ) → height (rename h t) ≡ height t
  height_rename (names a) = refl
  height_rename stop = refl
  height_rename (loc e u t) = rw (width_rename t)

  below_rename : (t : Tree ℕ) (vs : List ℕ) → reads_below (rename h t) vs ≡ reads_below t vs
  below_rename (names a) vs = refl
  below_rename stop vs = refl
  below_rename (loc e u t) [] = refl
  below_rename (loc e u t) (v ∷ vs) = rw (below_rename t (v ∷ vs), height_rename u, below_rename u vs)

  end_rename : (t : Tree ℕ) (i : ℕ) → end_at_place (rename h t) i ≡ end_at_place t i
  unfolding end_at_place
  end_rename (names a) i = refl
  end_rename stop i = refl
  end_rename (loc e u t) zero = refl
  end_rename (loc e u t) (suc i) = end_rename t i

  sorted_rename : (t : Tree ℕ) → Sorted (rename h t) → Sorted t
  unfolding Sorted
  sorted_rename (names a) o = tt
  sorted_rename stop o = tt
  sorted_rename (loc e u t) o = (λ i. rw (end_rename t i) at (o.0 i), sorted_rename u o.1, sorted_rename t o.2)

-- WORDS: the ends of rules within the tops, and values within them
ranges_words : (ts : List ℕ) (i : ℕ) → Words ts → (rs : List Rule) → ((r : Rule) → In r rs → ranges_right (fields_from i ts) r ≡ true) → Ranges (fields_from i ts) rs
ranges_words [] i s rs h = tt
ranges_words (t ∷ ts) i s rs h = (λ r m. small r (h r m), ranges_words ts (suc i) s.1 rs (λ r m. and_right (leb (get_or r.highs i 0) t) _ (and_right (leb (get_or r.lows i 0) (get_or r.highs i 0)) _ (h r m))))
  where
    small : (r : Rule) → ranges_right (fields_from i (t ∷ ts)) r ≡ true → (get_or r.lows i 0 ≤ top_end) × (get_or r.highs i 0 ≤ top_end)
    small r q =
        let a = leb-true (get_or r.lows i 0) (get_or r.highs i 0) (and_left _ _ q) in
        let b = leb-true (get_or r.highs i 0) t (and_left _ _ (and_right (leb (get_or r.lows i 0) (get_or r.highs i 0)) _ q)) in
        (omega (arith, s.0), omega (arith, s.0))

values_words : (ts : List ℕ) (i : ℕ) → Words ts → (p : List ℕ) → within_tops (fields_from i ts) p ≡ true → Words (values (fields_from i ts) p)
values_words [] i s p h = tt
values_words (t ∷ ts) i s p h = let a = leb-true (get_or p i 0) t (and_left _ _ h) in (omega (arith, s.0), values_words ts (suc i) s.1 p (and_right (leb (get_or p i 0) t) _ h))

-- the words hold the image of a table, and any words behind it
pub record Images (k : Kind) (t : Table) (w : List ℕ) : Type 0 where
  pub long : front k ≤ length w
  pub count : get_or w 1 0 ≡ length t.rules
  pub marked : get_or w 2 0 ≡ k.mark
  pub rows : rows_of k w ≡ rows_text k t
  pub behind : List ℕ
  pub tree : drop (front k) w ≡ blocks_text (stored k t) ++ behind

-- A TABLE within the limits of its kind: the tree in its store's cells, but for the names, is a tree of its rules
pub shape : (k : Kind) (s : Shaped k) (t : Table) → within k t ≡ true → rename blank (stored k t) ≡ tree blank (fields k) (every_rule k t)
shape k s t right =
    sym (rename_twice blank (rule_in (length k.tops) (rows_text k t)) (stored k t))
    ∙ ap (rename blank) (bridge k s t right)
    ∙ tree_rename blank (least number_of (default_rule k t.action)) (fields k) (every_rule k t)

-- and its tops are words
module _ (k : Kind) (s : Shaped k) (small : Words k.tops) (t : Table) (right : within k t ≡ true) where
  sorted : Sorted (stored k t)
  sorted = sorted_rename blank (stored k t) (rw (shape k s t right) (tree_sorted blank (fields k) (every_rule k t) (ranges_words k.tops 0 small (every_rule k t) (every_right k t right))))

  module _ (vs : List ℕ) (h : packet_right k vs ≡ true) where
    -- "It reports blocks read: for each field the least L of at least 1 with 8^L not below m"
    reads_is : block_reads (stored k t) vs ≡ sum (blocks_each (fields k) vs (every_rule k t))
    reads_is =
        let u = tree blank (fields k) (every_rule k t) in
        rw (← height_rename blank (stored k t), ← below_rename blank (stored k t) vs, shape k s t right)
        (subst (λ l. block_reads u l ≡ sum (blocks_each (fields k) vs (every_rule k t))) (its_values k t vs h)
        (tree_reads blank vs (fields k) (every_rule k t) (winner_of k t vs) (winner_in k t vs h) (winner_holds k t vs h)))

    -- "With n rules that is at most the number of fields times the least L for 2 × n + 1"
    pub blocks_most : sum (blocks_each (fields k) vs (every_rule k t)) ≤ length k.tops * levels (2 * length t.rules + 1)
    blocks_most =
        let d = default_rule k t.action in
        subst (λ n. sum (blocks_each (fields k) vs (every_rule k t)) ≤ n * levels (2 * length t.rules + 1)) (length_fields 0 k.tops)
        (each_bound (fields k) vs (length t.rules) (every_rule k t) (length_every k t vs h) d (default_in_lem k t vs h) (default_holds k t.action vs h) (default_lowest k t.action 0 k.tops))

    -- THE LOOKUP: "A lookup over the image gives the store's rule and action for every packet"
    pub image_finds : cells_of k t ≤ 65536 → (w : List ℕ) → Images k t w
        → image_in k w vs ≡ record { answer = 0; rule = (winner_of k t vs).number; action = (winner_of k t vs).action; reads = sum (blocks_each (fields k) vs (every_rule k t)) }
    unfolding stored
    image_finds c w i =
        let o = stored k t in
        let f = stored_finds k s t right vs h in
        let n : length vs ≡ length k.tops = eqb-true (length vs) (length k.tops) (and_left _ _ h) in
        let words : Words vs = rw (its_values k t vs h) at (values_words k.tops 0 small vs (and_right (eqb (length vs) (length k.tops)) _ h)) in
        let deep : Deep o (length vs) = rw n (deep_tree (rows_text k t) 0 (length k.tops) (places k.width (length t.rules))) in
        let few : blocks o ≤ 1048576 = omega (arith, blocks_cells o, stored_cells k s t right) in
        sym (front_there_lem k w vs i.marked i.long)
        ∙ ap (λ b. found_in k w (walk_blocks b vs)) (i.tree ∙ sym (text_append o i.behind))
        ∙ ap (found_in k w) (walk_image o i.behind vs f.place few (omega (arith, s.some)) deep sorted words f.found_there)
        ∙ rule_found k s t (from_within k t right).fits w i.count i.rows vs f (block_reads o vs)
        ∙ ap (λ r. record { answer = 0; rule = (winner_of k t vs).number; action = (winner_of k t vs).action; reads = r }) reads_is

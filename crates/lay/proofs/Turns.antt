-- The tree that a store's cells give by their links, as chains of cells: how its blocks are counted and written, cell by cell.
-- Assumes nothing.
use mathlib.Core.Path.{◌≡◌, refl, sym, ap, ◌∙◌}
use mathlib.Core.Bool.{cond}
use mathlib.Core.List.{List, [], ◌∷◌, ◌++◌}
use Prim.Native.Nat.{ℕ, zero, suc, ◌+◌, ◌-◌, ◌*◌, ◌/◌, ◌≤◌, ◌<◌}
use native.Mathlib.Omega.{arith}
use native.Mathlib.Numerals.{add-one}
use lib.Dec.{ltb, eqb}
use lib.ListN.{length, get_or, take, drop, length-drop}
use lib.Seq.{drop-drop, drop-cons, take-suc, take_all}
use borrow.Author.Tests.{lt-ltb, le-ltb, ltb-true, ne_eqb}
use Rattle.model.specs.Rules.{Tree, loc}
use Rattle.model.proofs.Tests.{by_test}
use Rattle.cells.specs.Text.{cell_word}
use Rattle.search.specs.Links.{chain_in, tree_in}
use Rattle.search.proofs.Links.{tree_chain}
use Rattle.blocks.specs.Blocks.{top_end, down_mark, depth, parts, blocks_up, own_blocks, under_blocks, blocks, entry, chain_blocks, below_blocks, tree_blocks}
use Rattle.blocks.specs.Written.{entered, Level, Raised, Roomy, Named, Written}
use Rattle.blocks.proofs.Writing.{size_parts}
use Rattle.blocks.proofs.Chains.{chain_by, chained_own, under_take, under_snoc, Goes, goes_start, goes_on, goes_done, level_rest, shorter}
use Rattle.lay.specs.Chain.{cells_on}

-- the cells of a chain, one by one
module _ (ws : List ℕ) (c : ℕ) where
  pub cells_next : (m n k : ℕ) → m ≡ suc n → k < c → cells_on ws c m k ≡ k ∷ cells_on ws c n (cell_word ws k 1)
  unfolding cells_on
  cells_next m n k q h = rw (q, lt-ltb k c h)

  pub cells_out : (m k : ℕ) → c ≤ k → cells_on ws c m k ≡ []
  unfolding cells_on
  cells_out zero k h = refl
  cells_out (suc m) k h = rw (le-ltb k c h)

  pub cells_spent : (m k : ℕ) → m ≡ 0 → cells_on ws c m k ≡ []
  unfolding cells_on
  cells_spent m k q = rw q

  pub cells_most : (n k : ℕ) → length (cells_on ws c n k) ≤ n
  unfolding cells_on
  cells_most zero k = omega arith
  cells_most (suc n) k = by_test (ltb k c) (λ q. rw q (omega (arith, cells_most n (cell_word ws k 1)))) (λ q. rw q (omega arith))

  -- each of them is one of the store's
  cells_in : (n k i : ℕ) → i < length (cells_on ws c n k) → get_or (cells_on ws c n k) i 0 < c
  unfolding cells_on
  cells_in zero k i h = absurd (omega arith)
  cells_in (suc n) k zero h = by_test (ltb k c) (λ q. rw q (ltb-true k c q)) (λ q. absurd (let z : 0 < 0 = rw q at h in omega arith))
  cells_in (suc n) k (suc i) h =
      by_test (ltb k c)
      (λ q.
      let z : suc i < suc (length (cells_on ws c n (cell_word ws k 1))) = rw q at h in
      rw q (cells_in n (cell_word ws k 1) i (omega arith)))
      (λ q. absurd (let z : suc i < 0 = rw q at h in omega arith))

  -- THE CHAIN at cell k, by its cells
  chain_cells : (f : ℕ → Tree ℕ) (n k : ℕ) → chain_in ws c f n k ≡ chain_by (λ j. cell_word ws j 0) (λ j. f (cell_word ws j 2)) (cells_on ws c n k)
  unfolding chain_in cells_on
  chain_cells f zero k = refl
  chain_cells f (suc n) k = by_test (ltb k c) (λ q. rw q (ap (loc (cell_word ws k 0) (f (cell_word ws k 2))) (chain_cells f n (cell_word ws k 1)))) (λ q. rw q)

-- what is below a cell, with left fields from its own on
abbrev pub below_cell : List ℕ → ℕ → ℕ → ℕ → Tree ℕ
below_cell ws c left j = tree_in ws c (left - 1) (cell_word ws j 2)

abbrev pub end_cell : List ℕ → ℕ → ℕ
end_cell ws j = cell_word ws j 0

abbrev pub chain_at : List ℕ → ℕ → ℕ → ℕ → Tree ℕ
chain_at ws c left k = chain_by (end_cell ws) (below_cell ws c left) (cells_on ws c c k)

pub tree_cells : (ws : List ℕ) (c left k : ℕ) → 0 < left → tree_in ws c left k ≡ chain_at ws c left k
tree_cells ws c left k h = tree_chain ws c left k h ∙ chain_cells ws c (λ d. tree_in ws c (left - 1) d) c k

-- i cells of the chain are passed, and these are left
pub record Along (ws : List ℕ) (c k m i : ℕ) (rest : List ℕ) : Type 0 where
  pub count : m ≡ length (cells_on ws c c k)
  pub is : rest ≡ drop i (cells_on ws c c k)

module _ (ws : List ℕ) (c k m i : ℕ) {rest : List ℕ} (o : Along ws c k m i rest) where
  pub along_done : rest ≡ [] → m ≤ i
  along_done q = omega (arith, o.count, length-drop i (cells_on ws c c k), ap length (sym o.is ∙ q))

  module _ {cell : ℕ} {rest' : List ℕ} (q : rest ≡ cell ∷ rest') where
    along_some : i < m
    along_some = omega (arith, o.count, length-drop i (cells_on ws c c k), ap length (sym o.is ∙ q))

    both : cell ∷ rest' ≡ get_or (cells_on ws c c k) i 0 ∷ drop (i + 1) (cells_on ws c c k)
    both = sym q ∙ o.is ∙ rw (add-one, drop-cons (cells_on ws c c k) i 0 (omega (arith, o.count, along_some)))

    along_here : cell ≡ get_or (cells_on ws c c k) i 0
    along_here = let b = both in cc

    pub along_in : cell < c
    along_in = rw along_here (cells_in ws c c k i (omega (arith, o.count, along_some)))

    along_on : Along ws c k m (i + 1) rest'
    along_on = let b = both in record { count = o.count; is = cc }

    -- one cell more is passed
    along_take : take (i + 1) (cells_on ws c c k) ≡ take i (cells_on ws c c k) ++ (cell ∷ [])
    along_take = rw (add-one, along_here) (take-suc (cells_on ws c c k) i 0 (omega (arith, o.count, along_some)))

-- where no field is left there is no block
pub none_left : (ws : List ℕ) (c left k : ℕ) → left ≡ 0 → 0 ≡ blocks (tree_in ws c left k)
unfolding tree_in own_blocks under_blocks
none_left ws c left k e = rw e (omega arith)

-- THE BLOCKS of the tree at a cell: those of its chain, and of all below it
module _ (ws : List ℕ) (c left k : ℕ) where
  tree_own : (m : ℕ) → 0 < left → m ≡ length (cells_on ws c c k) → blocks (tree_in ws c left k) ≡ blocks_up (depth m) m + under_blocks (chain_at ws c left k)
  tree_own m h e = rw (tree_cells ws c left k h, chained_own (end_cell ws) (below_cell ws c left) (cells_on ws c c k), ← e)

  none_below : left ≡ 1 → (xs : List ℕ) → under_blocks (chain_by (end_cell ws) (below_cell ws c left) xs) ≡ 0
  unfolding under_blocks
  none_below e [] = refl
  none_below e (x ∷ xs) = omega (arith, none_left ws c (left - 1) (cell_word ws x 2) (omega arith), none_below e xs)

  -- in the last field there is no block below a chain
  pub last_left : {m total : ℕ} → left ≡ 1 → m ≡ length (cells_on ws c c k) → total ≡ blocks_up (depth m) m → total ≡ blocks (tree_in ws c left k)
  last_left {m} {total} e q t = omega (arith, tree_own m (omega arith) q, none_below e (cells_on ws c c k))

-- COUNTING: the blocks of the chain itself, and of what is below the cells that are passed
pub record Counted (ws : List ℕ) (c left k m : ℕ) (rest : List ℕ) (total : ℕ) : Type 0 where
  pub i : ℕ
  pub along : Along ws c k m i rest
  pub is : total ≡ blocks_up (depth m) m + under_blocks (chain_by (end_cell ws) (below_cell ws c left) (take i (cells_on ws c c k)))
  pub some : 0 < left
  pub room : blocks (tree_in ws c left k) ≤ 65536

pub counted_start : (ws : List ℕ) (c left k m total : ℕ) → 0 < left → blocks (tree_in ws c left k) ≤ 65536 → m ≡ length (cells_on ws c c k) → total ≡ blocks_up (depth m) m → Counted ws c left k m (cells_on ws c c k) total
unfolding under_blocks
counted_start ws c left k m total p r e q = record { i = 0; along = record { count = e; is = refl }; is = omega arith; some = p; room = r }

module _ (ws : List ℕ) (c left k m : ℕ) {rest : List ℕ} {total : ℕ} (o : Counted ws c left k m rest total) where
  pub counted_done : rest ≡ [] → total ≡ blocks (tree_in ws c left k)
  counted_done h =
      let d = along_done ws c k m o.i o.along h in
      o.is ∙ sym (tree_own ws c left k m o.some o.along.count ∙ ap (λ z. blocks_up (depth m) m + under_blocks (chain_by (end_cell ws) (below_cell ws c left) z)) (sym (take_all o.i (cells_on ws c c k) (omega (arith, o.along.count)))))

  module _ {cell : ℕ} {rest' : List ℕ} (q : rest ≡ cell ∷ rest') where
    pub counted_in : cell < c
    counted_in = along_in ws c k m o.i o.along q

    one_more : under_blocks (chain_by (end_cell ws) (below_cell ws c left) (take (o.i + 1) (cells_on ws c c k))) ≡ under_blocks (chain_by (end_cell ws) (below_cell ws c left) (take o.i (cells_on ws c c k))) + blocks (below_cell ws c left cell)
    one_more =
        ap (λ z. under_blocks (chain_by (end_cell ws) (below_cell ws c left) z)) (along_take ws c k m o.i o.along q) ∙ under_snoc (end_cell ws) (below_cell ws c left) (take o.i (cells_on ws c c k)) cell

    pub counted_room : total + blocks (below_cell ws c left cell) ≤ 65536
    counted_room = omega (arith, o.is, o.room, tree_own ws c left k m o.some o.along.count, one_more, under_take (end_cell ws) (below_cell ws c left) (cells_on ws c c k) (o.i + 1))

    pub counted_on : (g : ℕ) → g ≡ blocks (below_cell ws c left cell) → Counted ws c left k m rest' (total + g)
    counted_on g z = record { i = o.i + 1; along = along_on ws c k m o.i o.along q; is = omega (arith, o.is, one_more); some = o.some; room = o.room }

-- WRITING: the blocks of the chain at cell k, from block a on; its lowest level stands from block base on
pub record Turn (ws : List ℕ) (c left k a m n base : ℕ) (w₀ w : List ℕ) (i : ℕ) (rest : List ℕ) (b : ℕ) : Type 0 where
  pub goes : Goes w₀ w (end_cell ws) (below_cell ws c left) (cells_on ws c c k) base i b
  pub along : Along ws c k m i rest
  pub number : n ≡ parts m
  pub total : base + n ≡ a + blocks_up (depth m) m
  pub some : 0 < left
  pub room : Roomy w₀ a (tree_in ws c left k)
  pub named : Named (tree_in ws c left k)

-- a level that is written is a level of what is then there
level_self : {w₀ w : List ℕ} {b n : ℕ} {f g : ℕ → ℕ} → Level w₀ w b n f g → Level w w b n f g
level_self l = record { long = refl; before = refl; is = rw (level_rest l) l.is }

rebase : {w₀ w₁ w : List ℕ} {b n a past : ℕ} {f g : ℕ → ℕ} {t : Tree ℕ} → Level w₀ w₁ b n f g → a ≤ b → b + n ≤ a + blocks t → Written w₁ w a past t → Written w₀ w a past t
rebase {w₀} {w₁} {w} {b} {n} {a} {past} {f} {g} {t} l h k v =
    let z : 16 * (a + blocks t) ≡ 16 * (b + n) + 16 * (a + blocks t - (b + n)) = omega arith in
    let y : drop (16 * (a + blocks t)) w₁ ≡ drop (16 * (a + blocks t)) w₀ =
    rw (z, ← drop-drop (16 * (a + blocks t - (b + n))) (16 * (b + n)) w₁, ← drop-drop (16 * (a + blocks t - (b + n))) (16 * (b + n)) w₀, level_rest l) in
    record { next = v.next; before = v.before ∙ shorter (16 * a) (16 * b) w₁ w₀ (omega arith) l.before; is = v.is ∙ ap (tree_blocks t a) y }

-- what a chain names is what stands below its cells
named_at : (en : ℕ → ℕ) (u : ℕ → Tree ℕ) (xs : List ℕ) (i : ℕ) → i < length xs → Named (chain_by en u xs) → Named (u (get_or xs i 0))
unfolding Named
named_at en u [] i h n = absurd (omega arith)
named_at en u (x ∷ xs) zero h n = n.0
named_at en u (x ∷ xs) (suc i) h n = named_at en u xs i (omega arith) n.1

-- where a walk goes on below a cell: at a block, or where no field is left at the place that is named
entry_is : (ws : List ℕ) (c left k b : ℕ) → entry (tree_in ws c left k) b ≡ cond (eqb left 0) k b
unfolding entry tree_in
entry_is ws c zero k b = refl
entry_is ws c (suc left) k b = rw (ne_eqb (suc left) 0 (λ q. omega arith)) (ap (λ t. entry t b) (chain_cells ws c (λ d. tree_in ws c left d) c k) ∙ at_b (cells_on ws c c k))
  where
    at_b : (xs : List ℕ) → entry (chain_by (λ j. cell_word ws j 0) (λ j. tree_in ws c left (cell_word ws j 2)) xs) b ≡ b
    at_b [] = refl
    at_b (x ∷ xs) = refl

pub place_small : (ws : List ℕ) (c left k : ℕ) → Named (tree_in ws c left k) → left ≡ 0 → k ≤ 65535
unfolding Named tree_in
place_small ws c left k n e = rw e at n

module _ (ws : List ℕ) (c left k a m : ℕ) (p : 0 < left) (e : m ≡ length (cells_on ws c c k)) where
  -- the chain's own blocks have their room
  pub chain_fits : {w : List ℕ} → Roomy w a (tree_in ws c left k) → (16 * (a + blocks_up (depth m) m) ≤ length w) × (a + blocks_up (depth m) m ≤ 16777216)
  chain_fits o = (omega (arith, tree_own ws c left k m p e, o.fits), omega (arith, tree_own ws c left k m p e, o.few))

  pub turn_start : {w₀ w : List ℕ} {n base b : ℕ} → Roomy w₀ a (tree_in ws c left k) → Named (tree_in ws c left k) → n ≡ parts m → base + n ≡ a + blocks_up (depth m) m → b ≡ base + n
      → Level w₀ w base n (λ i. top_end) (λ i. 0) → Turn ws c left k a m n base w w 0 (cells_on ws c c k) b
  turn_start {w₀} {w} {n} {base} {b} o s q t z l = record {
    goes = goes_start w (end_cell ws) (below_cell ws c left) (cells_on ws c c k) base w m n b e q z (level_self l);
    along = record { count = e; is = refl };
    number = q;
    total = t;
    some = p;
    room = record { fits = omega (arith, l.long, o.fits); few = o.few };
    named = s;
  }

module _ (ws : List ℕ) (c left k a m : ℕ) {n base : ℕ} {w₀ w : List ℕ} {i : ℕ} {rest : List ℕ} {b : ℕ} (o : Turn ws c left k a m n base w₀ w i rest b) where
  module _ {cell : ℕ} {rest' : List ℕ} (h : rest ≡ cell ∷ rest') where
    some_left : i < m
    some_left = along_some ws c k m i o.along h

    pub turn_cell : cell < c
    turn_cell = along_in ws c k m i o.along h

    pub turn_in : 16 * (base + i / 8) + 16 ≤ length w
    turn_in = omega (arith, some_left, chain_fits ws c left k a m o.some o.along.count o.room, o.number, o.total, o.goes.long)

    turn_fits : (16 * (b + blocks (below_cell ws c left cell)) ≤ length w₀) × (b + blocks (below_cell ws c left cell) ≤ 16777216)
    turn_fits =
        let en = end_cell ws in
        let u = below_cell ws c left in
        let xs = cells_on ws c c k in
        let y = under_take en u xs (i + 1) in
        let s = ap (λ z. under_blocks (chain_by en u z)) (along_take ws c k m i o.along h) ∙ under_snoc en u (take i xs) cell in
        let t = tree_own ws c left k m o.some o.along.count in
        let q : parts m ≡ parts (length xs) = ap parts o.along.count in
        (omega (arith, o.room.fits, o.goes.next, o.number, o.total), omega (arith, o.room.few, o.goes.next, o.number, o.total))

    pub turn_room : Roomy w b (below_cell ws c left cell)
    turn_room = record { fits = omega (arith, turn_fits, o.goes.long); few = turn_fits.1 }

    pub turn_low : b ≤ 16777216
    turn_low = omega (arith, turn_fits)

    pub turn_named : Named (below_cell ws c left cell)
    turn_named =
        rw (along_here ws c k m i o.along h)
        (named_at (end_cell ws) (below_cell ws c left) (cells_on ws c c k) i (omega (arith, some_left, o.along.count)) (rw (tree_cells ws c left k o.some) at o.named))

    pub turn_on : {w' w'' : List ℕ} {past e l : ℕ} → w'' ≡ entered w' base i e l → length w' ≡ length w → Written w w' b past (below_cell ws c left cell) → e ≡ cell_word ws cell 0
        → l ≡ down_mark + cond (eqb (left - 1) 0) (cell_word ws cell 2) b → Turn ws c left k a m n base w₀ w'' (i + 1) rest' past
    turn_on {w'} {w''} {past} {e} {l} p q v y x =
        record {
          goes =
              rw p (goes_on w₀ (end_cell ws) (below_cell ws c left) (cells_on ws c c k) base w i b o.goes w' past cell e l (omega (arith, some_left, o.along.count)) (along_here ws c k m i o.along h) (omega (arith, turn_fits)) q v y
              (x ∙ ap (λ d. down_mark + d) (sym (entry_is ws c (left - 1) (cell_word ws cell 2) b))));
          along = along_on ws c k m i o.along h;
          number = o.number;
          total = o.total;
          some = o.some;
          room = o.room;
          named = o.named;
        }

  pub turn_above : (base + parts m ≡ a + blocks_up (depth m) m) × (16 * (base + parts m) ≤ length w) × (base + parts m ≤ 16777216)
  turn_above =
      let f = chain_fits ws c left k a m o.some o.along.count o.room in
      (omega (arith, o.number, o.total), omega (arith, o.number, o.total, o.goes.long), omega (arith, o.number, o.total))

  pub turn_done : {w₁ w' : List ℕ} {g h : ℕ → ℕ} → rest ≡ [] → Level w₁ w₀ base n g h → Raised w w' a base m → Written w₁ w' a b (tree_in ws c left k)
  turn_done {w₁} {w'} q l r =
      let d = along_done ws c k m i o.along q in
      let t = tree_own ws c left k m o.some o.along.count in
      rebase l (omega (arith, o.total, o.number, size_parts (depth m) m)) (omega (arith, o.total))
      (rw (tree_cells ws c left k o.some) (goes_done w₀ (end_cell ws) (below_cell ws c left) (cells_on ws c c k) base w i b o.goes w' a m (omega (arith, o.along.count)) o.along.count turn_above.0 r))

-- where no field is left nothing is written
pub written_none : (w ws : List ℕ) (c left k a : ℕ) → left ≡ 0 → Written w w a a (tree_in ws c left k)
unfolding tree_in own_blocks under_blocks chain_blocks below_blocks
written_none w ws c left k a e = rw e (let z : a + (0 + 0) ≡ a = omega arith in record { next = omega arith; before = refl; is = rw z })

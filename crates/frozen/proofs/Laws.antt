-- The words of an image: how many they are, what stands in them, and that a freeze of a store that passes writes them.
-- Assumes nothing.
use mathlib.Core.Path.{◌≡◌, refl, sym, ap, ap₂, ◌∙◌}
use mathlib.Core.Bool.{true, false}
use mathlib.Core.List.{List, [], ◌∷◌, ◌++◌, append_assoc}
use Prim.Native.Nat.{ℕ, ◌+◌, ◌-◌, ◌*◌, ◌≤◌, ◌<◌}
use native.Mathlib.Omega.{arith}
use native.Mathlib.Nat.{mul-le-mul_right}
use lib.ListN.{length, get_or, take, drop, length-append}
use lib.Seq.{take-add}
use borrow.Author.Tests.{le-leb, lt-leb}
use Rattle.model.proofs.Tests.{by_test}
use Rattle.model.specs.Rules.{Tree, names, stop, loc}
use Rattle.model.specs.Table.{Kind, Shaped, Table, row_words, front, within, cells_of}
use Rattle.rows.specs.Rows.{fields_at, tree_at}
use Rattle.table.specs.Rows.{rows_text, places}
use Rattle.table.proofs.Edits.{rows_long as rows_are_long}
use Rattle.layout.specs.Named.{stored}
use Rattle.layout.specs.Store.{head_text, cells_in, table_of, passes}
use Rattle.layout.proofs.Bridge.{stored_cells}
use Rattle.layout.proofs.Parts.{head_length, head_of, part_slice}
use Rattle.layout.proofs.Sound.{sound, Roomy, count_is}
use Rattle.layout.proofs.Passed.{sound_within, sound_most, sound_room}
use Rattle.layout.proofs.Words.{in_places}
use Rattle.search.specs.Links.{tree_in}
use Rattle.tied.proofs.Places.{All, all_tree, ties}
use Rattle.blocks.specs.Blocks.{blocks, blocks_text}
use Rattle.blocks.specs.Written.{Named}
use Rattle.blocks.proofs.Words.{image_length}
use Rattle.blocks.proofs.Sums.{blocks_cells}
use Rattle.frozen.specs.Frozen.{image_size, image_text, total_says, total_gives, freeze_says, freeze_words}

-- THE LENGTH of an image is its size
pub image_size_lem : (k : Kind) → Shaped k → (t : Table) → length (image_text k t) ≡ image_size k t
unfolding image_text
image_size_lem k s t =
    let n = length t.rules in
    let b = blocks_text (stored k t) in
    omega (
      arith,
      length-append (head_text k 0 n) (rows_text k t ++ (0 ∷ 0 ∷ b)),
      head_length k s 0 n [],
      length-append (rows_text k t) (0 ∷ 0 ∷ b),
      rows_are_long k t,
      image_length (stored k t),
    )

-- a table that a store holds has no more blocks than cells
pub few_blocks : (k : Kind) → Shaped k → (t : Table) → within k t ≡ true → cells_of k t ≤ 65536 → blocks (stored k t) ≤ 65536
few_blocks k s t h l = omega (arith, blocks_cells (stored k t), stored_cells k s t h)

-- the places of its rules fit behind a mark
named : (t : Tree ℕ) → All (λ x. x ≤ 65535) t → Named t
unfolding Named
named (names x) h = h
named stop h = tt
named (loc e u t) h = (named u h.0, named t h.1)

pub stored_named : (k : Kind) → Shaped k → (t : Table) → length t.rules ≤ k.most → Named (stored k t)
unfolding stored tree_at
stored_named k s t l =
    named _ (all_tree (λ x. x ≤ 65535) (omega arith) (fields_at (rows_text k t) 0 (length k.tops)) (places k.width (length t.rules))
    (λ q m.
    let i = in_places k.width (length t.rules) q m in
    let x = mul-le-mul_right i.0 s.narrow in
    omega (arith, i.1, i.2, x, s.few)))

-- the tree that the cells of a store give by their links, where E is the code's end of the rows
abbrev pub tree_from : Kind → ℕ → List ℕ → Tree ℕ
tree_from k E ws = tree_in (take (E + (2 + 8 * cells_in ws) - E) (drop E ws)) (cells_in ws) (length k.tops) (get_or (take (E + (2 + 8 * cells_in ws) - E) (drop E ws)) 1 0)

-- A STORE THAT PASSES
module _ (k : Kind) (s : Shaped k) (ws : List ℕ) (p : passes k ws ≡ true) where
  right : within k (table_of k ws) ≡ true
  right = sound_within k s ws (sound k s ws p)

  pub room : Roomy k (cells_in ws) ws
  room = sound_room k s ws (sound k s ws p)

  -- its blocks are not too many, and its places are small
  pub its_blocks : blocks (stored k (table_of k ws)) ≤ 65536
  its_blocks = few_blocks k s (table_of k ws) right (omega (arith, sound_most k s ws (sound k s ws p), room.most))

  pub its_names : Named (stored k (table_of k ws))
  its_names = stored_named k s (table_of k ws) (omega (arith, count_is k s ws, (sound k s ws p).few))

  -- the front of its image, from the words before its links
  module _ (E : ℕ) (g : E ≡ k.head + row_words k) where
    before_links : take E ws ≡ head_text k (cells_in ws) (length (table_of k ws).rules) ++ rows_text k (table_of k ws)
    before_links =
        let o = sound k s ws p in
        ap (λ n. take n ws) g
        ∙ take-add k.head (row_words k) ws
        ∙ ap₂ ◌++◌ (head_of k s ws (omega (arith, room.long)) o.marked o.zeros ∙ ap (head_text k (cells_in ws)) (sym (count_is k s ws))) o.rows

    pub front_is : (b : List ℕ) → b ≡ blocks_text (stored k (table_of k ws)) → ((0 ∷ drop 1 (take E ws)) ++ (0 ∷ 0 ∷ [])) ++ b ≡ image_text k (table_of k ws)
    unfolding image_text head_text
    front_is b e = rw (before_links, e) (append_assoc (head_text k 0 (length (table_of k ws).rules) ++ rows_text k (table_of k ws)) (0 ∷ 0 ∷ []) (blocks_text (stored k (table_of k ws))) ∙ append_assoc (head_text k 0 (length (table_of k ws).rules)) (rows_text k (table_of k ws)) (0 ∷ 0 ∷ blocks_text (stored k (table_of k ws))))

    pub tree_is : tree_from k E ws ≡ stored k (table_of k ws)
    tree_is = rw (part_slice k ws E g (cells_in ws)) (ties.tree k s ws p)

    -- WHAT THE CODE SAYS where the check passed
    pub says_total : (n b : ℕ) → b ≡ blocks (tree_from k E ws) → n ≡ E + 2 + 16 * b → (0 ≡ total_says k ws) × (n ≡ total_gives k ws)
    says_total n b e q = rw p (refl, omega (arith, e, ap blocks tree_is))

    pub total_small : {b : ℕ} → b ≡ blocks (tree_from k E ws) → b ≤ 65536
    total_small e = omega (arith, e, ap blocks tree_is, its_blocks)

  -- the total, where it is said, and whether the slice is shorter
  module _ (image : List ℕ) (n : ℕ) (e : n ≡ total_gives k ws) where
    the_total : n ≡ image_size k (table_of k ws)
    the_total = e ∙ rw p

    pub freeze_8 : length image < n → (8 ≡ freeze_says k ws image) × (image ≡ freeze_words k ws image)
    freeze_8 h = rw (p, lt-leb (image_size k (table_of k ws)) (length image) (omega (arith, the_total))) (refl, refl)

    pub freeze_fits : n ≤ length image → image_size k (table_of k ws) ≤ length image
    freeze_fits h = omega (arith, the_total)

    pub freeze_0 : n ≤ length image → (image' : List ℕ) → image' ≡ image_text k (table_of k ws) ++ drop (image_size k (table_of k ws)) image → (0 ≡ freeze_says k ws image) × (image' ≡ freeze_words k ws image)
    freeze_0 h image' q = rw (p, le-leb (image_size k (table_of k ws)) (length image) (freeze_fits h)) (refl, q)

-- a store that fails
module _ (k : Kind) (ws : List ℕ) (p : passes k ws ≡ false) where
  pub total_9 : (9 ≡ total_says k ws) × (0 ≡ total_gives k ws)
  total_9 = rw p (refl, refl)

-- the total is refused exactly where the check fails
module _ (k : Kind) (ws : List ℕ) (a : ℕ) (e : a ≡ total_says k ws) where
  pub freeze_9 : (image : List ℕ) → (a ≡ 0 → ⊥) → (a ≡ freeze_says k ws image) × (image ≡ freeze_words k ws image)
  freeze_9 image h = by_test (passes k ws) (λ p. absurd (h (e ∙ rw p))) (λ p. (e ∙ rw p, rw p))

  pub total_passes : a ≡ 0 → passes k ws ≡ true
  total_passes q = by_test (passes k ws) (λ p. p) (λ p. absurd (let z : ◌≡◌ {A = ℕ} 9 0 = sym (rw p at e) ∙ q in omega arith))

-- Over cells that hold a tree, the walk is the tree's walk: it comes to the place that the tree's walk finds, and reads as many cells. Where the words have a table's rows, the place of its winner names the winner.
-- Assumes nothing.
use mathlib.Core.Path.{◌≡◌, refl, sym, ap, ◌∙◌}
use mathlib.Core.Bool.{Bool, true, false, cond}
use mathlib.Core.List.{List, [], ◌∷◌}
use mathlib.Core.Option.{some}
use Prim.Native.Nat.{ℕ, suc, ◌+◌, ◌-◌, ◌*◌, ◌%◌, ◌≤◌, ◌<◌}
use native.Mathlib.Omega.{arith}
use lib.Dec.{ltb}
use lib.ListN.{length, get_or, drop}
use lib.Seq.{get_or-take, get_or-drop}
use borrow.Author.Tests.{ltb-true, ltb-false, le-leb}
use Rattle.model.specs.Rules.{Tree, names, stop, loc, cells, found, reads}
use Rattle.cells.specs.Text.{width, under, first, part}
use Rattle.cells.specs.Planted.{Deep}
use Rattle.cells.proofs.From.{Stands, end_here, next_here, down_here, rest_stands, under_stands, part_stands}
use lib.Arith.{digits_mod}
use Rattle.model.specs.Table.{Kind, Rule, Table, Shaped, row_words, winner_of}
use Rattle.model.proofs.Grid.{row_starts, row_ends}
use Rattle.table.specs.Rows.{rows_text}
use Rattle.layout.specs.Store.{size, cells_in, rows_of}
use Rattle.layout.proofs.Bridge.{Decided}
use Rattle.lookup.specs.Walk.{led_to, through, seek_of, on_from, through_of, walk_of, part_in, begins, found_in, lookup_in}
use Rattle.lookup.proofs.Steps.{seek_here, seek_next, enough_words}

module _ (w : List ℕ) (c : ℕ) where
  -- what the walk of a tree says, from the cell where it begins; and the walk of one field, where n more cells may be read and r were
  abbrev Walks : Tree ℕ → ℕ → List ℕ → Type 0
  Walks t a vs = (q p : ℕ) → found t vs ≡ some p → through_of w c vs (first c t a).down q ≡ led_to p (q + reads t vs)

  abbrev Seeks : Tree ℕ → ℕ → ℕ → List ℕ → Type 0
  Seeks t a v vs = (n r q p : ℕ) → width t ≤ n → found t (v ∷ vs) ≡ some p
      → on_from (λ d m. through_of w c vs d (q + m)) (seek_of w c v n (first c t a).down r) ≡ led_to p (q + r + reads t (v ∷ vs))

  walks : (t : Tree ℕ) (a : ℕ) (vs : List ℕ) → Deep t (length vs) → a + width t ≤ c → ((v : ℕ) (ws : List ℕ) → Deep t (suc (length ws)) → Seeks t a v ws) → Walks t a vs
  unfolding Deep through first
  walks (names x) a [] d h k q p f = let y : x ≡ p = cc in let z : q + 0 ≡ q = omega arith in rw (y, z)
  walks stop a [] d h k q p f = absurd (omega arith)
  walks (loc e u t) a [] d h k q p f = absurd (omega (arith, d.0))
  walks t a (v ∷ vs) d h k q p f =
      let z : q + 0 + reads t (v ∷ vs) ≡ q + reads t (v ∷ vs) = omega arith in
      k v vs d c 0 q p (omega arith) f ∙ ap (λ r. led_to p r) z

  -- one cell of a chain
  module _ (e : ℕ) (u t : Tree ℕ) (a b : ℕ) (o : Stands 2 w c (loc e u t) a b) where
    at_end : get_or w (2 + 8 * (a + width t)) 0 ≡ e
    at_end = end_here 2 w c o

    step : (v : ℕ) (vs : List ℕ) → Deep t (suc (length vs)) → Seeks t a v vs → Walks u (b + under t) vs → Seeks (loc e u t) a v vs
    unfolding first width
    step v vs d on down n r q p h = go (ltb e v) refl
      where
        in_cells : a + width t < c
        in_cells = omega (arith, o.wide)

        go : (x : Bool) → ltb e v ≡ x → cond x (found t (v ∷ vs)) (found u vs) ≡ some p
            → on_from (λ k m. through_of w c vs k (q + m)) (seek_of w c v n (a + width t) r) ≡ led_to p (q + r + suc (cond x (reads t (v ∷ vs)) (reads u vs)))
        go true x f =
            let z : q + (r + 1) + reads t (v ∷ vs) ≡ q + r + suc (reads t (v ∷ vs)) = omega arith in
            let l : get_or w (2 + 8 * (a + width t)) 0 < v = omega (arith, at_end, ltb-true e v x) in
            rw (seek_next w c v n (n - 1) (a + width t) r (omega arith) in_cells l, next_here 2 w c o d (omega arith), ← z)
            (on (n - 1) (r + 1) q p (omega arith) f)
        go false x f =
            let z : q + (r + 1) + reads u vs ≡ q + r + suc (reads u vs) = omega arith in
            let l : v ≤ get_or w (2 + 8 * (a + width t)) 0 = omega (arith, at_end, ltb-false e v x) in
            rw (seek_here w c v n (a + width t) r (omega arith) in_cells l, down_here 2 w c o, ← z)
            (down (q + (r + 1)) p f)

  -- a chain, by its cells; and what is below it
  seeks : (t : Tree ℕ) (a b : ℕ) → Stands 2 w c t a b → (v : ℕ) (vs : List ℕ) → Deep t (suc (length vs)) → Seeks t a v vs
  unfolding Deep
  seeks (names x) a b o v vs d n r q p h f = absurd (omega arith)
  seeks stop a b o v vs d n r q p h f = let z : ◌≡◌ {A = ℕ} 0 1 = cc in absurd (omega arith)
  seeks (loc e u t) a b o v vs d n r q p h f =
      let y : suc (length vs) - 1 ≡ length vs = omega arith in
      let below = under_stands 2 w c o in
      step e u t a b o v vs d.2
      (seeks t a b (rest_stands 2 w c o) v vs d.2)
      (walks u (b + under t) vs (rw y at d.1) below.wide (seeks u (b + under t) (b + under t + width u) below))
      n r q p h f

-- THE WALK over a part that holds a tree of as many fields as there are values
module _ (c : ℕ) (t : Tree ℕ) (h : cells t ≤ c) where
  pub walk_tree : (vs : List ℕ) (p : ℕ) → Deep t (length vs) → found t vs ≡ some p → walk_of (part c t) c vs ≡ led_to p (reads t vs)
  unfolding walk_of part
  walk_tree vs p d f =
      let z : 0 + reads t vs ≡ reads t vs = omega arith in
      walks (part c t) c t 0 vs d (part_stands c t h).wide (seeks (part c t) c t 0 (0 + width t) (part_stands c t h)) 0 p f ∙ ap (λ r. led_to p r) z

-- THE LOOKUP over words of a kind whose part with the cells holds such a tree
pub lookup_tree : (k : Kind) (w vs : List ℕ) (t : Tree ℕ) (p : ℕ) → get_or w 2 0 ≡ k.mark → length k.tops ≤ cells_in w → cells_in w ≤ 65536 → size k (cells_in w) ≤ length w
    → part_in k w ≡ part (cells_in w) t → cells t ≤ cells_in w → Deep t (length vs) → found t vs ≡ some p
    → lookup_in k w vs ≡ found_in k w (led_to p (reads t vs))
lookup_tree k w vs t p n a b l e h d f =
    sym (enough_words k w vs n a b l)
    ∙ ap (λ x. found_in k w (walk_of x (cells_in w) vs)) e
    ∙ ap (found_in k w) (walk_tree (cells_in w) t h vs p d f)

-- where a row of the table begins
pub begins_row : (k : Kind) (s : Shaped k) (n q : ℕ) → q ≤ k.most → q ≤ n → begins k n (k.width * q) ≡ true
begins_row k s n q a b =
    let y : k.width * q ≡ q * k.width + 0 = omega arith in
    let z : (k.width * q) % k.width ≡ 0 = rw y (digits_mod q (omega (arith, s.ends))) in
    rw (le-leb (k.width * q) (k.width * k.most) (row_starts k.width q k.most a), le-leb (k.width * q) (k.width * n) (row_starts k.width q n b), z)

-- THE RULE at the place that a walk finds for some values in the tree of a table's cells, where the words have the table's rows
module _ (k : Kind) (s : Shaped k) (t : Table) (few : length t.rules ≤ k.most) (w : List ℕ) (count : get_or w 1 0 ≡ length t.rules) (rows : rows_of k w ≡ rows_text k t) where
  -- word i of the rows
  row_word_lem : (i : ℕ) → i < row_words k → get_or w (k.head + i) 0 ≡ get_or (rows_text k t) i 0
  row_word_lem i l = sym (get_or-take (row_words k) (drop k.head w) i 0 l ∙ get_or-drop k.head w i 0) ∙ ap (λ x. get_or x i 0) rows

  pub rule_found : (vs : List ℕ) (f : Decided k t vs) (r : ℕ) → found_in k w (led_to f.place r) ≡ record { answer = 0; rule = (winner_of k t vs).number; action = (winner_of k t vs).action; reads = r }
  rule_found vs f r =
      let p = f.place in
      let b : begins k (get_or w 1 0) p ≡ true = rw f.begins (begins_row k s (get_or w 1 0) f.row (omega (arith, f.in_table)) (omega (arith, f.in_table))) in
      let l : p + 1 < row_words k = omega (arith, f.begins, f.in_table, row_ends k.width f.row (k.most + 1) (omega (arith, f.in_table)), s.ends) in
      let y : k.head + p + 1 ≡ k.head + (p + 1) = omega arith in
      let x = row_word_lem p (omega arith) ∙ ap (λ (z : Rule). z.number) f.winner in
      let a = ap (λ i. get_or w i 0) y ∙ row_word_lem (p + 1) l ∙ ap (λ (z : Rule). z.action) f.winner in
      simp b (λ i. record { answer = 0; rule = x i; action = a i; reads = r })

-- Over the blocks of a tree, whatever stands behind them, the walk is the tree's walk: it comes to the place that the tree's walk finds, and reads one block for each level of each chain on its way.
-- Assumes nothing.
use mathlib.Core.Path.{◌≡◌, refl, ap, ◌∙◌}
use mathlib.Core.Bool.{Bool, true, false, cond}
use mathlib.Core.List.{List, [], ◌∷◌}
use mathlib.Core.Option.{some}
use Prim.Native.Nat.{ℕ, zero, suc, ◌+◌, ◌-◌, ◌*◌, ◌≤◌, ◌<◌}
use native.Mathlib.Omega.{arith}
use lib.Dec.{ltb}
use lib.ListN.{length, drop}
use lib.Seq.{drop-drop}
use borrow.Author.Tests.{ltb-true, ltb-false, le-ltb}
use Rattle.model.specs.Rules.{Tree, names, stop, loc, found}
use Rattle.cells.specs.Text.{width}
use Rattle.cells.specs.Planted.{Deep}
use Rattle.blocks.specs.Blocks.{top_end, down_mark, pow8, depth, levels, own_blocks, under_blocks, blocks, entry, end_at_place, link_at_place, chain_blocks, below_blocks, tree_blocks, reads_below, block_reads}
use Rattle.blocks.proofs.Levels.{depth_enough, depth_least, size_holds}
use Rattle.blocks.proofs.Words.{Sorted, chain_past, belows_past}
use Rattle.lookup.specs.Walk.{led_to, through}
use Rattle.image.specs.Walk.{seek_blocks, through_blocks, walk_blocks}
use Rattle.image.proofs.Seeks.{Splits, seek_lay}

-- how many ends a walk of the chain passes
abbrev passed : Tree ℕ → ℕ → ℕ
passed (names x) v = 0
passed stop v = 0
passed (loc e u t) v = cond (ltb e v) (suc (passed t v)) 0

splits : (t : Tree ℕ) (v : ℕ) → Sorted t → v ≤ top_end → Splits (end_at_place t) v (passed t v)
unfolding end_at_place Sorted
splits (names x) v o h = record { passed = λ i l. absurd (omega arith); kept = λ i l. h }
splits stop v o h = record { passed = λ i l. absurd (omega arith); kept = λ i l. h }
splits (loc e u t) v o h = go (splits t v o.2 h) (ltb e v) refl
  where
    go : Splits (end_at_place t) v (passed t v) → (b : Bool) → ltb e v ≡ b → Splits (end_at_place (loc e u t)) v (cond b (suc (passed t v)) 0)
    go ih true q = record { passed = low; kept = high }
      where
        low : (i : ℕ) → i < suc (passed t v) → end_at_place (loc e u t) i < v
        low zero l = ltb-true e v q
        low (suc i) l = ih.passed i (omega arith)

        high : (i : ℕ) → suc (passed t v) ≤ i → v ≤ end_at_place (loc e u t) i
        high zero l = absurd (omega arith)
        high (suc i) l = ih.kept i (omega arith)
    go ih false q = record { passed = λ i l. absurd (omega arith); kept = high }
      where
        high : (i : ℕ) → 0 ≤ i → v ≤ end_at_place (loc e u t) i
        high zero l = ltb-false e v q
        high (suc i) l = omega (arith, ltb-false e v q, o.0 i)

-- a walk that finds something stops within the chain
within : (t : Tree ℕ) (v : ℕ) (vs : List ℕ) (p d : ℕ) → Deep t (suc d) → found t (v ∷ vs) ≡ some p → passed t v < width t
unfolding Deep width
within (names x) v vs p d h f = absurd (omega arith)
within stop v vs p d h f = let z : ◌≡◌ {A = ℕ} 0 1 = cc in absurd (omega arith)
within (loc e u t) v vs p d h f = go (within t v vs p d h.2) (ltb e v) f
  where
    go : (found t (v ∷ vs) ≡ some p → passed t v < width t) → (b : Bool) → cond b (found t (v ∷ vs)) (found u vs) ≡ some p → cond b (suc (passed t v)) 0 < width t + 1
    go ih true f = omega (arith, ih f)
    go ih false f = omega arith

-- no value is above the greatest
abbrev pub Words : List ℕ → Type 0
Words [] = Unit {0}
Words (v ∷ vs) = (v ≤ top_end) × Words vs

-- THE WALK of words in which a tree stands
module _ (w : List ℕ) where
  abbrev Walks : Tree ℕ → ℕ → List ℕ → Type 0
  Walks u b vs = (r p : ℕ) → found u vs ≡ some p → through_blocks w vs (entry u b) r ≡ led_to p (r + block_reads u vs)

  -- behind the link of the end at which the walk of a chain stops
  record Led (t : Tree ℕ) (b v : ℕ) (vs : List ℕ) (r p : ℕ) : Type 0 where
    place : ℕ
    link : link_at_place t b (passed t v) ≡ down_mark + place
    on : through_blocks w vs place r ≡ led_to p (r + reads_below t (v ∷ vs))

  abbrev Leads : Tree ℕ → ℕ → ℕ → List ℕ → Type 0
  Leads t b v vs = (r p : ℕ) → found t (v ∷ vs) ≡ some p → Led t b v vs r p

  walks : (t : Tree ℕ) (a : ℕ) (s vs : List ℕ) → Deep t (length vs) → Sorted t → Words vs → a + own_blocks t ≤ 1048576 → drop (16 * a) w ≡ chain_blocks t a (a + own_blocks t) s
      → ((v : ℕ) (ws : List ℕ) → Deep t (suc (length ws)) → Words ws → Leads t (a + own_blocks t) v ws) → Walks t a vs
  unfolding Deep through entry chain_blocks own_blocks pow8 width
  walks (names x) a s [] d o n low st k r p f = let y : x ≡ p = cc in let z : r + (0 + 0) ≡ r = omega arith in rw (y, z)
  walks (names x) a s (v ∷ vs) d o n low st k r p f = absurd (omega arith)
  walks stop a s vs d o n low st k r p f = let z : ◌≡◌ {A = ℕ} 0 1 = cc in absurd (omega arith)
  walks (loc e u t) a s [] d o n low st k r p f = absurd (omega (arith, d.0))
  walks (loc e u t) a s (v ∷ vs) d o n low st k r p f =
      let m = width t + 1 in
      let g : ℕ → ℕ = link_at_place (loc e u t) (a + own_blocks (loc e u t)) in
      let q = passed (loc e u t) v in
      let few = depth_least m 7 (omega (arith, size_holds (depth m) m)) in
      let z : suc (depth m) + (7 - depth m) ≡ 8 = omega arith in
      let y : r + (0 + suc (depth m)) + reads_below (loc e u t) (v ∷ vs) ≡ r + (levels m + reads_below (loc e u t) (v ∷ vs)) = omega arith in
      let l = k v vs d n.1 (r + (0 + suc (depth m))) p f in
      let x : down_mark + l.place - down_mark ≡ l.place = omega arith in
      let seek : seek_blocks w v 8 a 0 ≡ led_to l.place (0 + suc (depth m)) =
      rw z at (seek_lay w v (depth m) a m (end_at_place (loc e u t)) g s q (7 - depth m) 0 (omega arith) st (depth_enough m) (within (loc e u t) v vs p (length vs) d f) (splits (loc e u t) v o n.0))
      ∙ simp (l.link, le-ltb (down_mark + l.place) down_mark (omega arith), x) in
      rw (seek, ← y) l.on

  -- what is below a chain, by its locations
  leads : (t : Tree ℕ) (b : ℕ) (s : List ℕ) (v : ℕ) (vs : List ℕ) → Deep t (suc (length vs)) → Sorted t → Words vs → b + under_blocks t ≤ 1048576 → drop (16 * b) w ≡ below_blocks t b s → Leads t b v vs
  unfolding Deep Sorted below_blocks link_at_place under_blocks
  leads (names x) b s v vs d o n low st r p f = absurd (omega arith)
  leads stop b s v vs d o n low st r p f = let z : ◌≡◌ {A = ℕ} 0 1 = cc in absurd (omega arith)
  leads (loc e u t) b s v vs d o n low st r p f =
      let y : suc (length vs) - 1 ≡ length vs = omega arith in
      let rest = below_blocks t (b + blocks u) s in
      let here = below_blocks u (b + own_blocks u) rest in
      let z : 16 * (b + own_blocks u) ≡ 16 * b + 16 * own_blocks u = omega arith in
      let z' : 16 * (b + blocks u) ≡ 16 * (b + own_blocks u) + 16 * under_blocks u = omega arith in
      let st' : drop (16 * (b + own_blocks u)) w ≡ here = rw (z, ← drop-drop (16 * own_blocks u) (16 * b) w, st) (chain_past u b (b + own_blocks u) here) in
      let st'' : drop (16 * (b + blocks u)) w ≡ rest = rw (z', ← drop-drop (16 * under_blocks u) (16 * (b + own_blocks u)) w, st') (belows_past u (b + own_blocks u) rest) in
      go (leads t (b + blocks u) s v vs d.2 o.2 n (omega arith) st'' r p)
      (walks u b here vs (rw y at d.1) o.1 n (omega arith) st (λ x ws d' n'. leads u (b + own_blocks u) rest x ws d' o.1 n' (omega arith) st') r p)
      (ltb e v) refl f
    where
      go : (found t (v ∷ vs) ≡ some p → Led t (b + blocks u) v vs r p) → (found u vs ≡ some p → through_blocks w vs (entry u b) r ≡ led_to p (r + block_reads u vs))
          → (x : Bool) → ltb e v ≡ x → cond x (found t (v ∷ vs)) (found u vs) ≡ some p → Led (loc e u t) b v vs r p
      go on down true q f = let l = on f in record { place = l.place; link = rw q l.link; on = rw q l.on }
      go on down false q f = record { place = entry u b; link = rw q; on = rw q (down f) }

begin : (t : Tree ℕ) (d : ℕ) → 0 < d → Deep t d → entry t 0 ≡ 0
unfolding Deep entry
begin (names x) d l h = absurd (omega arith)
begin stop d l h = refl
begin (loc e u t) d l h = refl

-- THE WALK over the blocks of a tree and any words behind them: the place that the tree's walk finds, and the blocks read
pub walk_image : (t : Tree ℕ) (behind vs : List ℕ) (p : ℕ) → blocks t ≤ 1048576 → 0 < length vs → Deep t (length vs) → Sorted t → Words vs → found t vs ≡ some p
    → walk_blocks (tree_blocks t 0 behind) vs ≡ led_to p (block_reads t vs)
unfolding walk_blocks
walk_image t behind vs p h l d o n f =
    let w = tree_blocks t 0 behind in
    let s = below_blocks t (0 + own_blocks t) behind in
    let y : 16 * (0 + own_blocks t) ≡ 16 * own_blocks t = omega arith in
    let z : 0 + block_reads t vs ≡ block_reads t vs = omega arith in
    let b : drop (16 * (0 + own_blocks t)) w ≡ s = rw y (chain_past t 0 (0 + own_blocks t) s) in
    rw (begin t (length vs) l d) at (walks w t 0 s vs d o n (omega arith) refl (λ v ws d' n'. leads w t (0 + own_blocks t) behind v ws d' o n' (omega arith) b) 0 p f) ∙ ap (λ r. led_to p r) z

-- A chain in the middle of building or dropping: the run stands whole, and below a part p of it, its highest ends, stands all that belongs there; what the other cells say of what is below them is anything. One law each for a read and a write in the middle of a run.
-- Assumes nothing.
use mathlib.Core.Path.{◌≡◌, refl, sym, ap, ◌∙◌}
use mathlib.Core.List.{List, [], ◌++◌}
use Prim.Native.Nat.{ℕ, ◌+◌, ◌*◌}
use native.Mathlib.Omega.{arith}
use lib.ListN.{get_or, set}
use Rattle.model.specs.Rules.{Tree}
use Rattle.cells.specs.Text.{cell_word, cell, frees, Run, snoc, len, low, row, width, under, marks, belows}
use Rattle.cells.specs.declared.Below.{Below}
use Rattle.cells.specs.States.{State}
use Rattle.cells.proofs.Text.{row_app, row_length, marks_len}
use Rattle.cells.proofs.State.{set_add, get_d_add, st_word}

-- the rest of a run, from a cell on: the ends and what is below each, highest end first
pub data Rest : Type 0 where
  done : Rest
  next : ℕ → Below → Rest → Rest

unfoldable pub join : Run → Rest → Run
join s done = s
join s (next e d l) = join (snoc s e d) l

unfoldable pub count : Rest → ℕ
count done = 0
count (next e d l) = count l + 1

len_join : (s : Run) (l : Rest) → len (join s l) ≡ len s + count l
unfolding join len count
len_join s done = omega arith
len_join s (next e d l) = omega (arith, len_join (snoc s e d) l)

-- the text of the rest, whose first cell is k, behind cell x
unfoldable pub tail : ℕ → ℕ → Rest → List ℕ → List ℕ
tail x k done r = r
tail x k (next e d l) r = cell e x d (tail k (k + 1) l r)

row_join : (c : ℕ) (s : Run) (l : Rest) (a k : ℕ) (r : List ℕ) → k ≡ a + len s → row c (join s l) a r ≡ row c s a (tail (low c s a) k l r)
unfolding join tail row len low
row_join c s done a k r h = refl
row_join c s (next e d l) a k r h = rw h (row_join c (snoc s e d) l a (a + len s + 1) r (omega arith))

-- what stands behind the cell that follows the run s
abbrev onward : Run → Rest → ℕ → List ℕ → List ℕ
onward s l a r = tail (a + len s) (a + len s + 1) l r

row_mid : (c : ℕ) (s : Run) (e : ℕ) (d : Below) (l : Rest) (a : ℕ) (r : List ℕ) → row c (join (snoc s e d) l) a r ≡ row c s a [] ++ cell e (low c s a) d (onward s l a r)
unfolding row low len
row_mid c s e d l a r = row_join c (snoc s e d) l a (a + len s + 1) r (omega arith) ∙ row_app c s a (cell e (low c s a) d (onward s l a r))

row_get : (c : ℕ) (s : Run) (e : ℕ) (d : Below) (l : Rest) (a : ℕ) (r : List ℕ) (j : ℕ) → get_or (row c (join (snoc s e d) l) a r) (8 * len s + j) 0 ≡ get_or (cell e (low c s a) d (onward s l a r)) j 0
row_get c s e d l a r j = rw (row_mid c s e d l a r) (get_d_add (row c s a []) _ j _ (omega (arith, row_length c s a [])))

pub row_put : (c : ℕ) (s : Run) (e : ℕ) (d v : Below) (l : Rest) (a : ℕ) (r : List ℕ) → set (set (row c (join (snoc s e d) l) a r) (8 * len s + 2) v.down) (8 * len s + 3) v.side ≡ row c (join (snoc s e v) l) a r
row_put c s e d v l a r =
    let f = row c s a [] in
    let k = cell e (low c s a) d (onward s l a r) in
    ap (λ y. set (set y (8 * len s + 2) v.down) (8 * len s + 3) v.side) (row_mid c s e d l a r)
    ∙ ap (λ y. set y (8 * len s + 3) v.side) (set_add f k 2 v.down (8 * len s + 2) (omega (arith, row_length c s a [])))
    ∙ set_add f (set k 2 v.down) 3 v.side (8 * len s + 3) (omega (arith, row_length c s a []))
    ∙ sym (row_mid c s e v l a r)

-- the run is p's and then l, what is below p stands from cell b on, and then come n free cells
pub record Mid (ws : List ℕ) (c a b n : ℕ) (q : List ℕ) (p : Tree ℕ) (l : Rest) : Type 0 where
  pub wide : b ≡ a + (width p + count l)
  pub state : State ws c (b + under p) a q (row c (join (marks c p b) l) a (belows c p b (frees (b + under p) n)))

pub mid_wide : (c a b : ℕ) (p : Tree ℕ) (l : Rest) → b ≡ a + (width p + count l) → b ≡ a + len (join (marks c p b) l)
mid_wide c a b p l h = omega (arith, len_join (marks c p b) l, marks_len c p b)

-- a word of the first cell behind p's
pub run_word : {ws : List ℕ} {c x a : ℕ} {q : List ℕ} (p : Tree ℕ) (b e : ℕ) (d : Below) (l : Rest) (r : List ℕ) → State ws c x a q (row c (join (snoc (marks c p b) e d) l) a r) → (k j : ℕ) → k ≡ a + width p
    → cell_word ws k j ≡ get_or (cell e (low c (marks c p b) a) d (onward (marks c p b) l a r)) j 0
run_word {ws} {c} {x} {a} p b e d l r s k j h =
    st_word s k j (8 * len (marks c p b) + j) (omega (arith, marks_len c p b)) ∙ row_get c (marks c p b) e d l a r j

-- A run grows by a cell that is taken off the free chain, and shrinks by one that is given back.
-- Assumes nothing.
use mathlib.Core.Path.{◌≡◌, refl, sym, subst}
use mathlib.Core.List.{List, [], ◌++◌}
use Prim.Native.Nat.{ℕ, ◌+◌, ◌<◌}
use native.Mathlib.Omega.{arith}
use lib.ListN.{length, set}
use Rattle.cells.specs.Text.{at, cell_word, only_down, cell, frees, Run, nil, snoc, len, low, row}
use Rattle.cells.specs.declared.Below.{Below}
use Rattle.cells.specs.States.{first_free, wrote, State, Rows}
use Rattle.cells.proofs.Text.{row_app, row_length, frees_cons}
use Rattle.cells.proofs.State.{st_head, st_length, st_word, st_start, st_put, st_undo, row_past, row_back}

-- the words once the first cell of the free chain is taken
abbrev pub took : List ℕ → List ℕ
took ws = set ws 0 (cell_word ws (first_free ws) 1)

-- the words once cell k is given back
abbrev pub gave : List ℕ → ℕ → List ℕ
gave ws k = set (wrote ws k 0 (first_free ws) (only_down 0)) 0 k

-- no run stands yet
pub rows_none : (ws : List ℕ) (c a n : ℕ) (q : List ℕ) → State ws c a a q (frees a n) → Rows ws c c a n q nil
unfolding len low row
rows_none ws c a n q s = let z : a + 0 ≡ a = omega arith in record { lowest = refl; state = rw z s }

-- the run s stands, and of the free cells behind it one is taken and written
module _ {ws : List ℕ} {h c a n' : ℕ} {q : List ℕ} {s : Run} (b : Rows ws h c a n' q s) (n : ℕ) (o : n' ≡ 1 + n) where
  run_start : State ws c (a + len s) (a + len s) (q ++ row c s a []) (cell 0 (a + len s + 1) (only_down 0) (frees (a + len s + 1) n))
  run_start = rw (frees_cons (a + len s) n' n o) at (row_past s (frees (a + len s) n') b.state)

  pub run_room : at (first_free ws) 3 < length ws
  run_room = omega (arith, st_head run_start, st_length run_start, run_start.tot)

  run_took : State (took ws) c (a + len s + 1) (a + len s) (q ++ row c s a []) (cell 0 (a + len s + 1) (only_down 0) (frees (a + len s + 1) n))
  run_took = rw (st_head run_start, st_word run_start (a + len s) 1 1 refl) (st_start run_start (a + len s + 1))

  pub run_built : (e : ℕ) → Rows (wrote (took ws) (first_free ws) e h (only_down 0)) (first_free ws) c a n q (snoc s e (only_down 0))
  unfolding row low len
  run_built e =
      let k = a + len s in
      let z : k + 1 ≡ a + (len s + 1) = omega arith in
      let s2 = st_put (st_put (st_put (st_put run_took k 0 0 e refl) k 1 1 (low c s a) refl) k 2 2 0 refl) k 3 3 0 refl in
      let s3 = row_back a q s (cell e (low c s a) (only_down 0) (frees (k + 1) n)) s2 in
      record {
        lowest = st_head run_start;
        state = subst (λ v. State (wrote (took ws) v e h (only_down 0)) c (a + (len s + 1)) a q (row c s a (cell e (low c s a) (only_down 0) (frees (a + (len s + 1)) n)))) (sym (st_head run_start)) (rw b.lowest (rw z at s3));
      }

-- where give_run stands: big is the number of cells from a on
pub record Giving (ws : List ℕ) (k c a : ℕ) (q : List ℕ) (big : ℕ) : Type 0 where
  pub n : ℕ
  pub s : Run
  pub rows : Rows ws k c a n q s
  pub sum : len s + n ≡ big

-- and where it has a cell to give back
pub record Last (ws : List ℕ) (k c a : ℕ) (q : List ℕ) (big : ℕ) : Type 0 where
  pub n : ℕ
  pub s : Run
  pub e : ℕ
  pub d : Below
  pub at_k : k ≡ a + len s
  pub state : State ws c (k + 1) k (q ++ row c s a []) (cell e (low c s a) d (frees (k + 1) n))
  pub sum : len s + (1 + n) ≡ big

pub lasts : {ws : List ℕ} {k c a big : ℕ} {q : List ℕ} → Giving ws k c a q big → (k ≡ c → ⊥) → Last ws k c a q big
unfolding row low len
lasts {ws} {k} {c} {a} {big} {q} g f = rw g.sum at (last g.n g.s g.rows)
  where
    last : (n : ℕ) (s : Run) → Rows ws k c a n q s → Last ws k c a q (len s + n)
    last n nil b = absurd (f b.lowest)
    last n (snoc s e d) b =
        let z : a + (len s + 1) ≡ a + len s + 1 = omega arith in
        record {
          n = n;
          s = s;
          e = e;
          d = d;
          at_k = b.lowest;
          state = rw b.lowest (row_past s (cell e (low c s a) d (frees (a + len s + 1) n)) (rw z at b.state));
          sum = omega arith;
        }

-- a cell in front of free cells is given back
module _ {ws : List ℕ} {c k e m : ℕ} {d : Below} {q r : List ℕ} (s : State ws c (k + 1) k q (cell e m d r)) where
  pub back_room : at k 3 < length ws
  back_room = omega (arith, st_length s, s.tot)

  pub back : State (gave ws k) c k k q (cell 0 (k + 1) (only_down 0) r)
  back = rw (st_head s) (st_start (st_put (st_put (st_put (st_put s k 0 0 0 refl) k 1 1 (k + 1) refl) k 2 2 0 refl) k 3 3 0 refl) k)

  pub back_less : first_free (gave ws k) < first_free ws
  back_less = omega (arith, st_head s, st_head back)

pub given : {ws : List ℕ} {k c a big : ℕ} {q : List ℕ} (o : Last ws k c a q big) → Giving (gave ws k) (cell_word ws k 1) c a q big
given {ws} {k} {c} {a} {big} {q} o =
    let f = frees k (1 + o.n) in
    let s = st_undo a q (row c o.s a []) (row c o.s a f) (rw (← frees_cons k (1 + o.n) o.n refl) at (back o.state)) (row_app c o.s a f) (omega (arith, o.at_k, row_length c o.s a [])) in
    record {
      n = 1 + o.n;
      s = o.s;
      rows = record { lowest = st_word o.state k 1 1 refl; state = subst (λ v. State (gave ws k) c v a q (row c o.s a (frees v (1 + o.n)))) o.at_k s };
      sum = o.sum;
    }

pub all_given : {ws : List ℕ} {k c a big : ℕ} {q : List ℕ} → Giving ws k c a q big → k ≡ c → State ws c a a q (frees a big)
unfolding row low len
all_given {ws} {k} {c} {a} {big} {q} g f = rw g.sum at (only g.n g.s g.rows)
  where
    only : (n : ℕ) (s : Run) → Rows ws k c a n q s → State ws c a a q (frees a (len s + n))
    only n nil b = let y : 0 + n ≡ n = omega arith in let z : a + 0 ≡ a = omega arith in rw y (rw z at b.state)
    only n (snoc s e d) b =
        absurd (omega (arith, b.lowest, st_length b.state, row_length c (snoc s e d) a (frees (a + len (snoc s e d)) n)))

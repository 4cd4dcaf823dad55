-- Laying a run, end by end from the highest down.
-- Assumes nothing.
use mathlib.Core.Path.{◌≡◌, sym, ◌∙◌}
use mathlib.Core.List.{List, [], ◌∷◌, ◌++◌, append_assoc, append-nil}
use Prim.Native.Nat.{ℕ, ◌+◌, ◌<◌}
use native.Mathlib.Omega.{arith}
use lib.ListN.{length, set, length-append}
use lib.Seq.{get_or-set_same, get_or-set_other}
use Rattle.std.specs.List.{push}
use Rattle.cells.specs.Text.{at, cell_word, only_down, frees}
use Rattle.cells.specs.declared.Below.{Below}
use Rattle.cells.specs.States.{first_free, wrote, State, plain, Rows}
use Rattle.cells.proofs.Runs.{took, rows_none, run_room, run_built}

-- where the run of the ends es is laid but for the first of them, `left`: there is room for those and n cells more
pub record Laying (ws es : List ℕ) (h c a n : ℕ) (q left : List ℕ) : Type 0 where
  pub done : List ℕ
  pub is : left ++ done ≡ es
  pub rows : Rows ws h c a (length left + n) q (plain done)

pub laying : {ws : List ℕ} (es : List ℕ) {c a n : ℕ} {q : List ℕ} → State ws c a a q (frees a (length es + n)) → Laying ws es c c a n q es
unfolding plain
laying {ws} es {c} {a} {n} {q} s = record { done = []; is = append-nil es; rows = rows_none ws c a (length es + n) q s }

module _ {ws es : List ℕ} {h c a n : ℕ} {q left : List ℕ} (b : Laying ws es h c a n q left) (rest : List ℕ) (e : ℕ) (l : left ≡ push rest e) where
  more : length left + n ≡ 1 + (length rest + n)
  more = rw (l, length-append rest (e ∷ [])) (omega arith)

  pub lay_room : at (first_free ws) 3 < length ws
  lay_room = run_room b.rows _ more

  pub lay_built : Laying (wrote (took ws) (first_free ws) e h (only_down 0)) es (first_free ws) c a n q rest
  unfolding plain
  lay_built = record { done = e ∷ b.done; is = sym (append_assoc rest (e ∷ []) b.done) ∙ rw l at b.is; rows = run_built b.rows _ more e }

pub laid : {ws es : List ℕ} {h c a n : ℕ} {q left : List ℕ} → Laying ws es h c a n q left → length left ≡ 0 → Rows ws h c a n q (plain es)
laid {n = n} {left = []} b l = let y : 0 + n ≡ n = omega arith in rw (← b.is, ← y) b.rows
laid {left = x ∷ rest} b l = absurd (omega arith)

-- the end of a cell that is written
pub wrote_end : (ws : List ℕ) (k e x : ℕ) (d : Below) → at k 3 < length ws → cell_word (wrote ws k e x d) k 0 ≡ e
wrote_end ws k e x d h =
    let l = set ws (at k 0) e in
    let m = set l (at k 1) x in
    get_or-set_other (set m (at k 2) d.down) (at k 3) (at k 0) d.side 0 (λ q. omega arith)
    ∙ get_or-set_other m (at k 2) (at k 0) d.down 0 (λ q. omega arith)
    ∙ (get_or-set_other l (at k 1) (at k 0) x 0 (λ q. omega arith) ∙ get_or-set_same ws (at k 0) e 0 (omega arith))

-- How the free chain of a whole part is laid: over zeros, from the last cell to the first.
-- Assumes nothing.
use mathlib.Core.Path.{◌≡◌, refl, sym, ◌∙◌}
use mathlib.Core.List.{List, [], ◌∷◌, ◌++◌, append-nil}
use Prim.Native.Nat.{ℕ, suc, ◌+◌, ◌-◌, ◌*◌, ◌≤◌, ◌<◌}
use native.Mathlib.Numerals.{add-one}
use native.Mathlib.Omega.{arith}
use lib.ListN.{length, take, set, length-set, length-replicate, replicate-append-replicate}
use lib.Seq.{take-suc-set}
use Rattle.model.specs.Rules.{stop}
use Rattle.cells.specs.Text.{only_down, cell, frees, row, width, first, marks, belows, part}
use Rattle.cells.specs.States.{zeros, State}
use Rattle.cells.proofs.Text.{frees_cons}
use Rattle.cells.proofs.State.{st_undo}
use Rattle.cells.proofs.Runs.{gave, back}

zeros_add : (n m : ℕ) → zeros (n + m) ≡ zeros n ++ zeros m
zeros_add n m = sym (replicate-append-replicate n m 0)

-- zeros up to cell k, behind the link that says "no cell"
abbrev pub blank : ℕ → ℕ → List ℕ
blank c k = c ∷ zeros (8 * k)

-- the cells from k on are the free chain
abbrev pub Clearing : List ℕ → ℕ → ℕ → Type 0
Clearing ws c k = State ws c k k (blank c k) (frees k (c - k))

pub clear_start : (ws : List ℕ) (n c : ℕ) → ws ≡ zeros n → n ≡ 2 + 8 * c → c ≤ 65536 → Clearing (set (set ws 0 c) 1 c) c c
unfolding frees
clear_start ws n c e l m =
    let z : n ≡ suc (suc (8 * c)) = omega arith in
    let y : c - c ≡ 0 = omega arith in
    record {
      is = rw (e, z, y, append-nil (zeros (8 * c)));
      len = omega (arith, length-replicate {A = ℕ} (8 * c) 0);
      tot = simp length-set (rw e (length-replicate n 0 ∙ l));
      most = m;
    }

module _ {ws : List ℕ} {c k : ℕ} (s : Clearing ws c k) (p : 0 < k) where
  pub clear_turn : State ws c (k - 1 + 1) (k - 1) (blank c (k - 1)) (cell 0 0 (only_down 0) (frees (k - 1 + 1) (c - k)))
  clear_turn =
      let z : k - 1 + 1 ≡ k = omega arith in
      let y : 8 * k ≡ 8 * (k - 1) + 8 = omega arith in
      rw z (st_undo (k - 1) (blank c (k - 1)) (cell 0 0 (only_down 0) []) (cell 0 0 (only_down 0) (frees k (c - k))) (rw (y, zeros_add (8 * (k - 1)) 8) at s) refl (omega arith))

  pub clear_next : k ≤ c → Clearing (gave ws (k - 1)) c (k - 1)
  clear_next l = rw (frees_cons (k - 1) (c - (k - 1)) (c - k) (omega arith)) (back clear_turn)

pub clear_end : {ws : List ℕ} {c k : ℕ} → Clearing ws c k → k ≡ 0 → ws ≡ part c stop
unfolding part row belows marks width first
clear_end {ws} {c} {k} s e = (rw e at s).is

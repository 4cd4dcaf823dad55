-- How a list of edits is laid out: the words after a step, and the loop's steps from none of the edits to those that are taken.
-- Assumes nothing.
use mathlib.Core.Path.{◌≡◌, refl, sym, ap, ◌∙◌}
use mathlib.Core.Bool.{cond}
use mathlib.Core.List.{List}
use Prim.Native.Nat.{ℕ, zero, suc, ◌+◌, ◌-◌, ◌*◌, ◌≤◌, ◌<◌}
use native.Mathlib.Omega.{arith}
use lib.Dec.{ltb, eqb}
use lib.ListN.{length, get_or, set, replicate, length-replicate, get_or-replicate, get_or-eq_default}
use lib.Seq.{get_or-set_same, get_or-set_other}
use borrow.Author.Tests.{ltb-true, ltb-false, lt-ltb, le-ltb, eqb-true, eqb-false}
use Rattle.model.specs.Lists.{grid}
use Rattle.model.proofs.Tests.{by_test}
use Rattle.model.proofs.Grid.{length_grid, get_d_grid, grid_is}
use Rattle.table.specs.Rows.{row_word, rule_in, Copied}
use Rattle.table.proofs.Laws.{row_in, row_past}
use Rattle.gather.specs.declared.Edit.{Edit}
use Rattle.gather.specs.declared.Gathered.{Gathered}
use Rattle.gather.specs.Gather.{rule_of, edit_word, no_edit, taken, laid, gathered, stepped}

-- THE WORDS AFTER A STEP: `remove` is set, and the row is copied behind it
module _ (ws row out : List ℕ) (i : ℕ) (e : Edit) (few : i < 32) (long : length ws ≡ 512) (rowed : (length row ≡ 14) × (rule_in 6 row 0 ≡ rule_of e)) (c : Copied row 0 (set ws (16 * i) e.remove) out (16 * i + 1) (16 * i + 16)) where
  row_word_lem : (j : ℕ) → get_or row (0 + j) 0 ≡ row_word (rule_of e) j
  row_word_lem j = rw (← rowed.1) (by_test (ltb j 14)
      (λ t. sym (row_in 6 row 0 j (ltb-true j 14 t)))
      (λ t. let h = ltb-false j 14 t in get_or-eq_default row 0 {n = 0 + j} (omega (arith, rowed.0)) ∙ sym (row_past 6 row 0 j h)))

  here : (j : ℕ) → j < 16 → get_or out (16 * i + j) 0 ≡ edit_word e j
  unfolding edit_word
  here zero h = let z : 16 * i + 0 ≡ 16 * i = omega arith in rw z (c.kept (16 * i) (omega arith) ∙ get_or-set_same ws (16 * i) e.remove 0 (omega arith))
  here (suc j) h = let z : 16 * i + suc j - (16 * i + 1) ≡ j = omega arith in c.new (16 * i + suc j) (omega arith) (omega arith) ∙ rw z (row_word_lem j)

  elsewhere : (p j : ℕ) → j < 16 → (p ≡ i → ⊥) → get_or out (16 * p + j) 0 ≡ get_or ws (16 * p + j) 0
  elsewhere p j h n =
      by_test (ltb p i) (λ t. let l = ltb-true p i t in c.kept (16 * p + j) (omega arith)) (λ t. let l = ltb-false p i t in c.behind (16 * p + j) (omega arith))
      ∙ get_or-set_other ws (16 * i) (16 * p + j) e.remove 0 (λ q. omega arith)

  pub step_lays : length out ≡ 512 → out ≡ grid 16 32 (λ p j. cond (eqb p i) (edit_word e j) (get_or ws (16 * p + j) 0))
  step_lays l = grid_is 0 out 16 32 _ l (λ p j u v. by_test (eqb p i)
      (λ t. rw (t, eqb-true p i t) (here j v))
      (λ t. rw t (elsewhere p j v (eqb-false p i t))))

-- THE LOOP. The list with its first i edits laid out
abbrev pub reached : List Edit → ℕ → Gathered
reached es i = record { count = length es; words = laid es i }

module _ (es : List Edit) where
  pub none_laid : replicate 512 0 ≡ laid es 0
  unfolding laid
  none_laid = grid_is 0 (replicate 512 0) 16 32 _ (length-replicate {A = ℕ} 512 0) (λ p j u v. rw (le-ltb p 0 (omega arith)) (get_or-replicate 512 (16 * p + j) 0 0 (omega arith)))

  pub one_more : (i : ℕ) → stepped (reached es i) i (get_or es i no_edit) ≡ reached es (i + 1)
  unfolding laid stepped
  one_more i = ap (λ ws. record { count = length es; words = ws }) (grid_is 0 _ 16 32 _ (length_grid 16 32 _) (λ p j u v.
      get_d_grid 16 32 _ p j 0 u v ∙ by_test (eqb p i)
      (λ t. let q = eqb-true p i t in rw (t, lt-ltb p (i + 1) (omega arith), q))
      (λ t. let n = eqb-false p i t in rw t (get_d_grid 16 32 _ p j 0 u v ∙ by_test (ltb p i)
      (λ s. let l = ltb-true p i s in rw (s, lt-ltb p (i + 1) (omega arith)))
      (λ s. let l = ltb-false p i s in rw (s, le-ltb p (i + 1) (omega arith)))))))

  pub all_laid : reached es (taken (length es)) ≡ gathered es
  unfolding gathered
  all_laid = refl

-- of a list no more than its edits are taken
pub taken_few : (n i : ℕ) → i < taken n → (i < n) × (i < 32)
taken_few n i h = by_test (ltb 32 n) (λ t. absurd (omega (arith, rw t at h))) (λ t. let a = ltb-false 32 n t in let b : i < n = rw t at h in (b, omega arith))

pub taken_within : (n : ℕ) → taken n ≤ n
taken_within n = by_test (ltb 32 n) (λ t. rw t (omega arith)) (λ t. rw t (omega arith))

-- A list of edits in the kind that is chosen: room for a set of all its rules, and for the list's numbers.
-- Assumes nothing.
use mathlib.Core.Path.{◌≡◌, ap, subst}
use mathlib.Core.Bool.{Bool, true, false, cond}
use mathlib.Core.List.{List}
use Prim.Native.Nat.{ℕ, suc, ◌+◌, ◌*◌, ◌≤◌}
use native.Mathlib.Omega.{arith}
use lib.ListN.{length}
use Rattle.model.specs.Table.{Kind, Shaped}
use Rattle.model.specs.Ipv4.{ipv4, is_large, kind_in}
use Rattle.rows.specs.Rows.{Scratch}
use Rattle.table.specs.declared.shape.Shape.{Shape}
use Rattle.table.specs.Rows.{kind_of}
use Rattle.ipv4.proofs.Chosen.{scratch, chosen, scratch_for}
use Rattle.series.specs.declared.Listed.{Listed}
use Rattle.series.specs.Edits.{list_says, list_words, edits_from}

-- the rows of a large store, and of a small one
abbrev rows_for : Bool → ℕ
rows_for b = cond b 513 65

all_rows : (b : Bool) → rows_for b ≡ suc (ipv4 b).most
all_rows true = omega arith
all_rows false = omega arith

wide : (b : Bool) → (ipv4 b).width ≡ 15
wide true = omega arith
wide false = omega arith

module _ (b : Bool) (s : Shape) (e : kind_of s ≡ ipv4 b) where
  -- what the call over any kind asks for
  pub lent_list : (set sets ends xs : List ℕ) (count : ℕ) → length set ≡ rows_for b → length sets ≡ scratch_for b → length ends ≡ scratch_for b → length xs ≡ 512
      → (suc s.most ≤ length set) × Scratch (suc s.most) (length s.tops.now) sets ends × (count ≤ 32 → (s.width + 1) * count ≤ length xs)
  lent_list set sets ends xs count g h i j =
      let w : s.width + 1 ≡ 16 = omega (arith, ap (λ k. k.width) e, wide b) in
      (omega (arith, all_rows b, ap (λ k. k.most) e), scratch b s e sets ends h i, λ few. rw w (omega arith))

  -- and what it says is said of the kind that the words name
  pub list_chosen : (ws xs : List ℕ) (count : ℕ) (r : Listed) (new : List ℕ) → b ≡ is_large ws
      → (r ≡ list_says (kind_of s) ws (edits_from 6 (s.width + 1) count xs 0)) × (new ≡ list_words (kind_of s) ws (edits_from 6 (s.width + 1) count xs 0))
      → (r ≡ list_says (kind_in ws) ws (edits_from 6 16 count xs 0)) × (new ≡ list_words (kind_in ws) ws (edits_from 6 16 count xs 0))
  list_chosen ws xs count r new n q =
      let w : s.width + 1 ≡ 16 = omega (arith, ap (λ k. k.width) e, wide b) in
      chosen b s e (λ (k : Kind). (r ≡ list_says k ws (edits_from 6 16 count xs 0)) × (new ≡ list_words k ws (edits_from 6 16 count xs 0))) ws n (subst (λ (m : ℕ). (r ≡ list_says (kind_of s) ws (edits_from 6 m count xs 0)) × (new ≡ list_words (kind_of s) ws (edits_from 6 m count xs 0))) w q)

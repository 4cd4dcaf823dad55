-- What an edit answers in the table that a set names, and that the set then names the edited table.
-- Assumes nothing.
use mathlib.Core.Path.{◌≡◌, sym, ap, ◌∙◌}
use mathlib.Core.Bool.{Bool, true, false, not}
use mathlib.Core.List.{List, ◌∷◌, ◌++◌}
use Prim.Native.Nat.{ℕ, ◌+◌, ◌-◌, ◌≤◌, ◌<◌}
use native.Mathlib.Omega.{arith}
use lib.Dec.{leb}
use lib.ListN.{length, get_or, take, drop}
use borrow.Author.Tests.{not-true, not-false}
use Rattle.model.specs.Rules.{cells}
use Rattle.model.specs.Table.{Kind, Rule, Table, cells_of, within, rule_right, stands, with_rule, without, insert_answer, delete_answer}
use Rattle.rows.specs.Rows.{tree_at}
use Rattle.table.specs.Rows.{rule_in, ahead}
use Rattle.layout.proofs.Lent.{rule_lent}
use Rattle.decide.proofs.Answers.{answers_1, answers_2, answers_3, answers_5, answers_0, answers_6, new_within, gone_0}
use Rattle.roster.specs.Inner.{Named}
use Rattle.roster.proofs.Sets.{put_named, put_cells, take_named}

-- INSERT. The row of the rule begins at word `row` of those behind the rows, and x is its number.
module _ (k : Kind) (rows more : List ℕ) (row n c x : ℕ) (e : x ≡ get_or more row 0) where
  abbrev R : Rule
  R = rule_in (length k.tops) more row

  pub put_1 : 65534 < x → (t : Table) → 1 ≡ insert_answer k c t (rule_in (length k.tops) more row)
  put_1 l t = answers_1 k c t R (omega arith)

  module _ (l : x ≤ 65534) (b : Bool) (eb : b ≡ rule_right k (rule_in (length k.tops) more row)) where
    l' : R.number ≤ 65534
    l' = omega arith

    pub put_2 : not b ≡ true → (t : Table) → 2 ≡ insert_answer k c t (rule_in (length k.tops) more row)
    put_2 g t = answers_2 k c t R l' b eb (not-true b g)

    module _ (g : not b ≡ false) (set : List ℕ) (t : Table) (h : Named k (rows ++ more) n set t) {s : Bool} (es : s ≡ stands x t.rules) where
      pub put_3 : s ≡ true → 3 ≡ insert_answer k c t (rule_in (length k.tops) more row)
      put_3 y = answers_3 k c t R l' b eb (not-false b g) (ap (λ i. stands i t.rules) (sym e) ∙ (sym es ∙ y))

      module _ (y : s ≡ false) where
        fresh : stands R.number t.rules ≡ false
        fresh = ap (λ i. stands i t.rules) (sym e) ∙ (sym es ∙ y)

        pub put_5 : k.most ≤ n → 5 ≡ insert_answer k c t (rule_in (length k.tops) more row)
        put_5 m = answers_5 k c t R l' b eb (not-false b g) fresh (omega (arith, h.count))

        module _ (m : n < k.most) (p : ℕ) (ep : p ≡ ahead x t.rules) (new : List ℕ) (z : take (n + 1 + 1) new ≡ take p set ++ ((length rows + row) ∷ drop p (take (n + 1) set))) where
          room : length t.rules < k.most
          room = omega (arith, h.count)

          right : within k (with_rule R t) ≡ true
          right = new_within k c t R l' b eb (not-false b g) fresh room h.right

          at : p ≡ ahead R.number t.rules
          at = ep ∙ ap (λ i. ahead i t.rules) e

          is : rule_in (length k.tops) (rows ++ more) (length rows + row) ≡ R
          is = rule_lent (length k.tops) rows more row

          count : cells (tree_at (rows ++ more) 0 (length k.tops) (take (n + 2) new)) ≡ cells_of k (with_rule R t)
          count = put_cells k (rows ++ more) n set t h R (length rows + row) p new is at z right

          module _ {q : Bool} (w : q ≡ leb (cells (tree_at (rows ++ more) 0 (length k.tops) (take (n + 2) new))) c) where
            pub put_6 : not q ≡ true → 6 ≡ insert_answer k c t (rule_in (length k.tops) more row)
            put_6 = answers_6 k c t R l' b eb (not-false b g) fresh room _ count w

            pub put_0 : not q ≡ false → (0 ≡ insert_answer k c t (rule_in (length k.tops) more row)) × Named k (rows ++ more) (n + 1) new (with_rule (rule_in (length k.tops) more row) t)
            put_0 f = (answers_0 k c t R l' b eb (not-false b g) fresh room _ count w f, put_named k (rows ++ more) n set t h R (length rows + row) p new is at z right)

-- DELETE
module _ (k : Kind) (ws : List ℕ) (n x : ℕ) (set : List ℕ) (t : Table) (h : Named k ws n set t) where
  pub gone_done : x ≤ 65534 → (p : ℕ) → p ≡ ahead x t.rules → stands x t.rules ≡ true → (new : List ℕ) → take (n + 1 - 1) new ≡ take p set ++ drop (p + 1) (take (n + 1) set)
      → (0 ≡ delete_answer t x) × Named k ws (n - 1) new (without x t)
  gone_done l p e s new z = (gone_0 x t l s, take_named k ws n set t h x p new e s z)

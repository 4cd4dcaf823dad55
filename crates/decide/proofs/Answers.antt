-- What an insert and a delete answer of rows that hold a table, by the tests that lead to each answer, in document 01's order.
-- Assumes nothing.
use mathlib.Core.Path.{◌≡◌, sym, ap₂, ◌∙◌}
use mathlib.Core.Bool.{Bool, true, false, cond, not}
use mathlib.Core.List.{List, ◌∷◌, ◌++◌}
use Prim.Native.Nat.{ℕ, ◌+◌, ◌*◌, ◌≤◌, ◌<◌}
use native.Mathlib.Omega.{arith}
use lib.Dec.{leb, ltb}
use lib.ListN.{length, get_or, take, drop}
use borrow.Author.Tests.{lt-ltb, le-ltb, le-leb, lt-leb, leb-true, leb-false, not-true, not-false}
use Rattle.model.specs.Rules.{cells}
use Rattle.model.specs.Table.{Kind, Rule, Table, cells_of, within, rule_right, stands, with_rule, insert_answer, delete_answer}
use Rattle.model.proofs.Edits.{insert_within}
use Rattle.model.proofs.Limits.{from_within}
use Rattle.rows.specs.Rows.{tree_at}
use Rattle.table.specs.Rows.{rule_in, table_in, places, ahead}
use Rattle.table.proofs.Laws.{rules_length}
use Rattle.layout.specs.Inner.{TableHeld}
use Rattle.layout.proofs.Lent.{lent_cells}

-- INSERT into any table
module _ (k : Kind) (c : ℕ) (t : Table) (r : Rule) where
  pub answers_1 : 65534 < r.number → 1 ≡ insert_answer k c t r
  answers_1 l = rw (lt-ltb 65534 r.number l)

  module _ (l : r.number ≤ 65534) (b : Bool) (eb : b ≡ rule_right k r) where
    pub answers_2 : b ≡ false → 2 ≡ insert_answer k c t r
    answers_2 g = let z : rule_right k r ≡ false = sym eb ∙ g in rw (le-ltb 65534 r.number l, z)

    module _ (g : b ≡ true) where
      z : rule_right k r ≡ true
      z = sym eb ∙ g

      pub answers_3 : stands r.number t.rules ≡ true → 3 ≡ insert_answer k c t r
      answers_3 s = rw (le-ltb 65534 r.number l, z, s)

      module _ (s : stands r.number t.rules ≡ false) where
        pub answers_5 : k.most ≤ length t.rules → 5 ≡ insert_answer k c t r
        answers_5 m = rw (le-ltb 65534 r.number l, z, s, le-leb k.most (length t.rules) m)

        module _ (m : length t.rules < k.most) where
          tail : (x : ℕ) → insert_answer k x t r ≡ cond (ltb x (cells_of k (with_rule r t))) 6 0
          tail x = rw (le-ltb 65534 r.number l, z, s, lt-leb k.most (length t.rules) m)

          pub new_within : within k t ≡ true → within k (with_rule r t) ≡ true
          new_within right = let x = cells_of k (with_rule r t) in insert_within k x t r right (tail x ∙ rw (le-ltb x x (omega arith)))

          -- q says whether the cells of the table with the rule, n of them, are at most c
          module _ (n : ℕ) (e : n ≡ cells_of k (with_rule r t)) {q : Bool} (w : q ≡ leb n c) where
            pub answers_0 : not q ≡ false → 0 ≡ insert_answer k c t r
            answers_0 f = let y = leb-true n c (sym w ∙ not-false q f) in sym (tail c ∙ rw (le-ltb c (cells_of k (with_rule r t)) (omega arith)))

            pub answers_6 : not q ≡ true → 6 ≡ insert_answer k c t r
            answers_6 f = let y = leb-false n c (sym w ∙ not-true q f) in sym (tail c ∙ rw (lt-ltb c (cells_of k (with_rule r t)) (omega arith)))

-- and into the table that rows hold, with the rule lent as a row behind them
module _ (k : Kind) (n c : ℕ) (rows row : List ℕ) (d : TableHeld k n rows) (lr : length row ≡ 2 + 2 * length k.tops) where
  abbrev T : Table
  T = table_in k n rows

  abbrev R : Rule
  R = rule_in (length k.tops) row 0

  pub into_1 : 65534 < get_or row 0 0 → 1 ≡ insert_answer k c (table_in k n rows) (rule_in (length k.tops) row 0)
  into_1 = answers_1 k c T R

  module _ (l : get_or row 0 0 ≤ 65534) (b : Bool) (eb : b ≡ rule_right k (rule_in (length k.tops) row 0)) where
    pub into_2 : b ≡ false → 2 ≡ insert_answer k c (table_in k n rows) (rule_in (length k.tops) row 0)
    into_2 = answers_2 k c T R l b eb

    module _ (g : b ≡ true) where
      pub into_3 : stands (get_or row 0 0) (table_in k n rows).rules ≡ true → 3 ≡ insert_answer k c (table_in k n rows) (rule_in (length k.tops) row 0)
      into_3 = answers_3 k c T R l b eb g

      module _ (s : stands (get_or row 0 0) (table_in k n rows).rules ≡ false) where
        pub into_5 : k.most ≤ n → 5 ≡ insert_answer k c (table_in k n rows) (rule_in (length k.tops) row 0)
        into_5 m = answers_5 k c T R l b eb g s (omega (arith, rules_length k n rows))

        module _ (m : n < k.most) where
          room : length (table_in k n rows).rules < k.most
          room = omega (arith, rules_length k n rows)

          old_within : within k T ≡ true
          old_within = rw (le-leb (length (table_in k n rows).rules) k.most (omega (arith, room)), d.rising) d.right

          -- the cells of the table with the rule, counted where it is lent behind the rows
          module _ (p : ℕ) (e : p ≡ ahead (get_or row 0 0) (table_in k n rows).rules) where
            new_cells : cells (tree_at (rows ++ row) 0 (length k.tops) (take p (places k.width n) ++ (length rows ∷ drop p (places k.width n)))) ≡ cells_of k (with_rule R T)
            new_cells =
                ap₂ (λ xs m. cells (tree_at (xs ++ row) 0 (length k.tops) (take p (places k.width m) ++ (length xs ∷ drop p (places k.width m))))) d.text (sym (rules_length k n rows))
                ∙ lent_cells k d.rowed.shaped T old_within row p e (from_within k (with_rule R T) (new_within k c T R l b eb g s room old_within)).rising

            module _ {q : Bool} (w : q ≡ leb (cells (tree_at (rows ++ row) 0 (length k.tops) (take p (places k.width n) ++ (length rows ∷ drop p (places k.width n))))) c) where
              pub into_0 : not q ≡ false → 0 ≡ insert_answer k c (table_in k n rows) (rule_in (length k.tops) row 0)
              into_0 = answers_0 k c T R l b eb g s room _ new_cells w

              pub into_6 : not q ≡ true → 6 ≡ insert_answer k c (table_in k n rows) (rule_in (length k.tops) row 0)
              into_6 = answers_6 k c T R l b eb g s room _ new_cells w

-- DELETE from any table
module _ (x : ℕ) (t : Table) where
  pub gone_1 : 65534 < x → 1 ≡ delete_answer t x
  gone_1 l = rw (lt-ltb 65534 x l)

  module _ (l : x ≤ 65534) where
    pub gone_4 : stands x t.rules ≡ false → 4 ≡ delete_answer t x
    gone_4 s = rw (le-ltb 65534 x l, s)

    pub gone_0 : stands x t.rules ≡ true → 0 ≡ delete_answer t x
    gone_0 s = rw (le-ltb 65534 x l, s)

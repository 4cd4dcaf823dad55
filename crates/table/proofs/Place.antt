-- The place of a number, looked for from the highest rule down: a rule that is not below the number bounds the rules ahead of it from above, and in rising order one that is below bounds them from below.
-- Assumes nothing.
use mathlib.Core.Path.{◌≡◌, sym, ap, ◌∙◌}
use mathlib.Core.Bool.{Bool, true, false, cond}
use mathlib.Core.List.{List, [], ◌∷◌}
use Prim.Native.Nat.{ℕ, zero, suc, ◌+◌, ◌-◌, ◌*◌, ◌≤◌, ◌<◌}
use native.Mathlib.Omega.{arith}
use native.Mathlib.Numerals.{add-one}
use lib.Dec.{ltb, eqb}
use lib.ListN.{length, get_or}
use borrow.Author.Tests.{lt-ltb, le-ltb, eqb-true, eq-eqb}
use Rattle.model.specs.Table.{Kind, Rule, rising_from, stands}
use Rattle.model.proofs.Tests.{by_test, same_test}
use Rattle.model.proofs.Limits.{rises}
use Rattle.rows.specs.Rows.{number_in}
use Rattle.table.specs.Rows.{no_rule, table_in, ahead}
use Rattle.table.proofs.Laws.{rules_length, rules_at}
use Rattle.table.proofs.Edits.{at_stands, stands_at}

module _ (x : ℕ) where
  one_more : (b : Bool) (a i : ℕ) → a ≤ i → cond b (suc a) 0 ≤ suc i
  one_more true a i h = omega arith
  one_more false a i h = omega arith

  pub ahead_all : (rs : List Rule) → ahead x rs ≤ length rs
  ahead_all [] = omega arith
  ahead_all (r ∷ rs) = one_more (ltb r.number x) _ _ (ahead_all rs)

  pub ahead_most : (rs : List Rule) (i : ℕ) → x ≤ (get_or rs i no_rule).number → ahead x rs ≤ i
  ahead_most [] i h = omega arith
  ahead_most (r ∷ rs) zero h = rw (le-ltb r.number x h) (omega arith)
  ahead_most (r ∷ rs) (suc i) h = one_more (ltb r.number x) _ i (ahead_most rs i h)

  pub ahead_least : (b : ℕ) (rs : List Rule) (i : ℕ) → rising_from b rs ≡ true → i < length rs → (get_or rs i no_rule).number < x → (b < x) × (i < ahead x rs)
  ahead_least b [] i up l h = absurd (omega arith)
  ahead_least b (r ∷ rs) zero up l h = (omega (arith, (rises b r rs up).0), rw (lt-ltb r.number x h) (omega arith))
  ahead_least b (r ∷ rs) (suc i) up l h =
      let t = rises b r rs up in
      let z = ahead_least (suc r.number) rs i t.2 (omega arith) h in
      (omega arith, rw (lt-ltb r.number x (omega arith)) (omega arith))

-- y is the number of the rule at place p
module _ (k : Kind) (n : ℕ) (rows : List ℕ) (p y at : ℕ) (o : 0 < p) (l : p ≤ n) (q : at ≡ k.width * p) (e : y ≡ number_in rows at) (x : ℕ) where
  here : (get_or (table_in k n rows).rules (p - 1) no_rule).number ≡ y
  here = let z : suc (p - 1) ≡ p = omega arith in ap (λ r. r.number) (rules_at k n rows (p - 1) no_rule (omega arith)) ∙ ap (λ i. number_in rows (k.width * i)) z ∙ sym (rw q at e)

  pub none_here : x ≤ y → ahead x (table_in k n rows).rules ≤ p - 1
  none_here h = ahead_most x (table_in k n rows).rules (p - 1) (omega (arith, here))

  pub all_here : rising_from 0 (table_in k n rows).rules ≡ true → y < x → p ≤ ahead x (table_in k n rows).rules
  all_here up h = omega (arith, (ahead_least x 0 (table_in k n rows).rules (p - 1) up (omega (arith, rules_length k n rows)) (omega (arith, here))).1)

-- whether a number stands, by the rule behind those that are ahead of it
module _ (k : Kind) (n : ℕ) (rows : List ℕ) (p x : ℕ) (up : rising_from 0 (table_in k n rows).rules ≡ true) (e : p ≡ ahead x (table_in k n rows).rules) where
  pub none_behind : n ≤ p → false ≡ stands x (table_in k n rows).rules
  none_behind h = by_test (stands x (table_in k n rows).rules)
      (λ t. absurd (omega (arith, (at_stands x no_rule 0 (table_in k n rows).rules up t).0, rules_length k n rows)))
      (λ t. sym t)

  pub number_behind : p < n → (y at : ℕ) → at ≡ k.width * (p + 1) → y ≡ number_in rows at → eqb y x ≡ stands x (table_in k n rows).rules
  number_behind h y at f q =
      let R = (table_in k n rows).rules in
      let z : y ≡ (get_or R (ahead x R) no_rule).number = q ∙ rw (f, add-one p) (sym (ap (λ r. r.number) (ap (λ i. get_or R i no_rule) (sym e) ∙ rules_at k n rows p no_rule h))) in
      same_test (eqb y x) (stands x R)
      (λ t. stands_at x no_rule R (omega (arith, rules_length k n rows)) (sym z ∙ eqb-true y x t))
      (λ t. eq-eqb y x (z ∙ (at_stands x no_rule 0 R up t).1))

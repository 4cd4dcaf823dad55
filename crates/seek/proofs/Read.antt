-- What is read of a store that passes, by the tests that lead to each answer: where a rule stands, and the cells in use.
-- Assumes nothing.
use mathlib.Core.Path.{◌≡◌, refl, sym, ap, ◌∙◌}
use mathlib.Core.Bool.{true, false}
use mathlib.Core.List.{List, [], ◌∷◌}
use Prim.Native.Nat.{ℕ, zero, suc, ◌+◌, ◌-◌, ◌*◌, ◌≤◌, ◌<◌}
use native.Mathlib.Omega.{arith}
use native.Mathlib.Numerals.{add-one}
use lib.Dec.{eqb}
use lib.ListN.{length, get_or}
use borrow.Author.Tests.{lt-ltb, le-ltb, eq-eqb, ne_eqb}
use Rattle.model.specs.Table.{Kind, Shaped, row_words, Rule, default_rule, stands, rule_at, read_rule, place_rule}
use Rattle.model.proofs.Keep.{in_get_d}
use Rattle.model.proofs.Limits.{in_rising, one_number, rule_in_lem, rule_none}
use Rattle.table.specs.Rows.{no_rule, placed, rule_in, ahead}
use Rattle.table.proofs.Edits.{at_stands}
use Rattle.layout.specs.Store.{rows_of, table_of, passes, read_says, place_says, cells_says, cells_gives}
use Rattle.layout.proofs.Words.{rule_at_lem}
use Rattle.layout.proofs.Sound.{sound, count_is}
use Rattle.layout.proofs.Passed.{sound_within, sound_free}

-- READ
module _ (k : Kind) (sh : Shaped k) (ws : List ℕ) (n : ℕ) where
  pub find_9 : passes k ws ≡ false → 9 ≡ read_says k ws n
  find_9 h = rw h

  module _ (h : passes k ws ≡ true) where
    row_is : (p : ℕ) → p ≤ length (table_of k ws).rules → rule_in (length k.tops) (rows_of k ws) (k.width * p) ≡ placed k (table_of k ws) p
    row_is p l = ap (λ rows. rule_in (length k.tops) rows (k.width * p)) (sound k sh ws h).rows ∙ rule_at_lem k sh (table_of k ws) (sound_within k sh ws (sound k sh ws h)) p l

    pub find_default : n ≡ 65535 → (0 ≡ read_says k ws n) × (rule_in (length k.tops) (rows_of k ws) 0 ≡ read_rule k (table_of k ws) n)
    unfolding placed
    find_default e =
        let z : eqb n 65535 ≡ true = eq-eqb n 65535 e in
        let d = default_rule k (table_of k ws).action in
        let y : rule_at d n (table_of k ws).rules ≡ d = rule_none d n (table_of k ws).rules (λ r m q. omega (arith, (in_rising 0 (table_of k ws).rules (sound k sh ws h).rising r m).1)) in
        let x : k.width * 0 ≡ 0 = omega arith in (rw (h, z), (rw x at (row_is 0 (omega arith))) ∙ sym y)

    module _ (o : n ≡ 65535 → ⊥) where
      pub find_1 : 65534 < n → 1 ≡ read_says k ws n
      find_1 l = rw (h, ne_eqb n 65535 o, lt-ltb 65534 n l)

      module _ (l : n ≤ 65534) where
        pub find_4 : stands n (table_of k ws).rules ≡ false → 4 ≡ read_says k ws n
        find_4 s = rw (h, ne_eqb n 65535 o, le-ltb 65534 n l, s)

        pub find_0 : stands n (table_of k ws).rules ≡ true → (p : ℕ) → p ≡ ahead n (table_of k ws).rules → (0 ≡ read_says k ws n) × (rule_in (length k.tops) (rows_of k ws) (k.width * (p + 1)) ≡ read_rule k (table_of k ws) n)
        unfolding placed
        find_0 s p e =
            let R = (table_of k ws).rules in
            let d = default_rule k (table_of k ws).action in
            let up = (sound k sh ws h).rising in
            let a = at_stands n no_rule 0 R up s in
            let i = rule_in_lem d n R s in
            let y : get_or R (ahead n R) no_rule ≡ rule_at d n R = one_number 0 R up (get_or R (ahead n R) no_rule) (rule_at d n R) (in_get_d R (ahead n R) no_rule a.0) i.0 (a.1 ∙ sym i.1) in (
              rw (h, ne_eqb n 65535 o, le-ltb 65534 n l, s),
              ap (λ i. rule_in (length k.tops) (rows_of k ws) (k.width * i)) (add-one p ∙ ap suc e) ∙ row_is (suc (ahead n R)) (omega (arith, a.0)) ∙ y,
            )

-- THE RULE AT A PLACE
-- within a list it does not matter what stands behind it
either_default : (rs : List Rule) (i : ℕ) (d e : Rule) → i < length rs → get_or rs i d ≡ get_or rs i e
either_default [] i d e l = absurd (omega arith)
either_default (r ∷ rs) zero d e l = refl
either_default (r ∷ rs) (suc i) d e l = either_default rs i d e (omega arith)

module _ (k : Kind) (sh : Shaped k) (ws : List ℕ) (p : ℕ) where
  pub at_9 : passes k ws ≡ false → 9 ≡ place_says k ws p
  at_9 h = rw h

  module _ (h : passes k ws ≡ true) where
    pub at_none : p ≡ 0 → 4 ≡ place_says k ws p
    at_none z = rw (h, eq-eqb p 0 z)

    module _ (o : p ≡ 0 → ⊥) where
      pub at_4 : get_or ws 1 0 < p → 4 ≡ place_says k ws p
      at_4 l = rw (h, ne_eqb p 0 o, lt-ltb (length (table_of k ws).rules) p (omega (arith, count_is k sh ws)))

      pub at_0 : p ≤ get_or ws 1 0 → (0 ≡ place_says k ws p) × (rule_in (length k.tops) (rows_of k ws) (k.width * p) ≡ place_rule k (table_of k ws) p)
      unfolding placed
      at_0 l =
          let R = (table_of k ws).rules in
          let m : p ≤ length R = omega (arith, count_is k sh ws) in
          let y : p ≡ suc (p - 1) = omega arith in (
            rw (h, ne_eqb p 0 o, le-ltb (length R) p m),
            row_is k sh ws p h p m ∙ ap (λ i. get_or (default_rule k (table_of k ws).action ∷ R) i no_rule) y ∙ either_default R (p - 1) no_rule (default_rule k (table_of k ws).action) (omega arith),
          )

-- CELLS
module _ (k : Kind) (sh : Shaped k) (ws : List ℕ) where
  pub cells_refused : passes k ws ≡ false → (9 ≡ cells_says k ws) × (0 ≡ cells_gives k ws)
  cells_refused h = (rw h, rw h)

  pub cells_done : passes k ws ≡ true → (E : ℕ) → E ≡ k.head + row_words k → (0 ≡ cells_says k ws) × (get_or ws E 0 ≡ cells_gives k ws)
  cells_done h E f = (rw h, rw (h, f) (sound_free k sh ws (sound k sh ws h)))

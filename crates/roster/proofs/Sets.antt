-- A table that is named by a set: where a number stands in it, and the sets of the table with a rule put in or taken out.
-- Assumes nothing.
use mathlib.Core.Path.{◌≡◌, refl, sym, ap, ap₂, ◌∙◌}
use mathlib.Core.Logic.{⊎_elim}
use mathlib.Core.Bool.{true, false}
use mathlib.Core.List.{List, [], ◌∷◌, ◌++◌, map}
use Prim.Native.Nat.{ℕ, zero, suc, ◌+◌, ◌-◌, ◌≤◌, ◌<◌}
use native.Mathlib.Omega.{arith}
use native.Mathlib.Numerals.{add-one}
use lib.Dec.{eqb}
use lib.ListN.{length, get_or, take, drop, get_or-map, get_or-append}
use lib.Seq.{get_or-take, take-take}
use borrow.Author.Tests.{lt-ltb, le-ltb, eq-eqb, ne_eqb, eqb-true}
use Rattle.model.specs.Rules.{cells}
use Rattle.model.specs.Table.{Kind, Rule, Table, default_rule, every_rule, cells_of, within, rising_from, stands, removed, with_rule, without}
use Rattle.model.proofs.Tests.{by_test, same_test, never}
use Rattle.model.proofs.Limits.{rises, from_within}
use Rattle.model.proofs.Edits.{length_added, length_removed, delete_within}
use Rattle.rows.specs.Rows.{tree_at}
use Rattle.table.specs.Rows.{rule_in, ahead, no_rule}
use Rattle.table.proofs.Edits.{at_stands, stands_at, first_or_later}
use Rattle.table.proofs.Place.{ahead_all, ahead_most, ahead_least}
use Rattle.layout.proofs.Lent.{added_split, map_put, put_behind}
use Rattle.layout.proofs.Bridge.{cells_any}
use Rattle.roster.specs.Inner.{Named}

-- what stands at a place of a list, whatever is said to stand behind its end
at_any : {A : Type 0} (l : List A) (i : ℕ) (d e : A) → i < length l → get_or l i d ≡ get_or l i e
at_any [] i d e h = absurd (omega arith)
at_any (x ∷ l) zero d e h = refl
at_any (x ∷ l) (suc i) d e h = at_any l i d e (omega arith)

-- a rule taken out of rising rules: those ahead of its number, and those behind it
removed_split : (x b : ℕ) (rs : List Rule) → rising_from b rs ≡ true → stands x rs ≡ true → removed x rs ≡ take (ahead x rs) rs ++ drop (suc (ahead x rs)) rs
removed_split x b [] up s = never (sym s)
removed_split x b (r ∷ rs) up s = ⊎_elim
    (λ (w : (r.number ≡ x) × (removed x rs ≡ rs)). rw (eq-eqb r.number x w.0, le-ltb r.number x (omega (arith, w.0))) w.1)
    (λ (w : (r.number < x) × (stands x rs ≡ true)). rw (ne_eqb r.number x (λ e. omega (arith, w.0)), lt-ltb r.number x w.0) (ap (λ ys. r ∷ ys) (removed_split x (suc r.number) rs (rises b r rs up).2 w.1)))
    (first_or_later x b r rs up s)

module _ {A B : Type 0} (h : A → B) where
  -- an element left out of a list, before and after a map
  map_left : (p : ℕ) (xs : List A) → map h (take p xs ++ drop (suc p) xs) ≡ take p (map h xs) ++ drop (suc p) (map h xs)
  map_left zero [] = refl
  map_left zero (x ∷ xs) = refl
  map_left (suc p) [] = refl
  map_left (suc p) (x ∷ xs) = ap (λ ys. h x ∷ ys) (map_left p xs)

left_behind : {A : Type 0} (p : ℕ) (rs ds : List A) → p < length rs → take p (rs ++ ds) ++ drop (suc p) (rs ++ ds) ≡ (take p rs ++ drop (suc p) rs) ++ ds
left_behind p [] ds h = absurd (omega arith)
left_behind zero (r ∷ rs) ds h = refl
left_behind (suc p) (r ∷ rs) ds h = ap (λ ys. r ∷ ys) (left_behind p rs ds (omega arith))

module _ (k : Kind) (ws : List ℕ) (n : ℕ) (set : List ℕ) (t : Table) (h : Named k ws n set t) where
  abbrev H : ℕ → Rule
  H q = rule_in (length k.tops) ws q

  abbrev S : List ℕ
  S = take (n + 1) set

  up : rising_from 0 t.rules ≡ true
  up = (from_within k t h.right).rising

  -- the number of the rule at place i of the set
  number_here : (i : ℕ) → i < n → get_or ws (get_or set i 0) 0 ≡ (get_or t.rules i no_rule).number
  number_here i l =
      let a = ap H (sym (get_or-take (n + 1) set i 0 (omega arith))) ∙ sym (get_or-map H S i 0) in
      let b = ap (λ rs. get_or rs i (H 0)) h.rules ∙ get_or-append t.rules (default_rule k t.action ∷ []) (H 0) i (omega (arith, h.count)) in
      ap (λ r. r.number) (a ∙ b ∙ at_any t.rules i (H 0) no_rule (omega (arith, h.count)))

  module _ (x p : ℕ) where
    -- LOOKING DOWN for the place of a number: a rule that is below it, and one that is not
    pub all_ahead : ahead x t.rules ≤ n
    all_ahead = omega (arith, ahead_all x t.rules, h.count)

    pub some_ahead : p < n → get_or ws (get_or set p 0) 0 < x → p < ahead x t.rules
    some_ahead l y = (ahead_least x 0 t.rules p up (omega (arith, h.count)) (omega (arith, number_here p l))).1

    pub none_ahead : p < n → x ≤ get_or ws (get_or set p 0) 0 → ahead x t.rules ≤ p
    none_ahead l y = ahead_most x t.rules p (omega (arith, number_here p l))

    -- whether the number stands, by the rule behind those that are ahead of it
    module _ (e : p ≡ ahead x t.rules) where
      pub none_stands : n ≤ p → false ≡ stands x t.rules
      none_stands l = by_test (stands x t.rules) (λ s. absurd (omega (arith, (at_stands x no_rule 0 t.rules up s).0, h.count))) (λ s. sym s)

      pub one_stands : p < n → eqb (get_or ws (get_or set p 0) 0) x ≡ stands x t.rules
      one_stands l =
          let z = number_here p l ∙ ap (λ i. (get_or t.rules i no_rule).number) e in
          same_test (eqb (get_or ws (get_or set p 0) 0) x) (stands x t.rules)
          (λ s. stands_at x no_rule t.rules (omega (arith, h.count)) (sym z ∙ eqb-true _ x s))
          (λ s. eq-eqb _ x (z ∙ (at_stands x no_rule 0 t.rules up s).1))

  -- A RULE PUT IN, whose row begins at word q, behind those that are ahead of its number
  module _ (r : Rule) (q p : ℕ) (new : List ℕ) (is : rule_in (length k.tops) ws q ≡ r) (e : p ≡ ahead r.number t.rules) (s : take (n + 1 + 1) new ≡ take p set ++ (q ∷ drop p (take (n + 1) set))) where
    put_rules : map H (take (n + 1 + 1) new) ≡ every_rule k (with_rule r t)
    put_rules =
        ap (map H) (s ∙ ap (λ ys. ys ++ (q ∷ drop p S)) (sym (take-take p (n + 1) set (omega (arith, all_ahead r.number 0)))))
        ∙ (map_put H p q S
        ∙ (ap₂ (λ rs x. take p rs ++ (x ∷ drop p rs)) h.rules is
        ∙ (put_behind p r t.rules (default_rule k t.action ∷ []) (omega (arith, all_ahead r.number 0, h.count))
        ∙ ap (λ rs. rs ++ (default_rule k t.action ∷ [])) (ap (λ i. take i t.rules ++ (r ∷ drop i t.rules)) e ∙ sym (added_split r t.rules)))))

    module _ (right : within k (with_rule r t) ≡ true) where
      pub put_named : Named k ws (n + 1) new (with_rule r t)
      put_named = record { count = omega (arith, h.count, length_added r t.rules); rules = put_rules; first = h.first; right = right }

      pub put_cells : cells (tree_at ws 0 (length k.tops) (take (n + 2) new)) ≡ cells_of k (with_rule r t)
      put_cells = let z : n + 2 ≡ n + 1 + 1 = omega arith in rw z (cells_any k (with_rule r t) ws h.first _ put_rules (from_within k (with_rule r t) right).rising)

  -- A RULE TAKEN OUT
  module _ (x p : ℕ) (new : List ℕ) (e : p ≡ ahead x t.rules) (y : stands x t.rules ≡ true) (s : take (n + 1 - 1) new ≡ take p set ++ drop (p + 1) (take (n + 1) set)) where
    some : p < n
    some = omega (arith, (at_stands x no_rule 0 t.rules up y).0, h.count)

    taken_rules : map H (take (n + 1 - 1) new) ≡ every_rule k (without x t)
    taken_rules =
        ap (map H) (s ∙ ap₂ (λ ys i. ys ++ drop i S) (sym (take-take p (n + 1) set (omega (arith, some)))) (add-one p))
        ∙ (map_left H p S
        ∙ (ap (λ rs. take p rs ++ drop (suc p) rs) h.rules
        ∙ (left_behind p t.rules (default_rule k t.action ∷ []) (omega (arith, some, h.count))
        ∙ ap (λ rs. rs ++ (default_rule k t.action ∷ [])) (ap (λ i. take i t.rules ++ drop (suc i) t.rules) e ∙ sym (removed_split x 0 t.rules up y)))))

    pub take_named : Named k ws (n - 1) new (without x t)
    take_named =
        let z : n - 1 + 1 ≡ n + 1 - 1 = omega (arith, some) in
        record { count = omega (arith, h.count, length_removed 0 x t.rules up y, some); rules = rw z taken_rules; first = h.first; right = delete_within k x t h.right }

-- Rows with one more row lent behind them: the tree of a table with a rule put in, before a word of the rows is moved.
-- Assumes nothing.
use mathlib.Core.Path.{◌≡◌, refl, sym, ap, ap₂, ◌∙◌}
use mathlib.Core.Logic.{inl, inr}
use mathlib.Core.Bool.{true}
use mathlib.Core.List.{List, [], ◌∷◌, ◌++◌, map}
use Prim.Native.Nat.{ℕ, zero, suc, ◌+◌, ◌*◌, ◌≤◌, ◌<◌}
use native.Mathlib.Omega.{arith}
use lib.Dec.{ltb}
use lib.ListN.{length, get_or, take, drop, get_or-append}
use lib.Seq.{get_or-append-add}
use Rattle.model.specs.Lists.{In}
use Rattle.model.specs.Rules.{cells}
use Rattle.model.specs.Table.{Kind, Rule, Table, Shaped, default_rule, every_rule, cells_of, within, rising_from, added, with_rule}
use Rattle.model.proofs.Tests.{by_test}
use Rattle.model.proofs.Grid.{row_ends}
use Rattle.model.proofs.UpTo.{up_to_same}
use Rattle.model.proofs.Limits.{from_within}
use Rattle.rows.specs.Rows.{tree_at, low_in, high_in}
use Rattle.table.specs.Rows.{rows_text, rule_in, places, ahead}
use Rattle.table.proofs.Edits.{rows_long}
use Rattle.table.proofs.Place.{ahead_all}
use Rattle.layout.proofs.Words.{in_places, map_places, default_at}
use Rattle.layout.proofs.Bridge.{cells_any}

-- a rule put in at its place, and what stands behind the rules then
pub added_split : (r : Rule) (rs : List Rule) → added r rs ≡ take (ahead r.number rs) rs ++ (r ∷ drop (ahead r.number rs) rs)
added_split r [] = refl
added_split r (x ∷ rs) = by_test (ltb x.number r.number) (λ t. simp t (ap (λ ys. x ∷ ys) (added_split r rs))) (λ t. simp t)

module _ {A B : Type 0} (h : A → B) where
  pub map_put : (p : ℕ) (m : A) (ps : List A) → map h (take p ps ++ (m ∷ drop p ps)) ≡ take p (map h ps) ++ (h m ∷ drop p (map h ps))
  map_put zero m ps = refl
  map_put (suc p) m [] = refl
  map_put (suc p) m (x ∷ ps) = ap (λ ys. h x ∷ ys) (map_put p m ps)

  pub map_same : (g : A → B) (ps : List A) → ((x : A) → In x ps → h x ≡ g x) → map h ps ≡ map g ps
  map_same g [] e = refl
  map_same g (x ∷ ps) e = ap₂ ◌∷◌ (e x (inl refl)) (map_same g ps (λ y m. e y (inr m)))

pub put_behind : {A : Type 0} (p : ℕ) (x : A) (rs ds : List A) → p ≤ length rs → take p (rs ++ ds) ++ (x ∷ drop p (rs ++ ds)) ≡ (take p rs ++ (x ∷ drop p rs)) ++ ds
put_behind zero x rs ds h = refl
put_behind (suc p) x [] ds h = absurd (omega arith)
put_behind (suc p) x (r ∷ rs) ds h = ap (λ ys. r ∷ ys) (put_behind p x rs ds (omega arith))

module _ (n : ℕ) (rows more : List ℕ) where
  -- a row in front is what it was, and one behind is as it is lent
  pub rule_front : (q : ℕ) → q + (2 + 2 * n) ≤ length rows → rule_in n (rows ++ more) q ≡ rule_in n rows q
  rule_front q h =
      let f : (i : ℕ) → i < length rows → get_or (rows ++ more) i 0 ≡ get_or rows i 0 = λ i l. get_or-append rows more 0 i l in
      let a = up_to_same n (λ g. low_in (rows ++ more) g q) (λ g. low_in rows g q) (λ g l. f _ (omega arith)) in
      let b = up_to_same n (λ g. high_in (rows ++ more) g q) (λ g. high_in rows g q) (λ g l. f _ (omega arith)) in
      λ i. record { number = f q (omega arith) i; action = f (q + 1) (omega arith) i; lows = a i; highs = b i }

  pub rule_lent : (q : ℕ) → rule_in n (rows ++ more) (length rows + q) ≡ rule_in n more q
  rule_lent q =
      let f : (j : ℕ) → get_or (rows ++ more) (length rows + q + j) 0 ≡ get_or more (q + j) 0 = λ j. let z : length rows + q + j ≡ length rows + (q + j) = omega arith in ap (λ m. get_or (rows ++ more) m 0) z ∙ get_or-append-add rows more (q + j) 0 in
      let a = up_to_same n (λ g. low_in (rows ++ more) g (length rows + q)) (λ g. low_in more g q) (λ g l. f (2 + 2 * g)) in
      let b = up_to_same n (λ g. high_in (rows ++ more) g (length rows + q)) (λ g. high_in more g q) (λ g l. f (3 + 2 * g)) in
      λ i. record { number = get_or-append-add rows more q 0 i; action = f 1 i; lows = a i; highs = b i }

-- The rows of a table within the limits, with other words lent behind them
module _ (k : Kind) (s : Shaped k) (t : Table) (right : within k t ≡ true) (more : List ℕ) where
  abbrev F : ℕ
  F = length k.tops

  abbrev both : List ℕ
  both = rows_text k t ++ more

  old_at : (x : ℕ) → In x (places k.width (length t.rules)) → rule_in F both x ≡ rule_in F (rows_text k t) x
  old_at x m =
      let i = in_places k.width (length t.rules) x m in
      rule_front F (rows_text k t) more x (omega (arith, i.2, rows_long k t, s.ends, row_ends k.width i.0 (suc k.most) (omega (arith, i.1, (from_within k t right).fits))))

  -- the rules of the table's rows are as they were, and so is the default
  pub front_rules : map (rule_in (length k.tops) (rows_text k t ++ more)) (places k.width (length t.rules)) ≡ every_rule k t
  front_rules = map_same (rule_in F both) (rule_in F (rows_text k t)) (places k.width (length t.rules)) old_at ∙ map_places k s t right

  pub front_default : rule_in (length k.tops) (rows_text k t ++ more) 0 ≡ default_rule k t.action
  front_default = rule_front F (rows_text k t) more 0 (omega (arith, rows_long k t, s.ends, row_ends k.width 0 (suc k.most) (omega arith))) ∙ default_at k s t right

  -- where they are the row of a rule, with its place among the table's
  module _ (p : ℕ) (e : p ≡ ahead (get_or more 0 0) t.rules) where
    -- the rules of all these rows are the table's with the new one, and the default
    lent_map : map (rule_in F both) (take p (places k.width (length t.rules)) ++ (length (rows_text k t) ∷ drop p (places k.width (length t.rules)))) ≡ every_rule k (with_rule (rule_in F more 0) t)
    lent_map =
        let z : length (rows_text k t) + 0 ≡ length (rows_text k t) = omega arith in
        map_put (rule_in F both) p (length (rows_text k t)) (places k.width (length t.rules))
        ∙ (ap₂ (λ rs r. take p rs ++ (r ∷ drop p rs)) front_rules (rw z at (rule_lent F (rows_text k t) more 0))
        ∙ (put_behind p (rule_in F more 0) t.rules (default_rule k t.action ∷ []) (omega (arith, ahead_all (get_or more 0 0) t.rules))
        ∙ ap (λ rs. rs ++ (default_rule k t.action ∷ [])) (ap (λ q. take q t.rules ++ (rule_in F more 0 ∷ drop q t.rules)) e ∙ sym (added_split (rule_in F more 0) t.rules))))

    -- SO THE NEW TABLE'S CELLS ARE COUNTED before a word of the rows is moved
    pub lent_cells : rising_from 0 (added (rule_in (length k.tops) more 0) t.rules) ≡ true
        → cells (tree_at (rows_text k t ++ more) 0 (length k.tops) (take p (places k.width (length t.rules)) ++ (length (rows_text k t) ∷ drop p (places k.width (length t.rules))))) ≡ cells_of k (with_rule (rule_in (length k.tops) more 0) t)
    lent_cells up = cells_any k (with_rule (rule_in F more 0) t) both front_default _ lent_map up

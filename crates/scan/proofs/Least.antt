-- The first of a list's rules with the least number, found from the front: of two rules at the front the later stays only if its number is less, and which rule stands behind the list does not matter where the front goes before it.
-- Assumes nothing.
use mathlib.Core.Path.{◌≡◌, sym, ◌∙◌}
use mathlib.Core.Bool.{cond}
use mathlib.Core.List.{List, [], ◌∷◌}
use Prim.Native.Nat.{◌≤◌}
use native.Mathlib.Omega.{arith}
use lib.Dec.{ltb, leb}
use borrow.Author.Tests.{ltb-true, ltb-false, leb-true, leb-false, le-leb, lt-leb}
use Rattle.model.specs.Lists.{least}
use Rattle.model.specs.Table.{Rule, number_of}
use Rattle.model.proofs.Tests.{by_test}

-- of two rules, the earlier first, the one that is left
abbrev pub lower : Rule → Rule → Rule
lower r x = cond (ltb x.number r.number) x r

pub front_two : (d r x : Rule) (rs : List Rule) → least number_of d (r ∷ x ∷ rs) ≡ least number_of d (lower r x ∷ rs)
front_two d r x rs = go (least number_of d rs)
  where
    go : (m : Rule) → cond (leb r.number (cond (leb x.number m.number) x m).number) r (cond (leb x.number m.number) x m)
        ≡ cond (leb (lower r x).number m.number) (lower r x) m
    go m = by_test (ltb x.number r.number)
        (λ t. let a = ltb-true x.number r.number t in by_test (leb x.number m.number)
        (λ u. simp (t, u, lt-leb r.number x.number a))
        (λ u. let b = leb-false x.number m.number u in simp (t, u, lt-leb r.number m.number (omega arith))))
        (λ t. let a = ltb-false x.number r.number t in by_test (leb x.number m.number)
        (λ u. let b = leb-true x.number m.number u in simp (t, u, le-leb r.number x.number a, le-leb r.number m.number (omega arith)))
        (λ u. simp (t, u)))

lower_most : (r x : Rule) → (lower r x).number ≤ r.number
lower_most r x = by_test (ltb x.number r.number) (λ t. let a = ltb-true x.number r.number t in rw t (omega arith)) (λ t. rw t (omega arith))

pub behind : (rs : List Rule) (r d : Rule) → r.number ≤ d.number → least number_of d (r ∷ rs) ≡ least number_of r (r ∷ rs)
behind [] r d h = rw (le-leb r.number d.number h, le-leb r.number r.number (omega arith))
behind (x ∷ rs) r d h =
    let l = lower_most r x in
    front_two d r x rs ∙ behind rs (lower r x) d (omega arith) ∙ sym (front_two r r x rs ∙ behind rs (lower r x) r l)

-- so the first with the least number is found in one pass
pub one_more : (r x : Rule) (rs : List Rule) → least number_of (lower r x) (lower r x ∷ rs) ≡ least number_of r (r ∷ x ∷ rs)
one_more r x rs = sym (front_two r r x rs ∙ behind rs (lower r x) r (lower_most r x))

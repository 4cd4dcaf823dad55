-- A tree of numbers against a goal, location by location from the highest end down: what is found of the rest of a chain, and below a location before it, says what is found of both.
-- Assumes nothing.
use mathlib.Core.Path.{◌≡◌, refl, sym, ap, ◌∙◌}
use mathlib.Core.List.{List, ◌∷◌}
use Prim.Native.Nat.{ℕ, suc, ◌≤◌, ◌<◌}
use native.Mathlib.Omega.{arith}
use lib.Dec.{leb}
use borrow.Author.Tests.{leb-true, leb-false, le-leb, lt-leb}
use Rattle.std.proofs.Common.{Option, Some, None}
use Rattle.std.specs.Option.{unwrap_or}
use Rattle.model.specs.Rules.{Tree, stop, loc}
use Rattle.model.proofs.Tests.{by_test}
use Rattle.search.specs.Search.{most}
use Rattle.search.proofs.First.{first_here, first_past, by_place}
use Rattle.deepest.specs.Deepest.{itself, greatest, first_greatest}
use Rattle.deepest.specs.Search.{Met}

-- what is told of a tree where the goal is met, and where it is not
module _ {t : Tree ℕ} {l goal : ℕ} {before after : List ℕ} where
  pub met_yes : {r : Option ℕ} → goal ≤ greatest t → r ≡ Some (greatest t) → after ≡ first_greatest l t → Met t l goal r before after
  met_yes h p q = let z = le-leb goal (greatest t) h in record { says = rw z p; written = rw z q }

  pub met_no : {r : Option ℕ} → greatest t < goal → r ≡ None → after ≡ before → Met t l goal r before after
  met_no h p q = let z = lt-leb goal (greatest t) h in record { says = rw z p; written = rw z q }

  pub yes_met : {x : ℕ} → Met t l goal (Some x) before after → (goal ≤ greatest t) × (x ≡ greatest t) × (after ≡ first_greatest l t)
  yes_met {x} m = by_test (leb goal (greatest t))
      (λ z. let q : Some x ≡ Some (greatest t) = m.says ∙ rw z in (leb-true goal (greatest t) z, cc, m.written ∙ rw z))
      (λ z. let q : Some x ≡ None = m.says ∙ rw z in cc)

  pub no_met : Met t l goal None before after → (greatest t < goal) × (after ≡ before)
  no_met m = by_test (leb goal (greatest t))
      (λ z. let q : None ≡ Some (greatest t) = m.says ∙ rw z in cc)
      (λ z. (leb-false goal (greatest t) z, m.written ∙ rw z))

pub met_stop : (l goal : ℕ) (out : List ℕ) → 0 < goal → Met stop l goal None out out
unfolding most
met_stop l goal out h = met_no h refl refl

-- WHAT IS FOUND OF THE REST of a chain is asked of the locations before it
module _ {t : Tree ℕ} {l goal : ℕ} {found : Option ℕ} {before out : List ℕ} (s : Met t l goal found before out) where
  by_rest : {X : Type 0} → (goal ≤ greatest t → unwrap_or found goal ≡ greatest t → X) → (greatest t < goal → unwrap_or found goal ≡ goal → X) → X
  by_rest f g = by_test (leb goal (greatest t))
      (λ z. let q : found ≡ Some (greatest t) = s.says ∙ rw z in f (leb-true goal (greatest t) z) (ap (λ r. unwrap_or r goal) q))
      (λ z. let q : found ≡ None = s.says ∙ rw z in g (leb-false goal (greatest t) z) (ap (λ r. unwrap_or r goal) q))

  pub asks_some : 0 < goal → 0 < unwrap_or found goal
  asks_some h = by_rest (λ z q. omega arith) (λ z q. omega arith)

-- A LOCATION BEFORE THE REST, whose values begin at l
module _ {e : ℕ} {u t : Tree ℕ} {l goal : ℕ} {found : Option ℕ} {before out : List ℕ} (s : Met t (suc e) goal found before out) where
  pub met_better : unwrap_or found goal ≤ greatest u → {got : ℕ} → got ≡ greatest u → {after : List ℕ} → after ≡ l ∷ first_greatest 0 u → Met (loc e u t) l goal (Some got) before after
  met_better h {got} q w =
      let a : (greatest t ≤ greatest u) × (goal ≤ greatest u) = by_rest s (λ z y. (omega arith, omega arith)) (λ z y. (omega arith, omega arith)) in
      let f = first_here 0 itself l e u t a.0 in
      let m : greatest (loc e u t) ≡ got = f.1 ∙ omega arith in
      met_yes (omega (arith, m, a.1)) (ap Some (sym m)) (w ∙ sym f.0)

  pub met_worse : greatest u < unwrap_or found goal → Met (loc e u t) l goal found before out
  met_worse h = by_rest s
      (λ z y.
      let f = first_past 0 itself l e u t (omega arith) in
      let m : greatest (loc e u t) ≡ greatest t = f.1 ∙ omega arith in
      record { says = rw m s.says; written = rw (m, f.0) s.written })
      (λ z y.
      let b : greatest (loc e u t) < goal = by_place 0 itself l e u t (λ q. omega (arith, (first_here 0 itself l e u t q).1)) (λ q. omega (arith, (first_past 0 itself l e u t q).1)) in
      let k = lt-leb goal (greatest t) z in
      met_no b (s.says ∙ rw k) (s.written ∙ rw k))

-- `decide::fits` meets its contract: the set that is counted is that of the rules with the lent one at its place.
-- Assumes nothing.
use mathlib.Core.Path.{◌≡◌, sym, ap, ap₂, ◌∙◌}
use mathlib.Core.List.{List, ◌∷◌, ◌++◌}
use native.Mathlib.Omega.{arith}
use Prim.Native.Nat.{ℕ, ◌+◌, ◌≤◌}
use lib.ListN.{take, drop}
use lib.Seq.{take-take}
use Rattle.table.specs.Rows.{places}
use Rattle.layout.proofs.Parts.{counted}
use Rattle.decide.proofs.fits.Goals as goal

put_in : (n p x w : ℕ) (a b : List ℕ) → take (n + 1) a ≡ places w n → take (n + 1 + 1) b ≡ take p a ++ (x ∷ drop p (take (n + 1) a)) → p ≤ n → take (n + 2) b ≡ take p (places w n) ++ (x ∷ drop p (places w n))
put_in n p x w a b e f h =
    let z : n + 1 + 1 ≡ n + 2 = omega arith in
    (rw z at f) ∙ ap₂ (λ ys zs. ys ++ (x ∷ drop p zs)) (sym (take-take p (n + 1) a (omega arith)) ∙ ap (take p) e) e

pub returns : goal.returns
returns c =
    let a = c.args in
    let q = put_in a.n a.p _ a.shape.now.width _ _ c.places.ensures c.put_in.ensures c.requires.1 in
    counted _ _ a.c (rw (q, c.new-both.ensures) at c.count_chain.ensures)

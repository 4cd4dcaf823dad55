-- `levels::links_are` meets its contract: each place is right, or one is not.
-- Assumes nothing.
use mathlib.Core.Path.{◌≡◌, refl}
use mathlib.Core.Bool.{true, false}
use Prim.Native.Nat.{◌*◌}
use native.Mathlib.Omega.{arith}
use borrow.Author.Rules.{rules}
use Rattle.std.proofs.lemmas.Iterator.{cases_from_all, YieldsList-from_range}
use Rattle.levels.proofs.Levels.{tested, Linking, links_stand}
use Rattle.levels.proofs.links_are.Goals as goal

pub returns : goal.returns
returns c =
    let a = c.args in
    let n = 8 * a.above.count in
    let right = Linking a.words.now a.above.first a.above.count a.below.first a.below.count in
    links_stand _ _ _ _ _ c.requires.0 c.all.result c.requires.1
    (tested _ right n (cases_from_all _ _ _ (λ k. right k ≡ true) (λ k. right k ≡ false) c.all.ensures.ran (YieldsList-from_range 0 n n refl (omega arith)) (λ x q k. search rules) (λ x q k. search rules)))

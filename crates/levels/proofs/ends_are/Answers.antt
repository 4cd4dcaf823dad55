-- `levels::ends_are` meets its contract: each place is right, or one is not.
-- Assumes nothing.
use mathlib.Core.Path.{◌≡◌, refl}
use mathlib.Core.Bool.{true, false}
use Prim.Native.Nat.{◌*◌}
use native.Mathlib.Omega.{arith}
use borrow.Author.Rules.{rules}
use lib.ListN.{length}
use Rattle.std.proofs.lemmas.Iterator.{cases_from_all, YieldsList-from_range}
use Rattle.levels.proofs.Levels.{tested, Ending, ends_stand}
use Rattle.levels.proofs.ends_are.Goals as goal

pub returns : goal.returns
returns c =
    let a = c.args in
    let n = 8 * a.level.count in
    let right = Ending a.words.now a.level.first a.level.count a.ends.now (length a.ends.now) in
    ends_stand _ _ _ _ _ c.all.result
    (tested _ right n (cases_from_all _ _ _ (λ k. right k ≡ true) (λ k. right k ≡ false) c.all.ensures.ran (YieldsList-from_range 0 n n refl (omega arith)) (λ x q k. search rules) (λ x q k. search rules)))

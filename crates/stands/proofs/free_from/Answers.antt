-- `stands::free_from` meets its contract.
-- Assumes nothing.
use mathlib.Core.Path.{refl, ◌∙◌}
use Prim.Native.Nat.{◌-◌}
use Rattle.std.proofs.Common.{rules, tests}
use Rattle.std.proofs.lemmas.Iterator.{YieldsList-from_range}
use Rattle.std.proofs.lemmas.Iterator.Search.{all_from_yields_List}
use Rattle.stands.proofs.Steps.{IsFree, free_all}
use Rattle.stands.proofs.free_from.Goals as goal

pub returns : goal.returns
returns c =
    let a = c.args in
    let n = a.c - a.k in
    all_from_yields_List (IsFree a.words.now a.c c.requires) _ _ c.all.result c.all.ensures.ran (YieldsList-from_range a.k a.c n refl refl) (λ x b q h. search (rules, tests)) ∙ free_all _ _ c.requires n a.k refl

-- `lookup::walk` meets its contract: a field reads at most c cells, and the walk of one after the other is the whole walk.
-- Assumes nothing.
use Rattle.std.proofs.Common.{◌≡◌, rules, arith, sym, ◌∙◌}
use Rattle.lookup.specs.Walk.{seek_of, walk_of}
use Rattle.lookup.proofs.Steps.{seek_few}
use Rattle.lookup.proofs.walk.Goals as goal

pub through-requires-clause-few : goal.through-requires-clause-few
through-requires-clause-few c = λ k v o e w s.
    let a = c.args in
    let q : o ≡ seek_of a.part.now a.c v a.c k 0 = search rules in
    omega (arith, seek_few _ _ _ _ _ w (sym s ∙ q))

pub returns : goal.returns
unfolding walk_of
returns c = let a = c.args in c.through.ensures (λ k v. seek_of a.part.now a.c v a.c k 0) (λ k v o e. search rules)

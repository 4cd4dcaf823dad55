-- `image::walk` meets its contract: a field reads at most 8 blocks, and the walk of one after the other is the whole walk.
-- Assumes nothing.
use Rattle.std.proofs.Common.{◌≡◌, rules, arith, sym, ◌∙◌}
use Rattle.image.specs.Walk.{seek_blocks, walk_blocks}
use Rattle.image.proofs.Steps.{seek_few}
use Rattle.image.proofs.walk.Goals as goal

pub through-requires-clause-few : goal.through-requires-clause-few
through-requires-clause-few c = λ k v o e w s.
    let q : o ≡ seek_blocks c.args.blocks.now v 8 k 0 = search rules in
    omega (arith, seek_few _ _ _ _ w (sym s ∙ q))

pub returns : goal.returns
unfolding walk_blocks
returns c = c.through.ensures (λ k v. seek_blocks c.args.blocks.now v 8 k 0) (λ k v o e. search rules)

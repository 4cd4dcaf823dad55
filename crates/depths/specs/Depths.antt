-- What is said of the most blocks that a lookup over an image reads, for any words.
-- Assumes nothing: these are definitions.
use Rattle.std.specs.Prelude.{cond, List, map, ℕ}
use Rattle.model.specs.Table.{Kind}
use Rattle.layout.specs.Store.{table_of}
use Rattle.deepest.specs.Deepest.{most_blocks, first_deepest}
use Rattle.frozen.specs.Frozen.{image_passes}
use Rattle.worst.specs.declared.Most.{Most}
use Rattle.worst.specs.Worst.{made}

-- 9 where the image check fails; else the most blocks that a record of values within the tops reads, and the least record that reads so many. In place of a record that is not there stands `none`.
unfoldable pub image_most : Kind → List ℕ → List ℕ → Most
image_most k ws none = cond (image_passes k ws) (made 0 (most_blocks k (table_of k ws)) (first_deepest k (table_of k ws))) (made 9 0 none)

-- THE CALL: zeros in place of a record that is not there
abbrev pub image_worst : Kind → List ℕ → Most
image_worst k ws = image_most k ws (map (λ t. 0) k.tops)

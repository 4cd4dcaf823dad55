-- What the search over the rows of an image that passes says of its table.
-- Assumes nothing.
use Rattle.std.specs.Prelude.{Option, Some, unwrap_or}
use mathlib.Core.Path.{◌≡◌, sym, ap, ap₂, ◌∙◌}
use mathlib.Core.Bool.{true, false}
use mathlib.Core.List.{List}
use Prim.Native.Nat.{ℕ, ◌≤◌}
use native.Mathlib.Omega.{arith}
use lib.ListN.{length, get_or}
use borrow.Author.Tests.{le-leb}
use Rattle.model.specs.Lists.{same}
use Rattle.model.specs.Rules.{Tree}
use Rattle.model.specs.Table.{Kind, Shaped, every_rule, within}
use Rattle.model.proofs.Tests.{and_left}
use Rattle.model.proofs.UpTo.{same_true}
use Rattle.rows.specs.Rows.{tree_at}
use Rattle.table.specs.Rows.{rows_text, places}
use Rattle.layout.specs.Named.{stored}
use Rattle.layout.specs.Store.{rows_of, table_of}
use Rattle.layout.specs.Inner.{table_stands}
use Rattle.layout.proofs.Sound.{count_is}
use Rattle.deepest.specs.Deepest.{weighed, bare, most_blocks, first_deepest}
use Rattle.deepest.specs.Search.{Met}
use Rattle.frozen.specs.Frozen.{image_passes}
use Rattle.inspect.specs.Body.{image_body}
use Rattle.inspect.proofs.Laws.{SoundImage, sound_image}
use Rattle.worst.specs.Worst.{made}
use Rattle.depths.specs.Depths.{image_most}
use Rattle.depths.proofs.Weighed.{stored_weighed, each_block}
use Rattle.depths.proofs.Facts.{deepest, image_within}

-- AN IMAGE THAT PASSES
module _ (k : Kind) (s : Shaped k) (ws : List ℕ) (p : image_passes k ws ≡ true) where
  pub its : SoundImage k ws
  its = sound_image k s ws p

  right : within k (table_of k ws) ≡ true
  right = image_within k ws p

  rows_are : rows_of k ws ≡ rows_text k (table_of k ws)
  unfolding image_body
  rows_are = same_true _ _ (and_left (same (rows_of k ws) (rows_text k (table_of k ws))) _ (and_left (table_stands k (get_or ws 1 0) (rows_of k ws)) _ its.body))

  some_most : 1 ≤ most_blocks k (table_of k ws)
  some_most = omega (arith, (deepest k s (table_of k ws) right).takes, each_block k.tops 0 (first_deepest k (table_of k ws)) (every_rule k (table_of k ws)), s.some)

  -- WHAT THE CODE FINDS, over the rows of the words
  module _ (rows : List ℕ) (g : rows ≡ rows_of k ws) where
    abbrev pub tree_found : Tree ℕ
    tree_found = tree_at rows 0 (length k.tops) (places k.width (get_or ws 1 0))

    tree_is : tree_found ≡ stored k (table_of k ws)
    unfolding stored
    tree_is = ap₂ (λ rows n. tree_at rows 0 (length k.tops) (places k.width n)) (g ∙ rows_are) (sym (count_is k s ws))

    pub says_worst : (r : Option ℕ) (v : ℕ) (none out : List ℕ) → v ≡ unwrap_or r 0 → Met (weighed 0 tree_found) 0 1 r none out → made 0 v out ≡ image_most k ws none
    unfolding image_most
    says_worst r v none out e m =
        let q : weighed 0 tree_found ≡ weighed 0 (bare k (table_of k ws)) = ap (weighed 0) tree_is ∙ stored_weighed k s (table_of k ws) right in
        let z = le-leb 1 (most_blocks k (table_of k ws)) some_most in
        let n : r ≡ Some (most_blocks k (table_of k ws)) = m.says ∙ rw (q, z) in
        let b : v ≡ most_blocks k (table_of k ws) = e ∙ rw n in
        let f : out ≡ first_deepest k (table_of k ws) = m.written ∙ rw (q, z) in
        rw (p, b, f)

-- a refusal
pub says_9 : (k : Kind) (ws : List ℕ) → image_passes k ws ≡ false → (none : List ℕ) → made 9 0 none ≡ image_most k ws none
unfolding image_most
says_9 k ws p none = rw p

-- What specs/Facts.antt claims, by the laws of the search over a weighed tree.
-- Assumes nothing.
use mathlib.Core.Path.{◌≡◌, sym, ◌∙◌}
use mathlib.Core.Bool.{true, false}
use mathlib.Core.List.{List, map}
use Prim.Native.Nat.{ℕ}
use Rattle.model.specs.Table.{Kind, Table, Shaped, within}
use Rattle.model.proofs.Tests.{by_test, and_left}
use Rattle.layout.specs.Store.{table_of}
use Rattle.search.specs.Facts.{InTops}
use Rattle.search.proofs.First.{from_zero, score_most, first_fits, first_most, lesser}
use Rattle.search.proofs.Topped.{fits_in}
use Rattle.deepest.specs.Deepest.{weighed, itself, bare, most_blocks, first_deepest}
use Rattle.frozen.specs.Frozen.{image_passes}
use Rattle.worst.specs.Worst.{made}
use Rattle.depths.specs.Depths.{image_most, image_worst}
use Rattle.depths.specs.Facts.{Deepest, Told, Refused, Depths}
use Rattle.depths.proofs.Weighed.{topped, gathers}

-- A TABLE
pub deepest : (k : Kind) → Shaped k → (t : Table) → within k t ≡ true → Deepest k t
deepest k s t w =
    let d = topped k t w in
    let i : InTops k (first_deepest k t) = fits_in k (first_deepest k t) (first_fits 0 itself d) in
    record {
      within = i;
      takes = sym (gathers k t w (first_deepest k t) i) ∙ first_most 0 itself d;
      no_more = λ vs j. rw (← gathers k t w vs j) (score_most 0 itself (weighed 0 (bare k t)) vs);
      fewer = λ vs j m. rw (← gathers k t w vs j) (lesser 0 itself d vs (from_zero vs) m);
    }

-- AN IMAGE
pub image_within : (k : Kind) (ws : List ℕ) → image_passes k ws ≡ true → within k (table_of k ws) ≡ true
unfolding image_passes
image_within k ws h = and_left (within k (table_of k ws)) _ h

says : (k : Kind) (ws : List ℕ) → image_passes k ws ≡ true → image_worst k ws ≡ made 0 (most_blocks k (table_of k ws)) (first_deepest k (table_of k ws))
unfolding image_most
says k ws h = rw h

told : (k : Kind) → Shaped k → (ws : List ℕ) → image_passes k ws ≡ true → Told k ws
told k s ws h =
    let w = deepest k s (table_of k ws) (image_within k ws h) in
    let q = says k ws h in
    record {
      answer = rw q;
      within = rw q w.within;
      takes = rw q w.takes;
      no_more = rw q w.no_more;
      fewer = rw q w.fewer;
    }

says_no : (k : Kind) (ws : List ℕ) → image_passes k ws ≡ false → image_worst k ws ≡ made 9 0 (map (λ t. 0) k.tops)
unfolding image_most
says_no k ws h = rw h

refused : (k : Kind) (ws : List ℕ) → (image_passes k ws ≡ true → ⊥) → Refused k ws
refused k ws h = by_test (image_passes k ws)
    (λ z. absurd (h z))
    (λ z. let q = says_no k ws z in record { answer = rw q; reads = rw q; value = rw q })

-- ALL THAT IS CLAIMED
pub depths : Depths
depths = record { deepest = deepest; told = told; refused = refused }

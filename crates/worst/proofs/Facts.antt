-- What specs/Facts.antt claims, by the laws of the search over the table that the words hold.
-- Assumes nothing.
use mathlib.Core.Path.{◌≡◌}
use mathlib.Core.Bool.{true, false}
use mathlib.Core.List.{List, map}
use Prim.Native.Nat.{ℕ}
use Rattle.model.specs.Table.{Kind, Shaped}
use Rattle.model.proofs.Tests.{by_test}
use Rattle.layout.specs.Store.{table_of, passes}
use Rattle.layout.proofs.Sound.{sound}
use Rattle.layout.proofs.Passed.{sound_within}
use Rattle.search.specs.Search.{most_reads, first_worst}
use Rattle.search.proofs.Facts.{searches}
use Rattle.worst.specs.Worst.{made, most_of, worst_says}
use Rattle.worst.specs.Facts.{Told, Refused, Worsts}

says : (k : Kind) (ws : List ℕ) → passes k ws ≡ true → worst_says k ws ≡ made 0 (most_reads k (table_of k ws)) (first_worst k (table_of k ws))
unfolding most_of
says k ws h = rw h

told : (k : Kind) → Shaped k → (ws : List ℕ) → passes k ws ≡ true → Told k ws
told k s ws h =
    let w = searches.worst k (table_of k ws) (sound_within k s ws (sound k s ws h)) in
    let q = says k ws h in
    record {
      answer = rw q;
      within = rw q w.within;
      takes = rw q w.takes;
      no_more = rw q w.no_more;
      fewer = rw q w.fewer;
    }

says_no : (k : Kind) (ws : List ℕ) → passes k ws ≡ false → worst_says k ws ≡ made 9 0 (map (λ t. 0) k.tops)
unfolding most_of
says_no k ws h = rw h

refused : (k : Kind) (ws : List ℕ) → (passes k ws ≡ true → ⊥) → Refused k ws
refused k ws h = by_test (passes k ws)
    (λ z. absurd (h z))
    (λ z. let q = says_no k ws z in record { answer = rw q; reads = rw q; value = rw q })

-- ALL THAT IS CLAIMED
pub worsts : Worsts
worsts = record { told = told; refused = refused }

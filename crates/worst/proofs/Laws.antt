-- What the search over the words of a store that passes says of its table.
-- Assumes nothing.
use mathlib.Core.Path.{◌≡◌, refl, sym, ap, ◌∙◌}
use mathlib.Core.Bool.{true, false}
use mathlib.Core.List.{List, ◌∷◌}
use Prim.Native.Nat.{ℕ, suc, ◌+◌, ◌-◌, ◌≤◌}
use native.Mathlib.Omega.{arith}
use lib.ListN.{length, get_or}
use borrow.Author.Tests.{le-leb}
use Rattle.model.specs.Rules.{Tree, names, stop, loc}
use Rattle.model.specs.Table.{Kind, Rule, Shaped, tree_of, within}
use Rattle.table.specs.Rows.{rows_text, rule_in}
use Rattle.layout.specs.Named.{rename, stored}
use Rattle.layout.specs.Store.{cells_in, part_of, table_of, passes}
use Rattle.layout.proofs.Bridge.{bridge}
use Rattle.layout.proofs.Sound.{sound, Roomy}
use Rattle.layout.proofs.Passed.{sound_within, sound_room}
use Rattle.search.specs.Search.{most, first, nothing, most_reads, first_worst}
use Rattle.search.specs.Links.{tree_in}
use Rattle.search.proofs.First.{Topped, leaf, last, more, first_here, first_past, by_place, first_fits}
use Rattle.search.proofs.Topped.{topped_of}
use Rattle.search.proofs.Written.{cut_fits}
use Rattle.best.specs.Best.{peak, summit, Climbed}
use Rattle.best.proofs.Steps.{climb_here, climb_past}
use Rattle.tied.proofs.Places.{ties}
use Rattle.worst.specs.Worst.{made, most_of}

-- other names: the walks are as long
peak_rename : {A B : Type 0} (h : A → B) (t : Tree A) → peak (rename h t) ≡ peak t
unfolding peak
peak_rename h (names a) = refl
peak_rename h stop = refl
peak_rename h (loc e u t) = rw (peak_rename h u, peak_rename h t)

summit_rename : {A B : Type 0} (h : A → B) (l : ℕ) (t : Tree A) → summit l (rename h t) ≡ summit l t
unfolding summit
summit_rename h l (names a) = refl
summit_rename h l stop = refl
summit_rename h l (loc e u t) = rw (peak_rename h u, peak_rename h t, summit_rename h 0 u, summit_rename h (suc e) t)

-- in a tree over some tops every walk comes to a name: the peak is one more than the most locations
as_far : {ts : List ℕ} {l : ℕ} {t : Tree Rule} → Topped ts l t → (peak t ≡ suc (most 1 nothing t)) × (summit l t ≡ first 1 nothing l t)
unfolding peak summit most first
as_far leaf = (refl, refl)
as_far {l = l} (last {e = e} {u = u} h s) =
    let i = as_far s in
    let z : peak {B = Rule} stop ≤ peak u = omega arith in
    let y : most 1 nothing stop ≤ most 1 nothing u = omega arith in
    let a = climb_here l e u stop z (omega (arith, i.0)) in
    let b = first_here 1 nothing l e u stop y in
    (omega (arith, a.0, b.1, i.0), a.1 ∙ ap (λ vs. l ∷ vs) i.1 ∙ sym b.0)
as_far {l = l} (more {e = e} {u = u} {t = t} h k s r) =
    let i = as_far s in
    let j = as_far r in
    by_place 1 nothing l e u t
    (λ q. let a = climb_here l e u t (omega (arith, i.0, j.0)) (omega (arith, i.0)) in let b = first_here 1 nothing l e u t q in (omega (arith, a.0, b.1, i.0), a.1 ∙ ap (λ vs. l ∷ vs) i.1 ∙ sym b.0))
    (λ q. let a = climb_past l e u t (omega (arith, i.0, j.0)) in let b = first_past 1 nothing l e u t q in (omega (arith, a.0, b.1, j.0), a.1 ∙ j.1 ∙ sym b.0))

-- A STORE THAT PASSES
module _ (k : Kind) (s : Shaped k) (ws : List ℕ) (p : passes k ws ≡ true) where
  right : within k (table_of k ws) ≡ true
  right = sound_within k s ws (sound k s ws p)

  pub room : Roomy k (cells_in ws) ws
  room = sound_room k s ws (sound k s ws p)

  tells : (peak (tree_of k (table_of k ws)) ≡ suc (most_reads k (table_of k ws))) × (summit 0 (tree_of k (table_of k ws)) ≡ first_worst k (table_of k ws))
  tells = as_far (topped_of k (table_of k ws) right)

  -- WHAT THE CODE FINDS over the part P of the words
  module _ (P : List ℕ) (g : P ≡ part_of k (cells_in ws) ws) (r : ℕ) (none out : List ℕ) where
    -- the tree that the words give
    tree_is : tree_in P (cells_in ws) (length k.tops) (get_or P 1 0) ≡ stored k (table_of k ws)
    tree_is = rw g (ties.tree k s ws p)

    names_of : ℕ → Rule
    names_of = rule_in (length k.tops) (rows_text k (table_of k ws))

    peak_is : peak (tree_in P (cells_in ws) (length k.tops) (get_or P 1 0)) ≡ suc (most_reads k (table_of k ws))
    unfolding names_of
    peak_is = ap peak tree_is ∙ sym (peak_rename names_of (stored k (table_of k ws))) ∙ ap peak (bridge k s (table_of k ws) right) ∙ tells.0

    summit_is : summit 0 (tree_in P (cells_in ws) (length k.tops) (get_or P 1 0)) ≡ first_worst k (table_of k ws)
    unfolding names_of
    summit_is = ap (summit 0) tree_is ∙ sym (summit_rename names_of 0 (stored k (table_of k ws))) ∙ ap (summit 0) (bridge k s (table_of k ws) right) ∙ tells.1

    module _ (h : Climbed (tree_in P (cells_in ws) (length k.tops) (get_or P 1 0)) 1 r none out) where
      -- the number that is returned
      pub past_is : r ≡ 2 + most_reads k (table_of k ws)
      past_is =
          let z = le-leb 1 (peak (tree_in P (cells_in ws) (length k.tops) (get_or P 1 0))) (omega (arith, peak_is)) in
          h.next ∙ rw z (omega (arith, peak_is))

      pub says_worst : ((i : ℕ) → get_or k.tops i 0 ≤ 4294967295) → made 0 (r - 2) out ≡ most_of k ws none
      unfolding most_of
      says_worst small =
          let z = le-leb 1 (peak (tree_in P (cells_in ws) (length k.tops) (get_or P 1 0))) (omega (arith, peak_is)) in
          let n : r - 2 ≡ most_reads k (table_of k ws) = omega (arith, past_is) in
          let v : out ≡ first_worst k (table_of k ws) = h.written ∙ rw (z, summit_is) (cut_fits k.tops (first_worst k (table_of k ws)) small (first_fits 1 nothing (topped_of k (table_of k ws) right))) in
          rw (p, n, v)

-- a refusal
pub says_9 : (k : Kind) (ws : List ℕ) → passes k ws ≡ false → (none : List ℕ) → made 9 0 none ≡ most_of k ws none
unfolding most_of
says_9 k ws p none = rw p

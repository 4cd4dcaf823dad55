-- Over words that pass the check, a search of the tree that the words give by their links finds a place where the search of the table's tree finds the rule there.
-- Assumes nothing.
use mathlib.Core.Path.{◌≡◌, refl, sym, ap, ap₂, ◌∙◌}
use mathlib.Core.Logic.{inl}
use mathlib.Core.Bool.{true}
use mathlib.Core.List.{List, [], ◌∷◌}
use Prim.Native.Nat.{ℕ, suc, ◌*◌, ◌≤◌}
use native.Mathlib.Omega.{arith}
use lib.ListN.{length}
use Rattle.model.specs.Lists.{In, keep}
use Rattle.model.specs.Rules.{Field, covers, ends, Tree, names, stop, loc, chain, tree}
use Rattle.model.specs.Table.{Kind, Shaped, Rule, tree_of, within}
use Rattle.model.proofs.Keep.{from_keep}
use Rattle.rows.specs.Rows.{fields_at, first_of, tree_at}
use Rattle.table.specs.Rows.{rows_text, rule_in, places}
use Rattle.cells.specs.Text.{part}
use Rattle.cells.proofs.Text.{deep_tree}
use Rattle.layout.specs.Named.{rename, stored}
use Rattle.layout.specs.Store.{cells_in, part_of, table_of, passes}
use Rattle.layout.proofs.Bridge.{bridge, stored_cells}
use Rattle.layout.proofs.Words.{in_places, rule_at_lem}
use Rattle.layout.proofs.Sound.{sound, count_is}
use Rattle.layout.proofs.Passed.{sound_within, sound_most}
use Rattle.search.specs.Search.{most, first}
use Rattle.search.specs.Links.{is_place, record_in}
use Rattle.tied.specs.Ties.{begin_in, tree_by, SaysAlike, Ties}
use Rattle.tied.proofs.Cells.{part_tree}

-- P holds of all that the tree names
abbrev pub All : {A : Type 0} → (A → Type 0) → Tree A → Type 0
All P (names a) = P a
All P stop = Unit {0}
All P (loc e u t) = All P u × All P t

all_chain : {A : Type 0} (P : A → Type 0) (u : ℕ → Tree A) → ((e : ℕ) → All P (u e)) → (es : List ℕ) → All P (chain u es)
all_chain P u h [] = tt
all_chain P u h (e ∷ es) = (h e, all_chain P u h es)

pub all_tree : {Q : Type 0} (P : ℕ → Type 0) → P 0 → (fs : List (Field Q ℕ)) (qs : List ℕ) → ((q : ℕ) → In q qs → P q) → All P (tree first_of fs qs)
all_tree P z [] [] h = z
all_tree P z [] (q ∷ qs) h = h q (inl refl)
all_tree P z (f ∷ fs) qs h = all_chain P (λ e. tree first_of fs (keep (covers f e) qs)) (λ e. all_tree P z fs (keep (covers f e) qs) (λ q m. h q (from_keep (covers f e) qs q m).0)) (ends f qs)

-- other names, of which the same is said
module _ {A B : Type 0} (g : A → ℕ) (k : B → ℕ) (h : A → B) where
  most_rename : (t : Tree A) → All (λ a. g a ≡ k (h a)) t → most 0 g t ≡ most 0 k (rename h t)
  unfolding most
  most_rename (names a) m = m
  most_rename stop m = refl
  most_rename (loc e u t) m = rw (most_rename u m.0, most_rename t m.1)

  first_rename : (t : Tree A) (l : ℕ) → All (λ a. g a ≡ k (h a)) t → first 0 g l t ≡ first 0 k l (rename h t)
  unfolding first
  first_rename (names a) l m = refl
  first_rename stop l m = refl
  first_rename (loc e u t) l m = rw (most_rename u m.0, most_rename t m.1, first_rename u 0 m.0, first_rename t (suc e) m.1)

-- THE SEARCH over the words of a store that passes
module _ (k : Kind) (s : Shaped k) (ws : List ℕ) (p : passes k ws ≡ true) where
  right : within k (table_of k ws) ≡ true
  right = sound_within k s ws (sound k s ws p)

  -- its part holds the table's tree
  words_part : part_of k (cells_in ws) ws ≡ part (cells_in ws) (stored k (table_of k ws))
  unfolding stored
  words_part = let o = sound k s ws p in o.tree ∙ ap₂ (λ rows n. part (cells_in ws) (tree_at rows 0 (length k.tops) (places k.width n))) o.rows (sym (count_is k s ws))

  -- so the words give that tree
  words_tree : tree_by k ws ≡ stored k (table_of k ws)
  unfolding stored
  words_tree =
      let t = table_of k ws in
      rw words_part (part_tree (cells_in ws) (stored k t) (omega (arith, stored_cells k s t right, sound_most k s ws (sound k s ws p))) (length k.tops) (deep_tree (rows_text k t) 0 (length k.tops) (places k.width (length t.rules))))

  -- what is said of a place is said of the rule there
  module _ (place : ℕ) (g : Rule → ℕ) (same : SaysAlike k ws place g) where
    at : (q i : ℕ) → i ≤ length (table_of k ws).rules → q ≡ k.width * i → is_place place q ≡ g (rule_in (length k.tops) (rows_text k (table_of k ws)) q)
    at q i l e = rw e (same i l ∙ ap g (sym (rule_at_lem k s (table_of k ws) right i l)))

    named : All (λ q. is_place place q ≡ g (rule_in (length k.tops) (rows_text k (table_of k ws)) q)) (stored k (table_of k ws))
    unfolding stored tree_at
    named = all_tree _ (at 0 0 (omega arith) (omega arith)) (fields_at (rows_text k (table_of k ws)) 0 (length k.tops)) (places k.width (length (table_of k ws).rules))
        (λ q m. let i = in_places k.width (length (table_of k ws).rules) q m in at q i.0 i.1 i.2)

    words_most : most 0 (is_place place) (tree_by k ws) ≡ most 0 g (tree_of k (table_of k ws))
    words_most = ap (most 0 (is_place place)) words_tree ∙ most_rename (is_place place) g (rule_in (length k.tops) (rows_text k (table_of k ws))) (stored k (table_of k ws)) named ∙ ap (most 0 g) (bridge k s (table_of k ws) right)

    words_first : record_in place (part_of k (cells_in ws) ws) (cells_in ws) (length k.tops) (begin_in k ws) ≡ first 0 g 0 (tree_of k (table_of k ws))
    unfolding record_in
    words_first = ap (first 0 (is_place place) 0) words_tree ∙ first_rename (is_place place) g (rule_in (length k.tops) (rows_text k (table_of k ws))) (stored k (table_of k ws)) 0 named ∙ ap (first 0 g 0) (bridge k s (table_of k ws) right)

-- ALL THAT IS CLAIMED
pub ties : Ties
ties = record { cells = words_part; tree = words_tree; found = words_most; written = words_first }

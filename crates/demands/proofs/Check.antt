-- What passes the check is sound by its links.
-- Assumes nothing.
use mathlib.Core.Path.{◌≡◌, refl, sym, ap, ap₂, subst, ◌∙◌}
use mathlib.Core.Logic.{◌⊎◌, inl, inr}
use mathlib.Core.Bool.{true, ◌&&◌}
use mathlib.Core.List.{List, [], ◌∷◌, ◌++◌, map, append_assoc}
use Prim.Native.Nat.{ℕ, suc, ◌+◌, ◌-◌, ◌*◌, ◌≤◌, ◌<◌}
use native.Mathlib.Omega.{arith}
use native.Mathlib.Nat.{zero-add}
use lib.Dec.{ltb, eqb}
use lib.ListN.{length, get_or, drop, length-append, take-append-drop}
use lib.Seq.{get_or-drop, drop-drop}
use borrow.Author.Tests.{ltb-true, ltb-false}
use Rattle.model.specs.Lists.{In, Rising}
use Rattle.model.specs.Rules.{Tree, cells, ranges_right}
use Rattle.model.specs.Table.{Kind, Rule, Shaped, row_words, front, number_of, fields, ports_right, rule_right, rising_from, tree_of}
use Rattle.model.proofs.Tests.{by_test, and_left, and_right}
use Rattle.model.proofs.Keep.{in_left, in_right}
use Rattle.model.proofs.Limits.{rises, in_rising, from_within}
use Rattle.cells.specs.Text.{frees, row, width, under, first, marks, belows, part}
use Rattle.cells.specs.Planted.{Deep}
use Rattle.cells.proofs.Text.{both_app, deep_tree, cells_sum}
use Rattle.table.specs.Rows.{rows_text, places, rule_in}
use Rattle.layout.specs.Named.{stored, rename}
use Rattle.layout.specs.Store.{cells_in, table_of, cells_gives}
use Rattle.layout.proofs.Bridge.{bridge, stored_cells}
use Rattle.layout.proofs.Sound.{sound as parts_of}
use Rattle.cells.proofs.From.{text_stands, text_behind}
use Rattle.tied.proofs.Places.{ties}
use Rattle.demands.specs.Calls.{Passes, rules_in, field_count, low_at, high_at, top_at, FullPorts, PortsOnly}
use Rattle.demands.specs.Links.{free_link, walk_link}
use Rattle.demands.specs.Check.{TreeFrom, cells_from, cells_used, SoundStore, Check}
use Rattle.demands.proofs.Held.{cells_in_lem, table_in_lem, text_passes, room, right, begins_with, fits, in_use}
use Rattle.demands.proofs.Fields.{ports_say, right_from}
use Rattle.demands.proofs.Links.{cells_on, length_on, in_on, Laid, rule_on, gives, reaches, many, follows}

-- the numbers of the rules rise
rising_numbers : (b : ℕ) (rs : List Rule) → rising_from b rs ≡ true → Rising (map number_of rs)
rising_numbers b [] h = tt
rising_numbers b (r ∷ rs) h =
    let t = rises b r rs h in
    ((λ y m. above (suc r.number) rs t.2 y m), rising_numbers (suc r.number) rs t.2)
  where
    above : (b : ℕ) (rs : List Rule) → rising_from b rs ≡ true → (y : ℕ) → In y (map number_of rs) → b ≤ y
    above b [] h y m = absurd m
    above b (r ∷ rs) h y (inl e) = omega (arith, (rises b r rs h).0)
    above b (r ∷ rs) h y (inr m) = let t = rises b r rs h in omega (arith, t.0, above (suc r.number) rs t.2 y m)

right_rest : (k : Kind) (r : Rule) → rule_right k r ≡ true → (ranges_right (fields k) r && ports_right k r) ≡ true
right_rest k r h = and_right (eqb (length r.highs) (field_count k)) _ (and_right (eqb (length r.lows) (field_count k)) _ h)

right_ranges : (k : Kind) (r : Rule) → rule_right k r ≡ true → (i : ℕ) → i < field_count k → (low_at r i ≤ high_at r i) × (high_at r i ≤ top_at k i)
right_ranges k r h i l = simp zero-add at (right_from r k.tops 0 (and_left _ _ (right_rest k r h)) i l)

right_ports : (k : Kind) (r : Rule) → rule_right k r ≡ true → PortsOnly k r ⊎ FullPorts k r
right_ports k r h = (ports_say k r).0 (and_right (ranges_right (fields k) r) _ (right_rest k r h))

module _ (k : Kind) (s : Shaped k) (ws : List ℕ) (h : Passes k ws) where
  -- the number of cells, the tree in them, and where the two links stand
  C : ℕ
  C = cells_in ws

  T : Tree ℕ
  T = stored k (table_of k ws)

  abbrev L : ℕ
  L = k.head + row_words k

  -- the words behind the store's part, and those behind its tree
  past : List ℕ
  past = drop (2 + 8 * C) (drop L ws)

  rest : List ℕ
  rest = frees (cells T) (C - cells T) ++ past

  tail_is : drop L ws ≡ part C T ++ past
  unfolding C T past
  tail_is = sym (take-append-drop (2 + 8 * C) (drop L ws)) ∙ ap (λ l. l ++ past) (ties.cells k s ws h)

  free_link_lem : free_link k ws ≡ cells T
  unfolding part
  free_link_lem = let z : L + 0 ≡ L = omega arith in rw z at (sym (get_or-drop L ws 0 0) ∙ ap (λ l. get_or l 0 0) tail_is)

  walk_link_lem : walk_link k ws ≡ (first C T 0).down
  unfolding part
  walk_link_lem = sym (get_or-drop L ws 1 0) ∙ ap (λ l. get_or l 1 0) tail_is

  cells_are : drop (front k) ws ≡ row C (marks C T (0 + width T)) 0 (belows C T (0 + width T) rest)
  unfolding part rest
  cells_are =
      let m = marks C T (0 + width T) in
      let b = 0 + width T in
      let F = frees (cells T) (C - cells T) in
      sym (drop-drop 2 L ws)
      ∙ ap (drop 2) tail_is
      ∙ ap (λ l. l ++ past) (both_app C m T 0 b F)
      ∙ append_assoc (row C m 0 (belows C T b [])) F past
      ∙ sym (both_app C m T 0 b (F ++ past))

  fit : cells T ≤ C
  unfolding C T
  fit = omega (arith, stored_cells k s (table_of k ws) (right k s ws h), fits k s ws h)

  laid : Laid k ws C T 0 (0 + width T)
  laid = text_stands (front k) ws C T rest cells_are fit

  free_are : drop (front k + 8 * cells T) ws ≡ rest
  free_are = text_behind (front k) ws C T rest cells_are

  deep_is : Deep T (field_count k)
  unfolding T stored
  deep_is = deep_tree (rows_text k (table_of k ws)) 0 (field_count k) (places k.width (length (rules_in k ws)))

  tree_is : rename (rule_on k ws C) T ≡ tree_of k (table_of k ws)
  unfolding T
  tree_is = ap (λ rows. rename (rule_in (field_count k) rows) T) (parts_of k s ws h).rows ∙ bridge k s (table_of k ws) (right k s ws h)

  free : List ℕ
  free = cells_on (cells T) (C - cells T)

  used_is : cells_used k ws ≡ cells_from k ws (first C T 0).down (rename (rule_on k ws C) T)
  used_is = ap₂ (λ j t. cells_from k ws j t) walk_link_lem (sym tree_is)

  inside : (j : ℕ) → j < C → In j (cells_used k ws ++ free)
  unfolding free
  inside j l = by_test (ltb j (cells T))
      (λ z. in_left (cells_used k ws) free j (rw used_is (reaches k ws C T (field_count k) 0 (0 + width T) deep_is laid j (side j (ltb-true j (cells T) z)))))
      (λ z. in_right (cells_used k ws) free j (in_on (cells T) (C - cells T) j (ltb-false j (cells T) z) (omega (arith, fit))))
    where
      side : (j : ℕ) → j < cells T → ((0 ≤ j) × (j < 0 + width T)) ⊎ ((0 + width T ≤ j) × (j < 0 + width T + under T))
      side j l = by_test (ltb j (0 + width T)) (λ z. inl (omega arith, ltb-true j _ z)) (λ z. inr (ltb-false j _ z, omega (arith, cells_sum T)))

  length_free : length free ≡ C - cells T
  unfolding free
  length_free = length_on (cells T) (C - cells T)

  tree_in_use : cells_gives k ws ≡ cells T
  unfolding T
  tree_in_use = in_use k s ws (table_of k ws) h refl ∙ sym (stored_cells k s (table_of k ws) (right k s ws h))

  all_once : length (cells_used k ws ++ free) ≡ C
  all_once = length-append (cells_used k ws) free ∙ omega (arith, ap length used_is ∙ many k ws C T (first C T 0).down, length_free, fit)

  sound_store : SoundStore k ws
  unfolding C free rest
  sound_store =
      let w = from_within k (table_of k ws) (right k s ws h) in
      let r = room k s ws h in
      record {
        least = r.least;
        most = r.most;
        long = r.long;
        marked = (parts_of k s ws h).marked;
        few = w.fits;
        rising = rising_numbers 0 (rules_in k ws) w.rising;
        numbers = λ r m. (in_rising 0 (rules_in k ws) w.rising r m).1;
        ranges = λ r m. right_ranges k r (w.right r m);
        ports = λ r m. right_ports k r (w.right r m);
        planted = subst (λ t. TreeFrom k ws (walk_link k ws) t) tree_is (rw walk_link_lem (gives k ws C refl T (field_count k) 0 (0 + width T) deep_is laid));
        free = free;
        chained = rw free_link_lem (follows k ws C refl (cells T) (C - cells T) past free_are (omega (arith, fit)));
        every = inside;
        once = all_once;
        all = omega (arith, tree_in_use, length_free, fit);
      }

pub check : (k : Kind) → Shaped k → Check k
check k s =
    record {
      sound = sound_store k s;
      only = begins_with k s;
      every = λ c t rest a b w fit. (text_passes k s c t rest a b w fit, cells_in_lem k s c t w rest, table_in_lem k s c t w rest);
    }

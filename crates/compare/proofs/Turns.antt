-- A comparison that goes down: the loop over the cells of a run, with the tree below each; a chain of one cell; and the whole part.
-- Assumes nothing.
use mathlib.Core.Path.{◌≡◌, refl, sym, ap, ◌∙◌}
use mathlib.Core.Bool.{Bool, true, false}
use mathlib.Core.List.{List, [], ◌∷◌}
use Prim.Native.Nat.{ℕ, ◌+◌, ◌-◌, ◌*◌, ◌≤◌, ◌<◌}
use native.Mathlib.Nat.{add-zero}
use native.Mathlib.Omega.{arith}
use lib.Dec.{ltb}
use lib.ListN.{length, get_or, take, drop}
use borrow.Author.Tests.{eqb-true}
use Rattle.model.specs.Lists.{keep}
use Rattle.model.specs.Rules.{covers, Tree, cells}
use Rattle.model.proofs.Tests.{never, and_left, and_right, by_test, same_test}
use Rattle.rows.specs.Rows.{field_at, tree_at, Flat}
use Rattle.cells.specs.Text.{cell_word, only_down, frees, first, tree_text, part}
use Rattle.std.specs.Prelude.{Option, Some, None}
use Rattle.std.specs.Bool.{then_some}
use Rattle.stands.specs.declared.Stands.{Stands}
use Rattle.model.specs.Lists.{same}
use Rattle.stands.specs.Stands.{Room, from, told, head_is, rest_is, before, heads_are, told_run}
use Rattle.model.proofs.UpTo.{same_true, true_same, same_false}
use Rattle.cells.specs.States.{Narrows}
use Rattle.cells.proofs.Lent.{lent}
use borrow.Rule.Slice.PartMut.{mid_of, put_mid, take_put}
use Rattle.stands.proofs.Text.{Held, text_rest, told_not, told_held}
use Rattle.stands.proofs.Steps.{Compared, compared_run, compared_start, compared_end, compared_not, compared_no, compared_on, run_differs, heads_inside}

-- where the loop of compare_run stands, over sets and ends that stood at its start: the set stays
pub record Comparing (ws : List ℕ) (c : ℕ) (rules sets₀ sets ends₀ ends' : List ℕ) (n f d k : ℕ) (run : Stands) (i b : ℕ) : Type 0 where
  pub compared : Compared ws c rules (take n sets₀) f d k run i b
  pub set_kept : take n sets ≡ take n sets₀
  pub sets_long : length sets ≡ length sets₀
  pub ends_long : length ends' ≡ length ends₀

-- a turn: m places cover the end of cell i, and the tree of their rules is below it
pub record Turn (ws : List ℕ) (c : ℕ) (rules sets₀ sets sets' ends₀ ends' : List ℕ) (n m f d k : ℕ) (run : Stands) (i b : ℕ) : Type 0 where
  pub some : d ≡ 0 → ⊥
  pub so_far : Comparing ws c rules sets₀ sets ends₀ ends' n f d k run i b
  pub e : ℕ
  pub is_end : e ≡ get_or ws (2 + 8 * i) 0
  pub narrows : Narrows rules sets sets' n m f e
  pub long : length sets' ≡ length sets
  pub fits : n ≤ length sets
  pub room : Room ws c
  pub inside : i < run.past

module _ {ws : List ℕ} {c : ℕ} {rules sets₀ sets sets' ends₀ ends' : List ℕ} {n m f d k : ℕ} {run : Stands} {i b : ℕ} (o : Turn ws c rules sets₀ sets sets' ends₀ ends' n m f d k run i b)
    {a : Option Stands} (h : a ≡ told ws c b (tree_at rules (f + 1) (d - 1) (take m (mid_of n (length sets' - n) sets')))) where
  next_places : take m (mid_of n (length sets' - n) sets') ≡ keep (covers (field_at rules f) (get_or ws (2 + 8 * i) 0)) (take n sets₀)
  next_places = rw (lent n sets' (omega (arith, o.long, o.fits))) (rw (o.is_end, o.so_far.set_kept) at o.narrows.next)

  pub turn_not : a ≡ None → None ≡ told ws c k (tree_at rules f d (take n sets₀))
  turn_not z = compared_not o.some o.so_far.compared o.room o.inside next_places h z

  module _ {under : Stands} {x : Bool} (u : a ≡ Some under) (y : x ≡ rest_is ws i under.says) where
    pub turn_no : x ≡ false → None ≡ told ws c k (tree_at rules f d (take n sets₀))
    turn_no z = compared_no o.some o.so_far.compared o.room o.inside next_places h u y z

    pub turn_on : x ≡ true → (ys : List ℕ) {ends2 : List ℕ} → length (put_mid n (length sets' - n) sets' ys) ≡ length sets' → length ends2 ≡ length ends'
        → Comparing ws c rules sets₀ (put_mid n (length sets' - n) sets' ys) ends₀ ends2 n f d k run (i + 1) under.past
    turn_on z ys l1 l2 = record {
      compared = compared_on o.some o.so_far.compared o.room o.inside next_places h u y z;
      set_kept = take_put n (length sets' - n) sets' ys (omega (arith, o.long, o.fits)) ∙ o.narrows.kept ∙ o.so_far.set_kept;
      sets_long = l1 ∙ o.long ∙ o.so_far.sets_long;
      ends_long = l2 ∙ o.so_far.ends_long;
    }

-- where all rules have one range from 0 the chain is one cell, and the same rules are below it
module _ {ws : List ℕ} {c : ℕ} {rules ps : List ℕ} {f n k e : ℕ} (nz : n ≡ 0 → ⊥) (l : Flat rules f ps e) (r : Room ws c) (m : k ≤ c) {x : Bool} (h : x ≡ heads_are ws c k (e ∷ [])) where
  pub flat_no : x ≡ false → None ≡ told ws c k (tree_at rules f n ps)
  flat_no d = compared_run ws c rules ps f n k nz r refl (rw l.one (run_differs ws c k (e ∷ []) (λ z. never (sym z ∙ sym h ∙ d))))

  module _ (d : x ≡ true) where
    pub flat_inside : k < c
    flat_inside = omega (arith, heads_inside ws c k (e ∷ []) m (sym h ∙ d))

    head_one : head_is ws k e c ≡ true
    unfolding heads_are before
    head_one = rw add-zero at (and_right (ltb (k + 0) c) _ (sym h ∙ d))

    module _ {a : Option Stands} (t : a ≡ told ws c (k + 1) (tree_at rules (f + 1) (n - 1) ps)) where
      start : Compared ws c rules ps f n k (record { past = k + 1; says = only_down k }) k (k + 1)
      unfolding told_run before
      start = compared_start ws c rules ps f n k nz m refl (rw (l.one, sym h ∙ d, add-zero))

      covered : ps ≡ keep (covers (field_at rules f) (get_or ws (2 + 8 * k) 0)) ps
      unfolding head_is
      covered = let z : get_or ws (2 + 8 * k) 0 ≡ e = rw add-zero at (eqb-true (cell_word ws k 0) e (and_left _ _ head_one)) in rw z (sym l.all)

      pub flat_not : a ≡ None → None ≡ told ws c k (tree_at rules f n ps)
      flat_not v = compared_not nz start r (omega arith) covered t v

      pub flat_says : {under : Stands} {y : Bool} → a ≡ Some under → y ≡ rest_is ws k under.says → then_some y (record { past = under.past; says = only_down k }) ≡ told ws c k (tree_at rules f n ps)
      flat_says {under} {y} u g =
          by_test y
          (λ v. rw v (compared_end nz (compared_on nz start r (omega arith) covered t u g v) (omega arith)))
          (λ v. rw v (compared_no nz start r (omega arith) covered t u g v))

-- THE WHOLE PART
module _ (ws : List ℕ) (c : ℕ) (t : Tree ℕ) where
  abbrev rest : List ℕ
  rest = tree_text c t 0 (frees (cells t) (c - cells t))

  -- the three things that have to stand
  taken : ws ≡ part c t → (get_or ws 0 0 ≡ cells t) × (get_or ws 1 0 ≡ (first c t 0).down) × (from ws 0 ≡ rest)
  unfolding part
  taken h = (ap (λ l. get_or l 0 0) h, ap (λ l. get_or l 1 0) h, ap (drop 2) h)

  made : (l : List ℕ) → 2 ≤ length l → l ≡ get_or l 0 0 ∷ get_or l 1 0 ∷ drop 2 l
  made (x ∷ y ∷ l) h = refl
  made (x ∷ []) h = absurd (omega arith)
  made [] h = absurd (omega arith)

  module _ {a : Option Stands} (told-so : a ≡ told ws c 0 t) where
    pub part_differs : a ≡ None → false ≡ same ws (part c t)
    part_differs d = sym (same_false ws (part c t) (λ h. told_not ws c t 0 (sym told-so ∙ d) _ (taken h).2))

    module _ {tree : Stands} (u : a ≡ Some tree) where
      stood : Held ws c t 0 × (tree.past ≡ 0 + cells t) × (tree.says ≡ first c t 0)
      stood = told_held ws c t 0 tree (sym told-so ∙ u)

      ends_at_lem : tree.past ≡ cells t
      ends_at_lem = omega (arith, stood.1)

      pub part_no_past : (get_or ws 0 0 ≡ tree.past → ⊥) → false ≡ same ws (part c t)
      part_no_past d = sym (same_false ws (part c t) (λ h. d ((taken h).0 ∙ sym ends_at_lem)))

      pub part_no_low : (get_or ws 1 0 ≡ tree.says.down → ⊥) → false ≡ same ws (part c t)
      part_no_low d = sym (same_false ws (part c t) (λ h. d ((taken h).1 ∙ ap (λ b. b.down) (sym stood.2))))

      pub part_rest : length ws ≡ 2 + 8 * c → get_or ws 0 0 ≡ tree.past → get_or ws 1 0 ≡ tree.says.down → (b : Bool) → b ≡ same (from ws tree.past) (frees tree.past (c - tree.past)) → b ≡ same ws (part c t)
      unfolding part
      part_rest n p q b h =
          let v = stood in
          let z : 0 + cells t ≡ cells t = omega arith in
          let hold : from ws 0 ≡ tree_text c t 0 (from ws (cells t)) = rw z at v.0 in
          let behind : (r : List ℕ) → from ws 0 ≡ tree_text c t 0 r → from ws (cells t) ≡ r = λ r g. sym (rw z at (text_rest ws c t 0 r g)) in
          h ∙ rw ends_at_lem (same_test _ _
          (λ s. true_same ws (part c t) (made ws (omega arith) ∙ rw (p ∙ ends_at_lem, q ∙ ap (λ b. b.down) v.2) (ap (λ l. cells t ∷ (first c t 0).down ∷ l) (hold ∙ ap (λ l. tree_text c t 0 l) (same_true _ _ s)))))
          (λ s. true_same _ _ (behind _ (taken (same_true ws (part c t) s)).2)))

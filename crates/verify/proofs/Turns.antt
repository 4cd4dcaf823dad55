-- A comparison that goes down: a chain of one block; the loop over the ends of a chain, with the tree below each; and the whole tree.
-- Assumes nothing.
use mathlib.Core.Path.{◌≡◌, refl, sym, ap, ◌∙◌}
use mathlib.Core.Bool.{Bool, true, false, not}
use mathlib.Core.List.{List}
use Prim.Native.Nat.{ℕ, ◌+◌, ◌-◌, ◌*◌, ◌/◌, ◌≤◌, ◌<◌}
use native.Mathlib.Omega.{arith}
use lib.Dec.{ltb, eqb}
use lib.ListN.{length, get_or, take, drop}
use lib.Seq.{drop-length}
use borrow.Author.Tests.{ltb-true, ltb-false, eqb-true, eq-eqb}
use borrow.Rule.Slice.PartMut.{mid_of, put_mid, take_put}
use Rattle.model.specs.Lists.{keep, same}
use Rattle.model.specs.Rules.{Tree, covers}
use Rattle.model.proofs.Tests.{by_test, same_test}
use Rattle.model.proofs.UpTo.{same_true, true_same, same_false}
use Rattle.rows.specs.Rows.{field_at, tree_at, Flat}
use Rattle.cells.specs.States.{Narrows}
use Rattle.cells.proofs.Lent.{lent}
use Rattle.blocks.specs.Blocks.{down_mark, depth, parts, blocks_up, blocks, tree_blocks, blocks_text}
use Rattle.blocks.specs.Written.{end_place, link_place}
use Rattle.blocks.proofs.Levels.{depth_low}
use Rattle.blocks.proofs.Words.{image_length}
use Rattle.blocks.proofs.Writing.{size_last, lay_last}
use Rattle.levels.specs.Levels.{Stands, Stood, One, Answers}
use Rattle.levels.proofs.Levels.{said_yes, said_no}
use Rattle.levels.proofs.Chain.{ends_at, Looks, looks_start, looks_no, looks_on, looks_done, has_below, has_ends, low_short}

-- where all rules have one range from 0 the chain is one block, and the same rules are below its end
module _ (w : List ℕ) (a : ℕ) {rules : List ℕ} {f left : ℕ} {ps : List ℕ} {e : ℕ} (nz : left ≡ 0 → ⊥) (l : Flat rules f ps e) (few : length w ≤ 16777216) (x : Bool) (r : Answers x (One w a e)) where
  one_end : 1 ≡ length (ends_at rules f ps)
  one_end = rw l.one

  one_block : 1 ≡ blocks_up (depth 1) 1
  one_block = sym (size_last (depth 1) 1 (depth_low 1 (omega arith)))

  size : 1 ≡ parts 1
  size = omega arith

  total : a + 1 ≡ a + blocks_up (depth 1) 1
  total = omega (arith, one_block)

  pub flat_no : not x ≡ true → 16 * a ≤ length w → Stands w a (tree_at rules f left ps) → ⊥
  flat_no d h v =
      said_no x _ d r (record {
        room = by_test (ltb (length w / 16) (a + 1))
            (λ t. absurd (low_short w rules f ps a 1 one_end a 1 size total left nz v h (ltb-true (length w / 16) (a + 1) t)))
            (λ t. omega (arith, ltb-false (length w / 16) (a + 1) t));
        stand = rw l.one at (has_ends w rules f ps a 1 one_end a 1 size total left nz v);
      })

  module _ (d : not x ≡ false) where
    one : One w a e
    one = said_yes x _ d r

    start : Looks w rules f left ps a 1 a 0 (a + 1)
    start = looks_start (record { count = one_end; total = total; room = one.room; stand = rw l.one one.stand }) nz few

    the_word : e ≡ get_or w (end_place a 0) 0
    the_word = sym (one.stand.end 0 (omega arith))

    pub flat_not : (Stands w (a + 1) (tree_at rules (f + 1) (left - 1) ps) → ⊥) → Stands w a (tree_at rules f left ps) → ⊥
    flat_not h v = h (has_below start (omega arith) the_word (sym l.all) v)

    module _ {past to : ℕ} (h : Stood w (a + 1) (tree_at rules (f + 1) (left - 1) ps) past to) {z : Bool} (g : z ≡ eqb (get_or w (link_place a 0) 0) (down_mark + to)) where
      pub flat_no_link : not z ≡ true → Stands w a (tree_at rules f left ps) → ⊥
      flat_no_link = looks_no start (omega arith) the_word (sym l.all) h g

      pub flat_same : not z ≡ false → Stood w a (tree_at rules f left ps) past a
      flat_same c = looks_done (looks_on start (omega arith) the_word (sym l.all) h g c) (omega arith) true refl (λ i j s q. q.is ∙ sym (lay_last (depth 1) a 1 i j s (depth_low 1 (omega arith))))

-- where the loop of chain_is stands, over sets and ends that stood at its start: the set stays
pub record Looking (w rules sets₀ sets ends₀ ends' : List ℕ) (n f left a m base i b : ℕ) : Type 0 where
  pub looks : Looks w rules f left (take n sets₀) a m base i b
  pub set_kept : take n sets ≡ take n sets₀
  pub sets_long : length sets ≡ length sets₀
  pub ends_long : length ends' ≡ length ends₀

-- a turn: k places cover the end of place i, and the tree of their rules is below it
pub record Turn (w rules sets₀ sets sets' ends₀ ends' : List ℕ) (n k f left a m base i b : ℕ) : Type 0 where
  pub so_far : Looking w rules sets₀ sets ends₀ ends' n f left a m base i b
  pub e : ℕ
  pub is_end : e ≡ get_or w (end_place base i) 0
  pub narrows : Narrows rules sets sets' n k f e
  pub long : length sets' ≡ length sets
  pub fits : n ≤ length sets
  pub inside : i < m

module _ {w rules sets₀ sets sets' ends₀ ends' : List ℕ} {n k f left a m base i b : ℕ} (o : Turn w rules sets₀ sets sets' ends₀ ends' n k f left a m base i b) where
  next_places : take k (mid_of n (length sets' - n) sets') ≡ keep (covers (field_at rules f) o.e) (take n sets₀)
  next_places = rw (lent n sets' (omega (arith, o.long, o.fits))) (rw o.so_far.set_kept at o.narrows.next)

  pub turn_not : (Stands w b (tree_at rules (f + 1) (left - 1) (take k (mid_of n (length sets' - n) sets'))) → ⊥) → Stands w a (tree_at rules f left (take n sets₀)) → ⊥
  turn_not h v = h (has_below o.so_far.looks o.inside o.is_end next_places v)

  module _ {past to : ℕ} (h : Stood w b (tree_at rules (f + 1) (left - 1) (take k (mid_of n (length sets' - n) sets'))) past to) {x : Bool} (g : x ≡ eqb (get_or w (link_place base i) 0) (down_mark + to)) where
    pub turn_no : not x ≡ true → Stands w a (tree_at rules f left (take n sets₀)) → ⊥
    turn_no = looks_no o.so_far.looks o.inside o.is_end next_places h g

    pub turn_on : not x ≡ false → (ys : List ℕ) {ends2 : List ℕ} → length (put_mid n (length sets' - n) sets' ys) ≡ length sets' → length ends2 ≡ length ends'
        → Looking w rules sets₀ (put_mid n (length sets' - n) sets' ys) ends₀ ends2 n f left a m base (i + 1) past
    turn_on t ys l1 l2 = record {
      looks = looks_on o.so_far.looks o.inside o.is_end next_places h g t;
      set_kept = take_put n (length sets' - n) sets' ys (omega (arith, o.long, o.fits)) ∙ o.narrows.kept ∙ o.so_far.set_kept;
      sets_long = l1 ∙ o.long ∙ o.so_far.sets_long;
      ends_long = l2 ∙ o.so_far.ends_long;
    }

-- THE WHOLE TREE, from block 0 on, and no word more
module _ (w : List ℕ) (t : Tree ℕ) where
  image_stands : w ≡ blocks_text t → Stands w 0 t
  unfolding blocks_text
  image_stands e =
      let z : 16 * (0 + blocks t) ≡ length w = omega (arith, ap length e, image_length t) in
      e ∙ sym (ap (tree_blocks t 0) (ap (λ x. drop x w) z ∙ drop-length w))

  pub tree_differs : (Stands w 0 t → ⊥) → false ≡ same w (blocks_text t)
  tree_differs h = sym (same_false w (blocks_text t) (λ e. h (image_stands e)))

  pub tree_same : {past to : ℕ} → Stood w 0 t past to → eqb (16 * past) (length w) ≡ same w (blocks_text t)
  unfolding blocks_text
  tree_same {past} s = same_test _ _
      (λ y.
      let z : 16 * (0 + blocks t) ≡ length w = omega (arith, s.next, eqb-true (16 * past) (length w) y) in
      true_same w (blocks_text t) (s.is ∙ ap (tree_blocks t 0) (ap (λ x. drop x w) z ∙ drop-length w)))
      (λ y. eq-eqb (16 * past) (length w) (omega (arith, s.next, ap length (same_true w (blocks_text t) y), image_length t)))

-- An image that is written in two parts of one slice: its front, and then its blocks.
-- Assumes nothing.
use mathlib.Core.Path.{◌≡◌, refl, sym, ap, ap₂, ◌∙◌}
use mathlib.Core.Bool.{true}
use mathlib.Core.List.{List, [], ◌∷◌, ◌++◌, append_assoc, append-nil}
use Prim.Native.Nat.{ℕ, ◌+◌, ◌-◌, ◌*◌, ◌≤◌, ◌<◌}
use native.Mathlib.Omega.{arith}
use lib.ListN.{length, take, drop, length-append, length-drop, drop_of_length-le}
use lib.Seq.{take_at, drop_at, take_all, drop-drop, length-take-le}
use borrow.Rule.Slice.PartMut.{mid_of, put_mid}
use Rattle.model.specs.Table.{Kind, Shaped, row_words}
use Rattle.layout.specs.Named.{stored}
use Rattle.layout.specs.Store.{table_of, passes}
use Rattle.blocks.specs.Blocks.{blocks, blocks_text}
use Rattle.blocks.specs.Written.{Named}
use Rattle.frozen.specs.Frozen.{image_size, image_text}
use Rattle.frozen.proofs.Laws.{tree_from, room, its_names, tree_is, front_is}

-- the store passes, E is the code's end of the rows, and the slice has room
module _ (k : Kind) (s : Shaped k) (ws : List ℕ) (p : passes k ws ≡ true) (E : ℕ) (g : E ≡ k.head + row_words k) (image : List ℕ) (fits : image_size k (table_of k ws) ≤ length image) where
  words_long : E ≤ length ws
  words_long = omega (arith, (room k s ws p).long)

  pub words_taken : E ≡ length (take E ws)
  words_taken = sym (length-take-le E ws words_long)

  pub front_taken : E + 2 ≡ length (take (E + 2) image)
  front_taken = sym (length-take-le (E + 2) image (omega (arith, fits)))

  pub front_room : length (take (E + 2) image) ≡ length (take E ws) + 2
  front_room = omega (arith, length-take-le E ws words_long, length-take-le (E + 2) image (omega (arith, fits)))

  pub front_some : 0 < length (take E ws)
  front_some = omega (arith, length-take-le E ws words_long, s.three)

  pub named_part : Named (tree_from k E ws)
  named_part = rw (tree_is k s ws p E g) (its_names k s ws p)

  -- the front is written
  module _ (f : List ℕ) (e : f ≡ (0 ∷ drop 1 (take E ws)) ++ (0 ∷ 0 ∷ [])) where
    front_long : length f ≡ E + 2
    front_long = omega (arith, ap length e, length-append (0 ∷ drop 1 (take E ws)) (0 ∷ 0 ∷ []), length-drop 1 (take E ws), length-take-le E ws words_long, s.three)

    -- the slice then
    abbrev X : List ℕ
    X = f ++ drop (E + 2) image

    X-long : length X ≡ length image
    X-long = omega (arith, length-append f (drop (E + 2) image), front_long, length-drop (E + 2) image, fits)

    behind : mid_of (E + 2) (length X - (E + 2)) X ≡ drop (E + 2) image
    behind = ap (take (length X - (E + 2))) (drop_at f (drop (E + 2) image) (E + 2) front_long) ∙ take_all (length X - (E + 2)) (drop (E + 2) image) (omega (arith, X-long, length-drop (E + 2) image))

    pub blocks_room : 16 * blocks (tree_from k E ws) ≤ length (mid_of (E + 2) (length X - (E + 2)) X)
    blocks_room = omega (arith, ap length behind, length-drop (E + 2) image, ap blocks (tree_is k s ws p E g), fits)

    -- and then the blocks
    pub image_written : (b : List ℕ) → b ≡ blocks_text (tree_from k E ws) ++ drop (16 * blocks (tree_from k E ws)) (mid_of (E + 2) (length X - (E + 2)) X)
        → put_mid (E + 2) (length X - (E + 2)) X b ≡ image_text k (table_of k ws) ++ drop (image_size k (table_of k ws)) image
    image_written b q =
        let t = stored k (table_of k ws) in
        let none : drop (length X - (E + 2)) (drop (E + 2) X) ≡ [] = drop_of_length-le (drop (E + 2) X) {i = length X - (E + 2)} (omega (arith, length-drop (E + 2) X)) in
        let rest : drop (16 * blocks t) (drop (E + 2) image) ≡ drop (image_size k (table_of k ws)) image = drop-drop (16 * blocks t) (E + 2) image ∙ ap (λ n. drop n image) (let z : E + 2 + 16 * blocks t ≡ image_size k (table_of k ws) = omega arith in z) in
        let b_is : b ≡ blocks_text t ++ drop (image_size k (table_of k ws)) image = q ∙ ap₂ (λ x y. blocks_text x ++ drop (16 * blocks x) y) (tree_is k s ws p E g) behind ∙ ap (λ y. blocks_text t ++ y) rest in
        ap₂ ◌++◌ (take_at f (drop (E + 2) image) (E + 2) front_long ∙ e) (ap₂ ◌++◌ b_is none ∙ append-nil (blocks_text t ++ drop (image_size k (table_of k ws)) image))
        ∙ sym (append_assoc ((0 ∷ drop 1 (take E ws)) ++ (0 ∷ 0 ∷ [])) (blocks_text t) (drop (image_size k (table_of k ws)) image))
        ∙ ap (λ x. x ++ drop (image_size k (table_of k ws)) image) (front_is k s ws p E g (blocks_text t) refl)

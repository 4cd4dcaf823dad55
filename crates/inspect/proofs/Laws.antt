-- What passing the image check says, part by part, and that the parts make it; and one law for each test of the code.
-- Assumes nothing.
use mathlib.Core.Path.{◌≡◌, sym, ap, ap₂, ◌∙◌}
use mathlib.Core.Bool.{Bool, true, false, not}
use mathlib.Core.List.{List, [], ◌∷◌, ◌++◌}
use Prim.Native.Nat.{ℕ, suc, ◌+◌, ◌-◌, ◌≤◌, ◌<◌}
use native.Mathlib.Omega.{arith}
use native.Mathlib.Nat.{mul-le-mul_right}
use lib.Dec.{leb}
use lib.ListN.{length, get_or, take, drop, replicate, length-take, length-drop, take-append-drop}
use lib.Seq.{get_or-take, take_all, drop-drop, drop-cons, length-take-le}
use borrow.Author.Tests.{leb-true, le-leb}
use Rattle.model.specs.Lists.{same}
use Rattle.model.specs.Rules.{Tree, cells}
use Rattle.model.specs.Table.{Kind, Shaped, row_words, front, within, cells_of}
use Rattle.model.proofs.Tests.{by_test, and_left, and_right, and_both, same_test}
use Rattle.model.proofs.UpTo.{same_true, true_same}
use Rattle.rows.specs.Rows.{tree_at}
use Rattle.table.specs.Rows.{rows_text, places, Tells, Zeros}
use Rattle.table.proofs.Laws.{said_yes, said_no}
use Rattle.table.proofs.Edits.{rows_long as rows_are_long}
use Rattle.layout.specs.Named.{stored}
use Rattle.layout.specs.Store.{head_text, rows_of, table_of}
use Rattle.layout.specs.Inner.{table_stands}
use Rattle.layout.proofs.Bridge.{stored_cells}
use Rattle.layout.proofs.Parts.{first_fails, second_fails, third_says, head_length, split_equal, head_of, of_head}
use Rattle.layout.proofs.Sound.{count_is, zeros_are, are_zeros}
use Rattle.blocks.specs.Blocks.{blocks_text}
use Rattle.frozen.specs.Frozen.{image_size, image_text, image_passes}
use Rattle.frozen.proofs.Laws.{image_size_lem, few_blocks}
use Rattle.inspect.specs.Body.{tree_of_rows, image_body}

-- the parts of an image that passes
pub record SoundImage (k : Kind) (ws : List ℕ) : Type 0 where
  pub long : front k ≤ length ws
  pub few_words : length ws ≤ 16777216
  pub zero : get_or ws 0 0 ≡ 0
  pub few : get_or ws 1 0 ≤ k.most
  pub marked : get_or ws 2 0 ≡ k.mark
  pub zeros : take (k.head - 3) (drop 3 ws) ≡ replicate (k.head - 3) 0
  pub first_link : get_or ws (k.head + row_words k) 0 ≡ 0
  pub second_link : get_or ws (k.head + row_words k + 1) 0 ≡ 0
  pub body : image_body k (get_or ws 1 0) ws ≡ true

-- the words in four parts: the head, the rows, two words, and the rest
module _ (k : Kind) (ws : List ℕ) (l : front k ≤ length ws) where
  E : ℕ
  E = k.head + row_words k

  two : drop E ws ≡ get_or ws E 0 ∷ get_or ws (E + 1) 0 ∷ drop (front k) ws
  unfolding E
  two =
      let e = k.head + row_words k in
      let z : suc (suc e) ≡ front k = omega arith in
      let y : suc e ≡ e + 1 = omega arith in
      drop-cons ws e 0 (omega arith) ∙ ap (λ x. get_or ws e 0 ∷ x) (drop-cons ws (suc e) 0 (omega arith) ∙ ap₂ (λ i j. get_or ws i 0 ∷ drop j ws) y z)

  in_four : ws ≡ take k.head ws ++ (rows_of k ws ++ (get_or ws (k.head + row_words k) 0 ∷ get_or ws (k.head + row_words k + 1) 0 ∷ drop (front k) ws))
  unfolding E
  in_four =
      sym (take-append-drop k.head ws)
      ∙ ap (λ x. take k.head ws ++ x) (sym (take-append-drop (row_words k) (drop k.head ws)) ∙ ap (λ x. rows_of k ws ++ x) (drop-drop (row_words k) k.head ws ∙ two))

  pub rows_here : length (rows_of k ws) ≡ row_words k
  rows_here = simp (length-take, length-drop) (omega arith)

rows_small : (k : Kind) → Shaped k → row_words k ≤ 15903
rows_small k s = omega (arith, mul-le-mul_right (suc k.most) s.narrow, s.few)

module _ (k : Kind) (s : Shaped k) (ws : List ℕ) where
  -- the tree of the rows is that of the table
  tree_is : rows_of k ws ≡ rows_text k (table_of k ws) → tree_of_rows k (get_or ws 1 0) ws ≡ stored k (table_of k ws)
  unfolding stored
  tree_is e = ap₂ (λ rows n. tree_at rows 0 (length k.tops) (places k.width n)) e (sym (count_is k s ws))

  pub sound_image : image_passes k ws ≡ true → SoundImage k ws
  unfolding image_passes image_text image_body head_text
  sound_image h =
      let t = table_of k ws in
      let n = length t.rules in
      let w = and_left (within k t) _ h in
      let v = and_right (leb n k.most) _ w in
      let g = and_right (within k t) _ h in
      let c = leb-true (cells_of k t) 65536 (and_left (leb (cells_of k t) 65536) _ g) in
      let e = same_true ws (image_text k t) (and_right (leb (cells_of k t) 65536) _ g) in
      let size : length ws ≡ image_size k t = ap length e ∙ image_size_lem k s t in
      let long : front k ≤ length ws = omega arith in
      let f = few_blocks k s t w c in
      let a = split_equal (take k.head ws) (head_text k 0 n) (rows_of k ws ++ (get_or ws (k.head + row_words k) 0 ∷ get_or ws (k.head + row_words k + 1) 0 ∷ drop (front k) ws)) (rows_text k t ++ (0 ∷ 0 ∷ blocks_text (stored k t)))
      (length-take-le k.head ws (omega arith) ∙ sym (head_length k s 0 n [])) (sym (in_four k ws long) ∙ e) in
      let b = split_equal (rows_of k ws) (rows_text k t) (get_or ws (k.head + row_words k) 0 ∷ get_or ws (k.head + row_words k + 1) 0 ∷ drop (front k) ws) (0 ∷ 0 ∷ blocks_text (stored k t)) (rows_here k ws long ∙ sym (rows_are_long k t)) a.1 in
      let d = b.1 in
      let tail : drop (front k) ws ≡ blocks_text (stored k t) = cc in
      let o = of_head k s ws (omega arith) 0 n a.0 in
      record {
        long = long;
        few_words = omega (arith, f, s.short, size, rows_small k s);
        zero = sym (get_or-take k.head ws 0 0 (omega (arith, s.three))) ∙ ap (λ xs. get_or xs 0 0) a.0;
        few = omega (arith, count_is k s ws, leb-true n k.most (and_left (leb n k.most) _ w));
        marked = o.0;
        zeros = o.1;
        first_link = cc;
        second_link = cc;
        body =
            and_both (table_stands k (get_or ws 1 0) (rows_of k ws)) _
            (and_both (same (rows_of k ws) (rows_text k t)) _ (true_same _ _ b.0) v)
            (and_both (same (drop (front k) ws) _) _ (true_same _ _ (tail ∙ ap blocks_text (sym (tree_is b.0))))
            (le-leb (cells (tree_of_rows k (get_or ws 1 0) ws)) 65536 (omega (arith, ap cells (tree_is b.0), stored_cells k s t w))));
      }

  pub image_sound : SoundImage k ws → image_passes k ws ≡ true
  unfolding image_passes image_text image_body
  image_sound o =
      let t = table_of k ws in
      let n = get_or ws 1 0 in
      let T = table_stands k n (rows_of k ws) in
      let a = and_left T _ o.body in
      let b = and_right T _ o.body in
      let S = same (rows_of k ws) (rows_text k t) in
      let rows = same_true _ _ (and_left S _ a) in
      let v = and_right S _ a in
      let w : within k t ≡ true = rw (le-leb (length t.rules) k.most (omega (arith, count_is k s ws, o.few))) v in
      let B = same (drop (front k) ws) (blocks_text (tree_of_rows k n ws)) in
      let blocks-are = same_true _ _ (and_left B _ b) in
      let c = leb-true (cells (tree_of_rows k n ws)) 65536 (and_right B _ b) in
      let e : ws ≡ image_text k t =
      in_four k ws o.long
      ∙ ap₂ ◌++◌ (head_of k s ws (omega (arith, o.long)) o.marked o.zeros ∙ ap₂ (head_text k) o.zero (sym (count_is k s ws)))
      (ap₂ ◌++◌ rows (ap₂ (λ x y. x ∷ y) o.first_link (ap₂ (λ x y. x ∷ y) o.second_link (blocks-are ∙ ap blocks_text (tree_is rows))))) in
      and_both (within k t) _ w (and_both (leb (cells_of k t) 65536) _ (le-leb (cells_of k t) 65536 (omega (arith, ap cells (tree_is rows), stored_cells k s t w))) (true_same ws (image_text k t) e))

  -- the answer no
  pub unsound_image : (SoundImage k ws → ⊥) → false ≡ image_passes k ws
  unsound_image h = by_test (image_passes k ws) (λ t. absurd (h (sound_image t))) (λ t. sym t)

  -- THE TESTS of the code, in its order: E is its end of the rows
  module _ (E : ℕ) (g : E ≡ k.head + row_words k) where
    pub short_image : length ws < E + 2 → false ≡ image_passes k ws
    short_image h = unsound_image (λ o. omega (arith, o.long))

    pub long_image : 16777216 < length ws → false ≡ image_passes k ws
    long_image h = unsound_image (λ o. omega (arith, o.few_words))

    pub some_cells : (get_or ws 0 0 ≡ 0 → ⊥) → false ≡ image_passes k ws
    some_cells h = unsound_image (λ o. h o.zero)

    pub many_rules : k.most < get_or ws 1 0 → false ≡ image_passes k ws
    many_rules h = unsound_image (λ o. omega (arith, o.few))

    pub other_mark : (get_or ws 2 0 ≡ k.mark → ⊥) → false ≡ image_passes k ws
    other_mark h = unsound_image (λ o. h o.marked)

    pub some_first : (get_or ws E 0 ≡ 0 → ⊥) → false ≡ image_passes k ws
    some_first h = unsound_image (λ o. h (ap (λ i. get_or ws i 0) g ∙ o.first_link))

    pub some_second : (get_or ws (E + 1) 0 ≡ 0 → ⊥) → false ≡ image_passes k ws
    some_second h = unsound_image (λ o. h (ap (λ i. get_or ws (i + 1) 0) g ∙ o.second_link))

    module _ (long : E + 2 ≤ length ws) where
      head_in : k.head ≤ length ws
      head_in = omega arith

      pub some_zeros : (b : Bool) → Tells b (Zeros ws 3 k.head) → not b ≡ true → false ≡ image_passes k ws
      some_zeros b e t = unsound_image (λ o. said_no b e t (are_zeros k s ws head_in o.zeros))

      pub by_body : {d : Bool} (b : Bool) → length ws ≤ 16777216 → get_or ws 0 0 ≡ 0 → get_or ws 1 0 ≤ k.most → get_or ws 2 0 ≡ k.mark → get_or ws E 0 ≡ 0 → get_or ws (E + 1) 0 ≡ 0 → Tells b (Zeros ws 3 k.head) → not b ≡ false
          → d ≡ image_body k (get_or ws 1 0) ws → d ≡ image_passes k ws
      by_body {d} b few zero most mark first second e t q =
          same_test d (image_passes k ws)
          (λ z. image_sound (record {
            long = omega arith;
            few_words = few;
            zero = zero;
            few = most;
            marked = mark;
            zeros = zeros_are k s ws head_in (said_yes b e t);
            first_link = ap (λ i. get_or ws i 0) (sym g) ∙ first;
            second_link = ap (λ i. get_or ws (i + 1) 0) (sym g) ∙ second;
            body = sym q ∙ z;
          }))
          (λ z. q ∙ (sound_image z).body)

-- THE BODY, as the code takes it apart: E is its end of the rows
module _ (k : Kind) (ws : List ℕ) (n : ℕ) (rows : List ℕ) (q : rows ≡ rows_of k ws) where
  abbrev pub tree_to : Tree ℕ
  tree_to = tree_at rows 0 (length k.tops) (places k.width n)

  pub wrong_table : (b : Bool) → b ≡ table_stands k n rows → not b ≡ true → false ≡ image_body k n ws
  unfolding image_body
  wrong_table b e t = first_fails _ (e ∙ ap (table_stands k n) q) t

  module _ (E : ℕ) (g : E ≡ k.head + row_words k) where
    abbrev pub rest_to : List ℕ
    rest_to = take (length ws - (E + 2)) (drop (E + 2) ws)

    rest_is_read : rest_to ≡ drop (front k) ws
    rest_is_read = take_all (length ws - (E + 2)) (drop (E + 2) ws) (omega (arith, length-drop (E + 2) ws)) ∙ ap (λ i. drop (i + 2) ws) g

    pub wrong_blocks : (b d : Bool) → b ≡ table_stands k n rows → not b ≡ false → d ≡ same rest_to (blocks_text tree_to) → not d ≡ true → false ≡ image_body k n ws
    unfolding image_body
    wrong_blocks b d e t f u = second_fails _ (e ∙ ap (table_stands k n) q) t (f ∙ ap₂ (λ x r. same x (blocks_text (tree_at r 0 (length k.tops) (places k.width n)))) rest_is_read q) u

    pub right_body : (b d r : Bool) → b ≡ table_stands k n rows → not b ≡ false → d ≡ same rest_to (blocks_text tree_to) → not d ≡ false → r ≡ leb (cells tree_to) 65536 → r ≡ image_body k n ws
    unfolding image_body
    right_body b d r e t f u h =
        third_says (e ∙ ap (table_stands k n) q) t (f ∙ ap₂ (λ x r. same x (blocks_text (tree_at r 0 (length k.tops) (places k.width n)))) rest_is_read q) u (h ∙ ap (λ r. leb (cells (tree_at r 0 (length k.tops) (places k.width n))) 65536) q)

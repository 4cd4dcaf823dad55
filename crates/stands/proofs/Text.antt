-- The text of a tree in the words from a cell on, taken apart into its cells and the texts below them, and put together again; what `told` says of it.
-- Assumes nothing.
use mathlib.Core.Path.{◌≡◌, refl, sym, ap, ◌∙◌}
use mathlib.Core.Bool.{true}
use mathlib.Core.List.{List, [], ◌∷◌}
use Prim.Native.Nat.{ℕ, ◌+◌, ◌*◌, ◌≤◌, ◌<◌}
use native.Mathlib.Omega.{arith}
use lib.Dec.{eqb}
use lib.ListN.{length, get_or, drop, length-drop}
use lib.Seq.{drop-drop, get_or-drop}
use borrow.Author.Tests.{eqb-true, eq-eqb}
use Rattle.model.specs.Rules.{Tree, names, stop, loc, cells}
use Rattle.model.proofs.Tests.{and_left, and_right}
use Rattle.cells.specs.Text.{cell_word, cell, Run, nil, snoc, len, low, row, width, under, first, marks, belows, tree_text}
use Rattle.cells.proofs.Text.{row_length, marks_len, belows_length, cells_sum}
use Rattle.cells.specs.declared.Below.{Below}
use Rattle.std.specs.Prelude.{Some, None}
use Rattle.stands.specs.declared.Stands.{Stands}
use Rattle.model.specs.Lists.{same}
use Rattle.stands.specs.Stands.{Room, from, told, head_is, rest_is}
use Rattle.model.proofs.UpTo.{same_true, true_same}
use Rattle.stands.proofs.Answers.{answer_no, answer_none, answer_some}

-- sizes
pub text_length : (c : ℕ) (t : Tree ℕ) (a : ℕ) (r : List ℕ) → length (tree_text c t a r) ≡ 8 * cells t + length r
text_length c t a r =
    let b = a + width t in
    omega (arith, cells_sum t, row_length c (marks c t b) a (belows c t b r), marks_len c t b, belows_length c t b r)

-- one cell
module _ (ws : List ℕ) where
  from_next : (k : ℕ) → drop 8 (from ws k) ≡ from ws (k + 1)
  from_next k = let z : 2 + 8 * k + 8 ≡ 2 + 8 * (k + 1) = omega arith in drop-drop 8 (2 + 8 * k) ws ∙ ap (λ n. drop n ws) z

  -- cell k holds an end, a next and a down, and zeros
  abbrev pub Cell : ℕ → ℕ → ℕ → Below → Type 0
  Cell k e n d = from ws k ≡ cell e n d (from ws (k + 1))

  pub cell_rest : (k e n : ℕ) (d : Below) (r : List ℕ) → from ws k ≡ cell e n d r → r ≡ from ws (k + 1)
  cell_rest k e n d r h = ap (drop 8) (sym h) ∙ from_next k

  pub cell_here : (k e n : ℕ) (d : Below) (r : List ℕ) → from ws k ≡ cell e n d r → Cell k e n d
  cell_here k e n d r h = h ∙ ap (cell e n d) (cell_rest k e n d r h)

  word_from : (k j : ℕ) → cell_word ws k j ≡ get_or (from ws k) j 0
  word_from k j = sym (get_or-drop (2 + 8 * k) ws j 0)

  module _ (k e n : ℕ) (d : Below) (h : Cell k e n d) where
    pub cell_head : head_is ws k e n ≡ true
    unfolding head_is
    cell_head = rw (word_from k 0, word_from k 1, h, eq-eqb e e refl, eq-eqb n n refl)

    pub cell_others : rest_is ws k d ≡ true
    unfolding rest_is
    cell_others = rw (word_from k 2, word_from k 3, word_from k 4, word_from k 5, word_from k 6, word_from k 7, h, eq-eqb d.down d.down refl, eq-eqb d.side d.side refl)

    pub cell_inside : (c : ℕ) → Room ws c → k < c
    cell_inside c r = omega (arith, ap length h, length-drop (2 + 8 * k) ws, r.size)

  split : (l : List ℕ) → 8 ≤ length l → l ≡ get_or l 0 0 ∷ get_or l 1 0 ∷ get_or l 2 0 ∷ get_or l 3 0 ∷ get_or l 4 0 ∷ get_or l 5 0 ∷ get_or l 6 0 ∷ get_or l 7 0 ∷ drop 8 l
  split (x0 ∷ x1 ∷ x2 ∷ x3 ∷ x4 ∷ x5 ∷ x6 ∷ x7 ∷ r) h = refl
  split [] h = absurd (omega arith)
  split (x0 ∷ []) h = absurd (omega arith)
  split (x0 ∷ x1 ∷ []) h = absurd (omega arith)
  split (x0 ∷ x1 ∷ x2 ∷ []) h = absurd (omega arith)
  split (x0 ∷ x1 ∷ x2 ∷ x3 ∷ []) h = absurd (omega arith)
  split (x0 ∷ x1 ∷ x2 ∷ x3 ∷ x4 ∷ []) h = absurd (omega arith)
  split (x0 ∷ x1 ∷ x2 ∷ x3 ∷ x4 ∷ x5 ∷ []) h = absurd (omega arith)
  split (x0 ∷ x1 ∷ x2 ∷ x3 ∷ x4 ∷ x5 ∷ x6 ∷ []) h = absurd (omega arith)

  pub cell_of : (c k e n : ℕ) (d : Below) → Room ws c → k < c → head_is ws k e n ≡ true → rest_is ws k d ≡ true → Cell k e n d
  unfolding head_is rest_is
  cell_of c k e n d r l h g =
      let g1 = and_right (eqb (cell_word ws k 2) d.down) _ g in
      let g2 = and_right (eqb (cell_word ws k 3) d.side) _ g1 in
      let g3 = and_right (eqb (cell_word ws k 4) 0) _ g2 in
      let g4 = and_right (eqb (cell_word ws k 5) 0) _ g3 in
      let is : (j v : ℕ) → eqb (cell_word ws k j) v ≡ true → get_or (from ws k) j 0 ≡ v = λ j v t. sym (word_from k j) ∙ eqb-true (cell_word ws k j) v t in
      split (from ws k) (omega (arith, length-drop (2 + 8 * k) ws, r.size))
      ∙ rw (
        is 0 e (and_left _ _ h),
        is 1 n (and_right (eqb (cell_word ws k 0) e) _ h),
        is 2 d.down (and_left _ _ g),
        is 3 d.side (and_left _ _ g1),
        is 4 0 (and_left _ _ g2),
        is 5 0 (and_left _ _ g3),
        is 6 0 (and_left _ _ g4),
        is 7 0 (and_right (eqb (cell_word ws k 6) 0) _ g4),
        from_next k,
      )

-- a tree
module _ (ws : List ℕ) (c : ℕ) where
  -- the text of t stands from cell k on
  abbrev pub Held : Tree ℕ → ℕ → Type 0
  Held t k = from ws k ≡ tree_text c t k (from ws (k + cells t))

  -- the same cell by cell: the run of t from cell k on, and what is below it from cell b on
  abbrev pub Parts : ℕ → ℕ → Tree ℕ → Type 0
  Parts k b (names x) = Unit {0}
  Parts k b stop = Unit {0}
  Parts k b (loc e u t) = Parts k b t × Cell ws (k + width t) e (low c (marks c t b) k) (first c u (b + under t)) × Held u (b + under t)

  row_rest : (s : Run) (a : ℕ) (r : List ℕ) → from ws a ≡ row c s a r → r ≡ from ws (a + len s)
  unfolding row len
  row_rest nil a r h = let z : a + 0 ≡ a = omega arith in rw z (sym h)
  row_rest (snoc s e d) a r h =
      let z : a + (len s + 1) ≡ a + len s + 1 = omega arith in
      rw z (cell_rest ws (a + len s) e (low c s a) d r (sym (row_rest s a (cell e (low c s a) d r) h)))

  apart : (t : Tree ℕ) (k b : ℕ) (r q : List ℕ) → from ws k ≡ row c (marks c t b) k r → from ws b ≡ belows c t b q → Parts k b t × (r ≡ from ws (k + width t)) × (q ≡ from ws (b + under t))
  unfolding marks row belows width under
  apart (names x) k b r q h g = let y : k + 0 ≡ k = omega arith in let z : b + 0 ≡ b = omega arith in (tt, rw y (sym h), rw z (sym g))
  apart stop k b r q h g = let y : k + 0 ≡ k = omega arith in let z : b + 0 ≡ b = omega arith in (tt, rw y (sym h), rw z (sym g))
  apart (loc e u t) k b r q h g =
      let y = b + under t in
      let z = y + width u in
      let i = apart t k b _ _ h g in
      let n = low c (marks c t b) k in
      let d = first c u y in
      let m : y + len (marks c u z) ≡ z = rw (marks_len c u z) in
      let v = apart u y z (belows c u z q) q (sym i.2) (rw m at (sym (row_rest (marks c u z) y (belows c u z q) (sym i.2)))) in
      let w : k + (width t + 1) ≡ k + width t + 1 = omega arith in
      let x : b + (under t + (width u + under u)) ≡ z + under u = omega arith in
      let x' : y + cells u ≡ z + under u = omega (arith, cells_sum u) in (
        (i.0, cell_here ws (k + width t) e n d r (sym i.1), rw x' (sym i.2 ∙ ap (λ l. tree_text c u y l) v.2)),
        rw w (cell_rest ws (k + width t) e n d r (sym i.1)),
        rw x v.2,
      )

  together : (t : Tree ℕ) (k b : ℕ) → Parts k b t → (from ws k ≡ row c (marks c t b) k (from ws (k + width t))) × (from ws b ≡ belows c t b (from ws (b + under t)))
  unfolding marks row belows width under
  together (names x) k b p = let y : k + 0 ≡ k = omega arith in let z : b + 0 ≡ b = omega arith in (rw y, rw z)
  together stop k b p = let y : k + 0 ≡ k = omega arith in let z : b + 0 ≡ b = omega arith in (rw y, rw z)
  together (loc e u t) k b p =
      let y = b + under t in
      let i = together t k b p.0 in
      let w : k + (width t + 1) ≡ k + width t + 1 = omega arith in
      let x : b + (under t + (width u + under u)) ≡ y + cells u = omega (arith, cells_sum u) in
      (i.0 ∙ rw w (ap (λ l. row c (marks c t b) k l) p.1), i.1 ∙ rw x (ap (λ l. belows c t b l) p.2))

  module _ (t : Tree ℕ) (k : ℕ) where
    end : k + width t + under t ≡ k + cells t
    end = omega (arith, cells_sum t)

    -- whatever is behind the text of t
    module _ (r : List ℕ) (h : from ws k ≡ tree_text c t k r) where
      both : Parts k (k + width t) t × (belows c t (k + width t) r ≡ from ws (k + width t)) × (r ≡ from ws (k + width t + under t))
      both =
          let b = k + width t in
          let m : k + len (marks c t b) ≡ b = rw (marks_len c t b) in
          apart t k b (belows c t b r) r h (rw m at (sym (row_rest (marks c t b) k (belows c t b r) h)))

      pub text_parts : Parts k (k + width t) t
      text_parts = both.0

      pub text_rest : r ≡ from ws (k + cells t)
      text_rest = both.2 ∙ ap (from ws) end

    pub parts_held : Parts k (k + width t) t → Held t k
    parts_held p = let i = together t k (k + width t) p in i.0 ∙ ap (λ l. row c (marks c t (k + width t)) k l) (i.1 ∙ ap (λ n. belows c t (k + width t) (from ws n)) end)

    pub told_same : Held t k → told ws c k t ≡ Some (record { past = k + cells t; says = first c t k })
    unfolding told
    told_same h = rw (true_same _ _ h)

    pub told_differs : (Held t k → ⊥) → told ws c k t ≡ None
    unfolding told
    told_differs h = answer_no _ _ _ (λ q. h (same_true _ _ q))

    pub told_not : told ws c k t ≡ None → (r : List ℕ) → from ws k ≡ tree_text c t k r → ⊥
    unfolding told
    told_not d r h = answer_none _ (k + cells t) (first c t k) d (true_same _ _ (h ∙ ap (λ l. tree_text c t k l) (text_rest r h)))

    module _ (u : Stands) (h : told ws c k t ≡ Some u) where
      pub told_held : Held t k × (u.past ≡ k + cells t) × (u.says ≡ first c t k)
      unfolding told
      told_held =
          let v = answer_some (same (from ws k) (tree_text c t k (from ws (k + cells t)))) (k + cells t) (first c t k) h in
          (same_true _ _ v.0, v.1, v.2)

      pub told_inside : Room ws c → k ≤ c → u.past ≤ c
      told_inside r le =
          let v = told_held in
          omega (arith, v.1, ap length v.0, text_length c t k (from ws (k + cells t)), length-drop (2 + 8 * k) ws, length-drop (2 + 8 * (k + cells t)) ws, r.size)

-- The text of a tree in cells: it goes in front of whatever follows it, and it is eight words for each cell. A tree of rules has its number of fields.
-- Assumes nothing.
use mathlib.Core.Path.{◌≡◌, refl, sym, ap, ◌∙◌}
use mathlib.Core.List.{List, [], ◌∷◌, ◌++◌, append_assoc}
use Prim.Native.Nat.{ℕ, zero, suc, ◌+◌, ◌-◌, ◌*◌, ◌≤◌}
use native.Mathlib.Numerals.{sub-one}
use native.Mathlib.Omega.{arith}
use lib.ListN.{length}
use Rattle.model.specs.Lists.{keep}
use Rattle.model.specs.Rules.{covers, ends, Tree, names, stop, loc, chain, tree, cells}
use Rattle.rows.specs.Rows.{field_at, fields_at, first_of, tree_at}
use Rattle.cells.specs.Text.{only_down, cell, frees, Run, nil, snoc, len, low, row, width, under, marks, belows, part}
use Rattle.cells.specs.Planted.{Deep}

pub row_app : (c : ℕ) (s : Run) (a : ℕ) (r : List ℕ) → row c s a r ≡ row c s a [] ++ r
unfolding row
row_app c nil a r = refl
row_app c (snoc s e d) a r =
    row_app c s a (cell e (low c s a) d r)
    ∙ sym (append_assoc (row c s a []) (cell e (low c s a) d []) r)
    ∙ ap (λ k. k ++ r) (sym (row_app c s a (cell e (low c s a) d [])))

pub row_length : (c : ℕ) (s : Run) (a : ℕ) (r : List ℕ) → length (row c s a r) ≡ 8 * len s + length r
unfolding row len
row_length c nil a r = omega arith
row_length c (snoc s e d) a r = omega (arith, row_length c s a (cell e (low c s a) d r))

pub marks_len : (c : ℕ) (t : Tree ℕ) (b : ℕ) → len (marks c t b) ≡ width t
unfolding marks len width
marks_len c (names x) b = refl
marks_len c stop b = refl
marks_len c (loc e u t) b = ap (λ k. k + 1) (marks_len c t b)

row_over : (c : ℕ) (s : Run) (a : ℕ) (l r : List ℕ) → row c s a (l ++ r) ≡ row c s a l ++ r
row_over c s a l r =
    row_app c s a (l ++ r) ∙ sym (append_assoc (row c s a []) l r) ∙ ap (λ k. k ++ r) (sym (row_app c s a l))

belows_app : (c : ℕ) (t : Tree ℕ) (b : ℕ) (r : List ℕ) → belows c t b r ≡ belows c t b [] ++ r
unfolding belows
belows_app c (names x) b r = refl
belows_app c stop b r = refl
belows_app c (loc e u t) b r =
    let y = b + under t in
    let z = y + width u in
    let s = marks c u z in
    belows_app c t b (row c s y (belows c u z r))
    ∙ ap (λ k. belows c t b [] ++ row c s y k) (belows_app c u z r)
    ∙ ap (λ k. belows c t b [] ++ k) (row_over c s y (belows c u z []) r)
    ∙ sym (append_assoc (belows c t b []) (row c s y (belows c u z [])) r)
    ∙ ap (λ k. k ++ r) (sym (belows_app c t b (row c s y (belows c u z []))))

-- a run and what is below a chain, in front of r
pub both_app : (c : ℕ) (s : Run) (t : Tree ℕ) (a b : ℕ) (r : List ℕ) → row c s a (belows c t b r) ≡ row c s a (belows c t b []) ++ r
both_app c s t a b r = ap (λ k. row c s a k) (belows_app c t b r) ∙ row_over c s a (belows c t b []) r

pub belows_length : (c : ℕ) (t : Tree ℕ) (b : ℕ) (r : List ℕ) → length (belows c t b r) ≡ 8 * under t + length r
unfolding belows under
belows_length c (names x) b r = omega arith
belows_length c stop b r = omega arith
belows_length c (loc e u t) b r =
    let y = b + under t in
    let z = y + width u in
    let s = marks c u z in
    omega (arith, belows_length c t b (row c s y (belows c u z r)), row_length c s y (belows c u z r), marks_len c u z, belows_length c u z r)

pub frees_length : (k n : ℕ) → length (frees k n) ≡ 8 * n
unfolding frees
frees_length k zero = refl
frees_length k (suc n) = omega (arith, frees_length (k + 1) n)

pub frees_cons : (k m n : ℕ) → m ≡ 1 + n → frees k m ≡ cell 0 (k + 1) (only_down 0) (frees (k + 1) n)
unfolding frees
frees_cons k m n e = let h : m ≡ suc n = omega arith in rw h

-- the cells of a tree are those of its chain and those under it
pub cells_sum : (t : Tree ℕ) → cells t ≡ width t + under t
unfolding width under
cells_sum (names x) = refl
cells_sum stop = refl
cells_sum (loc e u t) = omega (arith, cells_sum u, cells_sum t)

pub part_length : (c : ℕ) (t : Tree ℕ) → cells t ≤ c → length (part c t) ≡ 2 + 8 * c
unfolding part
part_length c t h =
    let r = frees (cells t) (c - cells t) in
    let w = 0 + width t in
    omega (arith, row_length c (marks c t w) 0 (belows c t w r), belows_length c t w r, marks_len c t w, frees_length (cells t) (c - cells t), cells_sum t)

-- the tree of rules is over as many fields as it is said to be
deep_chain : (u : ℕ → Tree ℕ) (d : ℕ) → ((e : ℕ) → Deep (u e) d) → (es : List ℕ) → Deep (chain u es) (suc d)
unfolding Deep
deep_chain u d h [] = omega arith
deep_chain u d h (e ∷ es) = (omega arith, rw sub-one (h e), deep_chain u d h es)

pub deep_tree : (rules : List ℕ) (f n : ℕ) (ps : List ℕ) → Deep (tree_at rules f n ps) n
unfolding tree_at Deep
deep_tree rules f zero ps = refl
deep_tree rules f (suc n) ps = deep_chain (λ e. tree first_of (fields_at rules (f + 1) n) (keep (covers (field_at rules f) e) ps)) n (λ e. deep_tree rules (f + 1) n (keep (covers (field_at rules f) e) ps)) (ends (field_at rules f) ps)

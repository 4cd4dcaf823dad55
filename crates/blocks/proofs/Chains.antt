-- The blocks of a chain: its ends, what is below each of them, and the levels above; and how they are written, key by key.
-- Assumes nothing.
use mathlib.Core.Path.{◌≡◌, refl, sym, ap, ◌∙◌, fun_ext}
use mathlib.Core.Bool.{cond}
use mathlib.Core.List.{List, [], ◌∷◌, ◌++◌, append_assoc}
use Prim.Native.Nat.{ℕ, zero, suc, ◌+◌, ◌*◌, ◌/◌, ◌%◌, ◌≤◌, ◌<◌}
use native.Mathlib.Omega.{arith}
use native.Mathlib.Numerals.{add-one}
use lib.Dec.{ltb, leb-suc-suc}
use lib.ListN.{length, get_or, set, take, drop, length-set, take-append-drop}
use lib.Seq.{drop-drop, drop-set-add, take-set-le, take-take, take-suc, take-append_seam, take_all, take-add, drop_at, length-take-le, drop-append_seam}
use borrow.Author.Tests.{ltb-true, ltb-false, lt-ltb, le-ltb}
use Rattle.model.specs.Rules.{Tree, names, stop, loc, chain}
use Rattle.model.proofs.Tests.{by_test}
use Rattle.cells.specs.Text.{width}
use Rattle.blocks.specs.Blocks.{top_end, down_mark, depth, least_from, parts, blocks_up, each_of, level, links_to, lay, own_blocks, under_blocks, blocks, entry, end_at_place, link_at_place, chain_blocks, below_blocks, tree_blocks, blocks_text}
use Rattle.blocks.specs.Sums.{blocks_for}
use Rattle.blocks.specs.Written.{end_place, link_place, entered, Level, Raised, Written}
use Rattle.blocks.proofs.Levels.{level_length, level_past}
use Rattle.blocks.proofs.Words.{belows_length}
use Rattle.blocks.proofs.Writing.{size_parts, level_enter}

-- THE TEXTS before any rest
run_append : (n : ℕ) (f : ℕ → ℕ) (r s : List ℕ) → each_of n f (r ++ s) ≡ each_of n f r ++ s
unfolding each_of
run_append zero f r s = refl
run_append (suc n) f r s = ap (λ x. f 0 ∷ x) (run_append n (λ i. f (suc i)) r s)

level_append : (n : ℕ) (f g : ℕ → ℕ) (r s : List ℕ) → level n f g (r ++ s) ≡ level n f g r ++ s
unfolding level
level_append zero f g r s = refl
level_append (suc n) f g r s =
    rw (level_append n (λ i. f (8 + i)) (λ i. g (8 + i)) r s, run_append 8 g (level n (λ i. f (8 + i)) (λ i. g (8 + i)) r) s)
    (run_append 8 f (each_of 8 g (level n (λ i. f (8 + i)) (λ i. g (8 + i)) r)) s)

lay_append : (d a m : ℕ) (f g : ℕ → ℕ) (r s : List ℕ) → lay d a m f g (r ++ s) ≡ lay d a m f g r ++ s
unfolding lay
lay_append zero a m f g r s = level_append (parts m) f g r s
lay_append (suc d) a m f g r s =
    rw (level_append (parts m) f g r s) (lay_append d a (parts m) (λ i. f (8 * i + 7)) (links_to (parts m) (a + blocks_up d (parts m))) (level (parts m) f g r) s)

chain_append : (t : Tree ℕ) (a b : ℕ) (r s : List ℕ) → chain_blocks t a b (r ++ s) ≡ chain_blocks t a b r ++ s
unfolding chain_blocks
chain_append (names x) a b r s = refl
chain_append stop a b r s = refl
chain_append (loc e u t) a b r s = lay_append (depth (width t + 1)) a (width t + 1) (end_at_place (loc e u t)) (link_at_place (loc e u t) b) r s

belows_append : (t : Tree ℕ) (b : ℕ) (r s : List ℕ) → below_blocks t b (r ++ s) ≡ below_blocks t b r ++ s
unfolding below_blocks
belows_append (names x) b r s = refl
belows_append stop b r s = refl
belows_append (loc e u t) b r s =
    rw (belows_append t (b + blocks u) r s, belows_append u (b + own_blocks u) (below_blocks t (b + blocks u) r) s)
    (chain_append u b (b + own_blocks u) (below_blocks u (b + own_blocks u) (below_blocks t (b + blocks u) r)) s)

-- words that are kept up to a place, behind which others are written
seam : (k l : ℕ) (w w' p r r' : List ℕ) → k + length p ≡ l → l ≤ length w → drop k w ≡ p ++ r → take l w' ≡ take l w → drop l w' ≡ r' → drop k w' ≡ p ++ r'
seam k l w w' p r r' q h d t e =
    let y : length (take k w) ≡ k = length-take-le k w (omega arith) in
    let x : take l w ≡ take k w ++ p = rw (← q) (take-add k (length p) w ∙ ap (λ z. take k w ++ take (length p) z) d ∙ ap (λ z. take k w ++ z) (take-append_seam p r)) in
    ap (drop k) (sym (take-append-drop l w')) ∙ rw (t, e, x, append_assoc) (drop_at (take k w) (p ++ r') k y)

-- A CHAIN of some keys, where en gives the end of a key and u what is below it. For the rules' tree the keys are the ends; for a store's cells they are the cells.
abbrev pub chain_by : (ℕ → ℕ) → (ℕ → Tree ℕ) → List ℕ → Tree ℕ
chain_by en u [] = stop
chain_by en u (x ∷ xs) = loc (en x) (u x) (chain_by en u xs)

pub chain_by_lem : (u : ℕ → Tree ℕ) (es : List ℕ) → chain u es ≡ chain_by (λ e. e) u es
chain_by_lem u [] = refl
chain_by_lem u (e ∷ es) = ap (loc e (u e)) (chain_by_lem u es)

module _ (en : ℕ → ℕ) (u : ℕ → Tree ℕ) where
  pub chained_width : (xs : List ℕ) → width (chain_by en u xs) ≡ length xs
  unfolding width
  chained_width [] = refl
  chained_width (x ∷ xs) = omega (arith, chained_width xs)

  pub chained_own : (xs : List ℕ) → own_blocks (chain_by en u xs) ≡ blocks_for (length xs)
  unfolding own_blocks depth least_from blocks_up
  chained_own [] = refl
  chained_own (x ∷ xs) = let z : width (chain_by en u xs) + 1 ≡ suc (length xs) = omega (arith, chained_width xs) in rw z

  pub under_take : (xs : List ℕ) (k : ℕ) → under_blocks (chain_by en u (take k xs)) ≤ under_blocks (chain_by en u xs)
  unfolding under_blocks
  under_take xs zero = omega arith
  under_take [] (suc k) = omega arith
  under_take (x ∷ xs) (suc k) = omega (arith, under_take xs k)

  pub under_snoc : (es : List ℕ) (e : ℕ) → under_blocks (chain_by en u (es ++ (e ∷ []))) ≡ under_blocks (chain_by en u es) + blocks (u e)
  unfolding under_blocks
  under_snoc [] e = omega arith
  under_snoc (x ∷ es) e = omega (arith, under_snoc es e)

  pub belows_snoc : (es : List ℕ) (e b : ℕ) (r : List ℕ) → below_blocks (chain_by en u (es ++ (e ∷ []))) b r ≡ below_blocks (chain_by en u es) b (tree_blocks (u e) (b + under_blocks (chain_by en u es)) r)
  unfolding below_blocks under_blocks
  belows_snoc [] e b r = let z : b + 0 ≡ b = omega arith in rw z
  belows_snoc (x ∷ es) e b r =
      let z : b + (own_blocks (u x) + under_blocks (u x) + under_blocks (chain_by en u es)) ≡ b + blocks (u x) + under_blocks (chain_by en u es) = omega arith in
      rw (z, belows_snoc es e (b + blocks (u x)) r)

  pub end_is : (es : List ℕ) (i : ℕ) → end_at_place (chain_by en u es) i ≡ cond (ltb i (length es)) (en (get_or es i 0)) top_end
  unfolding end_at_place
  end_is [] i = simp (le-ltb i 0 (omega arith))
  end_is (e ∷ es) zero = simp (lt-ltb 0 (suc (length es)) (omega arith))
  end_is (e ∷ es) (suc i) = rw leb-suc-suc (end_is es i)

  pub down_is : (es : List ℕ) (b i : ℕ) → i < length es → link_at_place (chain_by en u es) b i ≡ down_mark + entry (u (get_or es i 0)) (b + under_blocks (chain_by en u (take i es)))
  unfolding link_at_place under_blocks
  down_is [] b i h = absurd (omega arith)
  down_is (e ∷ es) b zero h = let z : b + 0 ≡ b = omega arith in rw z
  down_is (e ∷ es) b (suc i) h =
      let z : b + (own_blocks (u e) + under_blocks (u e) + under_blocks (chain_by en u (take i es))) ≡ b + blocks (u e) + under_blocks (chain_by en u (take i es)) = omega arith in
      rw z (down_is es (b + blocks (u e)) i (omega arith))

  pub down_none : (es : List ℕ) (b i : ℕ) → length es ≤ i → link_at_place (chain_by en u es) b i ≡ 0
  unfolding link_at_place
  down_none [] b i h = refl
  down_none (e ∷ es) b zero h = absurd (omega arith)
  down_none (e ∷ es) b (suc i) h = down_none es (b + blocks (u e)) i (omega arith)

  pub chain_lay : (es : List ℕ) (a b : ℕ) (r : List ℕ) → chain_blocks (chain_by en u es) a b r ≡ lay (depth (length es)) a (length es) (end_at_place (chain_by en u es)) (link_at_place (chain_by en u es) b) r
  unfolding chain_blocks lay depth least_from level
  chain_lay [] a b r = refl
  chain_lay (e ∷ es) a b r = let z : width (chain_by en u es) + 1 ≡ suc (length es) = omega (arith, chained_width es) in rw z

-- WRITING: the ends and the links down of the first i keys are written, and what is below these; what is below the next one comes to block b
abbrev pub upto : ℕ → ℕ → (ℕ → ℕ) → ℕ → ℕ
upto d i g j = cond (ltb j i) (g j) d

pub record Goes (w₀ w : List ℕ) (en : ℕ → ℕ) (u : ℕ → Tree ℕ) (xs : List ℕ) (base i b : ℕ) : Type 0 where
  pub most : i ≤ length xs
  pub next : b ≡ base + parts (length xs) + under_blocks (chain_by en u (take i xs))
  pub long : length w ≡ length w₀
  pub before : take (16 * base) w ≡ take (16 * base) w₀
  pub is : drop (16 * base) w ≡ level (parts (length xs)) (upto top_end i (end_at_place (chain_by en u xs))) (upto 0 i (link_at_place (chain_by en u xs) (base + parts (length xs)))) (below_blocks (chain_by en u (take i xs)) (base + parts (length xs)) (drop (16 * b) w₀))

pub shorter : (x y : ℕ) (s s' : List ℕ) → x ≤ y → take y s ≡ take y s' → take x s ≡ take x s'
shorter x y s s' q e = sym (take-take x y s q) ∙ ap (take x) e ∙ take-take x y s' q

-- one key more, for the ends and for the links
upto_same : (d i : ℕ) (g : ℕ → ℕ) (z : ℕ) → (z ≡ i → ⊥) → upto d (i + 1) g z ≡ upto d i g z
upto_same d i g z h = by_test (ltb z i)
    (λ t. let j = ltb-true z i t in simp (t, lt-ltb z (i + 1) (omega arith)))
    (λ t. let j = ltb-false z i t in simp (t, le-ltb z (i + 1) (omega arith)))

upto_new : (d i : ℕ) (g : ℕ → ℕ) → upto d (i + 1) g i ≡ g i
upto_new d i g = simp (lt-ltb i (i + 1) (omega arith))

upto_none : (d : ℕ) (g : ℕ → ℕ) → (λ (j : ℕ). d) ≡ upto d 0 g
upto_none d g = fun_ext (λ j. simp (le-ltb j 0 (omega arith)))

upto_all : (d i : ℕ) (g : ℕ → ℕ) → ((j : ℕ) → i ≤ j → g j ≡ d) → upto d i g ≡ g
upto_all d i g h = fun_ext (λ j. by_test (ltb j i) (λ t. rw t) (λ t. rw t (sym (h j (ltb-false j i t)))))

module _ (w₀ : List ℕ) (en : ℕ → ℕ) (u : ℕ → Tree ℕ) (xs : List ℕ) (base : ℕ) where
  pub goes_start : (w : List ℕ) (m n b : ℕ) → m ≡ length xs → n ≡ parts m → b ≡ base + n → Level w₀ w base n (λ i. top_end) (λ i. 0) → Goes w₀ w en u xs base 0 b
  unfolding below_blocks under_blocks
  goes_start w m n b e e' e'' l =
      let k : 16 * (base + n) ≡ 16 * b = omega arith in
      let y : n ≡ parts (length xs) = omega arith in
      record {
        most = omega arith;
        next = omega arith;
        long = l.long;
        before = l.before;
        is = l.is ∙ rw (k, upto_none top_end (end_at_place (chain_by en u xs)), upto_none 0 (link_at_place (chain_by en u xs) (base + parts (length xs))), y);
      }

  module _ (w : List ℕ) (i b : ℕ) (o : Goes w₀ w en u xs base i b) where
    ends : ℕ → ℕ
    ends = end_at_place (chain_by en u xs)

    links : ℕ → ℕ
    links = link_at_place (chain_by en u xs) (base + parts (length xs))

    -- what is written so far, before any rest
    front : List ℕ
    front = level (parts (length xs)) (upto top_end i ends) (upto 0 i links) (below_blocks (chain_by en u (take i xs)) (base + parts (length xs)) [])

    front_is : (r : List ℕ) → level (parts (length xs)) (upto top_end i ends) (upto 0 i links) (below_blocks (chain_by en u (take i xs)) (base + parts (length xs)) r) ≡ front ++ r
    unfolding front
    front_is r =
        rw (belows_append (chain_by en u (take i xs)) (base + parts (length xs)) [] r)
        (level_append (parts (length xs)) (upto top_end i ends) (upto 0 i links) (below_blocks (chain_by en u (take i xs)) (base + parts (length xs)) []) r)

    front_length : 16 * base + length front ≡ 16 * b
    unfolding front
    front_length =
        omega (
          arith,
          o.next,
          level_length (below_blocks (chain_by en u (take i xs)) (base + parts (length xs)) []) (parts (length xs)) (upto top_end i ends) (upto 0 i links),
          belows_length (chain_by en u (take i xs)) (base + parts (length xs)) [],
        )

    now_is : drop (16 * base) w ≡ front ++ drop (16 * b) w₀
    unfolding ends links
    now_is = o.is ∙ front_is (drop (16 * b) w₀)

    -- the words behind are as they were
    behind : drop (16 * b) w ≡ drop (16 * b) w₀
    behind =
        ap (λ z. drop z w) (sym front_length)
        ∙ sym (drop-drop (length front) (16 * base) w)
        ∙ ap (drop (length front)) now_is
        ∙ drop-append_seam front (drop (16 * b) w₀)

    pub goes_on : (w' : List ℕ) (past x e l : ℕ) → i < length xs → x ≡ get_or xs i 0 → 16 * b ≤ length w₀ → length w' ≡ length w → Written w w' b past (u x) → e ≡ en x → l ≡ down_mark + entry (u x) b
        → Goes w₀ (entered w' base i e l) en u xs base (i + 1) past
    unfolding ends links
    goes_on w' past x e l h q room long v p k =
        record {
          most = omega arith;
          next = omega (arith, v.next, o.next, ap (λ z. under_blocks (chain_by en u z)) more, under_snoc en u (take i xs) x);
          long = simp (length-set, length-set) (long ∙ o.long);
          before =
              take-set-le (16 * base) (set w' (end_place base i) e) (link_place base i) l (omega arith)
              ∙ take-set-le (16 * base) w' (end_place base i) e (omega arith)
              ∙ shorter (16 * base) (16 * b) w' w (omega (arith, o.next)) v.before
              ∙ o.before;
          is =
              rw y (drop-set-add (16 * base) (set w' (end_place base i) e) (16 * (i / 8) + (8 + i % 8)) l)
              ∙ ap (λ z. set z (16 * (i / 8) + (8 + i % 8)) l) ended
              ∙ ap (λ z. set (set z (16 * (i / 8) + i % 8) e) (16 * (i / 8) + (8 + i % 8)) l) written
              ∙ level_enter (parts (length xs)) (upto top_end i ends) (upto top_end (i + 1) ends) (upto 0 i links) (upto 0 (i + 1) links) rest i e l (omega arith)
              (upto_same top_end i ends) (upto_new top_end i ends ∙ new_end) (upto_same 0 i links) (upto_new 0 i links ∙ new_link);
        }
      where
        more : take (i + 1) xs ≡ take i xs ++ (x ∷ [])
        more = rw (add-one, q) (take-suc xs i 0 h)

        y : link_place base i ≡ 16 * base + (16 * (i / 8) + (8 + i % 8))
        y = omega arith

        y' : end_place base i ≡ 16 * base + (16 * (i / 8) + i % 8)
        y' = omega arith

        ended : drop (16 * base) (set w' (end_place base i) e) ≡ set (drop (16 * base) w') (16 * (i / 8) + i % 8) e
        ended = rw y' (drop-set-add (16 * base) w' (16 * (i / 8) + i % 8) e)

        rest : List ℕ
        rest = below_blocks (chain_by en u (take (i + 1) xs)) (base + parts (length xs)) (drop (16 * past) w₀)

        -- the rest of the words is as it was at the start
        rest_is_read : drop (16 * (b + blocks (u x))) w ≡ drop (16 * past) w₀
        rest_is_read =
            let z : 16 * (b + blocks (u x)) ≡ 16 * b + 16 * blocks (u x) = omega arith in
            rw (v.next, z, ← drop-drop (16 * blocks (u x)) (16 * b) w, ← drop-drop (16 * blocks (u x)) (16 * b) w₀, behind)

        b_is : base + parts (length xs) + under_blocks (chain_by en u (take i xs)) ≡ b
        b_is = sym o.next

        written : drop (16 * base) w' ≡ level (parts (length xs)) (upto top_end i ends) (upto 0 i links) rest
        written =
            seam (16 * base) (16 * b) w w' front (drop (16 * b) w₀) (tree_blocks (u x) b (drop (16 * past) w₀)) front_length (omega (arith, o.long)) now_is v.before (v.is ∙ rw rest_is_read)
            ∙ sym (front_is (tree_blocks (u x) b (drop (16 * past) w₀)))
            ∙ ap (level (parts (length xs)) (upto top_end i ends) (upto 0 i links)) (sym (rw (more, belows_snoc en u (take i xs) x (base + parts (length xs)) (drop (16 * past) w₀), b_is)))

        new_end : ends i ≡ e
        new_end = end_is en u xs i ∙ simp (lt-ltb i (length xs) h) (rw (← q) (sym p))

        new_link : links i ≡ l
        new_link = down_is en u xs (base + parts (length xs)) i h ∙ rw (← q, b_is, ← k)

    pub goes_done : (w' : List ℕ) (a m : ℕ) → length xs ≤ i → m ≡ length xs → base + parts m ≡ a + blocks_up (depth m) m → Raised w w' a base m → Written w₀ w' a b (chain_by en u xs)
    unfolding ends links
    goes_done w' a m h e k r =
        let l = r ends links rest (record { is = o.is ∙ rw (all, all_ends, all_links, ← e); pads = pads }) in
        record {
          next = b_is;
          before = l.before ∙ shorter (16 * a) (16 * base) w w₀ (omega (arith, size_parts (depth m) m)) o.before;
          is = l.is ∙ rw (e, own_is, ← b_is) (sym (chain_lay en u xs a (a + own_blocks (chain_by en u xs)) (below_blocks (chain_by en u xs) (a + own_blocks (chain_by en u xs)) (drop (16 * b) w₀))));
        }
      where
        rest : List ℕ
        rest = below_blocks (chain_by en u xs) (base + parts (length xs)) (drop (16 * b) w₀)

        all : take i xs ≡ xs
        all = take_all i xs h

        own_is : base + parts (length xs) ≡ a + own_blocks (chain_by en u xs)
        own_is = omega (arith, k, chained_own en u xs, ap (λ z. blocks_up (depth z) z) e)

        b_is : b ≡ a + blocks (chain_by en u xs)
        b_is = omega (arith, o.next, own_is, ap (λ z. under_blocks (chain_by en u z)) all)

        all_ends : upto top_end i (end_at_place (chain_by en u xs)) ≡ end_at_place (chain_by en u xs)
        all_ends = upto_all top_end i (end_at_place (chain_by en u xs)) (λ j z. end_is en u xs j ∙ simp (le-ltb j (length xs) (omega arith)))

        all_links : upto 0 i (link_at_place (chain_by en u xs) (base + parts (length xs))) ≡ link_at_place (chain_by en u xs) (base + parts (length xs))
        all_links = upto_all 0 i (link_at_place (chain_by en u xs) (base + parts (length xs))) (λ j z. down_none en u xs (base + parts (length xs)) j (omega arith))

        pads : (j : ℕ) → 8 * parts m ≤ j → end_at_place (chain_by en u xs) j ≡ top_end
        pads j z = end_is en u xs j ∙ simp (le-ltb j (length xs) (omega arith))

-- a level that is written is a level of what is then there
pub level_rest : {w₀ w : List ℕ} {b n : ℕ} {f g : ℕ → ℕ} → Level w₀ w b n f g → drop (16 * (b + n)) w ≡ drop (16 * (b + n)) w₀
level_rest {w₀} {w} {b} {n} {f} {g} l =
    let z : 16 * (b + n) ≡ 16 * b + 16 * n = omega arith in
    ap (λ x. drop x w) z ∙ sym (drop-drop (16 * n) (16 * b) w) ∙ ap (drop (16 * n)) l.is ∙ level_past (drop (16 * (b + n)) w₀) n f g

-- BLANK BLOCKS, one after another
module _ (x y : ℕ) where
  level_more : (j : ℕ) (r : List ℕ) → level j (λ i. x) (λ i. y) (level 1 (λ i. x) (λ i. y) r) ≡ level (suc j) (λ i. x) (λ i. y) r
  unfolding level
  level_more zero r = refl
  level_more (suc j) r = ap (λ z. each_of 8 (λ i. x) (each_of 8 (λ i. y) z)) (level_more j r)

  pub blanks_none : (w : List ℕ) (b : ℕ) → Level w w b 0 (λ i. x) (λ i. y)
  unfolding level
  blanks_none w b = let z : b + 0 ≡ b = omega arith in record { long = refl; before = refl; is = rw z }

  pub blanks_more : {w₀ w w' : List ℕ} {b j : ℕ} → 16 * (b + j) + 16 ≤ length w₀ → Level w₀ w b j (λ i. x) (λ i. y) → Level w w' (b + j) 1 (λ i. x) (λ i. y) → Level w₀ w' b (j + 1) (λ i. x) (λ i. y)
  blanks_more {w₀} {w} {w'} {b} {j} fits l m =
      let f : ℕ → ℕ = λ i. x in
      let g : ℕ → ℕ = λ i. y in
      let rest = drop (16 * (b + (j + 1))) w₀ in
      let z : 16 * (b + j + 1) ≡ 16 * (b + j) + 16 = omega arith in
      let z' : 16 * (b + (j + 1)) ≡ 16 * (b + j) + 16 = omega arith in
      let behind : drop (16 * (b + j + 1)) w ≡ rest = rw (z, z', ← drop-drop 16 (16 * (b + j)) w, ← drop-drop 16 (16 * (b + j)) w₀, level_rest l) in
      let p : 16 * b + length (level j f g []) ≡ 16 * (b + j) = omega (arith, level_length [] j f g) in
      record {
        long = m.long ∙ l.long;
        before = shorter (16 * b) (16 * (b + j)) w' w (omega arith) m.before ∙ l.before;
        is =
            seam (16 * b) (16 * (b + j)) w w' (level j f g []) (drop (16 * (b + j)) w₀) (level 1 f g rest) p (omega (arith, l.long)) (l.is ∙ level_append j f g [] (drop (16 * (b + j)) w₀)) m.before (m.is ∙ ap (level 1 f g) behind)
            ∙ sym (level_append j f g [] (level 1 f g rest)) ∙ level_more j rest ∙ ap (λ n. level n f g rest) (sym (add-one j));
      }

-- THE WHOLE TREE from block 0 on
pub text_append : (t : Tree ℕ) (r : List ℕ) → tree_blocks t 0 r ≡ blocks_text t ++ r
unfolding blocks_text
text_append t r = rw (belows_append t (0 + own_blocks t) [] r) (chain_append t 0 (0 + own_blocks t) (below_blocks t (0 + own_blocks t) []) r)

pub whole : {w₀ w : List ℕ} {past : ℕ} {t : Tree ℕ} → Written w₀ w 0 past t → (past ≡ blocks t) × (w ≡ blocks_text t ++ drop (16 * blocks t) w₀)
whole {w₀} {w} {past} {t} v =
    let z : 0 + blocks t ≡ blocks t = omega arith in
    (v.next ∙ z, rw z at (v.is ∙ text_append t (drop (16 * (0 + blocks t)) w₀)))

-- Comparing words with the blocks of a chain and of all that is below it: what stands, and what cannot stand.
-- Assumes nothing.
use mathlib.Core.Path.{◌≡◌, refl, sym, ap, ◌∙◌}
use mathlib.Core.Bool.{Bool, true, false, not}
use mathlib.Core.List.{List, [], ◌∷◌, ◌++◌}
use Prim.Native.Nat.{ℕ, suc, ◌+◌, ◌-◌, ◌*◌, ◌/◌, ◌≤◌, ◌<◌}
use native.Mathlib.Omega.{arith}
use native.Mathlib.Numerals.{add-one}
use lib.Dec.{ltb, eqb}
use lib.ListN.{length, get_or, take, drop, length-drop, take-append-drop}
use lib.Seq.{drop-drop, take-suc, take_all, drop-cons}
use borrow.Author.Tests.{ltb-true, ltb-false, lt-ltb, le-ltb, eqb-true, eqb-false}
use Rattle.model.specs.Lists.{keep}
use Rattle.model.specs.Rules.{Tree, covers, ends}
use Rattle.model.proofs.Tests.{by_test, was_no, was_yes}
use Rattle.rows.specs.Rows.{first_of, field_at, tree_at, under_at}
use Rattle.rows.proofs.Sets.{tree_none, tree_step}
use Rattle.blocks.specs.Blocks.{down_mark, depth, parts, blocks_up, level, lay, own_blocks, under_blocks, blocks, entry, end_at_place, link_at_place, chain_blocks, below_blocks, tree_blocks}
use Rattle.blocks.specs.Written.{end_place, link_place, Under}
use Rattle.blocks.proofs.Words.{chain_past, chain_length, belows_past}
use Rattle.blocks.proofs.Writing.{filled_done, size_parts}
use Rattle.blocks.proofs.Chains.{chain_by, chain_by_lem, chained_own, under_snoc, belows_snoc, end_is, down_is, down_none, chain_lay}
use Rattle.levels.specs.Levels.{Stands, Stood, Low, One, Answers, UpperStand, EndsStand}
use Rattle.levels.proofs.Levels.{said_yes, said_no, lay_lower, stands_end, stands_link}

-- where a chain stands, so does each of its parts
module _ (en : ℕ → ℕ) (u : ℕ → Tree ℕ) where
  belows_split : (xs ys : List ℕ) (b : ℕ) (r : List ℕ) → below_blocks (chain_by en u (xs ++ ys)) b r ≡ below_blocks (chain_by en u xs) b (below_blocks (chain_by en u ys) (b + under_blocks (chain_by en u xs)) r)
  unfolding below_blocks under_blocks
  belows_split [] ys b r = let z : b + 0 ≡ b = omega arith in rw z
  belows_split (x ∷ xs) ys b r =
      let z : b + (own_blocks (u x) + under_blocks (u x) + under_blocks (chain_by en u xs)) ≡ b + blocks (u x) + under_blocks (chain_by en u xs) = omega arith in
      rw (z, belows_split xs ys (b + blocks (u x)) r)

  entry_chain : (xs : List ℕ) (a : ℕ) → entry (chain_by en u xs) a ≡ a
  unfolding entry
  entry_chain [] a = refl
  entry_chain (x ∷ xs) a = refl

  module _ (es : List ℕ) where
    abbrev t : Tree ℕ
    t = chain_by en u es

    module _ (w : List ℕ) (a : ℕ) (v : Stands w a t) where
      long : 16 * own_blocks t ≤ length w - 16 * a
      long = omega (arith, length-drop (16 * a) w, ap length v, chain_length t a (a + own_blocks t) (below_blocks t (a + own_blocks t) (drop (16 * (a + blocks t)) w)))

      after : drop (16 * (a + own_blocks t)) w ≡ below_blocks t (a + own_blocks t) (drop (16 * (a + blocks t)) w)
      after =
          let z : 16 * (a + own_blocks t) ≡ 16 * a + 16 * own_blocks t = omega arith in
          ap (λ x. drop x w) z ∙ sym (drop-drop (16 * own_blocks t) (16 * a) w) ∙ ap (drop (16 * own_blocks t)) v ∙ chain_past t a (a + own_blocks t) (below_blocks t (a + own_blocks t) (drop (16 * (a + blocks t)) w))

      laid : drop (16 * a) w ≡ lay (depth (length es)) a (length es) (end_at_place t) (link_at_place t (a + own_blocks t)) (drop (16 * (a + own_blocks t)) w)
      laid = v ∙ chain_lay en u es a (a + own_blocks t) _ ∙ rw after

      lowest : drop (16 * (a + own_blocks t - parts (length es))) w ≡ level (parts (length es)) (end_at_place t) (link_at_place t (a + own_blocks t)) (drop (16 * (a + own_blocks t)) w)
      lowest =
          let m = length es in
          let z : 16 * (a + own_blocks t - parts m) ≡ 16 * a + 16 * (blocks_up (depth m) m - parts m) = omega (arith, chained_own en u es, size_parts (depth m) m) in
          ap (λ x. drop x w) z ∙ sym (drop-drop (16 * (blocks_up (depth m) m - parts m)) (16 * a) w) ∙ ap (drop (16 * (blocks_up (depth m) m - parts m))) laid
          ∙ lay_lower (depth m) a m (end_at_place t) (link_at_place t (a + own_blocks t)) (drop (16 * (a + own_blocks t)) w)

      below_stands : (i : ℕ) → i < length es → Stands w (a + own_blocks t + under_blocks (chain_by en u (take i es))) (u (get_or es i 0))
      unfolding below_blocks
      below_stands i h =
          let xs = take i es in
          let e = get_or es i 0 in
          let ys = drop (suc i) es in
          let front = chain_by en u xs in
          let b0 = a + own_blocks t in
          let b = b0 + under_blocks front in
          let r = drop (16 * (a + blocks t)) w in
          let q = below_blocks (chain_by en u ys) (b + blocks (u e)) r in
          let s : below_blocks t b0 r ≡ below_blocks front b0 (tree_blocks (u e) b q) =
          ap (λ l. below_blocks (chain_by en u l) b0 r) (sym (take-append-drop i es) ∙ ap (λ l. xs ++ l) (drop-cons es i 0 h)) ∙ belows_split xs (e ∷ ys) b0 r in
          let z : 16 * b ≡ 16 * b0 + 16 * under_blocks front = omega arith in
          let x : drop (16 * b) w ≡ tree_blocks (u e) b q =
          ap (λ k. drop k w) z ∙ sym (drop-drop (16 * under_blocks front) (16 * b0) w) ∙ ap (drop (16 * under_blocks front)) (after ∙ s) ∙ belows_past front b0 (tree_blocks (u e) b q) in
          let y : 16 * (b + blocks (u e)) ≡ 16 * b + 16 * own_blocks (u e) + 16 * under_blocks (u e) = omega arith in
          let p : drop (16 * (b + blocks (u e))) w ≡ q =
          ap (λ k. drop k w) y ∙ sym (drop-drop (16 * under_blocks (u e)) (16 * b + 16 * own_blocks (u e)) w)
          ∙ ap (drop (16 * under_blocks (u e))) (sym (drop-drop (16 * own_blocks (u e)) (16 * b) w) ∙ ap (drop (16 * own_blocks (u e))) x ∙ chain_past (u e) b (b + own_blocks (u e)) (below_blocks (u e) (b + own_blocks (u e)) q))
          ∙ belows_past (u e) (b + own_blocks (u e)) q in
          x ∙ ap (tree_blocks (u e) b) (sym p)

-- THE CHAIN of the rules at the places ps in field f, and that of its first i ends
abbrev pub ends_at : List ℕ → ℕ → List ℕ → List ℕ
ends_at rules f ps = ends (field_at rules f) ps

abbrev pub chain_to : List ℕ → ℕ → ℕ → List ℕ → ℕ → Tree ℕ
chain_to rules f left ps i = chain_by (λ e. e) (under_at rules f left ps) (take i (ends_at rules f ps))

abbrev pub chain_at : List ℕ → ℕ → ℕ → List ℕ → Tree ℕ
chain_at rules f left ps = chain_by (λ e. e) (under_at rules f left ps) (ends_at rules f ps)

tree_chain : (rules : List ℕ) (f left : ℕ) (ps : List ℕ) → (left ≡ 0 → ⊥) → tree_at rules f left ps ≡ chain_at rules f left ps
tree_chain rules f left ps nz = tree_step rules f left ps nz ∙ chain_by_lem (under_at rules f left ps) (ends_at rules f ps)

-- ends that are written beside are those that a level is compared with
pub ends_beside : (w : List ℕ) (first n : ℕ) (x : Bool) {es xs : List ℕ} {m : ℕ} → es ≡ xs → m ≡ length xs → Answers x (EndsStand w first n es (length es)) → Answers x (EndsStand w first n xs m)
ends_beside w first n x e q r = rw q (rw e at r)

-- THE ENDS of the set, over n blocks that are the lowest of their chain
module _ (w rules : List ℕ) (f : ℕ) (ps : List ℕ) (a m : ℕ) (count : m ≡ length (ends_at rules f ps)) (first n : ℕ) (size : n ≡ parts m) (total : first + n ≡ a + blocks_up (depth m) m) where
  pub low_is : (x : Bool) → not x ≡ false → Answers x (EndsStand w first n (ends_at rules f ps) m) → first + n ≤ length w / 16 → Low w rules f ps a m first
  low_is x t r h = record { count = count; total = rw size at total; room = omega arith; stand = rw size at (said_yes x _ t r) }

  -- what stands refutes each way to say no
  module _ (left : ℕ) (nz : left ≡ 0 → ⊥) (v : Stands w a (tree_at rules f left ps)) where
    chained : Stands w a (chain_at rules f left ps)
    chained = rw (tree_chain rules f left ps nz) at v

    own_is : own_blocks (chain_at rules f left ps) ≡ blocks_up (depth m) m
    own_is = chained_own (λ e. e) (under_at rules f left ps) (ends_at rules f ps) ∙ ap (λ z. blocks_up (depth z) z) (sym count)

    pub low_short : 16 * a ≤ length w → length w / 16 < first + n → ⊥
    low_short l h = omega (arith, long (λ e. e) (under_at rules f left ps) (ends_at rules f ps) w a chained, own_is)

    pub has_ends : EndsStand w first n (ends_at rules f ps) m
    has_ends =
        let u = under_at rules f left ps in
        let es = ends_at rules f ps in
        let t = chain_at rules f left ps in
        let z : a + blocks_up (depth m) m - parts m ≡ first = omega arith in
        let l = rw (own_is, ← count, z) at (lowest (λ e. e) u es w a chained) in
        let behind : ℕ = a + blocks_up (depth m) m in
        rw size
        (record {
          end = λ j i. stands_end w first (parts m) (end_at_place t) (link_at_place t behind) (drop (16 * behind) w) l j i ∙ end_is (λ e. e) u es j ∙ rw (← count);
          none = λ j i h. stands_link w first (parts m) (end_at_place t) (link_at_place t behind) (drop (16 * behind) w) l j i ∙ down_none (λ e. e) u es behind j (omega arith);
        })

    pub low_not : (x : Bool) → not x ≡ true → Answers x (EndsStand w first n (ends_at rules f ps) m) → ⊥
    low_not x t r = said_no x _ t r has_ends

-- THE LOOP: the ends stand, the links down of the first i of them, and what is below these; what is below the next one begins at block b
pub record Looks (w rules : List ℕ) (f left : ℕ) (ps : List ℕ) (a m base i b : ℕ) : Type 0 where
  pub low : Low w rules f ps a m base
  pub some : left ≡ 0 → ⊥
  pub most : i ≤ m
  pub few : length w ≤ 16777216
  pub fits : 16 * b ≤ length w
  pub next : b ≡ base + parts m + under_blocks (chain_to rules f left ps i)
  pub link : (j : ℕ) → j < i → get_or w (link_place base j) 0 ≡ link_at_place (chain_at rules f left ps) (base + parts m) j
  pub below : drop (16 * (base + parts m)) w ≡ below_blocks (chain_to rules f left ps i) (base + parts m) (drop (16 * b) w)

pub looks_start : {w rules : List ℕ} {f left : ℕ} {ps : List ℕ} {a m base : ℕ} → Low w rules f ps a m base → (left ≡ 0 → ⊥) → length w ≤ 16777216 → Looks w rules f left ps a m base 0 (base + parts m)
unfolding below_blocks under_blocks
looks_start o nz l = record { low = o; some = nz; most = omega arith; few = l; fits = o.room; next = omega arith; link = λ j i. absurd (omega arith); below = refl }

module _ {w rules : List ℕ} {f left : ℕ} {ps : List ℕ} {a m base i b : ℕ} (o : Looks w rules f left ps a m base i b) where
  pub looks_in : i < m → 16 * (base + i / 8) + 16 ≤ length w
  looks_in h = omega (arith, o.low.room)

  own_at : base + parts m ≡ a + own_blocks (chain_at rules f left ps)
  own_at = o.low.total ∙ ap (λ z. a + z) (ap (λ z. blocks_up (depth z) z) o.low.count ∙ sym (chained_own (λ e. e) (under_at rules f left ps) (ends_at rules f ps)))

  ends_at_lem : (j : ℕ) → j < 8 * parts m → get_or w (end_place base j) 0 ≡ end_at_place (chain_at rules f left ps) j
  ends_at_lem j h = o.low.stand.end j h ∙ rw o.low.count (sym (end_is (λ e. e) (under_at rules f left ps) (ends_at rules f ps) j))

  module _ (h : i < m) {e : ℕ} (q : e ≡ get_or w (end_place base i) 0) {places : List ℕ} (k : places ≡ keep (covers (field_at rules f) e) ps) where
    the_end : e ≡ get_or (ends_at rules f ps) i 0
    the_end = q ∙ o.low.stand.end i (omega arith) ∙ simp (lt-ltb i m h)

    below_is : tree_at rules (f + 1) (left - 1) places ≡ under_at rules f left ps e
    unfolding under_at
    below_is = rw k

    -- the link that should stand there
    link_is : link_at_place (chain_at rules f left ps) (base + parts m) i ≡ down_mark + entry (tree_at rules (f + 1) (left - 1) places) b
    link_is = down_is (λ e. e) (under_at rules f left ps) (ends_at rules f ps) (base + parts m) i (omega (arith, o.low.count)) ∙ rw (← the_end, ← o.next, ← below_is)

    module _ (v : Stands w a (tree_at rules f left ps)) where
      chained_again : Stands w a (chain_at rules f left ps)
      chained_again = rw (tree_chain rules f left ps o.some) at v

      pub has_below : Stands w b (tree_at rules (f + 1) (left - 1) places)
      has_below =
          let z : a + own_blocks (chain_at rules f left ps) + under_blocks (chain_to rules f left ps i) ≡ b = omega (arith, o.next, own_at) in
          rw (below_is, the_end) (rw z at (below_stands (λ e. e) (under_at rules f left ps) (ends_at rules f ps) w a chained_again i (omega (arith, o.low.count))))

      has_link : get_or w (link_place base i) 0 ≡ down_mark + entry (tree_at rules (f + 1) (left - 1) places) b
      has_link =
          let t = chain_at rules f left ps in
          let y : a + own_blocks t - parts m ≡ base = omega (arith, own_at) in
          let l = rw (← o.low.count, y, ← own_at) at (lowest (λ e. e) (under_at rules f left ps) (ends_at rules f ps) w a chained_again) in
          stands_link w base (parts m) (end_at_place t) (link_at_place t (base + parts m)) (drop (16 * (base + parts m)) w) l i (omega arith) ∙ link_is

    module _ {past to : ℕ} (s : Stood w b (tree_at rules (f + 1) (left - 1) places) past to) {x : Bool} (g : x ≡ eqb (get_or w (link_place base i) 0) (down_mark + to)) where
      pub looks_no : not x ≡ true → Stands w a (tree_at rules f left ps) → ⊥
      looks_no t v = eqb-false _ _ (was_no g t) (has_link v ∙ rw s.start)

      pub looks_on : not x ≡ false → Looks w rules f left ps a m base (i + 1) past
      looks_on t =
          let u = under_at rules f left ps in
          let es = ends_at rules f ps in
          let more : take (i + 1) es ≡ take i es ++ (e ∷ []) = rw (add-one, the_end) (take-suc es i 0 (omega (arith, o.low.count))) in
          let p : past ≡ b + blocks (u e) = rw below_is at s.next in
          let v : Stands w b (u e) = rw below_is at s.is in
          record {
            low = o.low;
            some = o.some;
            most = omega arith;
            few = o.few;
            fits = s.fits;
            next = omega (arith, o.next, ap (λ z. under_blocks (chain_by (λ e. e) u z)) more, under_snoc (λ e. e) u (take i es) e);
            link = λ j c. by_test (eqb j i)
                (λ c'. let d = eqb-true j i c' in rw d (eqb-true _ _ (was_yes g t) ∙ rw s.start (sym link_is)))
                (λ c'. let d = eqb-false j i c' in o.link j (omega arith));
            below = o.below ∙ ap (below_blocks (chain_to rules f left ps i) (base + parts m)) v ∙ sym (rw (more, belows_snoc (λ e. e) u (take i es) e (base + parts m) (drop (16 * past) w), ← o.next, p));
          }

  module _ (h : m ≤ i) where
    all : take i (ends_at rules f ps) ≡ ends_at rules f ps
    all = take_all i (ends_at rules f ps) (omega (arith, o.low.count))

    level_is : drop (16 * base) w ≡ level (parts m) (end_at_place (chain_at rules f left ps)) (link_at_place (chain_at rules f left ps) (base + parts m)) (drop (16 * (base + parts m)) w)
    level_is =
        let t = chain_at rules f left ps in
        (filled_done w base (parts m) (end_at_place t) (link_at_place t (base + parts m)) w (8 * parts m)
        (record {
          most = omega arith;
          long = refl;
          end = ends_at_lem;
          link = λ j c. by_test (ltb j m)
              (λ t. o.link j (omega (arith, ltb-true j m t)))
              (λ t. let d = ltb-false j m t in o.low.stand.none j c d ∙ sym (down_none (λ e. e) (under_at rules f left ps) (ends_at rules f ps) (base + parts m) j (omega (arith, o.low.count))));
          apart = λ x s. refl;
        })
        (omega arith) o.low.room).is

    under_it : Under w base (parts m) (end_at_place (chain_at rules f left ps)) (link_at_place (chain_at rules f left ps) (base + parts m)) (drop (16 * (base + parts m)) w)
    under_it =
        let es = ends_at rules f ps in
        record { is = level_is; pads = λ j c. end_is (λ e. e) (under_at rules f left ps) es j ∙ simp (le-ltb j (length es) (omega (arith, o.low.count))) }

    b_is : b ≡ a + blocks (chain_at rules f left ps)
    b_is = omega (arith, o.next, own_at, ap (λ z. under_blocks (chain_by (λ e. e) (under_at rules f left ps) z)) all)

    pub looks_done : (x : Bool) → not x ≡ false → UpperStand x w a base m → Stood w a (tree_at rules f left ps) b a
    looks_done y d s =
        let u = under_at rules f left ps in
        let es = ends_at rules f ps in
        let t = chain_at rules f left ps in
        let x = said_yes y _ d (s (end_at_place t) (link_at_place t (base + parts m)) (drop (16 * (base + parts m)) w) under_it) in
        rw (tree_chain rules f left ps o.some)
        (record {
          next = b_is;
          start = sym (entry_chain (λ e. e) u es a);
          fits = o.fits;
          is = x ∙ rw (← b_is, o.below, all, own_at, o.low.count) (sym (chain_lay (λ e. e) u es a (a + own_blocks t) (below_blocks t (a + own_blocks t) (drop (16 * b) w))));
        })

    pub looks_not : (x : Bool) → not x ≡ true → UpperStand x w a base m → Stands w a (tree_at rules f left ps) → ⊥
    looks_not y d s v =
        let t = chain_at rules f left ps in
        said_no y _ d (s (end_at_place t) (link_at_place t (base + parts m)) (drop (16 * (base + parts m)) w) under_it)
        (rw (own_at, o.low.count) (laid (λ e. e) (under_at rules f left ps) (ends_at rules f ps) w a (rw (tree_chain rules f left ps o.some) at v)))

-- where no field is left there is nothing to stand
pub stands_none : (w rules ps : List ℕ) (f left a : ℕ) {x : ℕ} → left ≡ 0 → 16 * a ≤ length w → x ≡ first_of ps → Stood w a (tree_at rules f left ps) a x
unfolding own_blocks under_blocks chain_blocks below_blocks entry
stands_none w rules ps f left a e h q = rw (tree_none rules f left ps e) (let z : a + (0 + 0) ≡ a = omega arith in record { next = omega arith; start = q; fits = h; is = rw z })

-- in the last field nothing stands below an end, and its link leads to the first place that covers it
module _ {w rules : List ℕ} {f : ℕ} {ps : List ℕ} {a m base i b : ℕ} (o : Looks w rules f 1 ps a m base i b) (h : i < m) {e named : ℕ} (q : e ≡ get_or w (end_place base i) 0) (d : named ≡ first_of (keep (covers (field_at rules f) e) ps))
    {x : Bool} (g : x ≡ eqb (get_or w (link_place base i) 0) (down_mark + named)) where
  below_last : Stood w b (tree_at rules (f + 1) (1 - 1) (keep (covers (field_at rules f) e) ps)) b named
  below_last = stands_none w rules _ (f + 1) (1 - 1) b refl o.fits d

  pub last_no : not x ≡ true → Stands w a (tree_at rules f 1 ps) → ⊥
  last_no = looks_no o h q refl below_last g

  pub last_on : not x ≡ false → Looks w rules f 1 ps a m base (i + 1) b
  last_on = looks_on o h q refl below_last g

-- the only end of a chain
pub one_answers : (w : List ℕ) (a e : ℕ) (x : Bool) → Answers x (EndsStand w a 1 (e ∷ []) 1) → a < length w / 16 → Answers x (One w a e)
one_answers w a e true s h = record { room = omega arith; stand = s }
one_answers w a e false s h = λ o. s o.stand

-- Writing a level of blocks place by place.
-- Assumes nothing.
use mathlib.Core.Path.{◌≡◌, refl, sym, ap, ◌∙◌}
use mathlib.Core.Logic.{◌⊎◌, inl, inr}
use mathlib.Core.Bool.{Bool, true, false, cond}
use mathlib.Core.List.{List, []}
use Prim.Native.Nat.{ℕ, zero, suc, ◌+◌, ◌-◌, ◌*◌, ◌/◌, ◌%◌, ◌≤◌, ◌<◌}
use native.Mathlib.Omega.{arith}
use lib.Dec.{ltb, eqb}
use lib.ListN.{length, get_or, set, take, drop, length-drop, length-set, length-take}
use lib.Seq.{get_or-drop, get_or-take, get_or-set_same, get_or-set_other, ext_get_or, take-take}
use borrow.Author.Tests.{ltb-true, ltb-false, eqb-true, eqb-false}
use Rattle.blocks.specs.Blocks.{top_end, depth, parts, blocks_up, level, links_to, lay}
use Rattle.blocks.specs.Written.{end_place, link_place, entered, Level, Under, Links, Raised}
use Rattle.blocks.proofs.Levels.{few_blocks, depth_low, depth_step, level_length, level_past, end_word, link_word}

-- the first k places of a level are written, and no word outside the level is changed
pub record Filled (w₀ w : List ℕ) (b n k : ℕ) (f g : ℕ → ℕ) : Type 0 where
  pub most : k ≤ 8 * n
  pub long : length w ≡ length w₀
  pub end : (j : ℕ) → j < k → get_or w (end_place b j) 0 ≡ f j
  pub link : (j : ℕ) → j < k → get_or w (link_place b j) 0 ≡ g j
  pub apart : (x : ℕ) → (x < 16 * b) ⊎ (16 * (b + n) ≤ x) → get_or w x 0 ≡ get_or w₀ x 0

module _ (w₀ : List ℕ) (b n : ℕ) (f g : ℕ → ℕ) where
  pub filled_on : (w : List ℕ) (k e l : ℕ) → Filled w₀ w b n k f g → k < 8 * n → 16 * (b + n) ≤ length w₀ → e ≡ f k → l ≡ g k → Filled w₀ (entered w b k e l) b n (k + 1) f g
  filled_on w k e l o h fits p q =
      record {
        most = omega arith;
        long = simp length-set o.long;
        end = λ j h'. ends_at_lem j h' (eqb j k) refl;
        link = λ j h'. links_at j h' (eqb j k) refl;
        apart = apart_at;
      }
    where
      in_end : end_place b k < length w
      in_end = omega (arith, o.long)

      in_link : link_place b k < length (set w (end_place b k) e)
      in_link = simp length-set (omega (arith, o.long))

      ends_at_lem : (j : ℕ) → j < k + 1 → (x : Bool) → eqb j k ≡ x → get_or (entered w b k e l) (end_place b j) 0 ≡ f j
      ends_at_lem j h' true x =
          let z : j ≡ k = eqb-true j k x in
          rw z
          (get_or-set_other (set w (end_place b k) e) (link_place b k) (end_place b k) l 0 (λ y. omega arith)
          ∙ get_or-set_same w (end_place b k) e 0 in_end ∙ p)
      ends_at_lem j h' false x =
          let d = eqb-false j k x in
          get_or-set_other (set w (end_place b k) e) (link_place b k) (end_place b j) l 0 (λ y. omega arith)
          ∙ get_or-set_other w (end_place b k) (end_place b j) e 0 (λ y. d (omega arith)) ∙ o.end j (omega arith)

      links_at : (j : ℕ) → j < k + 1 → (x : Bool) → eqb j k ≡ x → get_or (entered w b k e l) (link_place b j) 0 ≡ g j
      links_at j h' true x = let z : j ≡ k = eqb-true j k x in rw z (get_or-set_same (set w (end_place b k) e) (link_place b k) l 0 in_link ∙ q)
      links_at j h' false x =
          let d = eqb-false j k x in
          get_or-set_other (set w (end_place b k) e) (link_place b k) (link_place b j) l 0 (λ y. d (omega arith))
          ∙ get_or-set_other w (end_place b k) (link_place b j) e 0 (λ y. omega arith) ∙ o.link j (omega arith)

      apart_at : (x : ℕ) → (x < 16 * b) ⊎ (16 * (b + n) ≤ x) → get_or (entered w b k e l) x 0 ≡ get_or w₀ x 0
      apart_at x (inl s) =
          get_or-set_other (set w (end_place b k) e) (link_place b k) x l 0 (λ y. omega arith)
          ∙ get_or-set_other w (end_place b k) x e 0 (λ y. omega arith) ∙ o.apart x (inl s)
      apart_at x (inr s) =
          get_or-set_other (set w (end_place b k) e) (link_place b k) x l 0 (λ y. omega arith)
          ∙ get_or-set_other w (end_place b k) x e 0 (λ y. omega arith) ∙ o.apart x (inr s)

  -- what a level holds at any word, and what stands behind it
  module _ (r : List ℕ) (x : ℕ) where
    level_end : x < 16 * n → x % 16 < 8 → get_or (level n f g r) x 0 ≡ f (8 * (x / 16) + x % 16)
    level_end h l = let z : 16 * (x / 16) + x % 16 ≡ x = omega arith in rw z at (end_word r n (x / 16) (x % 16) f g (omega arith) l)

    level_link : x < 16 * n → 8 ≤ x % 16 → get_or (level n f g r) x 0 ≡ g (8 * (x / 16) + (x % 16 - 8))
    level_link h l = let z : 16 * (x / 16) + (8 + (x % 16 - 8)) ≡ x = omega arith in rw z at (link_word r n (x / 16) (x % 16 - 8) f g (omega arith) (omega arith))

    level_behind : 16 * n ≤ x → get_or (level n f g r) x 0 ≡ get_or r (x - 16 * n) 0
    level_behind h =
        let z : 16 * n + (x - 16 * n) ≡ x = omega arith in
        rw z at (sym (get_or-drop (16 * n) (level n f g r) (x - 16 * n) 0)) ∙ ap (λ l. get_or l (x - 16 * n) 0) (level_past r n f g)

  pub filled_done : (w : List ℕ) (k : ℕ) → Filled w₀ w b n k f g → 8 * n ≤ k → 16 * (b + n) ≤ length w₀ → Level w₀ w b n f g
  filled_done w k o h fits =
      record {
        long = o.long;
        before =
            ext_get_or 0 (take (16 * b) w) (take (16 * b) w₀) (simp length-take (rw o.long))
            (λ x l.
            let l' : x < 16 * b = omega (arith, simp length-take at l) in
            get_or-take (16 * b) w x 0 l' ∙ o.apart x (inl l') ∙ sym (get_or-take (16 * b) w₀ x 0 l'));
        is =
            ext_get_or 0 (drop (16 * b) w) (level n f g (drop (16 * (b + n)) w₀))
            (omega (arith, length-drop (16 * b) w, level_length (drop (16 * (b + n)) w₀) n f g, length-drop (16 * (b + n)) w₀, o.long))
            (λ x l. get_or-drop (16 * b) w x 0 ∙ word x (ltb x (16 * n)) refl (ltb (x % 16) 8) refl);
      }
    where
      word : (x : ℕ) (c : Bool) → ltb x (16 * n) ≡ c → (d : Bool) → ltb (x % 16) 8 ≡ d → get_or w (16 * b + x) 0 ≡ get_or (level n f g (drop (16 * (b + n)) w₀)) x 0
      word x true c true d =
          let c' = ltb-true x (16 * n) c in
          let d' = ltb-true (x % 16) 8 d in
          let j = 8 * (x / 16) + x % 16 in
          let z : 16 * b + x ≡ end_place b j = omega arith in
          rw z (o.end j (omega arith)) ∙ sym (level_end (drop (16 * (b + n)) w₀) x c' d')
      word x true c false d =
          let c' = ltb-true x (16 * n) c in
          let d' = ltb-false (x % 16) 8 d in
          let j = 8 * (x / 16) + (x % 16 - 8) in
          let z : 16 * b + x ≡ link_place b j = omega arith in
          rw z (o.link j (omega arith)) ∙ sym (level_link (drop (16 * (b + n)) w₀) x c' d')
      word x false c d e =
          let c' = ltb-false x (16 * n) c in
          let z : 16 * (b + n) + (x - 16 * n) ≡ 16 * b + x = omega arith in
          o.apart (16 * b + x) (inr (omega arith))
          ∙ sym (level_behind (drop (16 * (b + n)) w₀) x c' ∙ get_or-drop (16 * (b + n)) w₀ (x - 16 * n) 0 ∙ ap (λ y. get_or w₀ y 0) z)

-- THE LEVEL ABOVE: the last end of each block below, and the link to it
abbrev pub Linked : List ℕ → List ℕ → ℕ → ℕ → ℕ → ℕ → ℕ → Type 0
Linked w₀ w b n from m k = (f g : ℕ → ℕ) (r : List ℕ) → Under w₀ from m f g r → Filled w₀ w b n k (λ i. f (8 * i + 7)) (links_to m from)

module _ (w₀ w : List ℕ) (b n from m : ℕ) where
  -- the last end of block k below is what stands there still, since the level above is before it
  pub last_is : (f g : ℕ → ℕ) (r : List ℕ) (k : ℕ) → Under w₀ from m f g r → ((x : ℕ) → 16 * (b + n) ≤ x → get_or w x 0 ≡ get_or w₀ x 0) → b + n ≤ from
      → (x : Bool) → ltb k m ≡ x → cond x (get_or w (16 * (from + k) + 7) 0) top_end ≡ f (8 * k + 7)
  last_is f g r k u same h true x =
      let l = ltb-true k m x in
      let z : 16 * (from + k) + 7 ≡ 16 * from + (16 * k + 7) = omega arith in
      same (16 * (from + k) + 7) (omega arith) ∙ rw z (sym (get_or-drop (16 * from) w₀ (16 * k + 7) 0)) ∙ ap (λ y. get_or y (16 * k + 7) 0) u.is ∙ end_word r m k 7 f g l (omega arith)
  last_is f g r k u same h false x = let l = ltb-false k m x in sym (u.pads (8 * k + 7) (omega arith))

  pub linked_on : (k e l : ℕ) → Linked w₀ w b n from m k → k < 8 * n → b + n ≤ from → 16 * (from + m) ≤ length w₀
      → e ≡ cond (ltb k m) (get_or w (16 * (from + k) + 7) 0) top_end → l ≡ links_to m from k → Linked w₀ (entered w b k e l) b n from m (k + 1)
  linked_on k e l o h a fits p q f g r u =
      filled_on w₀ b n (λ i. f (8 * i + 7)) (links_to m from) w k e l (o f g r u) h (omega arith) (p ∙ last_is f g r k u (λ x s. (o f g r u).apart x (inr s)) a (ltb k m) refl) q

  pub linked_done : (k : ℕ) → Linked w₀ w b n from m k → 8 * n ≤ k → b + n ≤ from → 16 * (from + m) ≤ length w₀ → Links w₀ w b n from m
  linked_done k o h a fits f g r u = filled_done w₀ b n (λ i. f (8 * i + 7)) (links_to m from) w k (o f g r u) h (omega arith)

-- ALL LEVELS ABOVE: the level of left ends that stands at a block is right, and what is to be laid above it is the same
pub record Upper (w₀ w : List ℕ) (a k at left : ℕ) (f g : ℕ → ℕ) (r : List ℕ) : Type 0 where
  pub f' : ℕ → ℕ
  pub g' : ℕ → ℕ
  pub r' : List ℕ
  pub here : Under w at (parts left) f' g' r'
  pub before : take (16 * at) w ≡ take (16 * at) w₀
  pub same : lay (depth k) a k f g r ≡ lay (depth left) a left f' g' r'

-- the level from a block on, of n blocks, is that of the ends that are left
pub record Climbs (w₀ w : List ℕ) (a b k at n : ℕ) : Type 0 where
  pub left : ℕ
  pub size : n ≡ parts left
  pub long : length w ≡ length w₀
  pub total : at + n ≡ a + blocks_up (depth left) left
  pub low : at + n ≤ b + parts k
  pub over : (f g : ℕ → ℕ) (r : List ℕ) → Under w₀ b (parts k) f g r → Upper w₀ w a k at left f g r

pub size_parts : (d m : ℕ) → parts m ≤ blocks_up d m
unfolding blocks_up
size_parts zero m = omega arith
size_parts (suc d) m = omega arith

pub size_next : (d m : ℕ) → blocks_up (suc d) m ≡ blocks_up d (parts m) + parts m
unfolding blocks_up
size_next d m = refl

pub lay_next : (d a m : ℕ) (f g : ℕ → ℕ) (r : List ℕ) → lay (suc d) a m f g r ≡ lay d a (parts m) (λ i. f (8 * i + 7)) (links_to (parts m) (a + blocks_up d (parts m))) (level (parts m) f g r)
unfolding lay
lay_next d a m f g r = refl

pub lay_last : (d a m : ℕ) (f g : ℕ → ℕ) (r : List ℕ) → d ≡ 0 → lay d a m f g r ≡ level (parts m) f g r
unfolding lay
lay_last d a m f g r e = rw e

pub size_last : (d m : ℕ) → d ≡ 0 → blocks_up d m ≡ parts m
unfolding blocks_up
size_last d m e = rw e

module _ (w₀ : List ℕ) (a b k : ℕ) where
  pub climbs_start : (n : ℕ) → n ≡ parts k → b + n ≡ a + blocks_up (depth k) k → Climbs w₀ w₀ a b k b n
  climbs_start n q h = record { left = k; size = q; long = refl; total = h; low = omega arith; over = λ f g r u. record { f' = f; g' = g; r' = r; here = u; before = refl; same = refl } }

  module _ (w : List ℕ) (at n : ℕ) (o : Climbs w₀ w a b k at n) where
    more_left : 1 < n → 8 < o.left
    more_left h = omega (arith, o.size)

    -- the blocks above have their room
    pub climbs_room : 1 < n → at ≡ a + blocks_up (depth n) n
    climbs_room h = rw o.size (omega (arith, o.size, o.total, rw (depth_step o.left (more_left h), size_next) at o.total))

    pub climbs_fits : 1 < n → a + parts n ≤ at
    climbs_fits h = omega (arith, climbs_room h, size_parts (depth n) n)

    pub climbs_on : (w' : List ℕ) (at' n' : ℕ) → 1 < n → n' ≡ parts n → at' + n' ≡ at → length w' ≡ length w → Links w w' at' n' at n → Climbs w₀ w' a b k at' n'
    climbs_on w' at' n' h q z l p =
        record {
          left = n;
          size = q;
          long = l ∙ o.long;
          total = z ∙ climbs_room h;
          low = omega (arith, o.low);
          over = λ f g r u. next f g r (o.over f g r u);
        }
      where
        next : (f g : ℕ → ℕ) (r : List ℕ) → Upper w₀ w a k at o.left f g r → Upper w₀ w' a k at' n f g r
        next f g r t =
            let u : Under w at n t.f' t.g' t.r' = rw o.size t.here in
            let v = p t.f' t.g' t.r' u in
            record {
              f' = λ i. t.f' (8 * i + 7);
              g' = links_to n at;
              r' = level n t.f' t.g' t.r';
              here = record { is = v.is ∙ rw (z, u.is, q); pads = λ i c. t.here.pads (8 * i + 7) (omega (arith, o.size)) };
              before = v.before ∙ shorter at' at w w₀ (omega arith) t.before;
              same = t.same ∙ rw (depth_step o.left (more_left h), lay_next, ← o.size, ← climbs_room h);
            }
          where
            shorter : (x y : ℕ) (s s' : List ℕ) → x ≤ y → take (16 * y) s ≡ take (16 * y) s' → take (16 * x) s ≡ take (16 * x) s'
            shorter x y s s' q e = sym (take-take (16 * x) (16 * y) s (omega arith)) ∙ ap (take (16 * x)) e ∙ take-take (16 * x) (16 * y) s' (omega arith)

    pub climbs_done : n ≤ 1 → Raised w₀ w a b k
    climbs_done h f g r u =
        let t = o.over f g r u in
        let left = o.left in
        let d = depth_low left (omega (arith, o.size)) in
        let z : at ≡ a = omega (arith, o.total, o.size, size_last (depth left) left d) in
        record { before = rw z at t.before; is = rw z at t.here.is ∙ sym (t.same ∙ lay_last (depth left) a left t.f' t.g' t.r' d) }

-- COUNTING THE BLOCKS of m ends: those of the levels passed, the last of which has n blocks; and of the levels that are left
pub record Counts (m n total : ℕ) : Type 0 where
  pub left : ℕ
  pub size : n ≡ parts left
  pub is : blocks_up (depth m) m + n ≡ total + blocks_up (depth left) left
  pub most : total ≤ m
  pub few : n ≤ m

module _ (m : ℕ) where
  pub counts_start : (n : ℕ) → n ≡ parts m → Counts m n n
  counts_start n q = record { left = m; size = q; is = omega arith; most = omega arith; few = omega arith }

  pub counts_on : (n total : ℕ) → Counts m n total → 1 < n → (n' : ℕ) → n' ≡ parts n → Counts m n' (total + n')
  counts_on n total o h n' q =
      let left = o.left in
      let e : blocks_up (depth left) left ≡ blocks_up (depth (parts left)) (parts left) + parts left = rw (depth_step left (omega (arith, o.size))) (size_next (depth (parts left)) left) in
      record {
        left = parts left;
        size = omega (arith, o.size);
        is = omega (arith, o.is, o.size);
        most = omega (arith, o.is, o.size, few_blocks m, size_parts (depth (parts left)) (parts left));
        few = omega (arith, o.few);
      }

  pub counts_done : (n total : ℕ) → Counts m n total → n ≤ 1 → total ≡ blocks_up (depth m) m
  counts_done n total o h = omega (arith, o.is, o.size, size_last (depth o.left) o.left (depth_low o.left (omega (arith, o.size))))

-- A PLACE of a level, written: its end and its link
module _ (n : ℕ) (f f' g g' : ℕ → ℕ) (r : List ℕ) (q e x : ℕ) (h : q < 8 * n) (same-f : (z : ℕ) → (z ≡ q → ⊥) → f' z ≡ f z) (new-f : f' q ≡ e) (same-g : (z : ℕ) → (z ≡ q → ⊥) → g' z ≡ g z) (new-g : g' q ≡ x) where
  pub level_enter : set (set (level n f g r) (16 * (q / 8) + q % 8) e) (16 * (q / 8) + (8 + q % 8)) x ≡ level n f' g' r
  level_enter =
      ext_get_or 0 (set (set (level n f g r) p e) p' x) (level n f' g' r) (simp (length-set, length-set) (omega (arith, level_length r n f g, level_length r n f' g')))
      (λ y l. word y (eqb y p') refl (eqb y p) refl (ltb y (16 * n)) refl (ltb (y % 16) 8) refl)
    where
      p : ℕ
      p = 16 * (q / 8) + q % 8

      p' : ℕ
      p' = 16 * (q / 8) + (8 + q % 8)

      at_q : 8 * (q / 8) + q % 8 ≡ q
      at_q = omega arith

      word : (y : ℕ) (a : Bool) → eqb y p' ≡ a → (a' : Bool) → eqb y p ≡ a' → (c : Bool) → ltb y (16 * n) ≡ c → (d : Bool) → ltb (y % 16) 8 ≡ d → get_or (set (set (level n f g r) p e) p' x) y 0 ≡ get_or (level n f' g' r) y 0
      word y true a a' b c t d t' =
          let z : y ≡ p' = eqb-true y p' a in
          rw z (get_or-set_same (set (level n f g r) p e) p' x 0 (simp length-set (omega (arith, level_length r n f g))) ∙ sym (link_word r n (q / 8) (q % 8) f' g' (omega arith) (omega arith) ∙ rw at_q new-g))
      word y false a true b c t d t' =
          let z : y ≡ p = eqb-true y p b in
          rw z (get_or-set_other (set (level n f g r) p e) p' p x 0 (λ k. omega arith) ∙ get_or-set_same (level n f g r) p e 0 (omega (arith, level_length r n f g)) ∙ sym (end_word r n (q / 8) (q % 8) f' g' (omega arith) (omega arith) ∙ rw at_q new-f))
      word y false a false b true t true t' =
          let l = ltb-true y (16 * n) t in
          let l' = ltb-true (y % 16) 8 t' in
          let d = eqb-false y p b in
          get_or-set_other (set (level n f g r) p e) p' y x 0 (eqb-false y p' a) ∙ get_or-set_other (level n f g r) p y e 0 d
          ∙ level_end [] 0 n f g r y l l' ∙ sym (level_end [] 0 n f' g' r y l l' ∙ same-f (8 * (y / 16) + y % 16) (λ k. d (omega arith)))
      word y false a false b true t false t' =
          let l = ltb-true y (16 * n) t in
          let l' = ltb-false (y % 16) 8 t' in
          let d = eqb-false y p' a in
          get_or-set_other (set (level n f g r) p e) p' y x 0 d ∙ get_or-set_other (level n f g r) p y e 0 (eqb-false y p b)
          ∙ level_link [] 0 n f g r y l l' ∙ sym (level_link [] 0 n f' g' r y l l' ∙ same-g (8 * (y / 16) + (y % 16 - 8)) (λ k. d (omega arith)))
      word y false a false b false t d t' =
          let l = ltb-false y (16 * n) t in
          get_or-set_other (set (level n f g r) p e) p' y x 0 (eqb-false y p' a) ∙ get_or-set_other (level n f g r) p y e 0 (eqb-false y p b) ∙ level_behind [] 0 n f g r y l ∙ sym (level_behind [] 0 n f' g' r y l)

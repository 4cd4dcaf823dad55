-- Comparing words with the levels of a chain, place by place: what stands, and what cannot stand.
-- Assumes nothing.
use mathlib.Core.Path.{◌≡◌, refl, sym, ap, ◌∙◌}
use mathlib.Core.Bool.{Bool, true, false, not, cond, ◌&&◌, ◌||◌}
use mathlib.Core.List.{List}
use Prim.Native.Nat.{ℕ, zero, suc, ◌+◌, ◌-◌, ◌*◌, ◌/◌, ◌%◌, ◌≤◌, ◌<◌}
use native.Mathlib.Omega.{arith}
use lib.Dec.{ltb, eqb}
use lib.ListN.{length, get_or, drop}
use lib.Seq.{get_or-drop, drop-drop}
use borrow.Author.Tests.{eqb-true, eq-eqb, le-ltb, ltb-false}
use Rattle.std.specs.Bool.{MatchBool}
use Rattle.std.specs.List.{range_with_len, AllWithin, HoldsAt}
use Rattle.std.proofs.lemmas.List.FromFn.{length-range_with_len, get_or-range_with_len}
use Rattle.model.proofs.Tests.{by_test, never, and_left, and_right, and_both}
use Rattle.blocks.specs.Blocks.{top_end, depth, parts, blocks_up, level, links_to, lay}
use Rattle.blocks.specs.Written.{end_place, link_place, padded, Under}
use Rattle.levels.specs.Levels.{Answers, LinksStand, UpperStand, EndsStand}
use Rattle.blocks.proofs.Levels.{depth_step, end_word, link_word, lay_past}
use Rattle.blocks.proofs.Writing.{filled_done, last_is, size_parts, lay_next, Climbs, Upper, climbs_room, climbs_on, climbs_done}

-- what an answer says that was turned round
pub said_yes : (x : Bool) (p : Type 0) → not x ≡ false → Answers x p → p
said_yes true p t h = h
said_yes false p t h = never t

pub said_no : (x : Bool) (p : Type 0) → not x ≡ true → Answers x p → p → ⊥
said_no true p t h = never (sym t)
said_no false p t h = h

-- the words of a level that stands
module _ (w : List ℕ) (b n : ℕ) (f g : ℕ → ℕ) (r : List ℕ) (o : drop (16 * b) w ≡ level n f g r) (j : ℕ) (h : j < 8 * n) where
  pub stands_end : get_or w (end_place b j) 0 ≡ f j
  stands_end =
      let z : end_place b j ≡ 16 * b + (16 * (j / 8) + j % 8) = omega arith in
      let y : 8 * (j / 8) + j % 8 ≡ j = omega arith in
      rw z (sym (get_or-drop (16 * b) w (16 * (j / 8) + j % 8) 0)) ∙ ap (λ l. get_or l (16 * (j / 8) + j % 8) 0) o ∙ rw y at (end_word r n (j / 8) (j % 8) f g (omega arith) (omega arith))

  pub stands_link : get_or w (link_place b j) 0 ≡ g j
  stands_link =
      let z : link_place b j ≡ 16 * b + (16 * (j / 8) + (8 + j % 8)) = omega arith in
      let y : 8 * (j / 8) + j % 8 ≡ j = omega arith in
      rw z (sym (get_or-drop (16 * b) w (16 * (j / 8) + (8 + j % 8)) 0)) ∙ ap (λ l. get_or l (16 * (j / 8) + (8 + j % 8)) 0) o ∙ rw y at (link_word r n (j / 8) (j % 8) f g (omega arith) (omega arith))

-- A TEST at each place below n, and its answer: all are passed, or one is not
abbrev pub Tested : Bool → (ℕ → Bool) → ℕ → Type 0
Tested true t n = (k : ℕ) → k < n → t k ≡ true
Tested false t n = (k : ℕ) × (k < n) × (t k ≡ false)

at_place : (n k : ℕ) → k < n → get_or (range_with_len 0 n) k 0 ≡ k
at_place n k i = omega (arith, get_or-range_with_len 0 n k 0 i)

pub tested : (r : Bool) (t : ℕ → Bool) (n : ℕ) → MatchBool r (AllWithin (λ k. t k ≡ true) (range_with_len 0 n) 0 (length (range_with_len 0 n))) ((k : ℕ) × (k < length (range_with_len 0 n)) × HoldsAt (λ k. t k ≡ false) (range_with_len 0 n) k) → Tested r t n
tested true t n h = λ k i. rw (at_place n k i) at (h k 0 (omega arith) (omega (arith, length-range_with_len 0 n)))
tested false t n h =
    let i : h.0 < n = omega (arith, h.1, length-range_with_len 0 n) in
    (h.0, i, rw (at_place n h.0 i) at (h.2 0))

-- THE LEVEL ABOVE
module _ (w : List ℕ) (b n from m : ℕ) where
  -- what has to stand at place k of it, for the blocks that stand below
  abbrev pub Linking : ℕ → Bool
  Linking k = eqb (get_or w (end_place b k) 0) (cond (ltb k m) (get_or w (16 * (from + k) + 7) 0) top_end) && eqb (get_or w (link_place b k) 0) (links_to m from k)

  module _ (a : b + n ≤ from) where
    last_end : (f g : ℕ → ℕ) (s : List ℕ) (k : ℕ) → Under w from m f g s → cond (ltb k m) (get_or w (16 * (from + k) + 7) 0) top_end ≡ f (8 * k + 7)
    last_end f g s k u = last_is w w b n from m f g s k u (λ x h. refl) a (ltb k m) refl

    pub links_stand : (r : Bool) → 16 * (from + m) ≤ length w → Tested r Linking (8 * n) → LinksStand r w b n from m
    links_stand true fits t = λ f g s u.
        filled_done w b n (λ i. f (8 * i + 7)) (links_to m from) w (8 * n)
        (record {
          most = omega arith;
          long = refl;
          end = λ j h. eqb-true _ _ (and_left _ _ (t j h)) ∙ last_end f g s j u;
          link = λ j h. eqb-true _ _ (and_right (eqb (get_or w (end_place b j) 0) (cond (ltb j m) (get_or w (16 * (from + j) + 7) 0) top_end)) _ (t j h));
          apart = λ x h. refl;
        })
        (omega arith) (omega arith)
    links_stand false fits t = λ f g s u v.
        let k = t.0 in
        let x = stands_end w b n (λ i. f (8 * i + 7)) (links_to m from) _ v.is k t.1 ∙ sym (last_end f g s k u) in
        let y = stands_link w b n (λ i. f (8 * i + 7)) (links_to m from) _ v.is k t.1 in
        never (sym (and_both _ _ (eq-eqb _ _ x) (eq-eqb _ _ y)) ∙ t.2)

-- the lowest of all levels stands where they stand
pub lay_lower : (d a m : ℕ) (f g : ℕ → ℕ) (r : List ℕ) → drop (16 * (blocks_up d m - parts m)) (lay d a m f g r) ≡ level (parts m) f g r
unfolding lay blocks_up
lay_lower zero a m f g r = let z : 16 * (parts m - parts m) ≡ 0 = omega arith in rw z
lay_lower (suc d) a m f g r =
    let z : blocks_up d (parts m) + parts m - parts m ≡ blocks_up d (parts m) = omega arith in
    rw z (lay_past d a (parts m) (λ i. f (8 * i + 7)) (links_to (parts m) (a + blocks_up d (parts m))) (level (parts m) f g r))

-- ALL LEVELS ABOVE
module _ (w : List ℕ) (a b k at n : ℕ) (o : Climbs w w a b k at n) where
  pub mounts_done : n ≤ 1 → UpperStand true w a b k
  mounts_done h f g s u = (climbs_done w a b k w at n o h f g s u).is

  module _ (at' n' : ℕ) (h : 1 < n) (q : n' ≡ parts n) (z : at' + n' ≡ at) where
    pub mounts_on : (x : Bool) → not x ≡ false → LinksStand x w at' n' at n → Climbs w w a b k at' n'
    mounts_on x t p = climbs_on w a b k w at n o w at' n' h q z refl (λ f g s u. said_yes x _ t (p f g s u))

    pub mounts_not : (x : Bool) → not x ≡ true → LinksStand x w at' n' at n → UpperStand false w a b k
    mounts_not r e p f g s u v = go (o.over f g s u)
      where
        go : Upper w w a k at o.left f g s → ⊥
        go t =
            let d = depth n in
            let f'' : ℕ → ℕ = λ i. t.f' (8 * i + 7) in
            let room = climbs_room w a b k w at n o h in
            let y : 16 * at' ≡ 16 * a + 16 * (blocks_up d n - parts n) = omega (arith, room, size_parts d n) in
            let here : Under w at n t.f' t.g' t.r' = rw o.size t.here in
            let x : drop (16 * a) w ≡ lay d a n f'' (links_to n (a + blocks_up d n)) (level n t.f' t.g' t.r') = v ∙ t.same ∙ rw (depth_step o.left (omega (arith, o.size)), lay_next, ← o.size) in
            let l : drop (16 * at') w ≡ level n' f'' (links_to n at) (drop (16 * (at' + n')) w) =
            rw (y, ← drop-drop (16 * (blocks_up d n - parts n)) (16 * a) w, x, z, here.is, q, room) (lay_lower d a n f'' (links_to n (a + blocks_up d n)) (level n t.f' t.g' t.r')) in
            said_no r _ e (p t.f' t.g' t.r' here) (record { long = refl; before = refl; is = l })

-- THE ENDS, place by place
module _ (w : List ℕ) (b n : ℕ) (es : List ℕ) (m : ℕ) where
  abbrev pub Ending : ℕ → Bool
  Ending k = eqb (get_or w (end_place b k) 0) (padded es m k) && (ltb k m || eqb (get_or w (link_place b k) 0) 0)

  pub ends_stand : (r : Bool) → Tested r Ending (8 * n) → Answers r (EndsStand w b n es m)
  ends_stand true t = record {
    end = λ j h. eqb-true _ _ (and_left _ _ (t j h));
    none = λ j h l. eqb-true _ _ (rw (le-ltb j m l) at (and_right (eqb (get_or w (end_place b j) 0) (padded es m j)) _ (t j h)));
  }
  ends_stand false t = λ v.
      let k = t.0 in
      let p = eq-eqb _ _ (v.end k t.1) in
      never (sym (and_both _ _ p (by_test (ltb k m) (λ x. rw x) (λ x. rw x (eq-eqb _ _ (v.none k t.1 (ltb-false k m x)))))) ∙ t.2)

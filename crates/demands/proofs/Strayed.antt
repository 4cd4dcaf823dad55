-- When a lookup over an image answers 9, over any words: exactly for the reasons of specs/Blocks.antt. And it reads at most 8 blocks in each field.
-- Assumes nothing.
use mathlib.Core.Path.{◌≡◌, refl, sym, ap, ◌∙◌}
use mathlib.Core.Logic.{◌⊎◌, inl, inr}
use mathlib.Core.List.{List, [], ◌∷◌}
use Prim.Native.Nat.{ℕ, zero, suc, ◌+◌, ◌-◌, ◌*◌, ◌≤◌, ◌<◌}
use native.Mathlib.Omega.{arith}
use lib.Dec.{ltb, leb, eqb}
use lib.ListN.{length, get_or, drop, length-drop}
use lib.Seq.{get_or-drop}
use borrow.Author.Tests.{ltb-true, ltb-false, leb-true, leb-false, eqb-true, eqb-false}
use Rattle.model.specs.Lists.{below, up_to}
use Rattle.model.specs.Table.{Kind, Shaped, front}
use Rattle.model.proofs.Tests.{by_test}
use Rattle.model.proofs.Keep.{length_keep}
use Rattle.model.proofs.UpTo.{length_up_to}
use Rattle.lookup.specs.declared.Found.{Found}
use Rattle.lookup.specs.declared.Walked.{Walked}
use Rattle.std.specs.Prelude.{Option, None}
use Rattle.lookup.specs.Walk.{led_to, on_from, through as walk_on, refused, begins, found_in}
use Rattle.image.specs.Walk.{rank, rank_in, link_in, seek_blocks, through_blocks, walk_blocks}
use Rattle.image.specs.Image.{image_in}
use Rattle.image.proofs.Steps.{seek_out, seek_spent, seek_all, seek_down, seek_next, few_words, no_kind, front_there_lem}
use Rattle.demands.specs.Links.{NoRow}
use Rattle.demands.specs.Blocks.{block_end, block_link, ends_below, link_for, Outside, Readable, down_from, LeadsOn, BlocksLead, BlocksEnd, outside, all_below, spent, BlocksAstray, here, further, rowless, ImageUndecided}
use Rattle.demands.proofs.Counted.{keep_below}
use Rattle.demands.proofs.Lost.{no_row, rowless_9}

-- the ends below a value, counted one by one
rank_below : (v n : ℕ) (f g : ℕ → ℕ) → ((i : ℕ) → f i ≡ g i) → rank n v f ≡ below v (up_to n g)
unfolding up_to
rank_below v zero f g e = refl
rank_below v (suc n) f g e = by_test (ltb (g 0) v)
    (λ q. rw (e 0, q) (omega (arith, rank_below v n (λ i. f (suc i)) (λ i. g (suc i)) (λ i. e (suc i)))))
    (λ q. rw (e 0, q) (omega (arith, rank_below v n (λ i. f (suc i)) (λ i. g (suc i)) (λ i. e (suc i)))))

module _ (k : Kind) (ws : List ℕ) (enough : front k ≤ length ws) where
  abbrev P : List ℕ
  P = drop (front k) ws

  long : length P ≡ length ws - front k
  long = length-drop (front k) ws

  -- THE WORDS OF A BLOCK
  rank_is : (v b : ℕ) → ends_below k ws v b ≡ rank_in P b v
  unfolding rank_in
  rank_is v b = sym (rank_below v 8 (λ j. get_or P (16 * b + j) 0) (block_end k ws b) (λ j. let z : front k + (16 * b + j) ≡ front k + 16 * b + j = omega arith in get_or-drop (front k) ws (16 * b + j) 0 ∙ ap (λ i. get_or ws i 0) z))

  link_is : (b j : ℕ) → link_in P b j ≡ block_link k ws b j
  link_is b j = let z : front k + (16 * b + (8 + j)) ≡ front k + 16 * b + 8 + j = omega arith in get_or-drop (front k) ws (16 * b + (8 + j)) 0 ∙ ap (λ i. get_or ws i 0) z

  at_most_8 : (v b : ℕ) → ends_below k ws v b ≤ 8
  at_most_8 v b = omega (arith, keep_below v (up_to 8 (block_end k ws b)), length_keep (λ e. ltb e v) (up_to 8 (block_end k ws b)), length_up_to 8 (block_end k ws b))

  -- ONE FIELD
  module _ (v : ℕ) where
    goes_down : (n b r : ℕ) → Readable k ws v b → down_from ≤ link_for k ws v b → seek_blocks P v (suc n) b r ≡ led_to (link_for k ws v b - down_from) (r + 1)
    goes_down n b r h d =
        let q = link_is b (ends_below k ws v b) in
        seek_down P v (suc n) n b r (ends_below k ws v b) refl (omega (arith, h.inside, long)) (rank_is v b) h.reached (rw q d) ∙ ap (λ l. led_to (l - down_from) (r + 1)) q

    goes_next : (n b r : ℕ) → Readable k ws v b → link_for k ws v b < down_from → seek_blocks P v (suc n) b r ≡ seek_blocks P v n (link_for k ws v b) (r + 1)
    goes_next n b r h d =
        let q = link_is b (ends_below k ws v b) in
        seek_next P v (suc n) n b r (ends_below k ws v b) refl (omega (arith, h.inside, long)) (rank_is v b) h.reached (rw q d) ∙ ap (λ l. seek_blocks P v n l (r + 1)) q

    out_lost : (n b r : ℕ) → Outside k ws b → seek_blocks P v n b r ≡ None
    out_lost n b r o = seek_out P v n b r (omega (arith, long))

    below_lost : (n b r : ℕ) → ends_below k ws v b ≡ 8 → seek_blocks P v n b r ≡ None
    below_lost zero b r e = seek_spent P v 0 b r refl
    below_lost (suc n) b r e = by_test (leb (front k + 16 * b + 16) (length ws))
        (λ t. seek_all P v (suc n) n b r (ends_below k ws v b) refl (omega (arith, leb-true (front k + 16 * b + 16) (length ws) t, long)) (rank_is v b) (omega arith))
        (λ t. out_lost (suc n) b r (leb-false (front k + 16 * b + 16) (length ws) t))

    -- what the walk of a field tells, where n blocks may be read from block b on and r were read before
    data Sought (n b r : ℕ) : Option Walked → Type 0 where
      none_left : (m : ℕ) → LeadsOn k ws v n b m → Sought n b r None
      left_words : (i m : ℕ) → i < n → LeadsOn k ws v i b m → Outside k ws m → Sought n b r None
      all_passed : (i m : ℕ) → i < n → LeadsOn k ws v i b m → ends_below k ws v m ≡ 8 → Sought n b r None
      led_down : (i m x : ℕ) → i < n → LeadsOn k ws v i b m → Readable k ws v m → down_from ≤ link_for k ws v m → x ≡ r + i + 1 → Sought n b r (led_to (link_for k ws v m - down_from) x)

    one_more : {n b r : ℕ} {w : Option Walked} → Readable k ws v b → link_for k ws v b < down_from → Sought n (link_for k ws v b) (r + 1) w → Sought (suc n) b r w
    one_more h e (none_left m o) = none_left m (h, e, o)
    one_more h e (left_words i m l o a) = left_words (suc i) m (omega arith) (h, e, o) a
    one_more h e (all_passed i m l o a) = all_passed (suc i) m (omega arith) (h, e, o) a
    one_more h e (led_down i m x l o a d q) = led_down (suc i) m x (omega arith) (h, e, o) a d (omega arith)

    sought : (n b r : ℕ) → Sought n b r (seek_blocks P v n b r)
    sought zero b r = rw (seek_spent P v 0 b r refl) (none_left b refl)
    sought (suc n) b r = by_test (leb (front k + 16 * b + 16) (length ws))
        (λ a. by_test (ltb (ends_below k ws v b) 8)
        (λ c. let h : Readable k ws v b = record { inside = leb-true _ _ a; reached = ltb-true _ 8 c } in by_test (ltb (link_for k ws v b) down_from)
        (λ t. let e = ltb-true _ down_from t in rw (goes_next n b r h e) (one_more h e (sought n (link_for k ws v b) (r + 1))))
        (λ t. let e = ltb-false _ down_from t in rw (goes_down n b r h e) (led_down 0 b (r + 1) (omega arith) refl h e (omega arith))))
        (λ c. let e : ends_below k ws v b ≡ 8 = omega (arith, ltb-false (ends_below k ws v b) 8 c, at_most_8 v b) in rw (below_lost (suc n) b r e) (all_passed 0 b (omega arith) refl e)))
        (λ a. let o : Outside k ws b = leb-false _ _ a in rw (out_lost (suc n) b r o) (left_words 0 b (omega arith) refl o))

    -- and back: blocks that lead on are passed
    passes_by : (i n b m r : ℕ) → LeadsOn k ws v i b m → seek_blocks P v (i + n) b r ≡ seek_blocks P v n m (r + i)
    passes_by zero n b m r o = let z : r + 0 ≡ r = omega arith in let y : 0 + n ≡ n = omega arith in rw (o, z, y)
    passes_by (suc i) n b m r o =
        let y : suc i + n ≡ suc (i + n) = omega arith in
        let z : r + 1 + i ≡ r + suc i = omega arith in
        ap (λ a. seek_blocks P v a b r) y ∙ goes_next (i + n) b r o.0 o.1 ∙ passes_by i n (link_for k ws v b) m (r + 1) o.2 ∙ ap (seek_blocks P v n m) z

    from_start : (i b m : ℕ) → i ≤ 8 → LeadsOn k ws v i b m → seek_blocks P v 8 b 0 ≡ seek_blocks P v (8 - i) m i
    from_start i b m l o =
        let y : 8 ≡ i + (8 - i) = omega arith in
        let z : 0 + i ≡ i = omega arith in
        ap (λ n. seek_blocks P v n b 0) y ∙ passes_by i (8 - i) b m 0 o ∙ ap (seek_blocks P v (8 - i) m) z

    nowhere_lost : (b : ℕ) → BlocksEnd k ws v b → seek_blocks P v 8 b 0 ≡ None
    nowhere_lost b (outside i m l o a) = from_start i b m (omega arith) o ∙ out_lost (8 - i) m i a
    nowhere_lost b (all_below i m l o a) = from_start i b m (omega arith) o ∙ below_lost (8 - i) m i a
    nowhere_lost b (spent m o) = from_start 8 b m (omega arith) o ∙ seek_spent P v 0 m 8 refl

    down_at_lem : (b d : ℕ) (l : BlocksLead k ws v b d) → seek_blocks P v 8 b 0 ≡ led_to d (l.passed + 1)
    down_at_lem b d l =
        let i = l.passed in
        let y : 8 - i ≡ suc (7 - i) = omega (arith, l.few) in
        let z : link_for k ws v l.block - down_from ≡ d = omega (arith, l.leads) in
        from_start i b l.block (omega (arith, l.few)) l.before
        ∙ ap (λ n. seek_blocks P v n l.block i) y
        ∙ goes_down (7 - i) l.block i l.readable (omega (arith, l.leads))
        ∙ ap (λ a. led_to a (i + 1)) z

  -- ALL FIELDS: the walk is lost, or comes to a row after so many blocks; it is astray where it is lost, or where that is no row
  data Through (vs : List ℕ) (b r : ℕ) : Option Walked → Type 0 where
    lost : BlocksAstray k ws vs b → Through vs b r None
    come : (p n : ℕ) → n ≤ r + length vs * 8 → (NoRow k ws p → BlocksAstray k ws vs b) → Through vs b r (led_to p n)

  through_here : (v : ℕ) (vs : List ℕ) (b r : ℕ) (w : Option Walked) → Sought v 8 b 0 w → ((d n : ℕ) → Through vs d (r + n) (through_blocks P vs d (r + n))) → Through (v ∷ vs) b r (on_from (λ d n. through_blocks P vs d (r + n)) w)
  through_here v vs b r w (none_left m o) f = lost (here (spent m o))
  through_here v vs b r w (left_words i m l o a) f = lost (here (outside i m l o a))
  through_here v vs b r w (all_passed i m l o a) f = lost (here (all_below i m l o a))
  through_here v vs b r w (led_down i m x l o a e q) f = deeper (through_blocks P vs D (r + x)) (f D x)
    where
      D : ℕ
      D = link_for k ws v m - down_from

      down : BlocksLead k ws v b (link_for k ws v m - down_from)
      down = record { passed = i; block = m; few = l; before = o; readable = a; leads = omega arith }

      deeper : (w : Option Walked) → Through vs (link_for k ws v m - down_from) (r + x) w → Through (v ∷ vs) b r w
      deeper w (lost s) = lost (further down s)
      deeper w (come p n h s) = come p n (omega arith) (λ o. further down (s o))

  through : (vs : List ℕ) (b r : ℕ) → Through vs b r (through_blocks P vs b r)
  unfolding walk_on
  through [] b r = come b r (omega arith) rowless
  through (v ∷ vs) b r = through_here v vs b r (seek_blocks P v 8 b 0) (sought v 8 b 0) (λ d n. through vs d (r + n))

  astray_9 : Shaped k → (vs : List ℕ) (b r : ℕ) → BlocksAstray k ws vs b → found_in k ws (through_blocks P vs b r) ≡ refused 9
  unfolding walk_on
  astray_9 s (v ∷ vs) b r (here l) = rw (nowhere_lost v b l)
  astray_9 s (v ∷ vs) b r (further {d = d} l a) = rw (down_at_lem v b d l) (astray_9 s vs d (r + (l.passed + 1)) a)
  astray_9 s [] b r (rowless o) = rowless_9 k ws s b o r

-- THE ANSWER of a lookup: 9 for one of the reasons, or 0 with at most 8 blocks in each field
module _ (k : Kind) (s : Shaped k) (ws vs : List ℕ) where
  abbrev pub DoneIn : Found → Type 0
  DoneIn f = (f.answer ≡ 0) × (f.reads ≤ length vs * 8)

  come_to : (l : front k ≤ length ws) (w : Option Walked) → Through k ws l vs 0 0 w → ((found_in k ws w ≡ refused 9) × ImageUndecided k ws vs) ⊎ DoneIn (found_in k ws w)
  come_to l w (lost a) = inl (refl, inr (inr a))
  come_to l w (come p n h f) = by_test (begins k (get_or ws 1 0) p)
      (λ t. inr (rw t (refl, omega arith)))
      (λ t. inl (rw t, inr (inr (f (no_row k ws s p t)))))

  pub image_nine_or_done : ((image_in k ws vs ≡ refused 9) × ImageUndecided k ws vs) ⊎ DoneIn (image_in k ws vs)
  unfolding walk_blocks
  image_nine_or_done = by_test (eqb (get_or ws 2 0) k.mark)
      (λ m. by_test (leb (front k) (length ws))
      (λ e. let l = leb-true (front k) (length ws) e in rw (← front_there_lem k ws vs (eqb-true _ _ m) l) (come_to l (walk_blocks (drop (front k) ws) vs) (through k ws l vs 0 0)))
      (λ e. let l = leb-false (front k) (length ws) e in inl (sym (few_words k ws vs l), inl l)))
      (λ m. let n = eqb-false _ _ m in inl (sym (no_kind k ws vs n), inr (inl n)))

  pub image_undecided_9 : ImageUndecided k ws vs → image_in k ws vs ≡ refused 9
  unfolding walk_blocks
  image_undecided_9 (inl n) = sym (few_words k ws vs n)
  image_undecided_9 (inr (inl n)) = sym (no_kind k ws vs n)
  image_undecided_9 (inr (inr a)) = by_test (eqb (get_or ws 2 0) k.mark)
      (λ m. by_test (leb (front k) (length ws))
      (λ e. let l = leb-true (front k) (length ws) e in sym (front_there_lem k ws vs (eqb-true _ _ m) l) ∙ astray_9 k ws l s vs 0 0 a)
      (λ e. sym (few_words k ws vs (leb-false (front k) (length ws) e))))
      (λ m. sym (no_kind k ws vs (eqb-false _ _ m)))

-- When a lookup answers 9, over any words: exactly for the reasons of specs/Links.antt. And it reads at most c cells in each field.
-- Assumes nothing.
use mathlib.Core.Path.{◌≡◌, refl, sym, ap, ◌∙◌}
use mathlib.Core.Logic.{◌⊎◌, inl, inr}
use mathlib.Core.Bool.{true, false}
use mathlib.Core.List.{List, [], ◌∷◌}
use Prim.Native.Nat.{ℕ, zero, suc, ◌+◌, ◌-◌, ◌*◌, ◌/◌, ◌%◌, ◌≤◌, ◌<◌}
use native.Mathlib.Omega.{arith}
use native.Mathlib.Nat.{add-zero, div-add-mod'}
use lib.Dec.{ltb, leb, eqb}
use lib.ListN.{length, get_or, drop}
use lib.Seq.{get_or-take, get_or-drop}
use borrow.Author.Tests.{ltb-true, ltb-false, leb-true, eqb-true, eqb-false}
use Rattle.model.specs.Table.{Kind, Shaped, row_words, front}
use Rattle.model.proofs.Tests.{by_test, never, and_left, and_right}
use Rattle.model.proofs.Grid.{row_ends}
use Rattle.layout.specs.Store.{cells_in, room_for}
use Rattle.lookup.specs.declared.Found.{Found}
use Rattle.lookup.specs.declared.Walked.{Walked}
use Rattle.std.specs.Prelude.{Option, None}
use Rattle.lookup.specs.Walk.{led_to, seek_of, on_from, through as walk_on, through_of, walk_of, refused, part_in, begins, found_in, lookup_in}
use Rattle.lookup.proofs.Steps.{seek_lost, seek_here, seek_next, seek_spent, no_kind}
use Rattle.lookup.proofs.Tree.{begins_row}
use Rattle.demands.specs.Links.{walk_link, end_at, next_at, down_at, EndsBelow, LeadsDown, LeadsNowhere, outside, spent, NoRow, Astray, here, below, rowless, Undecided}
use Rattle.demands.proofs.Room.{no_room, room_there}
use Rattle.demands.proofs.Looked.{roomless_9, walk_says}

module _ (k : Kind) (ws : List ℕ) where
  abbrev C : ℕ
  C = cells_in ws

  abbrev P : List ℕ
  P = part_in k ws

  -- THE WORDS OF A CELL, and the cell where the walk begins
  cell_at : (j f : ℕ) → j < C → f < 8 → get_or P (2 + 8 * j + f) 0 ≡ get_or ws (front k + 8 * j + f) 0
  cell_at j f h l =
      let L = k.head + row_words k in
      let z : L + (2 + 8 * j + f) ≡ front k + 8 * j + f = omega arith in
      get_or-take (2 + 8 * C) (drop L ws) (2 + 8 * j + f) 0 (omega arith) ∙ get_or-drop L ws (2 + 8 * j + f) 0 ∙ ap (λ i. get_or ws i 0) z

  end_at_lem : (j : ℕ) → j < C → get_or P (2 + 8 * j) 0 ≡ end_at k ws j
  end_at_lem j h = simp add-zero at (cell_at j 0 h (omega arith))

  begins_at : get_or P 1 0 ≡ walk_link k ws
  begins_at = get_or-take (2 + 8 * C) (drop (k.head + row_words k) ws) 1 0 (omega arith) ∙ get_or-drop (k.head + row_words k) ws 1 0

  -- ONE FIELD
  module _ (v : ℕ) where
    goes_down : (n j r : ℕ) → 0 < n → j < C → v ≤ end_at k ws j → seek_of P C v n j r ≡ led_to (down_at k ws j) (r + 1)
    goes_down n j r p h e = seek_here P C v n j r p h (rw (end_at_lem j h) e) ∙ ap (λ d. led_to d (r + 1)) (cell_at j 2 h (omega arith))

    goes_next : (n j r : ℕ) → j < C → end_at k ws j < v → seek_of P C v (suc n) j r ≡ seek_of P C v n (next_at k ws j) (r + 1)
    goes_next n j r h e = seek_next P C v (suc n) n j r refl h (rw (end_at_lem j h) e) ∙ ap (λ d. seek_of P C v n d (r + 1)) (cell_at j 1 h (omega arith))

    -- what the walk of a field tells, where n cells may be read from cell j on and r were read before
    data Sought (n j r : ℕ) : Option Walked → Type 0 where
      none_left : (m : ℕ) → EndsBelow k ws v n j m → Sought n j r None
      left_cells : (i m : ℕ) → i < n → EndsBelow k ws v i j m → C ≤ m → Sought n j r None
      led_down : (i m x : ℕ) → i < n → EndsBelow k ws v i j m → m < C → v ≤ end_at k ws m → x ≡ r + i + 1 → Sought n j r (led_to (down_at k ws m) x)

    one_more : {n j r : ℕ} {w : Option Walked} → j < C → end_at k ws j < v → Sought n (next_at k ws j) (r + 1) w → Sought (suc n) j r w
    one_more h e (none_left m b) = none_left m (h, e, b)
    one_more h e (left_cells i m l b o) = left_cells (suc i) m (omega arith) (h, e, b) o
    one_more h e (led_down i m x l b a d q) = led_down (suc i) m x (omega arith) (h, e, b) a d (omega arith)

    sought : (n j r : ℕ) → Sought n j r (seek_of P C v n j r)
    unfolding seek_of
    sought zero j r = none_left j refl
    sought (suc n) j r = by_test (ltb j C)
        (λ a. let h = ltb-true j C a in by_test (ltb (end_at k ws j) v)
        (λ b. let e = ltb-true (end_at k ws j) v b in rw (goes_next n j r h e) (one_more h e (sought n (next_at k ws j) (r + 1))))
        (λ b. let e = ltb-false (end_at k ws j) v b in rw (goes_down (suc n) j r (omega arith) h e) (led_down 0 j (r + 1) (omega arith) refl h e (omega arith))))
        (λ a. let h = ltb-false j C a in rw (seek_lost P C v (suc n) j r h) (left_cells 0 j (omega arith) refl h))

    -- and back: cells with ends below the value are passed
    passes_by : (i n j m r : ℕ) → EndsBelow k ws v i j m → seek_of P C v (i + n) j r ≡ seek_of P C v n m (r + i)
    passes_by zero n j m r b = let z : r + 0 ≡ r = omega arith in let y : 0 + n ≡ n = omega arith in rw (b, z, y)
    passes_by (suc i) n j m r b =
        let y : suc i + n ≡ suc (i + n) = omega arith in
        let z : r + 1 + i ≡ r + suc i = omega arith in
        ap (λ a. seek_of P C v a j r) y ∙ goes_next (i + n) j r b.0 b.1 ∙ passes_by i n (next_at k ws j) m (r + 1) b.2 ∙ ap (seek_of P C v n m) z

    from_start : (i j m : ℕ) → i ≤ C → EndsBelow k ws v i j m → seek_of P C v C j 0 ≡ seek_of P C v (C - i) m i
    from_start i j m l b =
        let y : C ≡ i + (C - i) = omega arith in
        let z : 0 + i ≡ i = omega arith in
        ap (λ n. seek_of P C v n j 0) y ∙ passes_by i (C - i) j m 0 b ∙ ap (seek_of P C v (C - i) m) z

    nowhere_lost : (j : ℕ) → LeadsNowhere k ws v j → seek_of P C v C j 0 ≡ None
    nowhere_lost j (outside i m l b o) = from_start i j m (omega arith) b ∙ seek_lost P C v (C - i) m i o
    nowhere_lost j (spent m b) = from_start C j m (omega arith) b ∙ seek_spent P C v (C - C) m C (omega arith)

    down_at_lem : (j d : ℕ) (l : LeadsDown k ws v j d) → seek_of P C v C j 0 ≡ led_to d (l.passed + 1)
    down_at_lem j d l =
        let i = l.passed in
        from_start i j l.cell (omega (arith, l.few)) l.before
        ∙ goes_down (C - i) l.cell i (omega (arith, l.few)) l.inside l.reached
        ∙ ap (λ a. led_to a (i + 1)) (sym l.leads)

  -- ALL FIELDS: the walk is lost, or comes to a row after so many reads; it is astray where it is lost, or where that is no row
  data Through (vs : List ℕ) (j r : ℕ) : Option Walked → Type 0 where
    lost : Astray k ws vs j → Through vs j r None
    come : (p n : ℕ) → n ≤ r + length vs * C → (NoRow k ws p → Astray k ws vs j) → Through vs j r (led_to p n)

  through_here : (v : ℕ) (vs : List ℕ) (j r : ℕ) (w : Option Walked) → Sought v C j 0 w → ((d n : ℕ) → Through vs d (r + n) (through_of P C vs d (r + n))) → Through (v ∷ vs) j r (on_from (λ d n. through_of P C vs d (r + n)) w)
  through_here v vs j r w (none_left m b) f = lost (here (spent m b))
  through_here v vs j r w (left_cells i m l b o) f = lost (here (outside i m l b o))
  through_here v vs j r w (led_down i m x l b a e q) f = further (through_of P C vs (down_at k ws m) (r + x)) (f (down_at k ws m) x)
    where
      down : LeadsDown k ws v j (down_at k ws m)
      down = record { passed = i; cell = m; few = l; before = b; inside = a; reached = e; leads = refl }

      further : (w : Option Walked) → Through vs (down_at k ws m) (r + x) w → Through (v ∷ vs) j r w
      further w (lost s) = lost (below down s)
      further w (come p n h s) = come p n (omega arith) (λ o. below down (s o))

  through : (vs : List ℕ) (j r : ℕ) → Through vs j r (through_of P C vs j r)
  unfolding walk_on
  through [] j r = come j r (omega arith) rowless
  through (v ∷ vs) j r = through_here v vs j r (seek_of P C v C j 0) (sought v C j 0) (λ d n. through vs d (r + n))

  -- A ROW of the table begins at a word, or none
  module _ (s : Shaped k) (p : ℕ) where
    row_there : begins k (get_or ws 1 0) p ≡ true → NoRow k ws p → ⊥
    row_there h n =
        let w = k.width in
        let m = get_or ws 1 0 in
        let b = and_right (leb p (w * k.most)) _ h in
        let q : p ≡ w * (p / w) = omega (arith, div-add-mod' p w, eqb-true (p % w) 0 (and_right (leb p (w * m)) _ b)) in
        n (p / w) (at_most (p / w) m (omega (arith, leb-true p (w * m) (and_left _ _ b)))) (at_most (p / w) k.most (omega (arith, leb-true p (w * k.most) (and_left _ _ h)))) q
      where
        at_most : (i n : ℕ) → k.width * i ≤ k.width * n → i ≤ n
        at_most i n h = by_test (ltb n i) (λ a. absurd (omega (arith, row_ends k.width n i (ltb-true n i a), s.ends))) (λ a. ltb-false n i a)

    pub no_row : begins k (get_or ws 1 0) p ≡ false → NoRow k ws p
    no_row h i a b q = never (sym (begins_row k s (get_or ws 1 0) i b a) ∙ ap (begins k (get_or ws 1 0)) (sym q) ∙ h)

    pub rowless_9 : NoRow k ws p → (r : ℕ) → found_in k ws (led_to p r) ≡ refused 9
    rowless_9 o r = by_test (begins k (get_or ws 1 0) p) (λ t. absurd (row_there t o)) (λ t. rw t)

  astray_9 : Shaped k → (vs : List ℕ) (j r : ℕ) → Astray k ws vs j → found_in k ws (through_of P C vs j r) ≡ refused 9
  unfolding walk_on
  astray_9 s (v ∷ vs) j r (here l) = rw (nowhere_lost v j l)
  astray_9 s (v ∷ vs) j r (below {d = d} l a) = rw (down_at_lem v j d l) (astray_9 s vs d (r + (l.passed + 1)) a)
  astray_9 s [] j r (rowless o) = rowless_9 s j o r

-- THE ANSWER of a lookup: 9 for one of the reasons, or 0 with at most c reads in each field
module _ (k : Kind) (s : Shaped k) (ws vs : List ℕ) where
  abbrev pub DoneWithin : Found → Type 0
  DoneWithin f = (f.answer ≡ 0) × (f.reads ≤ length vs * cells_in ws)

  walked : Through k ws vs (walk_link k ws) 0 (walk_of (part_in k ws) (cells_in ws) vs)
  unfolding walk_of
  walked = rw (← begins_at k ws) (through k ws vs (get_or (part_in k ws) 1 0) 0)

  walk_astray : Astray k ws vs (walk_link k ws) → found_in k ws (walk_of (part_in k ws) (cells_in ws) vs) ≡ refused 9
  unfolding walk_of
  walk_astray a = astray_9 k ws s vs (get_or (part_in k ws) 1 0) 0 (rw (begins_at k ws) a)

  come_to : (w : Option Walked) → Through k ws vs (walk_link k ws) 0 w → ((found_in k ws w ≡ refused 9) × Undecided k ws vs) ⊎ DoneWithin (found_in k ws w)
  come_to w (lost a) = inl (refl, inr (inr a))
  come_to w (come p n h f) = by_test (begins k (get_or ws 1 0) p)
      (λ t. inr (rw t (refl, omega arith)))
      (λ t. inl (rw t, inr (inr (f (no_row k ws s p t)))))

  pub nine_or_done : ((lookup_in k ws vs ≡ refused 9) × Undecided k ws vs) ⊎ DoneWithin (lookup_in k ws vs)
  nine_or_done = by_test (eqb (get_or ws 2 0) k.mark)
      (λ m. by_test (room_for k (cells_in ws) ws)
      (λ e. rw (walk_says k ws vs (eqb-true _ _ m) e) (come_to (walk_of (part_in k ws) (cells_in ws) vs) walked))
      (λ e. inl (roomless_9 k ws vs e, inl (no_room k (cells_in ws) ws e))))
      (λ m. let n = eqb-false _ _ m in inl (sym (no_kind k ws vs n), inr (inl n)))

  pub undecided_9 : Undecided k ws vs → lookup_in k ws vs ≡ refused 9
  undecided_9 (inl n) = by_test (room_for k (cells_in ws) ws) (λ e. absurd (room_there k (cells_in ws) ws e n)) (roomless_9 k ws vs)
  undecided_9 (inr (inl n)) = sym (no_kind k ws vs n)
  undecided_9 (inr (inr a)) = by_test (eqb (get_or ws 2 0) k.mark)
      (λ m. by_test (room_for k (cells_in ws) ws) (λ e. walk_says k ws vs (eqb-true _ _ m) e ∙ walk_astray a) (roomless_9 k ws vs))
      (λ m. sym (no_kind k ws vs (eqb-false _ _ m)))

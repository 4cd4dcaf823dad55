-- Building a chain: once its run is laid, below each of its cells, from the highest end down, the tree that belongs there.
-- Assumes nothing.
use mathlib.Core.Path.{◌≡◌, refl, sym, ap, ◌∙◌}
use mathlib.Core.List.{List, [], ◌∷◌, ◌++◌, reverse, reverse_aux, reverse_aux-reverse_aux-nil}
use Prim.Native.Nat.{ℕ, ◌+◌, ◌-◌, ◌*◌, ◌≤◌, ◌<◌}
use native.Mathlib.Omega.{arith}
use lib.ListN.{length, take, drop, length-reverse}
use Rattle.model.specs.Lists.{keep}
use Rattle.model.specs.Rules.{covers, ends, Tree, chain}
use Rattle.rows.specs.Rows.{field_at, first_of, tree_at, under_at, Flat}
use Rattle.rows.proofs.Sets.{tree_none, tree_step}
use Rattle.cells.specs.Text.{at, cell_word, only_down, frees, Run, len, low, row, width, under, first, marks, belows, tree_text}
use Rattle.cells.specs.declared.Below.{Below}
use Rattle.cells.specs.States.{first_free, hung, State, Spare, plain, Rows, Lays, TreeHeld, Builds, Hangs, Narrows, Built}
use Rattle.cells.proofs.Text.{marks_len}
use Rattle.cells.proofs.State.{st_head, st_length, st_put, both_past, both_back}
use Rattle.cells.proofs.Lent.{lent}
use borrow.Rule.Slice.PartMut.{mid_of, put_mid, take_put}
use Rattle.cells.proofs.Middle.{Rest, done, next, join, count, row_put, Mid, mid_wide, run_word}

-- the rest of a run that has nothing below it, from its highest end on
unfoldable pub bare : List ℕ → Rest
bare [] = done
bare (e ∷ es) = next e (only_down 0) (bare es)

count_bare : (es : List ℕ) → count (bare es) ≡ length es
unfolding bare count
count_bare [] = refl
count_bare (e ∷ es) = omega (arith, count_bare es)

join_bare : (up ds : List ℕ) → join (plain ds) (bare up) ≡ plain (reverse_aux up ds)
unfolding join bare plain
join_bare [] ds = refl
join_bare (e ∷ up) ds = join_bare up (e ∷ ds)

len_plain : (es : List ℕ) → len (plain es) ≡ length es
unfolding plain len
len_plain [] = refl
len_plain (e ∷ es) = omega (arith, len_plain es)

width_chain : (u : ℕ → Tree ℕ) (es : List ℕ) → width (chain u es) ≡ length es
unfolding width
width_chain u [] = refl
width_chain u (e ∷ es) = omega (arith, width_chain u es)

under_more : (u : ℕ → Tree ℕ) (up ds : List ℕ) → under (chain u ds) ≤ under (chain u (reverse_aux up ds))
unfolding under
under_more u [] ds = omega arith
under_more u (e ∷ up) ds = omega (arith, under_more u up (e ∷ ds))

low_plain : (c a : ℕ) (u : ℕ → Tree ℕ) (es : List ℕ) → only_down (low c (plain es) a) ≡ first c (chain u es) a
unfolding plain low first
low_plain c a u [] = refl
low_plain c a u (e ∷ es) = ap (λ k. only_down (a + k)) (len_plain es ∙ sym (width_chain u es))

-- the free chain begins behind a run
pub past_run : {ws : List ℕ} {h c a n : ℕ} {q : List ℕ} (es : List ℕ) → Rows ws h c a n q (plain es) → first_free ws ≡ a + length es
past_run es b = st_head b.state ∙ rw (len_plain es)

-- where build_under stands, at cell k: below the ends ds all stands, and below the others, `up` from the highest on, nothing yet
pub record Filling (ws : List ℕ) (c a n : ℕ) (q : List ℕ) (k : ℕ) (u : ℕ → Tree ℕ) (es : List ℕ) : Type 0 where
  pub up : List ℕ
  pub ds : List ℕ
  pub is : reverse_aux up ds ≡ es
  pub at_k : k ≡ a + length ds
  pub mid : Mid ws c a (a + length es) (under (chain u es) - under (chain u ds) + n) q (chain u ds) (bare up)

pub filling : {ws : List ℕ} {h c a n : ℕ} {q : List ℕ} (u : ℕ → Tree ℕ) (es : List ℕ) → Rows ws h c a (under (chain u es) + n) q (plain es) → Filling ws c a n q a u es
unfolding under marks belows width plain
filling {ws} {h} {c} {a} {n} {q} u es b =
    let y : under (chain u es) - 0 + n ≡ under (chain u es) + n = omega arith in
    let z : a + len (plain es) ≡ a + length es + 0 = omega (arith, len_plain es) in
    let x = reverse_aux-reverse_aux-nil es [] in
    record {
      up = reverse es;
      ds = [];
      is = x;
      at_k = omega arith;
      mid = record { wide = omega (arith, count_bare (reverse es), length-reverse es); state = rw (y, join_bare (reverse es) [], x) (rw z at b.state) };
    }

-- the same where an end e is left, and with it a cell at k that has nothing below it yet
pub record Turn (ws : List ℕ) (c a n : ℕ) (q : List ℕ) (k : ℕ) (u : ℕ → Tree ℕ) (es : List ℕ) : Type 0 where
  pub e : ℕ
  pub up : List ℕ
  pub ds : List ℕ
  pub is : reverse_aux up (e ∷ ds) ≡ es
  pub at_k : k ≡ a + width (chain u ds)
  pub mid : Mid ws c a (a + length es) (under (chain u es) - under (chain u ds) + n) q (chain u ds) (next e (only_down 0) (bare up))

pub turns : {ws : List ℕ} {c a n k : ℕ} {q : List ℕ} {u : ℕ → Tree ℕ} {es : List ℕ} → Filling ws c a n q k u es → k < a + length es → Turn ws c a n q k u es
unfolding bare count
turns {ws} {c} {a} {n} {k} {q} {u} {es} g l = go g.up g.is g.mid
  where
    go : (up : List ℕ) → reverse_aux up g.ds ≡ es → Mid ws c a (a + length es) (under (chain u es) - under (chain u g.ds) + n) q (chain u g.ds) (bare up) → Turn ws c a n q k u es
    go [] i m = absurd (omega (arith, g.at_k, ap length i))
    go (e ∷ up) i m = record { e = e; up = up; ds = g.ds; is = i; at_k = g.at_k ∙ ap (λ x. a + x) (sym (width_chain u g.ds)); mid = m }

module _ {ws : List ℕ} {c a n k : ℕ} {q : List ℕ} {u : ℕ → Tree ℕ} {es : List ℕ} (o : Turn ws c a n q k u es) where
  abbrev P : Tree ℕ
  P = chain u o.ds

  abbrev U : Tree ℕ
  U = u o.e

  abbrev B : ℕ
  B = a + length es

  abbrev Left : ℕ
  Left = under (chain u es) - under (chain u (o.e ∷ o.ds)) + n

  abbrev Whole : Run
  Whole = join (marks c P B) (next o.e (only_down 0) (bare o.up))

  abbrev Before : List ℕ
  Before = q ++ row c Whole a (belows c P B [])

  whole_wide : B ≡ a + len Whole
  whole_wide = mid_wide c a B P (next o.e (only_down 0) (bare o.up)) o.mid.wide

  left_is : under (chain u es) - under P + n ≡ width U + under U + Left
  unfolding under
  left_is = omega (arith, under_more u o.up (o.e ∷ o.ds), ap (λ l. under (chain u l)) o.is)

  turn_state : State ws c (B + under P) (B + under P) Before (frees (B + under P) (width U + under U + Left))
  turn_state = rw left_is at (both_past a B q Whole P _ whole_wide o.mid.state)

  pub turn_lt : k < c
  unfolding count
  turn_lt = omega (arith, o.at_k, o.mid.wide, st_length turn_state)

  pub turn_room : at k 0 < length ws
  turn_room = omega (arith, turn_lt, turn_state.tot)

  -- the end that the cell has
  turn_word : cell_word ws k 0 ≡ o.e
  unfolding join
  turn_word = run_word P B o.e (only_down 0) (bare o.up) _ o.mid.state k 0 o.at_k

  module _ (v : Tree ℕ) (w : v ≡ u (cell_word ws k 0)) where
    is_u : v ≡ U
    is_u = w ∙ ap u turn_word

    pub turn_spare : Spare ws c (width v + under v)
    turn_spare = rw is_u (record { a = _; more = _; q = _; state = turn_state })

    module _ (ws' : List ℕ) (g : Below) (below : Builds ws ws' g c v) where
      turn_held : TreeHeld ws' g c (B + under P) Left Before U
      turn_held = (rw is_u at below) _ _ _ turn_state

      pub down_room : at k 3 < length ws'
      down_room = omega (arith, turn_lt, turn_held.state.tot)

      pub filled : Filling (hung ws' k g) c a n q (k + 1) u es
      unfolding join count marks belows under width
      filled =
          let y = B + under P in
          let M = marks c P B in
          let x : y + width U + under U ≡ B + (under P + (width U + under U)) = omega arith in
          let r = tree_text c U y (frees (y + width U + under U) Left) in
          let s1 = both_back a B q Whole P r whole_wide turn_held.state in
          let s2 = st_put (st_put s1 k 2 (8 * len M + 2) (first c U y).down (omega (arith, o.at_k, marks_len c P B))) k 3 (8 * len M + 3) (first c U y).side (omega (arith, o.at_k, marks_len c P B)) in
          let s3 = rw (row_put c M o.e (only_down 0) (first c U y) (bare o.up) a (belows c P B r)) at s2 in
          record {
            up = o.up;
            ds = o.e ∷ o.ds;
            is = o.is;
            at_k = omega (arith, o.at_k, width_chain u o.ds);
            mid = record { wide = omega (arith, o.mid.wide); state = rw turn_held.top (rw x at s3) };
          }

pub filled_all : {ws ws₀ : List ℕ} {h c a n n' k : ℕ} {q : List ℕ} {u : ℕ → Tree ℕ} {es : List ℕ} → Filling ws c a n q k u es → Rows ws₀ h c a n' q (plain es) → a + length es ≤ k → TreeHeld ws (only_down h) c a n q (chain u es)
unfolding bare count join
filled_all {ws} {ws₀} {h} {c} {a} {n} {n'} {k} {q} {u} {es} g b l = go g.up g.is g.mid
  where
    go : (up : List ℕ) → reverse_aux up g.ds ≡ es → Mid ws c a (a + length es) (under (chain u es) - under (chain u g.ds) + n) q (chain u g.ds) (bare up) → TreeHeld ws (only_down h) c a n q (chain u es)
    go [] i m =
        let y : under (chain u es) - under (chain u es) + n ≡ n = omega arith in
        record { top = ap only_down b.lowest ∙ low_plain c a u es; state = rw (width_chain u es) (rw y at (rw i at m.state)) }
    go (e ∷ up) i m = absurd (omega (arith, g.at_k, m.wide, width_chain u g.ds))

-- The tree of rules: where no field is left, and where one is.
pub built_none : {ws : List ℕ} {c a : ℕ} {b : Below} {q : List ℕ} (rules ps : List ℕ) (f n m : ℕ) → n ≡ 0 → b ≡ only_down (first_of ps) → State ws c a a q (frees a (width (tree_at rules f n ps) + under (tree_at rules f n ps) + m)) → TreeHeld ws b c a m q (tree_at rules f n ps)
unfolding width under marks row belows first
built_none {ws} {c} {a} {b} {q} rules ps f n m e h s =
    let z : a + 0 + 0 ≡ a = omega arith in
    let y : 0 + 0 + m ≡ m = omega arith in
    rw (tree_none rules f n ps e) (record { top = h; state = rw z (rw (tree_none rules f n ps e, y) at s) })

pub split : {ws : List ℕ} {c a : ℕ} {q : List ℕ} (rules ps : List ℕ) (f n m : ℕ) → (n ≡ 0 → ⊥) → State ws c a a q (frees a (width (tree_at rules f n ps) + under (tree_at rules f n ps) + m))
    → State ws c a a q (frees a (length (ends (field_at rules f) ps) + (under (chain (under_at rules f n ps) (ends (field_at rules f) ps)) + m)))
split {ws} {c} {a} {q} rules ps f n m nz s =
    let T = tree_at rules f n ps in
    let C = chain (under_at rules f n ps) (ends (field_at rules f) ps) in
    let e : width T + under T + m ≡ length (ends (field_at rules f) ps) + (under C + m) = omega (arith, ap width (tree_step rules f n ps nz), ap under (tree_step rules f n ps nz), width_chain (under_at rules f n ps) (ends (field_at rules f) ps)) in
    rw e at s

pub under_is : (rules ps qs : List ℕ) (f n e : ℕ) → qs ≡ keep (covers (field_at rules f) e) ps → tree_at rules (f + 1) (n - 1) qs ≡ under_at rules f n ps e
unfolding under_at
under_is rules ps qs f n e k = rw k

-- the run of the field's ends, and room for what is below it and m cells more
abbrev pub Run-of : List ℕ → ℕ → ℕ → List ℕ → List ℕ → ℕ → ℕ → ℕ → ℕ → List ℕ → Type 0
Run-of ws h c rules ps f d a m q = Rows ws h c a (under (chain (under_at rules f d ps) (ends (field_at rules f) ps)) + m) q (plain (ends (field_at rules f) ps))

-- where the loop of build_under stands, over words and sets that stood at its start: the rules and the set stay
pub record Filled (base : ℕ) (ws₀ ws sets₀ sets ends₀ ends' : List ℕ) (n h c f d k₀ k : ℕ) : Type 0 where
  pub fills : (a m : ℕ) (q : List ℕ) → k₀ ≡ a → Run-of (drop base ws₀) h c (take base ws₀) (take n sets₀) f d a m q → Filling (drop base ws) c a m q k (under_at (take base ws₀) f d (take n sets₀)) (ends (field_at (take base ws₀) f) (take n sets₀))
  pub kept : take base ws ≡ take base ws₀
  pub long : length ws ≡ length ws₀
  pub set_kept : take n sets ≡ take n sets₀
  pub sets_long : length sets ≡ length sets₀
  pub ends_long : length ends' ≡ length ends₀

pub filled_start : (base : ℕ) (ws sets ends' : List ℕ) (n h c f d k : ℕ) → Filled base ws ws sets sets ends' ends' n h c f d k k
filled_start base ws sets ends' n h c f d k = record { fills = λ a m q e b. rw e (filling _ _ b); kept = refl; long = refl; set_kept = refl; sets_long = refl; ends_long = refl }

-- a turn: m places cover the end of cell k, and the tree of their rules is below it
module _ {base : ℕ} {ws₀ ws sets₀ sets ends₀ ends' : List ℕ} {n h c f d k₀ k : ℕ} (g : Filled base ws₀ ws sets₀ sets ends₀ ends' n h c f d k₀ k) where
  abbrev Under : ℕ → Tree ℕ
  Under = under_at (take base ws₀) f d (take n sets₀)

  pub fill_turn : (a m : ℕ) (q : List ℕ) → k₀ ≡ a → Run-of (drop base ws₀) h c (take base ws₀) (take n sets₀) f d a m q → k < first_free (drop base ws₀) → Turn (drop base ws) c a m q k Under (ends (field_at (take base ws₀) f) (take n sets₀))
  fill_turn a m q e b l = turns (g.fills a m q e b) (omega (arith, past_run _ b))

  module _ {sets' : List ℕ} {m e : ℕ} (v : Narrows (take base ws) sets sets' n m f e) (w : e ≡ cell_word (drop base ws) k 0) (long : length sets' ≡ length sets) (fits : n ≤ length sets) where
    pub below_is : tree_at (take base ws) (f + 1) (d - 1) (take m (mid_of n (length sets' - n) sets')) ≡ Under (cell_word (drop base ws) k 0)
    below_is =
        rw (lent n sets' (omega arith), g.kept)
        (under_is (take base ws₀) (take n sets₀) _ f d (cell_word (drop base ws) k 0) (rw (g.kept, g.set_kept, w) at v.next))

    pub fill_on : (ys : List ℕ) {ws1 ws2 ends2 : List ℕ} {down : Below} → Built base ws ws1 down c (tree_at (take base ws) (f + 1) (d - 1) (take m (mid_of n (length sets' - n) sets'))) → length ws1 ≡ length ws
        → Hangs base ws1 ws2 k down → length ws2 ≡ length ws1 → length (put_mid n (length sets' - n) sets' ys) ≡ length sets' → length ends2 ≡ length ends' → k < first_free (drop base ws₀)
        → Filled base ws₀ ws2 sets₀ (put_mid n (length sets' - n) sets' ys) ends₀ ends2 n h c f d k₀ (k + 1)
    fill_on ys b l1 p l2 l3 l4 u = record {
      fills = λ a m q e r. rw p.hangs (filled (fill_turn a m q e r u) _ below_is _ _ b.builds);
      kept = p.kept ∙ b.kept ∙ g.kept;
      long = l2 ∙ l1 ∙ g.long;
      set_kept = take_put n (length sets' - n) sets' ys (omega arith) ∙ v.kept ∙ g.set_kept;
      sets_long = l3 ∙ long ∙ g.sets_long;
      ends_long = l4 ∙ g.ends_long;
    }

-- Where all rules have one range from 0 the chain is one cell, at k, and the same rules are below it.
pub one_first : {ws rules ps : List ℕ} {f d c e : ℕ} → (d ≡ 0 → ⊥) → Flat rules f ps e → Spare ws c (width (tree_at rules f d ps) + under (tree_at rules f d ps)) → Spare ws c 1
one_first {ws} {rules} {ps} {f} {d} nz l r = record { a = r.a; more = _; q = r.q; state = rw l.one at (split rules ps f d r.more nz r.state) }

module _ (n : ℕ) {ws ws1 rules ps : List ℕ} {f d c a e k : ℕ} {q : List ℕ} (nz : d ≡ 0 → ⊥) (l : Flat rules f ps e)
    (s : State ws c a a q (frees a (width (tree_at rules f d ps) + under (tree_at rules f d ps) + n))) (lay : Lays ws ws1 k c (e ∷ [])) (w : cell_word ws1 k 0 ≡ e) where
  abbrev ends_here : List ℕ
  ends_here = ends (field_at rules f) ps

  abbrev below_here : ℕ → Tree ℕ
  below_here = under_at rules f d ps

  one_run : Rows ws1 k c a (under (chain below_here ends_here) + n) q (plain ends_here)
  one_run = rw l.one (lay a _ q (rw l.one at (split rules ps f d n nz s)))

  one_at : k ≡ a
  unfolding plain low len
  one_at = let z = rw l.one at one_run.lowest in omega (arith, z)

  one_turn : Turn ws1 c a n q k below_here ends_here
  one_turn = rw one_at (turns (filling below_here ends_here one_run) (omega (arith, ap length l.one)))

  one_below : tree_at rules (f + 1) (d - 1) ps ≡ below_here (cell_word ws1 k 0)
  one_below = under_is rules ps ps f d (cell_word ws1 k 0) (rw w (sym l.all))

  pub one_spare : Spare ws1 c (width (tree_at rules (f + 1) (d - 1) ps) + under (tree_at rules (f + 1) (d - 1) ps))
  one_spare = turn_spare one_turn _ one_below

  module _ (ws2 : List ℕ) (g : Below) (b : Builds ws1 ws2 g c (tree_at rules (f + 1) (d - 1) ps)) where
    pub one_room : at k 3 < length ws2
    one_room = down_room one_turn _ one_below ws2 g b

    pub one_built : TreeHeld (hung ws2 k g) (only_down k) c a n q (tree_at rules f d ps)
    one_built = rw (tree_step rules f d ps nz) (filled_all (filled one_turn _ one_below ws2 g b) one_run (omega (arith, one_at, ap length l.one)))

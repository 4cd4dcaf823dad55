-- Dropping a chain: location by location, from the lowest end up, what is below it becomes free, and then the run's cells do.
-- Assumes nothing.
use mathlib.Core.Path.{◌≡◌, refl, sym, ap, ◌∙◌}
use mathlib.Core.List.{List, [], ◌++◌}
use Prim.Native.Nat.{ℕ, ◌+◌, ◌-◌, ◌*◌, ◌≤◌, ◌<◌}
use native.Mathlib.Omega.{arith}
use lib.ListN.{length}
use Rattle.model.specs.Rules.{Tree, names, stop, loc}
use Rattle.cells.specs.Text.{at, cell_word, below_at, frees, Run, nil, len, low, row, width, under, first, marks, belows, tree_text}
use Rattle.cells.specs.declared.Below.{Below}
use Rattle.cells.specs.Planted.{Deep}
use Rattle.cells.specs.States.{State, Rows, TreeHeld}
use Rattle.cells.proofs.From.{low_first}
use Rattle.cells.proofs.State.{st_length, both_past, both_back}
use Rattle.cells.proofs.Middle.{Rest, done, next, join, count, Mid, mid_wide, run_word}

-- where the walk of free_chain stands, at cell k: below p, which is left, all stands, and what was below the rest l of the run is free. h is the chain's lowest location, and big the number of cells from b on.
pub record Going (ws : List ℕ) (d k h c a b : ℕ) (q : List ℕ) (big : ℕ) : Type 0 where
  pub n : ℕ
  pub p : Tree ℕ
  pub l : Rest
  pub deep : Deep p d
  pub at_k : k ≡ (first c p a).down
  pub lowest : h ≡ low c (join (marks c p b) l) a
  pub mid : Mid ws c a b n q p l
  pub sum : under p + n ≡ big

-- the same, with the location at k taken off p: its end is e, and u stands below it
pub record Opened (ws : List ℕ) (d k h c a b : ℕ) (q : List ℕ) (big : ℕ) : Type 0 where
  pub n : ℕ
  pub p : Tree ℕ
  pub e : ℕ
  pub u : Tree ℕ
  pub l : Rest
  pub left : 0 < d
  pub deep : Deep p d
  pub deep_u : Deep u (d - 1)
  pub at_k : k ≡ a + width p
  pub lowest : h ≡ low c (join (marks c p b) (next e (first c u (b + under p)) l)) a
  pub wide : b ≡ a + (width p + (count l + 1))
  pub state : State ws c (b + under p + width u + under u) a q (row c (join (marks c p b) (next e (first c u (b + under p)) l)) a (belows c p b (tree_text c u (b + under p) (frees (b + under p + width u + under u) n))))
  pub sum : under p + (width u + under u + n) ≡ big

pub opens : {ws : List ℕ} {d k h c a b big : ℕ} {q : List ℕ} → Going ws d k h c a b q big → 0 < d → (k ≡ c → ⊥) → Opened ws d k h c a b q big
unfolding Deep first marks join belows under width
opens {ws} {d} {k} {h} {c} {a} {b} {big} {q} g z w = rw g.sum at (opened g.n g.p g.l g.deep g.at_k g.lowest g.mid)
  where
    opened : (n : ℕ) (p : Tree ℕ) (l : Rest) → Deep p d → k ≡ (first c p a).down → h ≡ low c (join (marks c p b) l) a → Mid ws c a b n q p l → Opened ws d k h c a b q (under p + n)
    opened n (names r) l p f v m = absurd (omega (arith, p))
    opened n stop l p f v m = absurd (w f)
    opened n (loc e u t) l p f v m =
        let x : b + (under t + (width u + under u)) ≡ b + under t + width u + under u = omega arith in
        record { n = n; p = t; e = e; u = u; l = l; left = z; deep = p.2; deep_u = p.1; at_k = f; lowest = v; wide = omega (arith, m.wide); state = rw x at m.state; sum = omega arith }

-- the steps that are left of a walk up a chain, at cell k
abbrev pub left_of : ℕ → ℕ → ℕ
left_of c k = (k + 1) - 65537 * (1 - (c - k))

first_less : (c : ℕ) (t : Tree ℕ) (a d : ℕ) → Deep t d → 0 < d → a + width t < c → c ≤ 65536 → left_of c (first c t a).down < left_of c (a + width t)
unfolding first Deep width
first_less c (names x) a d h p l m = absurd (omega arith)
first_less c stop a d h p l m = omega arith
first_less c (loc e u t) a d h p l m = omega arith

module _ {ws : List ℕ} {d k h c a b big : ℕ} {q : List ℕ} (o : Opened ws d k h c a b q big) where
  abbrev Whole : Run
  Whole = join (marks c o.p b) (next o.e (first c o.u (b + under o.p)) o.l)

  whole_wide : b ≡ a + len Whole
  unfolding count
  whole_wide = mid_wide c a b o.p (next o.e (first c o.u (b + under o.p)) o.l) o.wide

  abbrev Before : List ℕ
  Before = q ++ row c Whole a (belows c o.p b [])

  pub open_lt : k < c
  open_lt = omega (arith, o.wide, o.at_k, st_length (both_past a b q Whole o.p _ whole_wide o.state))

  -- what stands below the location
  pub open_held : TreeHeld ws (below_at ws k) c (b + under o.p) o.n Before o.u
  unfolding join
  open_held = record {
    top = rw (run_word o.p b _ _ o.l _ o.state k 2 o.at_k, run_word o.p b _ _ o.l _ o.state k 3 o.at_k);
    state = both_past a b q Whole o.p _ whole_wide o.state;
  }

  -- and once that is free
  module _ (ws' : List ℕ) (s : State ws' c (b + under o.p) (b + under o.p) Before (frees (b + under o.p) (width o.u + under o.u + o.n))) where
    freed_back : State ws' c (b + under o.p) a q (row c Whole a (belows c o.p b (frees (b + under o.p) (width o.u + under o.u + o.n))))
    freed_back = both_back a b q Whole o.p _ whole_wide s

    freed_next : cell_word ws' k 1 ≡ (first c o.p a).down
    unfolding join
    freed_next = run_word o.p b _ _ o.l _ freed_back k 1 o.at_k ∙ low_first c o.p a b d o.deep o.left

    pub freed_room : at k 1 < length ws'
    freed_room = omega (arith, open_lt, s.tot)

    pub freed_less : left_of c (cell_word ws' k 1) < left_of c k
    freed_less = rw (freed_next, o.at_k) (first_less c o.p a d o.deep o.left (omega (arith, open_lt, o.at_k)) s.most)

    pub freed : Going ws' d (cell_word ws' k 1) h c a b q big
    unfolding count
    freed = record {
      n = width o.u + under o.u + o.n;
      p = o.p;
      l = next o.e (first c o.u (b + under o.p)) o.l;
      deep = o.deep;
      at_k = freed_next;
      lowest = o.lowest;
      mid = record { wide = o.wide; state = freed_back };
      sum = o.sum;
    }

-- the walk starts
pub going : {ws : List ℕ} {d : ℕ} {k : Below} {c a n : ℕ} {q : List ℕ} {t : Tree ℕ} → Deep t d → TreeHeld ws k c a n q t → 0 < d → Going ws d k.down k.down c a (a + width t) q (under t + n)
unfolding join count
going {ws} {d} {k} {c} {a} {n} {q} {t} p h l = record {
  n = n;
  p = t;
  l = done;
  deep = p;
  at_k = ap (λ x. x.down) h.top;
  lowest = ap (λ x. x.down) h.top ∙ sym (low_first c t a (a + width t) d p l);
  mid = record { wide = omega arith; state = h.state };
  sum = refl;
}

-- and ends with a run
pub record Ran (ws : List ℕ) (h c a b : ℕ) (q : List ℕ) (big : ℕ) : Type 0 where
  pub s : Run
  pub wide : b ≡ a + len s
  pub rows : Rows ws h c a big q s

pub rans : {ws : List ℕ} {d k h c a b big : ℕ} {q : List ℕ} → Going ws d k h c a b q big → 0 < d → k ≡ c → Ran ws h c a b q big
unfolding Deep first marks belows under width
rans {ws} {d} {k} {h} {c} {a} {b} {big} {q} g z w = rw g.sum at (ran g.n g.p g.l g.deep g.at_k g.lowest g.mid)
  where
    ran : (n : ℕ) (p : Tree ℕ) (l : Rest) → Deep p d → k ≡ (first c p a).down → h ≡ low c (join (marks c p b) l) a → Mid ws c a b n q p l → Ran ws h c a b q (under p + n)
    ran n (names r) l p f v m = absurd (omega (arith, p))
    ran n stop l p f v m =
        let x = mid_wide c a b stop l m.wide in
        let y : b + 0 ≡ a + len (join nil l) = omega (arith, x) in
        let y' : 0 + n ≡ n = omega arith in
        record { s = join nil l; wide = x; rows = record { lowest = v; state = rw y' (rw y at m.state) } }
    ran n (loc e u t) l p f v m =
        absurd (omega (arith, f, w, m.wide, st_length (both_past a b q (join (marks c (loc e u t) b) l) (loc e u t) _ (mid_wide c a b (loc e u t) l m.wide) m.state)))

-- once the run's cells are free too, all of the tree is
pub ran_all : {ws ws' : List ℕ} {h c a : ℕ} {q : List ℕ} (t : Tree ℕ) (n : ℕ) (r : Ran ws h c a (a + width t) q (under t + n)) → State ws' c a a q (frees a (len r.s + (under t + n))) → State ws' c a a q (frees a (width t + under t + n))
ran_all {ws} {ws'} {h} {c} {a} {q} t n r s =
    let e : len r.s + (under t + n) ≡ width t + under t + n = omega (arith, r.wide) in
    rw e at s

-- where no field is left nothing is to be freed
pub free_none : {ws : List ℕ} {d : ℕ} {k : Below} {c a n : ℕ} {q : List ℕ} {t : Tree ℕ} → Deep t d → TreeHeld ws k c a n q t → d ≡ 0 → State ws c a a q (frees a (width t + under t + n))
unfolding Deep marks row belows under width
free_none {a = a} {n = n} {t = names r} p h w = let y : 0 + 0 + n ≡ n = omega arith in let z : a + 0 + 0 ≡ a = omega arith in rw y (rw z at h.state)
free_none {t = stop} p h w = absurd (omega (arith, p))
free_none {t = loc e u t} p h w = absurd (omega (arith, p.0))

-- The rows with a rule put in, and with one taken out, are the rows of the edited table.
-- Assumes nothing.
use mathlib.Core.Path.{◌≡◌, refl, sym, ap, ◌∙◌}
use mathlib.Core.Logic.{◌⊎◌, inl, inr, ⊎_elim}
use mathlib.Core.Bool.{Bool, true, false, cond}
use mathlib.Core.List.{List, [], ◌∷◌}
use Prim.Native.Nat.{ℕ, zero, suc, ◌+◌, ◌-◌, ◌*◌, ◌≤◌, ◌<◌}
use native.Mathlib.Omega.{arith}
use lib.Dec.{ltb, eqb}
use lib.ListN.{length, get_or, get_or-eq_default}
use borrow.Author.Tests.{ltb-true, ltb-false, lt-ltb, le-ltb, eq-eqb, ne_eqb, eqb-true, eqb-false}
use Rattle.model.specs.Lists.{up_to}
use Rattle.model.specs.Table.{Kind, Rule, Table, row_words, rising_from, stands, added, removed, with_rule, without}
use Rattle.model.proofs.Tests.{by_test, never}
use Rattle.model.proofs.UpTo.{length_up_to, get_d_up_to}
use Rattle.model.proofs.Grid.{row_ends, row_starts, length_grid, get_d_grid, grid_is}
use Rattle.model.proofs.Limits.{rises, in_rising, standing}
use Rattle.model.proofs.Edits.{removed_none, length_removed}
use Rattle.table.specs.Rows.{no_rule, row_word, placed, rows_text, ahead, put_word, take_word}
use Rattle.table.proofs.Laws.{row_none}

-- PUTTING IN. The rule stands behind those that are ahead of it.
pub added_at_lem : (r : Rule) (rs : List Rule) (d : Rule) → get_or (added r rs) (ahead r.number rs) d ≡ r
added_at_lem r [] d = refl
added_at_lem r (x ∷ rs) d = by_test (ltb x.number r.number) (λ t. simp t (added_at_lem r rs d)) (λ t. simp t)

pub added_before : (r : Rule) (rs : List Rule) (d : Rule) (i : ℕ) → i < ahead r.number rs → get_or (added r rs) i d ≡ get_or rs i d
added_before r [] d i h = absurd (omega arith)
added_before r (x ∷ rs) d i h = go (added_before r rs d) (ltb x.number r.number) i h
  where
    go : ((i : ℕ) → i < ahead r.number rs → get_or (added r rs) i d ≡ get_or rs i d) → (b : Bool) (i : ℕ) → i < cond b (suc (ahead r.number rs)) 0 → get_or (cond b (x ∷ added r rs) (r ∷ x ∷ rs)) i d ≡ get_or (x ∷ rs) i d
    go ih true zero l = refl
    go ih true (suc i) l = ih i (omega arith)
    go ih false i l = absurd (omega arith)

pub added_behind : (r : Rule) (rs : List Rule) (d : Rule) (i : ℕ) → ahead r.number rs ≤ i → get_or (added r rs) (suc i) d ≡ get_or rs i d
added_behind r [] d i h = refl
added_behind r (x ∷ rs) d i h = go (added_behind r rs d) (ltb x.number r.number) i h
  where
    go : ((i : ℕ) → ahead r.number rs ≤ i → get_or (added r rs) (suc i) d ≡ get_or rs i d) → (b : Bool) (i : ℕ) → cond b (suc (ahead r.number rs)) 0 ≤ i → get_or (cond b (x ∷ added r rs) (r ∷ x ∷ rs)) (suc i) d ≡ get_or (x ∷ rs) i d
    go ih true zero l = absurd (omega arith)
    go ih true (suc i) l = ih i (omega arith)
    go ih false i l = refl

-- word i of the rows of a table
module _ (k : Kind) (t : Table) where
  pub rows_long : length (rows_text k t) ≡ row_words k
  unfolding rows_text
  rows_long = length_grid k.width (suc k.most) (λ p. row_word (placed k t p))

  pub rows_at : (p j : ℕ) → p ≤ k.most → j < k.width → get_or (rows_text k t) (k.width * p + j) 0 ≡ row_word (placed k t p) j
  unfolding rows_text
  rows_at p j u v = get_d_grid k.width (suc k.most) (λ p. row_word (placed k t p)) p j 0 (omega arith) v

  pub rows_past : (i : ℕ) → row_words k ≤ i → get_or (rows_text k t) i 0 ≡ 0
  rows_past i h = get_or-eq_default (rows_text k t) 0 {n = i} (omega (arith, rows_long))

  -- words that are made by place are the rows, where they are so in each row
  pub rows_are : (f : ℕ → ℕ) → ((p j : ℕ) → p ≤ k.most → j < k.width → f (k.width * p + j) ≡ row_word (placed k t p) j) → up_to (row_words k) f ≡ rows_text k t
  unfolding rows_text
  rows_are f h = grid_is 0 (up_to (row_words k) f) k.width (suc k.most) (λ p. row_word (placed k t p)) (length_up_to (row_words k) f)
      (λ p j u v. get_d_up_to (row_words k) f (k.width * p + j) 0 (omega (arith, row_ends k.width p (suc k.most) u)) ∙ h p j (omega arith) v)

  pub placed_past : (p : ℕ) → length t.rules < p → placed k t p ≡ no_rule
  unfolding placed
  placed_past zero h = absurd (omega arith)
  placed_past (suc p) h = get_or-eq_default t.rules no_rule {n = p} (omega arith)

module _ (k : Kind) (t : Table) (r : Rule) (p : ℕ) (e : p ≡ suc (ahead r.number t.rules)) where
  placed_before : (q : ℕ) → q < p → placed k (with_rule r t) q ≡ placed k t q
  unfolding placed
  placed_before zero h = refl
  placed_before (suc q) h = added_before r t.rules no_rule q (omega arith)

  placed_here : (q : ℕ) → q ≡ p → placed k (with_rule r t) q ≡ r
  unfolding placed
  placed_here zero h = absurd (omega arith)
  placed_here (suc q) h = let z : q ≡ ahead r.number t.rules = omega arith in rw z (added_at_lem r t.rules no_rule)

  placed_behind : (q s : ℕ) → p < q → suc s ≡ q → placed k (with_rule r t) q ≡ placed k t s
  unfolding placed
  placed_behind zero s h l = absurd (omega arith)
  placed_behind (suc q) zero h l = absurd (omega arith)
  placed_behind (suc q) (suc s) h l = let z : q ≡ suc s = omega arith in rw z (added_behind r t.rules no_rule s (omega arith))

  pub put_rows : (rows row : List ℕ) → rows ≡ rows_text k t → ((j : ℕ) → j < k.width → get_or row j 0 ≡ row_word r j) → up_to (row_words k) (put_word k.width rows (k.width * p) row) ≡ rows_text k (with_rule r t)
  put_rows rows row f g = let w = k.width in rows_are k (with_rule r t) (put_word w rows (w * p) row) (λ q j u v. by_test (ltb q p)
      (λ a.
      let z = ltb-true q p a in
      rw (lt-ltb (w * q + j) (w * p) (omega (arith, row_ends w q p z)), f) (rows_at k t q j u v ∙ ap (λ x. row_word x j) (sym (placed_before q z))))
      (λ a.
      let z = ltb-false q p a in
      rw (le-ltb (w * q + j) (w * p) (omega (arith, row_starts w p q z))) (by_test (eqb q p)
      (λ b.
      let y = eqb-true q p b in
      let x : w * q + j - w * p ≡ j = rw y (omega arith) in
      rw (lt-ltb (w * q + j) (w * p + w) (rw y (omega arith)), x) (g j v ∙ rw (placed_here q y)))
      (λ b.
      let y : p < q = omega (arith, eqb-false q p b) in
      let s : suc (q - 1) ≡ q = omega arith in
      let x : w * q + j - w ≡ w * (q - 1) + j = omega (arith, ap (λ i. w * i) s) in
      rw (le-ltb (w * q + j) (w * p + w) (omega (arith, row_ends w p q y)), x, f) (rows_at k t (q - 1) j (omega arith) v ∙ ap (λ x. row_word x j) (sym (placed_behind q (q - 1) y s)))))))

-- TAKING OUT. In rising order the rule of the number n, if it stands, is the first that is not ahead of n.
pub first_or_later : (n b : ℕ) (x : Rule) (rs : List Rule) → rising_from b (x ∷ rs) ≡ true → stands n (x ∷ rs) ≡ true
    → ((x.number ≡ n) × (removed n rs ≡ rs)) ⊎ ((x.number < n) × (stands n rs ≡ true))
first_or_later n b x rs h s = by_test (eqb x.number n)
    (λ t. let e = eqb-true x.number n t in inl (e, removed_none n rs (λ r m q. omega (arith, (in_rising (suc x.number) rs (rises b x rs h).2 r m).0))))
    (λ t.
    let z : stands n rs ≡ true = rw t at s in
    let r = standing n rs z in
    inr (omega (arith, r.2, (in_rising (suc x.number) rs (rises b x rs h).2 r.0 r.1).0), z))

module _ (n : ℕ) (d : Rule) where
  pub at_stands : (b : ℕ) (rs : List Rule) → rising_from b rs ≡ true → stands n rs ≡ true → (ahead n rs < length rs) × ((get_or rs (ahead n rs) d).number ≡ n)
  at_stands b [] h s = never (sym s)
  at_stands b (x ∷ rs) h s = ⊎_elim
      (λ (w : (x.number ≡ n) × (removed n rs ≡ rs)). rw (le-ltb x.number n (omega (arith, w.0))) (omega arith, w.0))
      (λ (w : (x.number < n) × (stands n rs ≡ true)). let i = at_stands (suc x.number) rs (rises b x rs h).2 w.1 in rw (lt-ltb x.number n w.0) (omega (arith, i.0), i.1))
      (first_or_later n b x rs h s)

  pub stands_at : (rs : List Rule) → ahead n rs < length rs → (get_or rs (ahead n rs) d).number ≡ n → stands n rs ≡ true
  stands_at [] l e = absurd (omega arith)
  stands_at (x ∷ rs) l e = go (stands_at rs) (ltb x.number n) refl l e
    where
      go : (ahead n rs < length rs → (get_or rs (ahead n rs) d).number ≡ n → stands n rs ≡ true) → (v : Bool) → ltb x.number n ≡ v → cond v (suc (ahead n rs)) 0 < suc (length rs)
          → (get_or (x ∷ rs) (cond v (suc (ahead n rs)) 0) d).number ≡ n → stands n (x ∷ rs) ≡ true
      go ih true q l e = let z = ih (omega arith) e in by_test (eqb x.number n) (λ w. rw w) (λ w. rw w z)
      go ih false q l e = rw (eq-eqb x.number n e)

  removed_before : (b : ℕ) (rs : List Rule) → rising_from b rs ≡ true → stands n rs ≡ true → (i : ℕ) → i < ahead n rs → get_or (removed n rs) i d ≡ get_or rs i d
  removed_before b [] h s i l = absurd (omega arith)
  removed_before b (x ∷ rs) h s i l = ⊎_elim
      (λ (w : (x.number ≡ n) × (removed n rs ≡ rs)). absurd (let z = le-ltb x.number n (omega (arith, w.0)) in omega (arith, rw z at l)))
      (λ (w : (x.number < n) × (stands n rs ≡ true)).
      let z = lt-ltb x.number n w.0 in
      let y = ne_eqb x.number n (λ e. omega (arith, w.0)) in
      rw y (go (removed_before (suc x.number) rs (rises b x rs h).2 w.1) i (rw z at l)))
      (first_or_later n b x rs h s)
    where
      go : ((i : ℕ) → i < ahead n rs → get_or (removed n rs) i d ≡ get_or rs i d) → (i : ℕ) → i < suc (ahead n rs) → get_or (x ∷ removed n rs) i d ≡ get_or (x ∷ rs) i d
      go ih zero l = refl
      go ih (suc i) l = ih i (omega arith)

  removed_behind : (b : ℕ) (rs : List Rule) → rising_from b rs ≡ true → stands n rs ≡ true → (i : ℕ) → ahead n rs ≤ i → get_or (removed n rs) i d ≡ get_or rs (suc i) d
  removed_behind b [] h s i l = refl
  removed_behind b (x ∷ rs) h s i l = ⊎_elim
      (λ (w : (x.number ≡ n) × (removed n rs ≡ rs)). rw (eq-eqb x.number n w.0) (ap (λ ys. get_or ys i d) w.1))
      (λ (w : (x.number < n) × (stands n rs ≡ true)).
      let z = lt-ltb x.number n w.0 in
      let y = ne_eqb x.number n (λ e. omega (arith, w.0)) in
      rw y (go (removed_behind (suc x.number) rs (rises b x rs h).2 w.1) i (rw z at l)))
      (first_or_later n b x rs h s)
    where
      go : ((i : ℕ) → ahead n rs ≤ i → get_or (removed n rs) i d ≡ get_or rs (suc i) d) → (i : ℕ) → suc (ahead n rs) ≤ i → get_or (x ∷ removed n rs) i d ≡ get_or rs i d
      go ih zero l = absurd (omega arith)
      go ih (suc i) l = ih i (omega arith)

module _ (k : Kind) (t : Table) (n p : ℕ) (up : rising_from 0 t.rules ≡ true) (s : stands n t.rules ≡ true) (e : p ≡ suc (ahead n t.rules)) where
  out_before : (q : ℕ) → q < p → placed k (without n t) q ≡ placed k t q
  unfolding placed
  out_before zero h = refl
  out_before (suc q) h = removed_before n no_rule 0 t.rules up s q (omega arith)

  out_behind : (q : ℕ) → p ≤ q → placed k (without n t) q ≡ placed k t (suc q)
  unfolding placed
  out_behind zero h = absurd (omega arith)
  out_behind (suc q) h = removed_behind n no_rule 0 t.rules up s q (omega arith)

  pub take_rows : (rows : List ℕ) → rows ≡ rows_text k t → length t.rules ≤ k.most → up_to (row_words k) (take_word k.width rows (k.width * p)) ≡ rows_text k (without n t)
  take_rows rows f m = let w = k.width in rows_are k (without n t) (take_word w rows (w * p)) (λ q j u v. by_test (ltb q p)
      (λ a.
      let z = ltb-true q p a in
      rw (lt-ltb (w * q + j) (w * p) (omega (arith, row_ends w q p z)), f) (rows_at k t q j u v ∙ ap (λ x. row_word x j) (sym (out_before q z))))
      (λ a.
      let z = ltb-false q p a in
      let x : w * q + j + w ≡ w * suc q + j = omega arith in
      rw (le-ltb (w * q + j) (w * p) (omega (arith, row_starts w p q z)), x, f) (by_test (ltb q k.most)
      (λ b. rows_at k t (suc q) j (omega (arith, ltb-true q k.most b)) v ∙ ap (λ x. row_word x j) (sym (out_behind q z)))
      (λ b.
      let y : q ≡ k.most = omega (arith, ltb-false q k.most b) in
      rows_past k t (w * suc q + j) (rw y (omega arith)) ∙ sym (rw (placed_past k (without n t) q (omega (arith, length_removed 0 n t.rules up s))) (row_none j))))))

-- The words as what stands before a cell and what stands from it on: what such a state tells, how a write changes it, and how the seam between the two moves.
-- Assumes nothing.
use mathlib.Core.Path.{◌≡◌, sym, ap, ◌∙◌}
use mathlib.Core.List.{List, [], ◌∷◌, ◌++◌, append_assoc}
use Prim.Native.Nat.{ℕ, zero, suc, ◌+◌, ◌*◌}
use native.Mathlib.Omega.{arith}
use lib.ListN.{length, get_or, set, length-set, length-append}
use lib.Seq.{get_or-append-add}
use Rattle.model.specs.Rules.{Tree}
use Rattle.cells.specs.Text.{at, cell_word, Run, len, row, under, belows}
use Rattle.cells.specs.States.{first_free, State}
use Rattle.cells.proofs.Text.{row_app, row_length, both_app, belows_length}

pub set_add : (p r : List ℕ) (i v n : ℕ) → n ≡ length p + i → set (p ++ r) n v ≡ p ++ set r i v
set_add [] r i v n e = let h : n ≡ i = omega arith in rw h
set_add (x ∷ p) r i v zero e = absurd (omega arith)
set_add (x ∷ p) r i v (suc n) e = ap (λ l. x ∷ l) (set_add p r i v n (omega arith))

pub get_d_add : (p r : List ℕ) (i n : ℕ) → n ≡ length p + i → get_or (p ++ r) n 0 ≡ get_or r i 0
get_d_add p r i n e = rw e (get_or-append-add p r i 0)

module _ {ws : List ℕ} {c x a : ℕ} {q r : List ℕ} (s : State ws c x a q r) where
  pub st_head : first_free ws ≡ x
  st_head = ap (λ l. get_or l 0 0) s.is

  pub st_length : 8 * a + length r ≡ 8 * c
  st_length = omega (arith, s.tot, s.len, simp length-append at (ap length s.is))

  pub st_word : (k j i : ℕ) → 8 * k + j ≡ 8 * a + i → cell_word ws k j ≡ get_or r i 0
  st_word k j i e = ap (λ l. get_or l (at k j) 0) s.is ∙ get_d_add (x ∷ q) r i (at k j) (omega (arith, s.len))

  -- the free chain begins elsewhere
  pub st_start : (v : ℕ) → State (set ws 0 v) c v a q r
  st_start v = record { is = ap (λ l. set l 0 v) s.is; len = s.len; tot = length-set ws 0 v ∙ s.tot; most = s.most }

  -- a word behind the seam is written
  pub st_put : (k j i v : ℕ) → 8 * k + j ≡ 8 * a + i → State (set ws (at k j) v) c x a q (set r i v)
  st_put k j i v e = record {
    is = ap (λ l. set l (at k j) v) s.is ∙ set_add (x ∷ q) r i v (at k j) (omega (arith, s.len));
    len = s.len;
    tot = length-set ws (at k j) v ∙ s.tot;
    most = s.most;
  }

-- the seam moves to cell b, past the words f, and back
pub st_move : {ws : List ℕ} {c x a : ℕ} {q r : List ℕ} (b : ℕ) (f l : List ℕ) → State ws c x a q r → r ≡ f ++ l → length f + 8 * a ≡ 8 * b → State ws c x b (q ++ f) l
st_move {ws} {c} {x} {a} {q} {r} b f l s e n = record {
  is = s.is ∙ ap (λ k. x ∷ (q ++ k)) e ∙ ap (λ k. x ∷ k) (sym (append_assoc q f l));
  len = simp length-append (omega (arith, s.len));
  tot = s.tot;
  most = s.most;
}

pub st_undo : {ws : List ℕ} {c x b : ℕ} {l : List ℕ} (a : ℕ) (q f r : List ℕ) → State ws c x b (q ++ f) l → r ≡ f ++ l → length f + 8 * a ≡ 8 * b → State ws c x a q r
st_undo {ws} {c} {x} {b} {l} a q f r s e n = record {
  is = s.is ∙ ap (λ k. x ∷ k) (append_assoc q f l) ∙ ap (λ k. x ∷ (q ++ k)) (sym e);
  len = omega (arith, simp length-append at s.len);
  tot = s.tot;
  most = s.most;
}

-- past a run, and back
pub row_past : {ws : List ℕ} {c x a : ℕ} {q : List ℕ} (s : Run) (r : List ℕ) → State ws c x a q (row c s a r) → State ws c x (a + len s) (q ++ row c s a []) r
row_past {ws} {c} {x} {a} {q} s r st = st_move (a + len s) (row c s a []) r st (row_app c s a r) (omega (arith, row_length c s a []))

pub row_back : {ws : List ℕ} {c x : ℕ} (a : ℕ) (q : List ℕ) (s : Run) (r : List ℕ) → State ws c x (a + len s) (q ++ row c s a []) r → State ws c x a q (row c s a r)
row_back {ws} {c} {x} a q s r st = st_undo a q (row c s a []) (row c s a r) st (row_app c s a r) (omega (arith, row_length c s a []))

-- past a run and what is below the chain t, and back
both_long : (c : ℕ) (s : Run) (t : Tree ℕ) (a b : ℕ) → b ≡ a + len s → length (row c s a (belows c t b [])) + 8 * a ≡ 8 * (b + under t)
both_long c s t a b e = omega (arith, row_length c s a (belows c t b []), belows_length c t b [])

module _ {ws : List ℕ} {c x : ℕ} (a b : ℕ) (q : List ℕ) (s : Run) (t : Tree ℕ) (r : List ℕ) (e : b ≡ a + len s) where
  pub both_past : State ws c x a q (row c s a (belows c t b r)) → State ws c x (b + under t) (q ++ row c s a (belows c t b [])) r
  both_past st = st_move (b + under t) (row c s a (belows c t b [])) r st (both_app c s t a b r) (both_long c s t a b e)

  pub both_back : State ws c x (b + under t) (q ++ row c s a (belows c t b [])) r → State ws c x a q (row c s a (belows c t b r))
  both_back st = st_undo a q (row c s a (belows c t b [])) (row c s a (belows c t b r)) st (both_app c s t a b r) (both_long c s t a b e)

-- The kind that a store's words name: where they pass as one of the two kinds, that one; and an edit keeps it.
-- Assumes nothing.
use mathlib.Core.Path.{◌≡◌, refl, sym, ap, subst, ◌∙◌}
use mathlib.Core.Bool.{Bool, true, false, ◌&&◌}
use mathlib.Core.List.{List, [], ◌∷◌, ◌++◌}
use Prim.Native.Nat.{ℕ}
use native.Mathlib.Omega.{arith}
use lib.Dec.{leb, eqb}
use lib.ListN.{length, get_or}
use borrow.Author.Tests.{eqb-true, eqb-false, leb-true, le-leb}
use Rattle.model.specs.Table.{Rule, Table, Shaped, rule_right, rising_from, all_right, within}
use Rattle.model.specs.Ipv4.{ipv4, small, large, is_large, kind_in, ipv4_shaped, told}
use Rattle.model.proofs.Tests.{by_test, and_left, and_right, and_both}
use Rattle.layout.specs.Store.{head_text, passes, unless, start_answer, start_words, insert_says, insert_words, delete_says, delete_words}
use Rattle.layout.proofs.Sound.{sound}
use Rattle.frozen.specs.Frozen.{image_text}
use Rattle.demands.proofs.Held.{refused_keeps, start_leaves, insert_leaves, delete_leaves}

pub shaped_in : (ws : List ℕ) → Shaped (kind_in ws)
shaped_in ws = ipv4_shaped (is_large ws)

-- words with the mark of a kind are of that kind
pub by_mark : (b : Bool) (ws : List ℕ) → get_or ws 2 0 ≡ (ipv4 b).mark → is_large ws ≡ b
by_mark b ws e = ap (λ n. eqb n 4) e ∙ told b

-- and so are words that pass as of one
pub by_pass : (b : Bool) (ws : List ℕ) → passes (ipv4 b) ws ≡ true → is_large ws ≡ b
by_pass b ws h = by_mark b ws (sound (ipv4 b) (ipv4_shaped b) ws h).marked

pub pass_in : (b : Bool) (ws : List ℕ) → passes (ipv4 b) ws ≡ true → passes (kind_in ws) ws ≡ true
pass_in b ws h = subst (λ (x : Bool). passes (ipv4 x) ws ≡ true) (sym (by_pass b ws h)) h

-- what an edit leaves is of the kind that it was, accepted or refused
kept : (b : Bool) (a : ℕ) (new ws : List ℕ) → is_large ws ≡ b → (a ≡ 0 → passes (ipv4 b) (unless a new ws) ≡ true) → is_large (unless a new ws) ≡ b
kept b a new ws e h = by_test (eqb a 0) (λ t. by_pass b (unless a new ws) (h (eqb-true a 0 t))) (λ t. ap is_large (refused_keeps a new ws (eqb-false a 0 t)) ∙ e)

module _ (ws : List ℕ) where
  pub insert_large : (r : Rule) → is_large (insert_words (kind_in ws) ws r) ≡ is_large ws
  insert_large r = kept (is_large ws) (insert_says (kind_in ws) ws r) _ ws refl (λ a. (insert_leaves (kind_in ws) (shaped_in ws) ws r a).pass)

  pub delete_large : (n : ℕ) → is_large (delete_words (kind_in ws) ws n) ≡ is_large ws
  delete_large n = kept (is_large ws) (delete_says (kind_in ws) ws n) _ ws refl (λ a. (delete_leaves (kind_in ws) (shaped_in ws) ws n a).pass)

pub start_large : (b : Bool) (ws : List ℕ) (c a : ℕ) → start_answer (ipv4 b) ws c ≡ 0 → is_large (start_words (ipv4 b) ws c a) ≡ b
start_large b ws c a h = by_pass b (start_words (ipv4 b) ws c a) (start_leaves (ipv4 b) (ipv4_shaped b) ws c a h).pass

-- A TABLE within the limits of either kind is within those of large stores, which ask the same of each rule
same_right : (rs : List Rule) → all_right small rs ≡ all_right large rs
same_right [] = refl
same_right (r ∷ rs) = ap (λ x. rule_right large r && x) (same_right rs)

pub within_large : (b : Bool) (t : Table) → within (ipv4 b) t ≡ true → within large t ≡ true
within_large true t h = h
within_large false t h =
    let n = length t.rules in
    let g = and_right (leb n 64) _ h in
    let l = leb-true n 64 (and_left (leb n 64) _ h) in
    and_both (leb n 512) _ (le-leb n 512 (omega (arith, l))) (ap (λ x. rising_from 0 t.rules && x) (sym (same_right t.rules)) ∙ g)

-- AN IMAGE names the kind of its store, whatever stands behind it
image_mark : (b : Bool) (t : Table) (rest : List ℕ) → get_or (image_text (ipv4 b) t ++ rest) 2 0 ≡ (ipv4 b).mark
unfolding image_text head_text
image_mark b t rest = refl

pub image_large : (b : Bool) (t : Table) (rest : List ℕ) → is_large (image_text (ipv4 b) t ++ rest) ≡ b
image_large b t rest = by_mark b (image_text (ipv4 b) t ++ rest) (image_mark b t rest)

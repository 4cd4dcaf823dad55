-- What specs/Facts.antt claims, by the laws of the search over the table that the words hold.
-- Assumes nothing.
use mathlib.Core.Path.{◌≡◌, refl, sym, ap, subst}
use mathlib.Core.Logic.{⊎_elim, inl, inr}
use mathlib.Core.Bool.{Bool, true, false, cond}
use mathlib.Core.List.{List, map}
use Prim.Native.Nat.{ℕ}
use native.Mathlib.Omega.{arith}
use lib.Dec.{eqb}
use borrow.Author.Tests.{le-ltb, eqb-true, eq-eqb, ne_eqb}
use Rattle.model.specs.Lists.{In}
use Rattle.model.specs.Table.{Kind, Rule, Shaped, number_of, default_rule, every_rule, winner_of, within, stands}
use Rattle.model.proofs.Tests.{by_test}
use Rattle.model.proofs.Limits.{in_rising, not_standing, from_every, from_within}
use Rattle.layout.specs.Store.{table_of, passes, read_says}
use Rattle.layout.proofs.Sound.{sound}
use Rattle.layout.proofs.Passed.{sound_within}
use Rattle.search.specs.Search.{dead_of, first_won}
use Rattle.search.specs.Facts.{Least, Means, Won}
use Rattle.search.proofs.Facts.{searches}
use Rattle.live.specs.declared.Life.{Life}
use Rattle.live.specs.Live.{life, life_of, dead_says}
use Rattle.live.specs.Facts.{Lives, Refused, Alive}
use Rattle.live.proofs.Laws.{standing}

-- a store that passes holds a table within the limits
right : (k : Kind) → Shaped k → (ws : List ℕ) → passes k ws ≡ true → within k (table_of k ws) ≡ true
right k s ws h = sound_within k s ws (sound k s ws h)

-- A NUMBER THAT IS READ
module _ (k : Kind) (s : Shaped k) (ws : List ℕ) (n : ℕ) (e : read_says k ws n ≡ 0) (Q : List ℕ → Type 0) (means : Means k (table_of k ws) n Q) where
  won : Won k (table_of k ws) n Q
  won = searches.won k (table_of k ws) (right k s ws (standing k ws n e).pass) n Q means

  -- what the call says in both cases
  says_dead : dead_of k (table_of k ws) n ≡ true → dead_says k ws n ≡ life 0 1 (map (λ t. 0) k.tops)
  unfolding life_of
  says_dead d = rw (e, d)

  says_live : dead_of k (table_of k ws) n ≡ false → dead_says k ws n ≡ life 0 0 (first_won k (table_of k ws) n)
  unfolding life_of
  says_live d = rw (e, d)

  by_life : {X : Type 0} → (dead_of k (table_of k ws) n ≡ true → dead_says k ws n ≡ life 0 1 (map (λ t. 0) k.tops) → X) → (dead_of k (table_of k ws) n ≡ false → dead_says k ws n ≡ life 0 0 (first_won k (table_of k ws) n) → X) → X
  by_life f g = by_test (dead_of k (table_of k ws) n) (λ z. f z (says_dead z)) (λ z. g z (says_live z))

  lives : Lives k ws n Q
  lives = record {
    answer = by_life (λ z q. ap (λ (l : Life). l.answer) q) (λ z q. ap (λ (l : Life). l.answer) q);
    one_of = by_life (λ z q. inr (ap (λ (l : Life). l.dead) q)) (λ z q. inl (ap (λ (l : Life). l.dead) q));
    dead = (
      λ d. by_life (λ z q. won.dead.0 z) (λ z q. absurd (omega (arith, ap (λ (l : Life). l.dead) q, d))),
      λ f. by_life (λ z q. ap (λ (l : Life). l.dead) q) (λ z q. let l = won.live z in absurd (f _ l.within l.holds)),
    );
    dead_value = λ d. by_life (λ z q. ap (λ (l : Life). l.value) q) (λ z q. absurd (omega (arith, ap (λ (l : Life). l.dead) q, d)));
    live = (
      λ d. by_life (λ z q. absurd (omega (arith, ap (λ (l : Life). l.dead) q, d))) (λ z q. subst (λ (v : List ℕ). Least k Q v) (sym (ap (λ (l : Life). l.value) q)) (won.live z)),
      λ f. by_life (λ z q. absurd (won.dead.0 z _ f.within f.holds)) (λ z q. ap (λ (l : Life). l.dead) q),
    );
  }

-- A RULE OF A STORE THAT PASSES, or its default, is read by its number
module _ (k : Kind) (s : Shaped k) (ws : List ℕ) (h : passes k ws ≡ true) (r : Rule) (m : In r (every_rule k (table_of k ws))) where
  pub rule_read_lem : read_says k ws r.number ≡ 0
  rule_read_lem = rw h (⊎_elim
      (λ (i : In r (table_of k ws).rules).
      let l = (in_rising 0 (table_of k ws).rules (from_within k (table_of k ws) (right k s ws h)).rising r i).1 in
      let t : stands r.number (table_of k ws).rules ≡ true = by_test (stands r.number (table_of k ws).rules) (λ z. z) (λ z. absurd (not_standing r.number (table_of k ws).rules z r i refl)) in
      rw (ne_eqb r.number 65535 (λ z. omega arith), le-ltb 65534 r.number l, t))
      (λ (q : r ≡ default_rule k (table_of k ws).action). rw (eq-eqb r.number 65535 (ap number_of q)))
      (from_every k (table_of k ws) r m))

  of_rule : Lives k ws r.number (λ vs. winner_of k (table_of k ws) vs ≡ r)
  of_rule = lives k s ws r.number rule_read_lem (λ vs. winner_of k (table_of k ws) vs ≡ r) (searches.means k (table_of k ws) (right k s ws h) r m)

-- A REFUSAL
says_no : (k : Kind) (ws : List ℕ) (n : ℕ) → (read_says k ws n ≡ 0 → ⊥) → dead_says k ws n ≡ life (read_says k ws n) 0 (map (λ t. 0) k.tops)
unfolding life_of
says_no k ws n h = rw (ne_eqb (read_says k ws n) 0 h)

refused : (k : Kind) (ws : List ℕ) (n : ℕ) → (read_says k ws n ≡ 0 → ⊥) → Refused k ws n
refused k ws n h = let q = says_no k ws n h in record { dead = ap (λ (l : Life). l.dead) q; value = ap (λ (l : Life). l.value) q }

-- the answer, of any words
answer : (k : Kind) (ws : List ℕ) (n : ℕ) → (dead_says k ws n).answer ≡ read_says k ws n
unfolding life_of
answer k ws n = go (read_says k ws n) (eqb (read_says k ws n) 0) refl (dead_of k (table_of k ws) n)
  where
    go : (a : ℕ) (b : Bool) → eqb a 0 ≡ b → (d : Bool) → (cond b (cond d (life 0 1 (map (λ t. 0) k.tops)) (life 0 0 (first_won k (table_of k ws) n))) (life a 0 (map (λ t. 0) k.tops))).answer ≡ a
    go a true e true = sym (eqb-true a 0 e)
    go a true e false = sym (eqb-true a 0 e)
    go a false e d = refl

-- ALL THAT IS CLAIMED
pub alive : Alive
alive = record { lives = lives; of_rule = of_rule; answer = answer; refused = refused }

-- What insert and delete make of a table: which rules stand, how many, within the limits, in how many cells.
-- Assumes nothing.
use mathlib.Core.Path.{◌≡◌, refl, ap, ◌∙◌}
use mathlib.Core.Logic.{◌⊎◌, inl, inr, ⊎_elim}
use mathlib.Core.Bool.{Bool, true, false, cond, not}
use mathlib.Core.List.{List, [], ◌∷◌}
use Prim.Native.Nat.{ℕ, suc, ◌≤◌, ◌<◌}
use native.Mathlib.Omega.{arith}
use lib.Dec.{ltb, leb, eqb}
use lib.ListN.{length}
use borrow.Author.Tests.{ltb-true, ltb-false, leb-false, eqb-true, eqb-false, ne_eqb, not-true, not-false}
use Rattle.model.specs.Lists.{In, least}
use Rattle.model.specs.Rules.{weight}
use Rattle.model.specs.Table.{Kind, Rule, Table, number_of, fields, default_rule, every_rule, cells_of, rule_right, rising_from, within, stands, added, removed, with_rule, without, insert_answer}
use Rattle.model.proofs.Tests.{by_test}
use Rattle.model.proofs.Keep.{in_keep, from_keep, keep_every, length_keep, in_left, in_right}
use Rattle.model.proofs.Fewer.{fewer}
use Rattle.model.proofs.Limits.{rises, to_rise, rising_from_lem, in_rising, standing, not_standing, from_within, to_within, from_every}

-- INSERT: the rule, and those that stood
pub from_added : (r s : Rule) (rs : List Rule) → In s (added r rs) → (s ≡ r) ⊎ In s rs
from_added r s [] m = m
from_added r s (x ∷ rs) m = go (from_added r s rs) (ltb x.number r.number) m
  where
    go : (In s (added r rs) → (s ≡ r) ⊎ In s rs) → (b : Bool) → In s (cond b (x ∷ added r rs) (r ∷ x ∷ rs)) → (s ≡ r) ⊎ In s (x ∷ rs)
    go ih true (inl q) = inr (inl q)
    go ih true (inr n) = ⊎_elim (λ (q : s ≡ r). inl q) (λ (k : In s rs). inr (inr k)) (ih n)
    go ih false n = n

pub in_added : (r s : Rule) (rs : List Rule) → (s ≡ r) ⊎ In s rs → In s (added r rs)
in_added r s [] m = m
in_added r s (x ∷ rs) m = go (in_added r s rs) (ltb x.number r.number) m
  where
    go : ((s ≡ r) ⊎ In s rs → In s (added r rs)) → (b : Bool) → (s ≡ r) ⊎ In s (x ∷ rs) → In s (cond b (x ∷ added r rs) (r ∷ x ∷ rs))
    go ih true (inl q) = inr (ih (inl q))
    go ih true (inr (inl q)) = inl q
    go ih true (inr (inr n)) = inr (ih (inr n))
    go ih false n = n

pub length_added : (r : Rule) (rs : List Rule) → length (added r rs) ≡ suc (length rs)
length_added r [] = refl
length_added r (x ∷ rs) = by_test (ltb x.number r.number) (λ t. simp t (ap suc (length_added r rs))) (λ t. simp t)

added_rising : (b : ℕ) (r : Rule) (rs : List Rule) → b ≤ r.number → r.number ≤ 65534 → ((s : Rule) → In s rs → s.number ≡ r.number → ⊥) → rising_from b rs ≡ true → rising_from b (added r rs) ≡ true
added_rising b r [] l m n h = to_rise b r [] l m refl
added_rising b r (x ∷ rs) l m n h =
    let t = rises b x rs h in
    by_test (ltb x.number r.number)
    (λ q. let z = ltb-true x.number r.number q in simp q (to_rise b x (added r rs) t.0 t.1 (added_rising (suc x.number) r rs z m (λ s k. n s (inr k)) t.2)))
    (λ q.
    let z = ltb-false x.number r.number q in
    let y : r.number < x.number = by_test (eqb x.number r.number) (λ e. absurd (n x (inl refl) (eqb-true x.number r.number e))) (λ e. let v = eqb-false x.number r.number e in omega arith) in
    simp q (to_rise b r (x ∷ rs) l m (to_rise (suc r.number) x rs y t.1 t.2)))

-- what the answer 0 says
pub record Taken (k : Kind) (c : ℕ) (t : Table) (r : Rule) : Type 0 where
  pub number : r.number ≤ 65534
  pub right : rule_right k r ≡ true
  pub fresh : stands r.number t.rules ≡ false
  pub room : length t.rules < k.most
  pub cells : cells_of k (with_rule r t) ≤ c

cond_zero : (b : Bool) (a x : ℕ) → 0 < a → cond b a x ≡ 0 → (b ≡ false) × (x ≡ 0)
cond_zero true a x p h = absurd (omega arith)
cond_zero false a x p h = (refl, h)

pub taken : (k : Kind) (c : ℕ) (t : Table) (r : Rule) → insert_answer k c t r ≡ 0 → Taken k c t r
taken k c t r h =
    let z1 = cond_zero (ltb 65534 r.number) 1 _ (omega arith) h in
    let z2 = cond_zero (not (rule_right k r)) 2 _ (omega arith) z1.1 in
    let z3 = cond_zero (stands r.number t.rules) 3 _ (omega arith) z2.1 in
    let z5 = cond_zero (leb k.most (length t.rules)) 5 _ (omega arith) z3.1 in
    let z6 = cond_zero (ltb c (cells_of k (with_rule r t))) 6 0 (omega arith) z5.1 in
    record {
      number = ltb-false 65534 r.number z1.0;
      right = not-false (rule_right k r) z2.0;
      fresh = z3.0;
      room = leb-false k.most (length t.rules) z5.0;
      cells = ltb-false c (cells_of k (with_rule r t)) z6.0;
    }

pub insert_within : (k : Kind) (c : ℕ) (t : Table) (r : Rule) → within k t ≡ true → insert_answer k c t r ≡ 0 → within k (with_rule r t) ≡ true
insert_within k c t r h a =
    let w = from_within k t h in
    let v = taken k c t r a in
    to_within k (with_rule r t) (record {
      fits = omega (arith, length_added r t.rules, v.room);
      rising = added_rising 0 r t.rules (omega arith) v.number (not_standing r.number t.rules v.fresh) w.rising;
      right = λ s m. ⊎_elim (λ (q : s ≡ r). ap (rule_right k) q ∙ v.right) (λ (n : In s t.rules). w.right s n) (from_added r s t.rules m);
    })

-- DELETE: the rules of another number
pub from_removed : (n : ℕ) (rs : List Rule) (s : Rule) → In s (removed n rs) → In s rs × (s.number ≡ n → ⊥)
from_removed n rs s m = let t = from_keep (λ r. not (eqb r.number n)) rs s m in (t.0, eqb-false s.number n (not-true (eqb s.number n) t.1))

pub in_removed : (n : ℕ) (rs : List Rule) (s : Rule) → In s rs → (s.number ≡ n → ⊥) → In s (removed n rs)
in_removed n rs s m e = in_keep (λ r. not (eqb r.number n)) rs s m (rw (ne_eqb s.number n e))

-- none of which goes where the number does not stand
pub removed_none : (n : ℕ) (rs : List Rule) → ((s : Rule) → In s rs → s.number ≡ n → ⊥) → removed n rs ≡ rs
removed_none n rs h = keep_every (λ r. not (eqb r.number n)) rs (λ s m. rw (ne_eqb s.number n (h s m)))

-- and one where it does
pub length_removed : (b n : ℕ) (rs : List Rule) → rising_from b rs ≡ true → stands n rs ≡ true → suc (length (removed n rs)) ≡ length rs
length_removed b n [] h s = absurd (standing n [] s).1
length_removed b n (r ∷ rs) h s =
    let t = (rises b r rs h).2 in
    by_test (eqb r.number n)
    (λ q. simp q (ap (λ (l : List Rule). suc (length l)) (removed_none n rs (λ x m e. omega (arith, (in_rising (suc r.number) rs t x m).0, eqb-true r.number n q)))))
    (λ q. simp q (ap suc (length_removed (suc r.number) n rs t (rw q at s))))

removed_rising : (n b : ℕ) (rs : List Rule) → rising_from b rs ≡ true → rising_from b (removed n rs) ≡ true
removed_rising n b [] h = refl
removed_rising n b (r ∷ rs) h =
    let t = rises b r rs h in
    let i = removed_rising n (suc r.number) rs t.2 in
    by_test (eqb r.number n)
    (λ q. simp q (rising_from_lem (suc r.number) b (removed n rs) (omega arith) i))
    (λ q. simp q (to_rise b r (removed n rs) t.0 t.1 i))

pub delete_within : (k : Kind) (n : ℕ) (t : Table) → within k t ≡ true → within k (without n t) ≡ true
delete_within k n t h =
    let w = from_within k t h in
    to_within k (without n t) (record {
      fits = omega (arith, w.fits, length_keep (λ r. not (eqb r.number n)) t.rules);
      rising = removed_rising n 0 t.rules w.rising;
      right = λ s m. w.right s (from_removed n t.rules s m).0;
    })

-- "Deleting never needs more cells than before"
pub delete_fewer : (k : Kind) (n : ℕ) (t : Table) → cells_of k (without n t) ≤ cells_of k t
delete_fewer k n t = fewer weight weight (least number_of (default_rule k t.action)) (least number_of (default_rule k t.action)) (λ xs ys s. omega arith) (fields k) (every_rule k (without n t)) (every_rule k t)
    (λ s m. ⊎_elim
    (λ (i : In s (removed n t.rules)). in_left t.rules (default_rule k t.action ∷ []) s (from_removed n t.rules s i).0)
    (λ (q : s ≡ default_rule k t.action). in_right t.rules (default_rule k t.action ∷ []) s (inl q))
    (from_every k (without n t) s m))

-- The limits of a table: what they say of each rule, that a number stands for one rule, and that a table within them is given by the set of its rules.
-- Assumes nothing.
use mathlib.Core.Path.{◌≡◌, refl, sym, ap, ap₂, subst, ◌∙◌}
use mathlib.Core.Logic.{◌⊎◌, inl, inr, ⊎_elim}
use mathlib.Core.Bool.{true, false}
use mathlib.Core.List.{List, [], ◌∷◌}
use Prim.Native.Nat.{ℕ, zero, suc, ◌≤◌, ◌<◌}
use native.Mathlib.Omega.{arith}
use lib.Dec.{leb, eqb}
use lib.ListN.{length, get_or}
use borrow.Author.Tests.{leb-true, le-leb, eqb-true, eqb-false, ne_eqb}
use Rattle.model.specs.Lists.{In, Sub, Same}
use Rattle.model.specs.Table.{Kind, Rule, Table, number_of, default_rule, every_rule, rule_right, rising_from, all_right, within, stands, rule_at}
use Rattle.model.proofs.Tests.{by_test, never, and_left, and_right, and_both}
use Rattle.model.proofs.Keep.{from_append, in_get_d}
use Rattle.model.proofs.Sets.{Distinct}

-- rising numbers, a rule at a time
pub rises : (b : ℕ) (r : Rule) (rs : List Rule) → rising_from b (r ∷ rs) ≡ true → (b ≤ r.number) × (r.number ≤ 65534) × (rising_from (suc r.number) rs ≡ true)
rises b r rs h =
    let t = and_right (leb b r.number) _ h in
    (leb-true b r.number (and_left (leb b r.number) _ h), leb-true r.number 65534 (and_left (leb r.number 65534) _ t), and_right (leb r.number 65534) _ t)

pub to_rise : (b : ℕ) (r : Rule) (rs : List Rule) → b ≤ r.number → r.number ≤ 65534 → rising_from (suc r.number) rs ≡ true → rising_from b (r ∷ rs) ≡ true
to_rise b r rs l m h = rw (le-leb b r.number l, le-leb r.number 65534 m) h

pub rising_from_lem : (b c : ℕ) (rs : List Rule) → c ≤ b → rising_from b rs ≡ true → rising_from c rs ≡ true
rising_from_lem b c [] l h = refl
rising_from_lem b c (r ∷ rs) l h = let t = rises b r rs h in to_rise c r rs (omega arith) t.1 t.2

pub in_rising : (b : ℕ) (rs : List Rule) → rising_from b rs ≡ true → (r : Rule) → In r rs → (b ≤ r.number) × (r.number ≤ 65534)
in_rising b [] h r m = absurd m
in_rising b (x ∷ rs) h r (inl q) = let t = rises b x rs h in let e = ap number_of q in (omega arith, omega arith)
in_rising b (x ∷ rs) h r (inr m) = let t = rises b x rs h in let i = in_rising (suc x.number) rs t.2 r m in (omega arith, i.1)

-- a number stands for one rule
pub one_number : (b : ℕ) (rs : List Rule) → rising_from b rs ≡ true → (r s : Rule) → In r rs → In s rs → r.number ≡ s.number → r ≡ s
one_number b [] h r s m n e = absurd m
one_number b (x ∷ rs) h r s (inl p) (inl q) e = p ∙ sym q
one_number b (x ∷ rs) h r s (inl p) (inr n) e = absurd (omega (arith, ap number_of p, (in_rising (suc x.number) rs (rises b x rs h).2 s n).0))
one_number b (x ∷ rs) h r s (inr m) (inl q) e = absurd (omega (arith, ap number_of q, (in_rising (suc x.number) rs (rises b x rs h).2 r m).0))
one_number b (x ∷ rs) h r s (inr m) (inr n) e = one_number (suc x.number) rs (rises b x rs h).2 r s m n e

-- and a rule at a later place has a greater one
pub rising_places : (b : ℕ) (rs : List Rule) → rising_from b rs ≡ true → (i j : ℕ) (d : Rule) → i < j → j < length rs → (get_or rs i d).number < (get_or rs j d).number
rising_places b [] h i j d l m = absurd (omega arith)
rising_places b (x ∷ rs) h i zero d l m = absurd (omega arith)
rising_places b (x ∷ rs) h zero (suc j) d l m = (in_rising (suc x.number) rs (rises b x rs h).2 (get_or rs j d) (in_get_d rs j d (omega arith))).0
rising_places b (x ∷ rs) h (suc i) (suc j) d l m = rising_places (suc x.number) rs (rises b x rs h).2 i j d (omega arith) (omega arith)

-- rules by rising number are given by their set
pub rising_set : (b c : ℕ) (rs ss : List Rule) → rising_from b rs ≡ true → rising_from c ss ≡ true → Same rs ss → rs ≡ ss
rising_set b c [] [] g h q = refl
rising_set b c [] (s ∷ ss) g h q = absurd (q.1 s (inl refl))
rising_set b c (r ∷ rs) [] g h q = absurd (q.0 r (inl refl))
rising_set b c (r ∷ rs) (s ∷ ss) g h q =
    ap₂ ◌∷◌ heads (rising_set (suc r.number) (suc s.number) rs ss up up' (tail r rs s ss heads up q.0, tail s ss r rs (sym heads) up' q.1))
  where
    up : rising_from (suc r.number) rs ≡ true
    up = (rises b r rs g).2

    up' : rising_from (suc s.number) ss ≡ true
    up' = (rises c s ss h).2

    heads : r ≡ s
    heads = ⊎_elim (λ (e : r ≡ s). e)
        (λ (m : In r ss). ⊎_elim (λ (e : s ≡ r). sym e) (λ (n : In s rs). absurd (omega (arith, (in_rising (suc s.number) ss up' r m).0, (in_rising (suc r.number) rs up s n).0))) (q.1 s (inl refl)))
        (q.0 r (inl refl))

    tail : (x : Rule) (xs : List Rule) (y : Rule) (ys : List Rule) → x ≡ y → rising_from (suc x.number) xs ≡ true → Sub (x ∷ xs) (y ∷ ys) → Sub xs ys
    tail x xs y ys e u sub z m = ⊎_elim (λ (w : z ≡ y). absurd (omega (arith, ap number_of e, ap number_of w, (in_rising (suc x.number) xs u z m).0))) (λ (n : In z ys). n) (sub z (inr m))

-- whether a number stands
pub standing : (n : ℕ) (rs : List Rule) → stands n rs ≡ true → (r : Rule) × In r rs × (r.number ≡ n)
standing n [] h = never (sym h)
standing n (r ∷ rs) h = by_test (eqb r.number n)
    (λ t. (r, inl refl, eqb-true r.number n t))
    (λ t. let s = standing n rs (rw t at h) in (s.0, inr s.1, s.2))

pub not_standing : (n : ℕ) (rs : List Rule) → stands n rs ≡ false → (r : Rule) → In r rs → r.number ≡ n → ⊥
not_standing n [] h r m e = m
not_standing n (x ∷ rs) h r m e = by_test (eqb x.number n)
    (λ t. never (rw t at h))
    (λ t. ⊎_elim (λ (q : r ≡ x). eqb-false x.number n t (ap number_of (sym q) ∙ e)) (λ (k : In r rs). not_standing n rs (rw t at h) r k e) m)

-- the rule of a number: one of the rules where it stands, and else d
pub rule_in_lem : (d : Rule) (n : ℕ) (rs : List Rule) → stands n rs ≡ true → In (rule_at d n rs) rs × ((rule_at d n rs).number ≡ n)
rule_in_lem d n [] s = never (sym s)
rule_in_lem d n (x ∷ rs) s = by_test (eqb x.number n)
    (λ t. rw t (inl refl, eqb-true x.number n t))
    (λ t.
    let i = rule_in_lem d n rs (rw t at s) in
    let e : rule_at d n (x ∷ rs) ≡ rule_at d n rs = rw t in
    subst (λ (r : Rule). In r (x ∷ rs) × (r.number ≡ n)) (sym e) (inr i.0, i.1))

pub rule_none : (d : Rule) (n : ℕ) (rs : List Rule) → ((r : Rule) → In r rs → r.number ≡ n → ⊥) → rule_at d n rs ≡ d
rule_none d n [] h = refl
rule_none d n (x ∷ rs) h = rw (ne_eqb x.number n (h x (inl refl))) (rule_none d n rs (λ r m. h r (inr m)))

-- a table within the limits
pub record Within (k : Kind) (rs : List Rule) : Type 0 where
  pub fits : length rs ≤ k.most
  pub rising : rising_from 0 rs ≡ true
  pub right : (r : Rule) → In r rs → rule_right k r ≡ true

pub from_within : (k : Kind) (t : Table) → within k t ≡ true → Within k t.rules
from_within k t h =
    let n = leb (length t.rules) k.most in
    let u = and_right n _ h in
    record {
      fits = leb-true (length t.rules) k.most (and_left n _ h);
      rising = and_left (rising_from 0 t.rules) _ u;
      right = each t.rules (and_right (rising_from 0 t.rules) _ u);
    }
  where
    each : (rs : List Rule) → all_right k rs ≡ true → (r : Rule) → In r rs → rule_right k r ≡ true
    each [] a r m = absurd m
    each (x ∷ rs) a r (inl q) = ap (rule_right k) q ∙ and_left (rule_right k x) _ a
    each (x ∷ rs) a r (inr m) = each rs (and_right (rule_right k x) _ a) r m

pub to_within : (k : Kind) (t : Table) → Within k t.rules → within k t ≡ true
to_within k t w = rw (le-leb (length t.rules) k.most w.fits, w.rising) (all t.rules w.right)
  where
    all : (rs : List Rule) → ((r : Rule) → In r rs → rule_right k r ≡ true) → all_right k rs ≡ true
    all [] h = refl
    all (r ∷ rs) h = and_both (rule_right k r) (all_right k rs) (h r (inl refl)) (all rs (λ s m. h s (inr m)))

-- a rule of all the rules is one of the table, or the default
pub from_every : (k : Kind) (t : Table) (r : Rule) → In r (every_rule k t) → In r t.rules ⊎ (r ≡ default_rule k t.action)
from_every k t r m =
    ⊎_elim (λ (i : In r t.rules). inl i) (λ (i : In r (default_rule k t.action ∷ [])). ⊎_elim (λ (q : r ≡ default_rule k t.action). inr q) (λ (z : ⊥). absurd z) i)
    (from_append t.rules (default_rule k t.action ∷ []) r m)

-- no two of them have one number
pub distinct : (k : Kind) (t : Table) → within k t ≡ true → Distinct number_of (default_rule k t.action) (every_rule k t)
distinct k t h r s m n e = go (cases r m) (cases s n)
  where
    up : rising_from 0 t.rules ≡ true
    up = (from_within k t h).rising

    cases : (x : Rule) → In x (default_rule k t.action ∷ every_rule k t) → In x t.rules ⊎ (x ≡ default_rule k t.action)
    cases x (inl q) = inr q
    cases x (inr i) = from_every k t x i

    go : In r t.rules ⊎ (r ≡ default_rule k t.action) → In s t.rules ⊎ (s ≡ default_rule k t.action) → r ≡ s
    go (inl i) (inl j) = one_number 0 t.rules up r s i j e
    go (inl i) (inr q) = absurd (omega (arith, ap number_of q, (in_rising 0 t.rules up r i).1))
    go (inr p) (inl j) = absurd (omega (arith, ap number_of p, (in_rising 0 t.rules up s j).1))
    go (inr p) (inr q) = p ∙ sym q

-- the same set of rules is the same list
pub same_set : (k : Kind) (t s : Table) → within k t ≡ true → within k s ≡ true → Same t.rules s.rules → t.rules ≡ s.rules
same_set k t s g h q = rising_set 0 0 t.rules s.rules (from_within k t g).rising (from_within k s h).rising q

-- The blocks of a table in plain words: in each field those of the ends of the rules that cover the location before it, level by level, and under each end what the rules take that cover it.
-- Assumes nothing.
use mathlib.Core.Path.{◌≡◌, refl, sym, ap, ap₂, subst, ◌∙◌}
use mathlib.Core.Logic.{inl, inr, ⊎_elim, ◌↔◌}
use mathlib.Core.Bool.{true}
use mathlib.Core.List.{List, [], ◌∷◌, map}
use Prim.Native.Nat.{ℕ, zero, suc, ◌+◌, ◌≤◌, ◌<◌}
use native.Mathlib.Omega.{arith}
use lib.Dec.{ltb, leb}
use lib.ListN.{length}
use borrow.Author.Tests.{ltb-true, ltb-false, leb-true, leb-false, le-leb}
use Rattle.model.specs.Lists.{In, keep, sum}
use Rattle.model.specs.Rules.{covers, ends, Tree, names, stop, loc}
use Rattle.model.specs.Table.{Kind, Rule, Table, Shaped, fields_from, fields, field_of, every_rule, within}
use Rattle.model.proofs.Tests.{by_test, and_left, and_right, and_both}
use Rattle.model.proofs.Keep.{in_keep, from_keep}
use Rattle.model.proofs.Ends.{rising_same, in_ends, from_ends, ends_rising}
use Rattle.layout.specs.Named.{rename, stored}
use Rattle.blocks.specs.Blocks.{depth, least_from, parts, blocks_up, own_blocks, under_blocks, blocks}
use Rattle.blocks.specs.Sums.{blocks_for, blocks_sum}
use Rattle.blocks.proofs.Levels.{depth_low, depth_step}
use Rattle.blocks.proofs.Sums.{tree_blocks_lem}
use Rattle.image.proofs.Table.{blank, width_rename, shape}
use Rattle.demands.specs.Calls.{field_count, low_at, high_at}
use Rattle.demands.specs.Frozen.{Stacks, none, one, more, Takes}

-- THE BLOCKS OF m ENDS
low : (m : ℕ) → 0 < m → m ≤ 8 → blocks_for m ≡ 1
unfolding blocks_up
low m p h = rw (depth_low m h) (omega arith)

high : (m : ℕ) → 8 < m → blocks_for m ≡ parts m + blocks_for (parts m)
unfolding blocks_up
high m h = rw (depth_step m h) (omega arith)

nothing : blocks_for 0 ≡ 0
unfolding depth least_from blocks_up
nothing = refl

-- f is at least m: a bound for the levels
stacked : (f m : ℕ) → m ≤ f → Stacks m (blocks_for m)
stacked zero m h = let z : m ≡ 0 = omega arith in rw (z, nothing) none
stacked (suc f) m h = by_test (leb m 8)
    (λ t. by_test (ltb 0 m)
    (λ p. let a = ltb-true 0 m p in let b = leb-true m 8 t in rw (low m a b) (one {m = m} a b))
    (λ p. let z : m ≡ 0 = omega (arith, ltb-false 0 m p) in rw (z, nothing) none))
    (λ t. let a = leb-false m 8 t in rw (high m a) (more {m = m} {p = parts m} a (omega arith, omega arith) (stacked f (parts m) (omega arith))))

-- THE BLOCKS OF SOME RULES, from field i on
taken : (ts : List ℕ) (i : ℕ) (rs : List Rule) (R : Rule → Type 0) → ((r : Rule) → In r rs ↔ R r) → Takes (length ts) R i (blocks_sum (fields_from i ts) rs)
taken [] i rs R q = refl
taken (t ∷ ts) i rs R q =
    let f = field_of i t in
    record {
      ends = ends f rs;
      listed = λ e. (
        (λ m. let x = from_ends f rs e m in (x.0, (q x.0).0 x.1, ⊎_elim (λ y. inl y) (λ y. inr (omega arith)) x.2)),
        (λ x. in_ends f rs x.0 e ((q x.0).1 x.1) (⊎_elim (λ y. inl y) (λ y. inr (omega arith)) x.2)),
      );
      distinct = ends_rising f rs;
      own = blocks_for (length (ends f rs));
      stacks = stacked (length (ends f rs)) (length (ends f rs)) (omega arith);
      under = λ e. blocks_sum (fields_from (suc i) ts) (keep (covers f e) rs);
      covering = λ e m. taken ts (suc i) (keep (covers f e) rs) (λ r. R r × (low_at r i ≤ e) × (e ≤ high_at r i)) (λ r. (
        (λ n. let x = from_keep (covers f e) rs r n in ((q r).0 x.0, leb-true (low_at r i) e (and_left _ _ x.1), leb-true e (high_at r i) (and_right (leb (low_at r i) e) _ x.1))),
        (λ x. in_keep (covers f e) rs r ((q r).1 x.0) (and_both _ _ (le-leb (low_at r i) e x.1) (le-leb e (high_at r i) x.2))),
      ));
      summed = refl;
    }

pub takes : (k : Kind) (rs : List Rule) → Takes (field_count k) (λ r. In r rs) 0 (blocks_sum (fields k) rs)
takes k rs = taken k.tops 0 rs (λ r. In r rs) (λ r. (λ m. m, λ m. m))

-- NO OTHER NUMBER is so many
stacks_one : {m n a b : ℕ} → m ≡ n → Stacks m a → Stacks n b → a ≡ b
stacks_one e none none = refl
stacks_one e none (one p h) = absurd (omega arith)
stacks_one e none (more p q t) = absurd (omega arith)
stacks_one e (one p h) none = absurd (omega arith)
stacks_one e (one p h) (one p' h') = refl
stacks_one e (one p h) (more p' q' t') = absurd (omega arith)
stacks_one e (more p q t) none = absurd (omega arith)
stacks_one e (more p q t) (one p' h') = absurd (omega arith)
stacks_one e (more {p = x} p q t) (more {p = y} p' q' t') = let z : x ≡ y = omega (arith, q.0, q.1, q'.0, q'.1) in ap₂ ◌+◌ z (stacks_one z t t')

sums_one : (f g : ℕ → ℕ) (xs : List ℕ) → ((e : ℕ) → In e xs → f e ≡ g e) → sum (map f xs) ≡ sum (map g xs)
sums_one f g [] h = refl
sums_one f g (x ∷ xs) h = ap₂ ◌+◌ (h x (inl refl)) (sums_one f g xs (λ e m. h e (inr m)))

pub takes_one : (left : ℕ) (R : Rule → Type 0) (i n m : ℕ) → Takes left R i n → Takes left R i m → n ≡ m
takes_one zero R i n m a b = a ∙ sym b
takes_one (suc left) R i n m a b =
    let q = rising_same a.ends b.ends a.distinct b.distinct (λ e h. (b.listed e).1 ((a.listed e).0 h), λ e h. (a.listed e).1 ((b.listed e).0 h)) in
    a.summed
    ∙ ap₂ ◌+◌ (stacks_one (ap length q) a.stacks b.stacks)
    (sums_one a.under b.under a.ends (λ e h. takes_one left _ (suc i) _ _ (a.covering e h) (b.covering e (subst (In e) q h))) ∙ ap (λ l. sum (map b.under l)) q)
    ∙ sym b.summed

-- THE BLOCKS OF A TABLE's tree, which do not depend on what it names
module _ (h : ℕ → ℕ) where
  own_rename : (t : Tree ℕ) → own_blocks (rename h t) ≡ own_blocks t
  unfolding own_blocks
  own_rename (names a) = refl
  own_rename stop = refl
  own_rename (loc e u t) = rw (width_rename h t)

  under_rename : (t : Tree ℕ) → under_blocks (rename h t) ≡ under_blocks t
  unfolding under_blocks
  under_rename (names a) = refl
  under_rename stop = refl
  under_rename (loc e u t) = rw (own_rename u, under_rename u, under_rename t)

pub stored_blocks : (k : Kind) (s : Shaped k) (t : Table) → within k t ≡ true → blocks (stored k t) ≡ blocks_sum (fields k) (every_rule k t)
stored_blocks k s t right =
    sym (ap₂ ◌+◌ (own_rename blank (stored k t)) (under_rename blank (stored k t)))
    ∙ ap blocks (shape k s t right)
    ∙ tree_blocks_lem blank (fields k) (every_rule k t)

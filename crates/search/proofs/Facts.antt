-- What specs/Facts.antt claims. By the number that a walk gathers: it is 1 exactly for the values for which the rule wins, or it is the count of their reads.
-- Assumes nothing.
use mathlib.Core.Path.{◌≡◌, refl, sym, ap, ◌∙◌}
use mathlib.Core.Logic.{inr}
use mathlib.Core.Bool.{true, false}
use mathlib.Core.List.{List, [], ◌∷◌}
use mathlib.Core.Option.{some}
use Prim.Native.Nat.{ℕ, ◌<◌}
use native.Mathlib.Omega.{arith}
use lib.Dec.{ltb, eqb}
use borrow.Author.Tests.{eqb-true, eqb-false, eq-eqb, ne_eqb}
use Rattle.model.specs.Lists.{In}
use Rattle.model.specs.Rules.{Tree, names, stop, loc, found, reads}
use Rattle.model.specs.Table.{Kind, Rule, Table, number_of, every_rule, tree_of, winner_of, reads_of, within}
use Rattle.model.proofs.Tests.{by_test, never}
use Rattle.model.proofs.Limits.{distinct}
use Rattle.model.proofs.Decide.{finds, reads_right, winner_in}
use Rattle.search.specs.Search.{Less, score, most, wins, nothing, dead_of, first_won, most_reads, first_worst}
use Rattle.search.specs.Facts.{InTops, Never, Least, Means, Won, Worst, Searches}
use Rattle.search.proofs.First.{from_zero, score_most, first_fits, first_most, lesser}
use Rattle.search.proofs.Topped.{topped_of, fits_in, tops_right}

-- a walk that gathers nothing on its way gathers what is said of what it finds
score_found : {B : Type 0} (g : B → ℕ) (t : Tree B) (vs : List ℕ) (b : B) → found t vs ≡ some b → score 0 g t vs ≡ g b
unfolding score
score_found g (names c) vs b h = let q : c ≡ b = cc in rw q
score_found g stop vs b h = never cc
score_found g (loc e u t) [] b h = never cc
score_found g (loc e u t) (v ∷ vs) b h = by_test (ltb e v)
    (λ z. rw z (omega (arith, score_found g t (v ∷ vs) b (rw z at h))))
    (λ z. rw z (omega (arith, score_found g u vs b (rw z at h))))

-- a walk that gathers 1 at each location gathers its reads
score_reads : (t : Tree Rule) (vs : List ℕ) → score 1 nothing t vs ≡ reads t vs
unfolding score
score_reads (names c) vs = refl
score_reads stop vs = refl
score_reads (loc e u t) [] = refl
score_reads (loc e u t) (v ∷ vs) = by_test (ltb e v)
    (λ z. rw z (omega (arith, score_reads t (v ∷ vs))))
    (λ z. rw z (omega (arith, score_reads u vs)))

-- RULES THAT NEVER WIN
module _ (k : Kind) (t : Table) (w : within k t ≡ true) (n : ℕ) (Q : List ℕ → Type 0) (means : Means k t n Q) where
  -- a walk for values within the tops gathers 1 where the rule wins, and else 0
  gathers : (vs : List ℕ) → InTops k vs → score 0 (wins n) (tree_of k t) vs ≡ wins n (winner_of k t vs)
  gathers vs h = score_found (wins n) (tree_of k t) vs (winner_of k t vs) (finds k t vs (tops_right k vs h))

  winning : (vs : List ℕ) → InTops k vs → Q vs → score 0 (wins n) (tree_of k t) vs ≡ 1
  winning vs h q = rw (gathers vs h, eq-eqb (winner_of k t vs).number n ((means vs h).1 q))

  losing : (vs : List ℕ) → InTops k vs → (Q vs → ⊥) → score 0 (wins n) (tree_of k t) vs ≡ 0
  losing vs h q = rw (gathers vs h, ne_eqb (winner_of k t vs).number n (λ e. q ((means vs h).0 e)))

  dead_never : dead_of k t n ≡ true → Never k Q
  dead_never d vs h q = omega (arith, eqb-true (most 0 (wins n) (tree_of k t)) 0 d, winning vs h q, score_most 0 (wins n) (tree_of k t) vs)

  first_in : InTops k (first_won k t n)
  first_in = fits_in k (first_won k t n) (first_fits 0 (wins n) (topped_of k t w))

  live_wins : dead_of k t n ≡ false → Q (first_won k t n)
  live_wins d = by_test (eqb (winner_of k t (first_won k t n)).number n)
      (λ z. (means (first_won k t n) first_in).0 (eqb-true (winner_of k t (first_won k t n)).number n z))
      (λ z. absurd (eqb-false (most 0 (wins n) (tree_of k t)) 0 d
      (sym (first_most 0 (wins n) (topped_of k t w)) ∙ losing (first_won k t n) first_in (λ q. eqb-false (winner_of k t (first_won k t n)).number n z ((means (first_won k t n) first_in).1 q)))))

  -- a lesser record that wins would gather 1, and so no less than the first
  live_least : dead_of k t n ≡ false → Least k Q (first_won k t n)
  live_least d = record {
    within = first_in;
    holds = live_wins d;
    least = λ vs h m q. omega (arith, winning vs h q, lesser 0 (wins n) (topped_of k t w) vs (from_zero vs) m, winning (first_won k t n) first_in (live_wins d), first_most 0 (wins n) (topped_of k t w));
  }

  won : Won k t n Q
  won = record {
    dead = (dead_never, λ h. by_test (dead_of k t n) (λ z. z) (λ z. absurd (h (first_won k t n) first_in (live_wins z))));
    live = live_least;
  }

-- the winner of a rule's number is the rule
means_rule : (k : Kind) (t : Table) → within k t ≡ true → (r : Rule) → In r (every_rule k t) → Means k t r.number (λ vs. winner_of k t vs ≡ r)
means_rule k t w r m vs h = (λ q. distinct k t w (winner_of k t vs) r (inr (winner_in k t vs (tops_right k vs h))) (inr m) q, λ q. ap number_of q)

-- WORST READS
module _ (k : Kind) (t : Table) (w : within k t ≡ true) where
  read : (vs : List ℕ) → InTops k vs → score 1 nothing (tree_of k t) vs ≡ reads_of k t vs
  read vs h = score_reads (tree_of k t) vs ∙ reads_right k t vs (tops_right k vs h)

  fewer : (vs : List ℕ) → InTops k vs → Less vs (first_worst k t) → reads_of k t vs < most_reads k t
  fewer vs h m = rw (← read vs h) (lesser 1 nothing (topped_of k t w) vs (from_zero vs) m)

  worst_in : InTops k (first_worst k t)
  worst_in = fits_in k (first_worst k t) (first_fits 1 nothing (topped_of k t w))

  worst : Worst k t
  worst = record {
    within = worst_in;
    takes = sym (read (first_worst k t) worst_in) ∙ first_most 1 nothing (topped_of k t w);
    no_more = λ vs h. rw (← read vs h) (score_most 1 nothing (tree_of k t) vs);
    fewer = fewer;
  }

-- ALL THAT IS CLAIMED
pub searches : Searches
searches = record { won = won; means = means_rule; worst = worst }

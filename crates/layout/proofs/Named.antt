-- A tree with other names: as many cells, as many reads, and a walk finds the other name. The ends and the kept part of mapped rules. What a walk finds is what is named for some part of the rules.
-- Assumes nothing.
use mathlib.Core.Path.{◌≡◌, refl, sym, ap, ◌∙◌}
use mathlib.Core.Logic.{inl, inr}
use mathlib.Core.Bool.{Bool, true, ◌&&◌}
use mathlib.Core.List.{List, [], ◌∷◌, map}
use mathlib.Core.Option
use mathlib.Core.Option.{some, some-ne-none}
use Prim.Native.Nat.{ℕ}
use lib.Dec.{ltb}
use Rattle.model.specs.Lists.{In, keep}
use Rattle.model.specs.Rules.{Field, covers, ends, Tree, names, stop, loc, chain, tree, cells, found, reads}
use Rattle.model.proofs.Tests.{by_test}
use Rattle.model.proofs.Keep.{keep_every, keep_keep}
use Rattle.layout.specs.Named.{rename}

module _ {A B : Type 0} (h : A → B) where
  pub cells_rename : (t : Tree A) → cells (rename h t) ≡ cells t
  cells_rename (names a) = refl
  cells_rename stop = refl
  cells_rename (loc e u t) = rw (cells_rename u, cells_rename t)

  pub reads_rename : (t : Tree A) (vs : List ℕ) → reads (rename h t) vs ≡ reads t vs
  reads_rename (names a) vs = refl
  reads_rename stop vs = refl
  reads_rename (loc e u t) [] = refl
  reads_rename (loc e u t) (v ∷ vs) = rw (reads_rename t (v ∷ vs), reads_rename u vs)

  pub found_rename : (t : Tree A) (vs : List ℕ) → found (rename h t) vs ≡ Option.map h (found t vs)
  found_rename (names a) vs = refl
  found_rename stop vs = refl
  found_rename (loc e u t) [] = refl
  found_rename (loc e u t) (v ∷ vs) = by_test (ltb e v) (λ q. simp q (found_rename t (v ∷ vs))) (λ q. simp q (found_rename u vs))

  -- a chain is renamed location by location
  pub chain_rename : (u : ℕ → Tree A) (es : List ℕ) → rename h (chain u es) ≡ chain (λ e. rename h (u e)) es
  chain_rename u [] = refl
  chain_rename u (e ∷ es) = ap (loc e (rename h (u e))) (chain_rename u es)

  -- the part of a list that passes a test, mapped
  pub map_keep : (p : A → Bool) (q : B → Bool) (xs : List A) → ((x : A) → In x xs → p x ≡ q (h x)) → map h (keep p xs) ≡ keep q (map h xs)
  map_keep p q [] e = refl
  map_keep p q (x ∷ xs) e =
      let z = map_keep p q xs (λ y m. e y (inr m)) in
      let w : q (h x) ≡ p x = sym (e x (inl refl)) in
      by_test (p x) (λ t. simp (w, t) (ap (λ l. h x ∷ l) z)) (λ t. simp (w, t) z)

  -- a field f of rules A and a field g of rules B
  module _ {P Q : Type 0} (f : Field P A) (g : Field Q B) where
    -- f reads of x the ends that g reads of h x
    pub record Alike (x : A) : Type 0 where
      pub low : f.low x ≡ g.low (h x)
      pub high : f.high x ≡ g.high (h x)

    pub covers_map : (x : A) (v : ℕ) → Alike x → covers f v x ≡ covers g v (h x)
    covers_map x v a = rw (a.low, a.high)

    pub ends_map : (xs : List A) → ((x : A) → In x xs → Alike x) → ends f xs ≡ ends g (map h xs)
    ends_map [] a = refl
    ends_map (x ∷ xs) a = rw ((a x (inl refl)).low, (a x (inl refl)).high, ends_map xs (λ y m. a y (inr m)))

-- what a walk of a chain finds is found in a tree under one of its ends
chain_part : {B : Type 0} (u : ℕ → Tree B) (es vs : List ℕ) (b : B) → found (chain u es) vs ≡ some b → (e : ℕ) × (ws : List ℕ) × (found (u e) ws ≡ some b)
chain_part u [] vs b h = absurd (some-ne-none b (sym h))
chain_part u (e ∷ es) [] b h = absurd (some-ne-none b (sym h))
chain_part u (e ∷ es) (v ∷ vs) b h = by_test (ltb e v) (λ t. chain_part u es (v ∷ vs) b (rw t at h)) (λ t. (e, vs, rw t at h))

-- what a walk of a tree finds is what g says of some part of the rules
pub found_part : {P A B : Type 0} (g : List A → B) (fs : List (Field P A)) (rs : List A) (vs : List ℕ) (b : B) → found (tree g fs rs) vs ≡ some b → (p : A → Bool) × (g (keep p rs) ≡ b)
found_part g [] rs vs b h = (λ r. true, ap g (keep_every (λ r. true) rs (λ r m. refl)) ∙ (cc))
found_part g (f ∷ fs) rs vs b h =
    let c = chain_part (λ e. tree g fs (keep (covers f e) rs)) (ends f rs) vs b h in
    let t = found_part g fs (keep (covers f c.0) rs) c.1 b c.2 in
    (λ r. covers f c.0 r && t.0 r, ap g (sym (keep_keep (covers f c.0) t.0 rs)) ∙ t.1)

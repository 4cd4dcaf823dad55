-- The ends of each field over the rules that hold a packet's earlier values.
-- Assumes nothing.
use mathlib.Core.Path.{◌≡◌, subst}
use mathlib.Core.Logic.{inl, inr, ⊎_elim}
use mathlib.Core.List.{List, [], ◌∷◌}
use Prim.Native.Nat.{ℕ, zero, suc, ◌+◌, ◌<◌}
use native.Mathlib.Omega.{arith}
use native.Mathlib.Nat.{add-zero}
use lib.ListN.{length}
use Rattle.model.specs.Lists.{In, Rising, keep}
use Rattle.model.specs.Rules.{covers, ends}
use Rattle.model.specs.Table.{Rule, field_of}
use Rattle.model.proofs.Keep.{in_keep, from_keep}
use Rattle.model.proofs.Ends.{in_ends, from_ends, ends_rising}
use Rattle.demands.specs.Calls.{value_at}
use Rattle.demands.specs.Demand3.{EndOf}
use Rattle.demands.proofs.Fields.{At, covered, covering}

-- the same field, counted from i and from the one behind it
pub next : (P : ℕ → Type 0) (i j : ℕ) → P (suc i + j) → P (i + suc j)
next P i j h = let z : suc i + j ≡ i + suc j = omega arith in subst P z h

pub back : (P : ℕ → Type 0) (i j : ℕ) → P (i + suc j) → P (suc i + j)
back P i j h = let z : i + suc j ≡ suc i + j = omega arith in subst P z h

module _ (vs : List ℕ) where
  -- the rules that are left behind field i
  abbrev pub left : ℕ → ℕ → List Rule → List Rule
  left i t rs = keep (covers (field_of i t) (value_at vs i)) rs

  -- the ends in the field j behind field i, over the rules that are left there of rs
  abbrev pub ends_left : List ℕ → ℕ → List Rule → ℕ → List ℕ
  ends_left [] i rs j = []
  ends_left (t ∷ ts) i rs zero = ends (field_of i t) rs
  ends_left (t ∷ ts) i rs (suc j) = ends_left ts (suc i) (left i t rs) j

  pub left_rising : (ts : List ℕ) (i : ℕ) (rs : List Rule) (j : ℕ) → Rising (ends_left ts i rs j)
  left_rising [] i rs j = tt
  left_rising (t ∷ ts) i rs zero = ends_rising (field_of i t) rs
  left_rising (t ∷ ts) i rs (suc j) = left_rising ts (suc i) (left i t rs) j

  abbrev pub Earlier : ℕ → List Rule → ℕ → ℕ → Type 0
  Earlier i rs j e = (r : Rule) × In r rs × ((m : ℕ) → m < j → At vs r (i + m)) × EndOf r (i + j) e

  pub from_left : (ts : List ℕ) (i : ℕ) (rs : List Rule) (j e : ℕ) → In e (ends_left ts i rs j) → Earlier i rs j e
  from_left [] i rs j e m = absurd m
  from_left (t ∷ ts) i rs zero e m =
      let b = from_ends (field_of i t) rs e m in
      rw add-zero (b.0, b.1, (λ n l. absurd (omega arith)), ⊎_elim (λ x. inl x) (λ x. inr (omega arith)) b.2)
  from_left (t ∷ ts) i rs (suc j) e m =
      let a = from_left ts (suc i) (left i t rs) j e m in
      let r = a.0 in
      let b = from_keep (covers (field_of i t) (value_at vs i)) rs r a.1 in
      (r, b.0, earlier r (covered vs r i b.1) a.2, next (λ n. EndOf r n e) i j a.3)
    where
      earlier : (r : Rule) → At vs r i → ((n : ℕ) → n < j → At vs r (suc i + n)) → (n : ℕ) → n < suc j → At vs r (i + n)
      earlier r c h zero l = rw add-zero c
      earlier r c h (suc n) l = next (At vs r) i n (h n (omega arith))

  pub to_left : (ts : List ℕ) (i : ℕ) (rs : List Rule) (j e : ℕ) → j < length ts → Earlier i rs j e → In e (ends_left ts i rs j)
  to_left [] i rs j e l h = absurd (omega arith)
  to_left (t ∷ ts) i rs zero e l h =
      let g : Earlier i rs zero e = h in
      in_ends (field_of i t) rs g.0 e g.1 (⊎_elim (λ x. inl x) (λ x. inr (omega arith)) (rw add-zero at g.3))
  to_left (t ∷ ts) i rs (suc j) e l h =
      let r = h.0 in
      to_left ts (suc i) (left i t rs) j e (omega arith) (
        r,
        in_keep (covers (field_of i t) (value_at vs i)) rs r h.1 (covering vs r i (rw add-zero at (h.2 0 (omega arith)))),
        (λ n m. back (At vs r) i n (h.2 (suc n) (omega arith))),
        back (λ n. EndOf r n e) i j h.3,
      )

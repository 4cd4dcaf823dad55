-- Which files are opened, in plain facts and in both directions.
-- Assumes nothing.
use Rattle.std.specs.Prelude.{ℕ, ◌≤◌, Bool, cond, ◌&&◌, Option, Some, None, List, [], ◌∷◌, reverse, ◌↔◌, ltb, length, take, nat_eq}
use Rattle.std.specs.List.{starts_with}
use Rattle.std.proofs.Math.Path.{◌≡◌, refl}
use Rattle.std.proofs.Common.{sym, arith}
use Rattle.std.proofs.lemmas.Slice.Eq.{bytes_eq-Decides}
use Rattle.std.proofs.Math.Bool.{true, false}
use borrow.Author.Tests.{ltb-false, eqb-true}
use Rattle.std.proofs.Math.Dec.{eqb}
use Rattle.octets.specs.declared.Order.{Order}
use Rattle.octets.specs.declared.Order.TheVariants.{Big, Little}
use Rattle.octets.specs.Octets.{half, word}
use Rattle.capture.specs.Pcap.{magic, by_magic, accepted, opened, open_answer}
use Rattle.capture.specs.Cases.{forward, backward, taken}

-- bytes as they stand in a file of an order, which are given from the most significant on
abbrev pub in_order : Order → List ℕ → List ℕ
in_order Big xs = xs
in_order Little xs = reverse xs

pub record Accepted (s : List ℕ) (o : Order) : Type 0 where
  pub long : 24 ≤ length s
  pub start : take 4 s ≡ in_order o (0xA1 ∷ 0xB2 ∷ 0xC3 ∷ 0xD4 ∷ [])
  pub major : half o s 4 ≡ 2
  pub minor : half o s 6 ≡ 4
  pub link : word o s 20 ≡ 101

both : (a b : Bool) → (a && b) ≡ true → (a ≡ true) × (b ≡ true)
both true b e = (refl, e)
both false b e = let z : ◌≡◌ {A = Bool} true false = cc in (sym z, cc)

module _ (s : List ℕ) (o : Order) where
  settle : (p : Order) (a : Bool) → 24 ≤ length s → take 4 s ≡ in_order p magic → accepted p s ≡ a → cond (accepted p s) (Some p) None ≡ Some o → Accepted s o
  unfolding accepted
  settle p true h b q e =
      let c : ◌≡◌ {A = Option Order} (Some p) (Some o) = rw q at e in
      let k : p ≡ o = cc in
      let t : (eqb (half p s 4) 2 ≡ true) × ((eqb (half p s 6) 4 && eqb (word p s 20) 101) ≡ true) = both _ _ q in
      let u : (eqb (half p s 6) 4 ≡ true) × (eqb (word p s 20) 101 ≡ true) = both _ _ t.1 in
      rw (← k) (record { long = h; start = b; major = eqb-true _ _ t.0; minor = eqb-true _ _ u.0; link = eqb-true _ _ u.1 })
  settle p false h b q e =
      let c : ◌≡◌ {A = Option Order} None (Some o) = rw q at e in
      let z : ◌≡◌ {A = ℕ} 0 1 = cc in
      absurd (omega arith)

  split : (f g b : Bool) → ltb (length s) 24 ≡ f → starts_with nat_eq s magic ≡ g → starts_with nat_eq s (reverse magic) ≡ b → opened s ≡ Some o → Accepted s o
  unfolding opened by_magic
  split true g b p q r e = let z : ◌≡◌ {A = ℕ} 0 1 = cc (rw p at e) in absurd (omega arith)
  split false true b p q r e =
      settle Big _ (ltb-false _ _ p) (sym ((bytes_eq-Decides magic (take 4 s)).0 q)) refl (rw (p, q) at e)
  split false false true p q r e =
      settle Little _ (ltb-false _ _ p) (sym ((bytes_eq-Decides (reverse magic) (take 4 s)).0 r)) refl (rw (p, q, r) at e)
  split false false false p q r e = let z : ◌≡◌ {A = ℕ} 0 1 = cc (rw (p, q, r) at e) in absurd (omega arith)

  -- A file is opened in an order if and only if it has 24 bytes, begins with the magic bytes in that order, and has, in
  -- that order, version 2.4 and the link type 101.
  pub accepts : (opened s ≡ Some o) ↔ Accepted s o
  accepts = (split _ _ _ refl refl refl, λ a. sym (taken s a.long o (order o a) a.major a.minor a.link))
    where
      order : (o : Order) → Accepted s o → by_magic s ≡ Some o
      order Big a = sym (forward s ((bytes_eq-Decides magic (take 4 s)).1 (sym a.start)))
      order Little a = sym (backward s (rw a.start) ((bytes_eq-Decides (reverse magic) (take 4 s)).1 (sym a.start)))

-- The answer is 12 if and only if the file is accepted in neither order.
pub twelve : (s : List ℕ) → (open_answer (opened s) ≡ 12) ↔ ((o : Order) → Accepted s o → ⊥)
twelve s = pick (opened s) refl
  where
    pick : (m : Option Order) → opened s ≡ m → (open_answer (opened s) ≡ 12) ↔ ((o : Order) → Accepted s o → ⊥)
    pick (Some o) e = (λ t. absurd (omega (arith, rw e at t)), λ n. absurd (n o ((accepts s o).0 e)))
    pick None e =
        (λ _ o a. let z : ◌≡◌ {A = ℕ} 0 1 = cc ((accepts s o).1 a) in omega arith, λ _. rw e)

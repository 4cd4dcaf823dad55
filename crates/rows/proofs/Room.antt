-- Scratch is enough: for the chain of a field, and under each of its ends for the tree over the next fields, though the ends that are still to come keep their places.
-- Assumes nothing.
use mathlib.Core.Path.{◌≡◌, sym, ap, ◌∙◌}
use mathlib.Core.List.{List, [], ◌∷◌}
use Prim.Native.Nat.{ℕ, zero, suc, ◌+◌, ◌-◌, ◌*◌, ◌≤◌, ◌<◌}
use native.Mathlib.Nat.{suc-mul, mul-le-mul_left}
use native.Mathlib.Omega.{arith}
use native.Mathlib.Numerals.{sub-one}
use lib.ListN.{length, get_or, take, drop, length-drop}
use lib.Seq.{length-take-le, get_or-take, take-take}
use borrow.Rule.Slice.PartMut.{mid_len}
use borrow.Author.Tests.{lt-ltb}
use Rattle.model.specs.Lists.{Rising, keep, below}
use Rattle.model.specs.Rules.{Field, covers, ends as ends_of}
use Rattle.model.proofs.Bound.{all_below}
use Rattle.model.proofs.Ends.{ends_rising, length_ends}
use Rattle.rows.specs.Rows.{Scratch}
use Rattle.rows.proofs.Insert.{in_at}

-- at least i numbers of a rising list are below its i-th
below_at_lem : (es : List ℕ) (i : ℕ) → Rising es → i < length es → i ≤ below (get_or es i 0) es
below_at_lem [] i r h = absurd (omega arith)
below_at_lem (e ∷ es) zero r h = omega arith
below_at_lem (e ∷ es) (suc i) r h = rw (lt-ltb e (get_or es i 0) (r.0 (get_or es i 0) (in_at es i (omega arith)))) (omega (arith, below_at_lem es i r.1 (omega arith)))

module _ {P A : Type 0} (f : Field P A) where
  -- the i ends before one of them, and the rules that cover it, are together no more than two for each rule
  pub ends_room : (rs : List A) (i : ℕ) → i < length (ends_of f rs) → i + length (keep (covers f (get_or (ends_of f rs) i 0)) rs) ≤ 2 * length rs
  ends_room rs i h = omega (arith, below_at_lem (ends_of f rs) i (ends_rising f rs) h, all_below f (get_or (ends_of f rs) i 0) rs)

-- THE SCRATCH of n rules over d fields. The products in it:
apart : (d n : ℕ) → 0 < d → suc d * n ≡ n + n + (d - 1) * n
apart zero n p = absurd (omega arith)
apart (suc d) n p = rw sub-one (omega (arith, suc-mul (suc d) n, suc-mul d n))

module _ {n d : ℕ} {sets ends : List ℕ} (s : Scratch n d sets ends) where
  pub set_fits : n ≤ length sets
  set_fits = omega (arith, s.places, suc-mul d n)

  pub set_long : length (take n sets) ≡ n
  set_long = length-take-le n sets set_fits

  module _ (p : 0 < d) where
    pub sets_fit : n + n ≤ length sets
    sets_fit = omega (arith, s.places, apart d n p)

    pub ends_fit : 2 * n ≤ length ends
    ends_fit = omega (arith, s.room, apart d n p)

    pub set_ends_fit : 2 * length (take n sets) ≤ length ends
    set_ends_fit = omega (arith, set_long, ends_fit)

    -- for the same rules over a field less, and under an end before which i ends stand for the m rules that cover it
    pub scratch_on : Scratch n (d - 1) sets ends
    scratch_on = record { places = omega (arith, s.places, apart d n p, suc-mul (d - 1) n); room = omega (arith, s.room, apart d n p, suc-mul (d - 1) n) }

    pub scratch_under : {m : ℕ} (i : ℕ) {under behind : List ℕ} → m ≤ n → i + m ≤ 2 * n → length sets ≡ n + length under → length ends ≡ i + length behind → Scratch m (d - 1) under behind
    scratch_under {m} i l h u b =
        let k = mul-le-mul_left (d - 1) l in
        record { places = omega (arith, s.places, apart d n p, suc-mul (d - 1) m); room = omega (arith, s.room, apart d n p, suc-mul (d - 1) m) }

    -- under the end e of the set in a field: the rules that cover it are written behind the set, and i ends are still to come
    pub scratch_next : (g : Field (List ℕ) ℕ) (m i : ℕ) {e : ℕ} (under behind : List ℕ) → length under ≡ length sets → length behind ≡ length ends → m ≤ n
        → i < length (ends_of g (take n sets)) → e ≡ get_or (ends_of g (take n sets)) i 0 → take m (drop n under) ≡ keep (covers g e) (take n sets)
        → Scratch m (d - 1) (take (length under - n) (drop n under)) (take (length behind - i) (drop i behind))
    scratch_next g m i under behind u b l h q k =
        let w : length (take m (drop n under)) ≡ m = length-take-le m (drop n under) (omega (arith, length-drop n under, sets_fit)) in
        let r = ends_room g (take n sets) i h in
        scratch_under i l
        (omega (arith, set_long, ap length k, ap (λ x. length (keep (covers g x) (take n sets))) q))
        (omega (arith, set_fits, mid_len n (length under) under (omega arith)))
        (omega (arith, set_long, ends_fit, length_ends g (take n sets), mid_len i (length behind) behind (omega arith)))

-- THE ENDS THAT ARE STILL TO COME, the first i of es, stand in ends: the next is the last of them
module _ (es ends : List ℕ) (i : ℕ) (p : 0 < i) (q : take i ends ≡ take i es) where
  pub come_at : get_or ends (i - 1) 0 ≡ get_or es (i - 1) 0
  come_at = sym (get_or-take i ends (i - 1) 0 (omega arith)) ∙ ap (λ l. get_or l (i - 1) 0) q ∙ get_or-take i es (i - 1) 0 (omega arith)

  pub come_on : take (i - 1) ends ≡ take (i - 1) es
  come_on = sym (take-take (i - 1) i ends (omega arith)) ∙ ap (take (i - 1)) q ∙ take-take (i - 1) i es (omega arith)

-- A search through the tree of a set of rules takes the ends of a field from the highest down: the set stays in front of the places that are lent on, and the ends that are still to come in front of those.
-- Assumes nothing.
use mathlib.Core.Path.{◌≡◌, refl, sym, ap, ◌∙◌}
use mathlib.Core.List.{List}
use Prim.Native.Nat.{ℕ, ◌+◌, ◌-◌, ◌*◌, ◌≤◌, ◌<◌}
use native.Mathlib.Omega.{arith}
use lib.ListN.{length, get_or, take, drop}
use lib.Seq.{take-take, take_all}
use borrow.Rule.Slice.PartMut.{mid_of, put_mid, same_len_mid, take_put}
use Rattle.model.specs.Lists.{keep}
use Rattle.model.specs.Rules.{covers, ends as ends_of}
use Rattle.rows.specs.Rows.{field_at, Scratch}
use Rattle.rows.proofs.Room.{sets_fit, set_ends_fit, scratch_next, come_at, come_on}

-- Where a search stands over the set of n rules, where i of their ends are still to come; sets₀ are the sets as they were where it began.
pub record Coming (rules sets₀ sets ends : List ℕ) (n f i : ℕ) : Type 0 where
  pub most : i ≤ length (ends_of (field_at rules f) (take n sets₀))
  pub two : n + n ≤ length sets
  pub here : i ≤ length ends
  pub set : take n sets ≡ take n sets₀
  pub come : take i ends ≡ take i (ends_of (field_at rules f) (take n sets₀))

module _ {rules sets₀ ends₀ : List ℕ} {n f left : ℕ} (s : Scratch n left sets₀ ends₀) (p : 0 < left) where
  pub coming_start : (ends : List ℕ) (r : ℕ) → length ends ≡ length ends₀ → (r ≤ 2 * length (take n sets₀)) × (r ≡ length (ends_of (field_at rules f) (take n sets₀))) × (take r ends ≡ ends_of (field_at rules f) (take n sets₀))
      → Coming rules sets₀ sets₀ ends n f r
  coming_start ends r k o =
      record {
        most = omega (arith, o.1);
        two = sets_fit s p;
        here = omega (arith, k, o.0, set_ends_fit s p);
        set = refl;
        come = o.2 ∙ sym (take_all r (ends_of (field_at rules f) (take n sets₀)) (omega (arith, o.1)));
      }

-- A step: the m rules that cover the next end are written behind the set.
module _ {rules sets₀ sets ends : List ℕ} {n f i : ℕ} (g : Coming rules sets₀ sets ends n f i) (h : 0 < i) where
  pub next_end : get_or ends (i - 1) 0 ≡ get_or (ends_of (field_at rules f) (take n sets₀)) (i - 1) 0
  next_end = come_at (ends_of (field_at rules f) (take n sets₀)) ends i h g.come

  module _ {m : ℕ} (under : List ℕ) (kept : length under ≡ length sets) (w : (m ≤ n) × (take n under ≡ take n sets) × (take m (drop n under) ≡ keep (covers (field_at rules f) (get_or ends (i - 1) 0)) (take n sets))) where
    covering : take m (drop n under) ≡ keep (covers (field_at rules f) (get_or ends (i - 1) 0)) (take n sets₀)
    covering = w.2 ∙ ap (keep (covers (field_at rules f) (get_or ends (i - 1) 0))) g.set

    -- they are what is lent on
    pub lent : take m (mid_of n (length under - n) under) ≡ keep (covers (field_at rules f) (get_or ends (i - 1) 0)) (take n sets₀)
    lent = take-take m (length under - n) (drop n under) (omega (arith, kept, g.two, w.0)) ∙ covering

    pub coming_under : {ends₀ : List ℕ} {left : ℕ} → Scratch n left sets₀ ends₀ → 0 < left → length sets ≡ length sets₀ → length ends ≡ length ends₀
        → Scratch m (left - 1) (mid_of n (length under - n) under) (mid_of (i - 1) (length ends - (i - 1)) ends)
    coming_under s p long e = scratch_next s p (field_at rules f) m (i - 1) under ends (kept ∙ long) e w.0 (omega (arith, g.most, h)) next_end covering

    pub coming_on : (ys zs : List ℕ) → length ys ≡ length (mid_of n (length under - n) under) → length zs ≡ length (mid_of (i - 1) (length ends - (i - 1)) ends)
        → Coming rules sets₀ (put_mid n (length under - n) under ys) (put_mid (i - 1) (length ends - (i - 1)) ends zs) n f (i - 1)
    coming_on ys zs u v =
        record {
          most = omega (arith, g.most);
          two = omega (arith, same_len_mid n (length under - n) under ys u, kept, g.two);
          here = omega (arith, same_len_mid (i - 1) (length ends - (i - 1)) ends zs v, g.here);
          set = take_put n (length under - n) under ys (omega (arith, kept, g.two)) ∙ w.1 ∙ g.set;
          come = take_put (i - 1) (length ends - (i - 1)) ends zs (omega (arith, g.here)) ∙ come_on (ends_of (field_at rules f) (take n sets₀)) ends i h g.come;
        }

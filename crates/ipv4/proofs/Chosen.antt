-- The kind that is chosen: what the shape that the code has of it comes to.
-- Assumes nothing.
use mathlib.Core.Path.{◌≡◌, ap, subst, ◌∙◌}
use mathlib.Core.Bool.{Bool, true, false, cond}
use mathlib.Core.List.{List}
use Prim.Native.Nat.{ℕ, suc}
use native.Mathlib.Omega.{arith}
use lib.ListN.{length}
use Rattle.model.specs.Table.{Kind, Shaped}
use Rattle.model.specs.Ipv4.{ipv4, is_large, kind_in, ipv4_shaped}
use Rattle.rows.specs.Rows.{Scratch}
use Rattle.table.specs.declared.shape.Shape.{Shape}
use Rattle.table.specs.Rows.{kind_of}

-- scratch for large stores, and for small ones
abbrev pub scratch_for : Bool → ℕ
scratch_for b = cond b 3591 455

room : (b : Bool) (sets ends : List ℕ) → length sets ≡ scratch_for b → length ends ≡ scratch_for b → Scratch (suc (ipv4 b).most) 6 sets ends
room true sets ends e f = record { places = omega arith; room = omega arith }
room false sets ends e f = record { places = omega arith; room = omega arith }

module _ (b : Bool) (s : Shape) (e : kind_of s ≡ ipv4 b) where
  pub shaped : Shaped (kind_of s)
  shaped = rw e (ipv4_shaped b)

  -- it has six fields
  pub fields : length s.tops.now ≡ 6
  fields = ap (λ k. length k.tops) e

  pub scratch : (sets ends : List ℕ) → length sets ≡ scratch_for b → length ends ≡ scratch_for b → Scratch (suc s.most) (length s.tops.now) sets ends
  scratch sets ends f g =
      let z : s.most ≡ (ipv4 b).most = ap (λ k. k.most) e in
      rw (z, fields) (room b sets ends f g)

  -- it is the kind that the words name
  pub named : (ws : List ℕ) → b ≡ is_large ws → kind_of s ≡ kind_in ws
  named ws h = e ∙ ap ipv4 h

  -- so what holds of the one holds of the other
  pub chosen : (P : Kind → Type 0) (ws : List ℕ) → b ≡ is_large ws → P (kind_of s) → P (kind_in ws)
  chosen P ws h = subst P (named ws h)

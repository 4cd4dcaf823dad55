-- `store::carry` meets its contract, by that of the two kinds: the one that the old store names, and that of large stores.
-- Assumes nothing.
use Rattle.refusal.specs.Refusals.{answer_of}
use mathlib.Core.Path.{◌≡◌, refl, sym, ap, subst, ◌∙◌}
use mathlib.Core.Bool.{Bool, true, false}
use Prim.Native.Nat.{◌≤◌}
use native.Mathlib.Omega.{arith}
use Rattle.model.specs.Table.{Kind}
use Rattle.model.specs.Ipv4.{ipv4, large, kind_in}
use Rattle.ipv4.proofs.Chosen.{scratch, named}
use Rattle.table.specs.Rows.{kind_of}
use Rattle.layout.specs.Store.{carry_says, carry_words}
use Rattle.store.proofs.carry.Goals as goal

few : (b : Bool) → (ipv4 b).most ≤ 512
few true = omega arith
few false = omega arith

pub carry-requires : goal.carry-requires
carry-requires c =
    let b = c.is_large.result in
    let e = c.shape.ensures in
    let f = c.shape-old.ensures in
    let l = scratch true c.shape.result e _ _ refl refl in
    let width : c.shape.result.width ≡ 15 = ap (λ (k : Kind). k.width) e in
    let most : c.shape.result.most ≡ 512 = ap (λ (k : Kind). k.most) e in
    (ap (λ (k : Kind). k.tops) f ∙ sym (ap (λ (k : Kind). k.tops) e), ap (λ (k : Kind). k.width) f ∙ sym width, omega (arith, most, few b, ap (λ (k : Kind). k.most) f), l)

pub returns : goal.returns
returns c =
    let a = c.args in
    let old = a.from.now in
    let new = kind_of c.shape.result in
    let g = named c.is_large.result c.shape-old.result c.shape-old.ensures old c.is_large.ensures in
    subst (λ (q : Kind). (answer_of c.carry.result ≡ carry_says (kind_in old) q old a.words.now a.c) × (c.carry.new.words ≡ carry_words (kind_in old) q old a.words.now a.c)) c.shape.ensures
    (subst (λ (j : Kind). (answer_of c.carry.result ≡ carry_says j new old a.words.now a.c) × (c.carry.new.words ≡ carry_words j new old a.words.now a.c)) g c.carry.ensures)

-- What a scan names, for any list of rules: one that decides, or the default where none holds the packet.
-- Assumes nothing.
use mathlib.Core.Path.{◌≡◌, refl, sym, ap, subst, ◌∙◌}
use mathlib.Core.Logic.{◌⊎◌, inl, inr}
use mathlib.Core.Bool.{Bool, false}
use mathlib.Core.List.{List, [], ◌∷◌}
use Prim.Native.Nat.{ℕ, ◌≤◌, ◌<◌}
use native.Mathlib.Omega.{arith}
use lib.Dec.{ltb}
use borrow.Author.Tests.{ltb-true, ltb-false, le-leb}
use Rattle.model.specs.Lists.{In, keep, least}
use Rattle.model.specs.Rules.{holds}
use Rattle.model.specs.Table.{Kind, Rule, number_of, fields}
use Rattle.model.proofs.Tests.{by_test, never}
use Rattle.scan.specs.Scan.{first_least}
use Rattle.scan.proofs.Least.{lower, one_more}
use Rattle.demands.specs.Calls.{HoldsAll}
use Rattle.demands.specs.Scan.{Decides}
use Rattle.demands.proofs.Fields.{all_held, held_all}

module _ (k : Kind) (vs : List ℕ) where
  -- the rule holds the values; and it does not, by the test
  abbrev H : Rule → Type 0
  H = HoldsAll k vs

  abbrev test : Rule → Bool
  test = holds (fields k) vs

  out : (x : Rule) → test x ≡ false → H x → ⊥
  out x h a = never (sym (held_all k vs x a) ∙ h)

  -- no holder of the list has a lesser number than r
  abbrev Leads : Rule → List Rule → Type 0
  Leads r rs = (s : Rule) → In s rs → H s → r.number ≤ s.number

  -- a rule more in front of the list
  leads_more : (r x : Rule) (rs : List Rule) → (H x → r.number ≤ x.number) → Leads r rs → Leads r (x ∷ rs)
  leads_more r x rs h l s (inl q) a = subst (λ (y : Rule). r.number ≤ y.number) (sym q) (h (subst H q a))
  leads_more r x rs h l s (inr m) a = l s m a

  in_front : (x : Rule) (rs : List Rule) → H x → Leads x rs → Decides k (x ∷ rs) vs x
  in_front x rs h l = record { front = []; behind = rs; stands = refl; holds = h; before = λ s m a. absurd m; after = l }

  further : (x s : Rule) (rs : List Rule) → (H x → s.number < x.number) → Decides k rs vs s → Decides k (x ∷ rs) vs s
  further x s rs h d = record { front = x ∷ d.front; behind = d.behind; stands = ap (λ (l : List Rule). x ∷ l) d.stands; holds = d.holds; before = before; after = d.after }
    where
      before : (y : Rule) → In y (x ∷ d.front) → H y → s.number < y.number
      before y (inl q) a = subst (λ (z : Rule). s.number < z.number) (sym q) (h (subst H q a))
      before y (inr m) a = d.before y m a

  -- what is found where r leads and the list follows: r, or a rule of the list with a lesser number
  abbrev Behind : Rule → List Rule → Rule → Type 0
  Behind r rs s = ((s ≡ r) × Leads r rs) ⊎ (Decides k rs vs s × (s.number < r.number))

  goes_behind : (rs : List Rule) (r s : Rule) → s ≡ least number_of r (r ∷ keep test rs) → Behind r rs s
  goes_behind [] r s e = inl (e ∙ simp (le-leb r.number r.number (omega arith)), λ x m a. absurd m)
  goes_behind (x ∷ rs) r s e = by_test (test x)
      (λ h. let f = (rw h at e) ∙ sym (one_more r x (keep test rs)) in by_test (ltb x.number r.number)
      (λ t. let q : lower r x ≡ x = rw t in overtaken (all_held k vs x h) (ltb-true x.number r.number t) (goes_behind rs x s (subst (λ (y : Rule). s ≡ least number_of y (y ∷ keep test rs)) q f)))
      (λ t. let q : lower r x ≡ r = rw t in passed_by (λ a. ltb-false x.number r.number t) (goes_behind rs r s (subst (λ (y : Rule). s ≡ least number_of y (y ∷ keep test rs)) q f))))
      (λ h. passed_by (λ a. absurd (out x h a)) (goes_behind rs r s (rw h at e)))
    where
      overtaken : H x → x.number < r.number → Behind x rs s → Behind r (x ∷ rs) s
      overtaken h l (inl (q, m)) = inr (subst (Decides k (x ∷ rs) vs) (sym q) (in_front x rs h m), omega (arith, ap number_of q))
      overtaken h l (inr (d, m)) = inr (further x s rs (λ a. m) d, omega arith)

      passed_by : (H x → r.number ≤ x.number) → Behind r rs s → Behind r (x ∷ rs) s
      passed_by h (inl (q, m)) = inl (q, leads_more r x rs h m)
      passed_by h (inr (d, m)) = inr (further x s rs (λ a. omega (arith, h a)) d, m)

  -- and where no rule leads yet
  abbrev Scanned : Rule → List Rule → Rule → Type 0
  Scanned d rs s = Decides k rs vs s ⊎ (((r : Rule) → In r rs → H r → ⊥) × (s ≡ d))

  pub scans : (d : Rule) (rs : List Rule) (s : Rule) → s ≡ first_least d (keep (holds (fields k) vs) rs) → Scanned d rs s
  scans d [] s e = inr (λ r m a. absurd m, e)
  scans d (x ∷ rs) s e = by_test (test x)
      (λ h. leads_first (all_held k vs x h) (goes_behind rs x s (rw h at e)))
      (λ h. leads_not (out x h) (scans d rs s (rw h at e)))
    where
      leads_first : H x → Behind x rs s → Scanned d (x ∷ rs) s
      leads_first h (inl (q, m)) = inl (subst (Decides k (x ∷ rs) vs) (sym q) (in_front x rs h m))
      leads_first h (inr (d, m)) = inl (further x s rs (λ a. m) d)

      leads_not : (H x → ⊥) → Scanned d rs s → Scanned d (x ∷ rs) s
      leads_not h (inl d) = inl (further x s rs (λ a. absurd (h a)) d)
      leads_not h (inr (n, q)) = inr (none, q)
        where
          none : (r : Rule) → In r (x ∷ rs) → H r → ⊥
          none r (inl i) a = h (subst H i a)
          none r (inr m) a = n r m a

-- A well-kept tally record always has room: a clear one is well kept, what is done to store and record keeps it so, and then a rule's number is held or a place is unused, since the numbers held are those of other rules, each once.
-- Assumes nothing.
use mathlib.Core.Path.{◌≡◌, refl, sym, ap, subst, ◌∙◌}
use mathlib.Core.Bool.{not}
use mathlib.Core.Logic.{inl, inr, ⊎_elim, ◌≢◌}
use mathlib.Core.List.{List, [], ◌∷◌, map}
use Prim.Native.Nat.{ℕ, suc, ◌≤◌, ◌<◌}
use native.Mathlib.Omega.{arith}
use lib.Dec.{leb, eqb}
use lib.ListN.{length, get_or, length-append, length-map, get_or-replicate}
use borrow.Author.Tests.{leb-true, leb-false, eqb-true, eqb-false, ne_eqb}
use Rattle.model.specs.Lists.{In, Sub, keep}
use Rattle.model.specs.Table.{Kind, Rule, Table, Shaped, number_of, default_rule, every_rule, packet_right, with_rule, without}
use Rattle.model.specs.Ipv4.{kind_in}
use Rattle.model.proofs.Tests.{by_test}
use Rattle.model.proofs.Keep.{in_keep, length_keep, in_left, in_right, at_place}
use Rattle.model.proofs.Limits.{from_within, from_every}
use Rattle.model.proofs.Decide.{winner_in}
use Rattle.model.proofs.Edits.{in_added, in_removed}
use Rattle.layout.specs.Store.{table_of, insert_says, insert_words, delete_says, delete_words}
use Rattle.lookup.specs.declared.Found.{Found}
use Rattle.lookup.specs.Walk.{lookup_values, lookup_packet}
use Rattle.tally.specs.declared.Tallies.{Tallies}
use Rattle.tally.specs.Tally.{begun_in, tally_answer, tallies_left, cleared}
use Rattle.demands.specs.Calls.{Passes, rules_in, every_in, values_in}
use Rattle.demands.specs.Tally.{key_at, HoldsAt, NoPlace, WellKept, Dropped}
use Rattle.demands.proofs.KindNamed.{shaped_in}
use Rattle.demands.proofs.Held.{right, insert_leaves, delete_leaves}
use Rattle.lookup.proofs.Steps.{wrong_11}
use Rattle.tally.proofs.Steps.{numbered}
use Rattle.demands.proofs.Packets.{refused_by, readable_is, by_header}
use Rattle.demands.proofs.Decided.{lookup_is}
use Rattle.demands.proofs.Tally.{by_look}
use Rattle.demands.proofs.Readings.{set_long, set_here, set_other}

-- LISTS: what is mapped stands in the mapped list
in_map : (rs : List Rule) (r : Rule) → In r rs → In r.number (map number_of rs)
in_map [] r m = m
in_map (x ∷ rs) r (inl e) = inl (ap number_of e)
in_map (x ∷ rs) r (inr m) = inr (in_map rs r m)

from_map : (rs : List Rule) (n : ℕ) → In n (map number_of rs) → (r : Rule) × In r rs × (r.number ≡ n)
from_map [] n m = absurd m
from_map (x ∷ rs) n (inl e) = (x, inl refl, sym e)
from_map (x ∷ rs) n (inr m) = let t = from_map rs n m in (t.0, inr t.1, t.2)

-- no number stands twice
abbrev Apart : List ℕ → Type 0
Apart [] = Unit {0}
Apart (x ∷ xs) = (In x xs → ⊥) × Apart xs

apart_places : (xs : List ℕ) → ((i j : ℕ) → i < length xs → j < length xs → get_or xs i 0 ≡ get_or xs j 0 → i ≡ j) → Apart xs
apart_places [] h = tt
apart_places (x ∷ xs) h = (
  λ m. let t = at_place xs 0 x m in omega (arith, h 0 (suc t.0) (omega arith) (omega (arith, t.1)) (sym t.2)),
  apart_places xs (λ i j a b e. omega (arith, h (suc i) (suc j) (omega arith) (omega arith) e)),
)

-- so a part of a list that has no number twice is no longer than the list
shorter : (x : ℕ) (ys : List ℕ) → In x ys → suc (length (keep (λ y. not (eqb y x)) ys)) ≤ length ys
shorter x [] m = absurd m
shorter x (y ∷ ys) m = by_test (eqb y x)
    (λ t. simp t (omega (arith, length_keep (λ y. not (eqb y x)) ys)))
    (λ t. simp t (omega (arith, shorter x ys (⊎_elim (λ e. absurd (eqb-false y x t (sym e))) (λ n. n) m))))

no_longer : (xs ys : List ℕ) → Apart xs → Sub xs ys → length xs ≤ length ys
no_longer [] ys a s = omega arith
no_longer (x ∷ xs) ys a s =
    let l = no_longer xs (keep (λ y. not (eqb y x)) ys) a.1 (λ z m. in_keep (λ y. not (eqb y x)) ys z (s z (inr m)) (rw (ne_eqb z x (λ e. a.0 (subst (λ (w : ℕ). In w xs) e m))))) in
    omega (arith, l, shorter x ys (s x (inl refl)))

module _ (k : Kind) (s : Shaped k) where
  -- ROOM for the number of each rule
  has_room : (ws : List ℕ) → Passes k ws → (t : Tallies) → k.most < length t.key → WellKept k ws t → (n : ℕ) → In n (map number_of (every_in k ws)) → NoPlace n t → ⊥
  has_room ws h t l w n m none =
      let used : (i : ℕ) → i < length t.key → key_at t i ≤ 65535 = λ i a. by_test (leb (key_at t i) 65535) (leb-true _ _) (λ q. absurd (none.1 i a (leb-false _ _ q))) in
      let apart : Apart (n ∷ t.key) = (
        λ q. let i = at_place t.key 0 n q in none.0 i.0 i.1 (used i.0 i.1, i.2),
        apart_places t.key (λ i j a b e. w.once i j a b (used i a) e),
      ) in
      let all : Sub (n ∷ t.key) (map number_of (every_in k ws)) = λ x q. ⊎_elim (λ e. subst (λ (y : ℕ). In y (map number_of (every_in k ws))) (sym e) m)
      (λ y. let i = at_place t.key 0 x y in subst (λ (z : ℕ). In z (map number_of (every_in k ws))) i.2 (w.ours i.0 i.1 (used i.0 i.1))) q in
      omega (arith, no_longer (n ∷ t.key) (map number_of (every_in k ws)) apart all, length-map (every_in k ws) number_of, length-append (rules_in k ws) (default_rule k (table_of k ws).action ∷ []), (from_within k (table_of k ws) (right k s ws h)).fits)

  -- a lookup names a rule of the store
  named_in : (ws : List ℕ) → Passes k ws → (vs : List ℕ) → (lookup_values k ws vs).answer ≡ 0 → In (lookup_values k ws vs).rule (map number_of (every_in k ws))
  named_in ws h vs = by_test (packet_right k vs)
      (λ v e. rw (lookup_is k s ws h vs v) (in_map (every_in k ws) _ (winner_in k (table_of k ws) vs v)))
      (λ v e. absurd (omega (arith, ap (λ (f : Found). f.answer) (wrong_11 k ws vs v))))

  -- EDITS: a number of one table is one of another, where each rule of that number stands there too
  carried : (t t' : Table) (n : ℕ) → ((r : Rule) → In r t.rules → r.number ≡ n → In r t'.rules) → In n (map number_of (every_rule k t)) → In n (map number_of (every_rule k t'))
  carried t t' n f m =
      let r = from_map (every_rule k t) n m in
      let D = default_rule k t'.action in
      ⊎_elim
      (λ i. subst (λ (x : ℕ). In x (map number_of (every_rule k t'))) r.2 (in_map (every_rule k t') r.0 (in_left t'.rules (D ∷ []) r.0 (f r.0 i r.2))))
      (λ e. subst (λ (x : ℕ). In x (map number_of (every_rule k t'))) (sym (ap number_of e) ∙ r.2) (in_map (every_rule k t') D (in_right t'.rules (D ∷ []) D (inl refl))))
      (from_every k t r.0 r.1)

  pub inserted_kept : (ws : List ℕ) (r : Rule) → insert_says k ws r ≡ 0 → (t : Tallies) → WellKept k ws t → WellKept k (insert_words k ws r) t
  inserted_kept ws r h t w =
      let l = insert_leaves k s ws r h in
      record {
        once = w.once;
        ours = λ i a u. subst (λ (T : Table). In (key_at t i) (map number_of (every_rule k T))) (sym l.table) (carried (table_of k ws) (with_rule r (table_of k ws)) (key_at t i) (λ x m e. in_added r x (rules_in k ws) (inr m)) (w.ours i a u));
      }

  pub deleted_kept : (ws : List ℕ) (n : ℕ) → delete_says k ws n ≡ 0 → (t u : Tallies) → Dropped n t u → WellKept k ws t → WellKept k (delete_words k ws n) u
  deleted_kept ws n h t u d w =
      let l = delete_leaves k s ws n h in
      record {
        once = λ i j a b x e.
            let p = still i (omega (arith, d.long)) x in
            let q = still j (omega (arith, d.long)) (omega (arith, e)) in
            w.once i j (omega (arith, d.long)) (omega (arith, d.long)) (omega (arith, p.0)) (sym p.0 ∙ e ∙ q.0);
        ours = λ i a x.
            let p = still i (omega (arith, d.long)) x in
            subst (λ (T : Table). In (key_at u i) (map number_of (every_rule k T))) (sym l.table)
            (carried (table_of k ws) (without n (table_of k ws)) (key_at u i) (λ r m e. in_removed n (rules_in k ws) r m (λ q. p.1 (sym p.0 ∙ sym e ∙ q)))
            (rw p.0 (w.ours i (omega (arith, d.long)) (omega (arith, p.0)))));
      }
    where
      -- a place that is used still has the key that it had, which is not the deleted rule's number
      still : (i : ℕ) → i < length t.key → key_at u i ≤ 65535 → (key_at u i ≡ key_at t i) × (key_at t i ≢ n)
      still i a x =
          let apart : HoldsAt n t i → ⊥ = λ y. omega (arith, d.gone i a y) in
          let e = d.stays i a apart in
          (e, λ q. apart (omega (arith, e), q))

-- THE LIBRARY'S LOOKUPS
packet_named : (ws : List ℕ) → Passes (kind_in ws) ws → (bytes : List ℕ) → (lookup_packet ws bytes).answer ≡ 0 → In (lookup_packet ws bytes).rule (map number_of (every_in (kind_in ws) ws))
packet_named ws h bytes = by_header ((lookup_packet ws bytes).answer ≡ 0 → In (lookup_packet ws bytes).rule (map number_of (every_in (kind_in ws) ws))) bytes
    (λ r u e. absurd (numbered r (sym (ap (λ (f : Found). f.answer) (refused_by ws bytes r u)) ∙ e)))
    (λ p u. rw (readable_is ws bytes p u) (named_in (kind_in ws) (shaped_in ws) ws h (values_in p)))

pub never_13 : (ws : List ℕ) → Passes (kind_in ws) ws → (t : Tallies) → (kind_in ws).most < length t.key → WellKept (kind_in ws) ws t → (bytes : List ℕ) → tally_answer ws bytes t ≡ lookup_packet ws bytes
never_13 ws h t l w bytes = by_look ws bytes t (λ g u. g ≡ lookup_packet ws bytes) (λ n. refl) (λ e p. absurd (has_room (kind_in ws) (shaped_in ws) ws h t l w _ (packet_named ws h bytes e) p)) (λ e i f. refl) (λ e none i f. refl)

pub looked_kept : (ws : List ℕ) → Passes (kind_in ws) ws → (bytes : List ℕ) (t : Tallies) → WellKept (kind_in ws) ws t → WellKept (kind_in ws) ws (tallies_left ws bytes t)
looked_kept ws h bytes t w = by_look ws bytes t (λ g u. WellKept (kind_in ws) ws u) (λ n. w) (λ e p. w) (λ e i f. record { once = w.once; ours = w.ours })
    (λ e none i f.
    let n = (lookup_packet ws bytes).rule in
    let u = begun_in i n t in
    let long = set_long t u i n refl in
    let here : key_at u i ≡ n = set_here t u i n refl f.0 in
    let there : (a : ℕ) → a ≢ i → key_at u a ≡ key_at t a = set_other t u i n refl in
    let no_other : (a : ℕ) → a < length t.key → a ≢ i → n ≤ 65535 → key_at u a ≡ n → ⊥ = λ a l d x q. none a l (let z = sym (there a d) ∙ q in omega arith, sym (there a d) ∙ q) in
    record {
      once = λ a b la lb x q. by_test (eqb a i)
          (λ c. by_test (eqb b i)
          (λ d. eqb-true a i c ∙ sym (eqb-true b i d))
          (λ d. let y = ap (key_at u) (eqb-true a i c) ∙ here in absurd (no_other b (omega (arith, long)) (eqb-false b i d) (omega arith) (sym q ∙ y))))
          (λ c. by_test (eqb b i)
          (λ d. let y = q ∙ ap (key_at u) (eqb-true b i d) ∙ here in absurd (no_other a (omega (arith, long)) (eqb-false a i c) (omega arith) y))
          (λ d. let y = there a (eqb-false a i c) in w.once a b (omega (arith, long)) (omega (arith, long)) (omega arith) (sym y ∙ q ∙ there b (eqb-false b i d))));
      ours = λ a la x. by_test (eqb a i)
          (λ c. subst (λ (y : ℕ). In y (map number_of (every_in (kind_in ws) ws))) (sym (ap (key_at u) (eqb-true a i c) ∙ here)) (packet_named ws h bytes e))
          (λ c. let y = there a (eqb-false a i c) in rw y (w.ours a (omega (arith, long)) (omega arith)));
    })

pub cleared_kept : (k : Kind) (ws : List ℕ) → WellKept k ws cleared
cleared_kept k ws =
    let above : (i : ℕ) → i < length cleared.key → key_at cleared i ≡ 4294967295 = λ i l. get_or-replicate (length cleared.key) i 4294967295 0 l in
    record { once = λ i j a b x e. absurd (omega (arith, above i a)); ours = λ i a x. absurd (omega (arith, above i a)) }

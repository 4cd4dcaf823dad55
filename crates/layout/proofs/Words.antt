-- What stands in the rows of a table: at each place the words of its rule. So the rows of a table within the limits give the table back.
-- Assumes nothing.
use mathlib.Core.Path.{◌≡◌, refl, sym, ap, ap₂, ◌∙◌}
use mathlib.Core.Logic.{◌⊎◌, inl, inr}
use mathlib.Core.Bool.{true}
use mathlib.Core.List.{[], ◌∷◌, ◌++◌, map, map-append}
use Prim.Native.Nat.{ℕ, zero, suc, ◌+◌, ◌*◌, ◌≤◌, ◌<◌}
use native.Mathlib.Omega.{arith}
use lib.Dec.{eqb}
use lib.ListN.{length, get_or, length-map}
use borrow.Author.Tests.{eqb-true}
use Rattle.model.specs.Lists.{In, up_to}
use Rattle.model.specs.Table.{Kind, Table, Shaped, default_rule, every_rule, within}
use Rattle.model.proofs.Tests.{and_left, and_right}
use Rattle.model.proofs.UpTo.{up_to_is, in_up_to}
use Rattle.model.proofs.Keep.{from_append, in_get_d}
use Rattle.model.proofs.Limits.{from_within}
use Rattle.rows.specs.Rows.{number_in, action_in, low_in, high_in}
use Rattle.table.specs.Rows.{no_rule, placed, rows_text, rule_in, table_in, places}
use Rattle.table.proofs.Laws.{row_number, row_action, row_low, row_high}
use Rattle.table.proofs.Edits.{rows_at}

pub map_up_to : {A B : Type 0} (h : A → B) (n : ℕ) (f : ℕ → A) → map h (up_to n f) ≡ up_to n (λ i. h (f i))
unfolding up_to
map_up_to h zero f = refl
map_up_to h (suc n) f = ap (λ l. h (f 0) ∷ l) (map_up_to h n (λ i. f (suc i)))

-- every place is where one of the rows begins
pub in_places : (w n x : ℕ) → In x (places w n) → (p : ℕ) × (p ≤ n) × (x ≡ w * p)
unfolding places
in_places w n x m = go (from_append (up_to n (λ i. w * suc i)) (0 ∷ []) x m)
  where
    go : In x (up_to n (λ i. w * suc i)) ⊎ In x (0 ∷ []) → (p : ℕ) × (p ≤ n) × (x ≡ w * p)
    go (inl i) = let t = in_up_to n (λ i. w * suc i) x i in (suc t.0, omega (arith, t.1), t.2)
    go (inr (inl e)) = (0, omega arith, omega arith)
    go (inr (inr z)) = absurd z

-- The row of a place p has the words of the rule at that place.
module _ (k : Kind) (s : Shaped k) (t : Table) (p : ℕ) (h : p ≤ k.most) where
  pub number_at : number_in (rows_text k t) (k.width * p) ≡ (placed k t p).number
  number_at = let z : k.width * p ≡ k.width * p + 0 = omega arith in ap (λ i. get_or (rows_text k t) i 0) z ∙ rows_at k t p 0 h (omega (arith, s.ends)) ∙ row_number (placed k t p)

  pub action_at : action_in (rows_text k t) (k.width * p) ≡ (placed k t p).action
  action_at = rows_at k t p 1 h (omega (arith, s.ends)) ∙ row_action (placed k t p)

  pub low_at_lem : (f : ℕ) → f < length k.tops → low_in (rows_text k t) f (k.width * p) ≡ get_or (placed k t p).lows f 0
  low_at_lem f l = rows_at k t p (2 + 2 * f) h (omega (arith, s.ends)) ∙ row_low (placed k t p) f

  pub high_at_lem : (f : ℕ) → f < length k.tops → high_in (rows_text k t) f (k.width * p) ≡ get_or (placed k t p).highs f 0
  high_at_lem f l = rows_at k t p (3 + 2 * f) h (omega (arith, s.ends)) ∙ row_high (placed k t p) f

-- A table within the limits.
module _ (k : Kind) (s : Shaped k) (t : Table) (right : within k t ≡ true) where
  -- a rule has as many low and as many high ends as there are fields
  ended : (p : ℕ) → p ≤ length t.rules → (length (placed k t p).lows ≡ length k.tops) × (length (placed k t p).highs ≡ length k.tops)
  unfolding placed
  ended zero h = (length-map k.tops (λ t. 0), refl)
  ended (suc i) h =
      let r = get_or t.rules i no_rule in
      let n = length k.tops in
      let y = (from_within k t right).right r (in_get_d t.rules i no_rule (omega arith)) in
      (eqb-true (length r.lows) n (and_left _ _ y), eqb-true (length r.highs) n (and_left _ _ (and_right (eqb (length r.lows) n) _ y)))

  -- the row of a place holds the rule
  pub rule_at_lem : (p : ℕ) → p ≤ length t.rules → rule_in (length k.tops) (rows_text k t) (k.width * p) ≡ placed k t p
  rule_at_lem p h =
      let n = length k.tops in
      let q : p ≤ k.most = omega (arith, (from_within k t right).fits) in
      let ls = up_to_is 0 (placed k t p).lows n (λ f. low_in (rows_text k t) f (k.width * p)) (ended p h).0 (λ f l. sym (low_at_lem k s t p q f l)) in
      let hs = up_to_is 0 (placed k t p).highs n (λ f. high_in (rows_text k t) f (k.width * p)) (ended p h).1 (λ f l. sym (high_at_lem k s t p q f l)) in
      λ i. record { number = number_at k s t p q i; action = action_at k s t p q i; lows = sym ls i; highs = sym hs i }

  pub default_at : rule_in (length k.tops) (rows_text k t) 0 ≡ default_rule k t.action
  unfolding placed
  default_at = let z : k.width * 0 ≡ 0 = omega arith in rw z at (rule_at_lem 0 (omega arith))

  rules_all : t.rules ≡ up_to (length t.rules) (λ i. rule_in (length k.tops) (rows_text k t) (k.width * suc i))
  unfolding placed
  rules_all = up_to_is no_rule t.rules (length t.rules) (λ i. rule_in (length k.tops) (rows_text k t) (k.width * suc i)) refl (λ i l. sym (rule_at_lem (suc i) (omega arith)))

  -- the rules of all rows: the table's, by rising number, and then the default
  pub map_places : map (rule_in (length k.tops) (rows_text k t)) (places k.width (length t.rules)) ≡ every_rule k t
  unfolding places
  map_places =
      map-append (rule_in (length k.tops) (rows_text k t)) (up_to (length t.rules) (λ i. k.width * suc i)) (0 ∷ [])
      ∙ ap₂ ◌++◌ (map_up_to (rule_in (length k.tops) (rows_text k t)) (length t.rules) (λ i. k.width * suc i) ∙ sym rules_all) (ap (λ r. r ∷ []) default_at)

  -- THE ROUND TRIP: the table that the rows hold is the table
  pub round_trip : table_in k (length t.rules) (rows_text k t) ≡ t
  unfolding table_in
  round_trip = λ i. record { action = (default_at i).action; rules = sym rules_all i }

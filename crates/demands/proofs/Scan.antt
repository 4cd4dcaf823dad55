-- The scan agrees with the lookup of a store that passes the check.
-- Assumes nothing.
use mathlib.Core.Path.{◌≡◌, refl, sym, ap, ap₂, subst, ◌∙◌}
use mathlib.Core.Logic.{inl, inr, ⊎_elim}
use mathlib.Core.Bool.{true, false}
use mathlib.Core.List.{List, [], ◌∷◌, ◌++◌, map}
use Prim.Native.Nat.{ℕ, ◌≤◌}
use native.Mathlib.Omega.{arith}
use lib.ListN.{length, get_or}
use borrow.Author.Tests.{le-leb}
use Rattle.model.specs.Lists.{In, Same, keep, least}
use Rattle.model.specs.Rules.{holds, winner}
use Rattle.model.specs.Table.{Kind, Rule, Table, Shaped, number_of, fields, default_rule, every_rule, winner_of, packet_right}
use Rattle.model.specs.Ipv4.{large, kind_in}
use Rattle.model.proofs.Tests.{by_test}
use Rattle.model.proofs.UpTo.{length_up_to, up_to_is, in_up_to}
use Rattle.model.proofs.Keep.{from_keep, keep_append, in_left}
use Rattle.model.proofs.Sets.{Distinct, winner_same}
use Rattle.model.proofs.Limits.{in_rising, from_within, distinct}
use Rattle.model.proofs.Decide.{default_holds}
use Rattle.header.specs.declared.Packet.{Packet}
use Rattle.std.specs.Prelude.{Ok}
use Rattle.header.specs.Header.{header_of}
use Rattle.header.specs.Facts.{WithinTops}
use Rattle.rows.specs.Rows.{low_in, high_in}
use Rattle.ipv4.specs.declared.Rule.{Rule as Given}
use Rattle.table.specs.Rows.{rule_in, table_in}
use Rattle.ipv4.specs.Rule.{six, given}
use Rattle.layout.specs.Store.{rows_of, table_of}
use Rattle.lookup.specs.declared.Found.{Found}
use Rattle.lookup.specs.Walk.{lookup_packet}
use Rattle.scan.specs.declared.Winner.{Winner}
use Rattle.scan.specs.Scan.{first_least, decider, named, rules_of, no_winner, scan_values}
use Rattle.scan.proofs.Least.{behind}
use Rattle.demands.specs.Calls.{Passes, rules_in, default_in, field_count, HoldsAll, AboveTop, values_in, lookup}
use Rattle.demands.specs.Scan.{scan, Agree, record_of, records_of, Decides, NamesRule, Scan}
use Rattle.demands.proofs.KindNamed.{shaped_in}
use Rattle.demands.proofs.Held.{right}
use Rattle.demands.proofs.Fields.{not_above}
use Rattle.lookup.proofs.Steps.{wrong_11}
use Rattle.demands.proofs.Packets.{tops_right, readable_is}
use Rattle.demands.proofs.Decided.{lookup_is}
use Rattle.demands.proofs.Named.{scans}

abbrev action_of : Rule → ℕ
action_of r = r.action

-- where no number is above d's, the first with the least number is the least with d behind the list
first_is : (d : Rule) (rs : List Rule) → ((r : Rule) → In r rs → r.number ≤ d.number) → first_least d rs ≡ least number_of d rs
first_is d [] h = refl
first_is d (r ∷ rs) h = sym (behind rs r d (h r (inl refl)))

-- d once more at the list's end changes nothing
once_more : (d : Rule) (rs : List Rule) → least number_of d (rs ++ (d ∷ [])) ≡ least number_of d rs
once_more d [] = simp (le-leb d.number d.number (omega arith))
once_more d (r ∷ rs) = rw (once_more d rs)

-- THE WINNER of a store's table is what the scan finds in its rules
module _ (k : Kind) (s : Shaped k) (ws : List ℕ) (h : Passes k ws) (rs : List Rule) (same : Same rs (rules_in k ws)) (vs : List ℕ) (v : packet_right k vs ≡ true) where
  abbrev T : Table
  T = table_of k ws

  abbrev D : Rule
  D = default_rule k T.action

  abbrev held : List Rule → List Rule
  held = keep (holds (fields k) vs)

  small : (r : Rule) → In r (held rs) → r.number ≤ 65535
  small r m = omega (arith, (in_rising 0 T.rules (from_within k T (right k s ws h)).rising r (same.0 r (from_keep (holds (fields k) vs) rs r m).0)).1)

  without_default : winner number_of D (fields k) vs T.rules ≡ winner_of k T vs
  without_default =
      sym (ap (least number_of D) (keep_append (holds (fields k) vs) T.rules (D ∷ []) ∙ ap (λ (l : List Rule). held T.rules ++ l) held_alone)
      ∙ once_more D (held T.rules))
    where
      held_alone : held (D ∷ []) ≡ D ∷ []
      held_alone = rw (default_holds k T.action vs v)

  apart : Distinct number_of D T.rules
  apart r x m n = distinct k T (right k s ws h) r x (up r m) (up x n)
    where
      up : (x : Rule) → In x (D ∷ T.rules) → In x (D ∷ every_rule k T)
      up x (inl q) = inl q
      up x (inr i) = inr (in_left T.rules (D ∷ []) x i)

  decider_is : first_least (default_rule k (default_in k ws)) (keep (holds (fields k) vs) rs) ≡ winner_of k (table_of k ws) vs
  decider_is = first_is D (held rs) small ∙ sym (winner_same number_of D (fields k) vs T.rules rs apart (same.1, same.0)) ∙ without_default

-- THE LIBRARY'S SCAN of a packet's record, by its tops
module _ (records : List Given) (a : ℕ) (p : Packet) where
  scan_right : packet_right large (values_in p) ≡ true → scan records a p ≡ named (decider (rules_of records) a p)
  unfolding scan_values
  scan_right e = rw e

  scan_wrong : packet_right large (values_in p) ≡ false → scan records a p ≡ no_winner 11
  unfolding scan_values
  scan_wrong e = rw e

  -- what it names, for any list
  names : WithinTops p → ((scan records a p).answer ≡ 0) × NamesRule large (rules_of records) a (values_in p) (scan records a p)
  names t =
      let w = decider (rules_of records) a p in
      subst (λ (x : Winner). (x.answer ≡ 0) × NamesRule large (rules_of records) a (values_in p) x) (sym (scan_right (tops_right p t))) (
        refl,
        ⊎_elim (λ (d : Decides large (rules_of records) (values_in p) w). inl (w, d, refl, refl))
            (λ (n : ((r : Rule) → In r (rules_of records) → HoldsAll large (values_in p) r → ⊥) × (w ≡ default_rule large a)). inr (n.0, ap number_of n.1, ap action_of n.1))
            (scans large (values_in p) (default_rule large a) (rules_of records) w refl),
      )

  above : AboveTop large (values_in p) → scan records a p ≡ no_winner 11
  above t = by_test (packet_right large (values_in p)) (λ e. absurd (not_above large (values_in p) e t)) scan_wrong

-- what is said of two answers is said of what they are
carried : {f g : Found} {w v : Winner} → f ≡ g → w ≡ v → Agree g v → Agree f w
carried {f} {g} {w} {v} e d a = subst (λ (x : Found). Agree x w) (sym e) (subst (Agree g) (sym d) a)

agree : (ws : List ℕ) → Passes (kind_in ws) ws → (records : List Given) → Same (rules_of records) (rules_in (kind_in ws) ws) → (p : Packet) → Agree (lookup ws p) (scan records (default_in (kind_in ws) ws) p)
agree ws h records same p = by_test (packet_right (kind_in ws) (values_in p))
    (λ e.
    let d = decider_is (kind_in ws) (shaped_in ws) ws h (rules_of records) same (values_in p) e in
    carried (lookup_is (kind_in ws) (shaped_in ws) ws h (values_in p) e) (scan_right records (default_in (kind_in ws) ws) p e) (record { answer = refl; rule = ap number_of d; action = ap action_of d }))
    (λ e. carried (wrong_11 (kind_in ws) ws (values_in p) e) (scan_wrong records (default_in (kind_in ws) ws) p e) (record { answer = refl; rule = refl; action = refl }))

packet_agrees : (ws : List ℕ) → Passes (kind_in ws) ws → (records : List Given) → Same (rules_of records) (rules_in (kind_in ws) ws) → (bytes : List ℕ) (p : Packet) → header_of bytes ≡ Ok p
    → Agree (lookup_packet ws bytes) (scan records (default_in (kind_in ws) ws) p)
packet_agrees ws h records same bytes p e = rw (readable_is ws bytes p e) (agree ws h records same p)

-- THE STORE'S OWN TABLE: a record holds as many ends as a rule of it
six_is : (xs : List ℕ) → length xs ≡ field_count large → six xs ≡ xs
six_is xs l = sym (up_to_is 0 xs (field_count large) (λ i. get_or xs i 0) l (λ i h. refl))

given_back : (rows : List ℕ) (j : ℕ) → given (record_of (rule_in (field_count large) rows j)) ≡ rule_in (field_count large) rows j
given_back rows j =
    let n = field_count large in
    let a = six_is (rule_in n rows j).lows (length_up_to n (λ f. low_in rows f j)) in
    let b = six_is (rule_in n rows j).highs (length_up_to n (λ f. high_in rows f j)) in
    λ i. record { number = (rule_in n rows j).number; action = (rule_in n rows j).action; lows = a i; highs = b i }

back : (rs : List Rule) → ((r : Rule) → In r rs → given (record_of r) ≡ r) → map given (map record_of rs) ≡ rs
back [] h = refl
back (r ∷ rs) h = ap₂ ◌∷◌ (h r (inl refl)) (back rs (λ x m. h x (inr m)))

own : (ws : List ℕ) → Same (rules_of (records_of (kind_in ws) ws)) (rules_in (kind_in ws) ws)
unfolding table_in
own ws = subst (λ (rs : List Rule). Same rs (rules_in (kind_in ws) ws)) (sym (back (rules_in (kind_in ws) ws) each)) (λ x m. m, λ x m. m)
  where
    each : (r : Rule) → In r (rules_in (kind_in ws) ws) → given (record_of r) ≡ r
    each r m = let t = in_up_to _ _ r m in subst (λ (x : Rule). given (record_of x) ≡ x) (sym t.2) (given_back (rows_of (kind_in ws) ws) _)

pub scanned : Scan
scanned = record {
  agrees = agree;
  by_packet = packet_agrees;
  own = own;
  names = names;
  above = above;
  crossed = λ r i l c vs a. omega (arith, a i l);
}

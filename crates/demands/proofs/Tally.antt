-- One lookup with tallies, in plain facts: its four cases, and what the demands say of its answers.
-- Assumes nothing.
use mathlib.Core.Path.{◌≡◌, refl, sym, ap, ◌∙◌}
use mathlib.Core.Bool.{Bool, true, false, cond}
use mathlib.Core.Logic.{◌⊎◌, inl, inr, ⊎_elim, ◌≢◌}
use mathlib.Core.List.{List}
use Prim.Native.Nat.{ℕ, ◌+◌, ◌%◌, ◌≤◌, ◌<◌, ◌^◌}
use native.Mathlib.Omega.{arith}
use lib.Dec.{eqb}
use lib.ListN.{length, get_or, set, length-set}
use lib.Seq.{get_or-set_same, get_or-set_other}
use borrow.Author.Tests.{leb-true, ltb-true, eqb-true, eqb-false, le-leb, lt-ltb, eq-eqb}
use Rattle.model.proofs.Tests.{by_test, never, and_left, and_right}
use Rattle.header.specs.Header.{total_length}
use Rattle.lookup.specs.declared.Found.{Found}
use Rattle.lookup.specs.Walk.{refused, lookup_packet}
use Rattle.tally.specs.declared.Tallies.{Tallies}
use Rattle.tally.specs.declared.Place.{Place}
use Rattle.tally.specs.Tally.{unused, keyed, place_of, plus, added_in, begun_in, tallies_with, slot_answer, has_place, found_tally, found_tallies, tally_answer, tallies_left}
use Rattle.tally.proofs.Places.{NonePass, Tells, holds_it, takes_it, no_room, place_told}
use Rattle.demands.specs.Demand1.{Refuses, refuses, goes_on, done, OnlyAnswer}
use Rattle.demands.specs.Dead.{SameRule}
use Rattle.demands.specs.Tally.{packets_at, bytes_at, HoldsAt, UnusedAt, FirstAt, Nowhere, NoPlace, Places, AddedTo}

-- TESTS AND FACTS
keyed_says : (n k : ℕ) → keyed n k ≡ true → (k ≤ 65535) × (k ≡ n)
keyed_says n k e = (leb-true k 65535 (and_right (eqb k n) _ e), eqb-true k n (and_left (eqb k n) _ e))

none_keyed : (n m : ℕ) (keys : List ℕ) → NonePass (keyed n) keys m → (j : ℕ) → j < m → (get_or keys j 0 ≤ 65535) × (get_or keys j 0 ≡ n) → ⊥
none_keyed n m keys none j l h = never (sym (rw (eq-eqb (get_or keys j 0) n h.1, le-leb (get_or keys j 0) 65535 h.0)) ∙ none j l)

none_unused : (m : ℕ) (keys : List ℕ) → NonePass unused keys m → (j : ℕ) → j < m → 65535 < get_or keys j 0 → ⊥
none_unused m keys none j l h = never (sym (lt-ltb 65535 (get_or keys j 0) h) ∙ none j l)

-- WHAT COUNTING MAKES of what a lookup by a packet found
module _ (F : Found) (bytes : List ℕ) (t : Tallies) where
  -- what holds in each of its four cases holds of what is answered and left
  pub by_found : (X : Found → Tallies → Type 0) → (F.answer ≢ 0 → X F t)
      → (F.answer ≡ 0 → NoPlace F.rule t → X (refused 13) t)
      → (F.answer ≡ 0 → (i : ℕ) → FirstAt (HoldsAt F.rule t) t i → X F (added_in i (total_length bytes) t))
      → (F.answer ≡ 0 → Nowhere (HoldsAt F.rule t) t → (i : ℕ) → FirstAt (UnusedAt t) t i → X F (added_in i (total_length bytes) (begun_in i F.rule t)))
      → X (found_tally F t) (found_tallies F bytes t)
  by_found X before none held new = by_answer (eqb F.answer 0) refl
    where
      by_place : F.answer ≡ 0 → (p : Place) → Tells F.rule t.key p → X (cond (has_place p) F (refused (slot_answer p))) (tallies_with p F.rule (total_length bytes) t)
      by_place e p (holds_it i l n k) = held e i (l, keyed_says _ _ k, none_keyed _ i t.key n)
      by_place e p (takes_it i l n free u) = new e (none_keyed _ _ t.key n) i (l, ltb-true 65535 _ u, none_unused i t.key free)
      by_place e p (no_room n free) = none e (none_keyed _ _ t.key n, none_unused _ t.key free)

      by_answer : (b : Bool) → eqb F.answer 0 ≡ b
          → X (cond b (cond (has_place (place_of F.rule t.key)) F (refused (slot_answer (place_of F.rule t.key)))) F) (cond b (tallies_with (place_of F.rule t.key) F.rule (total_length bytes) t) t)
      by_answer true e = by_place (eqb-true _ 0 e) (place_of F.rule t.key) (place_told F.rule t.key)
      by_answer false e = before (eqb-false _ 0 e)

  -- ITS REFUSALS
  pub found_before : F.answer ≢ 0 → found_tally F t ≡ F
  found_before n = by_found (λ g u. g ≡ F) (λ h. refl) (λ e p. absurd (n e)) (λ e i f. refl) (λ e h i f. refl)

  pub found_13 : F.answer ≡ 0 → Refuses 13 (NoPlace F.rule t) done (found_tally F t).answer
  found_13 e = by_found (λ g u. Refuses 13 (NoPlace F.rule t) done g.answer) (λ h. absurd (h e)) (λ q p. refuses p refl)
      (λ q i f. goes_on (λ p. p.0 i f.0 f.1) q) (λ q h i f. goes_on (λ p. p.1 i f.0 f.1) q)

  pub found_zeros : (F.answer ≢ 0 → OnlyAnswer F) → (found_tally F t).answer ≢ 0 → OnlyAnswer (found_tally F t)
  found_zeros zeros = by_found (λ g u. g.answer ≢ 0 → OnlyAnswer g) (λ h n. zeros n) (λ e p n. record { rule = refl; action = refl; reads = refl }) (λ e i f n. absurd (n e)) (λ e h i f n. absurd (n e))

  pub found_kept : (found_tally F t).answer ≢ 0 → found_tallies F bytes t ≡ t
  found_kept = by_found (λ g u. g.answer ≢ 0 → u ≡ t) (λ h n. refl) (λ e p n. refl) (λ e i f n. absurd (n e)) (λ e h i f n. absurd (n e))

  -- where it is not refused it answers what was found
  pub found_or_13 : ((found_tally F t).answer ≡ 13) ⊎ (found_tally F t ≡ F)
  found_or_13 = by_found (λ g u. (g.answer ≡ 13) ⊎ (g ≡ F)) (λ h. inr refl) (λ e p. inl refl) (λ e i f. inr refl) (λ e h i f. inr refl)

  pub found_done : (found_tally F t).answer ≡ 0 → found_tally F t ≡ F
  found_done e = ⊎_elim (λ q. absurd (omega arith)) (λ q. q) found_or_13

-- two lookups that found the same but for the reads count the same
module _ (f g : Found) (e : SameRule f g) (bytes : List ℕ) (t : Tallies) where
  abbrev like : Found
  like = record { answer = g.answer; rule = g.rule; action = g.action; reads = f.reads }

  as_like : f ≡ like
  as_like = λ i. record { answer = e.0 i; rule = e.1 i; action = e.2 i; reads = f.reads }

  pub found_same : SameRule (found_tally f t) (found_tally g t)
  found_same = rw as_like (by_test (eqb g.answer 0) (λ a. by_test (has_place (place_of g.rule t.key)) (λ b. rw (a, b) (refl, refl, refl)) (λ b. rw (a, b) (refl, refl, refl))) (λ a. rw a (refl, refl, refl)))

  pub found_left : found_tallies f bytes t ≡ found_tallies g bytes t
  found_left = rw as_like

-- ONE LOOKUP in a store
module _ (ws bytes : List ℕ) (t : Tallies) where
  abbrev F : Found
  F = lookup_packet ws bytes

  pub by_look : (X : Found → Tallies → Type 0) → ((lookup_packet ws bytes).answer ≢ 0 → X (lookup_packet ws bytes) t)
      → ((lookup_packet ws bytes).answer ≡ 0 → NoPlace (lookup_packet ws bytes).rule t → X (refused 13) t)
      → ((lookup_packet ws bytes).answer ≡ 0 → (i : ℕ) → FirstAt (HoldsAt (lookup_packet ws bytes).rule t) t i → X (lookup_packet ws bytes) (added_in i (total_length bytes) t))
      → ((lookup_packet ws bytes).answer ≡ 0 → Nowhere (HoldsAt (lookup_packet ws bytes).rule t) t → (i : ℕ) → FirstAt (UnusedAt t) t i → X (lookup_packet ws bytes) (added_in i (total_length bytes) (begun_in i (lookup_packet ws bytes).rule t)))
      → X (tally_answer ws bytes t) (tallies_left ws bytes t)
  unfolding tally_answer tallies_left
  by_look = by_found (lookup_packet ws bytes) bytes t

  pub tally_before : (lookup_packet ws bytes).answer ≢ 0 → tally_answer ws bytes t ≡ lookup_packet ws bytes
  unfolding tally_answer
  tally_before = found_before F bytes t

  pub tally_13 : (lookup_packet ws bytes).answer ≡ 0 → Refuses 13 (NoPlace (lookup_packet ws bytes).rule t) done (tally_answer ws bytes t).answer
  unfolding tally_answer
  tally_13 = found_13 F bytes t

  pub tally_zeros : ((lookup_packet ws bytes).answer ≢ 0 → OnlyAnswer (lookup_packet ws bytes)) → (tally_answer ws bytes t).answer ≢ 0 → OnlyAnswer (tally_answer ws bytes t)
  unfolding tally_answer
  tally_zeros = found_zeros F bytes t

  pub tally_kept : (tally_answer ws bytes t).answer ≢ 0 → tallies_left ws bytes t ≡ t
  unfolding tally_answer tallies_left
  tally_kept = found_kept F bytes t

  -- where it is not refused it answers what the lookup by a packet does
  pub tally_same : ((tally_answer ws bytes t).answer ≡ 13) ⊎ (tally_answer ws bytes t ≡ lookup_packet ws bytes)
  unfolding tally_answer
  tally_same = found_or_13 F bytes t

  pub tally_done : (tally_answer ws bytes t).answer ≡ 0 → tally_answer ws bytes t ≡ lookup_packet ws bytes
  unfolding tally_answer
  tally_done = found_done F bytes t

  -- WHAT IT COUNTS, in a record of m places
  module _ (m : ℕ) (s : Places m t) where
    pub keeps_places : Places m (tallies_left ws bytes t)
    keeps_places = by_look (λ g u. Places m u) (λ h. s) (λ e p. s)
        (λ e i f. record { keys = s.keys; packets = length-set t.packets i _ ∙ s.packets; bytes = length-set t.bytes i _ ∙ s.bytes })
        (λ e h i f. record {
          keys = length-set t.key i _ ∙ s.keys;
          packets = length-set (set t.packets i 0) i _ ∙ length-set t.packets i 0 ∙ s.packets;
          bytes = length-set (set t.bytes i 0) i _ ∙ length-set t.bytes i 0 ∙ s.bytes;
        })

    added_to : (tally_answer ws bytes t).answer ≡ 0 → AddedTo (lookup_packet ws bytes).rule (total_length bytes) t (tallies_left ws bytes t)
    unfolding plus
    added_to = by_look (λ g u. g.answer ≡ 0 → AddedTo F.rule (total_length bytes) t u) (λ h e. absurd (h e)) (λ h p e. absurd (omega arith))
        (λ h i f e.
        let l = f.0 in
        record {
          place = i;
          packets_before = packets_at t i;
          bytes_before = bytes_at t i;
          from = inl (f, refl, refl);
          key = f.1.1;
          packets = get_or-set_same t.packets i _ 0 (omega (arith, s.keys, s.packets));
          bytes = get_or-set_same t.bytes i _ 0 (omega (arith, s.keys, s.bytes));
          others = λ j n. (refl, get_or-set_other t.packets i j _ 0 n, get_or-set_other t.bytes i j _ 0 n);
        })
        (λ h none i f e.
        let zero_at : (xs : List ℕ) → length xs ≡ m → get_or (set xs i 0) i 0 ≡ 0 = λ xs q. get_or-set_same xs i 0 0 (omega (arith, f.0, s.keys)) in
        let there : (xs : List ℕ) → length xs ≡ m → i < length (set xs i 0) = λ xs q. omega (arith, f.0, s.keys, length-set xs i 0) in
        record {
          place = i;
          packets_before = 0;
          bytes_before = 0;
          from = inr (none, f, refl, refl);
          key = get_or-set_same t.key i _ 0 f.0;
          packets = get_or-set_same (set t.packets i 0) i _ 0 (there t.packets s.packets) ∙ ap (λ (x : ℕ). (x + 1) % 2 ^ 32) (zero_at t.packets s.packets);
          bytes = get_or-set_same (set t.bytes i 0) i _ 0 (there t.bytes s.bytes) ∙ ap (λ (x : ℕ). (x + total_length bytes) % 2 ^ 32) (zero_at t.bytes s.bytes);
          others = λ j n. (
            get_or-set_other t.key i j _ 0 n,
            get_or-set_other (set t.packets i 0) i j _ 0 n ∙ get_or-set_other t.packets i j _ 0 n,
            get_or-set_other (set t.bytes i 0) i j _ 0 n ∙ get_or-set_other t.bytes i j _ 0 n,
          );
        })

    pub counts_it : (tally_answer ws bytes t).answer ≡ 0 → (tally_answer ws bytes t ≡ lookup_packet ws bytes) × AddedTo (lookup_packet ws bytes).rule (total_length bytes) t (tallies_left ws bytes t)
    counts_it e = (tally_done e, added_to e)

-- two stores that answer a packet alike do so with the same tallies, and leave the same
module _ (ws vs : List ℕ) (bytes : List ℕ) (t : Tallies) (e : lookup_packet ws bytes ≡ lookup_packet vs bytes) where
  pub same_answer : tally_answer ws bytes t ≡ tally_answer vs bytes t
  unfolding tally_answer
  same_answer = rw e

  pub same_left : tallies_left ws bytes t ≡ tallies_left vs bytes t
  unfolding tallies_left
  same_left = rw e

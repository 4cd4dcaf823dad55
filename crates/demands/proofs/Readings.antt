-- Between two readings of a tally: the difference is what was added, whether the number was held at the first reading or not.
-- Assumes nothing.
use mathlib.Core.Path.{◌≡◌, refl, sym, ap, subst, ◌∙◌}
use mathlib.Core.Bool.{cond, ◌&&◌}
use mathlib.Core.Logic.{◌⊎◌, inl, inr, ⊎_elim, ◌≢◌}
use mathlib.Core.List.{List, [], ◌∷◌}
use Prim.Native.Nat.{ℕ, ◌+◌, ◌%◌, ◌≤◌, ◌<◌, ◌^◌}
use native.Mathlib.Omega.{arith}
use lib.Dec.{ltb, eqb}
use lib.ListN.{length, get_or, set, length-set}
use lib.Seq.{get_or-set_same, get_or-set_other}
use borrow.Author.Tests.{ltb-true, ltb-false, eqb-true, eqb-false, eq-eqb, ne_eqb}
use Rattle.model.proofs.Tests.{by_test}
use Rattle.header.specs.Header.{total_length}
use Rattle.lookup.specs.declared.Found.{Found}
use Rattle.lookup.specs.Walk.{lookup_packet}
use Rattle.tally.specs.declared.Tallies.{Tallies}
use Rattle.tally.specs.Tally.{plus, added_at, added_in, begun_in, tallies_left, tally_answer, difference}
use Rattle.demands.specs.Tally.{key_at, HoldsAt, UnusedAt, FirstAt, Nowhere, Places, Event, looks, drops, tallies_next, tallies_after, decides_for, adds, Undropped, ReadAs}
use Rattle.demands.proofs.Tally.{by_look, keeps_places}

-- THE KEYS with another one at place j. All that is said of keys is said of any record that has them.
module _ (t u : Tallies) (j key : ℕ) (is : u.key ≡ set t.key j key) where
  pub set_long : length u.key ≡ length t.key
  set_long = ap length is ∙ length-set t.key j key

  pub set_here : j < length t.key → key_at u j ≡ key
  set_here l = ap (λ (ks : List ℕ). get_or ks j 0) is ∙ get_or-set_same t.key j key 0 l

  pub set_other : (i : ℕ) → i ≢ j → key_at u i ≡ key_at t i
  set_other i n = ap (λ (ks : List ℕ). get_or ks i 0) is ∙ get_or-set_other t.key j i key 0 n

  -- what is held after it was held before, or is the new key
  pub from_set : (n i : ℕ) → i < length t.key → HoldsAt n u i → ((i ≡ j) × (key ≤ 65535) × (key ≡ n)) ⊎ HoldsAt n t i
  from_set n i l h = by_test (eqb i j)
      (λ q. let e = eqb-true i j q in let z : key_at u i ≡ key = ap (key_at u) e ∙ set_here (omega arith) in inl (e, omega (arith, h.0), sym z ∙ h.1))
      (λ q. inr (subst (λ (x : ℕ). (x ≤ 65535) × (x ≡ n)) (set_other i (eqb-false i j q)) h))

  pub to_set : (n i : ℕ) → i ≢ j → HoldsAt n t i → HoldsAt n u i
  to_set n i ne h = subst (λ (x : ℕ). (x ≤ 65535) × (x ≡ n)) (sym (set_other i ne)) h

  -- the first place that holds a number stays the first, where another place gets a key that is not the number's
  first_stays : (n i : ℕ) → FirstAt (HoldsAt n t) t i → i ≢ j → ((key ≤ 65535) × (key ≡ n) → ⊥) → FirstAt (HoldsAt n u) u i
  first_stays n i f ne other = (omega (arith, f.0, set_long), to_set n i ne f.1, λ a l h. ⊎_elim (λ q. other (q.1, q.2)) (f.2 a l) (from_set n a (omega (arith, f.0)) h))

  nowhere_stays : (n : ℕ) → Nowhere (HoldsAt n t) t → ((key ≤ 65535) × (key ≡ n) → ⊥) → Nowhere (HoldsAt n u) u
  nowhere_stays n none other i l h = ⊎_elim (λ q. other (q.1, q.2)) (none i (omega (arith, set_long))) (from_set n i (omega (arith, set_long)) h)

  -- a number that was nowhere is first where it is put
  first_new : Nowhere (HoldsAt key t) t → key ≤ 65535 → j < length t.key → FirstAt (HoldsAt key u) u j
  first_new none small l = (omega (arith, set_long), (omega (arith, set_here l), set_here l), λ a m h. ⊎_elim (λ q. omega (arith, q.0)) (none a (omega arith)) (from_set key a (omega arith) h))

-- the first place that holds a number is one place
one_place : (t : Tallies) (n i j : ℕ) → FirstAt (HoldsAt n t) t i → FirstAt (HoldsAt n t) t j → i ≡ j
one_place t n i j f g = by_test (ltb j i)
    (λ p. absurd (f.2 j (ltb-true j i p) g.1))
    (λ p. by_test (ltb i j) (λ q. absurd (g.2 i (ltb-true i j q) f.1)) (λ q. omega (arith, ltb-false j i p, ltb-false i j q)))

-- an unused place holds no number
not_unused : (t : Tallies) (n i j : ℕ) → HoldsAt n t i → UnusedAt t j → i ≢ j
not_unused t n i j h u e = omega (arith, h.0, u, ap (key_at t) e)

-- THE PLACE of a number that is held stays its own
first_look : (ws bytes : List ℕ) (t : Tallies) (n i : ℕ) → FirstAt (HoldsAt n t) t i → FirstAt (HoldsAt n (tallies_left ws bytes t)) (tallies_left ws bytes t) i
first_look ws bytes t n i f = by_look ws bytes t (λ g u. FirstAt (HoldsAt n u) u i) (λ h. f) (λ h p. f) (λ h j g. f)
    (λ h none j g. first_stays t (begun_in j (lookup_packet ws bytes).rule t) j (lookup_packet ws bytes).rule refl n i f (not_unused t n i j f.1 g.1) (λ q. none i f.0 (f.1.0, f.1.1 ∙ sym q.1)))

first_drop : (t : Tallies) (n i place key : ℕ) (u : 65535 < key) → FirstAt (HoldsAt n t) t i → (FirstAt (HoldsAt n t) t place → ⊥) → FirstAt (HoldsAt n (tallies_next t (drops place key u))) (tallies_next t (drops place key u)) i
first_drop t n i place key u f kept = first_stays t (tallies_next t (drops place key u)) place key refl n i f (λ e. kept (subst (FirstAt (HoldsAt n t) t) e f)) (λ q. omega (arith, q.0))

pub stays_first : (t : Tallies) (n i : ℕ) → FirstAt (HoldsAt n t) t i → (es : List Event) → Undropped n t es → FirstAt (HoldsAt n (tallies_after t es)) (tallies_after t es) i
stays_first t n i f [] kept = f
stays_first t n i f (looks ws bytes ∷ es) kept = stays_first (tallies_left ws bytes t) n i (first_look ws bytes t n i f) es kept
stays_first t n i f (drops place key u ∷ es) kept = stays_first (tallies_next t (drops place key u)) n i (first_drop t n i place key u f kept.0) es kept.1

-- COUNTS THAT WRAP
wraps_0 : (x : ℕ) → x < 2 ^ 32 → x ≡ (x + 0) % 2 ^ 32
wraps_0 x l = omega arith

below_wrap : (x : ℕ) → x % 2 ^ 32 < 2 ^ 32
below_wrap x = omega arith

added_here : (xs : List ℕ) (i w : ℕ) → i < length xs → get_or (added_at i w xs) i 0 ≡ (get_or xs i 0 + w) % 2 ^ 32
unfolding plus
added_here xs i w l = get_or-set_same xs i _ 0 l

-- ONE OF THE TWO COUNTS of a record of m places: packets, each with the weight 1, or bytes, with a packet's total length
module _ (at : Tallies → List ℕ) (weight : List ℕ → ℕ)
    (at_long : (m : ℕ) (t : Tallies) → Places m t → length (at t) ≡ length t.key)
    (at_Added : (i : ℕ) (bytes : List ℕ) (t : Tallies) → at (added_in i (total_length bytes) t) ≡ added_at i (weight bytes) (at t))
    (at-begun : (i n : ℕ) (t : Tallies) → at (begun_in i n t) ≡ set (at t) i 0)
    (at-dropped : (t : Tallies) (keys : List ℕ) → at (record { key = keys; packets = t.packets; bytes = t.bytes }) ≡ at t) where
  abbrev count_at : Tallies → ℕ → ℕ
  count_at t i = get_or (at t) i 0

  abbrev R : ℕ → Tallies → ℕ → Type 0
  R = ReadAs count_at

  -- a reading of a held number, of one that is not, and one more that says the same
  held_reads : (n : ℕ) (t : Tallies) (i x : ℕ) → FirstAt (HoldsAt n t) t i → x ≡ count_at t i → x < 2 ^ 32 → R n t x
  held_reads n t i x f q l = record { found = inl (i, f, q); small = l }

  none_reads : (n : ℕ) (t : Tallies) → Nowhere (HoldsAt n t) t → R n t 0
  none_reads n t h = record { found = inr (h, refl); small = omega arith }

  one_reading : (n : ℕ) (t : Tallies) (x y : ℕ) → R n t x → R n t y → x ≡ y
  one_reading n t x y a b = go a.found b.found
    where
      go : ((i : ℕ) × FirstAt (HoldsAt n t) t i × (x ≡ count_at t i)) ⊎ (Nowhere (HoldsAt n t) t × (x ≡ 0)) → ((i : ℕ) × FirstAt (HoldsAt n t) t i × (y ≡ count_at t i)) ⊎ (Nowhere (HoldsAt n t) t × (y ≡ 0)) → x ≡ y
      go (inl (i, f, p)) (inl (j, g, q)) = p ∙ ap (count_at t) (one_place t n i j f g) ∙ sym q
      go (inl (i, f, p)) (inr (none, q)) = absurd (none i f.0 f.1)
      go (inr (none, p)) (inl (j, g, q)) = absurd (none j g.0 g.1)
      go (inr (none, p)) (inr (none', q)) = p ∙ sym q

  -- a lookup that answers g and leaves u: the reading x of t becomes that of u by what g adds
  abbrev ReadsOn : ℕ → ℕ → List ℕ → Found → Tallies → Type 0
  ReadsOn n x bytes g u = R n u ((x + cond (eqb g.answer 0 && eqb g.rule n) (weight bytes) 0) % 2 ^ 32)

  module _ (m : ℕ) (ws bytes : List ℕ) (t : Tallies) (s : Places m t) (n : ℕ) (low : n ≤ 65535) where
    abbrev M : ℕ
    M = (lookup_packet ws bytes).rule

    -- what stands at another place than that which is added to
    other_count : (i j : ℕ) → i ≢ j → count_at (added_in j (total_length bytes) t) i ≡ count_at t i
    other_count i j ne = rw (at_Added j bytes t) (get_or-set_other (at t) j i _ 0 ne)

    other_begun : (i j : ℕ) → i ≢ j → count_at (added_in j (total_length bytes) (begun_in j M t)) i ≡ count_at t i
    other_begun i j ne = rw (at_Added j bytes (begun_in j M t), at-begun j M t) (get_or-set_other (set (at t) j 0) j i _ 0 ne ∙ get_or-set_other (at t) j i 0 0 ne)

    -- the number is held at place i
    held_look : (i x : ℕ) → FirstAt (HoldsAt n t) t i → x ≡ count_at t i → x < 2 ^ 32 → ReadsOn n x bytes (tally_answer ws bytes t) (tallies_left ws bytes t)
    held_look i x f q l =
        by_look ws bytes t (ReadsOn n x bytes)
        (λ h. rw (ne_eqb _ 0 h) same)
        (λ h p. same)
        (λ h j g. by_test (eqb M n)
        (λ e. let z = one_place t n j i (subst (λ (a : ℕ). FirstAt (HoldsAt a t) t j) (eqb-true M n e) g) f in
        rw (eq-eqb _ 0 h, e) (held_reads n _ i _ f
        (sym (ap (λ (a : ℕ). count_at (added_in a (total_length bytes) t) i) z ∙ rw (at_Added i bytes t) (added_here (at t) i (weight bytes) (omega (arith, f.0, at_long m t s))) ∙ ap (λ (a : ℕ). (a + weight bytes) % 2 ^ 32) (sym q))) (below_wrap _)))
        (λ e. rw (eq-eqb _ 0 h, e) (held_reads n _ i _ f (sym (wraps_0 x l) ∙ q ∙ sym (other_count i j (λ z. eqb-false M n e (sym g.1.1 ∙ ap (key_at t) (sym z) ∙ f.1.1)))) (below_wrap _))))
        (λ h none j g.
        let ne = not_unused t n i j f.1 g.1 in
        let other : M ≢ n = λ e. none i f.0 (f.1.0, f.1.1 ∙ sym e) in
        rw (eq-eqb _ 0 h, ne_eqb M n other)
        (held_reads n _ i _ (first_stays t (begun_in j M t) j M refl n i f ne (λ p. other p.1)) (sym (wraps_0 x l) ∙ q ∙ sym (other_begun i j ne)) (below_wrap _)))
      where
        same : R n t ((x + 0) % 2 ^ 32)
        same = held_reads n t i _ f (sym (wraps_0 x l) ∙ q) (below_wrap _)

    -- it is not held
    new_look : Nowhere (HoldsAt n t) t → ReadsOn n 0 bytes (tally_answer ws bytes t) (tallies_left ws bytes t)
    new_look none =
        by_look ws bytes t (ReadsOn n 0 bytes)
        (λ h. rw (ne_eqb _ 0 h) (none_reads n t none))
        (λ h p. none_reads n t none)
        (λ h j g. rw (eq-eqb _ 0 h, ne_eqb M n (λ e. none j g.0 (g.1.0, g.1.1 ∙ e))) (none_reads n _ none))
        (λ h no-m j g. by_test (eqb M n)
        (λ e. let z = eqb-true M n e in
        let l : j < length (set (at t) j 0) = omega (arith, g.0, at_long m t s, length-set (at t) j 0) in
        rw (eq-eqb _ 0 h, e) (held_reads n _ j _ (subst (λ (a : ℕ). FirstAt (HoldsAt a (begun_in j M t)) (begun_in j M t) j) z (first_new t (begun_in j M t) j M refl no-m (omega (arith, z)) g.0))
        (sym (rw (at_Added j bytes (begun_in j M t), at-begun j M t) (added_here (set (at t) j 0) j (weight bytes) l ∙ ap (λ (a : ℕ). (a + weight bytes) % 2 ^ 32) (get_or-set_same (at t) j 0 0 (omega (arith, g.0, at_long m t s)))))) (below_wrap _)))
        (λ e. let other = eqb-false M n e in rw (eq-eqb _ 0 h, e) (none_reads n _ (nowhere_stays t (begun_in j M t) j M refl n none (λ p. other p.1)))))

    one_look : (x : ℕ) → R n t x → ReadsOn n x bytes (tally_answer ws bytes t) (tallies_left ws bytes t)
    one_look x r = ⊎_elim (λ h. held_look h.0 x h.1 h.2 r.small) (λ h. rw h.1 (new_look h.0)) r.found

  one_drop : (t : Tallies) (n place key : ℕ) (u : 65535 < key) → (FirstAt (HoldsAt n t) t place → ⊥) → (x : ℕ) → R n t x → R n (tallies_next t (drops place key u)) x
  one_drop t n place key u kept x r = ⊎_elim
      (λ h. held_reads n _ h.0 x (first_drop t n h.0 place key u h.1 kept) (h.2 ∙ sym (ap (λ (l : List ℕ). get_or l h.0 0) (at-dropped t (set t.key place key)))) r.small)
      (λ h. rw h.1 (none_reads n _ (nowhere_stays t (tallies_next t (drops place key u)) place key refl n h.0 (λ q. omega (arith, q.0)))))
      r.found

  -- ALL EVENTS
  reading : (m : ℕ) (t : Tallies) → Places m t → (n : ℕ) → n ≤ 65535 → (x : ℕ) → R n t x → (es : List Event) → Undropped n t es → R n (tallies_after t es) ((x + adds weight n t es) % 2 ^ 32)
  reading m t s n low x r [] kept = rw (← wraps_0 x r.small) r
  reading m t s n low x r (looks ws bytes ∷ es) kept =
      let a = cond (decides_for n ws bytes t) (weight bytes) 0 in
      let b = adds weight n (tallies_left ws bytes t) es in
      let z : ((x + a) % 2 ^ 32 + b) % 2 ^ 32 ≡ (x + (a + b)) % 2 ^ 32 = omega arith in
      subst (R n (tallies_after (tallies_left ws bytes t) es)) z (reading m (tallies_left ws bytes t) (keeps_places ws bytes t m s) n low ((x + a) % 2 ^ 32) (one_look m ws bytes t s n low x r) es kept)
  reading m t s n low x r (drops place key u ∷ es) kept =
      reading m (tallies_next t (drops place key u)) (record { keys = length-set t.key place key ∙ s.keys; packets = s.packets; bytes = s.bytes }) n low x (one_drop t n place key u kept.0 x r) es kept.1

  pub difference_right : (m : ℕ) (t : Tallies) → Places m t → (n : ℕ) → n ≤ 65535 → (es : List Event) → Undropped n t es → adds weight n t es < 2 ^ 32
      → (x y : ℕ) → ReadAs (λ u i. get_or (at u) i 0) n t x → ReadAs (λ u i. get_or (at u) i 0) n (tallies_after t es) y → difference x y ≡ adds weight n t es
  unfolding difference
  difference_right m t s n low es kept few x y a b =
      let z = one_reading n (tallies_after t es) y _ b (reading m t s n low x a es kept) in
      let l = a.small in
      omega arith

-- The first place whose key passes a test, by the keys that were passed; and what the loop over the keys knows.
-- Assumes nothing.
use Rattle.std.proofs.Common.{◌≡◌, ℕ, zero, suc, ◌+◌, ◌<◌, ◌≤◌, Bool, true, false, cond, ltb, List, [], ◌∷◌, length, get_or, sym, refl, ap, ◌∙◌, arith, ltb-false, ltb-true, le-ltb, lt-ltb, eq-eqb, le-leb}
use Rattle.std.specs.Prelude.{Option, Some, None}
use Rattle.tally.specs.declared.Place.{Place}
use Rattle.tally.specs.declared.Place.TheVariants.{Held, New, Full}
use Rattle.tally.specs.Tally.{unused, keyed, first_place, place_of}

-- none of the first n keys passes the test
abbrev pub NonePass : (ℕ → Bool) → List ℕ → ℕ → Type 0
NonePass test keys n = (j : ℕ) → j < n → test (get_or keys j 0) ≡ false

module _ (test : ℕ → Bool) where
  -- the first place is the first that passes
  pub first_at : (keys : List ℕ) (i : ℕ) → i < length keys → NonePass test keys i → test (get_or keys i 0) ≡ true → first_place test keys ≡ i
  unfolding first_place
  first_at [] i h n e = absurd (omega arith)
  first_at (key ∷ keys) zero h n e = rw e
  first_at (key ∷ keys) (suc i) h n e = rw (n 0 (omega arith)) (ap suc (first_at keys i (omega arith) (λ j l. n (suc j) (omega arith)) e))

  pub first_none : (keys : List ℕ) → NonePass test keys (length keys) → first_place test keys ≡ length keys
  unfolding first_place
  first_none [] n = refl
  first_none (key ∷ keys) n = rw (n 0 (omega arith)) (ap suc (first_none keys (λ j l. n (suc j) (omega arith))))

  -- and what the first place tells
  pub before_first : (keys : List ℕ) → NonePass test keys (first_place test keys)
  unfolding first_place
  before_first [] j l = absurd (omega arith)
  before_first (key ∷ keys) j l = pick (before_first keys) (test key) refl j l
    where
      pick : NonePass test keys (first_place test keys) → (b : Bool) → test key ≡ b → (j : ℕ) → j < cond b 0 (suc (first_place test keys)) → test (get_or (key ∷ keys) j 0) ≡ false
      pick rest true q j l = absurd (omega arith)
      pick rest false q zero l = q
      pick rest false q (suc j) l = rest j (omega arith)

  pub first_passes : (keys : List ℕ) → first_place test keys < length keys → test (get_or keys (first_place test keys) 0) ≡ true
  unfolding first_place
  first_passes [] l = absurd (omega arith)
  first_passes (key ∷ keys) l = pick (first_passes keys) (test key) refl l
    where
      pick : (first_place test keys < length keys → test (get_or keys (first_place test keys) 0) ≡ true) → (b : Bool) → test key ≡ b → cond b 0 (suc (first_place test keys)) < suc (length keys) → test (get_or (key ∷ keys) (cond b 0 (suc (first_place test keys))) 0) ≡ true
      pick rest true q l = q
      pick rest false q l = rest (omega arith)

  -- one key more that does not pass
  pub none_more : (keys : List ℕ) (n : ℕ) → NonePass test keys n → test (get_or keys n 0) ≡ false → NonePass test keys (n + 1)
  none_more keys n h e j l = pick (ltb j n) refl
    where
      pick : (b : Bool) → ltb j n ≡ b → test (get_or keys j 0) ≡ false
      pick true q = h j (ltb-true j n q)
      pick false q = let a : j ≡ n = omega (arith, ltb-false j n q) in rw a e

module _ (keys : List ℕ) where
  -- what the loop knows of the first unused place among the first i: there is none, or it is this one
  abbrev pub Free : ℕ → Option ℕ → Type 0
  Free i None = NonePass unused keys i
  Free i (Some j) = (j < length keys) × NonePass unused keys j × (unused (get_or keys j 0) ≡ true)

  module _ (number : ℕ) where
    pub held_at : (i : ℕ) → i < length keys → NonePass (keyed number) keys i → get_or keys i 0 ≡ number → get_or keys i 0 ≤ 65535 → place_of number keys ≡ Held i
    unfolding place_of
    held_at i h n e l = rw (first_at (keyed number) keys i h n (rw (eq-eqb _ _ e, le-leb _ 65535 l)), lt-ltb i (length keys) h)

    -- all keys were passed
    module _ (i : ℕ) (all : length keys ≤ i) (none : NonePass (keyed number) keys i) where
      none_keyed : ltb (first_place (keyed number) keys) (length keys) ≡ false
      none_keyed = le-ltb (first_place (keyed number) keys) (length keys) (omega (arith, first_none (keyed number) keys (λ j l. none j (omega arith))))

      pub new_at : (o : Option ℕ) (place : ℕ) → o ≡ Some place → Free i o → place_of number keys ≡ New place
      unfolding place_of
      new_at None place e f = absurd (cc)
      new_at (Some j) place e f = let z : j ≡ place = cc in rw (← z, none_keyed, first_at unused keys j f.0 f.1 f.2, lt-ltb j (length keys) f.0)

      pub full_at : (o : Option ℕ) → o ≡ None → Free i o → place_of number keys ≡ Full
      unfolding place_of
      full_at None e f = rw (none_keyed, le-ltb (first_place unused keys) (length keys) (omega (arith, first_none unused keys (λ j l. f j (omega arith)))))
      full_at (Some j) e f = absurd (cc)

-- WHAT A PLACE TELLS of the keys
pub data Tells (number : ℕ) (keys : List ℕ) : Place → Type 0 where
  holds_it : (i : ℕ) → i < length keys → NonePass (keyed number) keys i → keyed number (get_or keys i 0) ≡ true → Tells number keys (Held i)
  takes_it : (i : ℕ) → i < length keys → NonePass (keyed number) keys (length keys) → NonePass unused keys i → unused (get_or keys i 0) ≡ true → Tells number keys (New i)
  no_room : NonePass (keyed number) keys (length keys) → NonePass unused keys (length keys) → Tells number keys Full

pub place_told : (number : ℕ) (keys : List ℕ) → Tells number keys (place_of number keys)
unfolding place_of
place_told number keys = pick (ltb (first_place (keyed number) keys) (length keys)) refl (ltb (first_place unused keys) (length keys)) refl
  where
    none_of : (test : ℕ → Bool) → ltb (first_place test keys) (length keys) ≡ false → NonePass test keys (length keys)
    none_of test q j l = before_first test keys j (omega (arith, ltb-false (first_place test keys) (length keys) q))

    pick : (b : Bool) → ltb (first_place (keyed number) keys) (length keys) ≡ b → (d : Bool) → ltb (first_place unused keys) (length keys) ≡ d
        → Tells number keys (cond b (Held (first_place (keyed number) keys)) (cond d (New (first_place unused keys)) Full))
    pick true q d r = let l = ltb-true (first_place (keyed number) keys) (length keys) q in holds_it _ l (before_first (keyed number) keys) (first_passes (keyed number) keys l)
    pick false q true r = let l = ltb-true (first_place unused keys) (length keys) r in takes_it _ l (none_of (keyed number) q) (before_first unused keys) (first_passes unused keys l)
    pick false q false r = no_room (none_of (keyed number) q) (none_of unused r)

-- a place that is found is one of m places
module _ (keys : List ℕ) (number i m : ℕ) {p : Place} (long : length keys ≡ m) (e : p ≡ place_of number keys) where
  pub held_below : p ≡ Held i → i < m
  held_below q = told (place_of number keys) (sym e ∙ q) (place_told number keys)
    where
      told : (r : Place) → r ≡ Held i → Tells number keys r → i < m
      told r q (holds_it j l n h) = let z : j ≡ i = cc in omega arith
      told r q (takes_it j l n f h) = let z : ◌≡◌ {A = ℕ} 0 1 = cc in absurd (omega arith)
      told r q (no_room n f) = let z : ◌≡◌ {A = ℕ} 0 1 = cc in absurd (omega arith)

  pub new_below : p ≡ New i → i < m
  new_below q = told (place_of number keys) (sym e ∙ q) (place_told number keys)
    where
      told : (r : Place) → r ≡ New i → Tells number keys r → i < m
      told r q (holds_it j l n h) = let z : ◌≡◌ {A = ℕ} 0 1 = cc in absurd (omega arith)
      told r q (takes_it j l n f h) = let z : j ≡ i = cc in omega arith
      told r q (no_room n f) = let z : ◌≡◌ {A = ℕ} 0 1 = cc in absurd (omega arith)

-- Reading a file back that is written by the calls, over the definitions of specs/Back.antt.
-- Assumes nothing.
use Rattle.std.specs.Prelude.{ℕ, zero, suc, ◌+◌, ◌*◌, ◌/◌, ◌%◌, ◌≤◌, ◌<◌, ◌≡◌, refl, Bool, true, false, cond, Some, Ok, List, [], ◌∷◌, ◌++◌, ltb, eqb, length, take, drop}
use Rattle.std.proofs.Common.{sym, ap, subst, ◌∙◌, append_assoc, append-nil, div-add-mod', mod-eq_of_lt, arith, le-leb, le-ltb, ltb-false, eqb-true, length-append, length-drop, drop-drop}
use Rattle.std.proofs.Math.Nat.{div-div-eq-div-mul}
use Rattle.std.proofs.Math.Seq.{take-append_seam, drop-append_seam}
use Rattle.octets.specs.declared.Order.TheVariants.{Little}
use Rattle.octets.specs.Octets.{word}
use Rattle.capture.specs.Pcap.{opened, next_of}
use Rattle.capture.specs.Cases.{edge, whole}
use Rattle.capture.specs.Accepts.{accepts}
use Rattle.writing.specs.Writing.{little_bytes, file_header, begin_answer, add_answer}
use Rattle.writing.specs.Packets.{Packet, Packets, before, front, follow, packets_in, packets_of, none, holds, holding, plainly, same_reading}
use Rattle.writing.specs.Back.{packet_bytes, all_bytes, file_bytes, Numbers, AllNumbers, AllShort, Output, rest, begun, added, filled, accepted, Kept, nil, cons}

-- ---- reading it

-- the four bytes of a number are read as the number
pub little_word : (n : ℕ) → n < 4294967296 → word Little (little_bytes n) 0 ≡ n
little_word n h =
    let q : n / 65536 ≡ n / 256 / 256 = sym (div-div-eq-div-mul n 256 256) in
    let r : n / 16777216 ≡ n / 256 / 256 / 256 = sym (ap (λ x. x / 256) (div-div-eq-div-mul n 256 256) ∙ div-div-eq-div-mul n 65536 256) in
    let k : n / 256 / 256 / 256 < 256 = omega arith in
    rw (q, r, mod-eq_of_lt k) (sums n (n / 256) (n % 256) (n / 256 / 256) (n / 256 % 256) (n / 256 / 256 / 256) (n / 256 / 256 % 256) (div-add-mod' n 256) (div-add-mod' (n / 256) 256) (div-add-mod' (n / 256 / 256) 256))
  where
    sums : (n a x b y c z : ℕ) → a * 256 + x ≡ n → b * 256 + y ≡ a → c * 256 + z ≡ b → (c * 256 + z) * 65536 + (y * 256 + x) ≡ n
    sums n a x b y c z e f g = omega arith

header_opened : (r : List ℕ) → opened (file_header ++ r) ≡ Some Little
header_opened r = (accepts (file_header ++ r) Little).1 (record { long = omega arith; start = refl; major = refl; minor = refl; link = refl })

module _ (p : Packet) (r : List ℕ) (n : Numbers p) (h : length p.row ≤ 16384) where
  -- its header leads to its data
  leads : next_of Little (take 16 (packet_bytes p ++ r)) ≡ Ok (length p.row)
  leads =
      let e : word Little (little_bytes (length p.row)) 0 ≡ length p.row = little_word (length p.row) (omega arith) in
      sym (whole Little (take 16 (packet_bytes p ++ r)) (λ z. omega arith) (omega arith) (omega arith)) ∙ ap (λ k. Ok k) e

  -- and it is the packet in front
  in_front : front Little (packet_bytes p ++ r) (length p.row) ≡ p
  in_front =
      rw (little_word p.seconds n.seconds, little_word p.fraction n.fraction, little_word p.original n.original, take-append_seam p.row r)

  first : (f : List ℕ → Packets) → follow Little (packet_bytes p ++ r) f (next_of Little (take 16 (packet_bytes p ++ r))) ≡ before p (f r)
  first f =
      let k : length p.row ≤ length (take (length p.row) (p.row ++ r)) = rw take-append_seam (omega arith) in
      rw leads (all_there _ _ _ (le-leb _ _ k) in_front (drop-append_seam p.row r))
    where
      all_there : (b : Bool) (q : Packet) (t : List ℕ) → b ≡ true → q ≡ p → t ≡ r → cond b (before q (f t)) (none 1) ≡ before p (f r)
      all_there b q t d e g = rw (d, e, g)

back_in : (n : ℕ) (ps : List Packet) → AllNumbers ps → AllShort ps → length (all_bytes ps) ≤ n → packets_in n Little (all_bytes ps) ≡ record { packets = ps; ending = 0 }
unfolding all_bytes packets_in
back_in zero [] nil nil h = refl
back_in (suc n) [] nil nil h = rw (← edge Little [] refl)
back_in zero (p ∷ ps) (cons a x) (cons b y) h = absurd (omega arith)
back_in (suc n) (p ∷ ps) (cons a x) (cons b y) h =
    let k : length (all_bytes ps) ≤ n = omega (arith, length-append p.row (all_bytes ps)) in
    first p (all_bytes ps) a b (packets_in n Little) ∙ ap (λ l. before p l) (back_in n ps x y k)

-- THE FILE OF THESE PACKETS is accepted and holds exactly them, in order, ended at an edge.
pub file_back : (ps : List Packet) → AllNumbers ps → AllShort ps → holding (file_bytes ps) ≡ holds (record { packets = ps; ending = 0 })
unfolding holding packets_of
file_back ps a b = rw (header_opened (all_bytes ps)) (ap (λ l. holds l) (back_in (length (all_bytes ps)) ps a b (omega arith)))

-- an output of bytes written and others behind them
abbrev split : List ℕ → List ℕ → Output
split x y = record { lent = x ++ y; used = length x }

same_output : (a b : List ℕ) (m n : ℕ) → a ≡ b → m ≡ n → ◌≡◌ {A = Output} (record { lent = a; used = m }) (record { lent = b; used = n })
same_output a b m n e f = rw (e, f)

module _ (x y : List ℕ) (p : Packet) where
  -- an add that is not refused puts the record behind what is written, and one that is refused changes nothing
  puts : eqb (add_answer y p.row) 0 ≡ true → added (split x y) p ≡ split (x ++ packet_bytes p) (drop (length (packet_bytes p)) y)
  puts e =
      rw (drop-append_seam x y, take-append_seam x y, e)
      (same_output _ _ _ _ (sym (append_assoc x (packet_bytes p) (drop (length (packet_bytes p)) y))) (omega (arith, length-append x (packet_bytes p))))

  leaves : eqb (add_answer y p.row) 0 ≡ false → added (split x y) p ≡ split x y
  leaves e = rw (drop-append_seam x y, take-append_seam x y, e) (same_output _ _ _ _ refl (omega arith))

  module _ (ps : List Packet) where
    counted : eqb (add_answer y p.row) 0 ≡ true → accepted (split x y) (p ∷ ps) ≡ p ∷ accepted (split (x ++ packet_bytes p) (drop (length (packet_bytes p)) y)) ps
    unfolding accepted
    counted e = rw (puts e, drop-append_seam x y, e)

    left_out : eqb (add_answer y p.row) 0 ≡ false → accepted (split x y) (p ∷ ps) ≡ accepted (split x y) ps
    unfolding accepted
    left_out e = rw (leaves e, drop-append_seam x y, e)

-- what these adds leave: the records of those accepted behind what was written, and the bytes behind as they were
abbrev left_by : List ℕ → List ℕ → List Packet → Output
left_by x y ps = split (x ++ all_bytes ps) (drop (length (all_bytes ps)) y)

same_split : (a b c d : List ℕ) → a ≡ b → c ≡ d → split a c ≡ split b d
same_split a b c d e f = rw (e, f)

one_more : (x y : List ℕ) (p : Packet) (ps : List Packet) → left_by (x ++ packet_bytes p) (drop (length (packet_bytes p)) y) ps ≡ left_by x y (p ∷ ps)
unfolding all_bytes
one_more x y p ps =
    let b = packet_bytes p in
    let t = all_bytes ps in
    same_split _ _ _ _ (append_assoc x b t) (drop-drop (length t) (length b) y ∙ ap (λ k. drop k y) (sym (length-append b t)))

-- the same of one add, where it holds of those behind it
module _ (x y : List ℕ) (p : Packet) (ps : List Packet) (h : (x y : List ℕ) → filled (split x y) ps ≡ left_by x y (accepted (split x y) ps)) where
  one_added : (b : Bool) → eqb (add_answer y p.row) 0 ≡ b → filled (added (split x y) p) ps ≡ left_by x y (accepted (split x y) (p ∷ ps))
  one_added true e = rw (counted x y p ps e, puts x y p e) (h (x ++ packet_bytes p) (drop (length (packet_bytes p)) y) ∙ one_more x y p _)
  one_added false e = rw (left_out x y p ps e, leaves x y p e) (h x y)

none_accepted : (w : Output) → accepted w [] ≡ []
unfolding accepted
none_accepted w = refl

none_added : (x y : List ℕ) → split x y ≡ left_by x y (accepted (split x y) [])
unfolding accepted all_bytes
none_added x y = same_split _ _ _ _ (sym (append-nil x)) refl

fills : (ps : List Packet) (x y : List ℕ) → filled (split x y) ps ≡ left_by x y (accepted (split x y) ps)
unfolding filled
fills [] x y = none_added x y
fills (p ∷ ps) x y = one_added x y p ps (λ x y. fills ps x y) _ refl

-- no record that is accepted is too long
small : (y row : List ℕ) (b : Bool) → ltb 16384 (length row) ≡ b → add_answer y row ≡ 0 → length row ≤ 16384
small y row true e f = absurd (omega (arith, rw e at f))
small y row false e f = ltb-false _ _ e

short : (ps : List Packet) (w : Output) → AllShort (accepted w ps)
unfolding accepted
short [] w = nil
short (p ∷ ps) w = pick (eqb (add_answer (rest w) p.row) 0) refl (short ps (added w p))
  where
    pick : (b : Bool) → eqb (add_answer (rest w) p.row) 0 ≡ b → AllShort (accepted (added w p) ps) → AllShort (cond b (p ∷ accepted (added w p) ps) (accepted (added w p) ps))
    pick true e h = cons (small (rest w) p.row _ refl (eqb-true _ _ e)) h
    pick false e h = h

numbered : (ps : List Packet) (w : Output) → AllNumbers ps → AllNumbers (accepted w ps)
unfolding accepted
numbered [] w nil = nil
numbered (p ∷ ps) w (cons a x) = pick (eqb (add_answer (rest w) p.row) 0) (numbered ps (added w p) x)
  where
    pick : (b : Bool) → AllNumbers (accepted (added w p) ps) → AllNumbers (cond b (p ∷ accepted (added w p) ps) (accepted (added w p) ps))
    pick true h = cons a h
    pick false h = h

module _ (out : List ℕ) (e : begin_answer out ≡ 0) where
  begins : begun out ≡ split file_header (drop 24 out)
  begins = rw e

  filled_by : (ps : List Packet) → filled (begun out) ps ≡ split (file_bytes (accepted (begun out) ps)) (drop (length (file_bytes (accepted (begun out) ps))) out)
  filled_by ps =
      subst (λ (w : Output). filled w ps ≡ split (file_bytes (accepted w ps)) (drop (length (file_bytes (accepted w ps))) out)) (sym begins)
      (fills ps file_header (drop 24 out) ∙ go (all_bytes (accepted (split file_header (drop 24 out)) ps)))
    where
      go : (t : List ℕ) → split (file_header ++ t) (drop (length t) (drop 24 out)) ≡ split (file_header ++ t) (drop (length (file_header ++ t)) out)
      go t =
          let n : 24 + length t ≡ length (file_header ++ t) = omega arith in
          ap (λ y. split (file_header ++ t) y) (drop-drop (length t) 24 out ∙ ap (λ k. drop k out) n)

-- THE WHOLE FILE: where the begin was not refused, any adds of packets with numbers of 32 bits, one behind the other in one output, leave this.
pub kept : (out : List ℕ) (ps : List Packet) → begin_answer out ≡ 0 → AllNumbers ps → Kept out ps
kept out ps e a =
    let t = accepted (begun out) ps in
    let f : take (filled (begun out) ps).used (filled (begun out) ps).lent ≡ file_bytes t = rw (filled_by out e ps) (take-append_seam (file_bytes t) (drop (length (file_bytes t)) out)) in
    let g : holding (take (filled (begun out) ps).used (filled (begun out) ps).lent) ≡ holds (record { packets = t; ending = 0 }) = rw f (file_back t (numbered ps (begun out) a) (short ps (begun out))) in
    record {
      back = g;
      rows = sym (same_reading (take (filled (begun out) ps).used (filled (begun out) ps).lent)) ∙ ap (λ m. plainly m) g;
      file = f;
      behind = rw (filled_by out e ps) (drop-append_seam (file_bytes t) (drop (length (file_bytes t)) out));
    }

-- an add is accepted where there is room for its record
roomy : (y row : List ℕ) → length row ≤ 16384 → 16 + length row ≤ length y → eqb (add_answer y row) 0 ≡ true
roomy y row h k = rw (le-ltb _ _ h, le-ltb _ _ k)

all_roomy : (ps : List Packet) (x y : List ℕ) → AllShort ps → length (all_bytes ps) ≤ length y → accepted (split x y) ps ≡ ps
unfolding all_bytes
all_roomy [] x y nil h = none_accepted (split x y)
all_roomy (p ∷ ps) x y (cons a b) h =
    let n = length-append p.row (all_bytes ps) in
    let k : length (all_bytes ps) ≤ length (drop (length (packet_bytes p)) y) = rw length-drop (omega arith) in
    counted x y p ps (roomy y p.row a (omega arith)) ∙ ap (λ l. p ∷ l) (all_roomy ps (x ++ packet_bytes p) (drop (length (packet_bytes p)) y) b k)

-- NOTHING IS REFUSED where no packet is above 16,384 bytes and the output is as long as the whole file: then all of these packets are read back, in order.
module _ (out : List ℕ) (ps : List Packet) (b : AllShort ps) (h : length (file_bytes ps) ≤ length out) where
  pub begin_fits : begin_answer out ≡ 0
  begin_fits = rw (le-ltb (length out) 24 (omega arith))

  pub all_accepted : accepted (begun out) ps ≡ ps
  all_accepted = rw (begins out begin_fits) (all_roomy ps file_header (drop 24 out) b (rw length-drop (omega arith)))

  pub whole_file : AllNumbers ps → holding (take (filled (begun out) ps).used (filled (begun out) ps).lent) ≡ holds (record { packets = ps; ending = 0 })
  whole_file a = (kept out ps begin_fits a).back ∙ ap (λ t. holds (record { packets = t; ending = 0 })) all_accepted

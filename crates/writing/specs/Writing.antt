-- What is written of a capture: the bytes of its header and of a record, and what each call says and leaves in the lent bytes, for any of them.
-- Assumes nothing: these are definitions.
use Rattle.std.specs.Prelude.{ℕ, ◌+◌, ◌/◌, ◌%◌, cond, List, [], ◌∷◌, ◌++◌, reverse, ltb, eqb, length, drop}
use Rattle.capture.specs.Pcap.{magic}
use Rattle.writing.specs.declared.Written.{Written}

-- a number of 32 bits as its four bytes, the least significant first
abbrev pub little_bytes : ℕ → List ℕ
little_bytes n = n % 256 ∷ n / 256 % 256 ∷ n / 65536 % 256 ∷ n / 16777216 % 256 ∷ []

-- ---- the file header

-- "bytes A1 B2 C3 D4 in reverse, version 2.4, two zero numbers, snapshot length 16,384, link type 101": 24 bytes. The two numbers of the version have two bytes each.
abbrev pub file_header : List ℕ
file_header = reverse magic ++ ((2 ∷ 0 ∷ 4 ∷ 0 ∷ []) ++ (little_bytes 0 ++ (little_bytes 0 ++ (little_bytes 16384 ++ little_bytes 101))))

-- ---- a record

-- "each record's four header numbers and bytes as read": seconds, parts of a second, captured length, original length, and the data
abbrev pub record_bytes : ℕ → ℕ → ℕ → List ℕ → List ℕ
record_bytes seconds fraction original row = little_bytes seconds ++ (little_bytes fraction ++ (little_bytes (length row) ++ (little_bytes original ++ row)))

-- ---- what a call says and leaves

-- an answer, and how many bytes were written: none with a refusal
abbrev pub written : ℕ → ℕ → Written
written answer n = record { answer = answer; bytes = cond (eqb answer 0) n 0 }

-- the lent bytes then: what was written, and behind it the bytes that stood there; "with nothing written", as they were
abbrev pub unless : ℕ → List ℕ → List ℕ → List ℕ
unless answer new out = cond (eqb answer 0) (new ++ drop (length new) out) out

-- BEGIN: "8 when the lent output is too short"
abbrev pub begin_answer : List ℕ → ℕ
begin_answer out = cond (ltb (length out) 24) 8 0

abbrev pub begin_says : List ℕ → Written
begin_says out = written (begin_answer out) 24

abbrev pub begin_leaves : List ℕ → List ℕ
begin_leaves out = unless (begin_answer out) file_header out

-- ADD: "12 for a record above 16,384 bytes, then 8 when the lent output is too short"
abbrev pub add_answer : List ℕ → List ℕ → ℕ
add_answer out row = cond (ltb 16384 (length row)) 12 (cond (ltb (length out) (16 + length row)) 8 0)

abbrev pub add_says : List ℕ → List ℕ → Written
add_says out row = written (add_answer out row) (16 + length row)

abbrev pub add_leaves : List ℕ → ℕ → ℕ → ℕ → List ℕ → List ℕ
add_leaves out seconds fraction original row = unless (add_answer out row) (record_bytes seconds fraction original row) out
